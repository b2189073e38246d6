-- States, trees and the resolution of games in which each pair of moves has one draw.
use Rattle.std.proofs.Common.{◌≡◌, ℕ, zero, suc, ◌+◌, ◌*◌, ◌<◌, Bool, cond, ℤ, refl, sym, ap, subst, ◌∙◌, arith, add-zero, zero-add}
use Rattle.std.specs.Prelude.{IsTrue}
use Rattle.std.proofs.Math.IntN.{+ℤ_idl}
use Rattle.sums.specs.Sums.{sum_below, count_below}
use Rattle.sums.proofs.CountLemmas.{count_same}
use Rattle.sim_game.specs.declared.Side.{Side}
use Rattle.sim_game.specs.declared.Side.TheVariants.{One, Two}
use Rattle.sim_game.specs.Model.{GameModel, Turn, IsTurn, IsGame, Reachable, whole_chance}
use Rattle.sim_game.specs.Sides.{other_side, turn_of, draws_of, chance_of}
use Rattle.sim_game.proofs.ReachLemmas.{reachable_root, reachable_turn, reachable_induction}
use Rattle.sim_game.proofs.SideLemmas.{side_turn}
use Rattle.plan_book.specs.ChanceFree.{HasPlainStates}
use Rattle.plan_book.specs.PlainGames.{IsLedTo, at_root, by_moves, next_state, next_of, plain_nodes}
use Rattle.plan_book.specs.Serial.{nodes_within}
use Rattle.plan_book.proofs.GuaranteeLemmas.{chances}

pub sum_one : (n : ℕ) (f : ℕ → ℤ) → n ≡ 1 → sum_below n f ≡ f 0
sum_one n f e = ap (λ (k : ℕ). sum_below k f) e ∙ +ℤ_idl (f 0)

count_one : (n : ℕ) (f : ℕ → ℕ) → n ≡ 1 → count_below n f ≡ f 0
count_one n f e = ap (λ (k : ℕ). count_below k f) e ∙ zero-add (f 0)

module _ {S : Type 0} (m : GameModel S) (game : IsGame m) (free : IsTrue m.chance_free) where
  -- ---- draws
  pub one_draw : (side : Side) (s : S) (own reply : ℕ) → Reachable m s → own < m.moves side s → reply < m.moves (other_side side) s → draws_of m side s own reply ≡ 1
  one_draw One s own reply r p q = game.one_draw s own reply free r p q
  one_draw Two s own reply r p q = game.one_draw s reply own free r q p

  pub whole_draw : (side : Side) (s : S) (own reply : ℕ) → Reachable m s → own < m.moves side s → reply < m.moves (other_side side) s → chance_of m side s own reply 0 ≡ whole_chance
  whole_draw side s own reply r p q = sym (count_one (draws_of m side s own reply) (chance_of m side s own reply) (one_draw side s own reply r p q)) ∙ chances m game side s own reply r p q

  pub first_draw : (s : S) (t : Turn) → Reachable m s → IsTurn m s t → t.draw ≡ 0
  first_draw s t r turn = omega (arith, turn.draw_below, game.one_draw s t.one t.two free r turn.one_below turn.two_below)

  pub next_turn : (side : Side) (s : S) (own reply : ℕ) → Reachable m s → own < m.moves side s → reply < m.moves (other_side side) s → IsTurn m s (turn_of side own reply 0)
  next_turn side s own reply r p q = side_turn m side s own reply 0 p q (omega (arith, one_draw side s own reply r p q))

  pub next_reachable : (side : Side) (s : S) (own reply : ℕ) → Reachable m s → own < m.moves side s → reply < m.moves (other_side side) s → Reachable m (next_of m side s own reply)
  next_reachable side s own reply r p q = reachable_turn m s (turn_of side own reply 0) r (next_turn side s own reply r p q)

  -- ---- states
  led : (s : S) → Reachable m s → IsLedTo m s
  led = reachable_induction m (IsLedTo m) at_root (λ s t r here turn.
      subst (λ (d : ℕ). IsLedTo m (m.drawn s t.one t.two d)) (sym (first_draw s t r turn)) (by_moves s t.one t.two here turn.one_below turn.two_below))

  led_reachable : (s : S) → IsLedTo m s → Reachable m s
  led_reachable s at_root = reachable_root m
  led_reachable s (by_moves s' a b here p q) = next_reachable One s' a b (led_reachable s' here) p q

  size_within : (turns : ℕ) (s : S) → Reachable m s → nodes_within m turns s ≡ plain_nodes m turns s
  size_within zero s r = refl
  size_within (suc turns) s r = ap (λ (n : ℕ). 1 + n) (count_same (m.moves One s) _ _ (λ a p. count_same (m.moves Two s) _ _ (λ b q.
      count_one (m.draws s a b) _ (one_draw One s a b r p q) ∙ size_within turns (next_state m s a b) (next_reachable One s a b r p q))))

  rounding : (gap : ℕ) → m.rank m.root * (gap + 1 + cond m.chance_free 0 1) ≡ m.rank m.root * (gap + 1)
  rounding gap = ap (λ (b : Bool). m.rank m.root * (gap + 1 + cond b 0 1)) free ∙ ap (λ (n : ℕ). m.rank m.root * n) (add-zero (gap + 1))

  pub plain_states : HasPlainStates m
  plain_states = record {
    reachable = λ s. (led s, led_reachable s);
    most = λ most. (
      λ h. record { few = λ count states each differ. h.few count states (λ i p. led_reachable (states i) (each i p)) differ },
      λ h. record { few = λ count states each differ. h.few count states (λ i p. led (states i) (each i p)) differ },
    );
    size = λ s r. size_within (m.rank s) s r;
    resolution = λ weight n. (
      λ h. record { gap = h.gap; is_gap = h.is_gap; sums = h.sums ∙ rounding h.gap },
      λ h. record { gap = h.gap; is_gap = h.is_gap; sums = h.sums ∙ sym (rounding h.gap) },
    );
  }
