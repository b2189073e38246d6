-- Cells, steps, values, backed bounds and sheets in games in which each pair of moves has one draw.
use Rattle.std.proofs.Common.{◌≡◌, ◌↔◌, ℕ, zero, suc, ◌-◌, ◌<◌, ◌≤◌, ℤ, pos, ◌+ℤ◌, ◌-ℤ◌, ◌*ℤ◌, Option, Some, List, [], ◌∷◌, get_or, ⊎_elim, inl, inr, refl, sym, ap, subst, ◌∙◌, arith}
use Rattle.std.specs.Prelude.{IsTrue, IsSomeAnd}
use Rattle.std.proofs.lemmas.Bool.{cases_eq}
use Rattle.std.proofs.lemmas.List.Elements.{All-weaker}
use Rattle.sums.specs.Sums.{sum_below}
use Rattle.sums.proofs.IntegerLemmas.{times_add}
use Rattle.sums.proofs.SumLemmas.{sum_same}
use Rattle.sim_game.specs.declared.Side.{Side}
use Rattle.sim_game.specs.Model.{GameModel, Turn, IsGame, Reachable, after_turn, after_history, bound_scale, whole_chance}
use Rattle.sim_game.specs.Sides.{other_side, IsNoTighter, IsTighter, better, own_move, turn_of, draws_of, chance_of, child_of, turn_reward, over_turns, after_reward}
use Rattle.sim_game.proofs.SideLemmas.{looser_refl, looser_times, looser_cancel, looser_right, looser_both, better_is, better_other, tighter_or, tighter_is}
use Rattle.plan_book.specs.Backed.{IsBacked, by_range, by_end, by_step}
use Rattle.plan_book.specs.Books.{best_row, IsBestSheet}
use Rattle.plan_book.specs.ChanceFree.{HasPlainBounds}
use Rattle.plan_book.specs.declared.Entry.{Entry}
use Rattle.plan_book.specs.declared.SheetRow.{SheetRow}
use Rattle.plan_book.specs.PlainBounds as plain
use Rattle.plan_book.specs.PlainBounds.{plain_value_within, IsPlainStep, IsPlainBacked, IsPlainReached, IsPlainRow, IsPlainBestSheet}
use Rattle.plan_book.specs.PlainGames.{next_of, reward_of}
use Rattle.plan_book.specs.Serial.{best_upto, serial_within}
use Rattle.plan_book.specs.Sheets.{row_at, IsKeptHistory, IsReached, IsLawfulRow}
use Rattle.plan_book.specs.Steps.{IsStep, rounded, cell, worth}
use Rattle.plan_book.proofs.BestLemmas.{reached_root, reached_turn}
use Rattle.plan_book.proofs.ExpectedLemmas.{is_same, is_other}
use Rattle.plan_book.proofs.PlainStateLemmas.{sum_one, one_draw, whole_draw, first_draw, next_turn, next_reachable}
use Rattle.plan_book.proofs.SheetLemmas.{reached_reachable}
use Rattle.plan_book.proofs.StepLemmas.{looser_rounded, rounded_tightest}
use Rattle.plan_book.proofs.WalkLemmas.{turn_parts, reply_move, own_move_is}

-- ---- numbers
-- a product by the whole of the chances is divided without a rounding
rounded_back : (side : Side) (x : ℤ) → rounded side (pos whole_chance *ℤ x) ≡ x
rounded_back side x =
    looser_both side _ _
    (looser_cancel side whole_chance _ _ (omega arith) (looser_rounded side (pos whole_chance *ℤ x)))
    (rounded_tightest side (pos whole_chance *ℤ x) x (looser_refl side (pos whole_chance *ℤ x)))

better_times : (side : Side) (k : ℕ) (x y : ℤ) → better side (pos k *ℤ x) (pos k *ℤ y) ≡ pos k *ℤ better side x y
better_times side k x y = ⊎_elim
    (λ (h : IsTighter side x y). let less = tighter_is side x y h in better_is side _ _ (looser_times side k y x less) ∙ ap (λ (z : ℤ). pos k *ℤ z) (sym (better_is side x y less)))
    (λ (h : IsNoTighter side x y). better_other side _ _ (looser_times side k x y h) ∙ ap (λ (z : ℤ). pos k *ℤ z) (sym (better_other side x y h)))
    (tighter_or side x y)

best_times : (side : Side) (last k : ℕ) (f g : ℕ → ℤ) → ((i : ℕ) → i ≤ last → f i ≡ pos k *ℤ g i) → best_upto side last f ≡ pos k *ℤ best_upto side last g
best_times side zero k f g h = h 0 (omega arith)
best_times side (suc last) k f g h =
    ap (λ (x : ℤ). better side x (f (suc last))) (best_times side last k f g (λ i p. h i (omega arith)))
    ∙ ap (λ (x : ℤ). better side (pos k *ℤ best_upto side last g) x) (h (suc last) (omega arith))
    ∙ better_times side k (best_upto side last g) (g (suc last))

module _ {S : Type 0} (m : GameModel S) (game : IsGame m) (free : IsTrue m.chance_free) (side : Side) where
  -- ---- steps
  cell_is : (s : S) (numbers : ℕ → ℕ → ℕ → ℤ) (own reply : ℕ) → Reachable m s → own < m.moves side s → reply < m.moves (other_side side) s → cell m side s numbers own reply ≡ numbers own reply 0
  cell_is s numbers own reply r p q =
      ap (rounded side)
      (sum_one (draws_of m side s own reply) (λ d. pos (chance_of m side s own reply d) *ℤ numbers own reply d) (one_draw m game free side s own reply r p q)
      ∙ ap (λ (c : ℕ). pos c *ℤ numbers own reply 0) (whole_draw m game free side s own reply r p q))
      ∙ rounded_back side (numbers own reply 0)

  worth_is : (s : S) (weights : List ℕ) (numbers : ℕ → ℕ → ℕ → ℤ) (reply : ℕ) → Reachable m s → reply < m.moves (other_side side) s
      → worth m side s weights numbers reply ≡ sum_below (m.moves side s) (λ own. pos (get_or weights own 0) *ℤ numbers own reply 0)
  worth_is s weights numbers reply r q = sum_same (m.moves side s) _ _ (λ own p. ap (λ (x : ℤ). pos (get_or weights own 0) *ℤ x) (cell_is s numbers own reply r p q))

  step_is : (s : S) (total : ℕ) (weights : List ℕ) (numbers : ℕ → ℕ → ℕ → ℤ) (bound : ℤ) → Reachable m s
      → IsStep m side s total weights numbers bound ↔ IsPlainStep m side s total weights (λ own reply. numbers own reply 0) bound
  step_is s total weights numbers bound r = (
    λ h. record {
      goes_on = h.goes_on;
      one_each = h.one_each;
      sums = h.sums;
      some = h.some;
      proves = λ reply q. looser_right side _ _ _ (worth_is s weights numbers reply r q) (h.proves reply q);
    },
    λ h. record {
      goes_on = h.goes_on;
      one_each = h.one_each;
      sums = h.sums;
      some = h.some;
      proves = λ reply q. looser_right side _ _ _ (sym (worth_is s weights numbers reply r q)) (h.proves reply q);
    },
  )

  -- ---- values
  value_within : (turns : ℕ) (s : S) → Reachable m s → serial_within m side turns s ≡ pos bound_scale *ℤ plain_value_within m side turns s
  value_within zero s r = refl
  value_within (suc turns) s r = elim (cases_eq (m.rank s) 0) [
    | inl stop ↦ rw (is_same (m.rank s) 0 stop) refl
    | inr on ↦ rw (is_other (m.rank s) 0 on)
        (let owns = game.other_moves side s r (omega arith) in
        let replies = game.other_moves (other_side side) s r (omega arith) in
        best_times side (m.moves side s - 1) bound_scale _ _ (λ own i. best_times (other_side side) (m.moves (other_side side) s - 1) bound_scale _ _ (λ reply j.
        let p : own < m.moves side s = omega (arith, owns) in
        let q : reply < m.moves (other_side side) s = omega (arith, replies) in
        cell_is s (over_turns m side s (λ t. serial_within m side turns t)) own reply r p q
        ∙ ap (λ (x : ℤ). turn_reward m side s own reply 0 +ℤ x) (value_within turns (next_of m side s own reply) (next_reachable m game free side s own reply r p q))
        ∙ sym (times_add bound_scale (reward_of m side s own reply) (plain_value_within m side turns (next_of m side s own reply))))))
  ]

  -- ---- backed bounds
  to_plain : (s : S) (bound : ℤ) → Reachable m s → IsBacked m side s bound → IsPlainBacked m side s bound
  to_plain s bound r (by_range s' bound' h) = plain.by_range s bound h
  to_plain s bound r (by_end s' bound' e h) = plain.by_end s bound e h
  to_plain s bound r (by_step s' bound' total weights numbers step children) =
      plain.by_step s bound total weights (λ own reply. numbers own reply 0) ((step_is s total weights numbers bound r).0 step) (λ own reply p q w.
      to_plain (next_of m side s own reply) (numbers own reply 0 -ℤ turn_reward m side s own reply 0) (next_reachable m game free side s own reply r p q)
      (children own reply 0 p q (omega (arith, one_draw m game free side s own reply r p q)) w))

  from_plain : (s : S) (bound : ℤ) → Reachable m s → IsPlainBacked m side s bound → IsBacked m side s bound
  from_plain s bound r (plain.by_range s' bound' h) = by_range s bound h
  from_plain s bound r (plain.by_end s' bound' e h) = by_end s bound e h
  from_plain s bound r (plain.by_step s' bound' total weights numbers step children) =
      by_step s bound total weights (λ own reply draw. numbers own reply) ((step_is s total weights (λ own reply draw. numbers own reply) bound r).1 step) (λ own reply draw p q u w.
      let first : draw ≡ 0 = omega (arith, u, one_draw m game free side s own reply r p q) in
      subst (λ (d : ℕ). after_reward m side s own reply d (IsBacked m side) (numbers own reply)) (sym first)
      (from_plain (next_of m side s own reply) (numbers own reply -ℤ turn_reward m side s own reply 0) (next_reachable m game free side s own reply r p q) (children own reply p q w)))

  -- ---- sheets
  module _ (rows : ℕ → Option SheetRow) where
    reached_along : (s : S) (h : List Turn) → IsReached m side rows s → IsPlainReached m side rows s → IsKeptHistory m side rows s h → IsPlainReached m side rows (after_history m s h)
    reached_along s [] r here kept = here
    reached_along s (t ∷ h) r here kept =
        let parts = turn_parts m side s t kept.0.turn in
        let first = first_draw m game free s t (reached_reachable m side rows s r) kept.0.turn in
        let there : next_of m side s (own_move side t) (reply_move side t) ≡ after_turn m s t = ap (λ (d : ℕ). child_of m side s (own_move side t) (reply_move side t) d) (sym first) ∙ sym parts.is in
        reached_along (after_turn m s t) h (reached_turn m side rows s t r kept.0)
        (subst (IsPlainReached m side rows) there (plain.by_moves s (own_move side t) (reply_move side t) here parts.own_below parts.reply_below kept.0.played)) kept.1

    reached_plain : (s : S) → IsReached m side rows s → IsPlainReached m side rows s
    reached_plain s r = subst (IsPlainReached m side rows) r.leads (reached_along m.root r.history (reached_root m side rows) plain.at_root r.kept)

    plain_reached : (s : S) → IsPlainReached m side rows s → IsReached m side rows s
    plain_reached s plain.at_root = reached_root m side rows
    plain_reached s (plain.by_moves s' own reply here p q played) =
        let before = plain_reached s' here in
        reached_turn m side rows s' (turn_of side own reply 0) before (record {
          turn = next_turn m game free side s' own reply (reached_reachable m side rows s' before) p q;
          played = subst (λ (x : ℕ). IsSomeAnd (rows (m.key s')) (λ r. 1 ≤ get_or r.weights x 0)) (sym (own_move_is side own reply 0)) played;
        })

  row_is : (total : ℕ) (rows : List SheetRow) (r : SheetRow) → IsLawfulRow m side total rows r ↔ IsPlainRow m side total rows r
  row_is total rows r = (
    λ h. record {
      state = h.state;
      is_key = h.is_key;
      reached = reached_plain (row_at rows) h.state h.reached;
      low = h.low;
      high = h.high;
      step = (step_is h.state total r.weights _ r.bound (reached_reachable m side (row_at rows) h.state h.reached)).0 h.step;
    },
    λ h.
        let reached = plain_reached (row_at rows) h.state h.reached in
        record {
          state = h.state;
          is_key = h.is_key;
          reached = reached;
          low = h.low;
          high = h.high;
          step = (step_is h.state total r.weights _ r.bound (reached_reachable m side (row_at rows) h.state reached)).1 h.step;
        },
  )

module _ {S : Type 0} (m : GameModel S) (game : IsGame m) (free : IsTrue m.chance_free) (side : Side) (entries : List Entry) (rows : List SheetRow) where
  abbrev AreOf : (S → Type 0) → SheetRow → Type 0
  AreOf Found r = (s : S) × Found s × (m.key s ≡ r.key) × (best_row side entries r.key ≡ Some r)

  best_is : IsBestSheet m side entries rows ↔ IsPlainBestSheet m side entries rows
  best_is = (
    λ h. record {
      rising = h.rising;
      kept = λ s r. h.kept s (plain_reached m game free side (best_row side entries) s r);
      only = All-weaker (AreOf (IsReached m side (best_row side entries))) (AreOf (IsPlainReached m side (best_row side entries)))
          (λ r here. (here.0, reached_plain m game free side (best_row side entries) here.0 here.1, here.2, here.3)) rows h.only;
    },
    λ h. record {
      rising = h.rising;
      kept = λ s r. h.kept s (reached_plain m game free side (best_row side entries) s r);
      only = All-weaker (AreOf (IsPlainReached m side (best_row side entries))) (AreOf (IsReached m side (best_row side entries)))
          (λ r here. (here.0, plain_reached m game free side (best_row side entries) here.0 here.1, here.2, here.3)) rows h.only;
    },
  )

pub plain_bounds : {S : Type 0} (m : GameModel S) → IsGame m → IsTrue m.chance_free → HasPlainBounds m
plain_bounds m game free = record {
  cells = cell_is m game free;
  steps = step_is m game free;
  values = λ side s r. value_within m game free side (m.rank s) s r;
  backed = λ side s bound r. (to_plain m game free side s bound r, from_plain m game free side s bound r);
  sheets = λ sheet. (
    λ h. record { rising = h.rising; rows = All-weaker _ _ (λ r. (row_is m game free sheet.side sheet.total sheet.rows r).0) sheet.rows h.rows },
    λ h. record { rising = h.rising; rows = All-weaker _ _ (λ r. (row_is m game free sheet.side sheet.total sheet.rows r).1) sheet.rows h.rows },
  );
  best = best_is m game free;
}
