-- Bounds of a sheet are small, and so are their means.
use Rattle.std.proofs.Common.{◌≡◌, ℕ, ◌+◌, ◌<◌, ◌≤◌, ℤ, pos, negsuc, ◌+ℤ◌, ◌*ℤ◌, Option, None, Some, inl, inr, refl, ap, ◌∙◌, arith}
use Rattle.std.specs.Int.RustNames.{unsigned_abs}
use Rattle.std.proofs.lemmas.Bool.{cases_eq}
use Rattle.std.proofs.lemmas.Int.{ints}
use Rattle.sums.specs.Sums.{sum_below, count_below}
use Rattle.sums.proofs.SumLemmas.{sum_weights, sum_more}
use Rattle.sums.proofs.CountLemmas.{count_term}
use Rattle.sim_game.specs.declared.Side.{Side}
use Rattle.sim_game.specs.declared.Side.TheVariants.{One, Two}
use Rattle.sim_game.specs.Model.{GameModel, IsGame, Reachable, whole_chance}
use Rattle.sim_game.specs.Sides.{other_side, IsNoTighter, quotient, state_bound, end_bound, turn_of, draws_of, chance_of, child_of, turn_reward, over_turns}
use Rattle.sim_game.proofs.ReachLemmas.{reachable_turn}
use Rattle.sim_game.proofs.RewardLemmas.{small_between, reward_small}
use Rattle.sim_game.proofs.SideLemmas.{looser_trans, looser_times, looser_cancel, looser_sum, looser_left, looser_right, side_turn, opening_state, end_range, state_range}
use Rattle.plan_book.specs.declared.Sheet.{Sheet}
use Rattle.plan_book.specs.declared.SheetRow.{SheetRow}
use Rattle.plan_book.specs.Sheets.{row_at, bound_or, bound_at}
use Rattle.plan_book.specs.Steps.{rounded}
use Rattle.plan_book.proofs.ExpectedLemmas.{is_same, is_other}
use Rattle.plan_book.proofs.GuaranteeLemmas.{chances}
use Rattle.plan_book.proofs.SheetLemmas.{found}
use Rattle.plan_book.proofs.StepLemmas.{looser_rounded, rounded_tightest}
use Rattle.certificate.specs.Ranges.{IsRowInRange}
use Rattle.checker.specs.Faults.{IsReadable, cell_of}

abbrev pub IsSmall : ℤ → Type 0
IsSmall x = unsigned_abs x ≤ 4000000000

-- ---- the bound at a state
module _ {S : Type 0} (m : GameModel S) (game : IsGame m) where
  state_small : (side : Side) (s : S) → Reachable m s → IsSmall (state_bound m side s)
  state_small One s r = small_between m game (state_bound m One s) (opening_state m One s game r) (looser_trans Two _ _ _ (opening_state m Two s game r) (state_range m Two s game r))
  state_small Two s r = small_between m game (state_bound m Two s) (looser_trans One _ _ _ (opening_state m One s game r) (state_range m One s game r)) (opening_state m Two s game r)

  end_small : (s : S) → Reachable m s → m.rank s ≡ 0 → IsSmall (end_bound m s)
  end_small s r e =
      small_between m game (end_bound m s)
      (looser_trans One _ _ _ (opening_state m One s game r) (end_range m One s game r e))
      (looser_trans Two _ _ _ (opening_state m Two s game r) (end_range m Two s game r e))

  or_small : (side : Side) (s : S) (o : Option SheetRow) → Reachable m s → ((row : SheetRow) → o ≡ Some row → IsSmall row.bound) → IsSmall (bound_or m side s o)
  or_small side s (Some row) r h = h row refl
  or_small side s None r h = elim (cases_eq (m.rank s) 0) [
    | inl stop ↦ rw (is_same (m.rank s) 0 stop) (end_small s r stop)
    | inr on ↦ rw (is_other (m.rank s) 0 on) (state_small side s r)
  ]

  pub bound_small : (sheet : Sheet) (s : S) → IsReadable sheet → Reachable m s → IsSmall (bound_at m sheet.side sheet.rows s)
  bound_small sheet s readable r = or_small sheet.side s (row_at sheet.rows (m.key s)) r (λ row e. (found IsRowInRange sheet.rows (m.key s) row readable.rows e).0.bound)

-- ---- the mean of numbers of turns
-- a reward, with a small number
abbrev pub IsPaid : ℤ → Type 0
IsPaid x = unsigned_abs x ≤ 12000000000

pub paid_small : (c x : ℤ) → unsigned_abs c ≤ 8000000000 → IsSmall x → IsPaid (c +ℤ x)
paid_small c x p q = omega (arith, ints)

abbrev extreme : Side → ℤ
extreme One = negsuc 11999999999
extreme Two = pos 12000000000

from_worst : (side : Side) (x : ℤ) → IsPaid x → IsNoTighter side (extreme side) x
from_worst One x h = omega (arith, ints)
from_worst Two x h = omega (arith, ints)

to_best : (side : Side) (x : ℤ) → IsPaid x → IsNoTighter side x (extreme (other_side side))
to_best One x h = omega (arith, ints)
to_best Two x h = omega (arith, ints)

between : (side : Side) (x : ℤ) → IsNoTighter side (extreme side) x → IsNoTighter side x (extreme (other_side side)) → IsPaid x
between One x p q = omega (arith, ints)
between Two x p q = omega (arith, ints)

mean_small : (side : Side) (n : ℕ) (w : ℕ → ℕ) (f : ℕ → ℤ) → count_below n w ≡ whole_chance → ((d : ℕ) → d < n → IsPaid (f d)) → IsPaid (rounded side (sum_below n (λ d. pos (w d) *ℤ f d)))
mean_small side n w f whole small =
    let same : (x : ℤ) → sum_below n (λ d. pos (w d) *ℤ x) ≡ pos whole_chance *ℤ x = λ x. sum_weights n w x ∙ ap (λ (k : ℕ). pos k *ℤ x) whole in
    let low : IsNoTighter side (pos whole_chance *ℤ extreme side) (sum_below n (λ d. pos (w d) *ℤ f d)) =
    looser_left side _ _ _ (same (extreme side))
    (looser_sum side n (λ d. pos (w d) *ℤ extreme side) (λ d. pos (w d) *ℤ f d) (λ d u. looser_times side (w d) _ _ (from_worst side (f d) (small d u)))) in
    let high : IsNoTighter side (sum_below n (λ d. pos (w d) *ℤ f d)) (pos whole_chance *ℤ extreme (other_side side)) =
    looser_right side _ _ _ (same (extreme (other_side side)))
    (looser_sum side n (λ d. pos (w d) *ℤ f d) (λ d. pos (w d) *ℤ extreme (other_side side)) (λ d u. looser_times side (w d) _ _ (to_best side (f d) (small d u)))) in
    between side _ (rounded_tightest side _ _ low) (looser_cancel side whole_chance _ _ (omega arith) (looser_trans side _ _ _ (looser_rounded side _) high))

-- ---- a cell, one draw at a time
module _ {S : Type 0} (m : GameModel S) (side : Side) (s : S) (own reply : ℕ) (r : Reachable m s) (at : own < m.moves side s) (against : reply < m.moves (other_side side) s) where
  pub child_reachable : (d : ℕ) → d < draws_of m side s own reply → Reachable m (child_of m side s own reply d)
  child_reachable d u = reachable_turn m s (turn_of side own reply d) r (side_turn m side s own reply d at against u)

  pub chance_light : IsGame m → (d : ℕ) → d < draws_of m side s own reply → chance_of m side s own reply d ≤ 1048576
  chance_light game d u = let whole = chances m game side s own reply r at against in
      let part = count_term (draws_of m side s own reply) (chance_of m side s own reply) d u in omega (arith, whole, part)

-- the number of a turn
pub turn_small : {S : Type 0} (m : GameModel S) → IsGame m → (sheet : Sheet) (s : S) (own reply : ℕ) → IsReadable sheet → Reachable m s
    → own < m.moves sheet.side s → reply < m.moves (other_side sheet.side) s → (d : ℕ) → d < draws_of m sheet.side s own reply
    → IsPaid (over_turns m sheet.side s (bound_at m sheet.side sheet.rows) own reply d)
turn_small m game sheet s own reply readable r at against d u =
    paid_small (turn_reward m sheet.side s own reply d) _ (reward_small m game sheet.side s own reply d r (side_turn m sheet.side s own reply d at against u))
    (bound_small m game sheet _ readable (child_reachable m sheet.side s own reply r at against d u))

pub cell_small : {S : Type 0} (m : GameModel S) → IsGame m → (sheet : Sheet) (s : S) (own reply : ℕ) → IsReadable sheet → Reachable m s
    → own < m.moves sheet.side s → reply < m.moves (other_side sheet.side) s
    → IsPaid (cell_of m sheet s own reply)
cell_small m game sheet s own reply readable r at against =
    mean_small sheet.side (draws_of m sheet.side s own reply) (chance_of m sheet.side s own reply)
    (over_turns m sheet.side s (bound_at m sheet.side sheet.rows) own reply) (chances m game sheet.side s own reply r at against)
    (λ d u. turn_small m game sheet s own reply readable r at against d u)

-- the part of a draw in the sum of a cell
abbrev pub part_of : {S : Type 0} → GameModel S → Sheet → S → ℕ → ℕ → ℕ → ℤ
part_of m sheet s own reply d = pos (chance_of m sheet.side s own reply d) *ℤ over_turns m sheet.side s (bound_at m sheet.side sheet.rows) own reply d

pub cell_is : {S : Type 0} (m : GameModel S) (sheet : Sheet) (s : S) (own reply count : ℕ) (total result : ℤ)
    → count ≡ draws_of m sheet.side s own reply → total ≡ sum_below count (part_of m sheet s own reply)
    → result ≡ quotient sheet.side whole_chance total → result ≡ cell_of m sheet s own reply
cell_is m sheet s own reply count total result all summed divided = rw (divided, summed, all) refl

-- a sum with one term more
pub one_more : (n : ℕ) (f : ℕ → ℤ) (s x y : ℤ) → s ≡ sum_below n f → x ≡ f n → y ≡ s +ℤ x → y ≡ sum_below (n + 1) f
one_more n f s x y h g e = rw (sum_more n f) (rw (← h) (rw (← g) e))
