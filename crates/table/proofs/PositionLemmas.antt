-- Lists that break no rule make a table.
use Rattle.std.proofs.Common.{◌≡◌, ℕ, ◌+◌, ◌<◌, ◌≤◌, ◌^◌, ℤ, pos, neg_ℤ, ◌≤ℤ◌, ◌<ℤ◌, Bool, true, false, refl, not, ◌||◌, ◌&&◌, eqb, leb, length, None, arith, zero, suc, cond, Some, Option, ap, sym, ◌∙◌, inl, inr}
use Rattle.std.proofs.lemmas.Bool.{and_from, and_parts, cases_Bool, cases_lt, cond-false, cond-true, eq-eqb, eqb-true, le-leb, leb-true, ne_eqb}
use Rattle.std.proofs.lemmas.Int.{ints}
use Rattle.std.specs.Option.{option_or}
use Rattle.std.specs.Prelude.{int_le}
use Rattle.sums.specs.Sums.{count_below}
use Rattle.sums.specs.declared.TheConstants.{MOST_MOVES}
use Rattle.sim_game.specs.declared.TheConstants.{MOST_TURNS}
use Rattle.sim_game.specs.declared.Limits.{Limits}
use Rattle.sim_game.specs.declared.Limits.TheVariants.{Narrow, Wide}
use Rattle.sim_game.specs.declared.Side.{Side}
use Rattle.sim_game.specs.declared.Side.TheVariants.{One, Two}
use Rattle.sim_game.specs.Model.{whole_chance}
use Rattle.table.specs.declared.rules.CellRule.TheVariants.{Draws, Weights, Order}
use Rattle.table.specs.declared.rules.Rule.TheVariants.{Payoff, Rows, Cells, Each, Turns}
use Rattle.table.specs.declared.TableError.TheVariants as errors
use Rattle.table.specs.Below.{all_below, first_below}
use Rattle.table.specs.laws.Below.{all_at, greatest_at, none_at, none_below, or_none}
use Rattle.table.proofs.FitLemmas.{fits_from}
use Rattle.table.specs.declared.TableError.{TableError}
use Rattle.table.specs.Faults.{count_fault, do_fit, first_fault, lists_fault, are_moves, fault_at, is_payoff, is_rank, is_total, is_weight, most_table_moves, most_table_turns, rule_fault, shape_fault, total_fault, total_fault_at}
use Rattle.table.specs.Lists.{Lists, cells_of, draws_at, table_moves, place_at, table_rank, table_state, state_count, table_value, table_weight, cell_rank, has_rewards, next_rank, table_width}
use Rattle.table.specs.laws.Game.{moves_in_width, width_at_most}
use Rattle.table.specs.Position.{AreFitting, AreSmallTotals, IsTableCell, IsTable}
use Rattle.table.specs.Totals.{state_total}
use Rattle.table.proofs.RuleLemmas.{keeps_all, kept, leads_behind, leads_there}

-- ---- payoffs and moves
payoff_range : (v : ℤ) → is_payoff v ≡ true → (neg_ℤ (pos 4000) ≤ℤ v) × (v ≤ℤ pos 4000)
payoff_range v h = (grind (arith, ints), grind (arith, ints))

at_end : (rank : ℕ) (test : Bool) → (not (eqb rank 0) || test) ≡ true → rank ≡ 0 → test ≡ true
at_end rank test h e = rw (eq-eqb rank 0 e) at h

at_inner : (rank : ℕ) (test : Bool) → (eqb rank 0 || test) ≡ true → 1 ≤ rank → test ≡ true
at_inner rank test h inner = rw (ne_eqb rank 0 (λ e. absurd (omega arith))) at h

-- ---- limits
most_moves_low : (limits : Limits) → 1 ≤ most_table_moves limits
most_moves_low Narrow = omega arith
most_moves_low Wide = omega arith

most_moves_high : (limits : Limits) → most_table_moves limits ≤ MOST_MOVES
most_moves_high Narrow = omega arith
most_moves_high Wide = omega arith

most_turns_high : (limits : Limits) → most_table_turns limits ≤ MOST_TURNS
most_turns_high Narrow = omega arith
most_turns_high Wide = omega arith

moves_range : (limits : Limits) (m : ℕ) → are_moves limits m ≡ true → (1 ≤ m) × (m ≤ most_table_moves limits)
moves_range limits m h = let both = and_parts (leb 1 m) (leb m (most_table_moves limits)) h in (leb-true 1 m both.0, leb-true m (most_table_moves limits) both.1)

pub rank_no_higher : (l : Lists) (s k d : ℕ) → k < cells_of l s → d < draws_at l (place_at l s k) → table_rank l (table_state l (place_at l s k) d) ≤ next_rank l s
rank_no_higher l s k d below draw =
    let place = place_at l s k in
    omega (arith, greatest_at (draws_at l place) (λ d. table_rank l (table_state l place d)) d draw, greatest_at (cells_of l s) (λ k. cell_rank l (place_at l s k)) k below)

module _ (limits : Limits) (l : Lists) where
  payoffs : rule_fault Payoff l ≡ None → (s : ℕ) → s < state_count l → table_rank l s ≡ 0 → (neg_ℤ (pos 4000) ≤ℤ table_value l s) × (table_value l s ≤ℤ pos 4000)
  payoffs none s here e =
      let fine = kept (not (eqb (table_rank l s) 0) || is_payoff (table_value l s)) (errors.PayoffRange s) (none_at (state_count l) (fault_at Payoff l) s none here) in
      payoff_range (table_value l s) (at_end (table_rank l s) (is_payoff (table_value l s)) fine e)

  moves_from : rule_fault (Rows limits) l ≡ None → rule_fault (Cells limits) l ≡ None → (side : Side) (s : ℕ) → s < state_count l → 1 ≤ table_rank l s
      → (1 ≤ table_moves l side s) × (table_moves l side s ≤ most_table_moves limits)
  moves_from rows cells One s here inner =
      let fine = kept (eqb (table_rank l s) 0 || are_moves limits (table_moves l One s)) (errors.RowsRange s) (none_at (state_count l) (fault_at (Rows limits) l) s rows here) in
      moves_range limits (table_moves l One s) (at_inner (table_rank l s) (are_moves limits (table_moves l One s)) fine inner)
  moves_from rows cells Two s here inner =
      let fine = kept (eqb (table_rank l s) 0 || are_moves limits (table_moves l Two s)) (errors.CellsRange s) (none_at (state_count l) (fault_at (Cells limits) l) s cells here) in
      moves_range limits (table_moves l Two s) (at_inner (table_rank l s) (are_moves limits (table_moves l Two s)) fine inner)

  -- ---- ranks
  ranks : rule_fault (Turns limits) l ≡ None → (s : ℕ) → s < state_count l → (table_rank l s ≤ most_table_turns limits) × (1 ≤ table_rank l s → table_rank l s ≡ next_rank l s + 1)
  ranks none s here =
      let fine = kept (is_rank limits l s) (errors.Turns s) (none_at (state_count l) (fault_at (Turns limits) l) s none here) in
      let both = and_parts (leb (table_rank l s) (most_table_turns limits)) (eqb (table_rank l s) 0 || eqb (table_rank l s) (next_rank l s + 1)) fine in
      let few = leb-true (table_rank l s) (most_table_turns limits) both.0 in
      (few, λ inner. eqb-true (table_rank l s) (next_rank l s + 1) (at_inner (table_rank l s) (eqb (table_rank l s) (next_rank l s + 1)) both.1 inner))

  -- ---- cells
  module _ (draws : rule_fault (Each Draws) l ≡ None) (weights : rule_fault (Each Weights) l ≡ None) (order : rule_fault (Each Order) l ≡ None) (turns : rule_fault (Turns limits) l ≡ None) where
    cell_from : (s k : ℕ) → s < state_count l → 1 ≤ table_rank l s → k < cells_of l s → IsTableCell l s (place_at l s k)
    cell_from s k here inner below =
        let place = place_at l s k in
        let few = and_parts (leb 1 (draws_at l place)) (leb (draws_at l place) 13) (keeps_all Draws l s k draws here below) in
        let sum = and_parts (all_below (draws_at l place) (is_weight l place)) (eqb (count_below (draws_at l place) (table_weight l place)) whole_chance)
        (keeps_all Weights l s k weights here below) in
        let on = keeps_all Order l s k order here below in
        record {
          draws_low = leb-true 1 (draws_at l place) few.0;
          draws_high = leb-true (draws_at l place) 13 few.1;
          weight_low = λ d draw. leb-true 1 (table_weight l place d) (all_at (draws_at l place) (is_weight l place) d sum.0 draw);
          weight_sum = eqb-true (count_below (draws_at l place) (table_weight l place)) whole_chance sum.1;
          behind = λ d draw. leads_behind l s place d on draw;
          there = λ d draw. leads_there l s place d on draw;
          falls = λ d draw. omega (arith, rank_no_higher l s k d below draw, (ranks turns s here).1 inner);
        }

    pub table_from : AreFitting l → 1 ≤ state_count l → state_count l < 2 ^ 31 → length l.draws < 2 ^ 31
        → rule_fault Payoff l ≡ None → rule_fault (Rows limits) l ≡ None → rule_fault (Cells limits) l ≡ None → IsTable l
    table_from fits some few few_draws payoff rows cells = record {
      some = some;
      few = few;
      few_draws = few_draws;
      fits = fits;
      payoff_low = λ s here e. (payoffs payoff s here e).0;
      payoff_high = λ s here e. (payoffs payoff s here e).1;
      moves_low = λ side s here inner. (moves_from rows cells side s here inner).0;
      moves_high = λ side s here inner. omega (arith, (moves_from rows cells side s here inner).1, most_moves_high limits);
      cells = cell_from;
      rank_high = λ s here. omega (arith, (ranks turns s here).0, most_turns_high limits);
      longest = λ s here inner. (ranks turns s here).1 inner;
    }

some_states : (n : ℕ) (fault : TableError) → cond (eqb n 0) (Some fault) None ≡ None → 1 ≤ n
some_states zero fault h = absurd (cc)
some_states (suc n) fault h = omega arith

-- each rule but the last is kept
record AreKept (limits : Limits) (l : Lists) : Type 0 where
  fits : lists_fault l ≡ None
  some : count_fault l ≡ None
  payoffs : rule_fault Payoff l ≡ None
  rows : rule_fault (Rows limits) l ≡ None
  cells : rule_fault (Cells limits) l ≡ None
  draws : rule_fault (Each Draws) l ≡ None
  weights : rule_fault (Each Weights) l ≡ None
  order : rule_fault (Each Order) l ≡ None
  turns : rule_fault (Turns limits) l ≡ None

all_kept : (limits : Limits) (l : Lists) → shape_fault limits l ≡ None → AreKept limits l
all_kept limits l none =
    let fits = or_none (lists_fault l) _ none in
    let some = or_none (count_fault l) _ fits.1 in
    let payoffs = or_none (rule_fault Payoff l) _ some.1 in
    let rows = or_none (rule_fault (Rows limits) l) _ payoffs.1 in
    let columns = or_none (rule_fault (Cells limits) l) _ rows.1 in
    let draws = or_none (rule_fault (Each Draws) l) _ columns.1 in
    let weights = or_none (rule_fault (Each Weights) l) _ draws.1 in
    let order = or_none (rule_fault (Each Order) l) _ weights.1 in
    let turns = or_none (rule_fault (Turns limits) l) _ order.1 in
    record { fits = fits.0; some = some.0; payoffs = payoffs.0; rows = rows.0; cells = columns.0; draws = draws.0; weights = weights.0; order = order.0; turns = turns.0 }

pub table_of : (limits : Limits) (l : Lists) → shape_fault limits l ≡ None → state_count l < 2 ^ 31 → length l.draws < 2 ^ 31 → IsTable l
table_of limits l none few few_draws =
    let rules = all_kept limits l none in
    table_from limits l rules.draws rules.weights rules.order rules.turns
    (fits_from l (kept (do_fit l) errors.Lists rules.fits)) (some_states (state_count l) errors.NoStates rules.some) few few_draws rules.payoffs rules.rows rules.cells

-- ---- from some limits to others
no_fault : {T : Type 0} (first rest : Option T) → first ≡ None → rest ≡ None → option_or first rest ≡ None
no_fault None rest e h = h
no_fault (Some x) rest e h = absurd (cc)

-- a rule that is kept wherever another is
kept_too : {T : Type 0} (n : ℕ) (test other : ℕ → Bool) (error : ℕ → T) → ((s : ℕ) → s < n → test s ≡ true → other s ≡ true)
    → first_below n (λ s. cond (test s) None (Some (error s))) ≡ None → first_below n (λ s. cond (other s) None (Some (error s))) ≡ None
kept_too n test other error h none = none_below n (λ s. cond (other s) None (Some (error s)))
    (λ s here. cond-true (other s) None (Some (error s)) (h s here (kept (test s) (error s) (none_at n (λ s. cond (test s) None (Some (error s))) s none here))))

or_else : (end test other : Bool) → (test ≡ true → other ≡ true) → (end || test) ≡ true → (end || other) ≡ true
or_else true test other h e = refl
or_else false test other h e = h e

module _ (limits : Limits) (l : Lists) (rules : AreKept limits l) where
  fitting : AreFitting l
  fitting = fits_from l (kept (do_fit l) errors.Lists rules.fits)

  moves_at_most : (side : Side) (s : ℕ) → s < state_count l → table_moves l side s ≤ most_table_moves limits
  moves_at_most side s here = elim (cases_lt 0 (table_rank l s)) [
    | inl more ↦ (moves_from limits l rules.rows rules.cells side s here (omega arith)).1
    | inr end ↦ omega (arith, fitting.ends side s here (omega arith))
  ]

  turns_at_most : (s : ℕ) → s < state_count l → table_rank l s ≤ most_table_turns limits
  turns_at_most s here = (ranks limits l rules.turns s here).0

  width_within : table_width l ≤ most_table_moves limits
  width_within = width_at_most l (most_table_moves limits) (most_moves_low limits) fitting.moves_count moves_at_most

  module _ (other : Limits) (few : table_width l ≤ most_table_moves other) (short : (s : ℕ) → s < state_count l → table_rank l s ≤ most_table_turns other) where
    moves_too : (side : Side) (s : ℕ) → s < state_count l → are_moves limits (table_moves l side s) ≡ true → are_moves other (table_moves l side s) ≡ true
    moves_too side s here h =
        and_from _ _ (and_parts (leb 1 (table_moves l side s)) _ h).0
        (le-leb (table_moves l side s) (most_table_moves other) (omega (arith, moves_in_width l fitting.moves_count side s here, few)))

    rank_too : (s : ℕ) → s < state_count l → is_rank limits l s ≡ true → is_rank other l s ≡ true
    rank_too s here h = and_from _ _ (le-leb (table_rank l s) (most_table_turns other) (short s here)) (and_parts (leb (table_rank l s) (most_table_turns limits)) _ h).1

    shape_too : shape_fault other l ≡ None
    shape_too =
        let end : ℕ → Bool = λ s. eqb (table_rank l s) 0 in
        let rows = kept_too (state_count l) (λ s. end s || are_moves limits (table_moves l One s)) (λ s. end s || are_moves other (table_moves l One s)) errors.RowsRange
        (λ s here. or_else (end s) _ _ (moves_too One s here)) rules.rows in
        let cells = kept_too (state_count l) (λ s. end s || are_moves limits (table_moves l Two s)) (λ s. end s || are_moves other (table_moves l Two s)) errors.CellsRange
        (λ s here. or_else (end s) _ _ (moves_too Two s here)) rules.cells in
        let turns = kept_too (state_count l) (is_rank limits l) (is_rank other l) errors.Turns rank_too rules.turns in
        no_fault _ _ rules.fits (no_fault _ _ rules.some (no_fault _ _ rules.payoffs (no_fault _ _ rows (no_fault _ _ cells
        (no_fault _ _ rules.draws (no_fault _ _ rules.weights (no_fault _ _ rules.order (no_fault _ _ turns refl))))))))

pub shape_wider : (limits : Limits) (l : Lists) → shape_fault limits l ≡ None → shape_fault Wide l ≡ None
shape_wider limits l none =
    let rules = all_kept limits l none in
    shape_too limits l rules Wide (omega (arith, width_within limits l rules, most_moves_high limits)) (λ s here. omega (arith, turns_at_most limits l rules s here, most_turns_high limits))

module _ (limits : Limits) (l : Lists) (none : first_fault limits l ≡ None) where
  both : (shape_fault limits l ≡ None) × (total_fault l ≡ None)
  both = or_none (shape_fault limits l) (total_fault l) none

  pub fault_wider : first_fault Wide l ≡ None
  fault_wider = no_fault (shape_fault Wide l) (total_fault l) (shape_wider limits l both.0) both.1

  pub width_kept : table_width l ≤ most_table_moves limits
  width_kept = width_within limits l (all_kept limits l both.0)

  pub turns_kept : (s : ℕ) → s < state_count l → table_rank l s ≤ most_table_turns limits
  turns_kept = turns_at_most limits l (all_kept limits l both.0)

  pub fault_others : (other : Limits) → table_width l ≤ most_table_moves other → ((s : ℕ) → s < state_count l → table_rank l s ≤ most_table_turns other) → first_fault other l ≡ None
  fault_others other few short = no_fault (shape_fault other l) (total_fault l) (shape_too limits l (all_kept limits l both.0) other few short) both.1

-- ---- sums
total_range : (x y : ℤ) → (int_le (neg_ℤ (pos 4000)) x && int_le y (pos 4000)) ≡ true → (neg_ℤ (pos 4000) ≤ℤ x) × (y ≤ℤ pos 4000)
total_range x y h = (grind (arith, ints), grind (arith, ints))

not_total : (l : Lists) (s : ℕ) → (is_total l s ≡ true → ⊥) → total_fault_at l s ≡ Some (errors.Total s)
not_total l s h = elim (cases_Bool (is_total l s)) [
  | inl fine ↦ absurd (h fine)
  | inr broken ↦ cond-false (is_total l s) None (Some (errors.Total s)) broken
]

pub total_low : (l : Lists) (s : ℕ) → state_total l One s <ℤ neg_ℤ (pos 4000) → total_fault_at l s ≡ Some (errors.Total s)
total_low l s h = not_total l s (λ fine. absurd (omega (arith, ints, h, (total_range (state_total l One s) (state_total l Two s) fine).0)))

pub total_high : (l : Lists) (s : ℕ) → pos 4000 <ℤ state_total l Two s → total_fault_at l s ≡ Some (errors.Total s)
total_high l s h = not_total l s (λ fine. absurd (omega (arith, ints, h, (total_range (state_total l One s) (state_total l Two s) fine).1)))

pub small_from : (l : Lists) → (has_rewards l ≡ true → first_below (state_count l) (total_fault_at l) ≡ None) → AreSmallTotals l
small_from l h paid s here =
    total_range (state_total l One s) (state_total l Two s) (kept (is_total l s) (errors.Total s) (none_at (state_count l) (total_fault_at l) s (h paid) here))

pub small_of : (l : Lists) → total_fault l ≡ None → AreSmallTotals l
small_of l none = small_from l (λ paid. sym (cond-true (has_rewards l) (first_below (state_count l) (total_fault_at l)) None paid) ∙ none)

-- the last rule, where no other is broken
pub fault_last : (limits : Limits) (l other : Lists) (x : Option TableError) → other ≡ l → shape_fault limits l ≡ None → total_fault other ≡ x → first_fault limits l ≡ x
fault_last limits l other x same none e = ap (λ (first : Option TableError). option_or first (total_fault l)) none ∙ ap total_fault (sym same) ∙ e
