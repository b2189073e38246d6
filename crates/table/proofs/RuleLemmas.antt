-- The rules of cells, draw by draw.
use Rattle.std.proofs.Common.{◌≡◌, ℕ, ℤ, ◌+◌, ◌/◌, ◌%◌, ◌<◌, ◌≤◌, Bool, true, false, cond, eqb, ltb, length, None, Some, refl, ap, sym, ◌∙◌, arith}
use Rattle.std.proofs.lemmas.Bool.{and_left, and_parts, and_right, cond-false, ltb-true, le-ltb, lt-leb, ne_eqb}
use Rattle.sums.specs.Sums.{count_below}
use Rattle.sim_game.specs.declared.Side.TheVariants.{One, Two}
use Rattle.sim_game.specs.Model.{whole_chance}
use Rattle.table.specs.declared.TableError.{TableError}
use Rattle.table.specs.declared.rules.CellRule.{CellRule}
use Rattle.table.specs.declared.rules.Rule.TheVariants.{Each}
use Rattle.table.specs.Below.{all_below}
use Rattle.table.specs.laws.Below.{all_at, none_at, not_all}
use Rattle.table.specs.Faults.{are_weights, cell_error, draw_leads_on, fault_at, fault_in, is_weight, keeps, leads_on, rule_fault}
use Rattle.table.specs.laws.Game.{count_up_to}
use Rattle.table.specs.Lists.{Lists, draw_state, draw_weight, table_cell, cells_of, draws_at, table_moves, place_at, table_rank, table_state, state_count, table_weight}
use Rattle.table.specs.Position.{AreFitting}

-- ---- draws of a cell whose number was read
pub told_state : (l : Lists) (place d state : ℕ) (number : ℤ) → table_cell l place ≡ number → state ≡ draw_state l.draws number d → state ≡ table_state l place d
told_state l place d state number e told = told ∙ ap (λ (n : ℤ). draw_state l.draws n d) (sym e)

pub told_weight : (l : Lists) (place d weight : ℕ) (number : ℤ) → table_cell l place ≡ number → weight ≡ draw_weight l.draws number d → weight ≡ table_weight l place d
told_weight l place d weight number e told = told ∙ ap (λ (n : ℤ). draw_weight l.draws n d) (sym e)

-- ---- weights
-- the first draws have lawful weights, and so much of the whole chance is left
pub record IsWeighed (l : Lists) (place d left : ℕ) : Type 0 where
  pub spent : left + count_below d (table_weight l place) ≡ whole_chance
  pub low : all_below d (is_weight l place) ≡ true

pub weight_is_none : (l : Lists) (place d : ℕ) → d < draws_at l place → table_weight l place d ≡ 0 → are_weights l place ≡ false
weight_is_none l place d below none =
    and_left (all_below (draws_at l place) (is_weight l place)) (eqb (count_below (draws_at l place) (table_weight l place)) whole_chance)
    (not_all (draws_at l place) (is_weight l place) d below (lt-leb 1 (table_weight l place d) (omega arith)))

pub weight_is_more : (l : Lists) (place d left : ℕ) → IsWeighed l place d left → d < draws_at l place → left < table_weight l place d → are_weights l place ≡ false
weight_is_more l place d left w below more =
    and_right (all_below (draws_at l place) (is_weight l place)) (eqb (count_below (draws_at l place) (table_weight l place)) whole_chance)
    (ne_eqb (count_below (draws_at l place) (table_weight l place)) whole_chance (λ e. absurd (omega (arith, w.spent, count_up_to (draws_at l place) d (table_weight l place) below))))

-- ---- order
pub not_behind : (l : Lists) (s place d : ℕ) → d < draws_at l place → table_state l place d ≤ s → leads_on l s place ≡ false
not_behind l s place d below h = not_all (draws_at l place) (draw_leads_on l s place) d below
    (and_left (ltb s (table_state l place d)) (ltb (table_state l place d) (state_count l)) (le-ltb s (table_state l place d) h))

pub not_there : (l : Lists) (s place d : ℕ) → d < draws_at l place → state_count l ≤ table_state l place d → leads_on l s place ≡ false
not_there l s place d below h = not_all (draws_at l place) (draw_leads_on l s place) d below
    (and_right (ltb s (table_state l place d)) (ltb (table_state l place d) (state_count l)) (le-ltb (table_state l place d) (state_count l) h))

-- ---- cells of a state
pub kept : {T : Type 0} (b : Bool) (x : T) → cond b None (Some x) ≡ None → b ≡ true
kept true x h = refl
kept false x h = absurd (cc)

-- no cell of the state breaks the rule
pub keeps_all : (rule : CellRule) (l : Lists) (s k : ℕ) → rule_fault (Each rule) l ≡ None → s < state_count l → k < cells_of l s → keeps rule l s (place_at l s k) ≡ true
keeps_all rule l s k none here below =
    kept (keeps rule l s (place_at l s k)) (cell_error rule s (k / table_moves l Two s) (k % table_moves l Two s))
    (none_at (cells_of l s) (fault_in rule l s) k (none_at (state_count l) (fault_at (Each rule) l) s none here) below)

pub leads_behind : (l : Lists) (s place d : ℕ) → leads_on l s place ≡ true → d < draws_at l place → s < table_state l place d
leads_behind l s place d h below =
    ltb-true s (table_state l place d) (and_parts (ltb s (table_state l place d)) (ltb (table_state l place d) (state_count l)) (all_at (draws_at l place) (draw_leads_on l s place) d h below)).0

pub leads_there : (l : Lists) (s place d : ℕ) → leads_on l s place ≡ true → d < draws_at l place → table_state l place d < state_count l
leads_there l s place d h below =
    ltb-true (table_state l place d) (state_count l)
    (and_parts (ltb s (table_state l place d)) (ltb (table_state l place d) (state_count l)) (all_at (draws_at l place) (draw_leads_on l s place) d h below)).1

pub cells_few : (l : Lists) (s : ℕ) → AreFitting l → s < state_count l → cells_of l s ≤ length l.cells
cells_few l s fits here = omega (arith, fits.cells_count, count_up_to (state_count l) s (cells_of l) here)

pub no_cells : (l : Lists) (s : ℕ) → AreFitting l → s < state_count l → table_rank l s ≡ 0 → cells_of l s ≡ 0
no_cells l s fits here e = rw (fits.ends One s here e) (omega arith)

pub fault_here : (rule : CellRule) (l : Lists) (s k place columns : ℕ) (error : TableError) → place ≡ place_at l s k → keeps rule l s place ≡ false → columns ≡ table_moves l Two s
    → error ≡ cell_error rule s (k / columns) (k % columns) → fault_in rule l s k ≡ Some error
fault_here rule l s k place columns error p h q e =
    let broken : keeps rule l s (place_at l s k) ≡ false = ap (keeps rule l s) (sym p) ∙ h in
    let told : error ≡ cell_error rule s (k / table_moves l Two s) (k % table_moves l Two s) = e ∙ ap (λ (n : ℕ). cell_error rule s (k / n) (k % n)) q in
    cond-false (keeps rule l s (place_at l s k)) None (Some (cell_error rule s (k / table_moves l Two s) (k % table_moves l Two s))) broken ∙ ap Some (sym told)
