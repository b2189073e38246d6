-- Whether the lists fit each other, state by state and cell by cell.
use Rattle.std.proofs.Common.{◌≡◌, ℕ, ◌+◌, ◌*◌, ◌%◌, ◌<◌, ◌≤◌, pos, negsuc, true, false, ◌&&◌, eqb, length, drop, refl, arith}
use Rattle.std.proofs.lemmas.Bool.{and_left, and_parts, and_right, eq-eqb, eqb-true, leb-true, lt-leb, ne_eqb}
use Rattle.std.proofs.lemmas.Bool.Decides.{Decides-int_eq}
use Rattle.std.specs.Ordering.{int_eq}
use Rattle.sums.specs.Sums.{count_below}
use Rattle.sim_game.specs.declared.Side.{Side}
use Rattle.sim_game.specs.declared.Side.TheVariants.{One, Two}
use Rattle.table.specs.Below.{all_below}
use Rattle.table.specs.laws.Below.{all_at, all_from, not_all}
use Rattle.table.specs.Faults.{are_rewards, cell_fits, do_draws_fit, do_fit, do_states_fit, have_counts, state_fits}
use Rattle.table.specs.laws.Game.{count_up_to}
use Rattle.table.specs.Lists.{Lists, table_cell, cells_of, draw_total, draws_end, end_at, first_draw, table_moves, table_rank, state_count, table_value}
use Rattle.table.specs.Position.{AreFitting}

-- ---- states
-- the first states fit, and have so many cells
pub record HaveFitted (l : Lists) (s cells : ℕ) : Type 0 where
  pub count : cells ≡ count_below s (cells_of l)
  pub small : cells ≤ length l.cells
  pub fit : all_below s (state_fits l) ≡ true

pub not_fitted : (l : Lists) (s : ℕ) → s < state_count l → state_fits l s ≡ false → do_states_fit l ≡ false
not_fitted l s here h =
    and_left (all_below (state_count l) (state_fits l)) (eqb (length l.cells) (count_below (state_count l) (cells_of l)))
    (not_all (state_count l) (state_fits l) s here h)

-- as soon as there are too many cells
pub too_many : (l : Lists) (s cells more : ℕ) → s < state_count l → HaveFitted l s cells → more ≡ cells_of l s → length l.cells < cells + more → do_states_fit l ≡ false
too_many l s cells more here h e past =
    and_right (all_below (state_count l) (state_fits l)) (eqb (length l.cells) (count_below (state_count l) (cells_of l)))
    (ne_eqb (length l.cells) (count_below (state_count l) (cells_of l)) (λ same. absurd (omega (arith, e, h.count, count_up_to (state_count l) s (cells_of l) here))))

-- ---- draws
-- the draws of the cells from the place on stand one behind the other, and the first of them is that
pub record HaveRisen (l : Lists) (place last : ℕ) : Type 0 where
  pub within : place ≤ length l.cells
  pub first : last ≡ draws_end (drop place l.cells) (draw_total l)
  pub rise : (p : ℕ) → place ≤ p → p < length l.cells → cell_fits l p ≡ true

pub not_risen : (l : Lists) (place last first : ℕ) → HaveRisen l (place + 1) last → table_cell l place ≡ negsuc first → last < first → do_draws_fit l ≡ false
not_risen l place last first h e past =
    and_left (all_below (length l.cells) (cell_fits l)) (eqb (draws_end l.cells (draw_total l)) 0)
    (not_all (length l.cells) (cell_fits l) place (omega (arith, h.within)) (rw (e, ← h.first) (lt-leb first last past)))

pub risen_all : (l : Lists) (last : ℕ) → HaveRisen l 0 last → do_draws_fit l ≡ eqb last 0
risen_all l last h = rw (all_from (length l.cells) (cell_fits l) (λ p below. h.rise p (omega arith) below), ← h.first) refl

-- ---- all lists
ends_fit : (l : Lists) (side : Side) (s : ℕ) → table_rank l s ≡ 0 → state_fits l s ≡ true → table_moves l side s ≡ 0
ends_fit l side s e h =
    let both = and_parts (eqb (table_moves l One s) 0) (eqb (table_moves l Two s) 0) (rw (eq-eqb (table_rank l s) 0 e) at h) in
    elim side as (λ side. table_moves l side s ≡ 0) [ One ↦ eqb-true (table_moves l One s) 0 both.0 | Two ↦ eqb-true (table_moves l Two s) 0 both.1 ]

places_fit : (l : Lists) (s : ℕ) → 1 ≤ table_rank l s → state_fits l s ≡ true → table_value l s ≡ pos (count_below s (cells_of l))
places_fit l s inner h =
    let test : int_eq (table_value l s) (pos (count_below s (cells_of l))) ≡ true = rw (ne_eqb (table_rank l s) 0 (λ e. absurd (omega arith))) at h in
    (Decides-int_eq (table_value l s) (pos (count_below s (cells_of l)))).0 test

pub counts_fit : (l : Lists) → have_counts l ≡ true → (length l.moves ≡ 2 * state_count l) × (length l.values ≡ state_count l) × (length l.draws ≡ 2 * draw_total l)
counts_fit l h =
    let whole = and_parts (eqb (length l.moves) (2 * state_count l) && eqb (length l.values) (state_count l) && eqb (length l.draws % 2) 0) (are_rewards l) h in
    let last = and_parts (eqb (length l.moves) (2 * state_count l) && eqb (length l.values) (state_count l)) (eqb (length l.draws % 2) 0) whole.0 in
    let first = and_parts (eqb (length l.moves) (2 * state_count l)) (eqb (length l.values) (state_count l)) last.0 in
    (eqb-true (length l.moves) (2 * state_count l) first.0, eqb-true (length l.values) (state_count l) first.1, omega (arith, eqb-true (length l.draws % 2) 0 last.1))

pub fits_from : (l : Lists) → do_fit l ≡ true → AreFitting l
fits_from l h =
    let last = and_parts (have_counts l && do_states_fit l) (do_draws_fit l) h in
    let first = and_parts (have_counts l) (do_states_fit l) last.0 in
    let counts = counts_fit l first.0 in
    let states = and_parts (all_below (state_count l) (state_fits l)) (eqb (length l.cells) (count_below (state_count l) (cells_of l))) first.1 in
    let draws = and_parts (all_below (length l.cells) (cell_fits l)) (eqb (draws_end l.cells (draw_total l)) 0) last.1 in
    record {
      moves_count = counts.0;
      values_count = counts.1;
      draws_count = counts.2;
      ends = λ side s here e. ends_fit l side s e (all_at (state_count l) (state_fits l) s states.0 here);
      places = λ s here inner. places_fit l s inner (all_at (state_count l) (state_fits l) s states.0 here);
      cells_count = eqb-true (length l.cells) (count_below (state_count l) (cells_of l)) states.1;
      draws_begin = eqb-true (draws_end l.cells (draw_total l)) 0 draws.1;
      draws_rise = λ place below. leb-true (first_draw (table_cell l place)) (end_at l place) (all_at (length l.cells) (cell_fits l) place draws.0 below);
    }
