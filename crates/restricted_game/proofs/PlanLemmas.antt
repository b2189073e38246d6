-- A plan over all own moves: its weights, what it is worth in the cells of a table, and the best reply to it.
use Rattle.std.proofs.Common.{◌≡◌, ⊎_elim, ℕ, ◌+◌, ◌*◌, ◌/◌, ◌%◌, ◌<◌, ◌≤◌, ℤ, pos, neg_ℤ, ◌*ℤ◌, ◌≤ℤ◌, unsigned_abs, Bool, List, length, sum, All, get_or, slice_index, slice_index_or, mod-lt, refl, sym, ap, subst, ◌∙◌, arith}
use Rattle.std.proofs.lemmas.Bool.{cases_lt}
use Rattle.std.proofs.lemmas.Int.{ints}
use Rattle.std.proofs.lemmas.Nat.{div-add-mod', mul-add-lt, same_from_place}
use Rattle.std.proofs.lemmas.List.{get_or_past, get_or_default}
use Rattle.std.proofs.lemmas.List.FromFn.{get_or-map-range_with_len, length-map-range_with_len}
use Rattle.sums.specs.Sums.{sum_below, count_below}
use Rattle.sums.proofs.CountLemmas.{count_list, count_term}
use Rattle.sums.proofs.IntegerLemmas.{times_mono}
use Rattle.sums.proofs.SumLemmas.{sum_same, sum_mono, sum_weights}
use Rattle.sim_game.specs.declared.Side.{Side}
use Rattle.sim_game.specs.declared.Side.TheVariants.{One, Two}
use Rattle.sim_game.specs.Model.{GameModel}
use Rattle.sim_game.specs.Sides.{other_side, IsNoTighter, move_of_one, move_of_two}
use Rattle.plan_book.specs.Steps.{cell, worth}
use Rattle.matrix_game.specs.Grid.{IsSmallCell}
use Rattle.best_reply.specs.Replies.{IsBestReply, cell_in, worth_in}
use Rattle.restricted_game.specs.declared.table.StageCells.{StageCells}
use Rattle.restricted_game.specs.declared.plans.SidePlan.{SidePlan}
use Rattle.restricted_game.specs.declared.table.StageTable.{StageTable}
use Rattle.restricted_game.specs.Held.{AreMoves}
use Rattle.restricted_game.specs.Runs.{IsSpreadOver, IsPlan, IsHeldGrid}
use Rattle.restricted_game.specs.Tables.{HasShape, AreCells, IsCellPlan, cells_in, numbers_in, pair_cell, held_grid}

-- ---- weights
-- the plan sums to the total
pub spread_total : (n total : ℕ) (held weights full : List ℕ) → IsSpreadOver n held weights full → sum weights ≡ total → sum full ≡ total
spread_total n total held weights full spread all =
    let left : sum_below n (λ a. pos (slice_index full a) *ℤ pos 1) ≡ pos (sum full) *ℤ pos 1 =
    sum_weights n (slice_index full) (pos 1) ∙ ap (λ (k : ℕ). pos k *ℤ pos 1) (ap (λ (k : ℕ). count_below k (λ i. get_or full i 0)) (sym spread.each) ∙ count_list full) in
    let right : sum_below (length weights) (λ i. pos (slice_index weights i) *ℤ pos 1) ≡ pos total *ℤ pos 1 =
    sum_weights (length weights) (slice_index weights) (pos 1) ∙ ap (λ (k : ℕ). pos k *ℤ pos 1) (count_list weights ∙ all) in
    ones (sum full) total (sym left ∙ spread.sums (λ _. pos 1) ∙ right)
  where
    ones : (a b : ℕ) → pos a *ℤ pos 1 ≡ pos b *ℤ pos 1 → a ≡ b
    ones a b e = omega (arith, ints)

-- no weight is above the sum
pub weights_light : (weights : List ℕ) (most : ℕ) → sum weights ≤ most → All (λ weight. weight ≤ most) weights
weights_light weights most h = λ k d l. omega (arith, count_term (length weights) (λ i. get_or weights i 0) k l, count_list weights, get_or_default weights k 0 d l)

-- ---- cells
-- the cell that stands at the place of a pair of moves
cells_at : {S : Type 0} (m : GameModel S) (side : Side) (s : S) (table : StageTable) (one two : ℕ) → one < table.height → two < table.width
    → slice_index_or (cells_in m side s table) (one * table.width + two) (pos 0) ≡ pair_cell m side s table one two
cells_at m side s table one two p q =
    let place = one * table.width + two in
    let same = same_from_place (place / table.width) (place % table.width) one two table.width (mod-lt place (omega arith)) q (div-add-mod' place table.width) in
    get_or-map-range_with_len (λ place. pair_cell m side s table (place / table.width) (place % table.width)) 0
    (table.height * table.width) place place (pos 0) (omega (arith, mul-add-lt one table.width two table.height p q)) (omega arith)
    ∙ ap (λ (n : ℕ). pair_cell m side s table n (place % table.width)) same.0 ∙ ap (λ (n : ℕ). pair_cell m side s table one n) same.1

-- what weights are worth in the cells of the table is what they are worth over its numbers
pub worth_cells : {S : Type 0} (m : GameModel S) (side : Side) (s : S) (table : StageTable) (plan : List ℕ) (reply : ℕ) → HasShape m s table
    → length plan ≡ m.moves side s → reply < m.moves (other_side side) s
    → worth_in side (cells_in m side s table) table.width plan reply ≡ worth m side s plan (numbers_in side table) reply
worth_cells m side s table plan reply shape each q =
    sum_same (length plan) _ _ (λ own p. ap (λ (z : ℤ). pos (slice_index plan own) *ℤ z) (cell_is side own reply (rw (← each) p) q))
    ∙ ap (λ (n : ℕ). sum_below n (λ own. pos (slice_index plan own) *ℤ cell m side s (numbers_in side table) own reply)) each
  where
    cell_is : (side : Side) (own reply : ℕ) → own < m.moves side s → reply < m.moves (other_side side) s
        → cell_in side (cells_in m side s table) table.width own reply ≡ cell m side s (numbers_in side table) own reply
    cell_is One own reply p q = cells_at m One s table own reply (rw shape.height p) (rw shape.width q)
    cell_is Two own reply p q = cells_at m Two s table reply own (rw shape.height q) (rw shape.width p)

cell_light : (cells : List ℤ) (place : ℕ) → All IsSmallCell cells → unsigned_abs (slice_index_or cells place (pos 0)) ≤ 4000000000
cell_light cells place small = ⊎_elim (λ (lt : place < length cells). small place (pos 0) lt)
    (λ (ge : length cells ≤ place). rw (get_or_past cells place (pos 0) ge) (omega arith))
    (cases_lt place (length cells))

-- what weights are worth is no further from 0 than their sum allows
pub worth_low : (side : Side) (cells : List ℤ) (width total : ℕ) (plan : List ℕ) (reply : ℕ) → All IsSmallCell cells → sum plan ≡ total
    → neg_ℤ (pos (total * 4000000000)) ≤ℤ worth_in side cells width plan reply
worth_low side cells width total plan reply small all =
    let each : sum_below (length plan) (λ own. pos (slice_index plan own) *ℤ neg_ℤ (pos 4000000000)) ≤ℤ worth_in side cells width plan reply =
    sum_mono (length plan) _ _ (λ own p. times_mono (slice_index plan own) (neg_ℤ (pos 4000000000)) _ (let l = light side own in omega (arith, ints))) in
    let whole = sum_weights (length plan) (slice_index plan) (neg_ℤ (pos 4000000000)) ∙ ap (λ (n : ℕ). pos n *ℤ neg_ℤ (pos 4000000000)) (count_list plan ∙ all) in
    omega (arith, ints)
  where
    light : (side : Side) (own : ℕ) → unsigned_abs (cell_in side cells width own reply) ≤ 4000000000
    light One own = cell_light cells (own * width + reply) small
    light Two own = cell_light cells (reply * width + own) small

-- ---- replies
-- a best reply is one by equal worths
pub reply_same : (side : Side) (f g : ℕ → ℤ) (n : ℕ) (held : List ℕ) (place : ℕ) (worst : ℤ) (fresh : Bool)
    → ((reply : ℕ) → reply < n → f reply ≡ g reply) → IsBestReply side f n held place worst fresh → IsBestReply side g n held place worst fresh
reply_same side f g n held place worst fresh same best = record {
  place_in = best.place_in;
  worth = best.worth ∙ same place best.place_in;
  least = λ reply p. subst (IsNoTighter side worst) (same reply p) (best.least reply p);
  old = best.old;
  new = λ t reply p c e. best.new t reply p c (same reply p ∙ e);
  first_old = λ t reply p c e. best.first_old t reply p c (same reply (before reply p) ∙ e);
  first_new = λ t reply p e. best.first_new t reply p (same reply (before reply p) ∙ e);
} where
  before : (reply : ℕ) → reply < place → reply < n
  before reply p = omega (arith, best.place_in)

-- the moves of One and of Two, as a side's own and the other's
pub own_count : {S : Type 0} (m : GameModel S) (side : Side) (s : S) → move_of_one side (m.moves One s) (m.moves Two s) ≡ m.moves side s
own_count m One s = refl
own_count m Two s = refl

pub other_count : {S : Type 0} (m : GameModel S) (side : Side) (s : S) → move_of_two side (m.moves One s) (m.moves Two s) ≡ m.moves (other_side side) s
other_count m One s = refl
other_count m Two s = refl

-- a best reply in the cells of a table is one over its numbers
pub table_reply : {S : Type 0} (m : GameModel S) (side : Side) (s : S) (table : StageTable) (cells : List ℤ) (plan read others : List ℕ) (place : ℕ) (worst : ℤ) (fresh : Bool)
    → HasShape m s table → length plan ≡ m.moves side s
    → cells ≡ cells_in m side s table → read ≡ plan → IsBestReply side (worth_in side cells table.width read) (move_of_two side table.height table.width) others place worst fresh
    → IsBestReply side (worth m side s plan (numbers_in side table)) (m.moves (other_side side) s) others place worst fresh
table_reply m side s table cells plan read others place worst fresh shape each is_cells is_read best =
    let replies : move_of_two side table.height table.width ≡ m.moves (other_side side) s = rw (shape.height, shape.width) (other_count m side s) in
    reply_same side _ _ _ others place worst fresh (λ reply q. worth_cells m side s table plan reply shape each q)
    (subst (λ (n : ℕ). IsBestReply side (worth_in side (cells_in m side s table) table.width plan) n others place worst fresh) replies
    (subst (λ (l : List ℕ). IsBestReply side (worth_in side (cells_in m side s table) table.width l) (move_of_two side table.height table.width) others place worst fresh) is_read
    (subst (λ (l : List ℤ). IsBestReply side (worth_in side l table.width read) (move_of_two side table.height table.width) others place worst fresh) is_cells best)))

-- a plan over the cells of a table is one over its numbers
pub cell_plan_is : {S : Type 0} (m : GameModel S) (side : Side) (s : S) (table : StageTable) (cells : StageCells) (total : ℕ) (own others weights : List ℕ) (plan : SidePlan)
    → HasShape m s table → AreCells m side s table cells
    → IsCellPlan side total cells own others weights plan → IsPlan m side s total own others weights (numbers_in side table) plan.weights.items plan.bound plan.fresh
cell_plan_is m side s table cells total own others weights plan shape are planned =
    let owns : move_of_one side cells.height cells.width ≡ m.moves side s = rw (are.height, are.width, shape.height, shape.width) (own_count m side s) in
    let spread : IsSpreadOver (m.moves side s) own weights plan.weights.items = subst (λ (n : ℕ). IsSpreadOver n own weights plan.weights.items) owns planned.spread in
    let best = rw (are.height, are.width) at planned.is_best in
    record {
      spread = spread;
      reply = planned.reply;
      sum = planned.sum;
      is_fresh = planned.is_fresh;
      is_best = table_reply m side s table cells.items.items plan.weights.items plan.weights.items others planned.reply planned.sum planned.is_fresh shape spread.each are.items refl best;
      bound_is = planned.bound_is;
      fresh_is = planned.fresh_is;
    }

-- ---- the game on the held moves
pub held_grid_is : {S : Type 0} (m : GameModel S) (s : S) (table : StageTable) (cells : List ℤ) (rows cols : List ℕ) → HasShape m s table
    → AreMoves (m.moves One s) rows → AreMoves (m.moves Two s) cols → cells ≡ cells_in m One s table
    → IsHeldGrid m s rows cols (numbers_in One table) (held_grid cells table.width rows cols)
held_grid_is m s table cells rows cols shape held_rows held_cols is_cells = record {
  all_rows = refl;
  all_cols = refl;
  all_cells = length-map-range_with_len _ 0 (length rows * length cols);
  cells = λ i j p q.
      let place = i * length cols + j in
      let same = same_from_place (place / length cols) (place % length cols) i j (length cols) (mod-lt place (omega arith)) q (div-add-mod' place (length cols)) in
      get_or-map-range_with_len
      (λ place. slice_index_or cells (slice_index rows (place / length cols) * table.width + slice_index cols (place % length cols)) (pos 0)) 0
      (length rows * length cols) place place (pos 0)
      (omega (arith, mul-add-lt i (length cols) j (length rows) p q)) (omega arith)
      ∙ ap (λ (n : ℕ). slice_index_or cells (slice_index rows n * table.width + slice_index cols (place % length cols)) (pos 0)) same.0
      ∙ ap (λ (n : ℕ). slice_index_or cells (slice_index rows i * table.width + slice_index cols n) (pos 0)) same.1
      ∙ ap (λ (l : List ℤ). slice_index_or l (slice_index rows i * table.width + slice_index cols j) (pos 0)) is_cells
      ∙ cells_at m One s table (slice_index rows i) (slice_index cols j) (rw shape.height (held_rows.within i 0 p)) (rw shape.width (held_cols.within j 0 q));
}
