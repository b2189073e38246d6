-- How close the bounds of a step are where no reply is fresh.
use Rattle.std.proofs.Common.{◌≡◌, inl, ⊎_elim, ℕ, ◌+◌, ◌*◌, ◌/◌, ◌%◌, ◌<◌, ◌≤◌, ℤ, pos, ◌+ℤ◌, ◌-ℤ◌, ◌*ℤ◌, ◌≤ℤ◌, unsigned_abs, Bool, true, false, cond, None, IsFalse, List, length, get_or, slice_index, slice_index_or, mod-lt, refl, sym, ap, subst, ◌∙◌, arith}
use Rattle.std.proofs.lemmas.Int.{ints}
use Rattle.std.proofs.lemmas.Nat.{div-add-mod'}
use Rattle.std.proofs.Math.Nat.{div-lt_iff_lt-mul, mul-le-mul}
use Rattle.std.proofs.lemmas.List.Elements.{Contains-get_or, at_from_Contains}
use Rattle.std.specs.Bool.{then_some}
use Rattle.std.specs.List.{Contains}
use Rattle.sums.specs.Sums.{sum_below, count_below}
use Rattle.sums.proofs.CountLemmas.{count_list}
use Rattle.sums.proofs.SumLemmas.{sum_same}
use Rattle.sim_game.specs.declared.Side.TheVariants.{One, Two}
use Rattle.sim_game.specs.Model.{GameModel, IsGame, Reachable, bound_scale}
use Rattle.sim_game.specs.Resolution.{IsFineWeight, IsStageGap, payoff_range}
use Rattle.sim_game.specs.Sides.{opening_bound, turn_reward}
use Rattle.sim_game.proofs.SideLemmas.{looser_trans, opening_state, side_turn}
use Rattle.plan_book.specs.Steps.{cell, worth}
use Rattle.matrix_game.specs.Grid.{IsSpread as IsCellSpread, column_sum, row_sum, row_floor, col_ceiling}
use Rattle.matrix_game.proofs.FirstLemmas.{first_least-le, first_greatest-le}
use Rattle.bounds_board.specs.Views.{BoardView, known_bound}
use Rattle.matrix_game.specs.declared.solver.StageSolver.{StageSolver}
use Rattle.restricted_game.specs.Held.{HeldMoves, AreMoves}
use Rattle.restricted_game.specs.Gaps.{AreClose, IsStepClose, step_gap}
use Rattle.restricted_game.specs.Runs.{IsStepRun}
use Rattle.restricted_game.proofs.CellLemmas.{mean_from, mean_to}
use Rattle.restricted_game.proofs.GapLemmas.{quotients_close, sums_close, cells_close, one_cell_close}
use Rattle.restricted_game.proofs.ReadLemmas.{cases_rank, turn_low, turn_high}

place_in : (xs : List ℕ) (x : ℕ) → Contains xs x → (k : ℕ) × (k < length xs) × (slice_index xs k ≡ x)
place_in xs x h = let w = at_from_Contains xs x h in (w.0, w.1, w.2 0)

not_fresh : (fresh : Bool) (place : ℕ) → None ≡ then_some fresh place → IsFalse fresh
not_fresh true place e = absurd (cc)
not_fresh false place e = refl

module _ {S G N : Type 0} (m : GameModel S) (game : IsGame m) (u v : BoardView G N) (s : S) (reach : Reachable m s)
    (enough : IsFineWeight m u.total) (h : HeldMoves) {solver : StageSolver} (lower upper : ℤ)
    (run : IsStepRun m u v solver s h.rows h.cols None None lower upper) (held_rows : AreMoves (m.moves One s) h.rows) (held_cols : AreMoves (m.moves Two s) h.cols) where
  abbrev total : ℕ
  total = u.total

  -- the held moves at a place of the game on them
  abbrev row : ℕ → ℕ
  row i = slice_index h.rows i

  abbrev col : ℕ → ℕ
  col j = slice_index h.cols j

  abbrev low_cell : ℕ → ℕ → ℤ
  low_cell i j = cell m One s run.one.numbers (row i) (col j)

  abbrev high_cell : ℕ → ℕ → ℤ
  high_cell i j = cell m Two s run.two.numbers (col j) (row i)

  row_in : (i : ℕ) → i < length h.rows → row i < m.moves One s
  row_in i p = held_rows.within i 0 p

  col_in : (j : ℕ) → j < length h.cols → col j < m.moves Two s
  col_in j q = held_cols.within j 0 q

  -- ---- the range of the cells
  cell_low : (i j : ℕ) → i < length h.rows → j < length h.cols → opening_bound m One ≤ℤ low_cell i j
  cell_low i j p q = mean_from One (m.draws s (row i) (col j)) (m.chance s (row i) (col j)) (game.chance_sum s (row i) (col j) reach (row_in i p) (col_in j q)) _ (opening_bound m One)
      (λ d r. looser_trans One _ _ _ (opening_state m One s game reach) (turn_low m u v One One s (row i) (col j) d _ game reach (side_turn m One s (row i) (col j) d (row_in i p) (col_in j q) r)
      (run.one.read (row i) (col j) d (row_in i p) (col_in j q) (inl (Contains-get_or h.rows i 0 p)) r)))

  cell_high : (i j : ℕ) → i < length h.rows → j < length h.cols → low_cell i j ≤ℤ opening_bound m Two
  cell_high i j p q = mean_to One (m.draws s (row i) (col j)) (m.chance s (row i) (col j)) (game.chance_sum s (row i) (col j) reach (row_in i p) (col_in j q)) _ (opening_bound m Two)
      (λ d r. looser_trans Two _ _ _ (opening_state m Two s game reach) (turn_high m u v One One s (row i) (col j) d _ game reach (side_turn m One s (row i) (col j) d (row_in i p) (col_in j q) r)
      (run.one.read (row i) (col j) d (row_in i p) (col_in j q) (inl (Contains-get_or h.rows i 0 p)) r)))

  -- a cell of the grid by its place
  grid_cell : (k : ℕ) → k < length run.grid.cells → (i : ℕ) × (j : ℕ) × (i < length h.rows) × (j < length h.cols) × (slice_index_or run.grid.cells k (pos 0) ≡ low_cell i j)
  grid_cell k l =
      let some : 0 < run.grid.cols = let e = run.is_grid.all_cols in let z = held_cols.some in omega arith in
      let all : k < run.grid.rows * run.grid.cols = subst (λ (n : ℕ). k < n) run.is_grid.all_cells l in
      let i : k / run.grid.cols < length h.rows = subst (λ (n : ℕ). k / run.grid.cols < n) run.is_grid.all_rows ((div-lt_iff_lt-mul {k = run.grid.cols} {x = k} {y = run.grid.rows} some).1 all) in
      let j : k % run.grid.cols < length h.cols = subst (λ (n : ℕ). k % run.grid.cols < n) run.is_grid.all_cols (mod-lt k some) in (
        k / run.grid.cols,
        k % run.grid.cols,
        i,
        j,
        ap (λ (n : ℕ). slice_index_or run.grid.cells n (pos 0)) (sym (div-add-mod' k run.grid.cols)) ∙ run.is_grid.cells (k / run.grid.cols) (k % run.grid.cols) i j,
      )

  grid_spread : IsCellSpread run.grid (payoff_range m * bound_scale)
  grid_spread x y p q =
      let a = grid_cell x p in
      let b = grid_cell y q in
      apart m.low m.high _ _ _ _ game.low_high a.4 b.4 (cell_high a.0 a.1 a.2 a.3) (cell_low b.0 b.1 b.2 b.3)
    where
      apart : (low high x y c d : ℤ) → low ≤ℤ high → x ≡ c → y ≡ d → c ≤ℤ (pos bound_scale *ℤ high) → (pos bound_scale *ℤ low) ≤ℤ d → x ≤ℤ (y +ℤ pos (unsigned_abs (high -ℤ low) * bound_scale))
      apart low high x y c d l e f p q = omega (arith, ints)

  stage_fine : (stage : ℕ) → IsStageGap m total stage → col_ceiling run.grid run.col_weights ≤ℤ (row_floor run.grid run.row_weights +ℤ pos (total * stage))
  stage_fine stage gap =
      let few : run.grid.rows ≤ m.width = let a = run.is_grid.all_rows in let b = held_rows.few in let c = game.moves_high One s reach in omega arith in
      run.stage.resolution m.width (payoff_range m * bound_scale) stage few grid_spread enough (fine m.width (payoff_range m) total stage gap.enough)
    where
      fine : (n r w q : ℕ) → 2 * n * (r * bound_scale) * (r * bound_scale) ≤ w * q * q → 2 * (n * (r * bound_scale * (r * bound_scale))) ≤ w * (q * q)
      fine n r w q l = omega arith

  some_total : 1 ≤ total
  some_total = let square : 1 * 1 ≤ m.width * m.width = mul-le-mul game.width_low game.width_low in omega (arith, square, enough)

  -- ---- cells after held moves
  module _ (gap : ℕ) (close : AreClose m u s h gap) where
    abbrev cell_gap : ℕ
    cell_gap = gap + cond m.chance_free 0 1

    -- the numbers of a turn by held moves are as close as the bounds of the state that follows were
    numbers_close : (i j draw : ℕ) → i < length h.rows → j < length h.cols → draw < m.draws s (row i) (col j)
        → run.two.numbers (col j) (row i) draw ≤ℤ (run.one.numbers (row i) (col j) draw +ℤ pos gap)
    numbers_close i j draw p q r =
        let pay : ℤ = turn_reward m One s (row i) (col j) draw in
        let held_row = Contains-get_or h.rows i 0 p in
        let held_col = Contains-get_or h.cols j 0 q in
        let low = run.one.read (row i) (col j) draw (row_in i p) (col_in j q) (inl held_row) r in
        let high = run.two.read (col j) (row i) draw (col_in j q) (row_in i p) (inl held_col) r in
        ⊎_elim
        (λ (e : m.rank (m.drawn s (row i) (col j) draw) ≡ 0). at_end pay _ _ _ (high.at_end e) (low.at_end e))
        (λ (g : 1 ≤ m.rank (m.drawn s (row i) (col j) draw)). inside pay _ _ _ _ (high.no_looser g) (low.no_looser g) (close.close (row i) (col j) draw held_row held_col r g))
        (cases_rank (m.rank (m.drawn s (row i) (col j) draw)))
      where
        at_end : (c x y z : ℤ) → x -ℤ c ≡ z → y -ℤ c ≡ z → x ≤ℤ (y +ℤ pos gap)
        at_end c x y z e f = omega (arith, ints)

        inside : (c x y z w : ℤ) → (x -ℤ c) ≤ℤ y → z ≤ℤ (w -ℤ c) → y ≤ℤ (z +ℤ pos gap) → x ≤ℤ (w +ℤ pos gap)
        inside c x y z w e f k = omega (arith, ints)

    -- and so are the cells, but for the rounding of chance
    held_cells_close : (i j : ℕ) → i < length h.rows → j < length h.cols → high_cell i j ≤ℤ (low_cell i j +ℤ pos cell_gap)
    held_cells_close i j p q = by_chance m.chance_free refl where
      all : count_below (m.draws s (row i) (col j)) (m.chance s (row i) (col j)) ≡ 360360
      all = game.chance_sum s (row i) (col j) reach (row_in i p) (col_in j q)

      by_chance : (free : Bool) → m.chance_free ≡ free → high_cell i j ≤ℤ (low_cell i j +ℤ pos (gap + cond free 0 1))
      by_chance true e = subst (λ (n : ℕ). high_cell i j ≤ℤ (low_cell i j +ℤ pos n)) (omega arith)
          (one_cell_close (m.draws s (row i) (col j)) (m.chance s (row i) (col j)) all (run.one.numbers (row i) (col j)) (run.two.numbers (col j) (row i)) gap (λ d r. numbers_close i j d p q r)
          (game.one_draw s (row i) (col j) e reach (row_in i p) (col_in j q)))
      by_chance false e = cells_close (m.draws s (row i) (col j)) (m.chance s (row i) (col j)) all (run.one.numbers (row i) (col j))
          (run.two.numbers (col j) (row i)) gap (λ d r. numbers_close i j d p q r)

    -- ---- the sums of the replies
    -- with no fresh column the lower sum is what the weights secure in the grid
    low_secured : row_floor run.grid run.row_weights ≤ℤ run.one.planned.sum
    low_secured =
        let one = run.one.planned in
        let at = place_in h.cols one.reply (one.is_best.old (not_fresh one.is_fresh one.reply one.fresh_is)) in
        let inside : at.0 < run.grid.cols = subst (λ (n : ℕ). at.0 < n) (sym run.is_grid.all_cols) at.1 in
        subst (λ (z : ℤ). row_floor run.grid run.row_weights ≤ℤ z) (sym (one.is_best.worth ∙ ap (λ (b : ℕ). worth m One s run.one.plan run.one.numbers b) (sym at.2) ∙ column_worth at.0 at.1))
        (first_least-le run.grid.cols (column_sum run.grid run.row_weights) at.0 inside)
      where
        column_worth : (j : ℕ) → j < length h.cols → worth m One s run.one.plan run.one.numbers (col j) ≡ column_sum run.grid run.row_weights j
        column_worth j q =
            run.one.planned.spread.sums (λ a. cell m One s run.one.numbers a (col j))
            ∙ ap (λ (n : ℕ). sum_below n (λ i. pos (slice_index run.row_weights i) *ℤ low_cell i j)) (run.stage.rows.each)
            ∙ sum_same run.grid.rows _ _ (λ i p. ap (λ (z : ℤ). pos (slice_index run.row_weights i) *ℤ z) (sym (run.is_grid.cells i j (subst (λ (n : ℕ). i < n) run.is_grid.all_rows p) q)))

    -- with no fresh row the upper sum is what the weights concede there, but for the gap of the cells
    high_conceded : run.two.planned.sum ≤ℤ (col_ceiling run.grid run.col_weights +ℤ pos total *ℤ pos cell_gap)
    high_conceded =
        let two = run.two.planned in
        let at = place_in h.rows two.reply (two.is_best.old (not_fresh two.is_fresh two.reply two.fresh_is)) in
        let inside : at.0 < run.grid.rows = subst (λ (n : ℕ). at.0 < n) (sym run.is_grid.all_rows) at.1 in
        let most = first_greatest-le run.grid.rows (row_sum run.grid run.col_weights) at.0 inside in
        let same = two.is_best.worth ∙ ap (λ (a : ℕ). worth m Two s run.two.plan run.two.numbers a) (sym at.2) ∙ two.spread.sums (λ b. cell m Two s run.two.numbers b (row at.0))
        ∙ ap (λ (n : ℕ). sum_below n (λ j. pos (slice_index run.col_weights j) *ℤ high_cell at.0 j)) run.stage.cols.each in
        let near = sums_close run.grid.cols (slice_index run.col_weights) total weights_all (low_cell at.0) (high_cell at.0) cell_gap
        (λ j q. held_cells_close at.0 j at.1 (subst (λ (n : ℕ). j < n) run.is_grid.all_cols q)) in
        last _ _ _ _ _ (pos total *ℤ pos cell_gap) same near (row_grid at.0 at.1) most
      where
        weights_all : count_below run.grid.cols (slice_index run.col_weights) ≡ total
        weights_all = ap (λ (n : ℕ). count_below n (λ i. get_or run.col_weights i 0)) (sym run.stage.cols.each) ∙ count_list run.col_weights ∙ run.stage.cols.all

        row_grid : (i : ℕ) → i < length h.rows → sum_below run.grid.cols (λ j. pos (slice_index run.col_weights j) *ℤ low_cell i j) ≡ row_sum run.grid run.col_weights i
        row_grid i p = sum_same run.grid.cols _ _ (λ j q. ap (λ (z : ℤ). pos (slice_index run.col_weights j) *ℤ z) (sym (run.is_grid.cells i j p (subst (λ (n : ℕ). j < n) run.is_grid.all_cols q))))

        last : (t x y z w k : ℤ) → t ≡ x → x ≤ℤ (y +ℤ k) → y ≡ z → z ≤ℤ w → t ≤ℤ (w +ℤ k)
        last t x y z w k f p e q = omega (arith, ints)

    pub step_close : (stage : ℕ) → IsStageGap m total stage → IsStepClose m v s lower upper (step_gap m gap stage)
    step_close stage is_gap =
        let one = run.one.planned in
        let two = run.two.planned in
        let near = quotients_close total (cell_gap + stage) one.sum two.sum some_total (sums one.sum two.sum _ _ low_secured high_conceded (stage_fine stage is_gap)) in
        let bounds : upper ≤ℤ (lower +ℤ pos (step_gap m gap stage)) = last _ _ _ _ one.bound_is two.bound_is near in
        record { bounds = bounds; known = known (known_bound m v One s) (known_bound m v Two s) run.one.known run.two.known bounds }
      where
        sums : (l h f c : ℤ) → f ≤ℤ l → h ≤ℤ (c +ℤ pos total *ℤ pos cell_gap) → c ≤ℤ (f +ℤ pos (total * stage)) → h ≤ℤ (l +ℤ pos total *ℤ pos (cell_gap + stage))
        sums l h f c p q r = omega (arith, ints)

        last : (x y a b : ℤ) → x ≡ a → y ≡ b → b ≤ℤ (a +ℤ pos (cell_gap + stage + 1)) → y ≤ℤ (x +ℤ pos (step_gap m gap stage))
        last x y a b p q r = omega (arith, ints)

        known : (l h : ℤ) → lower ≤ℤ l → h ≤ℤ upper → upper ≤ℤ (lower +ℤ pos (step_gap m gap stage)) → h ≤ℤ (l +ℤ pos (step_gap m gap stage))
        known l h p q r = omega (arith, ints)
