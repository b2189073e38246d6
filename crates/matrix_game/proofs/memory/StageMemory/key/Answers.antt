use Rattle.std.proofs.Common.{◌≡◌, ap, subst, sym, ◌∙◌, to_z, of_z, w64, List, ℤ}
use Rattle.matrix_game.specs.Grid.{Grid, IsMatrix}
use Rattle.matrix_game.specs.Memories.{raised_grid}
use Rattle.matrix_game.specs.Shifts.{shifted}
use Rattle.matrix_game.proofs.ShiftLemmas.{raised-stage}
use Rattle.matrix_game.proofs.memory.StageMemory.key.Goals as goal

pub returns : goal.returns
returns c =
    let m = c.args.matrix.now in
    let rows = c.matrix.inside.rows in
    let cols = c.matrix.inside.cols in
    let k = to_z w64 (of_z w64 c.range-range.result.least) in
    let of_cells : List ℤ → Grid = λ xs. record { rows = rows; cols = cols; cells = xs } in
    let is : m ≡ shifted k (raised_grid rows cols c.in-Ok.cells.items) = sym c.matrix.view_is ∙ ap of_cells (sym c.deref.ensures.value ∙ c.in-Ok.ensures) in
    let matrix : IsMatrix m = subst IsMatrix c.matrix.view_is c.matrix.invariant in
    λ p v.
    let both = raised-stage m rows cols c.in-Ok.cells.items k c.args.total p v matrix.shaped is in
    (both.1, both.0)
