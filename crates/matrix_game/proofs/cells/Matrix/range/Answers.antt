use Rattle.std.proofs.Common.{◌≡◌, ◌<◌, ◌≤ℤ◌, ◌+◌, ◌+ℤ◌, ◌-ℤ◌, ℕ, ℤ, List, pos, get_or, length, w64, FitsSigned, to_z, of_z, ap, ◌∙◌, subst, inl, inr, arith}
use Rattle.std.proofs.lemmas.Int.{ints, clamps, to_z-of_z}
use Rattle.std.proofs.lemmas.Bool.{cases_lt}
use Rattle.std.specs.Int.{int_min, int_max}
use Rattle.matrix_game.specs.Grid.{Grid, IsMatrix, IsSpread}
use Rattle.matrix_game.proofs.cells.Matrix.range.Goals as goal

least_more : (cells : List ℤ) (i : ℕ) (low next : ℤ) → ((k : ℕ) → k < i → low ≤ℤ get_or cells k (pos 0))
    → next ≡ int_min low (get_or cells i (pos 0)) → (k : ℕ) → k < i + 1 → next ≤ℤ get_or cells k (pos 0)
least_more cells i low next h e k l =
    elim (cases_lt k i) [
      | inl b ↦ let before = h k b in omega (arith, ints, clamps)
      | inr b ↦ let same : k ≡ i = omega arith in let at = ap (λ n. get_or cells n (pos 0)) same in omega (arith, ints, clamps)
    ]

greatest_more : (cells : List ℤ) (i : ℕ) (high next : ℤ) → ((k : ℕ) → k < i → get_or cells k (pos 0) ≤ℤ high)
    → next ≡ int_max high (get_or cells i (pos 0)) → (k : ℕ) → k < i + 1 → get_or cells k (pos 0) ≤ℤ next
greatest_more cells i high next h e k l =
    elim (cases_lt k i) [
      | inl b ↦ let before = h k b in omega (arith, ints, clamps)
      | inr b ↦ let same : k ≡ i = omega arith in let at = ap (λ n. get_or cells n (pos 0)) same in omega (arith, ints, clamps)
    ]

pub loop-cell-preserved : goal.loop-cell-preserved
loop-cell-preserved c =
    let cells = c.args.self.now.cells in
    let i = c.loop-cell.cell-index in
    let matrix : IsMatrix c.args.self.now = subst IsMatrix c.self.view_is c.self.invariant in
    let listed : c.deref-cell-items.result.now ≡ cells = c.deref-cell-items.ensures.value ∙ ap (λ (m : Grid). m.cells) c.self.view_is in
    let in_cells : i < length cells = omega (arith, ap length listed) in
    let small = matrix.small_cells i in_cells in
    let cell_fits : FitsSigned w64 (get_or cells i (pos 0)) = omega (arith, ints) in
    let cell : to_z w64 (of_z w64 (get_or c.deref-cell-items.result.now i (pos 0))) ≡ get_or cells i (pos 0) =
    ap (λ xs. to_z w64 (of_z w64 (get_or xs i (pos 0)))) listed ∙ to_z-of_z w64 (get_or cells i (pos 0)) cell_fits in
    let least : c.min-least.result ≡ int_min (to_z w64 c.loop-cell.least-bits) (get_or cells i (pos 0)) = c.min-least.ensures.value ∙ ap (int_min (to_z w64 c.loop-cell.least-bits)) cell in
    let greatest : c.max-greatest.result ≡ int_max (to_z w64 c.loop-cell.greatest-bits) (get_or cells i (pos 0)) =
    c.max-greatest.ensures.value ∙ ap (int_max (to_z w64 c.loop-cell.greatest-bits)) cell in
    let least_fits : FitsSigned w64 c.min-least.result = omega (arith, ints, clamps) in
    let greatest_fits : FitsSigned w64 c.max-greatest.result = omega (arith, ints, clamps) in
    let low = to_z-of_z w64 c.min-least.result least_fits ∙ least in
    let high = to_z-of_z w64 c.max-greatest.result greatest_fits ∙ greatest in
    record {
      above = least_more cells i (to_z w64 c.loop-cell.least-bits) (to_z w64 (of_z w64 c.min-least.result)) c.loop-cell.invariant.above low;
      below = greatest_more cells i (to_z w64 c.loop-cell.greatest-bits) (to_z w64 (of_z w64 c.max-greatest.result)) c.loop-cell.invariant.below high;
      low_is = λ z h. let before = c.loop-cell.invariant.low_is z h in let here = h i in_cells in omega (arith, ints, clamps, low, before, here);
      high_is = λ z h. let before = c.loop-cell.invariant.high_is z h in let here = h i in_cells in omega (arith, ints, clamps, high, before, here);
      small_low = omega (arith, ints, clamps, low);
      small_high = omega (arith, ints, clamps, high);
    }

-- the least and the greatest of the cells are cells
closest : (m : Grid) (least greatest : ℤ) (d : ℕ) → IsSpread m d
    → ((z : ℤ) → ((k : ℕ) → k < length m.cells → z ≤ℤ get_or m.cells k (pos 0)) → z ≤ℤ least)
    → ((z : ℤ) → ((k : ℕ) → k < length m.cells → get_or m.cells k (pos 0) ≤ℤ z) → greatest ≤ℤ z)
    → greatest ≤ℤ (least +ℤ pos d)
closest m least greatest d spread low high =
    high (least +ℤ pos d) (λ k h.
    let below = low (get_or m.cells k (pos 0) -ℤ pos d) (λ j l. let near = spread k j h l in omega (arith, ints, near)) in
    omega (arith, ints, below))

pub returns-clause-closest : goal.returns-clause-closest
returns-clause-closest c d spread =
    closest c.args.self.now (to_z w64 c.loop-cell.least-bits) (to_z w64 c.loop-cell.greatest-bits) d spread c.loop-cell.invariant.low_is c.loop-cell.invariant.high_is
