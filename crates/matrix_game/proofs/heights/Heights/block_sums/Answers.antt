use Rattle.std.proofs.Common.{◌≡◌, ◌+◌, ◌*◌, ℕ, List, get_or, length, refl, ap, ◌∙◌, arith}
use Rattle.std.proofs.lemmas.Nat.{mul-add-lt}
use Rattle.std.proofs.lemmas.List.{get_or-replicate}
use Rattle.matrix_game.proofs.HeightLemmas.{one_more_row}
use Rattle.matrix_game.proofs.heights.Heights.block_sums.Goals as goal
use Rattle.matrix_game.proofs.heights.Heights.block_sums.Goals.{then-p-row-gt0, else-p-row-gt0}

pub with_row-sums-requires-clause-first_in : goal.with_row-sums-requires-clause-first_in
with_row-sums-requires-clause-first_in c =
    let blocks = c.args.self.now.blocks in
    omega (arith, mul-add-lt c.loop-row.row (8 * blocks) (8 * c.args.block + 7) c.args.self.now.rows (omega arith) (omega (arith, c.requires.block_in)), c.requires.all)

pub loop-row-init : goal.loop-row-init
loop-row-init c = record {
  eight = refl;
  added = λ k h. get_or-replicate {A = ℕ} 8 k 0 0 h;
  small = λ k h. omega (arith, get_or-replicate {A = ℕ} 8 k 0 0 h);
}

pub loop-row-preserved : goal.loop-row-preserved
loop-row-preserved c =
    let row = c.loop-row.row in
    let p : List ℕ = c.args.p.now in
    let heights : List ℕ = c.args.self.now.cells.items in
    let width = 8 * c.args.self.now.blocks in
    let first = 8 * c.args.block in
    let paid : ℕ → ℕ → ℕ = λ k a. get_or p a 0 * get_or heights (a * width + (first + k)) 0 in
    let before = c.loop-row.invariant in
    record {
      eight = elim c.if-p-row-gt0.branch [
        | then-p-row-gt0 w ↦ ap (λ (xs : List ℕ). length xs) w.sums-is ∙ w.with_row-sums.ensures.eight
        | else-p-row-gt0 w ↦ ap (λ (xs : List ℕ). length xs) w.sums-is ∙ before.eight
      ];
      added = λ k h. elim c.if-p-row-gt0.branch [
        | then-p-row-gt0 w ↦
            let at : get_or heights (row * width + first + k) 0 ≡ get_or heights (row * width + (first + k)) 0 = ap (λ n. get_or heights n 0) (omega arith) in
            let lane : get_or c.if-p-row-gt0.sums k 0 ≡ get_or c.loop-row.sums k 0 + get_or p row 0 * get_or heights (row * width + first + k) 0 =
            ap (λ (xs : List ℕ). get_or xs k 0) w.sums-is ∙ w.with_row-sums.ensures.added k h
            ∙ ap (λ (xs : List ℕ). get_or c.loop-row.sums k 0 + get_or p row 0 * get_or xs (row * width + first + k) 0) w.deref.ensures.value in
            one_more_row (paid k) row (get_or c.loop-row.sums k 0) (get_or c.if-p-row-gt0.sums k 0) (paid k row) (before.added k h)
            (lane ∙ ap (λ x. get_or c.loop-row.sums k 0 + get_or p row 0 * x) at) refl
        | else-p-row-gt0 w ↦
            let none : get_or p row 0 ≡ 0 = omega (arith, w.if-p-row-gt0.false) in
            let part = ap (λ x. x * get_or heights (row * width + (first + k)) 0) none in
            one_more_row (paid k) row (get_or c.loop-row.sums k 0) (get_or c.if-p-row-gt0.sums k 0) 0 (before.added k h)
            (ap (λ (xs : List ℕ). get_or xs k 0) w.sums-is ∙ omega arith) (omega (arith, part))
      ];
      small = λ k h. elim c.if-p-row-gt0.branch [
        | then-p-row-gt0 w ↦ omega (arith, ap (λ (xs : List ℕ). get_or xs k 0) w.sums-is, w.with_row-sums.ensures.small k h, before.small k h)
        | else-p-row-gt0 w ↦ omega (arith, ap (λ (xs : List ℕ). get_or xs k 0) w.sums-is, before.small k h)
      ];
    }
