use Rattle.std.proofs.Common.{◌≡◌, ℕ, ◌+◌, ◌*◌, ◌-◌, ◌<◌, List, get_or, arith, ap, ◌∙◌, sym, inl, inr}
use Rattle.std.proofs.lemmas.Bool.{cases_lt}
use Rattle.std.proofs.lemmas.Simd.{length-put_chunk, get_or-put_chunk_below, get_or-put_chunk_at}
use lib.Lanes.{put_chunk}
use Rattle.sums.specs.Sums.{count_below}
use Rattle.matrix_game.proofs.heights.Heights.sum_rows.Goals as goal

pub loop-block-preserved : goal.loop-block-preserved
loop-block-preserved c =
    let first = 8 * c.loop-block.block in
    let sums : List ℕ = c.loop-block.sums in
    let lanes : List ℕ = c.block_sums-lanes.result in
    let p : List ℕ = c.args.p.now in
    let heights : List ℕ = c.args.self.now.cells.items in
    let width = 8 * c.args.self.now.blocks in
    let eight = c.block_sums-lanes.ensures.eight in
    record {
      as_many = omega (arith, length-put_chunk first sums lanes, c.loop-block.invariant.as_many);
      each = λ k h. elim (cases_lt k first) [
        | inl below ↦ get_or-put_chunk_below first sums lanes k 0 below ∙ c.loop-block.invariant.each k below
        | inr here ↦
            let at : first + (k - first) ≡ k = omega arith in
            let in_lanes : k - first < 8 = omega arith in
            sym (ap (λ n. get_or (put_chunk first sums lanes) n 0) at)
            ∙ get_or-put_chunk_at first sums lanes (k - first) 0 (omega (arith, eight)) (omega (arith, eight, c.loop-block.invariant.as_many))
            ∙ c.block_sums-lanes.ensures.sums (k - first) in_lanes
            ∙ ap (λ n. count_below c.args.self.now.rows (λ a. get_or p a 0 * get_or heights (a * width + n) 0)) at
      ];
    }
