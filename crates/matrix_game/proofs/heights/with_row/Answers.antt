use Rattle.std.proofs.Common.{◌+◌, ◌*◌, ◌∙◌, ap, arith, get_or}
use Rattle.matrix_game.proofs.LaneLemmas.{length-sums_of, lane-sums_of}
use Rattle.matrix_game.proofs.heights.with_row.Goals as goal

pub returns-clause-eight : goal.returns-clause-eight
returns-clause-eight c = length-sums_of c.args.sums c.args.cells.now c.args.first c.from.result c.requires.eight c.requires.first_in

pub returns-clause-added : goal.returns-clause-added
returns-clause-added c = λ k l.
    (lane-sums_of c.args.sums c.args.cells.now c.args.first c.from.result k c.requires.eight c.requires.first_in l (omega arith) (c.type_inv.cells (c.args.first + k)) (c.requires.room k l)).0
    ∙ ap (λ w. get_or c.args.sums k 0 + w * get_or c.args.cells.now (c.args.first + k) 0) c.from.ensures

pub returns-clause-small : goal.returns-clause-small
returns-clause-small c = λ k l.
    let lane = lane-sums_of c.args.sums c.args.cells.now c.args.first c.from.result k c.requires.eight c.requires.first_in l (omega arith)
    (c.type_inv.cells (c.args.first + k)) (c.requires.room k l) in
    omega (arith, lane.0, lane.1, c.from.ensures)
