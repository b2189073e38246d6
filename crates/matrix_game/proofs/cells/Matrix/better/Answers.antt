use Rattle.std.proofs.Common.{sym, subst, ◌∙◌, w64, arith}
use Rattle.std.proofs.lemmas.Int.{to_z-of_z, ints}
use Rattle.matrix_game.specs.Plans.{AreWeighed}
use Rattle.matrix_game.proofs.cells.Matrix.better.Goals as goal
use Rattle.matrix_game.proofs.cells.Matrix.better.Goals.{then-best-low, else-best-low, then-high-best, else-high-best}

pub returns : goal.returns
returns c =
    let m = c.args.self.now in
    let w = c.args.total in
    let first = c.requires.first in
    let second = c.requires.second in
    let low = to_z-of_z w64 c.args.second.low (omega (arith, ints)) in
    let high = to_z-of_z w64 c.args.second.high (omega (arith, ints)) in
    let raised : AreWeighed m w c.if-best-low.best = elim c.if-best-low.branch [
      | then-best-low b ↦ subst (AreWeighed m w) (sym b.best-is) (record { rows = second.rows; cols = first.cols; low = low ∙ second.low; high = first.high })
      | else-best-low b ↦ subst (AreWeighed m w) (sym b.best-is) first
    ] in
    elim c.if-high-best.branch [
      | then-high-best b ↦ subst (AreWeighed m w) (sym b.best-is) (record { rows = raised.rows; cols = second.cols; low = raised.low; high = high ∙ second.high })
      | else-high-best b ↦ subst (AreWeighed m w) (sym b.best-is) raised
    ]
