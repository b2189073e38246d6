use Rattle.std.proofs.Common.{ℕ, Bool, ◌==◌, arith}
use Rattle.std.proofs.lemmas.List.Splits.{length-slice_split}
use Rattle.std.proofs.lemmas.List.Sums.{count_by-le-length}
use Rattle.certificate.proofs.lines.Lines.new.Goals as goal

pub invariant_of-result : goal.invariant_of-result
invariant_of-result c =
    let feeds : ℕ → Bool = λ b. b == 10 in
    rw c.new.ensures (omega (arith, length-slice_split feeds c.args.text.now, count_by-le-length feeds c.args.text.now))
