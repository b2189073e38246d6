use Rattle.std.proofs.Common.{◌==◌, length}
use Rattle.std.specs.List.{slice_split}
use Rattle.certificate.proofs.PartLemmas.{Counts}
use Rattle.certificate.proofs.parts.has_parts.Given as goal

abbrev pub invariant-parts : goal.invariant-parts
invariant-parts l = Counts l.most l.count l.parts (slice_split (λ b. b == l.at) l.text)

abbrev pub decreases-parts : goal.decreases-parts
decreases-parts l = length l.parts
