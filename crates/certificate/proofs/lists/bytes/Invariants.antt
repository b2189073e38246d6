use Rattle.std.proofs.Common.{◌≡◌, length}
use Rattle.certificate.specs.Readers.{naturals_in}
use Rattle.certificate.proofs.ListLemmas.{behind}
use Rattle.certificate.proofs.lists.bytes.Given as goal

abbrev pub invariant-parts : goal.invariant-parts
invariant-parts l = behind l.numbers.items (naturals_in 0 255 l.parts) ≡ naturals_in 0 255 l.initial.parts

abbrev pub decreases-parts : goal.decreases-parts
decreases-parts l = length l.parts
