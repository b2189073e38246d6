use Rattle.std.proofs.Common.{◌≡◌, length}
use Rattle.certificate.specs.Numbers.{integer_in}
use Rattle.certificate.specs.Readers.{each_in}
use Rattle.certificate.proofs.ListLemmas.{behind}
use Rattle.certificate.proofs.lists.integers.Given as goal

abbrev pub invariant-parts : goal.invariant-parts
invariant-parts l = behind l.numbers.items (each_in (integer_in l.low l.high) l.parts) ≡ each_in (integer_in l.low l.high) l.initial.parts

abbrev pub decreases-parts : goal.decreases-parts
decreases-parts l = length l.parts
