use Rattle.std.proofs.Common.{◌/◌, refl, arith}
use Rattle.std.proofs.lemmas.Nat.{ones-le}
use Rattle.std.specs.Int.Count.{ones}
use Rattle.goofspiel.proofs.PartLemmas.{bits_looked_up}
use Rattle.goofspiel.proofs.places.bits_number.Goals as goal

pub bounds-low : goal.bounds-low
bounds-low c = let few = ones-le 7 (c.args.set / 64) (omega (arith, c.requires)) in omega (arith, few)

pub returns-clause-is : goal.returns-clause-is
returns-clause-is c = bits_looked_up c.args.set (ones (c.args.set / 64)) c.requires refl
