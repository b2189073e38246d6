use Rattle.std.proofs.Common.{◌+◌, arith}
use Rattle.std.proofs.lemmas.Nat.{ones-le, shr_le}
use Rattle.goofspiel.proofs.places.above.Goals as goal

pub returns-clause-few : goal.returns-clause-few
returns-clause-few c = ones-le 13 _ (omega (arith, shr_le c.args.set (c.args.bit + 1), c.requires.small))
