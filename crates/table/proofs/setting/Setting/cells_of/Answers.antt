use Rattle.std.proofs.Common.{arith}
use Rattle.std.proofs.lemmas.Nat.{mul-le}
use Rattle.table.proofs.setting.Setting.cells_of.Goals as goal

pub returns-clause-small : goal.returns-clause-small
returns-clause-small c = omega (arith, mul-le c.moves.result c.moves-2.result 4294967295 4294967295 (omega arith) (omega arith))
