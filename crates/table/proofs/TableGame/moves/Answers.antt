use Rattle.std.proofs.Common.{arith}
use Rattle.table.specs.Setting.{lists_of}
use Rattle.table.specs.laws.Game.{sound}
use Rattle.table.proofs.TableGame.moves.Goals as goal

pub moves-requires : goal.moves-requires
moves-requires c = omega (arith, sound (lists_of c.args.self.now.setting) c.args.self.now.valid c.args.s c.requires, c.args.self.now.valid.fits.moves_count)
