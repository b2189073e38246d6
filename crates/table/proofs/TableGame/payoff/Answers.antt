use Rattle.std.proofs.Common.{arith}
use Rattle.table.specs.Setting.{lists_of}
use Rattle.table.specs.laws.Game.{sound}
use Rattle.table.proofs.TableGame.payoff.Goals as goal

pub value-requires : goal.value-requires
value-requires c = omega (arith, sound (lists_of c.args.self.now.setting) c.args.self.now.valid c.args.s c.requires.reachable, c.args.self.now.valid.fits.values_count)
