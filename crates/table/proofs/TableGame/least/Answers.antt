use Rattle.table.specs.Setting.{lists_of}
use Rattle.table.specs.laws.Game.{sound}
use Rattle.table.proofs.TableGame.least.Goals as goal

pub bound-requires : goal.bound-requires
bound-requires c = sound (lists_of c.args.self.now.setting) c.args.self.now.valid c.args.s c.requires
