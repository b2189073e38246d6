use Rattle.tron.specs.laws.Game.{tron_sound}
use Rattle.tron.proofs.Tron.head.Goals as goal

pub returns-in-One-clause-on_grid : goal.returns-in-One-clause-on_grid
returns-in-One-clause-on_grid c = (tron_sound c.args.self.now.setting c.args.self.now.valid c.args.s c.requires).one_on_grid

pub returns-in-Two-clause-on_grid : goal.returns-in-Two-clause-on_grid
returns-in-Two-clause-on_grid c = (tron_sound c.args.self.now.setting c.args.self.now.valid c.args.s c.requires).two_on_grid
