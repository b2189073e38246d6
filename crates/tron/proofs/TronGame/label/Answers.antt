use Rattle.std.proofs.Common.{ap, ◌∙◌, sym}
use Rattle.tron.specs.Rules.{number_of}
use Rattle.tron.specs.laws.Game.{direction_at}
use Rattle.tron.proofs.TronGame.label.Goals as goal

pub returns : goal.returns
returns c = c.number.ensures ∙ ap number_of (c.open_direction.ensures ∙ sym (direction_at c.args.self.now.setting c.args.side c.args.s c.args.i c.requires.place))
