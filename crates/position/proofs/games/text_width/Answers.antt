use Rattle.std.proofs.Common.{◌∙◌}
use Rattle.position.proofs.LimitLemmas.{game_width}
use Rattle.position.proofs.games.text_width.Goals as goal

pub returns : goal.returns
returns c = c.width.ensures ∙ game_width c.args._text.now c.args.game c.requires
