use Rattle.std.proofs.Common.{rules, arith}
use Rattle.commands.proofs.MatchLemmas.{next_played}
use Rattle.commands.proofs.play.+add_turns.Goals as goal

pub add_turns-requires : goal.add_turns-requires
add_turns-requires g t c κs within =
    let some = c.in-len1-up.len_at_least in (
      omega (arith, some, c.decreases),
      (search rules, (search rules, next_played (g.G.Game.model c.args.g) c.args.s c.drawn.result c.args.turns.now some c.requires.reachable c.requires.played c.drawn.ensures)),
    )
