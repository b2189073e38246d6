use Rattle.position.specs.declared.games.AnyGame.TheVariants.{Goofspiel}
use Rattle.commands.proofs.SizeLemmas.{few_states, size_is}
use Rattle.commands.proofs.laws.samples_are_small.Goals as goal

pub returns-clause-states : goal.returns-clause-states
returns-clause-states c = let game = c.sample_game.result in (Goofspiel game, c.sample_game.ensures, few_states c.args.number game.setting game.valid c.sample_game.ensures)

pub returns-clause-nodes : goal.returns-clause-nodes
returns-clause-nodes c = let game = c.sample_game.result in (Goofspiel game, c.sample_game.ensures, size_is c.args.number game.setting game.valid c.sample_game.ensures)
