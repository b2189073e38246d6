-- States after a pair of moves.
use Rattle.std.proofs.Common.{ℕ, ◌<◌}
use Rattle.sim_game.specs.declared.Side.TheVariants.{One, Two}
use Rattle.sim_game.specs.Model.{GameModel, IsGame, Reachable, Turn, IsTurn}
use Rattle.sim_game.proofs.ReachLemmas.{reachable_turn}

module _ {S : Type 0} (m : GameModel S) (game : IsGame m) (s : S) (r : Reachable m s) (one two : ℕ) (h : one < m.moves One s) (h' : two < m.moves Two s) where
  abbrev first_turn : Turn
  first_turn = record { one = one; two = two; draw = 0 }

  is_turn : IsTurn m s first_turn
  is_turn = record { one_below = h; two_below = h'; draw_below = game.draws_low s one two r h h' }

  pub reachable_after : Reachable m (m.drawn s one two 0)
  reachable_after = reachable_turn m s first_turn r is_turn

  pub lower_after : m.rank (m.drawn s one two 0) < m.rank s
  lower_after = game.rank_falls s first_turn r is_turn
