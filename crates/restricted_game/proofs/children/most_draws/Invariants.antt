use Rattle.std.proofs.Common.{ℕ, ◌+◌, ◌*◌, ◌<◌, ◌≤◌}
use Rattle.sim_game.specs.declared.Side.TheVariants.{One, Two}
use Rattle.restricted_game.proofs.children.most_draws.Given as goal

abbrev pub invariant-loop-pair : goal.invariant-loop-pair
invariant-loop-pair g l = record {
  some : 1 ≤ l.most;
  few : l.most ≤ 13;
  draws : (one two : ℕ) → one < (g.G.Game.model l.g).moves One l.s → two < (g.G.Game.model l.g).moves Two l.s
      → one * l.width + two < l.pair → (g.G.Game.model l.g).draws l.s one two ≤ l.most;
}
