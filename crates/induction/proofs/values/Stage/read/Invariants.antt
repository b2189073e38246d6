use Rattle.std.proofs.Common.{◌≡◌, ◌+◌, ◌*◌, length}
use Rattle.sim_game.specs.declared.Side.TheVariants.{Two}
use Rattle.induction.proofs.values.Stage.read.Given as goal

abbrev pub invariant-loop-b : goal.invariant-loop-b
invariant-loop-b g l = length l.self.cells.items ≡ l.a * (g.G.Game.model l.g).moves Two l.s + l.b

abbrev pub invariant-loop-a : goal.invariant-loop-a
invariant-loop-a g l = length l.self.cells.items ≡ l.a * (g.G.Game.model l.g).moves Two l.s
