use Rattle.std.proofs.Common.{◌+◌, ◌-◌}
use Rattle.checker.specs.Found.{IsWalked}
use Rattle.checker.proofs.reach.find_states.Given as goal

abbrev pub invariant-loop-fallen : goal.invariant-loop-fallen
invariant-loop-fallen g l = let m = g.G.Game.model l.g in IsWalked m l.fn.sheet l.found.items (m.rank m.root + 1 - l.fallen)
