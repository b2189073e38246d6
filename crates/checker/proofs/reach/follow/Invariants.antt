use Rattle.std.proofs.Common.{ℕ, ◌<◌, get_or}
use Rattle.checker.specs.Found.{FindsMore, IsMarked}
use Rattle.checker.proofs.reach.follow.Given as goal

abbrev pub invariant-loop-number : goal.invariant-loop-number
invariant-loop-number g l = record {
  later : FindsMore (g.G.Game.model l.fn.g) l.fn.sheet l.fn.found.items l.found.items;
  done : (k : ℕ) (d : g.row.G-State.Denot) → k < l.number → IsMarked l.fn.sheet.rows l.found.items ((g.G.Game.model l.fn.g).key (get_or l.below k d));
}
