use Rattle.std.proofs.Common.{◌≤◌, unsigned_abs}
use Rattle.plan_book.specs.Steps.{worth}
use Rattle.induction.specs.Certified.{turn_numbers}
use Rattle.induction.proofs.BoundLemmas.{IsLeast}
use Rattle.induction.proofs.bounds.best_bound.Given as goal

abbrev pub invariant-loop-reply : goal.invariant-loop-reply
invariant-loop-reply g l = record {
  least : IsLeast l.side (worth (g.G.Game.model l.g) l.side l.s l.weights (turn_numbers (g.G.Game.model l.g) l.side l.rows l.s)) l.reply l.least;
  small : unsigned_abs l.least ≤ 268435456000000000;
}
