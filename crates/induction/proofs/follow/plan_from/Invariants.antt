use Rattle.std.proofs.Common.{◌≡◌, length, true}
use Rattle.matrix_game.specs.Budget.{left_of}
use Rattle.induction.specs.Places.{is_put}
use Rattle.induction.specs.Planned.{AreFollowed}
use Rattle.induction.specs.Spent.{HasSpent}
use Rattle.induction.specs.Undecided.{IsUndecided}
use Rattle.induction.proofs.follow.plan_from.Given as goal

abbrev pub invariant-each : goal.invariant-each
invariant-each g l = record {
  followed : AreFollowed (g.G.Game.model l.g) (g.G.Game.numbering l.g).place l.side l.total (is_put l.walk.seen) l.walk.met.items l.walk.states.items;
  root : IsUndecided (g.G.Game.model l.g) (g.G.Game.model l.g).root → is_put l.walk.seen ((g.G.Game.numbering l.g).place (g.G.Game.model l.g).root) ≡ true;
  spent : HasSpent 0 (length l.walk.states.items) l.fn.turns l.turns;
}

abbrev pub decreases-each : goal.decreases-each
decreases-each g l = left_of l.turns
