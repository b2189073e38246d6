use Rattle.std.proofs.Common.{All}
use Rattle.restricted_game.specs.Nodes.{HasOnlyRead}
use Rattle.restricted_game.specs.Sizes.{IsSmallEnclosure}
use Rattle.restricted_game.specs.Tables.{AreFilled}
use Rattle.restricted_game.proofs.reading.read_table.Given as goal

abbrev pub invariant-loop-place : goal.invariant-loop-place
invariant-loop-place g l = record {
  board : HasOnlyRead (g.G.Game.model l.g) (g.B.Bounds.view l.initial.board) (g.B.Bounds.view l.board) l.s l.children;
  filled : AreFilled (g.G.Game.model l.g) (g.B.Bounds.view l.initial.board) (g.B.Bounds.view l.board) l.s l.rows l.cols l.width l.stride l.place l.enclosures.items;
  small : All IsSmallEnclosure l.enclosures.items;
}
