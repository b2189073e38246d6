use Rattle.std.proofs.Common.{nat_eq}
use Rattle.std.specs.HashMap.{get}
use Rattle.plan_book.specs.Books.{best_row}
use Rattle.plan_book.specs.Gathered.{AreTaken}
use Rattle.plan_book.specs.Sheets.{row_at}
use Rattle.plan_book.proofs.WalkLemmas.{IsWalking}
use Rattle.plan_book.proofs.gather.+gather.Given as goal

abbrev pub decreases-gather : goal.decreases-gather
decreases-gather g l = (g.G.Game.model l.g).rank l.s

abbrev pub invariant-loop-child : goal.invariant-loop-child
invariant-loop-child g l = record {
  walking : IsWalking (g.G.Game.model l.fn.g) l.fn.side (best_row l.fn.side l.fn.book.entries) l.fn.s l.child-items l.child-index (row_at l.fn.rows.items) (row_at l.rows.items);
  taken : AreTaken (g.G.Game.model l.fn.g) l.fn.side l.fn.book.entries (get nat_eq l.left) l.rows.items;
}
