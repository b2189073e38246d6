use Rattle.std.proofs.Common.{refl}
use Rattle.plan_book.specs.Sheets.{row_at}
use Rattle.plan_book.proofs.SheetLemmas.{reached_reachable}
use Rattle.checker.proofs.RowLemmas.{end_unused}
use Rattle.checker.proofs.rows.row_fault.Goals as goal

pub rank-requires : goal.rank-requires
rank-requires g c = reached_reachable _ c.args.sheet.now.side (row_at c.args.sheet.now.rows) c.in-Some.s (rw c.in-Some.is at c.requires.reached).0

pub fault_at-requires-clause-reachable : goal.fault_at-requires-clause-reachable
fault_at-requires-clause-reachable g c = reached_reachable _ c.args.sheet.now.side (row_at c.args.sheet.now.rows) c.in-Some-2.s (rw c.in-Some-2.is at c.requires.reached).0

pub returns-in-Some : goal.returns-in-Some
returns-in-Some g c = (
  refl,
  refl,
  end_unused (g.G.Game.model c.args.g) c.args.sheet.now c.args.row.now c.in-Some.s (g.met.G.Game.lawful c.args.g) (rw c.in-Some.is at c.requires.reached) (rw c.rank.ensures at c.if-rank-eq0.true),
)
