use Rattle.std.proofs.Common.{◌<◌, ◌∙◌, length}
use Rattle.plan_book.specs.Sheets.{row_at}
use Rattle.plan_book.proofs.SheetLemmas.{reached_reachable}
use Rattle.checker.proofs.FoundLemmas.{keyed, unmarked, later_more, marked_at, marked_here, none_from, state_read}
use Rattle.checker.proofs.reach.mark.Goals as goal

pub key-requires : goal.key-requires
key-requires g c = reached_reachable _ c.args.sheet.now.side (row_at c.args.sheet.now.rows) c.args.s c.requires.reached

pub returns-in-None-clause-marked : goal.returns-in-None-clause-marked
returns-in-None-clause-marked g c =
    unmarked c.args.sheet.now.rows c.requires.rising c.args.found.now.items ((g.G.Game.model c.args.g).key c.args.s) (rw (c.as_slice.ensures, c.key.ensures) at c.in-None.ensures.found)

pub returns-then-is_none-clause-later : goal.returns-then-is_none-clause-later
returns-then-is_none-clause-later g c =
    let rows = c.args.sheet.now.rows in
    let p : c.in-Some.place < length rows = rw c.as_slice.ensures at c.in-Some.ensures.within in
    let key = keyed rows ((g.G.Game.model c.args.g).key c.args.s) c.in-Some.place p (rw (c.as_slice.ensures, c.key.ensures) at c.in-Some.ensures.found) in
    later_more (g.G.Game.model c.args.g) c.args.sheet.now c.args.found.now.items c.requires.states c.in-Some.place c.args.s p key c.requires.reached
    (state_read c.args.found.now.items c.in-Some.place c.index.result.now (rw c.requires.states.one_each p) c.index.ensures ∙ none_from c.index.result.now c.if-is_none.ensures)

pub returns-then-is_none-clause-marked : goal.returns-then-is_none-clause-marked
returns-then-is_none-clause-marked g c =
    let rows = c.args.sheet.now.rows in
    let p : c.in-Some.place < length rows = rw c.as_slice.ensures at c.in-Some.ensures.within in
    let key = keyed rows ((g.G.Game.model c.args.g).key c.args.s) c.in-Some.place p (rw (c.as_slice.ensures, c.key.ensures) at c.in-Some.ensures.found) in
    marked_here (g.G.Game.model c.args.g) c.args.sheet.now c.args.found.now.items c.requires.states c.in-Some.place c.args.s p key c.requires.rising

pub returns-else-is_none-clause-marked : goal.returns-else-is_none-clause-marked
returns-else-is_none-clause-marked g c =
    let rows = c.args.sheet.now.rows in
    let p : c.in-Some.place < length rows = rw c.as_slice.ensures at c.in-Some.ensures.within in
    let key = keyed rows ((g.G.Game.model c.args.g).key c.args.s) c.in-Some.place p (rw (c.as_slice.ensures, c.key.ensures) at c.in-Some.ensures.found) in
    marked_at rows c.requires.rising c.args.found.now.items ((g.G.Game.model c.args.g).key c.args.s) c.in-Some.place p key
    (rw (state_read c.args.found.now.items c.in-Some.place c.index.result.now (rw c.requires.states.one_each p) c.index.ensures) c.if-is_none.ensures)
