use Rattle.std.proofs.Common.{◌≡◌, sym, ap, ◌∙◌}
use Rattle.plan_book.specs.declared.SheetRow.{SheetRow}
use Rattle.plan_book.proofs.PlayedLemmas.{plays_first, plays_row, plays_no_row, row_found_at}
use Rattle.plan_book.proofs.weights.weights_of.Goals as goal

pub returns-then-is_whole-clause-plays : goal.returns-then-is_whole-clause-plays
returns-then-is_whole-clause-plays g c = λ history.
    let m = g.G.Game.model c.args.g in
    let sheet = c.args.sheet.now in
    let row = row_found_at sheet.rows c.as_slice-rows.result.now
    (m.key c.args.s) c.key.result c.in-Some.place c.index-rows-place.result c.as_slice-rows.ensures c.key.ensures c.in-Some.ensures.found c.in-Some.ensures.within
    c.index-rows-place.is in
    let same : c.as_slice-weights.result.now ≡ c.index-rows-place.result.weights = c.as_slice-weights.ensures ∙ ap (λ (r : SheetRow). r.weights) (sym c.index-rows-place.is) in
    plays_row m sheet.side sheet c.args.s history c.requires.rising c.index-rows-place.result row (rw (← same, ← c.moves.ensures) c.if-is_whole.ensures) ∙ sym same

pub returns-else-is_whole-clause-plays : goal.returns-else-is_whole-clause-plays
returns-else-is_whole-clause-plays g c = λ history.
    let m = g.G.Game.model c.args.g in
    let sheet = c.args.sheet.now in
    let row = row_found_at sheet.rows c.as_slice-rows.result.now
    (m.key c.args.s) c.key.result c.in-Some.place c.index-rows-place.result c.as_slice-rows.ensures c.key.ensures c.in-Some.ensures.found c.in-Some.ensures.within
    c.index-rows-place.is in
    let same : c.as_slice-weights.result.now ≡ c.index-rows-place.result.weights = c.as_slice-weights.ensures ∙ ap (λ (r : SheetRow). r.weights) (sym c.index-rows-place.is) in
    plays_no_row m sheet.side sheet c.args.s history c.requires.rising c.index-rows-place.result row (rw (← same, ← c.moves.ensures) c.if-is_whole.ensures)

pub returns-in-None-clause-plays : goal.returns-in-None-clause-plays
returns-in-None-clause-plays g c = λ history.
    let m = g.G.Game.model c.args.g in
    let sheet = c.args.sheet.now in
    plays_first m sheet.side sheet c.args.s history c.requires.rising (rw (← c.as_slice-rows.ensures, ← c.key.ensures) c.in-None.ensures.found)
