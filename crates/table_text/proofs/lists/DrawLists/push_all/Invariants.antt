use Rattle.std.proofs.Common.{map, take}
use Rattle.serde_json.specs.View.{view}
use Rattle.table_text.specs.States.{draw_form_of, AddsDraws}
use Rattle.table_text.proofs.lists.DrawLists.push_all.Given as goal

abbrev pub invariant-loop-draw : goal.invariant-loop-draw
invariant-loop-draw l = AddsDraws l.initial.self l.self (map (λ v. draw_form_of (view v)) (take l.draw-index l.draws))
