use Rattle.std.proofs.Common.{rules, ◌++◌, ◌∷◌, [], inl, inr, true, false, List, sym, ap, subst, ◌∙◌}
use Rattle.matrix_game.specs.Budget.{Budget}
use Rattle.shared_board.specs.Values.{IsPassOf}
use Rattle.lazy_workers.proofs.JoinLemmas.{IsJoining, joining_none, joining_next, joining_more, joining_end}
use Rattle.lazy_workers.proofs.jobs.join_all.Goals as goal

pub loop-done-init : goal.loop-done-init
loop-done-init g c =
    let b = c.args.board.now in let ask = c.args.ask.now in let first = c.args.lead.now in let found = c.args.found.items in
    subst (λ (l : List Budget). IsJoining g.G.Game.model c.args.g b ask c.args.begun first first found found l false) (sym c.requires.none)
    (joining_none g.G.Game.model c.args.g b ask c.args.begun first found c.requires.lead.ours c.requires.lead.leads c.requires.lead.none c.requires.found)

pub from_bare-requires : goal.from_bare-requires
from_bare-requires g c =
    let is = c.in-Some.ensures.items ∙ ap (λ r. c.pop.new.self.items ++ r ∷ []) c.in-Ok.is in
    (joining_next g.G.Game.model c.args.g c.args.board.now c.args.ask.now c.args.begun c.args.lead.now c.loop-done.lead c.args.found.items c.loop-done.found.items
    c.pop.new.self.items c.in-Ok.done c.loop-done.turns.items c.loop-done.was_full is c.loop-done.invariant).1.pass.sound

pub join-requires-clause-theirs : goal.join-requires-clause-theirs
join-requires-clause-theirs g c =
    let is = c.in-Some.ensures.items ∙ ap (λ r. c.pop.new.self.items ++ r ∷ []) c.in-Ok.is in
    subst (IsPassOf c.args.board.now) (sym c.from_bare.ensures)
    (joining_next g.G.Game.model c.args.g c.args.board.now c.args.ask.now c.args.begun c.args.lead.now c.loop-done.lead c.args.found.items c.loop-done.found.items
    c.pop.new.self.items c.in-Ok.done c.loop-done.turns.items c.loop-done.was_full is c.loop-done.invariant).1.pass.ours

pub loop-done-preserved-then-is_full : goal.loop-done-preserved-then-is_full
loop-done-preserved-then-is_full g c =
    let is = c.in-Some.ensures.items ∙ ap (λ r. c.pop.new.self.items ++ r ∷ []) c.in-Ok.is in
    joining_more g.G.Game.model c.args.g c.args.board.now c.args.ask.now c.args.begun c.args.lead.now c.loop-done.lead c.join.new.pass c.args.found.items
    c.loop-done.found.items c.pop.new.self.items c.in-Ok.done c.from_bare.result c.loop-done.turns.items c.push.new.self.items c.loop-done.was_full true
    c.requires.board.game is c.in_ok-push.ensures.items c.from_bare.ensures c.join.ensures.name c.join.ensures.total c.in-Ok-join.ensures.view
    c.in-Ok-join.ensures.entries c.in-Ok-join.ensures.mine c.in-Ok-join.ensures.theirs (λ _. inr c.if-is_full.ensures) (λ e. absurd (cc)) c.loop-done.invariant

pub loop-done-preserved : goal.loop-done-preserved
loop-done-preserved g c =
    let is = c.in-Some.ensures.items ∙ ap (λ r. c.pop.new.self.items ++ r ∷ []) c.in-Ok.is in
    joining_more g.G.Game.model c.args.g c.args.board.now c.args.ask.now c.args.begun c.args.lead.now c.loop-done.lead c.join.new.pass c.args.found.items
    c.loop-done.found.items c.pop.new.self.items c.in-Ok.done c.from_bare.result c.loop-done.turns.items c.push.new.self.items c.loop-done.was_full c.loop-done.was_full
    c.requires.board.game is c.in_ok-push.ensures.items c.from_bare.ensures c.join.ensures.name c.join.ensures.total c.in-Ok-join.ensures.view
    c.in-Ok-join.ensures.entries c.in-Ok-join.ensures.mine c.in-Ok-join.ensures.theirs (λ e. inl e) (λ e. (e, c.if-is_full.ensures)) c.loop-done.invariant

pub returns-clause-tight : goal.returns-clause-tight
returns-clause-tight g c =
    joining_end g.G.Game.model c.args.g c.args.board.now c.args.ask.now c.args.begun c.args.lead.now c.loop-done.lead c.args.found.items c.loop-done.turns.items c.loop-done.was_full
    (subst (λ l. IsJoining g.G.Game.model c.args.g c.args.board.now c.args.ask.now c.args.begun c.args.lead.now c.loop-done.lead c.args.found.items l c.loop-done.turns.items c.loop-done.was_full)
    (search rules) c.loop-done.invariant)
