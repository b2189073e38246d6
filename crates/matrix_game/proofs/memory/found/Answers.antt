use Rattle.std.proofs.Common.{subst, sym, ap, ◌∙◌, IfSome}
use Rattle.std.specs.Option.{option_copied}
use Rattle.matrix_game.specs.Memories.{AnswersKey, AreKept}
use Rattle.matrix_game.proofs.MemoryLemmas.{kept-found, kept-copied, kept-promoted}
use Rattle.matrix_game.proofs.memory.found.Goals as goal

pub returns-in_err-solution-clause-kept : goal.returns-in_err-solution-clause-kept
returns-in_err-solution-clause-kept c =
    subst (AreKept c.args.stages.now.cap) (sym c.promote.ensures.entries) (kept-promoted c.args.stages.now.cap c.args.stages.now c.args.key.now c.requires)

pub returns-clause-kept : goal.returns-clause-kept
returns-clause-kept c =
    subst (AreKept c.args.stages.now.cap) (sym c.promote.ensures.entries) (kept-promoted c.args.stages.now.cap c.args.stages.now c.args.key.now c.requires)

pub returns-clause-weights : goal.returns-clause-weights
returns-clause-weights c =
    let key = c.args.key.now in
    let s = c.in_ok-solution.solution.now in
    let are : AreKept c.args.stages.now.cap c.promote.new.self =
    subst (AreKept c.args.stages.now.cap) (sym c.promote.ensures.entries) (kept-promoted c.args.stages.now.cap c.args.stages.now key c.requires) in
    let kept : AnswersKey key s.p.items s.v.items = kept-found c.args.stages.now.cap c.promote.new.self key s are (sym c.peek.ensures ∙ ap option_copied c.in_ok-solution.was) in
    subst (λ r. IfSome r (λ x. AnswersKey key x.p.items x.v.items)) (sym c.ok.ensures.value) (kept-copied key s c.copied.result c.copied.ensures.p c.copied.ensures.v kept)
