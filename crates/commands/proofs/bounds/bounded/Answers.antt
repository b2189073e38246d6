use Rattle.commands.specs.Bounded.{bounds_status, bounds_text, IsBounded}
use Rattle.commands.specs.Texts.{input_text}
use Rattle.commands.proofs.RunLemmas.{answers, answers_where, fails_unless}
use Rattle.commands.proofs.bounds.bounded.Goals as goal

pub returns-in-Ok-accept : goal.returns-in-Ok-accept
returns-in-Ok-accept c =
    let bytes = c.args.bytes.now in let task = c.in-Ok.task in let end = c.in-Ok-accept.end in
    answers (IsBounded bytes) (bounds_status end) (bounds_text end) c.told.result
    (IsBounded.searched (record { text = task.text; ask = task.ask }) end c.in-Ok.ensures.exact (c.game.result, c.game.ensures.is, c.in-Ok-accept.ensures)) c.told.ensures

pub returns : goal.returns
returns c =
    answers_where (IsBounded c.args.bytes.now) _ 2 (input_text c.in-Err.error) c.refused.result
    (λ memory. IsBounded.refused c.in-Err.error (fails_unless _ c.in-Err.error c.in-Err.ensures.exact memory)) c.refused.ensures
