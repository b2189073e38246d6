use Rattle.commands.specs.Reports.{fault_text}
use Rattle.commands.specs.Matches.{IsPlayedMatch}
use Rattle.commands.proofs.RunLemmas.{answers_where}
use Rattle.commands.proofs.play.played.Goals as goal

pub returns-in-Ok-accept : goal.returns-in-Ok-accept
returns-in-Ok-accept c =
    rw (c.written.ensures.status, c.written.ensures.text)
    (IsPlayedMatch.played c.in-Ok.found.report c.in-Ok-accept.text c.in-Ok.ensures.0 (c.game.result, c.game.ensures, c.in-Ok-accept.ensures))

pub returns : goal.returns
returns c =
    answers_where (IsPlayedMatch c.args.games c.args.seed c.args.bytes.now) _ 9 (fault_text c.in-Err.fault) c.faulty.result
    (λ memory. IsPlayedMatch.unread c.in-Err.fault (c.in-Err.ensures memory)) c.faulty.ensures
