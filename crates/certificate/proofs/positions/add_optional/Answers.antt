use Rattle.std.proofs.Common.{sym, ◌∙◌}
use Rattle.std.proofs.lemmas.Result.{on_ok_weaker}
use Rattle.text.proofs.TextLemmas.{nothing, as_text}
use Rattle.certificate.proofs.PositionLaws.{optional_none, optional_some}
use Rattle.certificate.proofs.positions.add_optional.Goals as goal

pub returns-then-is_empty : goal.returns-then-is_empty
returns-then-is_empty c = as_text (optional_none c.args.zs.now (sym c.is_empty.ensures ∙ c.if-is_empty.true)) (nothing _)

pub returns : goal.returns
returns c =
    on_ok_weaker c.add_numbers.result (λ added. as_text (optional_some c.args.zs.now (sym c.is_empty.ensures ∙ c.if-is_empty.false)) added) c.add_numbers.ensures
