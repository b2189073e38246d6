use Rattle.std.proofs.Common.{sym, ◌∙◌}
use Rattle.certificate.proofs.NumberLemmas.{number-not_plain, number-digits}
use Rattle.certificate.proofs.numbers.number.Goals as goal

pub returns-then-not-is_plain : goal.returns-then-not-is_plain
returns-then-not-is_plain c = sym (number-not_plain _ (sym c.is_plain.ensures ∙ c.if-not-is_plain.true))

pub returns : goal.returns
returns c = number-digits _ c.digits.result (sym c.is_plain.ensures ∙ c.if-not-is_plain.false) c.digits.ensures
