use Rattle.std.proofs.Common.{arith, below_more, take_all}
use Rattle.std.proofs.lemmas.Str.Parse.{digit_at}
use Rattle.certificate.proofs.NumberLemmas.{digits_value-more, digits_value-ge, are_digits}
use Rattle.certificate.proofs.numbers.digits.Goals as goal

pub returns-then-not-is_ascii_digit : goal.returns-then-not-is_ascii_digit
returns-then-not-is_ascii_digit c = λ h. omega (arith, c.if-not-is_ascii_digit.ensures.cases, digit_at c.args.text.now c.loop-b.b-index h.0 c.loop-b-test.true)

pub returns-in_err-checked_mul : goal.returns-in_err-checked_mul
returns-in_err-checked_mul c =
    rw c.from_residual.ensures
    (λ h. omega (
      arith,
      c.in_err-checked_mul.ensures,
      digits_value-ge c.args.text.now c.loop-b.b-index c.loop-b.n c.loop-b-test.true
          c.loop-b.invariant.1 c.if-not-is_ascii_digit.ensures.cases,
    ))

pub returns-in_err-n : goal.returns-in_err-n
returns-in_err-n c =
    rw c.from_residual-in_err-n.ensures
    (λ h. omega (
      arith,
      c.in_err-n.ensures,
      c.from.ensures,
      digits_value-ge c.args.text.now c.loop-b.b-index c.loop-b.n c.loop-b-test.true
          c.loop-b.invariant.1 c.if-not-is_ascii_digit.ensures.cases,
    ))

pub loop-b-preserved : goal.loop-b-preserved
loop-b-preserved c = (
  omega (arith, c.in_ok-n.ensures),
  omega (arith, digits_value-more c.args.text.now c.loop-b.b-index c.loop-b.n c.loop-b-test.true c.loop-b.invariant.1 c.if-not-is_ascii_digit.ensures.cases),
  below_more _ _ c.loop-b.invariant.2 c.if-not-is_ascii_digit.ensures.cases,
)

pub returns : goal.returns
returns c =
    let same = rw (take_all c.loop-b.b-index c.args.text.now c.loop-b-test.false) at c.loop-b.invariant.1 in
    ((are_digits c.args.text.now (λ k lt. c.loop-b.invariant.2 k (omega arith)), omega (arith, same, c.loop-b.invariant.0)), same)
