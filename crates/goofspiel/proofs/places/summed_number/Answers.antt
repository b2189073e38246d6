use Rattle.std.proofs.Common.{◌≡◌, ℕ, ◌+◌, ◌-◌, ◌/◌, ◌^◌, ◌<◌, length, sym, ap, ap₂, subst, ◌∙◌, arith}
use Rattle.std.specs.Int.Count.{ones, count_trailing_zeros}
use Rattle.state_key.proofs.SetLemmas.{next_number}
use Rattle.goofspiel.specs.laws.Cards.{few_members, taken_out}
use Rattle.goofspiel.specs.Cards.{members}
use Rattle.goofspiel.specs.Counts.{choose}
use Rattle.goofspiel.proofs.PartLemmas.{IsCounted, counted_all, counted_more}
use Rattle.goofspiel.proofs.places.summed_number.Goals as goal

pub above-requires-clause-bit : goal.above-requires-clause-bit
above-requires-clause-bit c =
    let xs = members 13 0 c.args.part in
    let some : c.loop-taken.taken < length xs = let l = c.size-count.ensures 0 in omega (arith, l) in
    let next = next_number 16 13 0 xs c.loop-taken.taken c.loop-taken.rest (omega arith) some (c.loop-taken.invariant.walk 0) in
    let last = (taken_out 0 c.args.part c.loop-taken.taken c.requires.part some).last in
    omega (arith, next.1, last)

pub choose-number-requires-clause-taken : goal.choose-number-requires-clause-taken
choose-number-requires-clause-taken c = let l = c.size-count.ensures 0 in omega (arith, l, few_members 0 c.args.part c.requires.part)

pub overflow_sub-rest : goal.overflow_sub-rest
overflow_sub-rest c =
    let l = c.size-count.ensures 0 in
    (next_number 16 13 0 (members 13 0 c.args.part) c.loop-taken.taken c.loop-taken.rest (omega arith) (omega (arith, l)) (c.loop-taken.invariant.walk 0)).0

pub loop-taken-preserved : goal.loop-taken-preserved
loop-taken-preserved c =
    let set = c.args.set in
    let part = c.args.part in
    let taken = c.loop-taken.taken in
    let rest = c.loop-taken.rest in
    let bit = count_trailing_zeros 16 rest in
    let some : (low : ℕ) → taken < length (members 13 low part) = λ low. let l = c.size-count.ensures low in omega (arith, l) in
    let next = λ (low : ℕ). next_number 16 13 low (members 13 low part) taken rest (omega arith) (some low) (c.loop-taken.invariant.walk low) in
    record {
      walk = λ low. (next low).2;
      is = λ low.
          let choice : choose (ones (set / 2 ^ (bit + 1))) (length (members 13 low part) - taken) ≡ c.choose-number.result =
          sym (c.choose-number.ensures.is ∙ ap₂ choose c.above.ensures.is (ap (λ (n : ℕ). n - taken) (c.size-count.ensures low))) in
          subst (λ (n : ℕ). IsCounted set part (taken + 1) (c.loop-taken.number + n) low) choice
          (counted_more set part taken c.loop-taken.number low bit c.requires.set (some low) (next low).1 (c.loop-taken.invariant.is low));
      few = omega (arith, c.loop-taken.invariant.few, c.choose-number.ensures.few);
    }

pub returns-clause-is : goal.returns-clause-is
returns-clause-is c = λ low within.
    let l = c.size-count.ensures low in
    counted_all c.args.set c.args.part c.loop-taken.taken c.loop-taken.number low (omega (arith, l)) (c.loop-taken.invariant.is low) within

pub returns-clause-few : goal.returns-clause-few
returns-clause-few c = let l = c.size-count.ensures 0 in omega (arith, l, few_members 0 c.args.part c.requires.part, c.loop-taken.invariant.few)
