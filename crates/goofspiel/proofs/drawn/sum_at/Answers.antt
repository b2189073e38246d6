use Rattle.std.proofs.Common.{arith, ◌≡◌, ◌<◌, ℕ, length, get_or, ap}
use Rattle.std.specs.Prelude.{slice_index}
use Rattle.std.proofs.lemmas.List.Sums.{sum_by_more}
use Rattle.std.specs.Int.Count.{count_trailing_zeros}
use Rattle.state_key.proofs.SetLemmas.{next_number}
use Rattle.goofspiel.specs.Cards.{places}
use Rattle.goofspiel.specs.laws.Cards.{few_members, taken_out}
use Rattle.goofspiel.proofs.drawn.sum_at.Goals as goal

pub bounds-prizes-rest : goal.bounds-prizes-rest
bounds-prizes-rest c =
    let l = c.size-end.ensures 0 in
    let some : c.loop.counter < length (places c.args.set) = omega (arith, l) in
    let next = next_number 16 13 0 (places c.args.set) c.loop.counter c.loop.rest (omega arith) some c.loop.invariant.walk in
    let last = (taken_out 0 c.args.set c.loop.counter c.requires some).last in
    omega (arith, next.1, last)

pub overflow_add-sum : goal.overflow_add-sum
overflow_add-sum c =
    let l = c.size-end.ensures 0 in
    let few = few_members 0 c.args.set c.requires in
    let prize = c.fits-prizes (count_trailing_zeros 16 c.loop.rest) in
    omega (arith, l, few, prize, c.loop.invariant.small)

pub overflow_sub-rest : goal.overflow_sub-rest
overflow_sub-rest c =
    let l = c.size-end.ensures 0 in
    (next_number 16 13 0 (places c.args.set) c.loop.counter c.loop.rest (omega arith) (omega (arith, l)) c.loop.invariant.walk).0

pub loop-preserved : goal.loop-preserved
loop-preserved c =
    let xs = places c.args.set in
    let l = c.size-end.ensures 0 in
    let some : c.loop.counter < length xs = omega (arith, l) in
    let next = next_number 16 13 0 xs c.loop.counter c.loop.rest (omega arith) some c.loop.invariant.walk in
    let place : count_trailing_zeros 16 c.loop.rest ≡ get_or xs c.loop.counter 0 = omega (arith, next.1) in
    let at = ap (λ (n : ℕ). get_or c.args.prizes.now n 0) place in
    let more = sum_by_more (slice_index c.args.prizes.now) xs c.loop.counter 0 some in
    record {
      walk = next.2;
      is = let so_far = c.loop.invariant.is in omega (arith, so_far, at, more);
      small = let so_far = c.loop.invariant.small in omega (arith, so_far, c.fits-prizes (count_trailing_zeros 16 c.loop.rest));
    }

pub returns-clause-small : goal.returns-clause-small
returns-clause-small c =
    let few = few_members 0 c.args.set c.requires in
    let l = c.size-end.ensures 0 in
    omega (arith, few, l, c.loop.invariant.small)
