use Rattle.std.proofs.Common.{arith, ℕ, ◌≡◌, subst}
use Rattle.state_key.proofs.SetLemmas.{IsDropped, next_number}
use Rattle.goofspiel.specs.Cards.{members}
use Rattle.goofspiel.proofs.sets.number_at.Goals as goal

pub overflow_sub-rest : goal.overflow_sub-rest
overflow_sub-rest c = (next_number 16 13 c.args.low (members 13 c.args.low c.args.set) c.loop.counter c.loop.rest (omega arith) (omega arith) c.loop.invariant).0

pub loop-preserved : goal.loop-preserved
loop-preserved c = (next_number 16 13 c.args.low (members 13 c.args.low c.args.set) c.loop.counter c.loop.rest (omega arith) (omega arith) c.loop.invariant).2

pub returns : goal.returns
returns c =
    let xs = members 13 c.args.low c.args.set in
    let there : c.loop.counter ≡ c.args.place = omega arith in
    omega (
      arith,
      (next_number 16 13 c.args.low xs c.args.place c.loop.rest (omega arith) c.requires.place
          (subst (λ (count : ℕ). IsDropped 13 c.args.low xs count c.loop.rest) there c.loop.invariant)).1,
    )
