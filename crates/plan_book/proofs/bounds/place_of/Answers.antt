use Rattle.std.proofs.Common.{arith}
use Rattle.plan_book.proofs.LookupLemmas.{narrow_up, narrow_down, narrow_found, none_between}
use Rattle.plan_book.proofs.bounds.place_of.Goals as goal

pub loop-low-preserved-then-here-key : goal.loop-low-preserved-then-here-key
loop-low-preserved-then-here-key c =
    narrow_up c.args.rows.now c.requires.rising c.args.key c.loop-low.low c.loop-low.high _ c.index-rows-middle.result c.loop-low.invariant c.loop-low-test.true (omega arith) c.if-here-key.true

pub loop-low-preserved : goal.loop-low-preserved
loop-low-preserved c =
    narrow_down c.args.rows.now c.requires.rising c.args.key c.loop-low.low c.loop-low.high _ c.index-rows-middle.result c.loop-low.invariant (omega arith) (omega arith) c.if-key-here.true

pub returns-else-key-here-clause-found : goal.returns-else-key-here-clause-found
returns-else-key-here-clause-found c =
    narrow_found c.args.rows.now c.requires.rising c.args.key c.loop-low.low c.loop-low.high _ c.index-rows-middle.result c.loop-low.invariant (omega arith) (omega arith)

pub returns-clause-found : goal.returns-clause-found
returns-clause-found c = none_between c.args.rows.now c.args.key c.loop-low.low c.loop-low.high c.loop-low.invariant.below c.loop-low.invariant.above c.loop-low-test.false
