use Rattle.std.proofs.Common.{arith}
use Rattle.plan_book.proofs.LookupLemmas.{narrow_up, narrow_down, narrow_found, none_between}
use Rattle.checker.proofs.places.find.Goals as goal
use Rattle.checker.proofs.places.find.Goals.{then-here-key, else-here-key+then-key-here}

pub returns-else-key-here-clause-found : goal.returns-else-key-here-clause-found
returns-else-key-here-clause-found c =
    narrow_found c.args.rows.now c.requires.rising c.args.key c.loop-low.low c.loop-low.high _ c.index-rows-middle.result c.loop-low.invariant c.between-middle.ensures.high (omega arith)

pub loop-low-preserved : goal.loop-low-preserved
loop-low-preserved c = elim c.if-here-key.branch [
  | then-here-key w ↦
      rw (w.low-is, w.high-is)
      (narrow_up c.args.rows.now c.requires.rising c.args.key c.loop-low.low c.loop-low.high _ c.index-rows-middle.result c.loop-low.invariant
      c.loop-low-test.true c.between-middle.ensures.high w.if-here-key.true)
  | else-here-key+then-key-here w ↦
      rw (w.low-is, w.high-is)
      (narrow_down c.args.rows.now c.requires.rising c.args.key c.loop-low.low c.loop-low.high _ c.index-rows-middle.result c.loop-low.invariant
      c.between-middle.ensures.low c.between-middle.ensures.high w.if-key-here.true)
]

pub returns-clause-found : goal.returns-clause-found
returns-clause-found c = none_between c.args.rows.now c.args.key c.loop-low.low c.loop-low.high c.loop-low.invariant.below c.loop-low.invariant.above c.loop-low-test.false
