use Rattle.std.proofs.Common.{arith, ◌<◌}
use Rattle.std.proofs.lemmas.Int.{ints}
use Rattle.sim_game.specs.declared.Side.TheVariants.{One, Two}
use Rattle.table.specs.laws.Below.{found_at, none_below}
use Rattle.table.specs.Faults.{total_fault_at}
use Rattle.table.specs.Lists.{state_count}
use Rattle.table.specs.Setting.{lists_of}
use Rattle.table.proofs.PositionLemmas.{total_high, total_low}
use Rattle.table.proofs.rules.Shaped.check_totals.Goals.{then-least-ltminus4000-via-then-least-ltminus4000, then-least-ltminus4000-via-else-least-ltminus4000+then-most-gt4000}
use Rattle.table.proofs.rules.Shaped.check_totals.Goals as goal

pub returns-then-least-ltminus4000 : goal.returns-then-least-ltminus4000
returns-then-least-ltminus4000 c =
    let l = lists_of c.args.self.now.setting in
    let s = c.loop-s.s in
    let here : c.loop-s.s < state_count (lists_of c.args.self.now.setting) = omega (arith, c.loop-s-test.true) in
    found_at (state_count l) (total_fault_at l) s _ c.loop-s.invariant here (elim c.then-least-ltminus4000.branch [
      | then-least-ltminus4000-via-then-least-ltminus4000 w ↦ total_low l s (omega (arith, ints, w.if-least-ltminus4000.true, c.total_in-least.ensures, c.requires.each One s here))
      | then-least-ltminus4000-via-else-least-ltminus4000+then-most-gt4000 w ↦ total_high l s (omega (arith, ints, w.if-most-gt4000.true, c.total_in-most.ensures, c.requires.each Two s here))
    ])

pub returns : goal.returns
returns c =
    let l = lists_of c.args.self.now.setting in
    none_below (state_count l) (total_fault_at l) (λ s below. c.loop-s.invariant s (omega (arith, c.loop-s-test.false)))
