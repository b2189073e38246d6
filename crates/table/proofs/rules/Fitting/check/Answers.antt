use Rattle.std.proofs.Common.{arith, sym}
use Rattle.table.specs.Setting.{lists_of}
use Rattle.table.specs.laws.Below.{found_at, none_below}
use Rattle.table.specs.Faults.{fault_at}
use Rattle.table.specs.Lists.{state_count}
use Rattle.table.proofs.rules.Fitting.check.Goals as goal

pub returns-in-Some : goal.returns-in-Some
returns-in-Some c =
    let l = lists_of c.args.self.now.setting in
    found_at (state_count l) (fault_at c.args.rule l) c.loop-s.s c.in-Some.fault c.loop-s.invariant (omega arith) (sym c.in-Some.ensures)

pub returns : goal.returns
returns c =
    let l = lists_of c.args.self.now.setting in
    none_below (state_count l) (fault_at c.args.rule l) (λ s below. c.loop-s.invariant s (omega arith))
