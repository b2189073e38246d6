use Rattle.std.proofs.Common.{◌≡◌, true}
use Rattle.table.specs.Setting.{lists_of}
use Rattle.table.specs.Below.{all_below}
use Rattle.table.specs.Faults.{draw_leads_on}
use Rattle.table.proofs.rules.Fitting.leads_on.Given as goal

abbrev pub invariant-loop-d : goal.invariant-loop-d
invariant-loop-d l = all_below l.d (draw_leads_on (lists_of l.self.setting) l.s l.place) ≡ true
