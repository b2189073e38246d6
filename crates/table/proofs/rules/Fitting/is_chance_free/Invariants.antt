use Rattle.std.proofs.Common.{◌≡◌, eqb, true}
use Rattle.table.specs.Setting.{lists_of}
use Rattle.table.specs.Below.{all_below}
use Rattle.table.specs.Lists.{draws_at}
use Rattle.table.proofs.rules.Fitting.is_chance_free.Given as goal

abbrev pub invariant-loop-place : goal.invariant-loop-place
invariant-loop-place l = all_below l.place (λ place. eqb (draws_at (lists_of l.self.setting) place) 1) ≡ true
