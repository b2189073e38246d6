use Rattle.table.specs.Setting.{lists_of}
use Rattle.table.proofs.RuleLemmas.{IsWeighed}
use Rattle.table.proofs.rules.Fitting.are_weights.Given as goal

abbrev pub invariant-loop-d : goal.invariant-loop-d
invariant-loop-d l = IsWeighed (lists_of l.self.setting) l.place l.d l.left
