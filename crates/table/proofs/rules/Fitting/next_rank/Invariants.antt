use Rattle.std.proofs.Common.{◌≡◌}
use Rattle.table.specs.Setting.{lists_of}
use Rattle.table.specs.Below.{highest_below}
use Rattle.table.specs.Lists.{cell_rank, place_at}
use Rattle.table.proofs.rules.Fitting.next_rank.Given as goal

abbrev pub invariant-loop-k : goal.invariant-loop-k
invariant-loop-k l = l.most ≡ highest_below l.k (λ k. cell_rank (lists_of l.self.setting) (place_at (lists_of l.self.setting) l.s k))
