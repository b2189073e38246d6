use Rattle.std.proofs.Common.{◌≡◌, ℕ, ◌-◌, ◌<◌, ◌≤◌, length, slice_index_or}
use Rattle.induction.proofs.sheets.run_start.Given as goal

abbrev pub invariant-loop-start : goal.invariant-loop-start
invariant-loop-start g l = record {
  within : l.start < length l.states;
  level : (k : ℕ) (d : _) → l.start ≤ k → k < length l.states → (slice_index_or l.states k d).rank ≡ (slice_index_or l.states (length l.states - 1) d).rank;
}

abbrev pub decreases-loop-start : goal.decreases-loop-start
decreases-loop-start g l = l.start
