use Rattle.std.proofs.Common.{◌≡◌, ℕ, ℤ, ◌<◌, length, slice_index_or}
use Rattle.induction.specs.Certified.{IsBestOf}
use Rattle.induction.proofs.sheets.bound_states.Given as goal

abbrev pub invariant-loop-planned : goal.invariant-loop-planned
invariant-loop-planned g l = record {
  as_many : length l.found.items ≡ l.planned-index;
  each : (k : ℕ) (d : _) (b : ℤ) → k < l.planned-index
      → IsBestOf (g.G.Game.model l.g) l.side l.total l.made.rows.items (slice_index_or l.states k d) (slice_index_or l.found.items k b);
}
