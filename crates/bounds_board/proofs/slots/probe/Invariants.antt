use Rattle.std.proofs.Common.{◌≡◌, ℕ, ◌<◌, length}
use Rattle.bounds_board.specs.Slots.{keys_of, IsOther, head_after}
use Rattle.bounds_board.proofs.slots.probe.Given as goal

-- each head that was tried names a row of another key
abbrev pub invariant-loop-tried : goal.invariant-loop-tried
invariant-loop-tried l = record {
  here : l.head ≡ head_after (length l.heads) l.key l._tried;
  passed : (t : ℕ) → t < l._tried → IsOther l.heads (keys_of l.slots) l.key (head_after (length l.heads) l.key t);
}
