use Rattle.std.proofs.Common.{◌≡◌, ◌≤◌, vec_len, vec_capacity}
use Rattle.std.specs.Mem.Slots.{slots_items}
use Rattle.shared_board.specs.Closing.{kept_rows}
use Rattle.shared_board.proofs.close.keep_rows.Given as goal

abbrev pub invariant-loop-row : goal.invariant-loop-row
invariant-loop-row l = (l.kept.items ≡ kept_rows (slots_items l.words.words) l.row) × (vec_len l.kept ≤ l.row) × (vec_capacity l.initial.kept ≤ vec_capacity l.kept)
