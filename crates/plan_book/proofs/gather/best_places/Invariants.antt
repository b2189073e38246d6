use Rattle.std.proofs.Common.{◌≡◌, ◌<◌, ℕ, take, slice_get, option_and_then, nat_eq}
use Rattle.std.specs.Prelude.{IfSome}
use Rattle.std.specs.HashMap.{get}
use Rattle.plan_book.specs.Books.{best_entry}
use Rattle.plan_book.proofs.gather.best_places.Given as goal

-- the places of the best of the entries so far
abbrev pub invariant-loop-i : goal.invariant-loop-i
invariant-loop-i l = record {
  within : (key : ℕ) → IfSome (get nat_eq l.best key) (λ j. j < l.i);
  best : (key : ℕ) → option_and_then (slice_get l.book.entries) (get nat_eq l.best key) ≡ best_entry l.side (take l.i l.book.entries) key;
}
