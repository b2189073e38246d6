use Rattle.std.proofs.Common.{◌≡◌, ◌<◌, pos, slice_index}
use Rattle.matrix_game.specs.Grid.{first_least}
use Rattle.matrix_game.proofs.heights.place_of_least.Given as goal

abbrev pub invariant-loop-place : goal.invariant-loop-place
invariant-loop-place l = record {
  first : l.found ≡ first_least l.place (λ k. pos (slice_index l.numbers k));
  below : l.found < l.place;
  read : l.least ≡ slice_index l.numbers l.found;
}
