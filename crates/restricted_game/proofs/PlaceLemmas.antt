-- Places in a table: they lie within it, and no two draws have one place.
use Rattle.std.proofs.Common.{◌≡◌, ℕ, zero, suc, ◌+◌, ◌*◌, ◌/◌, ◌%◌, ◌<◌, mod-lt, arith}
use Rattle.std.proofs.Math.Nat.{div-lt_iff_lt-mul}
use Rattle.std.proofs.lemmas.Nat.{mul-add-lt, same_from_place}
use Rattle.restricted_game.specs.Tables.{draw_index}

pub place_within : (height width stride one two draw : ℕ) → one < height → two < width → draw < stride → draw_index width stride one two draw < height * width * stride
place_within height width stride one two draw p q r =
    let pair : one * width + two < height * width = omega (arith, mul-add-lt one width two height p q) in
    omega (arith, mul-add-lt (one * width + two) stride draw (height * width) pair r)

-- draws with one place are the same
pub same_place : (width stride a b d one two draw : ℕ) → b < width → two < width → d < stride → draw < stride
    → draw_index width stride a b d ≡ draw_index width stride one two draw → (a ≡ one) × (b ≡ two) × (d ≡ draw)
same_place width stride a b d one two draw p q r l e =
    let same = same_from_place (a * width + b) d (one * width + two) draw stride r l e in
    let pair = same_from_place a b one two width p q same.0 in (pair.0, pair.1, same.1)

-- the moves of a pair
pub record IsPairWithin (height width one two : ℕ) : Type 0 where
  pub one_below : one < height
  pub two_below : two < width

some_column : (place height width : ℕ) → place < height * width → 0 < width
some_column place height zero p = omega arith
some_column place height (suc width) p = omega arith

pub pair_within : (place height width : ℕ) → place < height * width → IsPairWithin height width (place / width) (place % width)
pair_within place height width p =
    let some = some_column place height width p in record { one_below = (div-lt_iff_lt-mul some).1 p; two_below = mod-lt place some }
