-- The pairs of moves of a state, as on a ring.
use Rattle.std.proofs.Common.{◌≡◌, ⊎_elim, ℕ, ◌+◌, ◌-◌, ◌*◌, ◌/◌, ◌%◌, ◌<◌, ◌≤◌, List, length, slice_index, Contains, sym, ap, subst, ◌∙◌, arith}
use Rattle.std.proofs.lemmas.Bool.{cases_lt}
use Rattle.std.proofs.lemmas.List.Elements.{All-contains, All-from_get_or}
use Rattle.std.proofs.lemmas.Nat.{div-mul-add, mod-mul-add}
use Rattle.std.proofs.Math.Nat.{mul-zero, mul-le-mul_right, div-lt_iff_lt-mul, mod-lt, mod-eq_of_lt, mod-add-mod, add-mod_right}

-- what holds of each element by its place holds of those that the list contains
contained : (P : ℕ → Type 0) (xs : List ℕ) → ((i : ℕ) → i < length xs → P (slice_index xs i)) → (x : ℕ) → Contains xs x → P x
contained P xs each x has = All-contains P xs x (All-from_get_or P xs 0 each) has

-- the pairs of moves row by row, as on a ring
ring_place : (first count p : ℕ) → p < count → (turn : ℕ) × (turn < count) × ((first + turn) % count ≡ p)
ring_place first count p below =
    let r = first % count in
    let inside : r < count = mod-lt first (omega arith) in
    let turned : (turn : ℕ) → (first + turn) % count ≡ (r + turn) % count = λ turn. sym (mod-add-mod first count turn) in
    ⊎_elim
    (λ (a : p < r). let turn = p + count - r in
    let is : r + turn ≡ p + count = omega arith in
    (turn, omega arith, turned turn ∙ ap (λ (n : ℕ). n % count) is ∙ add-mod_right p count ∙ mod-eq_of_lt below))
    (λ (b : r ≤ p). let turn = p - r in
    let is : r + turn ≡ p = omega arith in
    (turn, omega arith, turned turn ∙ ap (λ (n : ℕ). n % count) is ∙ mod-eq_of_lt below))
    (cases_lt p r)

-- the moves of a pair
pub pair_inside : (n height width : ℕ) → 0 < height * width → (n % (height * width) / width < height) × (n % (height * width) % width < width)
pair_inside n height width some =
    let wide : 0 < width = ⊎_elim (λ (a : 0 < width). a)
    (λ (b : width ≤ 0). let none : width ≡ 0 = omega arith in let zero : height * width ≡ 0 = ap (λ (k : ℕ). height * k) none ∙ mul-zero height in absurd (omega arith))
    (cases_lt 0 width) in
    ((div-lt_iff_lt-mul {k = width} {x = n % (height * width)} {y = height} wide).1 (mod-lt n some), mod-lt (n % (height * width)) wide)

-- what holds of each pair by its place on the ring holds of all
pub ring_all : (P : ℕ → ℕ → Type 0) (first height width : ℕ) → ((turn : ℕ) → turn < height * width → P ((first + turn) % (height * width) / width) ((first + turn) % (height * width) % width))
    → (one two : ℕ) → one < height → two < width → P one two
ring_all P first height width each one two in_rows in_cols =
    let count = height * width in
    let next : (one + 1) * width ≤ count = mul-le-mul_right {m = one + 1} {n = height} width (omega arith) in
    let below : one * width + two < count = omega arith in
    let at = ring_place first count (one * width + two) below in
    let pair = at.2 in
    subst (λ (x : ℕ). P x two) (ap (λ (n : ℕ). n / width) pair ∙ div-mul-add one width two in_cols)
    (subst (λ (y : ℕ). P ((first + at.0) % count / width) y) (ap (λ (n : ℕ). n % width) pair ∙ mod-mul-add one width two in_cols) (each at.0 at.1))

-- and of those that the lists contain
pub ring_contained : (P : ℕ → ℕ → Type 0) (first : ℕ) (rows cols : List ℕ)
    → ((turn : ℕ) → turn < length rows * length cols
    → P (slice_index rows ((first + turn) % (length rows * length cols) / length cols)) (slice_index cols ((first + turn) % (length rows * length cols) % length cols)))
    → (one two : ℕ) → Contains rows one → Contains cols two → P one two
ring_contained P first rows cols each one two has_one has_two =
    contained (λ x. P x two) rows (λ i in_rows. contained (λ y. P (slice_index rows i) y) cols
    (λ j in_cols. ring_all (λ a b. P (slice_index rows a) (slice_index cols b)) first (length rows) (length cols) each i j in_rows in_cols) two has_two) one has_one
