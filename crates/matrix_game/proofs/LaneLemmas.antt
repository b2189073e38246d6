-- Sums of columns, eight at once.
use Rattle.std.proofs.Common.{◌≡◌, ℕ, ◌+◌, ◌*◌, ◌%◌, ◌^◌, ◌<◌, ◌≤◌, ap, ◌∙◌, arith, List, length, map, replicate, get_or, Fits, w32}
use Rattle.std.proofs.Math.Nat.{mul-le-mul}
use Rattle.std.proofs.lemmas.List.{get_or-map, length-map}
use Rattle.std.proofs.lemmas.Simd.{length-chunk, get_or-chunk, length-zip2, get_or-zip2, get_or-replicate}
use lib.Lanes.{zip2, chunk}

-- the products of the eight numbers from a place on with w
abbrev pub products_of : List ℕ → ℕ → ℕ → List ℕ
products_of xs first w = zip2 (λ a b. (a * b) % 2 ^ 64) (map (λ x. x) (chunk first 8 xs)) (replicate 8 w)

abbrev pub sums_of : List ℕ → List ℕ → ℕ → ℕ → List ℕ
sums_of sums xs first w = zip2 (λ a b. (a + b) % 2 ^ 64) sums (products_of xs first w)

length-products_of : (xs : List ℕ) (first w : ℕ) → first + 8 ≤ length xs → length (products_of xs first w) ≡ 8
length-products_of xs first w h =
    let long : length (map (λ x. x) (chunk first 8 xs)) ≡ 8 = length-map (chunk first 8 xs) (λ x. x) ∙ length-chunk first 8 xs h in
    length-zip2 (λ a b. (a * b) % 2 ^ 64) (map (λ x. x) (chunk first 8 xs)) (replicate 8 w) long ∙ long

pub length-sums_of : (sums xs : List ℕ) (first w : ℕ) → length sums ≡ 8 → first + 8 ≤ length xs → length (sums_of sums xs first w) ≡ 8
length-sums_of sums xs first w e h = length-zip2 (λ a b. (a + b) % 2 ^ 64) sums (products_of xs first w) (omega (arith, e, length-products_of xs first w h)) ∙ e

pub lane-sums_of : (sums xs : List ℕ) (first w k : ℕ) → length sums ≡ 8 → first + 8 ≤ length xs → k < 8 → w ≤ 1048576 → Fits w32 (get_or xs (first + k) 0) → get_or sums k 0 ≤ 1152921504606846976
    → (get_or (sums_of sums xs first w) k 0 ≡ get_or sums k 0 + w * get_or xs (first + k) 0) × (w * get_or xs (first + k) 0 ≤ 4503599627370496)
lane-sums_of sums xs first w k e h l light low room =
    let x = get_or xs (first + k) 0 in
    let eight = chunk first 8 xs in
    let long = length-chunk first 8 xs h in
    let read : get_or eight k 0 ≡ x = get_or-chunk first 8 xs k 0 l in
    let wide : get_or (map (λ y. y) eight) k 0 ≡ x = get_or-map (λ y. y) eight k 0 0 (omega (arith, long)) ∙ read in
    let product : get_or (products_of xs first w) k 0 ≡ (x * w) % 2 ^ 64 =
    get_or-zip2 (λ a b. (a * b) % 2 ^ 64) (map (λ y. y) eight) (replicate 8 w) k 0 0 0 (omega (arith, length-map eight (λ y. y), long)) l
    ∙ ap (λ y. (y * get_or (replicate 8 w) k 0) % 2 ^ 64) wide ∙ ap (λ y. (x * y) % 2 ^ 64) (get_or-replicate 8 k w 0 l) in
    let high : x ≤ 4294967296 = omega (arith, low) in
    let small : w * x ≤ 1048576 * 4294967296 = mul-le-mul light high in
    let added = get_or-zip2 (λ a b. (a + b) % 2 ^ 64) sums (products_of xs first w) k 0 0 0 (omega (arith, e)) (omega (arith, length-products_of xs first w h)) in
    (added ∙ ap (λ y. (get_or sums k 0 + y) % 2 ^ 64) product ∙ omega (arith, small), omega (arith, small))
