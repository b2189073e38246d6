-- The rank of a state, by the greatest rank of the states that its cells name.
use Rattle.std.proofs.Common.{◌≡◌, ℕ, zero, suc, ◌+◌, ◌-◌, ◌<◌, ◌≤◌, ℤ, pos, negsuc, ◌≤ℤ◌, true, leb, List, [], ◌∷◌, ◌++◌, length, map, take, drop, get_or, refl, ap, ◌∙◌, arith}
use Rattle.std.proofs.lemmas.Bool.{and_parts, cond-false, lt-leb}
use Rattle.std.proofs.lemmas.Int.{ints}
use Rattle.std.proofs.lemmas.List.{get_or-drop, get_or-map, length-map}
use Rattle.std.proofs.lemmas.List.Concat.{get_or-flat_map}
use Rattle.std.proofs.lemmas.List.Folds.{length-flat_map-take}
use Rattle.std.specs.Int.RustNames.{unsigned_abs}
use Rattle.std.specs.List.{flat_map, list_all}
use Rattle.sim_game.specs.declared.Limits.{Limits}
use Rattle.table.specs.Nested.{CellForm, Follows, Draws, StateForm, cell_in_range, draw_in_range, greatest_in, most_state, named_by, rank_behind, rank_told, ranks_told}
use Rattle.table.specs.NestedGame.{cell_draws, cell_follows, form_at}
use Rattle.table.proofs.FormLemmas.{all_in, draw_parts}
use Rattle.table.proofs.RangeLemmas.{within_parts}

-- ---- the greatest of a list
greatest_all : (f : ℤ → ℕ) (most : ℕ) (zs : List ℤ) → ((d : ℕ) → d < length zs → f (get_or zs d (pos 0)) ≤ most) → greatest_in (map f zs) ≤ most
greatest_all f most [] h = omega arith
greatest_all f most (z ∷ zs) h = omega (arith, h 0 (omega arith), greatest_all f most zs (λ d below. h (suc d) (omega arith)))

greatest_there : (f : ℤ → ℕ) (zs : List ℤ) (d : ℕ) → d < length zs → f (get_or zs d (pos 0)) ≤ greatest_in (map f zs)
greatest_there f [] d below = absurd (omega arith)
greatest_there f (z ∷ zs) zero below = omega arith
greatest_there f (z ∷ zs) (suc d) below = omega (arith, greatest_there f zs d (omega arith))

greatest_append : (f : ℤ → ℕ) (most : ℕ) (xs ys : List ℤ) → greatest_in (map f xs) ≤ most → greatest_in (map f ys) ≤ most → greatest_in (map f (xs ++ ys)) ≤ most
greatest_append f most [] ys h h' = h'
greatest_append f most (x ∷ xs) ys h h' = omega (arith, h, greatest_append f most xs ys (omega (arith, h)) h')

-- ---- of the states that cells name
abbrev pub named_at : List CellForm → ℕ → ℕ → ℤ
named_at cells k d = get_or (named_by (get_or cells k (Follows (pos 0)))) d (pos 0)

pub greatest_named : (f : ℤ → ℕ) (most : ℕ) (cells : List CellForm)
    → ((k d : ℕ) → k < length cells → d < length (named_by (get_or cells k (Follows (pos 0)))) → f (named_at cells k d) ≤ most) → greatest_in (map f (flat_map named_by cells)) ≤ most
greatest_named f most [] h = omega arith
greatest_named f most (cell ∷ cells) h =
    greatest_append f most (named_by cell) (flat_map named_by cells) (greatest_all f most (named_by cell) (λ d below. h 0 d (omega arith) below))
    (greatest_named f most cells (λ k d below draw. h (suc k) d (omega arith) draw))

pub named_no_higher : (f : ℤ → ℕ) (cells : List CellForm) (k d : ℕ) → k < length cells → d < length (named_by (get_or cells k (Follows (pos 0))))
    → f (named_at cells k d) ≤ greatest_in (map f (flat_map named_by cells))
named_no_higher f cells k d below draw =
    let start = length (flat_map named_by (take k cells)) in
    let within : start + d < length (flat_map named_by cells) = omega (arith, draw, length-flat_map-take named_by cells k (Follows (pos 0)) below) in
    let same : get_or (flat_map named_by cells) (start + d) (pos 0) ≡ named_at cells k d = get_or-flat_map named_by cells k d (Follows (pos 0)) (pos 0) below draw in
    omega (arith, greatest_there f (flat_map named_by cells) (start + d) within, ap f same)

-- ---- the states that a cell names
pub named_count : (cell : CellForm) → length (named_by cell) ≡ cell_draws cell
named_count (Follows state) = refl
named_count (Draws draws) = length-map draws (λ (draw : List ℤ). get_or draw 0 (pos 0))

no_sign : (z : ℤ) → pos 0 ≤ℤ z → z ≡ pos (unsigned_abs z)
no_sign (pos n) h = refl
no_sign (negsuc n) h = absurd (omega (arith, ints, h))

pub named_is : (limits : Limits) (cell : CellForm) (d : ℕ) → cell_in_range limits cell ≡ true → d < cell_draws cell → get_or (named_by cell) d (pos 0) ≡ pos (cell_follows cell d)
named_is limits (Follows state) zero fine below = no_sign state (within_parts (pos 0) (pos (most_state limits)) state fine).0
named_is limits (Follows state) (suc d) fine below = absurd (omega arith)
named_is limits (Draws draws) d fine below =
    let draw = get_or draws d [] in
    let all = (and_parts (leb (length draws) 255) (list_all (draw_in_range limits) draws) fine).1 in
    let state = get_or draw 0 (pos 0) in
    let named = (draw_parts limits draw (all_in (draw_in_range limits) draws [] d all below)).0 in
    get_or-map (λ (draw : List ℤ). get_or draw 0 (pos 0)) draws d [] (pos 0) below ∙ no_sign state (within_parts (pos 0) (pos (most_state limits)) state named).0

-- ---- ranks
pub rank_in : (n : ℕ) (forms : List StateForm) (s : ℕ) → s < length forms
    → get_or (ranks_told n forms) s 0 ≡ rank_told (n + s) (drop (suc s) (ranks_told n forms)) (form_at forms s)
rank_in n [] s h = absurd (omega arith)
rank_in n (form ∷ forms) zero h = ap (λ (k : ℕ). rank_told k (ranks_told (suc n) forms) form) (omega arith)
rank_in n (form ∷ forms) (suc s) h =
    rank_in (suc n) forms s (omega arith) ∙ ap (λ (k : ℕ). rank_told k (drop (suc s) (ranks_told (suc n) forms)) (form_at forms s)) (omega arith)

pub behind_is : (s : ℕ) (ranks : List ℕ) (n : ℕ) → s < n → rank_behind s (drop (suc s) ranks) (pos n) ≡ get_or ranks n 0
behind_is s ranks n behind = cond-false (leb n s) 0 (get_or (drop (suc s) ranks) (n - suc s) 0) (lt-leb n s behind)
    ∙ get_or-drop (suc s) ranks (n - suc s) 0 ∙ ap (λ (k : ℕ). get_or ranks k 0) (omega arith)
