-- The cells that a position names.
use Rattle.std.proofs.Common.{◌≡◌, ℕ, ◌+◌, ◌*◌, ◌^◌, ◌<◌, ◌≤◌, ◌≢◌, false, eqb, leb, List, [], ◌∷◌, ◌++◌, length, get_or, None, position, refl, sym, subst, ◌∙◌, inl, inr, arith}
use Rattle.std.proofs.Math.Seq.{get_or-append_seam}
use Rattle.std.proofs.lemmas.Bool.{cases_lt, lt-ltb, leb-false, ne_eqb}
use Rattle.std.proofs.lemmas.Bool.Decides.{nat_tests}
use Rattle.std.proofs.lemmas.List.{append_assoc, length-append, get_or_append_left, get_or-append-add}
use Rattle.std.proofs.lemmas.List.Elements.{All-from_get_or, All-append, All-cons, All-nil}
use Rattle.std.proofs.lemmas.List.Folds.{list_any_none}
use Rattle.std.proofs.lemmas.List.Sums.{fails_before_first}
use Rattle.std.specs.List.{All, list_any, position_or_len}
use Rattle.tron.specs.declared.Setting.{Setting}
use Rattle.tron.specs.Cells.{is_listed, with_cell, IsSetOf}
use Rattle.state_key.proofs.SetLemmas.{below_bits, bit_clear, same_set}
use Rattle.tron.specs.laws.Cells.{set_more}
use Rattle.text.specs.Faults.{is_outside}
use Rattle.tron.specs.Position.{named_cells, first_fault, IsGrid, IsSettingOf, IsPosition}

pub none_past : (bound : ℕ) (cells : List ℕ) → position (λ cell. leb bound cell) cells ≡ None → All (λ cell. cell < bound) cells
none_past bound cells none =
    let p = leb bound in
    elim (cases_lt (position_or_len p cells) (length cells)) [
      | inl found ↦ absurd (let e = rw (lt-ltb (position_or_len p cells) (length cells) found) at none in cc)
      | inr past ↦ All-from_get_or (λ cell. cell < bound) cells 0 (λ i l. leb-false bound (get_or cells i 0) (fails_before_first p cells i 0 (omega arith)))
    ]

-- all of the cells are below the bound
pub named_below : (bound : ℕ) (walls : List ℕ) (one two : ℕ) → position (λ cell. leb bound cell) (named_cells walls one two) ≡ None
    → All (λ cell. cell < bound) walls × (one < bound) × (two < bound)
named_below bound walls one two none =
    let cells = named_cells walls one two in
    let all = none_past bound cells none in
    let long : length cells ≡ length walls + 2 = length-append walls (one ∷ two ∷ []) in
    let P : ℕ → Type 0 = λ cell. cell < bound in (
      λ k d l. subst P (get_or_append_left walls (one ∷ two ∷ []) d k l) (all k d (omega arith)),
      subst P (get_or-append_seam walls one (two ∷ []) 0) (all (length walls) 0 (omega arith)),
      subst P (get_or-append-add walls (one ∷ two ∷ []) 1 0) (all (length walls + 1) 0 (omega arith)),
    )

-- the walls and both heads are taken
pub with_heads : (walls : List ℕ) (one two walled : ℕ) → IsSetOf walls walled → IsSetOf (named_cells walls one two) (with_cell (with_cell walled one) two)
with_heads walls one two walled s =
    subst (λ (cells : List ℕ). IsSetOf cells (with_cell (with_cell walled one) two)) (append_assoc walls (one ∷ []) (two ∷ []))
    (set_more (walls ++ one ∷ []) (with_cell walled one) two (set_more walls walled one s))

-- a set of cells below the bound is small
unlisted : (bound : ℕ) (cells : List ℕ) (cell : ℕ) → All (λ other. other < bound) cells → bound ≤ cell → list_any (λ other. eqb other cell) cells ≡ false
unlisted bound cells cell all l = list_any_none (λ other. eqb other cell) cells (λ k d p. ne_eqb _ cell (λ e. absurd (let b = all k d p in omega arith)))

pub set_small : (bound : ℕ) (cells : List ℕ) (taken : ℕ) → All (λ cell. cell < bound) cells → IsSetOf cells taken → taken < 2 ^ bound
set_small bound cells taken all s = below_bits bound taken (λ i l. bit_clear taken i (s.same i ∙ unlisted bound cells i all l))

-- ---- the position
pub no_fault : (height width : ℕ) (walls : List ℕ) (one two : ℕ) → IsGrid height width → position (λ cell. leb (height * width) cell) (named_cells walls one two) ≡ None
    → is_listed walls one ≡ false → is_listed walls two ≡ false → one ≢ two → first_fault height width walls one two ≡ None
no_fault height width walls one two grid none free_one free_two apart =
    let tall : is_outside 1 6 height ≡ false = grind (arith, nat_tests) in
    let wide : is_outside 1 6 width ≡ false = grind (arith, nat_tests) in
    rw (tall, wide, none, free_one, free_two, ne_eqb one two apart) refl

pub position_of : (g : Setting) (walls : List ℕ) → IsGrid g.height g.width → All (λ cell. cell < g.height * g.width) walls → g.one < g.height * g.width → g.two < g.height * g.width
    → IsSetOf (named_cells walls g.one g.two) g.taken → IsPosition g
position_of g walls grid below one two s =
    let all : All (λ cell. cell < g.height * g.width) (named_cells walls g.one g.two) = All-append (λ cell. cell < g.height * g.width) walls (g.one ∷ g.two ∷ []) below
    (All-cons (λ cell. cell < g.height * g.width) g.one (g.two ∷ []) one (All-cons (λ cell. cell < g.height * g.width) g.two [] two (All-nil (λ cell. cell < g.height * g.width)))) in
    record {
      grid = grid;
      one_on_grid = one;
      two_on_grid = two;
      taken_on_grid = set_small (g.height * g.width) (named_cells walls g.one g.two) g.taken all s;
    }

pub one_setting : (height width : ℕ) (walls : List ℕ) (one two : ℕ) (g h : Setting) → IsSettingOf height width walls one two g → IsSettingOf height width walls one two h → g ≡ h
one_setting height width walls one two g h p q =
    let taken = same_set g.taken h.taken (λ cell. p.taken_is.same cell ∙ sym (q.taken_is.same cell)) in
    λ i. record { height = (p.height_is ∙ sym q.height_is) i; width = (p.width_is ∙ sym q.width_is) i; taken = taken i; one = (p.one_is ∙ sym q.one_is) i; two = (p.two_is ∙ sym q.two_is) i }
