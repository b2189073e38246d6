-- Held moves: one move, one move more, and how many there are.
use Rattle.std.proofs.Common.{rules, ◌≡◌, ℕ, zero, suc, ◌+◌, ◌<◌, ◌≤◌, Bool, true, false, eqb, List, [], ◌∷◌, ◌++◌, length, refl, sym, ap, subst, ◌∙◌, arith, add-one, ◌*◌, ◌/◌, ◌%◌, slice_index, mod-lt}
use Rattle.std.proofs.Math.Nat.{div-lt_iff_lt-mul}
use Rattle.std.proofs.lemmas.Nat.{mul-add-lt}
use Rattle.std.proofs.lemmas.Bool.{eqb-true}
use Rattle.std.proofs.lemmas.List.{length_push, map-id}
use Rattle.std.proofs.lemmas.List.FromFn.{map-range_with_len_more}
use Rattle.std.proofs.lemmas.List.Elements.{All-nil, All-cons, All-push, All-contains}
use Rattle.std.proofs.lemmas.Map.Keys.{IsDistinct-push}
use Rattle.std.proofs.lemmas.Map.Steps.{length-le_from_distinct_below}
use Rattle.std.proofs.lemmas.Map.Views.{Contains-from_any}
use Rattle.std.specs.Cmp.{nat_eq_equiv}
use Rattle.std.specs.List.{Contains, IsDistinct, list_any, range_with_len}
use Rattle.restricted_game.specs.declared.held.StepEnd.{StepEnd}
use Rattle.restricted_game.specs.declared.held.StepEnd.TheVariants.{Grown, Done}
use Rattle.restricted_game.specs.Held.{HeldMoves, AreMoves, IsHolding, count_held, count_moves, HasGrown, IsGrown, AreSteps, FewSteps}

alone : (x : ℕ) → IsDistinct eqb (x ∷ [])
unfolding IsDistinct
alone x = search rules

pub one_move : (n x : ℕ) → x < n → AreMoves n (x ∷ [])
one_move n x h = record {
  some = omega arith;
  within = All-cons (λ y. y < n) x [] h (All-nil (λ y. y < n));
  apart = alone x;
  few = omega arith;
}

no_other : (b : Bool) → (b ≡ true → ⊥) → b ≡ false
no_other true h = absurd (h refl)
no_other false h = refl

-- a further move
pub moves_more : (n : ℕ) (moves : List ℕ) (x : ℕ) → AreMoves n moves → x < n → (Contains moves x → ⊥) → AreMoves n (moves ++ x ∷ [])
moves_more n moves x held h other =
    let apart = IsDistinct-push nat_eq_equiv moves x held.apart (no_other (list_any (eqb x) moves) (λ e. other (Contains-from_any eqb-true x moves e))) in
    let within = All-push (λ y. y < n) moves x held.within h in record {
      some = omega (arith, length_push moves x);
      within = within;
      apart = apart;
      few = length-le_from_distinct_below (moves ++ x ∷ []) n apart (λ q e. All-contains (λ y. y < n) (moves ++ x ∷ []) q within (Contains-from_any eqb-true q (moves ++ x ∷ []) e));
    }

-- the first numbers
pub range_more : (n : ℕ) → range_with_len 0 (n + 1) ≡ range_with_len 0 n ++ n ∷ []
range_more n = sym (map-id (range_with_len 0 (n + 1))) ∙ map-range_with_len_more (λ i. i) 0 n n (omega arith) ∙ ap (λ (l : List ℕ). l ++ n ∷ []) (map-id (range_with_len 0 n))

first_moves : (n k : ℕ) → suc k ≤ n → AreMoves n (range_with_len 0 (suc k))
first_moves n zero h = one_move n 0 (omega arith)
first_moves n (suc k) h =
    let before = first_moves n k (omega arith) in
    let other : Contains (range_with_len 0 (suc k)) (suc k) → ⊥ = λ held.
    let below = All-contains (λ y. y < suc k) (range_with_len 0 (suc k)) (suc k) (first_moves (suc k) k (omega arith)).within held in omega (arith, below) in
    subst (λ (l : List ℕ). AreMoves n l) (sym (range_more (suc k)) ∙ ap (range_with_len 0) (add-one (suc k))) (moves_more n (range_with_len 0 (suc k)) (suc k) before (omega arith) other)

pub all_moves_held : (n : ℕ) → 1 ≤ n → AreMoves n (range_with_len 0 n)
all_moves_held zero h = absurd (omega arith)
all_moves_held (suc n) h = first_moves (suc n) n (omega arith)

-- no more moves are held than there are
pub held_few : (h : HeldMoves) → IsHolding h → count_held h ≤ count_moves h
held_few h held = let a = held.rows.few in let b = held.cols.few in omega arith

-- ---- how many steps there are
grown_more : (old new : HeldMoves) (end : StepEnd) → HasGrown old new end → IsGrown end → (count_held old < count_held new) × (count_held new ≤ count_moves new)
grown_more old new (Grown row col) h g = h
grown_more old new (Done lower upper) h g = absurd g

held_next : (moves : ℕ) (held : ℕ → HeldMoves) (ends : ℕ → StepEnd) (count i : ℕ) → AreSteps moves held ends count → suc i < count → i + 2 ≤ count_held (held i)
    → (i + 3 ≤ count_held (held (suc i))) × (count_held (held (suc i)) ≤ moves)
held_next moves held ends count i steps h before =
    let more = grown_more (held i) (held (i + 1)) (ends i) (steps.each i (omega arith)) (steps.growing i (omega arith)) in
    let same : count_held (held (i + 1)) ≡ count_held (held (suc i)) = ap (λ (k : ℕ). count_held (held k)) (add-one i) in
    (omega arith, omega (arith, steps.same (i + 1) (omega arith)))

held_at : (moves : ℕ) (held : ℕ → HeldMoves) (ends : ℕ → StepEnd) (count : ℕ) → AreSteps moves held ends count → (i : ℕ) → i < count → i + 2 ≤ count_held (held i)
held_at moves held ends count steps zero h = steps.starts
held_at moves held ends count steps (suc i) h = let next = held_next moves held ends count i steps h (held_at moves held ends count steps i (omega arith)) in omega arith

pub few_steps : FewSteps
few_steps moves held ends zero steps = omega (arith, steps.starts, steps.fits)
few_steps moves held ends (suc zero) steps = omega (arith, steps.starts, steps.fits)
few_steps moves held ends (suc (suc i)) steps =
    let next = held_next moves held ends (suc (suc i)) i steps (omega arith) (held_at moves held ends (suc (suc i)) steps i (omega arith)) in omega arith

-- ---- cells of held moves
-- where the cell of a held row and a held column stands among all
pub held_place : (height width : ℕ) (rows cols : List ℕ) (place : ℕ) → AreMoves height rows → AreMoves width cols → place < length rows * length cols
    → slice_index rows (place / length cols) * width + slice_index cols (place % length cols) < height * width
held_place height width rows cols place held_rows held_cols h =
    let some : 0 < length cols = held_cols.some in
    let row = held_rows.within (place / length cols) 0 ((div-lt_iff_lt-mul {k = length cols} {x = place} {y = length rows} some).1 h) in
    let col = held_cols.within (place % length cols) 0 (mod-lt place some) in
    omega (arith, mul-add-lt (slice_index rows (place / length cols)) width (slice_index cols (place % length cols)) height row col)
