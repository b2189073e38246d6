-- Each cell of the lists is that of two moves at a state, and the width is the number of moves of a side somewhere.
use Rattle.std.proofs.Common.{◌≡◌, ℕ, zero, suc, ◌+◌, ◌-◌, ◌*◌, ◌/◌, ◌%◌, ◌<◌, ◌≤◌, length, ap, ◌⊎◌, inl, inr, arith}
use Rattle.std.proofs.lemmas.Bool.{cases_lt}
use Rattle.std.specs.Int.RustNames.{unsigned_abs}
use Rattle.sums.specs.Sums.{count_below}
use Rattle.sim_game.specs.declared.Side.{Side}
use Rattle.sim_game.specs.declared.Side.TheVariants.{One, Two}
use Rattle.table.specs.declared.State.{State}
use Rattle.table.specs.Below.{highest_below}
use Rattle.table.specs.Lists.{Lists, cells_of, count_in, draws_at, place_at, state_count, table_moves, table_rank, table_width}
use Rattle.table.specs.Position.{IsTable}
use Rattle.table.specs.Rules.{place_of}
use Rattle.table.proofs.RankLemmas.{greatest_found, turn_of_cell}

-- which of the pieces that stand one behind the other has the place, given their lengths
count_found : (n : ℕ) (f : ℕ → ℕ) (place : ℕ) → place < count_below n f → (s : ℕ) × (k : ℕ) × (s < n) × (k < f s) × (place ≡ count_below s f + k)
count_found zero f place h = absurd (omega arith)
count_found (suc n) f place h = elim (cases_lt place (count_below n f)) [
  | inl earlier ↦ let found = count_found n f place earlier in (found.0, found.1, omega (arith, found.2), found.3, found.4)
  | inr here ↦ (n, place - count_below n f, omega arith, omega arith, omega arith)
]

module _ (l : Lists) (p : IsTable l) where
  cell_inner : (s k : ℕ) → s < state_count l → k < cells_of l s → 1 ≤ table_rank l s
  cell_inner s k here below = elim (cases_lt 0 (table_rank l s)) [
    | inl more ↦ omega arith
    | inr none ↦ absurd (omega (arith, below, ap (λ (m : ℕ). m * table_moves l Two s) (p.fits.ends One s here (omega arith))))
  ]

  pub cell_found : (place : ℕ) → place < length l.cells
      → (s : ℕ) × (a : ℕ) × (b : ℕ) × (s < state_count l) × (a < table_moves l One s) × (b < table_moves l Two s) × (place_of l s a b ≡ place)
  cell_found place below =
      let found = count_found (state_count l) (cells_of l) place (omega (arith, p.fits.cells_count)) in
      let s = found.0 in
      let k = found.1 in
      let inner = cell_inner s k found.2 found.3 in
      let same : place_at l s k ≡ place = omega (arith, ap unsigned_abs (p.fits.places s found.2 inner), found.4) in
      let draw : 0 < draws_at l (place_at l s k) = (p.cells s k found.2 inner found.3).draws_low in
      let state : State = record { number = s } in
      let turn = turn_of_cell l p (λ there d. there ≡ place) state k 0 found.2 inner found.3 draw same in
      (s, turn.0.one, turn.0.two, found.2, turn.1.one_below, turn.1.two_below, turn.2)

  moves_found : (i : ℕ) → i < length l.moves → (side : Side) × (s : ℕ) × (s < state_count l) × (table_moves l side s ≡ count_in l.moves i)
  moves_found i below = elim (cases_lt (i % 2) 1) [
    | inl even ↦ let same : 2 * (i / 2) ≡ i = omega arith in (One, i / 2, omega (arith, p.fits.moves_count), ap (count_in l.moves) same)
    | inr odd ↦ let same : 2 * (i / 2) + 1 ≡ i = omega arith in (Two, i / 2, omega (arith, p.fits.moves_count), ap (count_in l.moves) same)
  ]

  pub width_found : (table_width l ≡ 1) ⊎ ((side : Side) × (s : ℕ) × (s < state_count l) × (table_moves l side s ≡ table_width l))
  width_found =
      let found = greatest_found (length l.moves) (count_in l.moves) (omega (arith, p.fits.moves_count, p.some)) in
      let moves = moves_found found.0 found.1 in
      elim (cases_lt 1 (highest_below (length l.moves) (count_in l.moves))) [
        | inl more ↦ inr (moves.0, moves.1, moves.2, omega (arith, moves.3, found.2))
        | inr few ↦ inl (omega arith)
      ]
