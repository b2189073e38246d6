-- The weights that a sheet plays at a state, by the row of its key.
use Rattle.std.proofs.Common.{◌≡◌, ℕ, suc, ◌<◌, Bool, true, false, cond, ◌&&◌, eqb, Option, None, Some, List, [], ◌∷◌, map, length, sum, slice_get, get_or, inl, inr, refl, ap, ◌∙◌, arith, add-one}
use Rattle.std.proofs.lemmas.Bool.{cases_eq}
use Rattle.std.proofs.lemmas.Option.{slice_get_read}
use Rattle.std.specs.List.Sorted.{IsStrictlyIncreasing}
use Rattle.sim_game.specs.declared.Side.{Side}
use Rattle.sim_game.specs.Model.{GameModel, Turn}
use Rattle.plan_book.specs.declared.Sheet.{Sheet}
use Rattle.plan_book.specs.declared.SheetRow.{SheetRow}
use Rattle.plan_book.specs.Plans.{PlanRow, AtKey, AreWeights, one_move, row_weights, weights_at}
use Rattle.plan_book.specs.Sheets.{row_at, plan_of}
use Rattle.plan_book.proofs.ExpectedLemmas.{is_same, is_other}
use Rattle.plan_book.proofs.LookupLemmas.{row_keys, keys_length, rises}

abbrev plan_rows : List SheetRow → List PlanRow
plan_rows rows = map (λ r. record { place = AtKey r.key; weights = r.weights }) rows

abbrev fits : ℕ → ℕ → List ℕ → Bool
fits count total weights = eqb (length weights) count && eqb (sum weights) total

-- the weights of the row found, where they are whole, else all on the first move
abbrev chosen : ℕ → ℕ → Option SheetRow → List ℕ
chosen count total None = one_move total count 0
chosen count total (Some r) = cond (fits count total r.weights) r.weights (one_move total count 0)

tail_rises : (x : ℕ) (xs : List ℕ) → IsStrictlyIncreasing (x ∷ xs) → IsStrictlyIncreasing xs
tail_rises x xs up = λ k h.
    let step : get_or (x ∷ xs) (suc k) 0 < get_or (x ∷ xs) (suc (suc k)) 0 = rw add-one at (up (suc k) (omega arith)) in
    rw add-one step

no_weights : (rows : List SheetRow) (key : ℕ) (history : List Turn) (count total : ℕ) → ((k : ℕ) → k < length rows → get_or (row_keys rows) k 0 ≡ key → ⊥)
    → row_weights (plan_rows rows) key history count total ≡ one_move total count 0
no_weights [] key history count total h = refl
no_weights (r ∷ rows) key history count total h = rw (is_other r.key key (h 0 (omega arith))) (no_weights rows key history count total (λ k p. h (suc k) (omega arith)))

weights_chosen : (rows : List SheetRow) (key : ℕ) (history : List Turn) (count total : ℕ) → IsStrictlyIncreasing (row_keys rows)
    → row_weights (plan_rows rows) key history count total ≡ chosen count total (row_at rows key)
weights_chosen [] key history count total up = refl
weights_chosen (r ∷ rows) key history count total up =
    elim (cases_eq r.key key) [
      | inl same ↦
          let rest : row_weights (plan_rows rows) key history count total ≡ one_move total count 0 =
          no_weights rows key history count total (λ k p e.
          let below : r.key < get_or (row_keys rows) k 0 = rises (row_keys (r ∷ rows)) up 0 (suc k) (omega arith) (rw (keys_length (r ∷ rows)) (omega arith)) in
          absurd (omega (arith, below, same, e))) in
          rw (is_same r.key key same) (ap (λ (ws : List ℕ). cond (fits count total r.weights) r.weights ws) rest)
      | inr other ↦ rw (is_other r.key key other) (weights_chosen rows key history count total (tail_rises r.key (row_keys rows) up))
    ]

whole_fits : (count total : ℕ) (weights : List ℕ) → AreWeights count total weights → fits count total weights ≡ true
whole_fits count total weights h = rw (is_same _ _ h.one_each, is_same _ _ h.sums) refl

other_fails : (count total : ℕ) (weights : List ℕ) → ¬ AreWeights count total weights → fits count total weights ≡ false
other_fails count total weights h = elim (cases_eq (length weights) count) [
  | inl p ↦ elim (cases_eq (sum weights) total) [
    | inl q ↦ absurd (h (record { one_each = p; sums = q }))
    | inr n ↦ rw (is_same _ _ p, is_other _ _ n) refl
  ]
  | inr n ↦ rw (is_other _ _ n) refl
]

module _ {S : Type 0} (m : GameModel S) (side : Side) (sheet : Sheet) (s : S) (history : List Turn) (rising : IsStrictlyIncreasing (row_keys sheet.rows)) where
  by_row : (row : Option SheetRow) → row_at sheet.rows (m.key s) ≡ row → weights_at m side (plan_of sheet) s history ≡ chosen (m.moves side s) sheet.total row
  by_row row e = weights_chosen sheet.rows (m.key s) history (m.moves side s) sheet.total rising ∙ ap (chosen (m.moves side s) sheet.total) e

  -- there is no row
  pub plays_first : row_at sheet.rows (m.key s) ≡ None → weights_at m side (plan_of sheet) s history ≡ one_move sheet.total (m.moves side s) 0
  plays_first e = by_row None e

  -- the row is played
  pub plays_row : (row : SheetRow) → row_at sheet.rows (m.key s) ≡ Some row → AreWeights (m.moves side s) sheet.total row.weights → weights_at m side (plan_of sheet) s history ≡ row.weights
  plays_row row e h = by_row (Some row) e ∙ ap (λ (b : Bool). cond b row.weights (one_move sheet.total (m.moves side s) 0)) (whole_fits _ _ _ h)

  -- the row is not played
  pub plays_no_row : (row : SheetRow) → row_at sheet.rows (m.key s) ≡ Some row → ¬ AreWeights (m.moves side s) sheet.total row.weights
      → weights_at m side (plan_of sheet) s history ≡ one_move sheet.total (m.moves side s) 0
  plays_no_row row e h = by_row (Some row) e ∙ ap (λ (b : Bool). cond b row.weights (one_move sheet.total (m.moves side s) 0)) (other_fails _ _ _ h)

-- the row at the place that a search of the rows finds
pub row_found_at : (rows slice : List SheetRow) (key at place : ℕ) (row : SheetRow) → slice ≡ rows → at ≡ key
    → row_at slice at ≡ slice_get slice place → place < length slice → row ≡ get_or slice place row
    → row_at rows key ≡ Some row
row_found_at rows slice key at place row same keyed here within is = rw (← same, ← keyed) (here ∙ slice_get_read slice (length slice) place row refl within is)
