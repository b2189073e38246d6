-- Means at draws: between which numbers they lie, and how large they are.
use Rattle.std.proofs.Common.{◌≡◌, ℕ, ◌+◌, ◌*◌, ◌<◌, ◌≤◌, ℤ, pos, neg_ℤ, ◌+ℤ◌, ◌*ℤ◌, unsigned_abs, w64, SFits, to_z, of_z, List, [], ◌∷◌, ◌++◌, map, All, sym, ap, ◌∙◌, arith}
use Rattle.std.proofs.lemmas.Int.{ints, to_z-of_z}
use Rattle.std.specs.List.{range_with_len}
use Rattle.std.proofs.lemmas.List.Elements.{All-push, All-same}
use Rattle.std.proofs.lemmas.List.FromFn.{map-range_with_len_more}
use Rattle.sums.specs.Sums.{sum_below, count_below}
use Rattle.sums.proofs.CountLemmas.{count_term}
use Rattle.sums.proofs.SumLemmas.{sum_weights, sum_more}
use Rattle.sim_game.specs.declared.Side.{Side}
use Rattle.sim_game.specs.declared.Side.TheVariants.{One, Two}
use Rattle.sim_game.specs.Model.{GameModel, IsGame, Reachable, whole_chance}
use Rattle.sim_game.specs.Sides.{IsNoTighter}
use Rattle.sim_game.proofs.SideLemmas.{looser_left, looser_right, looser_trans, looser_times, looser_sum, looser_cancel}
use Rattle.plan_book.specs.Steps.{rounded}
use Rattle.plan_book.proofs.StepLemmas.{looser_rounded, rounded_tightest}
use Rattle.matrix_game.specs.Grid.{IsSmallCell}
use Rattle.restricted_game.specs.declared.table.StageTable.{StageTable}
use Rattle.bounds_board.specs.Views.{bound_in}
use Rattle.restricted_game.specs.Sizes.{IsSmallEnclosure}
use Rattle.restricted_game.specs.Tables.{HasShape, enclosure_in, pair_cell, draw_index}
use Rattle.restricted_game.proofs.PlaceLemmas.{place_within}

-- a chance is a weight
pub chance_light : {S : Type 0} (m : GameModel S) (s : S) (one two draw : ℕ) → IsGame m → Reachable m s → one < m.moves One s → two < m.moves Two s
    → draw < m.draws s one two → m.chance s one two draw ≤ 1048576
chance_light m s one two draw game r p q d = omega (arith, count_term (m.draws s one two) (m.chance s one two) draw d, game.chance_sum s one two r p q)

module _ (side : Side) (n : ℕ) (chance : ℕ → ℕ) (all : count_below n chance ≡ whole_chance) (numbers : ℕ → ℤ) (limit : ℤ) where
  -- a limit that no number is looser than, and one that no number is tighter than
  pub mean_from : ((d : ℕ) → d < n → IsNoTighter side limit (numbers d)) → IsNoTighter side limit (rounded side (sum_below n (λ d. pos (chance d) *ℤ numbers d)))
  mean_from h = rounded_tightest side _ limit
      (looser_left side _ _ _ (sum_weights n chance limit ∙ ap (λ (k : ℕ). pos k *ℤ limit) all)
      (looser_sum side n _ _ (λ d l. looser_times side (chance d) _ _ (h d l))))

  pub mean_to : ((d : ℕ) → d < n → IsNoTighter side (numbers d) limit) → IsNoTighter side (rounded side (sum_below n (λ d. pos (chance d) *ℤ numbers d))) limit
  mean_to h = looser_cancel side whole_chance _ _ (omega arith)
      (looser_trans side _ _ _ (looser_rounded side _)
      (looser_right side _ _ _ (sum_weights n chance limit ∙ ap (λ (k : ℕ). pos k *ℤ limit) all)
      (looser_sum side n _ _ (λ d l. looser_times side (chance d) _ _ (h d l)))))

mean_small : (side : Side) (n : ℕ) (chance : ℕ → ℕ) → count_below n chance ≡ whole_chance → (numbers : ℕ → ℤ) → ((d : ℕ) → d < n → unsigned_abs (numbers d) ≤ 4000000000)
    → unsigned_abs (rounded side (sum_below n (λ d. pos (chance d) *ℤ numbers d))) ≤ 4000000000
mean_small One n chance all numbers h =
    let low = mean_from One n chance all numbers (neg_ℤ (pos 4000000000)) (λ d l. let s = h d l in omega (arith, ints)) in
    let high = mean_to One n chance all numbers (pos 4000000000) (λ d l. let s = h d l in omega (arith, ints)) in
    omega (arith, ints)
mean_small Two n chance all numbers h =
    let high = mean_from Two n chance all numbers (pos 4000000000) (λ d l. let s = h d l in omega (arith, ints)) in
    let low = mean_to Two n chance all numbers (neg_ℤ (pos 4000000000)) (λ d l. let s = h d l in omega (arith, ints)) in
    omega (arith, ints)

pub bound_small : (side : Side) (table : StageTable) (one two draw : ℕ) → one < table.height → two < table.width → draw < table.stride
    → unsigned_abs (bound_in side (enclosure_in table one two draw)) ≤ 4000000000
bound_small side table one two draw p q r =
    of_side side (table.small
    (draw_index table.width table.stride one two draw) _ (omega (arith, place_within table.height table.width table.stride one two draw p q r, table.room, table.enclosures.ok.0))) where
      of_side : (side : Side) → IsSmallEnclosure (enclosure_in table one two draw) → unsigned_abs (bound_in side (enclosure_in table one two draw)) ≤ 4000000000
      of_side One small = small.lower
      of_side Two small = small.upper

pub cell_small : {S : Type 0} (m : GameModel S) (s : S) (side : Side) (table : StageTable) (one two : ℕ) → IsGame m → Reachable m s → HasShape m s table → one < m.moves One s → two < m.moves Two s
    → unsigned_abs (pair_cell m side s table one two) ≤ 4000000000
cell_small m s side table one two game r shape p q =
    mean_small side (m.draws s one two) (m.chance s one two) (game.chance_sum s one two r p q) (λ draw. bound_in side (enclosure_in table one two draw))
    (λ d l. bound_small side table one two d (rw shape.height p) (rw shape.width q) (omega (arith, shape.stride.draws one two p q)))

-- one draw more in a sum of 64 bits
pub sum_step : (n : ℕ) (f : ℕ → ℤ) (sum x : ℤ) → n < 13 → sum ≡ sum_below n f → unsigned_abs sum ≤ n * 4194304000000000 → x ≡ f n → unsigned_abs x ≤ 4194304000000000
    → (to_z w64 (of_z w64 (sum +ℤ to_z w64 (of_z w64 x))) ≡ sum_below (n + 1) f) × (unsigned_abs (to_z w64 (of_z w64 (sum +ℤ to_z w64 (of_z w64 x)))) ≤ (n + 1) * 4194304000000000)
sum_step n f sum x few summed small value light =
    let fx : SFits w64 x = omega (arith, ints) in
    let fs : SFits w64 (sum +ℤ x) = omega (arith, ints) in
    rw (to_z-of_z w64 x fx, to_z-of_z w64 (sum +ℤ x) fs) (
      ap (λ (z : ℤ). z +ℤ x) summed ∙ ap (λ (z : ℤ). sum_below n f +ℤ z) value ∙ sym (sum_more n f),
      omega (arith, ints),
    )

-- ---- lists of cells
-- one cell more
pub cells_more : (f : ℕ → ℤ) (n : ℕ) (cells next : List ℤ) (x : ℤ) → next ≡ cells ++ x ∷ [] → cells ≡ map f (range_with_len 0 n) → All IsSmallCell cells → x ≡ f n → IsSmallCell x
    → (next ≡ map f (range_with_len 0 (n + 1))) × All IsSmallCell next
cells_more f n cells next x pushed so_far small value light = (
  pushed ∙ ap (λ (xs : List ℤ). xs ++ x ∷ []) so_far ∙ ap (λ (y : ℤ). map f (range_with_len 0 n) ++ y ∷ []) value ∙ sym (map-range_with_len_more f 0 n n (omega arith)),
  All-same IsSmallCell next (cells ++ x ∷ []) pushed (All-push IsSmallCell cells x small light),
)
