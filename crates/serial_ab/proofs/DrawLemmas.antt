-- Sums over draws: their range, and one draw more.
use Rattle.std.proofs.Common.{◌≡◌, ⊎_elim, ℕ, ◌+◌, ◌<◌, ◌≤◌, ℤ, pos, negsuc, ◌+ℤ◌, ◌*ℤ◌, ◌≤ℤ◌, w64, SFits, to_z, of_z, refl, sym, subst, ◌∙◌, add-one, arith}
use Rattle.std.proofs.lemmas.Int.{ints, to_z-of_z}
use Rattle.std.proofs.lemmas.Bool.{cases_lt}
use Rattle.sim_game.specs.declared.Side.{Side}
use Rattle.sim_game.specs.declared.Side.TheVariants.{One, Two}
use Rattle.sim_game.specs.Model.{GameModel, IsGame, Reachable}
use Rattle.sums.specs.Sums.{sum_below, count_below}
use Rattle.sums.proofs.IntegerLemmas.{int_le_trans, times_mono}
use Rattle.sim_game.proofs.SideLemmas.{opening_state}
use Rattle.sums.proofs.SumLemmas.{sum_mono, sum_weights}
use Rattle.sim_game.specs.Sides.{other_side, opening_bound, draws_of, chance_of, after_reward}
use Rattle.serial_ab.specs.Values.{turn_value}
use Rattle.plan_book.proofs.GuaranteeLemmas.{chances}
use Rattle.bounds_board.specs.Views.{BoardView, IsLater}
use Rattle.serial_ab.specs.Searches.{IsGoodNumber}
use Rattle.serial_ab.proofs.EntryLemmas.{in_range}
use Rattle.serial_ab.proofs.KeptLemmas.{good_later, count_front, count_part}
use Rattle.serial_ab.proofs.ValueLemmas.{turn_value_low, turn_value_high}

-- no bound is further from 0
record IsSmall (x : ℤ) : Type 0 where
  low : negsuc 3999999999 ≤ℤ x
  high : x ≤ℤ pos 4000000000

product_low : (k : ℕ) (x : ℤ) → k ≤ 360360 → negsuc 3999999999 ≤ℤ x → negsuc 1441439999999999 ≤ℤ (pos k *ℤ x)
product_low k x h l = omega (arith, ints, times_mono k (negsuc 3999999999) x l)

product_high : (k : ℕ) (x : ℤ) → k ≤ 360360 → x ≤ℤ pos 4000000000 → (pos k *ℤ x) ≤ℤ pos 1441440000000000
product_high k x h l = omega (arith, ints, times_mono k x (pos 4000000000) l)

module _ {S : Type 0} (m : GameModel S) (game : IsGame m) (side : Side) (s : S) (own reply : ℕ) (r : Reachable m s) (at : own < m.moves side s)
    (against : reply < m.moves (other_side side) s) where
  small : (d : ℕ) → d < draws_of m side s own reply → IsSmall (turn_value m side s own reply d)
  small d h =
      let range = in_range m s side (turn_value m side s own reply d) (turn_value_low m game side s own reply d r at against h) (turn_value_high m game side s own reply d r at against h) in
      let a = game.low_least in let b = game.high_most in
      let low : opening_bound m One ≤ℤ turn_value m side s own reply d = int_le_trans _ _ _ (opening_state m One s game r) range.0 in
      let high : turn_value m side s own reply d ≤ℤ opening_bound m Two = int_le_trans _ _ _ range.1 (opening_state m Two s game r) in
      record { low = omega (arith, ints); high = omega (arith, ints) }

  chance_small : (d : ℕ) → d < draws_of m side s own reply → chance_of m side s own reply d ≤ 360360
  chance_small d h = omega (arith, count_part (chance_of m side s own reply) d (draws_of m side s own reply) h, chances m game side s own reply r at against)

  chances_small : (n : ℕ) → n ≤ draws_of m side s own reply → count_below n (chance_of m side s own reply) ≤ 360360
  chances_small n h = omega (arith, count_front (chance_of m side s own reply) n (draws_of m side s own reply) h, chances m game side s own reply r at against)

  pub sum_low : (n : ℕ) → n ≤ draws_of m side s own reply → negsuc 1441439999999999 ≤ℤ sum_below n
      (λ d. pos (chance_of m side s own reply d) *ℤ turn_value m side s own reply d)
  sum_low n h =
      let each : sum_below n (λ d. pos (chance_of m side s own reply d) *ℤ negsuc 3999999999) ≤ℤ sum_below n
      (λ d. pos (chance_of m side s own reply d) *ℤ turn_value m side s own reply d) =
      sum_mono n _ _ (λ d l. times_mono (chance_of m side s own reply d) (negsuc 3999999999) _ (small d (omega arith)).low) in
      omega (arith, ints, each, sum_weights n (chance_of m side s own reply) (negsuc 3999999999), chances_small n h)

  pub sum_high : (n : ℕ) → n ≤ draws_of m side s own reply → sum_below n (λ d. pos (chance_of m side s own reply d) *ℤ turn_value m side s own reply d) ≤ℤ pos
      1441440000000000
  sum_high n h =
      let each : sum_below n (λ d. pos (chance_of m side s own reply d) *ℤ turn_value m side s own reply d) ≤ℤ sum_below n
      (λ d. pos (chance_of m side s own reply d) *ℤ pos 4000000000) =
      sum_mono n _ _ (λ d l. times_mono (chance_of m side s own reply d) _ (pos 4000000000) (small d (omega arith)).high) in
      omega (arith, ints, each, sum_weights n (chance_of m side s own reply) (pos 4000000000), chances_small n h)

  module _ (d : ℕ) (h : d < draws_of m side s own reply) (k : ℕ) (is_chance : k ≡ chance_of m side s own reply d) (x : ℤ)
      (is_value : x ≡ turn_value m side s own reply d) where
    few : k ≤ 360360
    few = omega (arith, chance_small d h)

    small_x : IsSmall x
    small_x = subst IsSmall (sym is_value) (small d h)

    chance_is : to_z w64 k ≡ pos k
    chance_is = let f = few in omega (arith, ints)

    found_is : to_z w64 (of_z w64 x) ≡ x
    found_is = let a = small_x.low in let b = small_x.high in omega (arith, ints)

    pub product_fits : SFits w64 (to_z w64 k *ℤ to_z w64 (of_z w64 x))
    product_fits = rw (chance_is, found_is) (let a = product_low k x few small_x.low in let b = product_high k x few small_x.high in omega (arith, ints))

    module _ (sum : ℤ) (summed : sum ≡ sum_below d (λ i. pos (chance_of m side s own reply i) *ℤ turn_value m side s own reply i)) where
      sum_is_low : negsuc 1441439999999999 ≤ℤ sum
      sum_is_low = rw summed (sum_low d (omega arith))

      sum_is_high : sum ≤ℤ pos 1441440000000000
      sum_is_high = rw summed (sum_high d (omega arith))

      pub added_fits : SFits w64 (sum +ℤ to_z w64 (of_z w64 (to_z w64 k *ℤ to_z w64 (of_z w64 x))))
      added_fits = rw (to_z-of_z w64 (to_z w64 k *ℤ to_z w64 (of_z w64 x)) product_fits, chance_is, found_is)
          (let a = product_low k x few small_x.low in let b = product_high k x few small_x.high in let e = sum_is_low in let f = sum_is_high in omega (arith, ints))

      -- the sum with one draw more
      pub added_is : to_z w64 (of_z w64 (sum +ℤ to_z w64 (of_z w64 (to_z w64 k *ℤ to_z w64 (of_z w64 x))))) ≡ sum_below (d + 1)
          (λ i. pos (chance_of m side s own reply i) *ℤ turn_value m side s own reply i)
      added_is = to_z-of_z w64 _ added_fits
          ∙ rw (to_z-of_z w64 (to_z w64 k *ℤ to_z w64 (of_z w64 x)) product_fits, chance_is, found_is, is_value, is_chance, summed, add-one d) refl

    pub good_more : {G N : Type 0} (u v : BoardView G N) → IsLater u v
        → ((i : ℕ) → i < d → after_reward m side s own reply i (IsGoodNumber m side u) (turn_value m side s own reply i))
        → after_reward m side s own reply d (IsGoodNumber m side v) x
        → (i : ℕ) → i < d + 1 → after_reward m side s own reply i (IsGoodNumber m side v) (turn_value m side s own reply i)
    good_more u v later before here i w = ⊎_elim
        (λ (lt : i < d). good_later later (before i lt))
        (λ (ge : d ≤ i). let same : d ≡ i = omega arith in subst (λ (k : ℕ). after_reward m side s own reply k (IsGoodNumber m side v)
        (turn_value m side s own reply k)) same
        (subst (after_reward m side s own reply d (IsGoodNumber m side v)) is_value here))
        (cases_lt i d)
