-- How many states a game has, by numbers that tell them apart.
use Rattle.std.proofs.Common.{◌≡◌, ◌≢◌, ℕ, ◌<◌, ◌≤◌, eqb, List, map, length, get_or, subst, sym, ◌∙◌, arith}
use Rattle.std.specs.List.{range_with_len, IsDistinct}
use Rattle.std.proofs.lemmas.Bool.Decides.{Decides-eqb}
use Rattle.std.proofs.lemmas.List.FromFn.{length-map-range_with_len, get_or-map-range_with_len}
use Rattle.std.proofs.lemmas.Map.Made.{IsDistinct-from_AllPairs, is_member-Decides}
use Rattle.std.proofs.lemmas.Map.Steps.{length-le_from_distinct_below}
use Rattle.sim_game.specs.Model.{GameModel, HasAtMost}
use Rattle.sim_game.specs.Numbers.{Numbering, IsNumbering}

-- so many different numbers that all lie below a limit are no more than it
few_below : (count limit : ℕ) (f : ℕ → ℕ) → ((i : ℕ) → i < count → f i < limit) → ((i j : ℕ) → i < j → j < count → f i ≢ f j) → count ≤ limit
few_below count limit f below apart =
    let found : List ℕ = map f (range_with_len 0 count) in
    let long : length found ≡ count = length-map-range_with_len f 0 count in
    let at : (i d : ℕ) → i < count → get_or found i d ≡ f i = λ i d l. get_or-map-range_with_len f 0 count i i d l (omega arith) in
    let differ : IsDistinct eqb found = IsDistinct-from_AllPairs Decides-eqb found
    (λ i j d l h e. apart i j l (omega (arith, h, long)) (sym (at i d (omega (arith, l, h, long))) ∙ e ∙ at j d (omega (arith, h, long)))) in
    let few = length-le_from_distinct_below found limit differ (λ q is.
    let (k, l, e) = (is_member-Decides Decides-eqb found q).0 is in
    subst (λ n. n < limit) (sym (at k q (omega (arith, l, long))) ∙ e) (below k (omega (arith, l, long)))) in
    omega (arith, few, long)

module _ {S : Type 0} (m : GameModel S) where
  -- there are no more states than places
  pub few_numbered : (n : Numbering S) → IsNumbering m n → HasAtMost m n.most
  few_numbered n numbered = record {
    few = λ count states reached differ. few_below count n.most (λ i. n.place (states i)) (λ i l. numbered.below (states i) (reached i l))
        (λ i j l h e. differ i j l h (numbered.apart (states i) (states j) (reached i (omega (arith, l, h))) (reached j h) e));
  }

  pub more_states : (few many : ℕ) → HasAtMost m few → few ≤ many → HasAtMost m many
  more_states few many most l = record { few = λ count states reached differ. let low = most.few count states reached differ in omega (arith, low, l) }
