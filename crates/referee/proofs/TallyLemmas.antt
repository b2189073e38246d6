-- Totals, one game after another.
use Rattle.std.proofs.Common.{ap₂, ◌≡◌, ℕ, suc, ◌+◌, ◌*◌, ◌<◌, ◌≤◌, ℤ, pos, neg_ℤ, ◌+ℤ◌, ◌≤ℤ◌, List, [], ◌∷◌, Result, Ok, Err, sym, ap, subst, ◌∙◌, inl, inr, arith, add-one, ◌⊎◌}
use Rattle.std.specs.Prelude.{IfOk, OnOk, unsigned_abs}
use Rattle.std.specs.Int.{int_max, int_min}
use Rattle.std.proofs.lemmas.Bool.{cases_lt}
use Rattle.std.proofs.lemmas.Int.{ints, clamps, by_lt_z}
use Rattle.std.proofs.Math.IntN.{+ℤ_idl}
use Rattle.sim_game.specs.Model.{GameModel, IsGame, Reachable, after_turn}
use Rattle.sim_game.proofs.ReachLemmas.{reachable_root, reachable_turn}
use Rattle.sums.specs.Sums.{sum_below}
use Rattle.sums.proofs.IntegerLemmas.{int_le_trans}
use Rattle.sums.proofs.SumLemmas.{sum_more}
use Rattle.plan_book.specs.declared.Sheet.{Sheet}
use Rattle.referee.specs.declared.PlayedTurn.{PlayedTurn}
use Rattle.referee.specs.declared.Record.{Record}
use Rattle.referee.specs.declared.Totals.{Totals}
use Rattle.referee.specs.Streams.{state_after, words_of_game}
use Rattle.referee.specs.Tallies.{IsLeast, IsMost, AreTotals, game_payoff}
use Rattle.referee.specs.Transcripts.{as_turn, payoff_after, IsPlayed, IsRecord, words_needed}

-- ---- payoffs are small
above : (pay next here rest : ℤ) → here ≤ℤ (pay +ℤ next) → next ≤ℤ rest → here ≤ℤ (pay +ℤ rest)
above pay next here rest p q = omega (arith, ints)

below : (pay next here rest : ℤ) → (pay +ℤ next) ≤ℤ here → rest ≤ℤ next → (pay +ℤ rest) ≤ℤ here
below pay next here rest p q = omega (arith, ints)

-- what turns to an end pay lies in the range of the state
played_range : {S : Type 0} (m : GameModel S) → IsGame m → (s : S) (turns : List PlayedTurn) → Reachable m s → IsPlayed m s turns
    → (m.least s ≤ℤ payoff_after m s turns) × (payoff_after m s turns ≤ℤ m.most s)
played_range m lawful s [] r p = (lawful.payoff_low s r p, lawful.payoff_high s r p)
played_range m lawful s (t ∷ turns) r p =
    let rest = played_range m lawful (after_turn m s (as_turn t)) turns (reachable_turn m s (as_turn t) r p.1) p.2 in (
      above (m.reward s t.one t.two t.draw) (m.least (after_turn m s (as_turn t))) (m.least s) _ (lawful.reward_low s (as_turn t) r p.1) rest.0,
      below (m.reward s t.one t.two t.draw) (m.most (after_turn m s (as_turn t))) (m.most s) _ (lawful.reward_high s (as_turn t) r p.1) rest.1,
    )

between : (x : ℤ) → neg_ℤ (pos 4000) ≤ℤ x → x ≤ℤ pos 4000 → unsigned_abs x ≤ 4000
between x low high = omega (arith, ints)

pub record_small : {S : Type 0} (m : GameModel S) → IsGame m → (one two : Sheet) (words : List ℕ) (r : Record) → IsRecord m one two words r → unsigned_abs r.payoff ≤ 4000
record_small m lawful one two words r is =
    let range = played_range m lawful m.root r.turns (reachable_root m) is.played in
    let payoff : r.payoff ≡ payoff_after m m.root r.turns = is.payoff ∙ ap (payoff_after m m.root) (sym is.turns) in
    let low = lawful.least_low m.root (reachable_root m) in
    let high = lawful.most_high m.root (reachable_root m) in
    rw payoff (between (payoff_after m m.root r.turns) (omega (arith, ints, lawful.low_least, low, range.0)) (omega (arith, ints, lawful.high_most, high, range.1)))

pub ok_mono : {A E : Type 0} (r : Result A E) (P Q : A → Type 0) → ((x : A) → P x → Q x) → IfOk r P → IfOk r Q
ok_mono (Ok x) P Q h p = h x p
ok_mono (Err e) P Q h p = p

pub on_ok : {A E : Type 0} (r : Result A E) (P : Type 0) → P → OnOk r P
on_ok (Ok x) P p = p
on_ok (Err e) P p = tt

-- ---- the least and the most
below_or_last : (n i : ℕ) → i < n + 1 → (i < n) ⊎ (i ≡ n)
below_or_last n i h = elim (cases_lt i n) [ inl l ↦ inl l | inr l ↦ inr (omega arith) ]

least_more : (n : ℕ) (f : ℕ → ℤ) (x p y : ℤ) → IsLeast n f x → p ≡ f n → y ≡ int_min x p → IsLeast (n + 1) f y
least_more n f x p y is last e =
    let low : y ≤ℤ x = rw e (omega (arith, ints, clamps)) in
    let new : y ≤ℤ f n = rw (← last, e) (omega (arith, ints, clamps)) in
    let each : (i : ℕ) → i < n + 1 → y ≤ℤ f i = λ i h. elim (below_or_last n i h) [
      | inl before ↦ int_le_trans y x (f i) low (is.least i before)
      | inr same ↦ rw same new
    ] in
    by_lt_z p x
    (λ under. let it : int_min x p ≡ p = omega (arith, ints, clamps) in record { place = n; below = omega arith; is = e ∙ it ∙ last; least = each })
    (λ over. let it : int_min x p ≡ x = omega (arith, ints, clamps) in let below = is.below in record { place = is.place; below = omega (arith, below); is = e ∙ it ∙ is.is; least = each })

most_more : (n : ℕ) (f : ℕ → ℤ) (x p y : ℤ) → IsMost n f x → p ≡ f n → y ≡ int_max x p → IsMost (n + 1) f y
most_more n f x p y is last e =
    let high : x ≤ℤ y = rw e (omega (arith, ints, clamps)) in
    let new : f n ≤ℤ y = rw (← last, e) (omega (arith, ints, clamps)) in
    let each : (i : ℕ) → i < n + 1 → f i ≤ℤ y = λ i h. elim (below_or_last n i h) [
      | inl before ↦ int_le_trans (f i) x y (is.most i before) high
      | inr same ↦ rw same new
    ] in
    by_lt_z x p
    (λ over. let it : int_max x p ≡ p = omega (arith, ints, clamps) in record { place = n; below = omega arith; is = e ∙ it ∙ last; most = each })
    (λ under. let it : int_max x p ≡ x = omega (arith, ints, clamps) in let below = is.below in record { place = is.place; below = omega (arith, below); is = e ∙ it ∙ is.is; most = each })

-- ---- one more game
pub totals_one : (f : ℕ → ℤ) (t : Totals) → t.games ≡ 1 → t.sum ≡ f 0 → t.least ≡ f 0 → t.most ≡ f 0 → AreTotals 1 f t
totals_one f t counted summed least most = record {
  counted = counted;
  summed = summed ∙ sym (+ℤ_idl (f 0));
  least = record { place = 0; below = omega arith; is = least; least = λ i h. let e : i ≡ 0 = omega arith in rw (e, least) (omega (arith, ints)) };
  most = record { place = 0; below = omega arith; is = most; most = λ i h. let e : i ≡ 0 = omega arith in rw (e, most) (omega (arith, ints)) };
}

totals_more : (n : ℕ) (f : ℕ → ℤ) (t u : Totals) (p : ℤ) → AreTotals n f t → p ≡ f n → u.games ≡ t.games + 1 → u.sum ≡ t.sum +ℤ p
    → u.least ≡ int_min t.least p → u.most ≡ int_max t.most p → AreTotals (n + 1) f u
totals_more n f t u p are last counted summed least most = record {
  counted = counted ∙ ap (λ (k : ℕ). k + 1) are.counted;
  summed = summed ∙ ap (λ (x : ℤ). x +ℤ p) are.summed ∙ ap (λ (x : ℤ). sum_below n f +ℤ x) last ∙ sym (sum_more n f);
  least = least_more n f t.least p u.least are.least last least;
  most = most_more n f t.most p u.most are.most last most;
}

-- ---- the loop
-- the totals of the games so far, and the state behind their words
pub record IsTallying {S : Type 0} (m : GameModel S) (one two : Sheet) (seed games state : ℕ) (t : Totals) : Type 0 where
  pub at : state ≡ state_after seed (words_needed m * t.games)
  pub totals : AreTotals t.games (game_payoff m one two seed) t
  pub small : unsigned_abs t.sum ≤ 4000 * t.games
  pub few : t.games ≤ games

module _ {S : Type 0} (m : GameModel S) (one two : Sheet) (seed games : ℕ) where
  pub tally_start : (state : ℕ) (r : Record) (t : Totals) → 1 ≤ games → IsRecord m one two (words_of_game m seed 0) r → state ≡ state_after seed (words_needed m * suc 0) → unsigned_abs r.payoff ≤ 4000
      → t.games ≡ 1 → t.sum ≡ r.payoff → t.least ≡ r.payoff → t.most ≡ r.payoff → IsTallying m one two seed games state t
  tally_start state r t some is at small counted summed least most = record {
    at = rw counted at;
    totals = subst (λ (n : ℕ). AreTotals n (game_payoff m one two seed) t) (sym counted)
        (totals_one (game_payoff m one two seed) t counted (summed ∙ is.payoff) (least ∙ is.payoff) (most ∙ is.payoff));
    small = rw (counted, summed) (omega (arith, small));
    few = omega arith;
  }

  pub tally_more : (state later : ℕ) (r : Record) (t u : Totals) → IsTallying m one two seed games state t → t.games < games → IsRecord m one two (words_of_game m seed t.games) r
      → later ≡ state_after seed (words_needed m * suc t.games) → unsigned_abs r.payoff ≤ 4000
      → u.games ≡ t.games + 1 → u.sum ≡ t.sum +ℤ r.payoff → u.least ≡ int_min t.least r.payoff → u.most ≡ int_max t.most r.payoff → IsTallying m one two seed games later u
  tally_more state later r t u inv more is at small counted summed least most =
      let before = inv.small in
      record {
        at = rw (counted, add-one) at;
        totals = subst (λ (n : ℕ). AreTotals n (game_payoff m one two seed) u) (sym counted)
            (totals_more t.games (game_payoff m one two seed) t u r.payoff inv.totals is.payoff counted summed least most);
        small = rw (counted, summed) (omega (arith, ints, before, small));
        few = omega arith;
      }

  pub tally_done : (state : ℕ) (t : Totals) → IsTallying m one two seed games state t → games ≤ t.games → AreTotals games (game_payoff m one two seed) t
  tally_done state t inv done =
      let few = inv.few in
      let all : t.games ≡ games = omega arith in
      subst (λ (n : ℕ). AreTotals n (game_payoff m one two seed) t) all inv.totals

-- ---- totals are one
least_one : (n : ℕ) (f : ℕ → ℤ) (x y : ℤ) → IsLeast n f x → IsLeast n f y → x ≡ y
least_one n f x y p q =
    let low : x ≤ℤ y = subst (λ (z : ℤ). x ≤ℤ z) (sym q.is) (p.least q.place q.below) in
    let high : y ≤ℤ x = subst (λ (z : ℤ). y ≤ℤ z) (sym p.is) (q.least p.place p.below) in
    omega (arith, ints, low, high)

most_one : (n : ℕ) (f : ℕ → ℤ) (x y : ℤ) → IsMost n f x → IsMost n f y → x ≡ y
most_one n f x y p q =
    let high : y ≤ℤ x = subst (λ (z : ℤ). z ≤ℤ x) (sym q.is) (p.most q.place q.below) in
    let low : x ≤ℤ y = subst (λ (z : ℤ). z ≤ℤ y) (sym p.is) (q.most p.place p.below) in
    omega (arith, ints, low, high)

pub one_tally : (games : ℕ) (payoff : ℕ → ℤ) (a b : Totals) → AreTotals games payoff a → AreTotals games payoff b → a ≡ b
one_tally games payoff a b p q =
    let made : ℕ → ℤ → ℤ → ℤ → Totals = λ n x y z. record { games = n; sum = x; least = y; most = z } in
    let counts : a.games ≡ b.games = p.counted ∙ sym q.counted in
    let sums : a.sum ≡ b.sum = p.summed ∙ sym q.summed in
    ap₂ (λ (n : ℕ) (x : ℤ). made n x a.least a.most) counts sums
    ∙ ap₂ (λ (y z : ℤ). made b.games b.sum y z) (least_one games payoff a.least b.least p.least q.least) (most_one games payoff a.most b.most p.most q.most)
