-- The loop over the rounds.
use Rattle.std.proofs.Common.{◌≡◌, ℕ, zero, suc, ◌+◌, ◌*◌, ◌^◌, ◌<◌, ◌≤◌, sym, refl, ap, ◌∙◌, arith, add-one, inl, inr, List, All, length, get_or, sum, ℤ, ◌⊎◌, ◌<ℤ◌, ◌≤ℤ◌, replicate}
use Rattle.std.proofs.Math.ListN.{set}
use Rattle.std.proofs.Math.Nat.{mul-le-mul, mul-le-mul_left, mul-le-mul_right}
use Rattle.std.proofs.lemmas.Int.{ints}
use Rattle.std.proofs.lemmas.Bool.{cases_lt, cases_eq}
use Rattle.std.proofs.lemmas.Grind.{same_number_lists}
use Rattle.std.proofs.lemmas.List.{get_or-set_other, get_or-set_same, length-set, get_or-replicate, length-replicate}
use Rattle.std.proofs.lemmas.List.Elements.{All-from_get_or}
use Rattle.sums.specs.declared.TheConstants.{MOST_MOVES}
use Rattle.sums.specs.Sums.{count_below}
use Rattle.sums.proofs.CountLemmas.{count_mono, count_constant, count_term}
use Rattle.matrix_game.proofs.FirstLemmas.{first_greatest-below, first_greatest-one, first_greatest-takes, first_greatest-keeps, same_greatest}
use Rattle.matrix_game.proofs.Potential.{paid_above}
use Rattle.matrix_game.proofs.Gap.{count_of, is_equal-same, is_equal-other}
use Rattle.matrix_game.proofs.Lists.{sum-count, sum-zeros}
use Rattle.matrix_game.proofs.Mixtures.{length-mixture_of, weight-mixture_of}
use Rattle.matrix_game.proofs.Law.{mixture_before, reply_before, weight_before, length-regrets_before, regret_start, regret_step, lifted_at, lifted_at-within, reply_before-below, length-rounds, mixture_at-rounds, get_or-reply_counts, length-reply_counts}
use Rattle.matrix_game.specs.Grid.{Grid, IsShaped, IsMatrix, IsSpread, HasRegretRoom, row_floor, best_reply, first_greatest}
use Rattle.matrix_game.specs.Rounds.{mixture_of, raised_regrets, regrets_before, rounds, mixture_at, best_mixture, reply_counts}

-- what is secured by the mixture of each round
abbrev pub floor_before : Grid → ℕ → ℕ → ℤ
floor_before m w t = row_floor m (mixture_before m w t)

-- what the loop holds before round t
pub record IsBeforeRound (m : Grid) (w t : ℕ) (regrets : List ℕ) (all : ℕ) (counts best : List ℕ) (low : ℤ) : Type 0 where
  pub regrets_are : regrets ≡ regrets_before m w t
  pub all_is : all ≡ sum regrets
  pub counts_each : length counts ≡ m.cols
  pub counts_are : (b : ℕ) → b < m.cols → get_or counts b 0 ≡ count_of t (reply_before m w) b
  pub best_each : length best ≡ m.rows
  pub best_is : 0 < t → best ≡ mixture_before m w (first_greatest t (floor_before m w))
  pub low_is : 0 < t → low ≡ floor_before m w (first_greatest t (floor_before m w))

before_first_round : (m : Grid) (w : ℕ) (low : ℤ) → IsBeforeRound m w 0 (replicate m.rows 0) 0 (replicate m.cols 0) (replicate m.rows 0) low
unfolding regrets_before
before_first_round m w low = record {
  regrets_are = refl;
  all_is = sym (sum-zeros m.rows);
  counts_each = length-replicate m.cols 0;
  counts_are = λ b h. get_or-replicate m.cols b 0 0 h;
  best_each = length-replicate m.rows 0;
  best_is = λ h. absurd (omega arith);
  low_is = λ h. absurd (omega arith);
}

-- without a premise on the start
pub before_first : (m : Grid) (w : ℕ) (regrets : List ℕ) (all : ℕ) (counts best : List ℕ) (low : ℤ) → regrets ≡ replicate m.rows 0 → all ≡ 0
    → counts ≡ replicate m.cols 0 → best ≡ replicate m.rows 0 → IsBeforeRound m w 0 regrets all counts best low
before_first m w regrets all counts best low er ea ec eb = rw er (rw ea (rw ec (rw eb (before_first_round m w low))))

-- ---- what the calls in a round require
-- in each round a regret rises by at most the weight times what two cells differ by
regret_before-le : (m : Grid) (w d t a : ℕ) → IsShaped m → IsSpread m d → a < m.rows → get_or (regrets_before m w t) a 0 ≤ t * (w * d)
regret_before-le m w d zero a s spread h = omega (arith, regret_start m w a h)
regret_before-le m w d (suc t) a s spread h =
    let b = reply_before m w t in
    let within = lifted_at-within m d b s spread (reply_before-below m w t s) in
    let paid = paid_above m.rows w d (λ c. get_or (mixture_before m w t) c 0) (λ c. lifted_at m c b) (weight_before m w t s) within a h in
    omega (arith, regret_step m w t a s h, regret_before-le m w d t a s spread h, paid)

sum-regrets_before-le : (m : Grid) (w d t : ℕ) → IsShaped m → IsSpread m d → t ≤ w → sum (regrets_before m w t) ≤ m.rows * (w * (w * d))
sum-regrets_before-le m w d t s spread h =
    let q = regrets_before m w t in
    let n = m.rows in
    let all : sum q ≡ count_below n (λ a. get_or q a 0) = sum-count q ∙ ap (λ k. count_below k (λ a. get_or q a 0)) (length-regrets_before m w t) in
    let each = count_mono n (λ a. get_or q a 0) (λ a. t * (w * d)) (λ a l. regret_before-le m w d t a s spread l) in
    let early = mul-le-mul_left n (mul-le-mul_right (w * d) h) in
    omega (arith, all, each, count_constant n (t * (w * d)), early)

pub regrets-room : (m : Grid) (w t limit : ℕ) → IsShaped m → HasRegretRoom m w limit → t ≤ w → sum (regrets_before m w t) < limit
regrets-room m w t limit s room h = omega (arith, sum-regrets_before-le m w room.spread t s room.is_spread h, room.fits)

pub mixture-light : (n w : ℕ) (q : List ℕ) → length q ≡ n → 0 < n → w ≤ 1048576 → All (λ x. x ≤ 1048576) (mixture_of w q)
mixture-light n w q e h light =
    All-from_get_or (λ x. x ≤ 1048576) (mixture_of w q) 0
    (λ k l. let in_n : k < n = omega (arith, length-mixture_of w q) in
    omega (arith, count_term n (λ a. get_or (mixture_of w q) a 0) k in_n, weight-mixture_of n w q e h))

pub mixture-sum : (n w : ℕ) (q : List ℕ) → length q ≡ n → 0 < n → sum (mixture_of w q) ≡ w
mixture-sum n w q e h =
    let p = mixture_of w q in
    sum-count p ∙ ap (λ k. count_below k (λ a. get_or p a 0)) (length-mixture_of w q ∙ e) ∙ weight-mixture_of n w q e h

count_of-le : (n : ℕ) (j : ℕ → ℕ) (b : ℕ) → count_of n j b ≤ n
count_of-le zero j b = omega arith
count_of-le (suc n) j b =
    elim (cases_eq (j n) b) [
      | inl e ↦ omega (arith, count_of-le n j b, is_equal-same (j n) b e)
      | inr e ↦ omega (arith, count_of-le n j b, is_equal-other (j n) b e)
    ]

-- of the widest numbers there is always room
pub wide-room : (m : Grid) (w : ℕ) → IsMatrix m → w ≤ 1048576 → HasRegretRoom m w (2 ^ 107)
wide-room m w i light = record {
  spread = 8000000000;
  is_spread = λ a b h l. let x = i.small_cells a h in let y = i.small_cells b l in omega (arith, ints);
  fits =
      let regret : w * 8000000000 ≤ 1048576 * 8000000000 = omega arith in
      let rounds : w * (w * 8000000000) ≤ 1048576 * (1048576 * 8000000000) = mul-le-mul light regret in
      let all : m.rows * (w * (w * 8000000000)) ≤ MOST_MOVES * (1048576 * (1048576 * 8000000000)) = mul-le-mul i.few_rows rounds in
      omega (arith, all);
}

pub counts-room : (m : Grid) (w t k : ℕ) (regrets : List ℕ) (all : ℕ) (counts best : List ℕ) (low : ℤ) → IsBeforeRound m w t regrets all counts best low → k < m.cols → get_or counts k 0 ≤ t
counts-room m w t k regrets all counts best low b h = omega (arith, b.counts_are k h, count_of-le t (reply_before m w) k)

-- ---- one round
counts_more : (m : Grid) (w t b : ℕ) (counts : List ℕ) → length counts ≡ m.cols → reply_before m w t < m.cols
    → ((b : ℕ) → b < m.cols → get_or counts b 0 ≡ count_of t (reply_before m w) b) → b < m.cols
    → get_or (set counts (reply_before m w t) (get_or counts (reply_before m w t) 0 + 1)) b 0 ≡ count_of (t + 1) (reply_before m w) b
counts_more m w t b counts e r h l =
    let j = reply_before m w t in
    let more = ap (λ n. count_of n (reply_before m w) b) (add-one t) in
    elim (cases_eq b j) [
      | inl same ↦ let in_range : j < length counts = omega arith in
          ap (λ i. get_or (set counts j (get_or counts j 0 + 1)) i 0) same ∙ get_or-set_same counts j (get_or counts j 0 + 1) 0 in_range
          ∙ (let a = h j r in let o = is_equal-same j b (sym same) in let s = ap (λ i. get_or counts i 0) same in omega (arith, a, h b l, o, more, s))
      | inr other ↦ get_or-set_other counts j b (get_or counts j 0 + 1) 0 other
          ∙ (let o = is_equal-other j b (λ f. other (sym f)) in omega (arith, h b l, o, more))
    ]

pub regrets_more : (m : Grid) (w t : ℕ) → regrets_before m w (t + 1) ≡ raised_regrets m w (regrets_before m w t) (reply_before m w t) (floor_before m w t)
unfolding regrets_before
regrets_more m w t = ap (regrets_before m w) (add-one t)

-- the best of one more round, where it is better than the best so far or the first
best_takes : (m : Grid) (w t : ℕ) → (t ≡ 0) ⊎ (floor_before m w (first_greatest t (floor_before m w)) <ℤ floor_before m w t) → first_greatest (t + 1) (floor_before m w) ≡ t
best_takes m w t (inl e) = ap (λ n. first_greatest (n + 1) (floor_before m w)) e ∙ first_greatest-one (floor_before m w) ∙ sym e
best_takes m w t (inr h) = first_greatest-takes t (floor_before m w) h

-- what the round computes is what the definition has there
pub record IsRound (m : Grid) (w t : ℕ) (regrets new_regrets mixture : List ℕ) (reply : ℕ) (paid : ℤ) : Type 0 where
  pub mixture_is : mixture ≡ mixture_before m w t
  pub reply_is : reply ≡ reply_before m w t
  pub paid_is : paid ≡ floor_before m w t
  pub regrets_are : new_regrets ≡ regrets_before m w (t + 1)

pub round_is : (m : Grid) (w t : ℕ) (regrets new_regrets mixture : List ℕ) (reply : ℕ) (paid : ℤ) → regrets ≡ regrets_before m w t
    → mixture ≡ mixture_of w regrets → reply ≡ best_reply m mixture → paid ≡ row_floor m mixture → new_regrets ≡ raised_regrets m w regrets reply paid
    → IsRound m w t regrets new_regrets mixture reply paid
round_is m w t regrets new_regrets mixture reply paid b em er ep en =
    let m_is : mixture ≡ mixture_before m w t = em ∙ ap (mixture_of w) b in
    let r_is : reply ≡ reply_before m w t = er ∙ ap (best_reply m) m_is in
    let p_is : paid ≡ floor_before m w t = ep ∙ ap (row_floor m) m_is in
    record {
      mixture_is = m_is;
      reply_is = r_is;
      paid_is = p_is;
      regrets_are = en ∙ ap (λ q. raised_regrets m w q reply paid) b ∙ ap (λ j. raised_regrets m w (regrets_before m w t) j paid) r_is
          ∙ ap (raised_regrets m w (regrets_before m w t) (reply_before m w t)) p_is ∙ sym (regrets_more m w t);
    }

counts_of_round : (m : Grid) (w t reply b : ℕ) (counts : List ℕ) → IsShaped m → reply ≡ reply_before m w t → length counts ≡ m.cols
    → ((b : ℕ) → b < m.cols → get_or counts b 0 ≡ count_of t (reply_before m w) b) → b < m.cols
    → get_or (set counts reply (get_or counts reply 0 + 1)) b 0 ≡ count_of (t + 1) (reply_before m w) b
counts_of_round m w t reply b counts s e l h k =
    ap (λ j. get_or (set counts j (get_or counts j 0 + 1)) b 0) e ∙ counts_more m w t b counts l (reply_before-below m w t s) h k

-- a round whose mixture is taken as the best
pub round_takes : (m : Grid) (w t : ℕ) (regrets : List ℕ) (all : ℕ) (counts best new_regrets : List ℕ) (new_all : ℕ) (mixture : List ℕ) (low paid : ℤ) (reply : ℕ)
    → IsShaped m → IsBeforeRound m w t regrets all counts best low
    → IsRound m w t regrets new_regrets mixture reply paid → new_all ≡ sum new_regrets
    → (t ≡ 0) ⊎ (low <ℤ paid)
    → IsBeforeRound m w (t + 1) new_regrets new_all (set counts reply (get_or counts reply 0 + 1)) mixture paid
round_takes m w t regrets all counts best new_regrets new_all mixture low paid reply s b r ea better =
    let better_is : (t ≡ 0) ⊎ (floor_before m w (first_greatest t (floor_before m w)) <ℤ floor_before m w t) =
    elim better [
      | inl e ↦ inl e
      | inr h ↦ elim (cases_lt 0 t) [ inl l ↦ inr (let e = b.low_is l in let p = r.paid_is in omega (arith, ints)) | inr l ↦ inl (omega arith) ]
    ] in
    let at = best_takes m w t better_is in
    record {
      regrets_are = r.regrets_are;
      all_is = ea;
      counts_each = length-set counts reply (get_or counts reply 0 + 1) ∙ b.counts_each;
      counts_are = λ i h. counts_of_round m w t reply i counts s r.reply_is b.counts_each b.counts_are h;
      best_each = ap length r.mixture_is ∙ length-mixture_of w (regrets_before m w t) ∙ length-regrets_before m w t;
      best_is = λ h. r.mixture_is ∙ ap (mixture_before m w) (sym at);
      low_is = λ h. r.paid_is ∙ ap (floor_before m w) (sym at);
    }

-- a round that keeps the best
pub round_keeps : (m : Grid) (w t : ℕ) (regrets : List ℕ) (all : ℕ) (counts best new_regrets : List ℕ) (new_all : ℕ) (mixture : List ℕ) (low paid : ℤ) (reply : ℕ)
    → IsShaped m → IsBeforeRound m w t regrets all counts best low
    → IsRound m w t regrets new_regrets mixture reply paid → new_all ≡ sum new_regrets
    → 0 < t → paid ≤ℤ low
    → IsBeforeRound m w (t + 1) new_regrets new_all (set counts reply (get_or counts reply 0 + 1)) best low
round_keeps m w t regrets all counts best new_regrets new_all mixture low paid reply s b r ea later worse =
    let e = b.low_is later in
    let p = r.paid_is in
    let at = first_greatest-keeps t (floor_before m w) (omega (arith, ints)) in
    record {
      regrets_are = r.regrets_are;
      all_is = ea;
      counts_each = length-set counts reply (get_or counts reply 0 + 1) ∙ b.counts_each;
      counts_are = λ i h. counts_of_round m w t reply i counts s r.reply_is b.counts_each b.counts_are h;
      best_each = b.best_each;
      best_is = λ h. b.best_is later ∙ ap (mixture_before m w) (sym at);
      low_is = λ h. e ∙ ap (floor_before m w) (sym at);
    }

-- ---- after the last round
pub best_mixture_is : (m : Grid) (w : ℕ) → 0 < w → best_mixture m (rounds m w) ≡ mixture_before m w (first_greatest w (floor_before m w))
unfolding best_mixture
best_mixture_is m w h =
    let rs = rounds m w in
    let floor = λ (t : ℕ). row_floor m (mixture_at rs t) in
    let same = same_greatest w floor (floor_before m w) (λ t l. ap (row_floor m) (mixture_at-rounds m w t l)) in
    let s = first_greatest w (floor_before m w) in
    ap (λ n. mixture_at rs (first_greatest n floor)) (length-rounds m w) ∙ ap (mixture_at rs) same ∙ mixture_at-rounds m w s (first_greatest-below w (floor_before m w) h)

pub reply_counts_are : (m : Grid) (w : ℕ) (counts : List ℕ) → length counts ≡ m.cols
    → ((b : ℕ) → b < m.cols → get_or counts b 0 ≡ count_of w (reply_before m w) b) → counts ≡ reply_counts m (rounds m w)
reply_counts_are m w counts e h =
    same_number_lists counts (reply_counts m (rounds m w)) (e ∙ sym (length-reply_counts m (rounds m w)))
    (λ k l. let c : k < m.cols = omega arith in h k c ∙ sym (get_or-reply_counts m w k c))

pub same_before : (m : Grid) (w t : ℕ) (regrets : List ℕ) (all : ℕ) (counts best best' : List ℕ) (low low' : ℤ) → best' ≡ best → low' ≡ low
    → IsBeforeRound m w t regrets all counts best low → IsBeforeRound m w t regrets all counts best' low'
same_before m w t regrets all counts best best' low low' e f b = rw e (rw f b)
