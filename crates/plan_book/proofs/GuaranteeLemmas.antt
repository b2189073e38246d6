-- A number for each state that a plan keeps step by step is guaranteed by the plan.
use Rattle.std.proofs.Common.{◌≡◌, ℕ, zero, suc, ◌*◌, ◌^◌, ◌<◌, ◌≤◌, false, eqb, ℤ, pos, ◌+ℤ◌, ◌*ℤ◌, List, [], ◌∷◌, ◌++◌, get_or, inl, inr, refl, sym, ap, ◌∙◌, arith}
use Rattle.std.proofs.lemmas.Bool.{cases_eq}
use Rattle.std.proofs.lemmas.Int.{ints}
use Rattle.std.proofs.Math.Nat.{pow-succ', pow-zero}
use Rattle.sim_game.specs.declared.Side.{Side}
use Rattle.sim_game.specs.declared.Side.TheVariants.{One, Two}
use Rattle.sim_game.specs.Model.{GameModel, Turn, IsTurn, IsGame, Reachable, after_turn, bound_scale, whole_chance}
use Rattle.sums.specs.Sums.{sum_below, count_below}
use Rattle.sums.proofs.IntegerLemmas.{times_times, times_add}
use Rattle.sim_game.proofs.ReachLemmas.{reachable_turn}
use Rattle.sums.proofs.SumLemmas.{sum_weights}
use Rattle.plan_book.specs.Expected.{whole, expected, plan_of_one, plan_of_two}
use Rattle.plan_book.specs.Plans.{Plan, weights_at}
use Rattle.sim_game.specs.Sides.{other_side, IsNoTighter, state_bound, end_bound, move_of_one, move_of_two, turn_of, draws_of, chance_of, child_of, turn_reward, over_turns}
use Rattle.plan_book.specs.Steps.{cell, worth}
use Rattle.plan_book.proofs.ExpectedLemmas.{is_same, is_other, weights_count}
use Rattle.sim_game.proofs.SideLemmas.{looser_refl, looser_trans, looser_times, looser_sum, looser_left, looser_right, looser_add, side_turn, turn_range, end_range}
use Rattle.plan_book.proofs.StepLemmas.{rounded_tightest, cell_mono}
use Rattle.plan_book.proofs.TreeSums.{spread, replies_first, state_step, times_swap}

-- ---- the expected payoff, seen from a side
abbrev pub value : {S : Type 0} → GameModel S → Side → Plan → Plan → ℕ → S → List Turn → ℤ
value m side own reply turns s history = pos bound_scale *ℤ expected m (plan_of_one side own reply) (plan_of_two side own reply) turns s history

abbrev pub stakes : Plan → Plan → ℕ
stakes own reply = own.total * reply.total * whole_chance

pub stakes_are : (side : Side) (own reply : Plan) → whole (plan_of_one side own reply) (plan_of_two side own reply) ≡ stakes own reply
stakes_are One own reply = refl
stakes_are Two own reply = omega arith

one_times : (x : ℤ) → pos 1 *ℤ x ≡ x
one_times x = omega (arith, ints)

goes_on : {S : Type 0} (m : GameModel S) (s : S) → 1 ≤ m.rank s → eqb (m.rank s) 0 ≡ false
goes_on m s h = is_other (m.rank s) 0 (λ e. omega arith)

value_at_end : {S : Type 0} (m : GameModel S) (side : Side) (own reply : Plan) (turns : ℕ) (s : S) (history : List Turn) → m.rank s ≡ 0
    → value m side own reply turns s history ≡ pos (stakes own reply ^ turns) *ℤ end_bound m s
value_at_end m side own reply zero s history e = rw (pow-zero (stakes own reply)) (sym (one_times (end_bound m s)))
value_at_end m side own reply (suc turns) s history e = rw (is_same (m.rank s) 0 e) (
    ap (λ (k : ℕ). pos bound_scale *ℤ (pos (k ^ suc turns) *ℤ m.payoff s)) (stakes_are side own reply)
    ∙ times_times bound_scale (stakes own reply ^ suc turns) (m.payoff s)
    ∙ ap (λ (k : ℕ). pos k *ℤ m.payoff s) (omega arith)
    ∙ sym (times_times (stakes own reply ^ suc turns) bound_scale (m.payoff s)))

-- the expected sum by a turn and what follows it, seen from a side
abbrev turn_value : {S : Type 0} → GameModel S → Side → Plan → Plan → ℕ → S → List Turn → ℕ → ℕ → ℕ → ℤ
turn_value m side own reply turns s history o r d =
    pos bound_scale *ℤ (pos (whole (plan_of_one side own reply) (plan_of_two side own reply) ^ turns) *ℤ m.reward s (move_of_one side o r) (move_of_two side o r) d
    +ℤ expected m (plan_of_one side own reply) (plan_of_two side own reply) turns (child_of m side s o r d) (history ++ turn_of side o r d ∷ []))

turn_value_is : {S : Type 0} (m : GameModel S) (side : Side) (own reply : Plan) (turns : ℕ) (s : S) (history : List Turn) (o r d : ℕ)
    → turn_value m side own reply turns s history o r d
    ≡ pos (stakes own reply ^ turns) *ℤ turn_reward m side s o r d +ℤ value m side own reply turns (child_of m side s o r d) (history ++ turn_of side o r d ∷ [])
turn_value_is m side own reply turns s history o r d =
    let stake : ℕ = whole (plan_of_one side own reply) (plan_of_two side own reply) in
    let pay : ℤ = m.reward s (move_of_one side o r) (move_of_two side o r) d in
    let rest : ℤ = expected m (plan_of_one side own reply) (plan_of_two side own reply) turns (child_of m side s o r d) (history ++ turn_of side o r d ∷ []) in
    times_add bound_scale (pos (stake ^ turns) *ℤ pay) rest
    ∙ ap (λ (x : ℤ). x +ℤ pos bound_scale *ℤ rest) (times_swap bound_scale (stake ^ turns) pay ∙ ap (λ (k : ℕ). pos (k ^ turns) *ℤ (pos bound_scale *ℤ pay)) (stakes_are side own reply))

value_by_turns : {S : Type 0} (m : GameModel S) (side : Side) (own reply : Plan) (turns : ℕ) (s : S) (history : List Turn) → 1 ≤ m.rank s
    → value m side own reply (suc turns) s history
    ≡ sum_below (m.moves (other_side side) s) (λ r. pos (get_or (weights_at m (other_side side) reply s history) r 0)
    *ℤ sum_below (m.moves side s) (λ o. pos (get_or (weights_at m side own s history) o 0)
    *ℤ sum_below (draws_of m side s o r) (λ d. pos (chance_of m side s o r d) *ℤ turn_value m side own reply turns s history o r d)))
value_by_turns m One own reply turns s history h = rw (goes_on m s h) (
    spread bound_scale (λ a. get_or (weights_at m One own s history) a 0) (λ b. get_or (weights_at m Two reply s history) b 0) (m.draws s) (m.chance s)
    (λ a b d. pos (whole own reply ^ turns) *ℤ m.reward s a b d +ℤ expected m own reply turns (m.drawn s a b d) (history ++ turn_of One a b d ∷ [])) (m.moves One s) (m.moves Two s)
    ∙ replies_first (m.moves One s)
    (m.moves Two s) _ _ (λ a b. sum_below (m.draws s a b) (λ d. pos (m.chance s a b d) *ℤ turn_value m One own reply turns s history a b d)))
value_by_turns m Two own reply turns s history h = rw (goes_on m s h) (
    spread bound_scale (λ a. get_or (weights_at m One reply s history) a 0) (λ b. get_or (weights_at m Two own s history) b 0) (m.draws s) (m.chance s)
    (λ a b d. pos (whole reply own ^ turns) *ℤ m.reward s a b d +ℤ expected m reply own turns (m.drawn s a b d) (history ++ turn_of Two b a d ∷ [])) (m.moves One s) (m.moves Two s))

-- ---- means
pub chances : {S : Type 0} (m : GameModel S) → IsGame m → (side : Side) (s : S) (own reply : ℕ) → Reachable m s → own < m.moves side s → reply < m.moves (other_side side) s
    → count_below (draws_of m side s own reply) (chance_of m side s own reply) ≡ whole_chance
chances m lawful One s own reply r p q = lawful.chance_sum s own reply r p q
chances m lawful Two s own reply r p q = lawful.chance_sum s reply own r q p

-- a number that is no tighter than each child's is no tighter than the mean
pub mean_of_same : {S : Type 0} (m : GameModel S) → IsGame m → (side : Side) (s : S) (own reply : ℕ) (number : ℤ) → Reachable m s → own < m.moves side s → reply < m.moves (other_side side) s
    → IsNoTighter side number (cell m side s (λ _ _ _. number) own reply)
mean_of_same m lawful side s own reply number r p q =
    rounded_tightest side _ number
    (looser_right side _ _ _
    (ap (λ (n : ℕ). pos n *ℤ number) (sym (chances m lawful side s own reply r p q)) ∙ sym (sum_weights (draws_of m side s own reply) (chance_of m side s own reply) number))
    (looser_refl side (pos whole_chance *ℤ number)))

-- ---- numbers that a plan keeps
module _ {S : Type 0} (m : GameModel S) (lawful : IsGame m) (side : Side) (own reply : Plan) where
  -- the number at the state is guaranteed from there, by so many turns
  abbrev pub IsGuaranteed : ℤ → ℕ → S → List Turn → Type 0
  IsGuaranteed number turns s history = IsNoTighter side (pos (stakes own reply ^ turns) *ℤ number) (value m side own reply turns s history)

  -- why the number at a state is guaranteed
  pub data IsKept (number : S → ℤ) : S → List Turn → Type 0 where
    at_end : (s : S) (history : List Turn) → m.rank s ≡ 0 → IsNoTighter side (number s) (end_bound m s) → IsKept number s history
    by_step : (s : S) (history : List Turn) → 1 ≤ m.rank s
        → ((r : ℕ) → r < m.moves (other_side side) s → IsNoTighter side (pos own.total *ℤ number s) (worth m side s (weights_at m side own s history) (over_turns m side s number) r))
        → IsKept number s history
    known : (s : S) (history : List Turn) → ((turns : ℕ) → m.rank s ≤ turns → IsGuaranteed (number s) turns s history) → IsKept number s history

  guaranteed_at_end : (number : ℤ) (turns : ℕ) (s : S) (history : List Turn) → m.rank s ≡ 0 → IsNoTighter side number (end_bound m s) → IsGuaranteed number turns s history
  guaranteed_at_end number turns s history e h =
      looser_right side _ _ _ (sym (value_at_end m side own reply turns s history e)) (looser_times side (stakes own reply ^ turns) number (end_bound m s) h)

  -- a guaranteed number, with the reward of the turn to its state
  turn_guaranteed : (turns : ℕ) (s : S) (history : List Turn) (o r d : ℕ) (number : ℤ) → IsGuaranteed number turns (child_of m side s o r d) (history ++ turn_of side o r d ∷ [])
      → IsNoTighter side (pos (stakes own reply ^ turns) *ℤ (turn_reward m side s o r d +ℤ number)) (turn_value m side own reply turns s history o r d)
  turn_guaranteed turns s history o r d number h =
      looser_left side _ _ _ (sym (times_add (stakes own reply ^ turns) (turn_reward m side s o r d) number))
      (looser_right side _ _ _ (sym (turn_value_is m side own reply turns s history o r d))
      (looser_add side (pos (stakes own reply ^ turns) *ℤ turn_reward m side s o r d) _ _ h))

  module _ (number : S → ℤ) (kept : (s : S) (history : List Turn) → Reachable m s → IsKept number s history) where
    guaranteed_by : (turns : ℕ) (s : S) (history : List Turn) → Reachable m s → m.rank s ≤ turns → IsKept number s history
        → ((t : Turn) → IsTurn m s t → 1 ≤ m.rank s → (k : ℕ) → turns ≡ suc k → IsGuaranteed (number (after_turn m s t)) k (after_turn m s t) (history ++ t ∷ []))
        → IsGuaranteed (number s) turns s history
    guaranteed_by turns s history r enough (at_end s' history' e h) below = guaranteed_at_end (number s) turns s history e h
    guaranteed_by turns s history r enough (known s' history' h) below = h turns enough
    guaranteed_by zero s history r enough (by_step s' history' goes h) below = absurd (omega arith)
    guaranteed_by (suc k) s history r enough (by_step s' history' goes h) below =
        looser_left side _ _ _ (ap (λ (n : ℕ). pos n *ℤ number s) (sym (pow-succ' (stakes own reply) k)))
        (looser_right side _ _ _ (sym (value_by_turns m side own reply k s history goes))
        (state_step side (m.moves side s) (m.moves (other_side side) s)
        (λ o. get_or (weights_at m side own s history) o 0) (λ q. get_or (weights_at m (other_side side) reply s history) q 0)
        (draws_of m side s) (chance_of m side s) (over_turns m side s number) (turn_value m side own reply k s history)
        (stakes own reply ^ k) (λ o q d p p' p''. turn_guaranteed k s history o q d (number (child_of m side s o q d)) (below (turn_of side o q d) (side_turn m side s o q d p p' p'') goes k refl))
        own.total reply.total (number s) (weights_count m (other_side side) reply s history (lawful.other_moves (other_side side) s r goes)) h))

    pub guaranteed : (turns : ℕ) (s : S) (history : List Turn) → Reachable m s → m.rank s ≤ turns → IsGuaranteed (number s) turns s history
    guaranteed zero s history r enough = guaranteed_by zero s history r enough (kept s history r) (λ t turn goes k e. absurd (omega arith))
    guaranteed (suc k) s history r enough = guaranteed_by (suc k) s history r enough (kept s history r) (λ t turn goes j e.
        let same : j ≡ k = omega arith in
        rw same (guaranteed k (after_turn m s t) (history ++ t ∷ []) (reachable_turn m s t r turn) (omega (arith, lawful.rank_falls s t r turn))))

  -- ---- the range of a state
  range_step : (s : S) (history : List Turn) → Reachable m s → 1 ≤ m.rank s → (q : ℕ) → q < m.moves (other_side side) s
      → IsNoTighter side (pos own.total *ℤ state_bound m side s) (worth m side s (weights_at m side own s history) (over_turns m side s (state_bound m side)) q)
  range_step s history r goes q p =
      looser_left side _ _ _
      (sum_weights (m.moves side s) (λ o. get_or (weights_at m side own s history) o 0) (state_bound m side s)
      ∙ ap (λ (n : ℕ). pos n *ℤ state_bound m side s) (weights_count m side own s history (lawful.other_moves side s r goes)))
      (looser_sum side (m.moves side s) _ _ (λ o p'. looser_times side (get_or (weights_at m side own s history) o 0) _ _
      (looser_trans side _ _ _ (mean_of_same m lawful side s o q (state_bound m side s) r p' p)
      (cell_mono m side s (λ _ _ _. state_bound m side s) (over_turns m side s (state_bound m side)) o q
      (λ d u. turn_range m side side s o q d lawful r (side_turn m side s o q d p' p u))))))

  range_kept : (s : S) (history : List Turn) → Reachable m s → IsKept (state_bound m side) s history
  range_kept s history r = elim (cases_eq (m.rank s) 0) [
    | inl e ↦ at_end s history e (end_range m side s lawful r e)
    | inr n ↦ by_step s history (omega arith) (range_step s history r (omega arith))
  ]

  pub range_guaranteed : (turns : ℕ) (s : S) (history : List Turn) → Reachable m s → m.rank s ≤ turns → IsGuaranteed (state_bound m side s) turns s history
  range_guaranteed = guaranteed (state_bound m side) range_kept
