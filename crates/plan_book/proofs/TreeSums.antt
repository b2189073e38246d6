-- Sums over the own moves, the replies and the draws of a state.
use Rattle.std.proofs.Common.{◌≡◌, ℕ, ◌*◌, ◌<◌, ℤ, pos, ◌*ℤ◌, sym, ap, ◌∙◌, arith}
use Rattle.sim_game.specs.declared.Side.{Side}
use Rattle.sim_game.specs.Model.{whole_chance}
use Rattle.sums.specs.Sums.{sum_below, count_below}
use Rattle.sums.proofs.IntegerLemmas.{times_times}
use Rattle.sums.proofs.SumLemmas.{sum_same, sum_times, sum_exchange, sum_weights}
use Rattle.sim_game.specs.Sides.{IsNoTighter}
use Rattle.plan_book.specs.Steps.{rounded}
use Rattle.sim_game.proofs.SideLemmas.{looser_trans, looser_times, looser_sum, looser_left}
use Rattle.plan_book.proofs.StepLemmas.{looser_rounded}

pub sum_scaled : (n k : ℕ) (f g : ℕ → ℤ) → ((i : ℕ) → i < n → pos k *ℤ f i ≡ g i) → pos k *ℤ sum_below n f ≡ sum_below n g
sum_scaled n k f g h = sym (sum_times n k f) ∙ sum_same n (λ i. pos k *ℤ f i) g h

pub times_swap : (j k : ℕ) (x : ℤ) → pos j *ℤ (pos k *ℤ x) ≡ pos k *ℤ (pos j *ℤ x)
times_swap j k x = times_times j k x ∙ ap (λ (n : ℕ). pos n *ℤ x) (omega arith) ∙ sym (times_times k j x)

regroup : (k w v c : ℕ) (x : ℤ) → pos k *ℤ (pos (w * v * c) *ℤ x) ≡ pos w *ℤ (pos v *ℤ (pos c *ℤ (pos k *ℤ x)))
regroup k w v c x =
    times_times k (w * v * c) x
    ∙ ap (λ (n : ℕ). pos n *ℤ x) (omega arith)
    ∙ sym (ap (λ (y : ℤ). pos w *ℤ (pos v *ℤ y)) (times_times c k x) ∙ ap (λ (y : ℤ). pos w *ℤ y) (times_times v (c * k) x) ∙ times_times w (v * (c * k)) x)

module _ (k : ℕ) (w v : ℕ → ℕ) (count : ℕ → ℕ → ℕ) (c : ℕ → ℕ → ℕ → ℕ) (e : ℕ → ℕ → ℕ → ℤ) where
  spread_draws : (a b : ℕ) → pos k *ℤ sum_below (count a b) (λ d. pos (w a * v b * c a b d) *ℤ e a b d)
      ≡ pos (w a) *ℤ (pos (v b) *ℤ sum_below (count a b) (λ d. pos (c a b d) *ℤ (pos k *ℤ e a b d)))
  spread_draws a b =
      sum_scaled (count a b) k (λ d. pos (w a * v b * c a b d) *ℤ e a b d) (λ d. pos (w a) *ℤ (pos (v b) *ℤ (pos (c a b d) *ℤ (pos k *ℤ e a b d)))) (λ d _. regroup k (w a) (v b) (c a b d) (e a b d))
      ∙ sum_times (count a b) (w a) (λ d. pos (v b) *ℤ (pos (c a b d) *ℤ (pos k *ℤ e a b d)))
      ∙ ap (λ (y : ℤ). pos (w a) *ℤ y) (sum_times (count a b) (v b) (λ d. pos (c a b d) *ℤ (pos k *ℤ e a b d)))

  -- a product of weights as a sum of sums
  pub spread : (n m : ℕ) → pos k *ℤ sum_below n (λ a. sum_below m (λ b. sum_below (count a b) (λ d. pos (w a * v b * c a b d) *ℤ e a b d)))
      ≡ sum_below n (λ a. pos (w a) *ℤ sum_below m (λ b. pos (v b) *ℤ sum_below (count a b) (λ d. pos (c a b d) *ℤ (pos k *ℤ e a b d))))
  spread n m = sum_scaled n k _ _ (λ a _.
      sum_scaled m k _ _ (λ b _. spread_draws a b)
      ∙ sum_times m (w a) (λ b. pos (v b) *ℤ sum_below (count a b) (λ d. pos (c a b d) *ℤ (pos k *ℤ e a b d))))

-- the replies first
pub replies_first : (n m : ℕ) (w v : ℕ → ℕ) (f : ℕ → ℕ → ℤ)
    → sum_below n (λ a. pos (w a) *ℤ sum_below m (λ b. pos (v b) *ℤ f a b)) ≡ sum_below m (λ b. pos (v b) *ℤ sum_below n (λ a. pos (w a) *ℤ f a b))
replies_first n m w v f =
    sum_same n _ _ (λ a _. sym (sum_times m (w a) (λ b. pos (v b) *ℤ f a b)))
    ∙ sum_exchange n m (λ a b. pos (w a) *ℤ (pos (v b) *ℤ f a b))
    ∙ sum_same m _ _ (λ b _. sum_same n _ _ (λ a _. times_swap (w a) (v b) (f a b)) ∙ sum_times n (v b) (λ a. pos (w a) *ℤ f a b))

-- numbers that bound the children of a state prove by a step what bounds the state
module _ (side : Side) (owns replies : ℕ) (w v : ℕ → ℕ) (count : ℕ → ℕ → ℕ) (c : ℕ → ℕ → ℕ → ℕ) (numbers values : ℕ → ℕ → ℕ → ℤ)
    (whole : ℕ) (children : (own reply draw : ℕ) → own < owns → reply < replies → draw < count own reply → IsNoTighter side (pos whole *ℤ numbers own reply draw) (values own reply draw)) where
  draws_step : (own reply : ℕ) → own < owns → reply < replies
      → IsNoTighter side (pos (whole * whole_chance) *ℤ rounded side (sum_below (count own reply) (λ d. pos (c own reply d) *ℤ numbers own reply d)))
      (sum_below (count own reply) (λ d. pos (c own reply d) *ℤ values own reply d))
  draws_step own reply p q =
      let mean : ℤ = sum_below (count own reply) (λ d. pos (c own reply d) *ℤ numbers own reply d) in
      let scaled : IsNoTighter side (pos whole *ℤ (pos whole_chance *ℤ rounded side mean)) (pos whole *ℤ mean) = looser_times side whole _ _ (looser_rounded side mean) in
      let drawn : pos whole *ℤ mean ≡ sum_below (count own reply) (λ d. pos (c own reply d) *ℤ (pos whole *ℤ numbers own reply d)) =
      sum_scaled (count own reply) whole _ _ (λ d _. times_swap whole (c own reply d) (numbers own reply d)) in
      looser_trans side _ _ _
      (looser_left side _ _ _ (times_times whole whole_chance (rounded side mean)) scaled)
      (looser_left side _ _ _ (sym drawn) (looser_sum side (count own reply) _ _ (λ d r. looser_times side (c own reply d) _ _ (children own reply d p q r))))

  owns_step : (total : ℕ) (bound : ℤ) (reply : ℕ) → reply < replies
      → IsNoTighter side (pos total *ℤ bound) (sum_below owns (λ own. pos (w own) *ℤ rounded side (sum_below (count own reply) (λ d. pos (c own reply d) *ℤ numbers own reply d))))
      → IsNoTighter side (pos (whole * whole_chance) *ℤ (pos total *ℤ bound)) (sum_below owns (λ own. pos (w own) *ℤ sum_below (count own reply) (λ d. pos (c own reply d) *ℤ values own reply d)))
  owns_step total bound reply q h =
      let mean : ℕ → ℤ = λ own. rounded side (sum_below (count own reply) (λ d. pos (c own reply d) *ℤ numbers own reply d)) in
      let scaled : pos (whole * whole_chance) *ℤ sum_below owns (λ own. pos (w own) *ℤ mean own) ≡ sum_below owns (λ own. pos (w own) *ℤ (pos (whole * whole_chance) *ℤ mean own)) =
      sum_scaled owns (whole * whole_chance) _ _ (λ own _. times_swap (whole * whole_chance) (w own) (mean own)) in
      looser_trans side _ _ _
      (looser_times side (whole * whole_chance) _ _ h)
      (looser_left side _ _ _ (sym scaled) (looser_sum side owns _ _ (λ own p. looser_times side (w own) _ _ (draws_step own reply p q))))

  pub state_step : (total others : ℕ) (bound : ℤ) → count_below replies v ≡ others
      → ((reply : ℕ) → reply < replies → IsNoTighter side (pos total *ℤ bound)
      (sum_below owns (λ own. pos (w own) *ℤ rounded side (sum_below (count own reply) (λ d. pos (c own reply d) *ℤ numbers own reply d)))))
      → IsNoTighter side (pos (total * others * whole_chance * whole) *ℤ bound)
      (sum_below replies (λ reply. pos (v reply) *ℤ sum_below owns (λ own. pos (w own) *ℤ sum_below (count own reply) (λ d. pos (c own reply d) *ℤ values own reply d))))
  state_step total others bound e h =
      let each : ℤ = pos (whole * whole_chance) *ℤ (pos total *ℤ bound) in
      let product : pos others *ℤ each ≡ pos (total * others * whole_chance * whole) *ℤ bound =
      ap (λ (y : ℤ). pos others *ℤ y) (times_times (whole * whole_chance) total bound)
      ∙ times_times others (whole * whole_chance * total) bound
      ∙ ap (λ (n : ℕ). pos n *ℤ bound) (omega arith) in
      looser_left side _ _ _
      (sum_weights replies v each ∙ ap (λ (n : ℕ). pos n *ℤ each) e ∙ product)
      (looser_sum side replies _ _ (λ reply q. looser_times side (v reply) _ _ (owns_step total bound reply q (h reply q))))
