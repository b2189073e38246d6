-- The sums from a state on, by those of the states that follow.
use Rattle.std.proofs.Common.{◌≡◌, ℕ, zero, suc, ◌-◌, ◌<◌, ◌≤◌, ℤ, pos, negsuc, ◌+ℤ◌, true, false, not, eqb, List, [], ◌∷◌, length, refl, ap, sym, ◌∙◌, inl, inr, arith}
use Rattle.std.proofs.lemmas.Bool.{cases_eq, cond-false, cond-true, eq-eqb, ne_eqb}
use Rattle.std.proofs.lemmas.Nat.{mul-le}
use Rattle.sim_game.specs.declared.Side.{Side}
use Rattle.sim_game.specs.declared.Side.TheVariants.{One, Two}
use Rattle.sim_game.specs.Sides.{IsNoTighter}
use Rattle.sim_game.proofs.SideLemmas.{looser_left, looser_trans}
use Rattle.table.specs.laws.Below.{worst_at, worst_same}
use Rattle.table.specs.Lists.{Lists, state_count, table_rank, table_moves, table_value, table_cell, cells_of, place_at, draws_at, draw_reward, table_state, table_reward, has_rewards}
use Rattle.table.specs.Position.{IsTable}
use Rattle.table.specs.Totals.{turn_total, cell_total, next_total, total_within, state_total}

-- where there are no rewards each is 0
none_paid : (rewards : List ℤ) (cell : ℤ) (d : ℕ) → not (eqb (length rewards) 0) ≡ false → draw_reward rewards cell d ≡ pos 0
none_paid [] (pos state) d h = refl
none_paid [] (negsuc first) d h = refl
none_paid (r ∷ rewards) cell d h =
    let some = ne_eqb (length (r ∷ rewards)) 0 (λ none. absurd (omega arith)) in
    let wrong : true ≡ false = sym (ap not some) ∙ h in
    absurd (cc)

pub unpaid_turn : (l : Lists) (place d : ℕ) → has_rewards l ≡ false → table_reward l place d ≡ pos 0
unpaid_turn l place d h = none_paid l.rewards (table_cell l place) d h

-- ---- at an end
pub total_at_end : (l : Lists) (side : Side) (turns s : ℕ) → table_rank l s ≡ 0 → total_within l side turns s ≡ table_value l s
total_at_end l side zero s e = refl
total_at_end l side (suc turns) s e = cond-true (eqb (table_rank l s) 0) (table_value l s) (next_total l side (total_within l side turns) s) (eq-eqb (table_rank l s) 0 e)

total_step : (l : Lists) (side : Side) (turns s : ℕ) → 1 ≤ table_rank l s → total_within l side (suc turns) s ≡ next_total l side (total_within l side turns) s
total_step l side turns s inner =
    cond-false (eqb (table_rank l s) 0) (table_value l s) (next_total l side (total_within l side turns) s) (ne_eqb (table_rank l s) 0 (λ e. absurd (omega arith)))

module _ (l : Lists) (p : IsTable l) where
  pub cells_some : (s : ℕ) → s < state_count l → 1 ≤ table_rank l s → 1 ≤ cells_of l s
  cells_some s here inner = omega (arith, mul-le 1 1 (table_moves l One s) (table_moves l Two s) (p.moves_low One s here inner) (p.moves_low Two s here inner))

  -- numbers that are the same after each turn
  pub next_same : (side : Side) (f g : ℕ → ℤ) (s : ℕ) → s < state_count l → 1 ≤ table_rank l s
      → ((c : ℕ) → s < c → c < state_count l → table_rank l c < table_rank l s → f c ≡ g c) → next_total l side f s ≡ next_total l side g s
  next_same side f g s here inner h = worst_same side (cells_of l s - 1) (λ k. cell_total l side f (place_at l s k)) (λ k. cell_total l side g (place_at l s k)) (λ k le.
      let cell = p.cells s k here inner (omega (arith, cells_some s here inner)) in
      let place = place_at l s k in
      worst_same side (draws_at l place - 1) (turn_total l f place) (turn_total l g place) (λ d le'.
      let draw : d < draws_at l place = omega (arith, cell.draws_low) in
      ap (λ (x : ℤ). table_reward l place d +ℤ x) (h (table_state l place d) (cell.behind d draw) (cell.there d draw) (cell.falls d draw))))

  -- more turns than are left add nothing
  total_any : (side : Side) (n m s : ℕ) → s < state_count l → table_rank l s ≤ n → table_rank l s ≤ m → total_within l side n s ≡ total_within l side m s
  total_any side zero m s here q r = sym (total_at_end l side m s (omega arith))
  total_any side (suc n) zero s here q r = total_at_end l side (suc n) s (omega arith)
  total_any side (suc n) (suc m) s here q r = elim (cases_eq (table_rank l s) 0) [
    | inl stop ↦ total_at_end l side (suc n) s stop ∙ sym (total_at_end l side (suc m) s stop)
    | inr on ↦
        let inner : 1 ≤ table_rank l s = omega arith in
        total_step l side n s inner
        ∙ next_same side (total_within l side n) (total_within l side m) s here inner (λ c behind there falls. total_any side n m c there (omega arith) (omega arith))
        ∙ sym (total_step l side m s inner)
  ]

  -- the sum at a state, by those at the states that follow
  pub total_is : (side : Side) (s : ℕ) → s < state_count l → 1 ≤ table_rank l s → state_total l side s ≡ next_total l side (state_total l side) s
  total_is side s here inner =
      let n = table_rank l s - 1 in
      let e : table_rank l s ≡ suc n = omega arith in
      ap (λ (turns : ℕ). total_within l side turns s) e ∙ total_step l side n s inner
      ∙ next_same side (total_within l side n) (state_total l side) s here inner (λ c behind there falls. total_any side n (table_rank l c) c there (omega arith) (omega arith))

  pub total_turn : (side : Side) (s k d : ℕ) → s < state_count l → 1 ≤ table_rank l s → k < cells_of l s → d < draws_at l (place_at l s k)
      → IsNoTighter side (state_total l side s) (turn_total l (state_total l side) (place_at l s k) d)
  total_turn side s k d here inner below draw =
      let place = place_at l s k in
      looser_left side _ _ _ (sym (total_is side s here inner))
      (looser_trans side _ (cell_total l side (state_total l side) place) _
      (worst_at side (cells_of l s - 1) (λ k. cell_total l side (state_total l side) (place_at l s k)) k (omega arith))
      (worst_at side (draws_at l place - 1) (turn_total l (state_total l side) place) d (omega arith)))
