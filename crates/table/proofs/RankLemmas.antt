-- A rank counts the turns of the longest way to an end, and a sum is that of some turn.
use Rattle.std.proofs.Common.{◌≡◌, ℕ, zero, suc, ◌+◌, ◌*◌, ◌/◌, ◌%◌, ◌<◌, ◌≤◌, ℤ, ◌+ℤ◌, true, ap, sym, subst, ◌∙◌, inl, inr, arith}
use Rattle.std.proofs.Math.Nat.{div-add-mod, div-lt_iff_lt-mul, mul_comm}
use Rattle.std.proofs.lemmas.Bool.{cases_lt, cond-true}
use Rattle.std.specs.Int.RustNames.{unsigned_abs}
use Rattle.sim_game.specs.declared.Side.{Side}
use Rattle.sim_game.specs.declared.Side.TheVariants.{One, Two}
use Rattle.sim_game.specs.Model.{Turn, IsTurn, Reachable, after_turn}
use Rattle.table.specs.declared.State.{State}
use Rattle.table.specs.Below.{highest_below}
use Rattle.table.specs.laws.Game.{is_cell, sound, turn_bound}
use Rattle.table.specs.Lists.{Lists, cell_rank, cells_of, draws_at, has_rewards, table_moves, place_at, state_count, table_rank, table_reward, table_state, table_value}
use Rattle.table.specs.Position.{IsTable}
use Rattle.table.specs.Rules.{KeepsRules, place_of, table_game, turn_sum}
use Rattle.table.specs.laws.Totals.{cells_some, total_at_end}
use Rattle.table.specs.Totals.{state_total, table_bound, turn_total, worst_payoff}
use Rattle.table.proofs.TotalLemmas.{total_found}

-- the greatest is one of them
pub greatest_found : (n : ℕ) (f : ℕ → ℕ) → 1 ≤ n → (i : ℕ) × (i < n) × (f i ≡ highest_below n f)
greatest_found zero f h = absurd (omega arith)
greatest_found (suc n) f h = elim (cases_lt 0 n) [
  | inl more ↦
      let before = greatest_found n f more in
      elim (cases_lt (f n) (highest_below n f)) [
        | inl less ↦ (before.0, omega (arith, before.1), omega (arith, before.2))
        | inr here ↦ (n, omega arith, omega arith)
      ]
  | inr none ↦
      let e : n ≡ 0 = omega arith in
      (n, omega arith, omega (arith, ap (λ (k : ℕ). highest_below k f) e))
]

divided : (k m : ℕ) → (k / m) * m + k % m ≡ k
divided k m = omega (arith, div-add-mod k m, mul_comm m (k / m))

module _ (l : Lists) (p : IsTable l) where
  -- the turn that leads to a draw of a cell of the state, and what holds of both
  pub turn_of_cell : (P : ℕ → ℕ → Type 0) (s : State) (k d : ℕ) → s.number < state_count l → 1 ≤ table_rank l s.number → k < cells_of l s.number → d < draws_at l (place_at l s.number k)
      → P (place_at l s.number k) d → (t : Turn) × IsTurn (table_game l) s t × P (place_of l s.number t.one t.two) t.draw
  turn_of_cell P s k d here inner below draw h =
      let rows = table_moves l One s.number in
      let columns = table_moves l Two s.number in
      let some : 0 < columns = omega (arith, p.moves_low Two s.number here inner) in
      let same : place_of l s.number (k / columns) (k % columns) ≡ place_at l s.number k = ap (λ (j : ℕ). unsigned_abs (table_value l s.number) + j) (divided k columns) in (
        record { one = k / columns; two = k % columns; draw = d },
        record {
          one_below = (div-lt_iff_lt-mul {x = k} {y = rows} some).1 below;
          two_below = omega arith;
          draw_below = rw same draw;
        },
        subst (λ (place : ℕ). P place d) (sym same) h,
      )

  longest_turn : (s : State) → Reachable (table_game l) s → 1 ≤ table_rank l s.number
      → (t : Turn) × IsTurn (table_game l) s t × (table_rank l (after_turn (table_game l) s t).number + 1 ≡ table_rank l s.number)
  longest_turn s r inner =
      let here = sound l p s r in
      let k = greatest_found (cells_of l s.number) (λ k. cell_rank l (place_at l s.number k)) (cells_some l p s.number here inner) in
      let place = place_at l s.number k.0 in
      let d = greatest_found (draws_at l place) (λ d. table_rank l (table_state l place d)) (p.cells s.number k.0 here inner k.1).draws_low in
      turn_of_cell (λ place d. table_rank l (table_state l place d) + 1 ≡ table_rank l s.number) s k.0 d.0 here inner k.1 d.1 (omega (arith, d.2, k.2, p.longest s.number here inner))

  -- where turns pay
  bound_is : (side : Side) (s : ℕ) → has_rewards l ≡ true → table_bound l side s ≡ state_total l side s
  bound_is side s paid = cond-true (has_rewards l) (state_total l side s) (worst_payoff l side) paid

  pub bound_found : (side : Side) (s : ℕ) → s < state_count l → 1 ≤ table_rank l s → has_rewards l ≡ true
      → (k : ℕ) × (d : ℕ) × (k < cells_of l s) × (d < draws_at l (place_at l s k)) × (table_bound l side s ≡ turn_total l (table_bound l side) (place_at l s k) d)
  bound_found side s here inner paid =
      let found = total_found l p side s here inner in
      let place = place_at l s found.0 in
      (found.0, found.1, found.2, found.3, bound_is side s paid ∙ found.4 ∙ ap (λ (x : ℤ). table_reward l place found.1 +ℤ x) (sym (bound_is side (table_state l place found.1) paid)))

  pub bound_at_end : (side : Side) (s : ℕ) → has_rewards l ≡ true → table_rank l s ≡ 0 → table_bound l side s ≡ table_value l s
  bound_at_end side s paid stop = bound_is side s paid ∙ total_at_end l side (table_rank l s) s stop

  worst_turn : (side : Side) (s : State) → Reachable (table_game l) s → 1 ≤ table_rank l s.number → has_rewards l ≡ true
      → (t : Turn) × IsTurn (table_game l) s t × (table_bound l side s.number ≡ turn_sum l side s t)
  worst_turn side s r inner paid =
      let here = sound l p s r in
      let found = bound_found side s.number here inner paid in
      turn_of_cell (λ place d. table_bound l side s.number ≡ turn_total l (table_bound l side) place d) s found.0 found.1 here inner found.2 found.3 found.4

  pub table_keeps_rules : KeepsRules l
  table_keeps_rules = record {
    states = sound l p;
    behind = λ s t r turn. (is_cell l p s.number t.one t.two (sound l p s r) turn.one_below turn.two_below).behind t.draw turn.draw_below;
    lower = λ s t r turn. (is_cell l p s.number t.one t.two (sound l p s r) turn.one_below turn.two_below).falls t.draw turn.draw_below;
    longest = longest_turn;
    sum_at_end = λ side s r paid stop. bound_at_end side s.number paid stop;
    sum_holds = λ side s t r turn. turn_bound l p side s t r turn;
    sum_there = λ side s r inner paid. worst_turn side s r inner paid;
  }
