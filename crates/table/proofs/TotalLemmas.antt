-- The sums from a state on: what is as bad, how far they are from 0, and the list of all.
use Rattle.std.proofs.Common.{◌≡◌, ℕ, zero, suc, ◌+◌, ◌-◌, ◌*◌, ◌<◌, ◌≤◌, ℤ, pos, negsuc, neg_ℤ, ◌+ℤ◌, ◌≤ℤ◌, cond, eqb, List, length, get_or, set, replicate, ap, sym, ◌∙◌, subst, inl, inr, arith}
use Rattle.std.proofs.lemmas.Bool.{cases_eq, cases_lt, cond-false, cond-true, eq-eqb, ne_eqb}
use Rattle.std.proofs.lemmas.Int.{ints}
use Rattle.std.proofs.lemmas.List.{get_or-replicate, get_or-set_other, get_or-set_same, get_or_past, length-replicate, length-set}
use Rattle.sim_game.specs.declared.TheConstants.{MOST_TURNS}
use Rattle.sim_game.specs.declared.Side.{Side}
use Rattle.sim_game.specs.declared.Side.TheVariants.{One, Two}
use Rattle.sim_game.specs.Sides.{other_side, better}
use Rattle.table.specs.Below.{worst_upto}
use Rattle.table.specs.laws.Below.{worst_found}
use Rattle.table.specs.Lists.{Lists, state_count, table_rank, table_value, cells_of, place_at, draws_at, draw_reward, table_cell, table_state, draw_state}
use Rattle.table.specs.Position.{IsTable, IsTableCell}
use Rattle.table.specs.laws.Totals.{cells_some, next_same, total_at_end, total_is}
use Rattle.table.specs.Totals.{turn_total, cell_total, next_total, state_total, total_in, AreNear, AreSmallRewards, AreStateTotals}

-- ---- one more number
pub worst_more : (side : Side) (n : ℕ) (f : ℕ → ℤ) (x y z : ℤ) → 1 ≤ n → x ≡ worst_upto side (n - 1) f → y ≡ f n → z ≡ better (other_side side) x y → z ≡ worst_upto side (n + 1 - 1) f
worst_more side n f x y z some p q e =
    let before : suc (n - 1) ≡ n = omega arith in
    let after : suc (n - 1) ≡ n + 1 - 1 = omega arith in
    e ∙ ap (λ (a : ℤ). better (other_side side) a y) p ∙ ap (better (other_side side) (worst_upto side (n - 1) f)) (q ∙ ap f (sym before)) ∙ ap (λ (k : ℕ). worst_upto side k f) after

-- ---- some turn is as bad
pub total_found : (l : Lists) → IsTable l → (side : Side) (s : ℕ) → s < state_count l → 1 ≤ table_rank l s
    → (k : ℕ) × (d : ℕ) × (k < cells_of l s) × (d < draws_at l (place_at l s k)) × (state_total l side s ≡ turn_total l (state_total l side) (place_at l s k) d)
total_found l p side s here inner =
    let k = worst_found side (cells_of l s - 1) (λ k. cell_total l side (state_total l side) (place_at l s k)) in
    let below : k.0 < cells_of l s = omega (arith, k.1, cells_some l p s here inner) in
    let place = place_at l s k.0 in
    let d = worst_found side (draws_at l place - 1) (turn_total l (state_total l side) place) in
    (k.0, d.0, below, omega (arith, d.1, (p.cells s k.0 here inner below).draws_low), total_is l p side s here inner ∙ k.2 ∙ d.2)

-- ---- how far from 0
abbrev IsWithin : ℕ → ℤ → Type 0
IsWithin far z = (neg_ℤ (pos far) ≤ℤ z) × (z ≤ℤ pos far)

pub reward_small : (rewards : List ℤ) (cell : ℤ) (d : ℕ) → AreSmallRewards rewards → (neg_ℤ (pos 1000000) ≤ℤ draw_reward rewards cell d) × (draw_reward rewards cell d ≤ℤ pos 1000000)
reward_small rewards (pos state) d small = (omega (arith, ints), omega (arith, ints))
reward_small rewards (negsuc first) d small = elim (cases_lt (first + d) (length rewards)) [
  | inl there ↦ small (first + d) (pos 0) there
  | inr past ↦ rw (get_or_past rewards (first + d) (pos 0) past) (omega (arith, ints), omega (arith, ints))
]

-- the list has the sums from a state on, and is near 0 elsewhere
pub record AreTotalsFrom (l : Lists) (s : ℕ) (totals : List ℤ) : Type 0 where
  pub count : length totals ≡ 2 * state_count l
  pub within : s ≤ state_count l
  pub later : (side : Side) (c : ℕ) → s ≤ c → c < state_count l → total_in totals side c ≡ state_total l side c
  pub near : AreNear totals

module _ (l : Lists) (p : IsTable l) (small : AreSmallRewards l.rewards) where
  end_far : (side : Side) (n s : ℕ) → s < state_count l → table_rank l s ≡ 0 → IsWithin (1000000 * (n + 1)) (state_total l side s)
  end_far side n s here stop =
      let e = total_at_end l side (table_rank l s) s stop in
      let low = p.payoff_low s here stop in
      let high = p.payoff_high s here stop in
      (omega (arith, ints, e, low), omega (arith, ints, e, high))

  total_far : (side : Side) (n s : ℕ) → s < state_count l → table_rank l s ≤ n → IsWithin (1000000 * (n + 1)) (state_total l side s)
  total_far side zero s here few = end_far side 0 s here (omega arith)
  total_far side (suc n) s here few = elim (cases_eq (table_rank l s) 0) [
    | inl stop ↦ end_far side (suc n) s here stop
    | inr on ↦
        let inner : 1 ≤ table_rank l s = omega arith in
        let found = total_found l p side s here inner in
        let place = place_at l s found.0 in
        let cell = p.cells s found.0 here inner found.2 in
        let after = total_far side n (table_state l place found.1) (cell.there found.1 found.3) (omega (arith, cell.falls found.1 found.3)) in
        let paid = reward_small l.rewards (table_cell l place) found.1 small in
        (omega (arith, ints, found.4, after.0, paid.0), omega (arith, ints, found.4, after.1, paid.1))
  ]

  -- ---- the list of all
  none_in : (n i : ℕ) → get_or (replicate n (pos 0)) i (pos 0) ≡ pos 0
  none_in n i = elim (cases_lt i n) [
    | inl there ↦ get_or-replicate n i (pos 0) (pos 0) there
    | inr past ↦ get_or_past (replicate n (pos 0)) i (pos 0) (omega (arith, length-replicate n (pos 0)))
  ]

  none_near : (n : ℕ) → AreNear (replicate n (pos 0))
  none_near n One s = (omega (arith, ints, none_in n (2 * s)), omega (arith, ints, none_in n (2 * s)))
  none_near n Two s = (omega (arith, ints, none_in n (2 * s + 1)), omega (arith, ints, none_in n (2 * s + 1)))

  pub totals_none : (n : ℕ) → n ≡ 2 * state_count l → AreTotalsFrom l (state_count l) (replicate n (pos 0))
  totals_none n e = record {
    count = length-replicate n (pos 0) ∙ e;
    within = omega arith;
    later = λ side c past below. absurd (omega arith);
    near = none_near n;
  }

  -- the sums of one more state are written
  abbrev written : ℕ → List ℤ → ℤ → ℤ → List ℤ
  written s totals least most = set (set totals (2 * s) least) (2 * s + 1) most

  module _ (s : ℕ) (totals : List ℤ) (from : AreTotalsFrom l (s + 1) totals) where
    here : s < state_count l
    here = omega (arith, from.within)

    -- what is worked out from those behind it
    abbrev worked : Side → ℤ
    worked side = cond (eqb (table_rank l s) 0) (table_value l s) (next_total l side (total_in totals side) s)

    worked_is : (side : Side) → worked side ≡ state_total l side s
    worked_is side = elim (cases_eq (table_rank l s) 0) [
      | inl stop ↦
          cond-true (eqb (table_rank l s) 0) (table_value l s) (next_total l side (total_in totals side) s) (eq-eqb (table_rank l s) 0 stop)
          ∙ sym (total_at_end l side (table_rank l s) s stop)
      | inr on ↦
          cond-false (eqb (table_rank l s) 0) (table_value l s) (next_total l side (total_in totals side) s) (ne_eqb (table_rank l s) 0 on)
          ∙ next_same l p side (total_in totals side) (state_total l side) s here (omega arith) (λ c behind there falls. from.later side c (omega arith) there)
          ∙ sym (total_is l p side s here (omega arith))
    ]

    written_here : (side : Side) (least most : ℤ) → least ≡ worked One → most ≡ worked Two → total_in (written s totals least most) side s ≡ state_total l side s
    written_here One least most e f =
        get_or-set_other (set totals (2 * s) least) (2 * s + 1) (2 * s) most (pos 0) (λ same. absurd (omega arith))
        ∙ get_or-set_same totals (2 * s) least (pos 0) (omega (arith, from.count, here)) ∙ e ∙ worked_is One
    written_here Two least most e f =
        get_or-set_same (set totals (2 * s) least) (2 * s + 1) most (pos 0) (omega (arith, from.count, here, length-set totals (2 * s) least)) ∙ f ∙ worked_is Two

    written_other : (side : Side) (c : ℕ) (least most : ℤ) → (c ≡ s → ⊥) → total_in (written s totals least most) side c ≡ total_in totals side c
    written_other One c least most h =
        get_or-set_other (set totals (2 * s) least) (2 * s + 1) (2 * c) most (pos 0) (λ same. absurd (omega arith))
        ∙ get_or-set_other totals (2 * s) (2 * c) least (pos 0) (λ same. h (omega arith))
    written_other Two c least most h =
        get_or-set_other (set totals (2 * s) least) (2 * s + 1) (2 * c + 1) most (pos 0) (λ same. h (omega arith))
        ∙ get_or-set_other totals (2 * s) (2 * c + 1) least (pos 0) (λ same. absurd (omega arith))

    pub totals_more : (least most : ℤ) → least ≡ worked One → most ≡ worked Two → AreTotalsFrom l s (written s totals least most)
    totals_more least most e f = record {
      count = length-set (set totals (2 * s) least) (2 * s + 1) most ∙ length-set totals (2 * s) least ∙ from.count;
      within = omega (arith, here);
      later = λ side c past below. elim (cases_eq c s) [
        | inl same ↦ rw same (written_here side least most e f)
        | inr other ↦ written_other side c least most other ∙ from.later side c (omega arith) below
      ];
      near = λ side c. elim (cases_eq c s) [
        | inl same ↦
            let is = written_here side least most e f in
            let far = total_far side MOST_TURNS s here (p.rank_high s here) in
            rw same (omega (arith, ints, is, far.0), omega (arith, ints, is, far.1))
        | inr other ↦ rw (written_other side c least most other) (from.near side c)
      ];
    }

  pub totals_all : (totals : List ℤ) → AreTotalsFrom l 0 totals → AreStateTotals l totals
  totals_all totals from = record { count = from.count; each = λ side s here. from.later side s (omega arith) here }

-- ---- a draw of a cell whose number was read
pub draw_there : (l : Lists) (s place d : ℕ) (number : ℤ) → IsTableCell l s place → table_cell l place ≡ number → d < draws_at l place → draw_state l.draws number d < state_count l
draw_there l s place d number cell e below = subst (λ (n : ℤ). draw_state l.draws n d < state_count l) e (cell.there d below)

pub total_told : (l : Lists) (f : ℕ → ℤ) (place d : ℕ) (number z : ℤ) → table_cell l place ≡ number → z ≡ draw_reward l.rewards number d +ℤ f (draw_state l.draws number d) → z ≡ turn_total l f place d
total_told l f place d number z e told = told ∙ ap (λ (n : ℤ). draw_reward l.rewards n d +ℤ f (draw_state l.draws n d)) (sym e)
