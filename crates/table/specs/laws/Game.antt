-- A table that can be played is a game.
use Rattle.std.proofs.Common.{◌≡◌, ℕ, zero, suc, ◌+◌, ◌-◌, ◌*◌, ◌/◌, ◌%◌, ◌<◌, ◌≤◌, ℤ, pos, negsuc, neg_ℤ, ◌≤ℤ◌, ◌+ℤ◌, Bool, true, false, cond, eqb, List, [], ◌∷◌, length, drop, get_or, refl, ap, sym, ◌∙◌, inl, inr, arith, add-one}
use Rattle.std.proofs.lemmas.Nat.{mul-le}
use Rattle.std.proofs.lemmas.Bool.{cases_lt, cond_both, eqb-true, eq-eqb}
use Rattle.std.proofs.lemmas.Int.{ints, clamps}
use Rattle.std.specs.Int.{int_max, int_min}
use Rattle.std.specs.Int.RustNames.{unsigned_abs}
use Rattle.sums.specs.Sums.{count_below}
use Rattle.sums.specs.declared.TheConstants.{MOST_MOVES}
use Rattle.sums.proofs.CountLemmas.{count_same}
use Rattle.sim_game.specs.declared.Side.{Side}
use Rattle.sim_game.specs.declared.Side.TheVariants.{One, Two}
use Rattle.sim_game.specs.Model.{Turn, IsTurn, Reachable, IsGame}
use Rattle.sim_game.specs.Sides.{IsNoTighter}
use Rattle.sim_game.proofs.ReachLemmas.{reachable_induction}
use Rattle.sim_game.proofs.SideLemmas.{looser_left, looser_refl}
use Rattle.table.specs.declared.State.{State}
use Rattle.table.specs.laws.Below.{all_at, greatest_at, greatest_high, worst_at, worst_found}
use Rattle.table.specs.Draws.{weight_from, AreDraws}
use Rattle.table.specs.Lists.{Lists, count_in, state_count, table_rank, table_moves, table_value, cells_of, place_at, draw_total, draws_end, first_draw, table_cell, end_at, draws_at, table_weight, table_reward, has_rewards, least_of, greatest_of, table_width}
use Rattle.table.specs.Position.{AreFitting, IsTableCell, IsTable, AreSmallTotals}
use Rattle.table.specs.Rules.{place_of, table_game, turn_sum}
use Rattle.table.specs.Setting.{HasDraw}
use Rattle.table.specs.laws.Totals.{total_at_end, total_turn, unpaid_turn}
use Rattle.table.specs.Totals.{state_total, table_bound, table_range, turn_total, worst_payoff}

-- ---- numbers
-- the place of a pair of moves among the cells of a state
pub pair_below : (a b m n : ℕ) → a < m → b < n → a * n + b < m * n
pair_below a b m n h h' = omega (arith, mul-le (a + 1) n m n (omega arith) (omega arith))

same_state : (s t : State) → s.number ≡ t.number → s ≡ t
same_state s t e = λ i. record { number = e i }

both_cond : (b : Bool) (x x' y y' : ℤ) (R : ℤ → ℤ → Type 0) → (b ≡ true → R x y) → (b ≡ false → R x' y') → R (cond b x x') (cond b y y')
both_cond true x x' y y' R h h' = h refl
both_cond false x x' y y' R h h' = h' refl

-- ---- the range of payoffs
least_low : (l : Lists) (p : (s : ℕ) → s < state_count l → table_rank l s ≡ 0 → neg_ℤ (pos 4000) ≤ℤ table_value l s)
    (n : ℕ) → n ≤ state_count l → neg_ℤ (pos 4000) ≤ℤ least_of l n
least_low l p zero h = omega (arith, ints)
least_low l p (suc n) h =
    let before = least_low l p n (omega arith) in
    cond_both (eqb (table_rank l n) 0) (int_min (least_of l n) (table_value l n)) (least_of l n) (λ (z : ℤ). neg_ℤ (pos 4000) ≤ℤ z)
    (λ e. omega (arith, ints, clamps, before, p n (omega arith) (eqb-true (table_rank l n) 0 e))) (λ _. before)

most_high : (l : Lists) (p : (s : ℕ) → s < state_count l → table_rank l s ≡ 0 → table_value l s ≤ℤ pos 4000)
    (n : ℕ) → n ≤ state_count l → greatest_of l n ≤ℤ pos 4000
most_high l p zero h = omega (arith, ints)
most_high l p (suc n) h =
    let before = most_high l p n (omega arith) in
    cond_both (eqb (table_rank l n) 0) (int_max (greatest_of l n) (table_value l n)) (greatest_of l n) (λ (z : ℤ). z ≤ℤ pos 4000)
    (λ e. omega (arith, ints, clamps, before, p n (omega arith) (eqb-true (table_rank l n) 0 e))) (λ _. before)

pub least_at : (l : Lists) (n s : ℕ) → s < n → table_rank l s ≡ 0 → least_of l n ≤ℤ table_value l s
least_at l zero s h e = absurd (omega arith)
least_at l (suc n) s h e = elim (cases_lt s n) [
  | inl earlier ↦
      let before = least_at l n s earlier e in
      cond_both (eqb (table_rank l n) 0) (int_min (least_of l n) (table_value l n)) (least_of l n) (λ (z : ℤ). z ≤ℤ table_value l s)
      (λ _. omega (arith, ints, clamps, before)) (λ _. before)
  | inr last ↦
      let same : s ≡ n = omega arith in
      rw same (rw (eq-eqb (table_rank l n) 0 (rw (sym same) e)) (omega (arith, ints, clamps)))
]

pub payoff_at : (l : Lists) (n s : ℕ) → s < n → table_rank l s ≡ 0 → table_value l s ≤ℤ greatest_of l n
payoff_at l zero s h e = absurd (omega arith)
payoff_at l (suc n) s h e = elim (cases_lt s n) [
  | inl earlier ↦
      let before = payoff_at l n s earlier e in
      cond_both (eqb (table_rank l n) 0) (int_max (greatest_of l n) (table_value l n)) (greatest_of l n) (λ (z : ℤ). table_value l s ≤ℤ z)
      (λ _. omega (arith, ints, clamps, before)) (λ _. before)
  | inr last ↦
      let same : s ≡ n = omega arith in
      rw same (rw (eq-eqb (table_rank l n) 0 (rw (sym same) e)) (omega (arith, ints, clamps)))
]

-- ---- draws
-- where draws end is within the list
shifted : (c : ℤ) (cells : List ℤ) (total : ℕ)
    → ((place : ℕ) → place < length (c ∷ cells) → first_draw (get_or (c ∷ cells) place (pos 0)) ≤ draws_end (drop (place + 1) (c ∷ cells)) total)
    → (place : ℕ) → place < length cells → first_draw (get_or cells place (pos 0)) ≤ draws_end (drop (place + 1) cells) total
shifted c cells total h place below = rw (add-one place) (rw (add-one (suc place)) at (h (suc place) (omega arith)))

end_within : (cells : List ℤ) (total : ℕ)
    → ((place : ℕ) → place < length cells → first_draw (get_or cells place (pos 0)) ≤ draws_end (drop (place + 1) cells) total)
    → draws_end cells total ≤ total
end_within [] total h = omega arith
end_within (pos state ∷ cells) total h = end_within cells total (shifted (pos state) cells total h)
end_within (negsuc first ∷ cells) total h = omega (arith, h 0 (omega arith), end_within cells total (shifted (negsuc first) cells total h))

pub end_high : (cells : List ℤ) (total : ℕ)
    → ((place : ℕ) → place < length cells → first_draw (get_or cells place (pos 0)) ≤ draws_end (drop (place + 1) cells) total)
    → (place : ℕ) → draws_end (drop place cells) total ≤ total
end_high cells total h zero = end_within cells total h
end_high [] total h (suc place) = omega arith
end_high (c ∷ cells) total h (suc place) = end_high cells total (shifted c cells total h) place

-- the draws of a cell are in the list
pub draw_within : (l : Lists) (place first d : ℕ) → AreFitting l → table_cell l place ≡ negsuc first → d < draws_at l place → first + d < draw_total l
draw_within l place first d fits e below =
    let high : end_at l place ≤ draw_total l = end_high l.cells (draw_total l) fits.draws_rise (place + 1) in
    let count : d < end_at l place - first = rw e at below in
    omega arith

pub has_draw : (l : Lists) (place d : ℕ) (number : ℤ) → AreFitting l → table_cell l place ≡ number → d < draws_at l place → HasDraw l number d
has_draw l place d number fits is below = λ first e. draw_within l place first d fits (is ∙ e) below

-- ---- places
pub count_up_to : (n s : ℕ) (f : ℕ → ℕ) → s < n → count_below s f + f s ≤ count_below n f
count_up_to zero s f h = absurd (omega arith)
count_up_to (suc n) s f h = elim (cases_lt s n) [
  | inl earlier ↦ omega (arith, count_up_to n s f earlier)
  | inr last ↦ let same : s ≡ n = omega arith in rw same (omega arith)
]

pub place_within : (l : Lists) (s k : ℕ) → AreFitting l → s < state_count l → 1 ≤ table_rank l s → k < cells_of l s → place_at l s k < length l.cells
place_within l s k fits here inner below =
    omega (arith, ap unsigned_abs (fits.places s here inner), fits.cells_count, count_up_to (state_count l) s (cells_of l) here)

-- ---- the width
pub moves_in_width : (l : Lists) → length l.moves ≡ 2 * state_count l → (side : Side) (s : ℕ) → s < state_count l → table_moves l side s ≤ table_width l
moves_in_width l count One s here = omega (arith, greatest_at (length l.moves) (count_in l.moves) (2 * s) (omega (arith, count)))
moves_in_width l count Two s here = omega (arith, greatest_at (length l.moves) (count_in l.moves) (2 * s + 1) (omega (arith, count)))

module _ (l : Lists) (most : ℕ) (some : 1 ≤ most) (count : length l.moves ≡ 2 * state_count l)
    (few : (side : Side) (s : ℕ) → s < state_count l → table_moves l side s ≤ most) where
  even_moves : (i s : ℕ) → i ≡ 2 * s → s < state_count l → count_in l.moves i ≤ most
  even_moves i s e here = rw e (few One s here)

  odd_moves : (i s : ℕ) → i ≡ 2 * s + 1 → s < state_count l → count_in l.moves i ≤ most
  odd_moves i s e here = rw e (few Two s here)

  pub width_at_most : table_width l ≤ most
  width_at_most = omega (
    arith,
    greatest_high (length l.moves) most (count_in l.moves) (λ i below. elim (cases_lt (i % 2) 1) [
      | inl even ↦ even_moves i (i / 2) (omega arith) (omega (arith, count))
      | inr odd ↦ odd_moves i (i / 2) (omega arith) (omega (arith, count))
    ]),
  )

module _ (l : Lists) (p : IsTable l) where
  -- a state at which a side has a move is no end
  pub is_inner : (side : Side) (s i : ℕ) → s < state_count l → i < table_moves l side s → 1 ≤ table_rank l s
  is_inner side s i here below = elim (cases_lt 0 (table_rank l s)) [
    | inl more ↦ omega arith
    | inr none ↦ absurd (omega (arith, p.fits.ends side s here (omega arith)))
  ]

  few_moves : (side : Side) (s : ℕ) → s < state_count l → table_moves l side s ≤ MOST_MOVES
  few_moves side s here = elim (cases_lt 0 (table_rank l s)) [
    | inl more ↦ p.moves_high side s here (omega arith)
    | inr none ↦ omega (arith, p.fits.ends side s here (omega arith))
  ]

  pub is_cell : (s a b : ℕ) → s < state_count l → a < table_moves l One s → b < table_moves l Two s → IsTableCell l s (place_of l s a b)
  is_cell s a b here one two = p.cells s (a * table_moves l Two s + b) here (is_inner One s a here one) (pair_below a b (table_moves l One s) (table_moves l Two s) one two)

  pub place_high : (s a b : ℕ) → s < state_count l → a < table_moves l One s → b < table_moves l Two s → place_of l s a b < length l.cells
  place_high s a b here one two = place_within l s (a * table_moves l Two s + b) p.fits here (is_inner One s a here one) (pair_below a b (table_moves l One s) (table_moves l Two s) one two)

  -- each reachable state is one of the table
  pub sound : (s : State) → Reachable (table_game l) s → s.number < state_count l
  sound = reachable_induction (table_game l) (λ s. s.number < state_count l) (omega (arith, p.some))
      (λ s t _ here turn. (is_cell s.number t.one t.two here turn.one_below turn.two_below).there t.draw turn.draw_below)

  pub are_draws : (s a b first : ℕ) → s < state_count l → a < table_moves l One s → b < table_moves l Two s → table_cell l (place_of l s a b) ≡ negsuc first
      → AreDraws l first (draws_at l (place_of l s a b))
  are_draws s a b first here one two e =
      let place = place_of l s a b in
      let cell = is_cell s a b here one two in
      let count = draws_at l place in
      record {
        within = omega (arith, draw_within l place first (count - 1) p.fits e (omega (arith, cell.draws_low)), cell.draws_low);
        few = cell.draws_high;
        weight_low = λ d below. rw e at (cell.weight_low d below);
        weight_sum = count_same count (weight_from l first) (table_weight l place) (λ d below. rw e refl) ∙ cell.weight_sum;
      }

  turn_cell : (s : State) (t : Turn) → Reachable (table_game l) s → IsTurn (table_game l) s t → IsTableCell l s.number (place_of l s.number t.one t.two)
  turn_cell s t r turn = is_cell s.number t.one t.two (sound s r) turn.one_below turn.two_below

  -- the last state is an end
  pub last_is_end : (s : ℕ) → s + 1 ≡ state_count l → table_rank l s ≡ 0
  last_is_end s last = elim (cases_lt 0 (table_rank l s)) [
    | inl more ↦
        let here : s < state_count l = omega arith in
        let one = p.moves_low One s here (omega arith) in
        let two = p.moves_low Two s here (omega arith) in
        let cell = is_cell s 0 0 here (omega arith) (omega arith) in
        absurd (omega (arith, cell.draws_low, cell.behind 0 (omega (arith, cell.draws_low)), cell.there 0 (omega (arith, cell.draws_low))))
    | inr none ↦ omega arith
  ]

  pub moves_width : (side : Side) (s : ℕ) → s < state_count l → table_moves l side s ≤ table_width l
  moves_width = moves_in_width l p.fits.moves_count

  width_high : table_width l ≤ MOST_MOVES
  width_high = width_at_most l MOST_MOVES (omega arith) p.fits.moves_count few_moves

  -- ---- what can still be got
  unpaid_same : (side : Side) (x r : ℤ) → r ≡ pos 0 → IsNoTighter side x (r +ℤ x)
  unpaid_same One x r e = omega (arith, ints, e)
  unpaid_same Two x r e = omega (arith, ints, e)

  pub range_state : (side : Side) (s : ℕ) → s < state_count l → IsNoTighter side (table_range l side) (table_bound l side s)
  range_state side s here = both_cond (has_rewards l) _ _ _ _ (IsNoTighter side)
      (λ paid. worst_at side (state_count l - 1) (state_total l side) s (omega arith)) (λ unpaid. looser_refl side (worst_payoff l side))

  pub bound_turn : (side : Side) (s k d : ℕ) → s < state_count l → 1 ≤ table_rank l s → k < cells_of l s → d < draws_at l (place_at l s k)
      → IsNoTighter side (table_bound l side s) (turn_total l (table_bound l side) (place_at l s k) d)
  bound_turn side s k d here inner below draw = both_cond (has_rewards l) _ _ _ _ (λ x y. IsNoTighter side x (table_reward l (place_at l s k) d +ℤ y))
      (λ paid. total_turn l p side s k d here inner below draw) (λ unpaid. unpaid_same side (worst_payoff l side) _ (unpaid_turn l (place_at l s k) d unpaid))

  payoff_worst : (side : Side) (s : ℕ) → s < state_count l → table_rank l s ≡ 0 → IsNoTighter side (worst_payoff l side) (table_value l s)
  payoff_worst One s here e = least_at l (state_count l) s here e
  payoff_worst Two s here e = payoff_at l (state_count l) s here e

  bound_end : (side : Side) (s : ℕ) → s < state_count l → table_rank l s ≡ 0 → IsNoTighter side (table_bound l side s) (table_value l s)
  bound_end side s here e = cond_both (has_rewards l) _ _ (λ (z : ℤ). IsNoTighter side z (table_value l s))
      (λ paid. looser_left side _ _ _ (sym (total_at_end l side (table_rank l s) s e)) (looser_refl side (table_value l s))) (λ unpaid. payoff_worst side s here e)

  -- by the last state
  low_high : table_range l One ≤ℤ table_range l Two
  low_high =
      let s = state_count l - 1 in
      let last : s + 1 ≡ state_count l = omega (arith, p.some) in
      let rank = last_is_end s last in
      omega (
        arith,
        ints,
        range_state One s (omega arith),
        range_state Two s (omega arith),
        bound_end One s (omega arith) rank,
        bound_end Two s (omega arith) rank,
      )

  pub turn_bound : (side : Side) (s : State) (t : Turn) → Reachable (table_game l) s → IsTurn (table_game l) s t → IsNoTighter side (table_bound l side s.number) (turn_sum l side s t)
  turn_bound side s t r turn =
      bound_turn side s.number (t.one * table_moves l Two s.number + t.two) t.draw (sound s r) (is_inner One s.number t.one (sound s r) turn.one_below)
      (pair_below t.one t.two (table_moves l One s.number) (table_moves l Two s.number) turn.one_below turn.two_below) turn.draw_below

  module _ (q : AreSmallTotals l) where
    low_least : neg_ℤ (pos 4000) ≤ℤ table_range l One
    low_least = cond_both (has_rewards l) _ _ (λ (z : ℤ). neg_ℤ (pos 4000) ≤ℤ z)
        (λ paid. let found = worst_found One (state_count l - 1) (state_total l One) in omega (arith, ints, found.2, (q paid found.0 (omega (arith, found.1, p.some))).0))
        (λ unpaid. least_low l p.payoff_low (state_count l) (omega arith))

    high_most : table_range l Two ≤ℤ pos 4000
    high_most = cond_both (has_rewards l) _ _ (λ (z : ℤ). z ≤ℤ pos 4000)
        (λ paid. let found = worst_found Two (state_count l - 1) (state_total l Two) in omega (arith, ints, found.2, (q paid found.0 (omega (arith, found.1, p.some))).1))
        (λ unpaid. most_high l p.payoff_high (state_count l) (omega arith))

    pub table_is_game : IsGame (table_game l)
    table_is_game = record {
      width_low = omega arith;
      width_high = width_high;
      low_least = low_least;
      low_high = low_high;
      high_most = high_most;
      end_moves = λ side s r h. p.fits.ends side s.number (sound s r) h;
      other_moves = λ side s r h. p.moves_low side s.number (sound s r) h;
      moves_high = λ side s r. moves_width side s.number (sound s r);
      rank_high = λ s r. p.rank_high s.number (sound s r);
      rank_falls = λ s t r turn. (turn_cell s t r turn).falls t.draw turn.draw_below;
      least_low = λ s r. range_state One s.number (sound s r);
      most_high = λ s r. range_state Two s.number (sound s r);
      payoff_low = λ s r h. bound_end One s.number (sound s r) h;
      payoff_high = λ s r h. bound_end Two s.number (sound s r) h;
      reward_low = λ s t r turn. turn_bound One s t r turn;
      reward_high = λ s t r turn. turn_bound Two s t r turn;
      same_key = λ s t r r' e. same_state s t e;
      key_high = λ s r. omega (arith, sound s r, p.few);
      draws_low = λ s a b r one two. (is_cell s.number a b (sound s r) one two).draws_low;
      draws_high = λ s a b r one two. (is_cell s.number a b (sound s r) one two).draws_high;
      chance_low = λ s t r turn. (turn_cell s t r turn).weight_low t.draw turn.draw_below;
      chance_sum = λ s a b r one two. (is_cell s.number a b (sound s r) one two).weight_sum;
      one_draw = λ s a b h r one two. eqb-true _ _ (all_at (length l.cells) (λ place. eqb (draws_at l place) 1) (place_of l s.number a b) h (place_high s.number a b (sound s r) one two));
    }
