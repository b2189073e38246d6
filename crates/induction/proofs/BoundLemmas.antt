-- Bounds by rows: between which numbers they and the numbers of turns lie, and the best one that weights prove.
use Rattle.std.proofs.Common.{◌≡◌, ◌≢◌, ℕ, ◌+◌, Bool, cond, ◌<◌, ◌≤◌, ℤ, pos, ◌+ℤ◌, ◌*ℤ◌, Option, None, Some, List, get_or, inl, inr, refl, sym, ap, ◌∙◌, arith}
use Rattle.std.specs.Int.RustNames.{unsigned_abs}
use Rattle.std.proofs.lemmas.Bool.{cases_eq, cases_lt}
use Rattle.std.proofs.lemmas.Int.{ints}
use Rattle.sums.specs.Sums.{sum_below, count_below}
use Rattle.sums.proofs.CountLemmas.{count_list, count_term}
use Rattle.sums.proofs.IntegerLemmas.{int_le_refl}
use Rattle.sums.proofs.SumLemmas.{sum_weights, sum_more}
use Rattle.sim_game.specs.declared.Side.{Side}
use Rattle.sim_game.specs.declared.Side.TheVariants.{One, Two}
use Rattle.sim_game.specs.Model.{GameModel, IsGame, Reachable, whole_chance}
use Rattle.sim_game.specs.Sides.{other_side, IsNoTighter, IsTighter, quotient, opening_bound, state_bound, end_bound, turn_of, draws_of, chance_of, child_of, turn_reward, over_turns}
use Rattle.sim_game.proofs.ReachLemmas.{reachable_turn}
use Rattle.sim_game.proofs.RewardLemmas.{small_between}
use Rattle.sim_game.proofs.SideLemmas.{opening_state, end_range, state_range, turn_range, looser_add, looser_refl, looser_trans, looser_times, looser_cancel, looser_sum, looser_left, looser_right, looser_quotient, quotient_tightest, tighter_is, side_turn}
use Rattle.plan_book.specs.declared.SheetRow.{SheetRow}
use Rattle.plan_book.specs.Plans.{AreWeights}
use Rattle.plan_book.specs.Sheets.{row_at, bound_or, bound_at}
use Rattle.plan_book.specs.Steps.{cell, worth}
use Rattle.plan_book.proofs.ExpectedLemmas.{is_same, is_other}
use Rattle.plan_book.proofs.GuaranteeLemmas.{chances}
use Rattle.plan_book.proofs.StepLemmas.{looser_rounded, rounded_tightest}
use Rattle.induction.specs.Certified.{IsWithinState, IsBoundWord, ArePlaced, turn_numbers, IsBestStep}

abbrev pub IsSmall : ℤ → Type 0
IsSmall x = unsigned_abs x ≤ 4000000000

-- ---- within what holds of a state
module _ {S : Type 0} (m : GameModel S) (s : S) where
  pub from_state : (side : Side) (x : ℤ) → IsWithinState m s x → IsNoTighter side (state_bound m side s) x
  from_state One x h = h.low
  from_state Two x h = h.high

  pub to_state : (side : Side) (x : ℤ) → IsWithinState m s x → IsNoTighter side x (state_bound m (other_side side) s)
  to_state One x h = h.high
  to_state Two x h = h.low

  pub within_state : (side : Side) (x : ℤ) → IsNoTighter side (state_bound m side s) x → IsNoTighter side x (state_bound m (other_side side) s) → IsWithinState m s x
  within_state One x p q = record { low = p; high = q }
  within_state Two x p q = record { low = q; high = p }

module _ {S : Type 0} (m : GameModel S) (game : IsGame m) where
  pub from_least : (s : S) (x : ℤ) → Reachable m s → IsWithinState m s x → IsNoTighter One (opening_bound m One) x
  from_least s x r h = looser_trans One _ _ _ (opening_state m One s game r) h.low

  pub to_most : (s : S) (x : ℤ) → Reachable m s → IsWithinState m s x → IsNoTighter Two (opening_bound m Two) x
  to_most s x r h = looser_trans Two _ _ _ (opening_state m Two s game r) h.high

  pub within_small : (s : S) (x : ℤ) → Reachable m s → IsWithinState m s x → IsSmall x
  within_small s x r h = small_between m game x (from_least s x r h) (to_most s x r h)

  state_within_state : (side : Side) (s : S) → Reachable m s → IsWithinState m s (state_bound m side s)
  state_within_state One s r = record { low = int_le_refl _; high = state_range m One s game r }
  state_within_state Two s r = record { low = state_range m One s game r; high = int_le_refl _ }

  end_within : (s : S) → Reachable m s → m.rank s ≡ 0 → IsWithinState m s (end_bound m s)
  end_within s r e = record { low = end_range m One s game r e; high = end_range m Two s game r e }

  pub or_within : (side : Side) (s : S) (o : Option SheetRow) → Reachable m s → ((row : SheetRow) → o ≡ Some row → IsWithinState m s row.bound) → IsWithinState m s (bound_or m side s o)
  or_within side s (Some row) r h = h row refl
  or_within side s None r h = elim (cases_eq (m.rank s) 0) [
    | inl stop ↦ rw (is_same (m.rank s) 0 stop) (end_within s r stop)
    | inr on ↦ rw (is_other (m.rank s) 0 on) (state_within_state side s r)
  ]

  pub bound_within : (side : Side) (rows : List SheetRow) (number : S → ℕ) (words : ℕ → ℕ) (s : S) → ArePlaced m number rows words → Reachable m s → IsWithinState m s (bound_at m side rows s)
  bound_within side rows number words s placed r = or_within side s (row_at rows (m.key s)) r (λ row e. placed.ranged s row r e)

  -- ---- bounds as words
  word_small : (o : Option SheetRow) (word : ℕ) → ((row : SheetRow) → o ≡ Some row → IsSmall row.bound) → IsBoundWord o word → word ≤ 12000000000
  word_small None word small is = omega (arith, is)
  word_small (Some row) word small is = let low = small row refl in omega (arith, ints, low, is)

  word_or : (side : Side) (s : S) (o : Option SheetRow) (word : ℕ) (bound : ℤ) → IsBoundWord o word → 1 ≤ word → bound +ℤ pos 8000000000 ≡ pos word → bound ≡ bound_or m side s o
  word_or side s None word bound is some e = absurd (omega (arith, is, some))
  word_or side s (Some row) word bound is some e = omega (arith, ints, is, e)

  none_or : (o : Option SheetRow) (word : ℕ) → ((row : SheetRow) → o ≡ Some row → IsSmall row.bound) → IsBoundWord o word → word ≡ 0 → o ≡ None
  none_or None word small is none = refl
  none_or (Some row) word small is none = absurd (let low = small row refl in omega (arith, ints, low, is, none))

  module _ (rows : List SheetRow) (number : S → ℕ) (words : ℕ → ℕ) (placed : ArePlaced m number rows words) (s : S) (r : Reachable m s) where
    row_small : (row : SheetRow) → row_at rows (m.key s) ≡ Some row → IsSmall row.bound
    row_small row e = within_small s row.bound r (placed.ranged s row r e)

    pub word_within : words (number s) ≤ 12000000000
    word_within = word_small (row_at rows (m.key s)) (words (number s)) row_small (placed.held s r)

    pub bound_by_word : (side : Side) (bound : ℤ) → 1 ≤ words (number s) → bound +ℤ pos 8000000000 ≡ pos (words (number s)) → bound ≡ bound_at m side rows s
    bound_by_word side bound some e = word_or side s (row_at rows (m.key s)) (words (number s)) bound (placed.held s r) some e

    no_row : words (number s) ≡ 0 → row_at rows (m.key s) ≡ None
    no_row none = none_or (row_at rows (m.key s)) (words (number s)) row_small (placed.held s r) none

    pub end_by_word : (side : Side) → words (number s) ≡ 0 → m.rank s ≡ 0 → end_bound m s ≡ bound_at m side rows s
    end_by_word side none stop = sym (ap (bound_or m side s) (no_row none) ∙ ap (λ (b : Bool). cond b (end_bound m s) (state_bound m side s)) (is_same (m.rank s) 0 stop))

    pub state_by_word : (side : Side) → words (number s) ≡ 0 → m.rank s ≢ 0 → state_bound m side s ≡ bound_at m side rows s
    state_by_word side none on = sym (ap (bound_or m side s) (no_row none) ∙ ap (λ (b : Bool). cond b (end_bound m s) (state_bound m side s)) (is_other (m.rank s) 0 on))

  -- ---- the numbers of turns, and their means
  module _ (side : Side) (s : S) (own reply : ℕ) (r : Reachable m s) (at : own < m.moves side s) (against : reply < m.moves (other_side side) s) where
    pub child_reachable : (d : ℕ) → d < draws_of m side s own reply → Reachable m (child_of m side s own reply d)
    child_reachable d u = reachable_turn m s (turn_of side own reply d) r (side_turn m side s own reply d at against u)

    pub chance_light : (d : ℕ) → d < draws_of m side s own reply → chance_of m side s own reply d ≤ 1048576
    chance_light d u = let whole = chances m game side s own reply r at against in
        let part = count_term (draws_of m side s own reply) (chance_of m side s own reply) d u in omega (arith, whole, part)

    turn_within : (f : S → ℤ) (d : ℕ) → d < draws_of m side s own reply → IsWithinState m (child_of m side s own reply d) (f (child_of m side s own reply d))
        → IsWithinState m s (over_turns m side s f own reply d)
    turn_within f d u h =
        let turn = side_turn m side s own reply d at against u in
        let c : ℤ = turn_reward m side s own reply d in
        record {
          low = looser_trans One _ _ _ (turn_range m One side s own reply d game r turn) (looser_add One c _ _ h.low);
          high = looser_trans Two _ _ _ (turn_range m Two side s own reply d game r turn) (looser_add Two c _ _ h.high);
        }

    pub number_within : (rows : List SheetRow) (number : S → ℕ) (words : ℕ → ℕ) → ArePlaced m number rows words → (d : ℕ) → d < draws_of m side s own reply
        → IsWithinState m s (turn_numbers m side rows s own reply d)
    number_within rows number words placed d u = turn_within (bound_at m side rows) d u (bound_within side rows number words (child_of m side s own reply d) placed (child_reachable d u))

    cell_within : (numbers : ℕ → ℕ → ℕ → ℤ) → ((d : ℕ) → d < draws_of m side s own reply → IsWithinState m s (numbers own reply d)) → IsWithinState m s (cell m side s numbers own reply)
    cell_within numbers h =
        let n = draws_of m side s own reply in
        let whole : count_below n (chance_of m side s own reply) ≡ whole_chance = chances m game side s own reply r at against in
        let same : (x : ℤ) → sum_below n (λ d. pos (chance_of m side s own reply d) *ℤ x) ≡ pos whole_chance *ℤ x =
        λ x. sum_weights n (chance_of m side s own reply) x ∙ ap (λ (k : ℕ). pos k *ℤ x) whole in
        within_state m s side _
        (rounded_tightest side _ _
        (looser_left side _ _ _ (same (state_bound m side s)) (looser_sum side n _ _ (λ d u. looser_times side (chance_of m side s own reply d) _ _ (from_state m s side _ (h d u))))))
        (looser_cancel side whole_chance _ _ (omega arith)
        (looser_trans side _ _ _ (looser_rounded side _)
        (looser_right side _ _ _ (same (state_bound m (other_side side) s))
        (looser_sum side n _ _ (λ d u. looser_times side (chance_of m side s own reply d) _ _ (to_state m s side _ (h d u)))))))

    pub cell_by_rows : (rows : List SheetRow) (number : S → ℕ) (words : ℕ → ℕ) → ArePlaced m number rows words → IsWithinState m s (cell m side s (turn_numbers m side rows s) own reply)
    cell_by_rows rows number words placed = cell_within (turn_numbers m side rows s) (λ d u. number_within rows number words placed d u)

-- ---- a sum with one term more
pub one_more : (n : ℕ) (f : ℕ → ℤ) (s x y : ℤ) → s ≡ sum_below n f → x ≡ f n → y ≡ s +ℤ x → y ≡ sum_below (n + 1) f
one_more n f s x y h g e = rw (sum_more n f) (rw (← h) (rw (← g) e))

-- the part of a draw in the sum of a cell
abbrev pub part_of : {S : Type 0} → GameModel S → Side → List SheetRow → S → ℕ → ℕ → ℕ → ℤ
part_of m side rows s own reply d = pos (chance_of m side s own reply d) *ℤ turn_numbers m side rows s own reply d

pub cell_is : {S : Type 0} (m : GameModel S) (side : Side) (rows : List SheetRow) (s : S) (own reply count : ℕ) (total result : ℤ)
    → count ≡ draws_of m side s own reply → total ≡ sum_below count (part_of m side rows s own reply)
    → result ≡ quotient side whole_chance total → result ≡ cell m side s (turn_numbers m side rows s) own reply
cell_is m side rows s own reply count total result all summed divided = rw (divided, summed, all) refl

pub no_part : (x : ℤ) (weight : ℕ) → weight ≡ 0 → pos 0 ≡ pos weight *ℤ x
no_part x weight e = rw e (omega (arith, ints))

-- ---- the least of numbers for a side
pub record IsLeast (side : Side) (f : ℕ → ℤ) (n : ℕ) (least : ℤ) : Type 0 where
  pub below : (q : ℕ) → q < n → IsNoTighter side least (f q)
  pub place : ℕ
  pub place_in : place < n
  pub is : least ≡ f place

module _ (side : Side) (f : ℕ → ℤ) where
  upto : (n : ℕ) (x : ℤ) → ((q : ℕ) → q < n → IsNoTighter side x (f q)) → IsNoTighter side x (f n) → (q : ℕ) → q < n + 1 → IsNoTighter side x (f q)
  upto n x before last q l = elim (cases_lt q n) [
    | inl earlier ↦ before q earlier
    | inr not ↦ let it : q ≡ n = omega arith in rw it last
  ]

  pub least_taken : (n : ℕ) (least x : ℤ) → IsLeast side f n least → x ≡ f n → IsTighter side least x → IsLeast side f (n + 1) x
  least_taken n least x old e h = record {
    below = upto n x (λ q l. looser_trans side _ _ _ (tighter_is side _ _ h) (old.below q l)) (looser_right side _ _ _ e (looser_refl side x));
    place = n;
    place_in = omega arith;
    is = e;
  }

  pub least_kept : (n : ℕ) (least x : ℤ) → IsLeast side f n least → x ≡ f n → IsNoTighter side least x → IsLeast side f (n + 1) least
  least_kept n least x old e h = record {
    below = upto n least old.below (looser_right side _ _ _ e h);
    place = old.place;
    place_in = let p = old.place_in in omega (arith, p);
    is = old.is;
  }

-- ---- the best bound
module _ {S : Type 0} (m : GameModel S) (game : IsGame m) (side : Side) (s : S) (total : ℕ) (weights : List ℕ) (rows : List SheetRow)
    (r : Reachable m s) (goes : 1 ≤ m.rank s) (some : 1 ≤ total) (whole : AreWeights (m.moves side s) total weights)
    (number : S → ℕ) (words : ℕ → ℕ) (placed : ArePlaced m number rows words) where
  abbrev worths : ℕ → ℤ
  worths reply = worth m side s weights (turn_numbers m side rows s) reply

  weighed : (x : ℤ) → sum_below (m.moves side s) (λ own. pos (get_or weights own 0) *ℤ x) ≡ pos total *ℤ x
  weighed x = sum_weights (m.moves side s) (λ own. get_or weights own 0) x
      ∙ ap (λ (k : ℕ). pos k *ℤ x) (ap (λ (k : ℕ). count_below k (λ i. get_or weights i 0)) (sym whole.one_each) ∙ count_list weights ∙ whole.sums)

  worth_from : (q : ℕ) → q < m.moves (other_side side) s → IsNoTighter side (pos total *ℤ state_bound m side s) (worths q)
  worth_from q p = looser_left side _ _ _ (weighed (state_bound m side s))
      (looser_sum side (m.moves side s) _ _ (λ own u. looser_times side (get_or weights own 0) _ _ (from_state m s side _ (cell_by_rows m game side s own q r u p rows number words placed))))

  worth_to : (q : ℕ) → q < m.moves (other_side side) s → IsNoTighter side (worths q) (pos total *ℤ state_bound m (other_side side) s)
  worth_to q p = looser_right side _ _ _ (weighed (state_bound m (other_side side) s))
      (looser_sum side (m.moves side s) _ _ (λ own u. looser_times side (get_or weights own 0) _ _ (to_state m s side _ (cell_by_rows m game side s own q r u p rows number words placed))))

  pub best_step : (least result : ℤ) → IsLeast side worths (m.moves (other_side side) s) least → result ≡ quotient side total least
      → IsBestStep m side s total weights rows result
  best_step least result is e = rw e (record {
    step = record {
      goes_on = goes;
      one_each = whole.one_each;
      sums = whole.sums;
      some = some;
      proves = λ q p. looser_trans side _ _ _ (looser_quotient side total least some) (is.below q p);
    };
    tightest = λ other step. quotient_tightest side total least other some (looser_right side _ _ _ (sym is.is) (step.proves is.place is.place_in));
    ranged = within_state m s side _
        (quotient_tightest side total least _ some (looser_right side _ _ _ (sym is.is) (worth_from is.place is.place_in)))
        (looser_cancel side total _ _ some (looser_trans side _ _ _ (looser_quotient side total least some) (looser_left side _ _ _ (sym is.is) (worth_to is.place is.place_in))));
  })
