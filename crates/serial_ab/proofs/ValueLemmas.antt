-- The serial bound and the size of the tree, by the children of a state.
use Rattle.std.proofs.Common.{◌≡◌, ℕ, zero, suc, ◌+◌, ◌-◌, ◌<◌, ◌≤◌, ℤ, pos, ◌+ℤ◌, ◌*ℤ◌, inl, inr, refl, sym, ap, ◌∙◌, arith}
use Rattle.std.proofs.lemmas.Bool.{cases_eq}
use Rattle.sim_game.specs.declared.Side.{Side}
use Rattle.sim_game.specs.declared.Side.TheVariants.{One, Two}
use Rattle.sim_game.specs.Model.{GameModel, IsGame, IsTurn, IsEnd, Reachable, LeadsTo}
use Rattle.sums.specs.Sums.{count_below}
use Rattle.sim_game.proofs.ReachLemmas.{reachable_turn, leads_turn}
use Rattle.sums.proofs.SumLemmas.{sum_same, sum_weights}
use Rattle.sim_game.specs.Sides.{other_side, IsNoTighter, opening_bound, state_bound, end_bound, turn_of, draws_of, chance_of, child_of, turn_reward, over_turns}
use Rattle.plan_book.specs.Steps.{cell, rounded}
use Rattle.plan_book.specs.Serial.{best_upto, serial_within, serial_bound, nodes_within, tree_size}
use Rattle.plan_book.proofs.ExpectedLemmas.{is_same, is_other}
use Rattle.plan_book.proofs.GuaranteeLemmas.{chances}
use Rattle.plan_book.proofs.BackedLemmas.{backed_within, mean_within}
use Rattle.plan_book.proofs.SerialLemmas.{best_reached, best_bounds, serial_backed}
use Rattle.sim_game.proofs.SideLemmas.{flip_side, looser_refl, looser_trans, looser_times, looser_sum, looser_left, looser_right, looser_add, side_turn, looser_both, opening_state, end_range, turn_range}
use Rattle.plan_book.proofs.StepLemmas.{looser_rounded, rounded_tightest}
use Rattle.bounds_board.specs.Views.{BoardView, WasFull}
use Rattle.bounds_board.proofs.FullLemmas.{full_weaker}
use Rattle.serial_ab.specs.Searches.{IsInStateRange}
use Rattle.serial_ab.specs.Values.{turn_value, pair_value, move_value, pair_nodes, inner_nodes}

-- ---- equal numbers
pub best_same : (side : Side) (last : ℕ) (f g : ℕ → ℤ) → ((i : ℕ) → i ≤ last → f i ≡ g i) → best_upto side last f ≡ best_upto side last g
best_same side zero f g h = h 0 (omega arith)
best_same side (suc last) f g h = let front = best_same side last f g (λ i p. h i (omega arith)) in let end = h (suc last) (omega arith) in cc

pub cell_same : {S : Type 0} (m : GameModel S) (side : Side) (s : S) (f g : ℕ → ℕ → ℕ → ℤ) (own reply : ℕ)
    → ((d : ℕ) → d < draws_of m side s own reply → f own reply d ≡ g own reply d) → cell m side s f own reply ≡ cell m side s g own reply
cell_same m side s f g own reply h = ap (rounded side) (sum_same (draws_of m side s own reply) _ _ (λ d p. ap (λ (x : ℤ). pos (chance_of m side s own reply d) *ℤ x) (h d p)))

pub cell_mono : {S : Type 0} (m : GameModel S) (side : Side) (s : S) (f g : ℕ → ℕ → ℕ → ℤ) (own reply : ℕ)
    → ((d : ℕ) → d < draws_of m side s own reply → IsNoTighter side (f own reply d) (g own reply d)) → IsNoTighter side (cell m side s f own reply) (cell m side s g own reply)
cell_mono m side s f g own reply h =
    rounded_tightest side _ _ (looser_trans side _ _ _ (looser_rounded side _)
    (looser_sum side (draws_of m side s own reply) _ _ (λ d p. looser_times side (chance_of m side s own reply d) _ _ (h d p))))

count_same : (n : ℕ) (f g : ℕ → ℕ) → ((i : ℕ) → i < n → f i ≡ g i) → count_below n f ≡ count_below n g
count_same zero f g h = refl
count_same (suc n) f g h = let front = count_same n f g (λ i p. h i (omega arith)) in let last = h n (omega arith) in cc

count_add : (n : ℕ) (f g : ℕ → ℕ) → count_below n (λ i. f i + g i) ≡ count_below n f + count_below n g
count_add zero f g = refl
count_add (suc n) f g = omega (arith, count_add n f g)

count_none : (n : ℕ) → count_below n (λ _. 0) ≡ 0
count_none zero = refl
count_none (suc n) = omega (arith, count_none n)

count_exchange : (n k : ℕ) (f : ℕ → ℕ → ℕ) → count_below n (λ i. count_below k (f i)) ≡ count_below k (λ j. count_below n (λ i. f i j))
count_exchange zero k f = sym (count_none k)
count_exchange (suc n) k f = ap (λ (x : ℕ). x + count_below k (f n)) (count_exchange n k f) ∙ sym (count_add k (λ j. count_below n (λ i. f i j)) (f n))

module _ {S : Type 0} (m : GameModel S) (game : IsGame m) where
  pub child_is : (side : Side) (s : S) (own reply d : ℕ) → Reachable m s → own < m.moves side s → reply < m.moves (other_side side) s → d < draws_of m side s own reply
      → Reachable m (child_of m side s own reply d)
  child_is side s own reply d r p q u = reachable_turn m s (turn_of side own reply d) r (side_turn m side s own reply d p q u)

  pub child_lower : (side : Side) (s : S) (own reply d : ℕ) → Reachable m s → own < m.moves side s → reply < m.moves (other_side side) s → d < draws_of m side s own reply
      → m.rank (child_of m side s own reply d) < m.rank s
  child_lower side s own reply d r p q u = game.rank_falls s (turn_of side own reply d) r (side_turn m side s own reply d p q u)

  pub some_draws : (side : Side) (s : S) (own reply : ℕ) → Reachable m s → own < m.moves side s → reply < m.moves (other_side side) s → 1 ≤ draws_of m side s own reply
  some_draws One s own reply r p q = game.draws_low s own reply r p q
  some_draws Two s own reply r p q = game.draws_low s reply own r q p

  -- a state that a child leads to
  pub full_below : {G N : Type 0} (v : BoardView G N) (side : Side) (s : S) (own reply d : ℕ) → own < m.moves side s → reply < m.moves (other_side side) s
      → d < draws_of m side s own reply
      → WasFull m v (LeadsTo m (child_of m side s own reply d)) → WasFull m v (LeadsTo m s)
  full_below v side s own reply d p q u = full_weaker m v _ _ (λ t l. leads_turn m s (turn_of side own reply d) t (side_turn m side s own reply d p q u) l)

  -- ---- turns beyond the rank change nothing
  serial_enough : (side : Side) (n k : ℕ) (s : S) → Reachable m s → m.rank s ≤ n → m.rank s ≤ k → serial_within m side n s ≡ serial_within m side k s
  serial_enough side zero zero s r p q = refl
  serial_enough side zero (suc k) s r p q = let stop : m.rank s ≡ 0 = omega arith in rw (is_same (m.rank s) 0 stop) refl
  serial_enough side (suc n) zero s r p q = let stop : m.rank s ≡ 0 = omega arith in rw (is_same (m.rank s) 0 stop) refl
  serial_enough side (suc n) (suc k) s r p q = elim (cases_eq (m.rank s) 0) [
    | inl stop ↦ rw (is_same (m.rank s) 0 stop) refl
    | inr on ↦ let some = game.other_moves side s r (omega arith) in let others = game.other_moves (other_side side) s r (omega arith) in
        rw (is_other (m.rank s) 0 on) (best_same side (m.moves side s - 1) _ _ (λ own a. best_same (other_side side) (m.moves (other_side side) s - 1) _ _ (λ reply b.
        cell_same m side s (over_turns m side s (λ t. serial_within m side n t)) (over_turns m side s (λ t. serial_within m side k t)) own reply (λ d u.
        let lower = child_lower side s own reply d r (omega arith) (omega arith) u in
        ap (λ (x : ℤ). turn_reward m side s own reply d +ℤ x)
        (serial_enough side n k (child_of m side s own reply d) (child_is side s own reply d r (omega arith) (omega arith) u) (omega arith) (omega arith))))))
  ]

  pub serial_end : (side : Side) (s : S) → IsEnd m s → serial_bound m side s ≡ end_bound m s
  serial_end side s stop = ap (λ (n : ℕ). serial_within m side n s) stop

  -- the best own move against the best reply
  pub serial_moves : (side : Side) (s : S) → Reachable m s → 1 ≤ m.rank s → serial_bound m side s ≡ best_upto side (m.moves side s - 1) (move_value m side s)
  serial_moves side s r goes =
      let some = game.other_moves side s r goes in let others = game.other_moves (other_side side) s r goes in
      let on : ¬ (m.rank s ≡ 0) = λ e. omega arith in
      let more : serial_bound m side s ≡ serial_within m side (suc (m.rank s)) s = serial_enough side (m.rank s) (suc (m.rank s)) s r (omega arith) (omega arith) in
      more ∙ rw (is_other (m.rank s) 0 on) (best_same side (m.moves side s - 1) _ _ (λ own a. best_same (other_side side) (m.moves (other_side side) s - 1) _ _ (λ reply b.
      cell_same m side s (over_turns m side s (λ t. serial_within m side (m.rank s) t)) (turn_value m side s) own reply (λ d u.
      let lower = child_lower side s own reply d r (omega arith) (omega arith) u in
      ap (λ (x : ℤ). turn_reward m side s own reply d +ℤ x)
      (serial_enough side (m.rank s) (m.rank (child_of m side s own reply d)) (child_of m side s own reply d) (child_is side s own reply d r (omega arith) (omega arith) u)
      (omega arith) (omega arith))))))

  nodes_enough : (n k : ℕ) (s : S) → Reachable m s → m.rank s ≤ n → m.rank s ≤ k → nodes_within m n s ≡ nodes_within m k s
  nodes_enough zero zero s r p q = refl
  nodes_enough zero (suc k) s r p q = rw (game.end_moves One s r (omega arith)) refl
  nodes_enough (suc n) zero s r p q = rw (game.end_moves One s r (omega arith)) refl
  nodes_enough (suc n) (suc k) s r p q = ap (λ (x : ℕ). 1 + x) (count_same (m.moves One s) _ _ (λ a u. count_same (m.moves Two s) _ _ (λ b v. count_same (m.draws s a b) _ _ (λ d w.
      let lower = child_lower One s a b d r u v w in
      nodes_enough n k (m.drawn s a b d) (child_is One s a b d r u v w) (omega arith) (omega arith)))))

  -- a state and the trees below it
  pub tree_one : (s : S) → Reachable m s → tree_size m s ≡ 1 + inner_nodes m One s
  tree_one s r = nodes_enough (m.rank s) (suc (m.rank s)) s r (omega arith) (omega arith)
      ∙ ap (λ (x : ℕ). 1 + x) (count_same (m.moves One s) _ _ (λ a u. count_same (m.moves Two s) _ _ (λ b v. count_same (m.draws s a b) _ _ (λ d w.
      let lower = child_lower One s a b d r u v w in
      nodes_enough (m.rank s) (m.rank (m.drawn s a b d)) (m.drawn s a b d) (child_is One s a b d r u v w) (omega arith) (omega arith)))))

  pub tree_moves : (side : Side) (s : S) → Reachable m s → tree_size m s ≡ 1 + inner_nodes m side s
  tree_moves One s r = tree_one s r
  tree_moves Two s r = tree_one s r ∙ ap (λ (x : ℕ). 1 + x) (count_exchange (m.moves One s) (m.moves Two s) (λ a b. pair_nodes m One s a b))

  -- ---- the range of the serial bound
  pub mean_above : (side : Side) (s : S) (numbers : ℕ → ℕ → ℕ → ℤ) (own reply : ℕ) (limit : ℤ) → Reachable m s → own < m.moves side s → reply < m.moves (other_side side) s
      → ((d : ℕ) → d < draws_of m side s own reply → IsNoTighter side limit (numbers own reply d)) → IsNoTighter side limit (cell m side s numbers own reply)
  mean_above side s numbers own reply limit r p q h =
      rounded_tightest side _ limit (looser_left side _ _ _
      (sum_weights (draws_of m side s own reply) (chance_of m side s own reply) limit ∙ ap (λ (n : ℕ). pos n *ℤ limit) (chances m game side s own reply r p q))
      (looser_sum side (draws_of m side s own reply) _ _ (λ d u. looser_times side (chance_of m side s own reply d) _ _ (h d u))))

  -- a reward, with a number in the range of the state that follows, is in that of the state
  module _ (side : Side) (s : S) (own reply d : ℕ) (r : Reachable m s) (p : own < m.moves side s) (q : reply < m.moves (other_side side) s) (u : d < draws_of m side s own reply) (x : ℤ) where
    turn : IsTurn m s (turn_of side own reply d)
    turn = side_turn m side s own reply d p q u

    pub turn_from : IsNoTighter side (state_bound m side (child_of m side s own reply d)) x → IsNoTighter side (state_bound m side s) (turn_reward m side s own reply d +ℤ x)
    turn_from h = looser_trans side _ _ _ (turn_range m side side s own reply d game r turn) (looser_add side (turn_reward m side s own reply d) _ x h)

    pub turn_to : IsNoTighter side x (state_bound m (other_side side) (child_of m side s own reply d)) → IsNoTighter side (turn_reward m side s own reply d +ℤ x) (state_bound m (other_side side) s)
    turn_to h = looser_trans side _ _ _ (looser_add side (turn_reward m side s own reply d) x _ h) (flip_side side _ _ (turn_range m (other_side side) side s own reply d game r turn))

  low_within : (side : Side) (turns : ℕ) (s : S) → Reachable m s → m.rank s ≤ turns → IsNoTighter side (state_bound m side s) (serial_within m side turns s)
  low_within side zero s r h = end_range m side s game r (omega arith)
  low_within side (suc turns) s r h = elim (cases_eq (m.rank s) 0) [
    | inl stop ↦ rw (is_same (m.rank s) 0 stop) (end_range m side s game r stop)
    | inr on ↦ let some = game.other_moves side s r (omega arith) in let others = game.other_moves (other_side side) s r (omega arith) in
        let numbers : ℕ → ℕ → ℕ → ℤ = over_turns m side s (λ t. serial_within m side turns t) in
        let value : ℕ → ℤ = λ own. best_upto (other_side side) (m.moves (other_side side) s - 1) (λ reply. cell m side s numbers own reply) in
        let worst = best_reached (other_side side) (m.moves (other_side side) s - 1) (λ reply. cell m side s numbers 0 reply) in
        let first : 0 < m.moves side s = omega arith in
        let against : worst.0 < m.moves (other_side side) s = omega (arith, worst.1) in
        rw (is_other (m.rank s) 0 on) (looser_trans side _ (value 0) _
        (looser_right side _ _ _ (sym worst.2) (mean_above side s numbers 0 worst.0 (state_bound m side s) r first against (λ d u.
        let lower = child_lower side s 0 worst.0 d r first against u in
        turn_from side s 0 worst.0 d r first against u _ (low_within side turns (child_of m side s 0 worst.0 d) (child_is side s 0 worst.0 d r first against u) (omega arith)))))
        (best_bounds side (m.moves side s - 1) value 0 (omega arith)))
  ]

  pub serial_low : (side : Side) (s : S) → Reachable m s → IsNoTighter side (state_bound m side s) (serial_bound m side s)
  serial_low side s r = low_within side (m.rank s) s r (omega arith)

  pub serial_high : (side : Side) (s : S) → Reachable m s → IsNoTighter side (serial_bound m side s) (state_bound m (other_side side) s)
  serial_high side s r = backed_within m game side s (serial_bound m side s) r (serial_backed m game side s r)

  -- so is that of a turn, and that of a pair of moves
  pub turn_value_low : (side : Side) (s : S) (own reply d : ℕ) → Reachable m s → own < m.moves side s → reply < m.moves (other_side side) s → d < draws_of m side s own reply
      → IsNoTighter side (state_bound m side s) (turn_value m side s own reply d)
  turn_value_low side s own reply d r p q u = turn_from side s own reply d r p q u _ (serial_low side (child_of m side s own reply d) (child_is side s own reply d r p q u))

  pub turn_value_high : (side : Side) (s : S) (own reply d : ℕ) → Reachable m s → own < m.moves side s → reply < m.moves (other_side side) s → d < draws_of m side s own reply
      → IsNoTighter side (turn_value m side s own reply d) (state_bound m (other_side side) s)
  turn_value_high side s own reply d r p q u = turn_to side s own reply d r p q u _ (serial_high side (child_of m side s own reply d) (child_is side s own reply d r p q u))

  pub pair_range : (side : Side) (s : S) (own reply : ℕ) → Reachable m s → own < m.moves side s → reply < m.moves (other_side side) s → IsInStateRange m side s (pair_value m side s own reply)
  pair_range side s own reply r p q = record {
    low = mean_above side s (turn_value m side s) own reply _ r p q (λ d u. turn_value_low side s own reply d r p q u);
    high = mean_within m game side s (turn_value m side s) own reply _ r p q (λ d u. turn_value_high side s own reply d r p q u);
  }

  -- both ends of the range of payoffs, for the serial bound
  pub serial_from : (side : Side) (s : S) → Reachable m s → IsNoTighter side (opening_bound m side) (serial_bound m side s)
  serial_from side s r = looser_trans side _ _ _ (opening_state m side s game r) (serial_low side s r)

  pub serial_to : (side : Side) (s : S) → Reachable m s → IsNoTighter side (serial_bound m side s) (opening_bound m (other_side side))
  serial_to side s r = looser_trans side _ _ _ (serial_high side s r) (flip_side side _ _ (opening_state m (other_side side) s game r))

  -- ---- parts of the value
  pub move_below : (side : Side) (s : S) (own : ℕ) → Reachable m s → 1 ≤ m.rank s → own < m.moves side s → IsNoTighter side (move_value m side s own) (serial_bound m side s)
  move_below side s own r goes p = looser_right side _ _ _ (sym (serial_moves side s r goes)) (best_bounds side (m.moves side s - 1) (move_value m side s) own (omega arith))

  pub pair_above : (side : Side) (s : S) (own reply : ℕ) → 1 ≤ m.moves (other_side side) s → reply < m.moves (other_side side) s
      → IsNoTighter side (move_value m side s own) (pair_value m side s own reply)
  pair_above side s own reply some q = flip_side side _ _ (best_bounds (other_side side) (m.moves (other_side side) s - 1) (pair_value m side s own) reply (omega arith))

  -- what bounds each own move's value bounds the state's
  pub moves_all : (side : Side) (s : S) (x : ℤ) → Reachable m s → 1 ≤ m.rank s → ((own : ℕ) → own < m.moves side s → IsNoTighter side (move_value m side s own) x)
      → IsNoTighter side (serial_bound m side s) x
  moves_all side s x r goes h =
      let best = best_reached side (m.moves side s - 1) (move_value m side s) in let some = game.other_moves side s r goes in
      looser_left side _ _ _ (sym (serial_moves side s r goes ∙ best.2)) (h best.0 (omega (arith, best.1)))

  -- what each reply's cell is no looser than
  pub replies_all : (side : Side) (s : S) (own : ℕ) (x : ℤ) → 1 ≤ m.moves (other_side side) s
      → ((reply : ℕ) → reply < m.moves (other_side side) s → IsNoTighter side x (pair_value m side s own reply)) → IsNoTighter side x (move_value m side s own)
  replies_all side s own x some h =
      let worst = best_reached (other_side side) (m.moves (other_side side) s - 1) (pair_value m side s own) in
      looser_right side _ _ _ (sym worst.2) (h worst.0 (omega (arith, worst.1)))

  -- with one draw the cell is its number
  pub cell_one : (side : Side) (s : S) (numbers : ℕ → ℕ → ℕ → ℤ) (own reply : ℕ) → Reachable m s → own < m.moves side s → reply < m.moves (other_side side) s
      → draws_of m side s own reply ≡ 1 → cell m side s numbers own reply ≡ numbers own reply 0
  cell_one side s numbers own reply r p q e =
      let same : (d : ℕ) → d < draws_of m side s own reply → numbers own reply d ≡ numbers own reply 0 = λ d u. let first : d ≡ 0 = omega arith in ap (numbers own reply) first in
      looser_both side _ _
      (mean_within m game side s numbers own reply (numbers own reply 0) r p q (λ d u. looser_left side _ _ _ (sym (same d u)) (looser_refl side (numbers own reply 0))))
      (mean_above side s numbers own reply (numbers own reply 0) r p q (λ d u. looser_right side _ _ _ (sym (same d u)) (looser_refl side (numbers own reply 0))))
