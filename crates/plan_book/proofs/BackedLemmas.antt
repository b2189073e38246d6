-- Backed bounds of the two sides meet.
use Rattle.std.proofs.Common.{◌≡◌, ℕ, ◌*◌, ◌^◌, ◌<◌, ◌≤◌, ℤ, pos, ◌+ℤ◌, ◌-ℤ◌, ◌*ℤ◌, ◌≤ℤ◌, List, get_or, sym, ap, subst, ◌∙◌, arith}
use Rattle.std.proofs.Math.Nat.{one-le-pow, one-le-mul}
use Rattle.sim_game.specs.declared.Side.{Side}
use Rattle.sim_game.specs.declared.Side.TheVariants.{One, Two}
use Rattle.sim_game.specs.Model.{GameModel, IsGame, IsTurn, Reachable, whole_chance}
use Rattle.sums.specs.Sums.{sum_below, count_below}
use Rattle.sums.proofs.IntegerLemmas.{int_le_trans, times_times, times_mono, times_cancel}
use Rattle.sim_game.proofs.ReachLemmas.{reachable_turn}
use Rattle.sums.proofs.SumLemmas.{sum_mono, sum_weights}
use Rattle.sums.proofs.CountLemmas.{count_list}
use Rattle.plan_book.specs.Backed.{IsBacked, by_range, by_end, by_step}
use Rattle.plan_book.specs.Expected.{whole, Guarantees}
use Rattle.plan_book.specs.Plans.{Plan}
use Rattle.sim_game.specs.Sides.{other_side, IsNoTighter, state_bound, turn_of, draws_of, chance_of, child_of, turn_reward, after_reward}
use Rattle.plan_book.specs.Steps.{IsStep, cell}
use Rattle.plan_book.proofs.GuaranteeLemmas.{chances}
use Rattle.sim_game.proofs.SideLemmas.{looser_trans, looser_times, looser_weighted, looser_cancel, looser_sum, looser_left, looser_right, looser_more, add_less, less_add, flip_side, side_turn, end_range, state_range, turn_range}
use Rattle.plan_book.proofs.StepLemmas.{looser_rounded}
use Rattle.plan_book.proofs.TreeSums.{replies_first}

-- ---- guarantees
pub guarantees_meet : {S : Type 0} (m : GameModel S) (one two : Plan) (lower upper : ℤ) → Guarantees m One one lower → Guarantees m Two two upper → lower ≤ℤ upper
guarantees_meet m one two lower upper g h =
    let some : 1 ≤ one.total * two.total * whole_chance = one-le-mul (one-le-mul g.some h.some) (omega arith) in
    times_cancel (whole one two ^ m.rank m.root) lower upper (one-le-pow (m.rank m.root) _ some) (int_le_trans _ _ _ (g.against two h.some) (h.against one g.some))

-- ---- steps
-- the weights of a step, one a move
step_weights : {S : Type 0} (m : GameModel S) (side : Side) (s : S) (total : ℕ) (weights : List ℕ) (numbers : ℕ → ℕ → ℕ → ℤ) (bound : ℤ) → IsStep m side s total weights numbers bound
    → count_below (m.moves side s) (λ i. get_or weights i 0) ≡ total
step_weights m side s total weights numbers bound step = subst (λ (n : ℕ). count_below n (λ i. get_or weights i 0) ≡ total) step.one_each (count_list weights ∙ step.sums)

-- a number that each draw's number is no tighter than bounds the mean
pub mean_within : {S : Type 0} (m : GameModel S) → IsGame m → (side : Side) (s : S) (numbers : ℕ → ℕ → ℕ → ℤ) (own reply : ℕ) (limit : ℤ)
    → Reachable m s → own < m.moves side s → reply < m.moves (other_side side) s
    → ((d : ℕ) → d < draws_of m side s own reply → IsNoTighter side (numbers own reply d) limit) → IsNoTighter side (cell m side s numbers own reply) limit
mean_within m game side s numbers own reply limit r p q h =
    looser_cancel side whole_chance _ _ (omega arith)
    (looser_trans side _ _ _ (looser_rounded side _)
    (looser_right side _ _ _
    (sum_weights (draws_of m side s own reply) (chance_of m side s own reply) limit ∙ ap (λ (n : ℕ). pos n *ℤ limit) (chances m game side s own reply r p q))
    (looser_sum side (draws_of m side s own reply) _ _ (λ d u. looser_times side (chance_of m side s own reply d) _ _ (h d u)))))

-- such a number bounds what the step proves
step_within : {S : Type 0} (m : GameModel S) → IsGame m
    → (side : Side) (s : S) (total : ℕ) (weights : List ℕ) (numbers : ℕ → ℕ → ℕ → ℤ) (bound limit : ℤ) → Reachable m s → IsStep m side s total weights numbers bound
    → ((own reply d : ℕ) → own < m.moves side s → reply < m.moves (other_side side) s → d < draws_of m side s own reply → 1 ≤ get_or weights own 0 → IsNoTighter side (numbers own reply d) limit)
    → IsNoTighter side bound limit
step_within m game side s total weights numbers bound limit r step h =
    looser_cancel side total _ _ step.some
    (looser_trans side _ _ _ (step.proves 0 (game.other_moves (other_side side) s r step.goes_on))
    (looser_right side _ _ _
    (sum_weights (m.moves side s) (λ i. get_or weights i 0) limit ∙ ap (λ (n : ℕ). pos n *ℤ limit) (step_weights m side s total weights numbers bound step))
    (looser_sum side (m.moves side s) _ _ (λ own p. looser_weighted side (get_or weights own 0) _ _ (λ w.
    mean_within m game side s numbers own 0 limit r p (game.other_moves (other_side side) s r step.goes_on) (λ d u. h own 0 d p (game.other_moves (other_side side) s r step.goes_on) u w))))))

-- ---- backed bounds
-- a backed bound where a turn leads, with the turn's reward
pub backed_turn : {S : Type 0} (m : GameModel S) (side : Side) (s : S) (own reply draw : ℕ) (bound : ℤ) → IsBacked m side (child_of m side s own reply draw) bound
    → after_reward m side s own reply draw (IsBacked m side) (turn_reward m side s own reply draw +ℤ bound)
backed_turn m side s own reply draw bound h = subst (IsBacked m side (child_of m side s own reply draw)) (sym (add_less (turn_reward m side s own reply draw) bound)) h

-- what is left of a turn's number is within the other side's bound of the state that follows: so is the number within that of the state
pub turn_within : {S : Type 0} (m : GameModel S) → IsGame m → (side : Side) (s : S) (own reply draw : ℕ) (number : ℤ) → Reachable m s → IsTurn m s (turn_of side own reply draw)
    → IsNoTighter side (number -ℤ turn_reward m side s own reply draw) (state_bound m (other_side side) (child_of m side s own reply draw))
    → IsNoTighter side number (state_bound m (other_side side) s)
turn_within m game side s own reply draw number r turn h =
    looser_trans side _ _ _ (looser_more side (turn_reward m side s own reply draw) number _ h) (flip_side side _ _ (turn_range m (other_side side) side s own reply draw game r turn))

-- a backed bound stays within the other side's bound of the state
pub backed_within : {S : Type 0} (m : GameModel S) (game : IsGame m) (side : Side) (s : S) (bound : ℤ) → Reachable m s → IsBacked m side s bound
    → IsNoTighter side bound (state_bound m (other_side side) s)
backed_within m game side s bound r (by_range s' bound' h) = looser_trans side _ _ _ h (state_range m side s game r)
backed_within m game side s bound r (by_end s' bound' e h) = looser_trans side _ _ _ h (flip_side side _ _ (end_range m (other_side side) s game r e))
backed_within m game side s bound r (by_step s' bound' total weights numbers step children) =
    step_within m game side s total weights numbers bound _ r step (λ own reply d p q u w.
    let turn = side_turn m side s own reply d p q u in
    turn_within m game side s own reply d (numbers own reply d) r turn
    (backed_within m game side (child_of m side s own reply d) (numbers own reply d -ℤ turn_reward m side s own reply d)
    (reachable_turn m s (turn_of side own reply d) r turn) (children own reply d p q u w)))

-- a lower step and an upper step over numbers that meet prove bounds that meet
steps_meet : {S : Type 0} (m : GameModel S) → IsGame m
    → (s : S) (total_one total_two : ℕ) (weights_one weights_two : List ℕ) (numbers_one numbers_two : ℕ → ℕ → ℕ → ℤ) (lower upper : ℤ) → Reachable m s
    → IsStep m One s total_one weights_one numbers_one lower → IsStep m Two s total_two weights_two numbers_two upper
    → ((a b d : ℕ) → a < m.moves One s → b < m.moves Two s → d < m.draws s a b → 1 ≤ get_or weights_one a 0 → 1 ≤ get_or weights_two b 0 → numbers_one a b d ≤ℤ numbers_two b a d)
    → lower ≤ℤ upper
steps_meet m game s total_one total_two weights_one weights_two numbers_one numbers_two lower upper r one two h =
    let n : ℕ = m.moves One s in
    let k : ℕ = m.moves Two s in
    let w : ℕ → ℕ = λ a. get_or weights_one a 0 in
    let v : ℕ → ℕ = λ b. get_or weights_two b 0 in
    let cell_one : ℕ → ℕ → ℤ = λ a b. cell m One s numbers_one a b in
    let cell_two : ℕ → ℕ → ℤ = λ a b. cell m Two s numbers_two b a in
    let cells : (a b : ℕ) → a < n → b < k → 1 ≤ w a → 1 ≤ v b → cell_one a b ≤ℤ cell_two a b = λ a b p q u u'.
    looser_cancel One whole_chance _ _ (omega arith)
    (int_le_trans _ _ _ (looser_rounded One _)
    (int_le_trans _ _ _
    (sum_mono (m.draws s a b) _ _ (λ d t. times_mono (m.chance s a b d) _ _ (h a b d p q t u u')))
    (looser_rounded Two _))) in
    let left : (pos (total_two * total_one) *ℤ lower) ≤ℤ sum_below k (λ b. pos (v b) *ℤ sum_below n (λ a. pos (w a) *ℤ cell_one a b)) =
    looser_left One _ _ _
    (sum_weights k v (pos total_one *ℤ lower)
    ∙ ap (λ (i : ℕ). pos i *ℤ (pos total_one *ℤ lower)) (step_weights m Two s total_two weights_two numbers_two upper two) ∙ times_times total_two total_one lower)
    (sum_mono k _ _ (λ b q. times_mono (v b) _ _ (one.proves b q))) in
    let right : sum_below n (λ a. pos (w a) *ℤ sum_below k (λ b. pos (v b) *ℤ cell_two a b)) ≤ℤ (pos (total_one * total_two) *ℤ upper) =
    looser_right One _ _ _
    (sum_weights n w (pos total_two *ℤ upper)
    ∙ ap (λ (i : ℕ). pos i *ℤ (pos total_two *ℤ upper)) (step_weights m One s total_one weights_one numbers_one lower one) ∙ times_times total_one total_two upper)
    (sum_mono n _ _ (λ a p. times_mono (w a) _ _ (two.proves a p))) in
    let middle : sum_below k (λ b. pos (v b) *ℤ sum_below n (λ a. pos (w a) *ℤ cell_one a b)) ≤ℤ sum_below n (λ a. pos (w a) *ℤ sum_below k (λ b. pos (v b) *ℤ cell_two a b)) =
    looser_left One _ _ _ (replies_first n k w v cell_one)
    (sum_mono n _ _ (λ a p. looser_weighted One (w a) _ _ (λ u. sum_mono k _ _ (λ b q. looser_weighted One (v b) _ _ (λ u'. cells a b p q u u'))))) in
    times_cancel (total_one * total_two) lower upper (one-le-mul one.some two.some)
    (looser_left One _ _ _ (ap (λ (i : ℕ). pos i *ℤ lower) (omega arith)) (int_le_trans _ _ _ left (int_le_trans _ _ _ middle right)))

meet_again : (c x y : ℤ) → (x -ℤ c) ≤ℤ (y -ℤ c) → x ≤ℤ y
meet_again c x y h = looser_right One _ _ _ (less_add c y) (looser_more One c x (y -ℤ c) h)

-- backed bounds of the two sides meet
pub backed_meet : {S : Type 0} (m : GameModel S) (game : IsGame m) (s : S) (lower upper : ℤ) → Reachable m s → IsBacked m One s lower → IsBacked m Two s upper → lower ≤ℤ upper
backed_meet m game s lower upper r (by_range s' lower' h) two = int_le_trans _ _ _ h (backed_within m game Two s upper r two)
backed_meet m game s lower upper r (by_end s' lower' e h) (by_end s'' upper' e' h') = int_le_trans _ _ _ h h'
backed_meet m game s lower upper r (by_end s' lower' e h) (by_range s'' upper' h') = int_le_trans _ _ _ h (int_le_trans _ _ _ (end_range m Two s game r e) h')
backed_meet m game s lower upper r (by_end s' lower' e h) (by_step s'' upper' total weights numbers step children) = absurd (omega (arith, step.goes_on))
backed_meet m game s lower upper r (by_step s' lower' total weights numbers step children) (by_end s'' upper' e h) = absurd (omega (arith, step.goes_on))
backed_meet m game s lower upper r (by_step s' lower' total weights numbers step children) (by_range s'' upper' h) =
    int_le_trans _ _ _ (backed_within m game One s lower r (by_step s lower total weights numbers step children)) h
backed_meet m game s lower upper r (by_step s' lower' total weights numbers step children) (by_step s'' upper' total' weights' numbers' step' children') =
    steps_meet m game s total total' weights weights' numbers numbers' lower upper r step step' (λ a b d p q t u u'.
    let pay : ℤ = turn_reward m One s a b d in
    meet_again pay (numbers a b d) (numbers' b a d)
    (backed_meet m game (m.drawn s a b d) (numbers a b d -ℤ pay) (numbers' b a d -ℤ pay) (reachable_turn m s (turn_of One a b d) r (side_turn m One s a b d p q t))
    (children a b d p q t u) (children' b a d q p t u')))
