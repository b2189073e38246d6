-- Bounds of a side: which says no more than another, the better of two, sums and products of them.
use Rattle.std.proofs.Common.{◌≡◌, ◌⊎◌, ⊎_elim, inl, inr, ℕ, zero, suc, ◌<◌, ◌≤◌, ℤ, pos, ◌+ℤ◌, ◌-ℤ◌, ◌*ℤ◌, ◌≤ℤ◌, ◌<ℤ◌, sym, subst, arith}
use Rattle.std.proofs.lemmas.Bool.{cases_eq}
use Rattle.std.proofs.lemmas.Int.{ints, clamps}
use Rattle.sums.specs.Sums.{sum_below}
use Rattle.sums.proofs.IntegerLemmas.{int_le_refl, int_le_trans, times_mono, times_add, times_cancel, times_floor, floor_greatest, times_ceiling, ceiling_least}
use Rattle.sums.proofs.SumLemmas.{sum_mono}
use Rattle.sim_game.specs.declared.Side.{Side}
use Rattle.sim_game.specs.declared.Side.TheVariants.{One, Two}
use Rattle.sim_game.specs.Model.{GameModel, IsGame, IsTurn, IsEnd, Reachable, bound_scale}
use Rattle.sim_game.specs.Sides.{other_side, IsNoTighter, IsTighter, better, quotient, opening_bound, state_bound, end_bound, move_of_one, move_of_two, turn_of, draws_of, child_of, turn_reward, over_turns}
use Rattle.sim_game.proofs.ReachLemmas.{reachable_turn}

-- ---- no tighter
pub looser_refl : (side : Side) (x : ℤ) → IsNoTighter side x x
looser_refl One x = int_le_refl x
looser_refl Two x = int_le_refl x

pub looser_trans : (side : Side) (x y z : ℤ) → IsNoTighter side x y → IsNoTighter side y z → IsNoTighter side x z
looser_trans One x y z p q = int_le_trans x y z p q
looser_trans Two x y z p q = int_le_trans z y x q p

pub looser_times : (side : Side) (k : ℕ) (x y : ℤ) → IsNoTighter side x y → IsNoTighter side (pos k *ℤ x) (pos k *ℤ y)
looser_times One k x y h = times_mono k x y h
looser_times Two k x y h = times_mono k y x h

pub looser_cancel : (side : Side) (k : ℕ) (x y : ℤ) → 0 < k → IsNoTighter side (pos k *ℤ x) (pos k *ℤ y) → IsNoTighter side x y
looser_cancel One k x y p h = times_cancel k x y p h
looser_cancel Two k x y p h = times_cancel k y x p h

pub looser_sum : (side : Side) (n : ℕ) (f g : ℕ → ℤ) → ((i : ℕ) → i < n → IsNoTighter side (f i) (g i)) → IsNoTighter side (sum_below n f) (sum_below n g)
looser_sum One n f g h = sum_mono n f g h
looser_sum Two n f g h = sum_mono n g f h

pub looser_both : (side : Side) (x y : ℤ) → IsNoTighter side x y → IsNoTighter side y x → x ≡ y
looser_both One x y p q = omega (arith, ints)
looser_both Two x y p q = omega (arith, ints)

pub looser_left : (side : Side) (x x' y : ℤ) → x ≡ x' → IsNoTighter side x y → IsNoTighter side x' y
looser_left side x x' y e h = subst (λ (z : ℤ). IsNoTighter side z y) e h

pub looser_right : (side : Side) (x y y' : ℤ) → y ≡ y' → IsNoTighter side x y → IsNoTighter side x y'
looser_right side x y y' e h = subst (λ (z : ℤ). IsNoTighter side x z) e h

-- a weight of 0 asks nothing
pub looser_weighted : (side : Side) (k : ℕ) (x y : ℤ) → (1 ≤ k → IsNoTighter side x y) → IsNoTighter side (pos k *ℤ x) (pos k *ℤ y)
looser_weighted One zero x y h = omega (arith, ints)
looser_weighted Two zero x y h = omega (arith, ints)
looser_weighted side (suc k) x y h = looser_times side (suc k) x y (h (omega arith))

pub flip_side : (side : Side) (x y : ℤ) → IsNoTighter (other_side side) x y → IsNoTighter side y x
flip_side One x y h = h
flip_side Two x y h = h

-- ---- quotients
-- the quotient, times the divisor, says no more than the number
pub looser_quotient : (side : Side) (k : ℕ) (x : ℤ) → 0 < k → IsNoTighter side (pos k *ℤ quotient side k x) x
looser_quotient One k x p = times_floor k x p
looser_quotient Two k x p = times_ceiling k x p

-- and each bound whose product says no more is no tighter
pub quotient_tightest : (side : Side) (k : ℕ) (x bound : ℤ) → 0 < k → IsNoTighter side (pos k *ℤ bound) x → IsNoTighter side bound (quotient side k x)
quotient_tightest One k x bound p h = floor_greatest k x bound p h
quotient_tightest Two k x bound p h = ceiling_least k x bound p h

-- ---- the better of two
pub better_cases : (side : Side) (x y : ℤ) → (better side x y ≡ x) ⊎ (better side x y ≡ y)
better_cases One x y = grind (arith, ints)
better_cases Two x y = grind (arith, ints)

pub better_left : (side : Side) (x y : ℤ) → IsNoTighter side x (better side x y)
better_left One x y = omega (arith, ints, clamps)
better_left Two x y = omega (arith, ints, clamps)

pub better_right : (side : Side) (x y : ℤ) → IsNoTighter side y (better side x y)
better_right One x y = omega (arith, ints, clamps)
better_right Two x y = omega (arith, ints, clamps)

pub better_least : (side : Side) (x y z : ℤ) → IsNoTighter side x z → IsNoTighter side y z → IsNoTighter side (better side x y) z
better_least One x y z p q = omega (arith, ints, clamps)
better_least Two x y z p q = omega (arith, ints, clamps)

pub better_swap : (side : Side) (x y z : ℤ) → better side x (better side y z) ≡ better side y (better side x z)
better_swap One x y z = omega (arith, ints, clamps)
better_swap Two x y z = omega (arith, ints, clamps)

-- ---- tighter
less_or : (x y : ℤ) → (x <ℤ y) ⊎ (y ≤ℤ x)
less_or x y = grind (arith, ints)

pub tighter_or : (side : Side) (x y : ℤ) → IsTighter side x y ⊎ IsNoTighter side x y
tighter_or One x y = less_or y x
tighter_or Two x y = less_or x y

pub tighter_not : (side : Side) (x y : ℤ) → IsTighter side x y → IsNoTighter side x y → ⊥
tighter_not One x y p q = absurd (omega (arith, ints))
tighter_not Two x y p q = absurd (omega (arith, ints))

pub tighter_is : (side : Side) (x y : ℤ) → IsTighter side x y → IsNoTighter side y x
tighter_is One x y p = omega (arith, ints)
tighter_is Two x y p = omega (arith, ints)

-- x is tighter than y, and y at least as tight as z
pub tighter_than : (side : Side) (x y z : ℤ) → IsTighter side x y → IsNoTighter side z y → IsTighter side x z
tighter_than One x y z p q = omega (arith, ints)
tighter_than Two x y z p q = omega (arith, ints)

-- x is at least as tight as y, and y tighter than z
pub least_tighter : (side : Side) (x y z : ℤ) → IsNoTighter side y x → IsTighter side y z → IsTighter side x z
least_tighter One x y z p q = omega (arith, ints)
least_tighter Two x y z p q = omega (arith, ints)

pub above_better : (side : Side) (x y z : ℤ) → IsTighter side x y → IsTighter side x z → IsTighter side x (better side y z)
above_better side x y z p q = ⊎_elim (λ (e : better side y z ≡ y). subst (IsTighter side x) (sym e) p) (λ (e : better side y z ≡ z). subst (IsTighter side x) (sym e) q) (better_cases side y z)

-- the worse of two for the side
pub worse_left : (side : Side) (x y : ℤ) → IsNoTighter side (better (other_side side) x y) x
worse_left side x y = flip_side side _ _ (better_left (other_side side) x y)

pub worse_right : (side : Side) (x y : ℤ) → IsNoTighter side (better (other_side side) x y) y
worse_right side x y = flip_side side _ _ (better_right (other_side side) x y)

pub below_worse : (side : Side) (x y z : ℤ) → IsTighter side x z → IsTighter side y z → IsTighter side (better (other_side side) x y) z
below_worse side x y z p q =
    ⊎_elim (λ (e : better (other_side side) x y ≡ x). subst (λ (w : ℤ). IsTighter side w z) (sym e) p)
    (λ (e : better (other_side side) x y ≡ y). subst (λ (w : ℤ). IsTighter side w z) (sym e) q) (better_cases (other_side side) x y)

-- the worse of two is the second where that is no tighter
pub worse_is : (side : Side) (x y : ℤ) → IsNoTighter side y x → better (other_side side) x y ≡ y
worse_is One x y h = omega (arith, ints, clamps)
worse_is Two x y h = omega (arith, ints, clamps)

-- the better of two is the first where the second is no tighter
pub better_is : (side : Side) (x y : ℤ) → IsNoTighter side y x → better side x y ≡ x
better_is One x y h = omega (arith, ints, clamps)
better_is Two x y h = omega (arith, ints, clamps)

-- and the second where the first is
pub better_other : (side : Side) (x y : ℤ) → IsNoTighter side x y → better side x y ≡ y
better_other One x y h = omega (arith, ints, clamps)
better_other Two x y h = omega (arith, ints, clamps)

-- ---- of a game
-- the opening bounds are not crossed
pub opening_range : {S : Type 0} (m : GameModel S) (side : Side) → IsGame m → IsNoTighter side (opening_bound m side) (opening_bound m (other_side side))
opening_range m One game = times_mono bound_scale m.low m.high game.low_high
opening_range m Two game = times_mono bound_scale m.low m.high game.low_high

-- a state's bounds lie in the range of payoffs
pub opening_state : {S : Type 0} (m : GameModel S) (side : Side) (s : S) → IsGame m → Reachable m s → IsNoTighter side (opening_bound m side) (state_bound m side s)
opening_state m One s game r = times_mono bound_scale m.low (m.least s) (game.least_low s r)
opening_state m Two s game r = times_mono bound_scale (m.most s) m.high (game.most_high s r)

pub end_range : {S : Type 0} (m : GameModel S) (side : Side) (s : S) → IsGame m → Reachable m s → IsEnd m s → IsNoTighter side (state_bound m side s) (end_bound m s)
end_range m One s game r e = times_mono bound_scale (m.least s) (m.payoff s) (game.payoff_low s r e)
end_range m Two s game r e = times_mono bound_scale (m.payoff s) (m.most s) (game.payoff_high s r e)

pub side_turn : {S : Type 0} (m : GameModel S) (side : Side) (s : S) (own reply draw : ℕ)
    → own < m.moves side s → reply < m.moves (other_side side) s → draw < draws_of m side s own reply → IsTurn m s (turn_of side own reply draw)
side_turn m One s own reply draw p q r = record { one_below = p; two_below = q; draw_below = r }
side_turn m Two s own reply draw p q r = record { one_below = q; two_below = p; draw_below = r }

-- ---- turns
pub looser_add : (side : Side) (c x y : ℤ) → IsNoTighter side x y → IsNoTighter side (c +ℤ x) (c +ℤ y)
looser_add One c x y h = omega (arith, ints)
looser_add Two c x y h = omega (arith, ints)

-- what is left of a number without a part that both have
pub looser_less : (side : Side) (c x y : ℤ) → IsNoTighter side x (c +ℤ y) → IsNoTighter side (x -ℤ c) y
looser_less One c x y h = omega (arith, ints)
looser_less Two c x y h = omega (arith, ints)

pub looser_more : (side : Side) (c x y : ℤ) → IsNoTighter side (x -ℤ c) y → IsNoTighter side x (c +ℤ y)
looser_more One c x y h = omega (arith, ints)
looser_more Two c x y h = omega (arith, ints)

pub add_less : (c x : ℤ) → (c +ℤ x) -ℤ c ≡ x
add_less c x = omega (arith, ints)

pub less_add : (c x : ℤ) → c +ℤ (x -ℤ c) ≡ x
less_add c x = omega (arith, ints)

-- a state's bound is no tighter than a turn's reward with the bound of the state that follows
pub turn_range : {S : Type 0} (m : GameModel S) (of side : Side) (s : S) (own reply draw : ℕ) → IsGame m → Reachable m s → IsTurn m s (turn_of side own reply draw)
    → IsNoTighter of (state_bound m of s) (over_turns m side s (state_bound m of) own reply draw)
turn_range m One side s own reply draw game r t =
    let pay : ℤ = m.reward s (move_of_one side own reply) (move_of_two side own reply) draw in
    let next : ℤ = m.least (child_of m side s own reply draw) in
    looser_right One (state_bound m One s) (pos bound_scale *ℤ (pay +ℤ next)) _ (times_add bound_scale pay next)
    (times_mono bound_scale (m.least s) (pay +ℤ next) (game.reward_low s (turn_of side own reply draw) r t))
turn_range m Two side s own reply draw game r t =
    let pay : ℤ = m.reward s (move_of_one side own reply) (move_of_two side own reply) draw in
    let next : ℤ = m.most (child_of m side s own reply draw) in
    looser_right Two (state_bound m Two s) (pos bound_scale *ℤ (pay +ℤ next)) _ (times_add bound_scale pay next)
    (times_mono bound_scale (pay +ℤ next) (m.most s) (game.reward_high s (turn_of side own reply draw) r t))

pub some_draw : {S : Type 0} (m : GameModel S) (side : Side) (s : S) (own reply : ℕ) → IsGame m → Reachable m s
    → own < m.moves side s → reply < m.moves (other_side side) s → 1 ≤ draws_of m side s own reply
some_draw m One s own reply game r p q = game.draws_low s own reply r p q
some_draw m Two s own reply game r p q = game.draws_low s reply own r q p

state_within : {S : Type 0} (m : GameModel S) (side : Side) → IsGame m → (turns : ℕ) (s : S) → Reachable m s → m.rank s ≤ turns
    → IsNoTighter side (state_bound m side s) (state_bound m (other_side side) s)
state_within m side game zero s r few =
    looser_trans side _ _ _ (end_range m side s game r (omega arith)) (flip_side side _ _ (end_range m (other_side side) s game r (omega arith)))
state_within m side game (suc turns) s r few = elim (cases_eq (m.rank s) 0) [
  | inl e ↦ looser_trans side _ _ _ (end_range m side s game r e) (flip_side side _ _ (end_range m (other_side side) s game r e))
  | inr on ↦
      let own = game.other_moves side s r (omega arith) in
      let reply = game.other_moves (other_side side) s r (omega arith) in
      let turn : IsTurn m s (turn_of side 0 0 0) = side_turn m side s 0 0 0 own reply (some_draw m side s 0 0 game r own reply) in
      looser_trans side _ _ _ (turn_range m side side s 0 0 0 game r turn)
      (looser_trans side _ _ _
      (looser_add side (turn_reward m side s 0 0 0) _ _
      (state_within m side game turns (child_of m side s 0 0 0) (reachable_turn m s (turn_of side 0 0 0) r turn)
      (omega (arith, game.rank_falls s (turn_of side 0 0 0) r turn))))
      (flip_side side _ _ (turn_range m (other_side side) side s 0 0 0 game r turn)))
]

-- a state's bounds are not crossed
pub state_range : {S : Type 0} (m : GameModel S) (side : Side) (s : S) → IsGame m → Reachable m s → IsNoTighter side (state_bound m side s) (state_bound m (other_side side) s)
state_range m side s game r = state_within m side game (m.rank s) s r (omega arith)
