-- How far from 0 payoffs and rewards are.
use Rattle.std.proofs.Common.{ℕ, ◌≤◌, ℤ, ◌+ℤ◌, unsigned_abs, arith}
use Rattle.std.proofs.lemmas.Int.{ints}
use Rattle.sim_game.specs.declared.Side.{Side}
use Rattle.sim_game.specs.declared.Side.TheVariants.{One, Two}
use Rattle.sim_game.specs.Model.{GameModel, IsGame, IsTurn, Reachable}
use Rattle.sim_game.specs.Sides.{IsNoTighter, opening_bound, turn_of, child_of, turn_reward}
use Rattle.sim_game.proofs.ReachLemmas.{reachable_turn}
use Rattle.sim_game.proofs.SideLemmas.{opening_state, state_range, turn_range}

module _ {S : Type 0} (m : GameModel S) (game : IsGame m) where
  pub small_between : (x : ℤ) → IsNoTighter One (opening_bound m One) x → IsNoTighter Two (opening_bound m Two) x → unsigned_abs x ≤ 4000000000
  small_between x p q = omega (arith, ints, game.low_least, game.high_most)

  far : (pay l h l' h' : ℤ) → IsNoTighter One l (pay +ℤ l') → IsNoTighter Two h (pay +ℤ h') → IsNoTighter One l' h' → IsNoTighter One (opening_bound m One) l → IsNoTighter Two (opening_bound m Two) h
      → IsNoTighter One (opening_bound m One) l' → IsNoTighter Two (opening_bound m Two) h' → unsigned_abs pay ≤ 8000000000
  far pay l h l' h' p q k a b c d = omega (arith, ints, game.low_least, game.high_most)

  -- a reward is no further from 0 than two payoffs
  pub reward_small : (side : Side) (s : S) (own reply draw : ℕ) → Reachable m s → IsTurn m s (turn_of side own reply draw) → unsigned_abs (turn_reward m side s own reply draw) ≤ 8000000000
  reward_small side s own reply draw r turn =
      let t = child_of m side s own reply draw in
      let reach : Reachable m t = reachable_turn m s (turn_of side own reply draw) r turn in
      far (turn_reward m side s own reply draw) _ _ _ _ (turn_range m One side s own reply draw game r turn) (turn_range m Two side s own reply draw game r turn) (state_range m One t game reach)
      (opening_state m One s game r) (opening_state m Two s game r) (opening_state m One t game reach) (opening_state m Two t game reach)
