-- Steps: the mean at draws, and what a step proves over numbers that are no worse.
use Rattle.std.proofs.Common.{ℕ, ◌<◌, ◌≤◌, ℤ, pos, ◌*ℤ◌, List, get_or, arith}
use Rattle.sim_game.specs.declared.Side.{Side}
use Rattle.sim_game.specs.Model.{GameModel, whole_chance}
use Rattle.sim_game.specs.Sides.{other_side, IsNoTighter, draws_of, chance_of}
use Rattle.sim_game.proofs.SideLemmas.{looser_trans, looser_times, looser_weighted, looser_sum, looser_quotient, quotient_tightest}
use Rattle.plan_book.specs.Steps.{IsStep, rounded, cell}

-- the rounded mean, times the whole of the chances, says no more than the sum
pub looser_rounded : (side : Side) (x : ℤ) → IsNoTighter side (pos whole_chance *ℤ rounded side x) x
looser_rounded side x = looser_quotient side whole_chance x (omega arith)

-- each bound that a sum allows is no tighter than its rounded mean
pub rounded_tightest : (side : Side) (x bound : ℤ) → IsNoTighter side (pos whole_chance *ℤ bound) x → IsNoTighter side bound (rounded side x)
rounded_tightest side x bound h = quotient_tightest side whole_chance x bound (omega arith) h

pub cell_mono : {S : Type 0} (m : GameModel S) (side : Side) (s : S) (numbers others : ℕ → ℕ → ℕ → ℤ) (own reply : ℕ)
    → ((d : ℕ) → d < draws_of m side s own reply → IsNoTighter side (numbers own reply d) (others own reply d)) → IsNoTighter side (cell m side s numbers own reply) (cell m side s others own reply)
cell_mono m side s numbers others own reply h =
    rounded_tightest side _ _ (looser_trans side _ _ _ (looser_rounded side _)
    (looser_sum side (draws_of m side s own reply) _ _ (λ d u. looser_times side (chance_of m side s own reply d) _ _ (h d u))))

-- a step stays one over numbers that are no worse
pub step_mono : {S : Type 0} (m : GameModel S) (side : Side) (s : S) (total : ℕ) (weights : List ℕ) (numbers others : ℕ → ℕ → ℕ → ℤ) (bound : ℤ) → IsStep m side s total weights numbers bound
    → ((own reply d : ℕ) → own < m.moves side s → reply < m.moves (other_side side) s → d < draws_of m side s own reply → 1 ≤ get_or weights own 0
    → IsNoTighter side (numbers own reply d) (others own reply d))
    → IsStep m side s total weights others bound
step_mono m side s total weights numbers others bound step h = record {
  goes_on = step.goes_on;
  one_each = step.one_each;
  sums = step.sums;
  some = step.some;
  proves = λ reply q. looser_trans side _ _ _ (step.proves reply q)
      (looser_sum side (m.moves side s) _ _ (λ own p. looser_weighted side (get_or weights own 0) _ _ (λ w. cell_mono m side s numbers others own reply (λ d u. h own reply d p q u w))));
}
