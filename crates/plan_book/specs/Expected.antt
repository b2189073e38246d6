-- The payoff that two plans lead to, multiplied out over the whole game tree.
use Rattle.std.specs.Prelude.{ℕ, zero, suc, ◌*◌, ◌^◌, ◌≤◌, ℤ, pos, ◌+ℤ◌, ◌*ℤ◌, nat_eq, cond, List, [], ◌∷◌, ◌++◌, slice_index}
use Rattle.sim_game.specs.declared.Side.{Side}
use Rattle.sim_game.specs.declared.Side.TheVariants.{One, Two}
use Rattle.sim_game.specs.Model.{GameModel, Turn, bound_scale, whole_chance}
use Rattle.sums.specs.Sums.{sum_below}
use Rattle.plan_book.specs.Plans.{Plan, weights_at}
use Rattle.sim_game.specs.Sides.{IsNoTighter}

-- what the weights of all turns of one pair of plans sum to
abbrev pub whole : Plan → Plan → ℕ
whole one two = one.total * two.total * whole_chance

-- the expected sum of what is paid from a state on, times the whole for each of so many turns
abbrev pub expected : {S : Type 0} → GameModel S → Plan → Plan → ℕ → S → List Turn → ℤ
expected m one two zero s history = m.payoff s
expected m one two (suc turns) s history =
    cond (nat_eq (m.rank s) 0)
    (pos (whole one two ^ suc turns) *ℤ m.payoff s)
    (sum_below (m.moves One s) (λ a. sum_below (m.moves Two s) (λ b. sum_below (m.draws s a b) (λ d.
    pos (slice_index (weights_at m One one s history) a * slice_index (weights_at m Two two s history) b * m.chance s a b d)
    *ℤ (pos (whole one two ^ turns) *ℤ m.reward s a b d +ℤ expected m one two turns (m.drawn s a b d) (history ++ record { one = a; two = b; draw = d } ∷ []))))))

-- the plan of One, where a side has the first plan and the other side the second
abbrev pub plan_of_one : Side → Plan → Plan → Plan
plan_of_one One own reply = own
plan_of_one Two own reply = reply

abbrev pub plan_of_two : Side → Plan → Plan → Plan
plan_of_two One own reply = reply
plan_of_two Two own reply = own

-- the plan weighs something, and against every plan of the other side the expected payoff is as good as the bound
pub record Guarantees {S : Type 0} (m : GameModel S) (side : Side) (own : Plan) (bound : ℤ) : Type 0 where
  pub some : 1 ≤ own.total
  pub against : (reply : Plan) → 1 ≤ reply.total →
      let one = plan_of_one side own reply in
      let two = plan_of_two side own reply in
      IsNoTighter side (pos (whole one two ^ m.rank m.root) *ℤ bound) (pos bound_scale *ℤ expected m one two (m.rank m.root) m.root [])
