-- What is defined over draws is, where no pair of moves has more than one, what is defined without them.
use Rattle.std.specs.Prelude.{◌≡◌, ◌↔◌, ℕ, ◌^◌, ◌<◌, ℤ, pos, ◌*ℤ◌, List}
use Rattle.sim_game.specs.declared.Side.{Side}
use Rattle.sim_game.specs.Model.{GameModel, Reachable, HasAtMost, bound_scale, whole_chance}
use Rattle.sim_game.specs.Resolution.{IsResolution}
use Rattle.sim_game.specs.Sides.{other_side}
use Rattle.plan_book.specs.Backed.{IsBacked}
use Rattle.plan_book.specs.Books.{IsBestSheet}
use Rattle.plan_book.specs.declared.Entry.{Entry}
use Rattle.plan_book.specs.declared.Sheet.{Sheet}
use Rattle.plan_book.specs.declared.SheetRow.{SheetRow}
use Rattle.plan_book.specs.Expected.{expected, Guarantees}
use Rattle.plan_book.specs.PlainBounds.{plain_value, IsPlainStep, IsPlainBacked, IsPlainLawful, IsPlainBestSheet, IsPlainResolution}
use Rattle.plan_book.specs.PlainGames.{IsLedTo, HasAtMostStates, plain_size}
use Rattle.plan_book.specs.PlainPlans.{Moves, PlainPlan, plain_weights, plain_sum, PlainGuarantees, first_draws, without_draws, with_draws}
use Rattle.plan_book.specs.Plans.{Plan, weights_at}
use Rattle.plan_book.specs.Serial.{serial_bound, tree_size}
use Rattle.plan_book.specs.Sheets.{IsLawful}
use Rattle.plan_book.specs.Steps.{IsStep, cell}

-- states, trees and the resolution
pub record HasPlainStates {S : Type 0} (m : GameModel S) : Type 0 where
  pub reachable : (s : S) → Reachable m s ↔ IsLedTo m s
  pub most : (count : ℕ) → HasAtMost m count ↔ HasAtMostStates m count
  pub size : (s : S) → Reachable m s → tree_size m s ≡ plain_size m s
  pub resolution : (weight n : ℕ) → IsResolution m weight n ↔ IsPlainResolution m weight n

-- plans: each plain plan is one without draws, and such a plan plays, sums up and guarantees what the one with draws does
pub record HasPlainPlans {S : Type 0} (m : GameModel S) : Type 0 where
  pub each : (plan : PlainPlan) → without_draws (with_draws plan) ≡ plan
  pub plays : (side : Side) (plan : Plan) (s : S) (history : List Moves) → weights_at m side plan s (first_draws history) ≡ plain_weights m side (without_draws plan) s history
  pub sums : (one two : Plan) (turns : ℕ) (s : S) (history : List Moves) → Reachable m s
      → expected m one two turns s (first_draws history) ≡ pos (whole_chance ^ turns) *ℤ plain_sum m (without_draws one) (without_draws two) turns s history
  pub guarantees : (side : Side) (plan : Plan) (bound : ℤ) → Guarantees m side plan bound ↔ PlainGuarantees m side (without_draws plan) bound

-- bounds: a cell is its one number
pub record HasPlainBounds {S : Type 0} (m : GameModel S) : Type 0 where
  pub cells : (side : Side) (s : S) (numbers : ℕ → ℕ → ℕ → ℤ) (own reply : ℕ) → Reachable m s → own < m.moves side s → reply < m.moves (other_side side) s
      → cell m side s numbers own reply ≡ numbers own reply 0
  pub steps : (side : Side) (s : S) (total : ℕ) (weights : List ℕ) (numbers : ℕ → ℕ → ℕ → ℤ) (bound : ℤ) → Reachable m s
      → IsStep m side s total weights numbers bound ↔ IsPlainStep m side s total weights (λ own reply. numbers own reply 0) bound
  pub values : (side : Side) (s : S) → Reachable m s → serial_bound m side s ≡ pos bound_scale *ℤ plain_value m side s
  pub backed : (side : Side) (s : S) (bound : ℤ) → Reachable m s → IsBacked m side s bound ↔ IsPlainBacked m side s bound
  pub sheets : (sheet : Sheet) → IsLawful m sheet ↔ IsPlainLawful m sheet
  pub best : (side : Side) (entries : List Entry) (rows : List SheetRow) → IsBestSheet m side entries rows ↔ IsPlainBestSheet m side entries rows

pub record HasNoDraws {S : Type 0} (m : GameModel S) : Type 0 where
  pub states : HasPlainStates m
  pub plans : HasPlainPlans m
  pub bounds : HasPlainBounds m
