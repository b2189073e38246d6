use Rattle.std.proofs.Common.{rules, ◌≤◌}
use Rattle.sim_game.specs.declared.Side.{Side}
use Rattle.sim_game.specs.declared.Side.TheVariants.{One, Two}
use Rattle.serial_ab.specs.Counts.{spent_on}
use Rattle.serial_ab.proofs.visits.Visits.keep_limit.Goals as goal

pub returns : goal.returns
returns c = each where
  each : (side : Side) → spent_on side c.args.self.now ≤ c.args.self.now.limit
  each One = search rules
  each Two = search rules
