use Rattle.std.proofs.Common.{arith}
use Rattle.std.proofs.lemmas.Int.{ints}
use Rattle.oracle_search.proofs.sweeps.wanted_gap.Goals as goal

pub returns-else-has_others-clause-last : goal.returns-else-has_others-clause-last
returns-else-has_others-clause-last g c last stage is = let none = c.goal_at.ensures.last last in omega (arith, ints)
