use Rattle.pursuit.specs.Rules.{pursuit_root, graph_of}
use Rattle.pursuit.proofs.RoundLemmas.{longer_bound, more_bound}
use Rattle.pursuit.proofs.laws.more_rounds_are_no_worse.Goals as goal

pub returns-clause-states : goal.returns-clause-states
returns-clause-states c = λ g few many more. more_bound (graph_of g) (pursuit_root g) (pursuit_root g) few many more

pub returns-clause-positions : goal.returns-clause-positions
returns-clause-positions c = longer_bound
