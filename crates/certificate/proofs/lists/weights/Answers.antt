use Rattle.certificate.specs.Numbers.{natural_in}
use Rattle.certificate.proofs.ListLemmas.{value_more, value_none, values_done}
use Rattle.certificate.proofs.lists.weights.Goals as goal

pub returns-in_default-natural-clause-exact : goal.returns-in_default-natural-clause-exact
returns-in_default-natural-clause-exact c = value_none (natural_in 0 1048576) c.parts.numbers.items _ _ _ _ c.in-Some.ensures c.in_default-natural.ensures.exact c.parts.invariant

pub parts-preserved : goal.parts-preserved
parts-preserved c = rw c.in_ok-push.ensures.items (value_more (natural_in 0 1048576) c.parts.numbers.items _ _ _ _ _ c.in-Some.ensures c.in-Some-natural.ensures.exact c.parts.invariant)

pub returns-clause-exact : goal.returns-clause-exact
returns-clause-exact c = rw c.from_vec.ensures (values_done (natural_in 0 1048576) c.parts.numbers.items _ _ c.in_default.ensures.0 c.parts.invariant)
