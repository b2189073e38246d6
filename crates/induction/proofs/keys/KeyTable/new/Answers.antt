use Rattle.induction.proofs.KeyLemmas.{none_indexed}
use Rattle.induction.proofs.keys.KeyTable.new.Goals as goal

pub invariant_of-result : goal.invariant_of-result
invariant_of-result c = rw (c.new.ensures.items, c.new-2.ensures.items) none_indexed
