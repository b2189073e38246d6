use Rattle.std.proofs.Common.{map, take}
use Rattle.serde_json.specs.View.{view}
use Rattle.table_text.specs.States.{state_form_of, AreListsOf}
use Rattle.table_text.proofs.lists.Lists.of_states.Given as goal

abbrev pub invariant-loop-state : goal.invariant-loop-state
invariant-loop-state l = AreListsOf (map (λ v. state_form_of (view v)) (take l.state-index l.states)) l.lists
