use Rattle.serde_json.specs.View.{view}
use Rattle.sim_game.specs.declared.Limits.TheVariants.{Wide}
use Rattle.table.specs.Nested.{state_in_range}
use Rattle.table_text.specs.States.{state_form_of}
use Rattle.table_text.proofs.StateLists.{all_read, are_states_in_range, few_so_far, room_so_far, lists_at}
use Rattle.table_text.proofs.lists.Lists.of_states.Goals as goal

pub push_state-requires-clause-range : goal.push_state-requires-clause-range
push_state-requires-clause-range c =
    all_read (λ v. state_in_range Wide (state_form_of (view v))) c.args.states.now c.loop-state.state-index c.state-item.result c.loop-state-test.true c.state-item.is
    (are_states_in_range c.args.states.now c.requires).range

pub push_state-requires-clause-few : goal.push_state-requires-clause-few
push_state-requires-clause-few c =
    few_so_far c.args.states.now c.loop-state.state-index c.state-item.result c.loop-state.lists
    (are_states_in_range c.args.states.now c.requires) c.loop-state-test.true c.loop-state.invariant

pub push_state-requires-clause-room : goal.push_state-requires-clause-room
push_state-requires-clause-room c =
    room_so_far c.args.states.now c.loop-state.state-index c.state-item.result c.loop-state.lists
    (are_states_in_range c.args.states.now c.requires) c.loop-state-test.true c.state-item.is c.loop-state.invariant

pub loop-state-preserved : goal.loop-state-preserved
loop-state-preserved c =
    lists_at c.args.states.now c.loop-state.state-index c.state-item.result c.loop-state.lists c.push_state.new.self c.loop-state-test.true c.state-item.is
    c.loop-state.invariant c.in_ok-push_state.ensures
