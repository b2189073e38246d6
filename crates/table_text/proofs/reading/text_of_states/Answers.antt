use Rattle.std.proofs.Common.{map}
use Rattle.serde_json.specs.View.{view}
use Rattle.serde_json.specs.declared.value.Value.{Value}
use Rattle.table_text.specs.States.{state_form_of}
use Rattle.table_text.proofs.StateRanks.{table_is}
use Rattle.table_text.proofs.reading.text_of_states.Goals as goal

pub returns : goal.returns
returns c = record {
  exact = rw (
    c.from_vec.ensures,
    c.from_vec-2.ensures,
    c.from_vec-3.ensures,
    c.from_vec-4.ensures,
    c.from_vec-5.ensures,
    c.from_vec-6.ensures,
  ) (table_is (map (λ (v : Value). state_form_of (view v)) c.args.states.now) c.in_ok-lists.lists c.in_ok-ranks.ranks.items c.told_rewards.result.items c.in_ok-lists.ensures
      c.in_ok-ranks.ensures c.told_rewards.ensures);
}
