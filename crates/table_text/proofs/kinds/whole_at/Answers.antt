use Rattle.std.proofs.Common.{◌∙◌, rules, w64, SFits}
use Rattle.std.proofs.lemmas.Int.{to_z-of_z}
use Rattle.serde_json.specs.View.{view}
use Rattle.table_text.proofs.StateLists.{read_at}
use Rattle.table_text.proofs.kinds.whole_at.Goals as goal

pub returns-then-place-numbers : goal.returns-then-place-numbers
returns-then-place-numbers c =
    let fits : SFits w64 c.whole.result = search rules in
    to_z-of_z w64 c.whole.result fits ∙ c.whole.ensures
    ∙ read_at c.elements-numbers.result.now (view c.args.value.now) c.args.place c.index-numbers-place.result c.elements-numbers.ensures c.if-place-numbers.true c.index-numbers-place.is
