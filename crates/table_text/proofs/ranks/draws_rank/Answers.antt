use Rattle.std.proofs.Common.{◌≡◌, ℕ, ◌∙◌, max, pos, get_or, rules}
use Rattle.std.specs.List.{fold}
use Rattle.serde_json.specs.View.{view}
use Rattle.serde_json.specs.declared.value.Value.{Value}
use Rattle.table_text.specs.States.{rank_in, draw_form_of}
use Rattle.table_text.proofs.StateRanks.{greatest_draw}
use Rattle.table_text.proofs.ranks.draws_rank.Goals as goal

pub returns : goal.returns
returns c =
    let folded : c.fold.result ≡ fold (λ (n : ℕ) (v : Value). max n (rank_in c.args.ranks.now (get_or (draw_form_of (view v)) 0 (pos 0)))) 0 c.args.draws.now = search rules in
    folded ∙ greatest_draw c.args.ranks.now c.args.draws.now
