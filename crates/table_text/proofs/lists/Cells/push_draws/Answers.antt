use Rattle.std.proofs.Common.{◌≡◌, ℕ, ℤ, List, [], ◌∷◌, ◌++◌, ◌∙◌, ap, sym, subst, map, length, negsuc, rules}
use Rattle.std.proofs.lemmas.List.{append-nil}
use Rattle.serde_json.specs.View.{view}
use Rattle.serde_json.specs.declared.value.Value.{Value}
use Rattle.table_text.specs.States.{draw_form_of, AddsDraws}
use Rattle.table_text.proofs.lists.Cells.push_draws.Goals as goal

pub returns : goal.returns
returns c =
    let count : c.len.result ≡ length c.args.self.now.draws.rewards.items = search rules in
    record {
      numbers = c.in_ok-push_first.ensures ∙ ap (λ (n : ℕ). c.args.self.now.numbers.items ++ negsuc n ∷ []) count;
      draws = subst (λ (draws : List (List ℤ)). AddsDraws c.args.self.now.draws c.push_all.new.self draws)
          (sym (append-nil (map (λ (v : Value). draw_form_of (view v)) c.args.draws.now))) c.in_ok-push_all.ensures;
    }
