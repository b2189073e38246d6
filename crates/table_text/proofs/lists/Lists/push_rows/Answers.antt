use Rattle.std.proofs.Common.{◌≡◌, ℕ, List, [], ◌∷◌, ◌++◌, ◌∙◌, ap, sym, subst, length, arith, ℤ, pos, rules}
use Rattle.serde_json.specs.View.{view}
use Rattle.table.specs.Nested.{CellForm, moves_told}
use Rattle.table_text.specs.States.{state_form_of, AddsCells}
use Rattle.table_text.proofs.StateLists.{are_rows, kept_range, appends_then, moves_are, values_are}
use Rattle.table_text.proofs.lists.Lists.push_rows.Goals as goal

pub push_count-requires-2 : goal.push_count-requires-2
push_count-requires-2 c =
    omega (arith, c.columns.ensures, (are_rows c.elements-rows.result.now (view c.args.state.now) c.elements-rows.ensures c.requires.kind c.requires.range).columns)

pub push_rows-requires-clause-range : goal.push_rows-requires-clause-range
push_rows-requires-clause-range c =
    kept_range c.elements-rows.result.now c.kept_rows.result.now (view c.args.state.now) c.elements-rows.ensures c.kept_rows.ensures.rows
    (are_rows c.elements-rows.result.now (view c.args.state.now) c.elements-rows.ensures c.requires.kind c.requires.range).range

pub returns : goal.returns
returns c =
    let rows = c.elements-rows.result.now in
    let count : c.len.result ≡ length c.args.self.now.cells.numbers.items = search rules in
    record {
      moves = appends_then c.args.self.now.moves.items c.push_count.new.list.items c.push_count-2.new.list.items (pos (length rows) ∷ []) (pos c.columns.result ∷ [])
          (moves_told (state_form_of (view c.args.state.now)))
          c.in_ok-push_count.ensures c.in_ok-push_count-2.ensures (moves_are rows (view c.args.state.now) c.columns.result c.elements-rows.ensures c.requires.kind c.columns.ensures);
      values = c.in_ok-push_count-3.ensures ∙ ap (λ (n : ℕ). c.args.self.now.values.items ++ pos n ∷ []) count
          ∙ ap (λ (zs : List ℤ). c.args.self.now.values.items ++ zs) (sym (values_are (length c.args.self.now.cells.numbers.items) (view c.args.state.now) c.requires.kind));
      cells = subst (λ (cells : List CellForm). AddsCells c.args.self.now.cells c.push_rows.new.self cells) c.kept_rows.ensures.cells c.in_ok-push_rows.ensures;
    }
