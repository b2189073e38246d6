use Rattle.std.proofs.Common.{rules, ◌≡◌, ◌∷◌, []}
use Rattle.restricted_game.proofs.HeldLemmas.{one_move}
use Rattle.restricted_game.proofs.held.Restricted.new.Goals as goal

pub invariant_of-result : goal.invariant_of-result
invariant_of-result c =
    let rows : c.push_reserved.new.self.items ≡ c.args.first.0 ∷ [] = search rules in
    let cols : c.push_reserved-2.new.self.items ≡ c.args.first.1 ∷ [] = search rules in
    rw (rows, cols) (
      record {
        rows = one_move c.args.rows c.args.first.0 c.requires.row;
        cols = one_move c.args.cols c.args.first.1 c.requires.col;
        few_rows = c.requires.few_rows;
        few_cols = c.requires.few_cols;
      },
      search rules,
      search rules,
    )
