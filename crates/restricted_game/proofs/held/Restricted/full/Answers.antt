use Rattle.std.proofs.Common.{rules}
use Rattle.std.proofs.lemmas.List.FromFn.{length-range_with_len}
use Rattle.restricted_game.proofs.HeldLemmas.{all_moves_held}
use Rattle.restricted_game.proofs.held.Restricted.full.Goals as goal

pub invariant_of-result : goal.invariant_of-result
invariant_of-result c =
    rw (c.in_ok-held_rows.ensures.moves, c.in_ok-held_cols.ensures.moves) (
      record {
        rows = all_moves_held c.args.rows c.requires.some_row;
        cols = all_moves_held c.args.cols c.requires.some_col;
        few_rows = c.requires.few_rows;
        few_cols = c.requires.few_cols;
      },
      search rules,
      search rules,
    )

pub returns-clause-all : goal.returns-clause-all
returns-clause-all c =
    rw (c.in_ok-held_rows.ensures.moves, c.in_ok-held_cols.ensures.moves)
    record { rows = length-range_with_len 0 c.args.rows; cols = length-range_with_len 0 c.args.cols }
