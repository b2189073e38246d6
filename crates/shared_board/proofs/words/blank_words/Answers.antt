use Rattle.shared_board.proofs.WordLemmas.{blank_more}
use Rattle.shared_board.proofs.words.blank_words.Goals as goal

pub loop-row-preserved : goal.loop-row-preserved
loop-row-preserved c = let more = blank_more c.loop-row.words.items c.loop-row._row c.args.low c.args.high c.loop-row.invariant in
    rw (c.in_ok-push-4.ensures.items, c.in_ok-push-3.ensures.items, c.in_ok-push-2.ensures.items) more
