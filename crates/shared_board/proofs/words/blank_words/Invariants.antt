use Rattle.shared_board.specs.Words.{IsBlank}
use Rattle.shared_board.proofs.words.blank_words.Given as goal

abbrev pub invariant-loop-row : goal.invariant-loop-row
invariant-loop-row l = IsBlank l.words.items l._row l.low l.high
