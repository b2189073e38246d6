use Rattle.worked_rows.proofs.boards.+is_inner_key.Given as goal

abbrev pub decreases-is_inner_key : goal.decreases-is_inner_key
decreases-is_inner_key g l = (g.G.Game.model l.g).rank l.s
