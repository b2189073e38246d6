use Rattle.worked_rows.proofs.passes.+add_inner_keys.Given as goal

abbrev pub decreases-add_inner_keys : goal.decreases-add_inner_keys
decreases-add_inner_keys g l = (g.G.Game.model l.g).rank l.s
