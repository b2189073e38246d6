use Rattle.std.proofs.Common.{sym, subst}
use Rattle.bounds_board.proofs.ViewLemmas.{later_trans}
use Rattle.restricted_game.specs.Children.{AreChildRows}
use Rattle.restricted_game.proofs.ChildLemmas.{child_rows_later}
use Rattle.worked_rows.proofs.steps.step_root.Goals as goal

pub step-requires-clause-children : goal.step-requires-clause-children
step-requires-clause-children g c =
    subst (λ (s : g.row.G-State.Denot). AreChildRows (g.G.Game.model c.args.g) (g.B.Bounds.view c.claim.new.self) s c.args.children.now) (sym c.root-root.ensures)
    (child_rows_later _ _ _ _ _ c.claim.ensures.later c.requires.children)

pub returns-in-Ok-clause-later : goal.returns-in-Ok-clause-later
returns-in-Ok-clause-later g c = later_trans _ _ _ c.claim.ensures.later c.step.ensures.better.later

pub returns-in-Err-clause-children : goal.returns-in-Err-clause-children
returns-in-Err-clause-children g c = child_rows_later _ _ _ _ _ c.claim.ensures.later c.requires.children
