use Rattle.restricted_game.proofs.ChildLemmas.{child_rows_later}
use Rattle.restricted_game.proofs.NodeLemmas.{node_later, better_read, better_trans}
use Rattle.restricted_game.proofs.held.Restricted.step.Goals as goal

pub step_over-requires-clause-here : goal.step_over-requires-clause-here
step_over-requires-clause-here g c = node_later _ _ _ _ _ _ c.read.ensures.board.later c.requires.here

pub step_over-requires-clause-read : goal.step_over-requires-clause-read
step_over-requires-clause-read g c = record { since = g.B.Bounds.view c.args.board.now; are = c.in-Ok.ensures.read }

-- ---- a step over what was read
pub returns-in-Ok-step_over-clause-better : goal.returns-in-Ok-step_over-clause-better
returns-in-Ok-step_over-clause-better g c =
    better_trans (g.G.Game.model c.args.g) _ _ _ (better_read (g.G.Game.model c.args.g) _ _ c.read.ensures.board.later c.read.ensures.board.entries) c.step_over.ensures.better

pub returns-in-Ok-step_over-clause-children : goal.returns-in-Ok-step_over-clause-children
returns-in-Ok-step_over-clause-children g c =
    child_rows_later (g.G.Game.model c.args.g) _ _ c.args.node.state _ c.step_over.ensures.better.later c.read.ensures.board.children

pub returns-in-Ok-step_over-clause-stepped : goal.returns-in-Ok-step_over-clause-stepped
returns-in-Ok-step_over-clause-stepped g c = record {
  ended = c.in-Ok-step_over.ensures.stepped.ended (g.B.Bounds.view c.args.board.now) c.in-Ok.ensures.read c.read.ensures.board.entries;
  gap = c.in-Ok-step_over.ensures.stepped.gap (g.B.Bounds.view c.args.board.now) c.in-Ok.ensures.read;
}

pub returns-clause-better : goal.returns-clause-better
returns-clause-better g c =
    better_trans (g.G.Game.model c.args.g) _ _ _ (better_read (g.G.Game.model c.args.g) _ _ c.read.ensures.board.later c.read.ensures.board.entries) c.step_over.ensures.better

pub returns-clause-children : goal.returns-clause-children
returns-clause-children g c =
    child_rows_later (g.G.Game.model c.args.g) _ _ c.args.node.state _ c.step_over.ensures.better.later c.read.ensures.board.children
