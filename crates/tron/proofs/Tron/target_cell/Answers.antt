use Rattle.std.proofs.Common.{ap, sym, ◌∙◌, ℕ}
use Rattle.tron.specs.Rules.{arena_of, neighbour, head_of}
use Rattle.tron.specs.laws.Game.{direction_free, direction_place, direction_at}
use Rattle.tron.proofs.Tron.target_cell.Goals as goal

pub neighbour-requires-clause-there : goal.neighbour-requires-clause-there
neighbour-requires-clause-there c =
    let g = c.args.self.now.setting in
    rw (c.open_direction.ensures, c.head.ensures.is)
    (direction_free (arena_of g c.args.s) (head_of c.args.side (arena_of g c.args.s)) c.args.i (direction_place g c.args.side c.args.s c.args.i c.requires.place)).there

pub returns-clause-is : goal.returns-clause-is
returns-clause-is c =
    let g = c.args.self.now.setting in
    c.neighbour.ensures.is ∙ ap (λ (cell : ℕ). neighbour g.width cell c.open_direction.result) c.head.ensures.is
    ∙ ap (neighbour g.width (head_of c.args.side (arena_of g c.args.s))) (c.open_direction.ensures ∙ sym (direction_at g c.args.side c.args.s c.args.i c.requires.place))
