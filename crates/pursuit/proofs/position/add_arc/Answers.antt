use Rattle.std.proofs.Common.{arith, ap, ℕ, ◌∙◌, set}
use Rattle.pursuit.specs.Edges.{is_joined_in}
use Rattle.pursuit.proofs.PositionLemmas.{arc_added}
use Rattle.pursuit.proofs.position.add_arc.Goals as goal

pub returns-clause-added : goal.returns-clause-added
returns-clause-added c = λ a b.
    ap (λ (v : ℕ). is_joined_in (set c.args.sets.now c.args.from v) a b) c.with_node.ensures ∙ arc_added c.args.sets.now c.args.from c.args.to a b (omega (arith, c.told-sets, c.requires.from))
