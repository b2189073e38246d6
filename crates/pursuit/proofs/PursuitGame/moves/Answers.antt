use Rattle.std.proofs.Common.{◌≡◌, ℕ, false, length, ap, sym, ◌∙◌}
use Rattle.pursuit.specs.laws.Game.{node_below, open_ways, pursuit_sound}
use Rattle.state_key.proofs.SetLemmas.{members_count}
use Rattle.pursuit.specs.Rules.{graph_of, is_chase_over, reach}
use Rattle.pursuit.proofs.PursuitGame.moves.Goals as goal

pub reach-requires : goal.reach-requires
reach-requires c =
    rw c.node.ensures (node_below c.args.self.now.setting c.args.self.now.valid c.args.side c.args.s (pursuit_sound c.args.self.now.setting c.args.self.now.valid c.args.s c.requires))

pub returns-else-is_over : goal.returns-else-is_over
returns-else-is_over c =
    let over : is_chase_over c.args.s ≡ false = sym c.is_over.ensures ∙ c.if-is_over.false in
    sym (members_count c.args.self.now.setting.nodes 0 c.reach.result c.reach.ensures.small) ∙ ap length c.reach.ensures.is
    ∙ ap (λ (node : ℕ). length (reach (graph_of c.args.self.now.setting) node)) c.node.ensures ∙ sym (ap length (open_ways (graph_of c.args.self.now.setting) c.args.side c.args.s over))
