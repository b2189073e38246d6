use Rattle.std.proofs.Common.{◌*◌, ◌/◌, length, ℕ, ap, ◌==◌, arith}
use Rattle.std.specs.Prelude.{option_map}
use Rattle.std.proofs.lemmas.Bool.{eq-eqb}
use Rattle.pursuit.specs.declared.PursuitError.TheVariants.{EdgeLoop}
use Rattle.pursuit.specs.Edges.{first_node, second_node}
use Rattle.pursuit.proofs.PositionLemmas.{none_passing, passing_at}
use Rattle.pursuit.proofs.position.check_loops.Goals as goal

pub returns-then-edges-place : goal.returns-then-edges-place
returns-then-edges-place c =
    let edges = c.args.edges.now in
    ap (option_map (λ (edge : ℕ). EdgeLoop (2 * edge))) (passing_at (λ edge. first_node edges edge == second_node edges edge) (length edges / 2) c.loop-edge.edge c.loop-edge.invariant
    (omega arith) (eq-eqb (first_node edges c.loop-edge.edge) (second_node edges c.loop-edge.edge) c.if-edges-place.true))

pub returns : goal.returns
returns c =
    none_passing (λ edge. first_node c.args.edges.now edge == second_node c.args.edges.now edge) (length c.args.edges.now / 2) (λ k l. c.loop-edge.invariant k (omega arith))
