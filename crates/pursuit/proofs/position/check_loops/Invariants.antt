use Rattle.std.proofs.Common.{◌≡◌, ℕ, ◌<◌, false, ◌==◌}
use Rattle.pursuit.specs.Edges.{first_node, second_node}
use Rattle.pursuit.proofs.position.check_loops.Given as goal

abbrev pub invariant-loop-edge : goal.invariant-loop-edge
invariant-loop-edge l = (edge : ℕ) → edge < l.edge → (first_node l.edges edge == second_node l.edges edge) ≡ false
