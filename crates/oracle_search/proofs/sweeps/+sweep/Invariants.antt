use Rattle.std.proofs.Common.{◌≡◌, ℕ, ◌+◌, ◌*◌, ◌/◌, ◌%◌, ◌<◌, true}
use Rattle.oracle_search.specs.Searches.{AreDone}
use Rattle.oracle_search.specs.Sweeps.{IsSweepDone}
use Rattle.oracle_search.specs.Workers.{at_work}
use Rattle.oracle_search.proofs.SweepLemmas.{IsSweeping}
use Rattle.oracle_search.proofs.sweeps.+sweep.Given as goal

abbrev pub decreases-sweep_child : goal.decreases-sweep_child
decreases-sweep_child g l = 8 * (g.G.Game.model l.setup.now.game).rank l.s + 8

abbrev pub decreases-sweep_children : goal.decreases-sweep_children
decreases-sweep_children g l = 8 * (g.G.Game.model l.setup.now.game).rank l.s + 4

abbrev pub decreases-sweep_draws : goal.decreases-sweep_draws
decreases-sweep_draws g l = 8 * (g.G.Game.model l.setup.now.game).rank l.s + 2

abbrev pub decreases-sweep_state : goal.decreases-sweep_state
decreases-sweep_state g l = 8 * (g.G.Game.model l.setup.now.game).rank l.s + 6

abbrev pub invariant-sweep_children-loop-step : goal.invariant-sweep_children-loop-step
invariant-sweep_children-loop-step g l =
    let m = g.G.Game.model l.setup.game in
    let v = g.B.Bounds.view l.board in
    let pair : ℕ → ℕ = λ step. (l.first % l.pairs + step) % l.pairs in
    IsSweeping m l.sweep.is_last l.s l.children (at_work (g.B.Bounds.view l.initial.board) l.initial.worker) (at_work v l.worker)
    (l.sweep.is_last ≡ true → (step : ℕ) → step < l.step → AreDone m v l.s (pair step / l.cols) (pair step % l.cols))

abbrev pub invariant-sweep_draws-loop-draw : goal.invariant-sweep_draws-loop-draw
invariant-sweep_draws-loop-draw g l =
    let m = g.G.Game.model l.setup.game in
    let v = g.B.Bounds.view l.board in
    IsSweeping m l.sweep.is_last l.s l.children (at_work (g.B.Bounds.view l.initial.board) l.initial.worker) (at_work v l.worker)
    ((d : ℕ) → d < l.draw → IsSweepDone m l.sweep.is_last v (m.drawn l.s l.moves.0 l.moves.1 d))
