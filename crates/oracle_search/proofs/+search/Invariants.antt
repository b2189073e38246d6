use Rattle.std.proofs.Common.{ℕ, ◌+◌, ◌-◌, ◌*◌, ◌/◌, ◌%◌, ◌<◌, length, slice_index}
use Rattle.restricted_game.specs.Held.{count_held, count_moves}
use Rattle.oracle_search.specs.Workers.{at_work}
use Rattle.oracle_search.specs.Searches.{IsDone, AreDone}
use Rattle.oracle_search.proofs.GrowLemmas.{IsSearching, IsGrowing}
use Rattle.oracle_search.proofs.+search.Given as goal

abbrev pub decreases-children::search_child : goal.decreases-children::search_child
decreases-children::search_child g l = 8 * (g.G.Game.model l.setup.now.game).rank l.s + 8

abbrev pub decreases-children::search_children : goal.decreases-children::search_children
decreases-children::search_children g l = 8 * (g.G.Game.model l.setup.now.game).rank l.s + 4

abbrev pub decreases-children::search_draws : goal.decreases-children::search_draws
decreases-children::search_draws g l = 8 * (g.G.Game.model l.setup.now.game).rank l.s + 2

abbrev pub decreases-growth::grow : goal.decreases-growth::grow
decreases-growth::grow g l = 8 * (g.G.Game.model l.setup.now.game).rank l.s + 5

abbrev pub decreases-state::search_row : goal.decreases-state::search_row
decreases-state::search_row g l = 8 * (g.G.Game.model l.setup.now.game).rank l.s + 7

abbrev pub decreases-state::close_row : goal.decreases-state::close_row
decreases-state::close_row g l = 8 * (g.G.Game.model l.setup.now.game).rank l.s + 6

abbrev pub invariant-children::search_children-loop-step : goal.invariant-children::search_children-loop-step
invariant-children::search_children-loop-step g l =
    let m = g.G.Game.model l.setup.game in
    let v = g.B.Bounds.view l.board in
    let pair : ℕ → ℕ = λ step. (l.setup.worker + step) % l.pairs in
    IsSearching m l.s l.children (at_work (g.B.Bounds.view l.initial.board) l.initial.worker) (at_work v l.worker)
    ((step : ℕ) → step < l.step → AreDone m v l.s (slice_index l.rows (pair step / length l.cols)) (slice_index l.cols (pair step % length l.cols)))

abbrev pub invariant-children::search_draws-loop-draw : goal.invariant-children::search_draws-loop-draw
invariant-children::search_draws-loop-draw g l =
    let m = g.G.Game.model l.setup.game in
    let v = g.B.Bounds.view l.board in
    IsSearching m l.s l.children (at_work (g.B.Bounds.view l.initial.board) l.initial.worker) (at_work v l.worker)
    ((d : ℕ) → d < l.draw → IsDone m v (m.drawn l.s l.moves.0 l.moves.1 d))

abbrev pub invariant-growth::grow-growth : goal.invariant-growth::grow-growth
invariant-growth::grow-growth g l =
    IsGrowing (g.G.Game.model l.setup.game) l.s l.growth.children l.growth.held (at_work (g.B.Bounds.view l.initial.board) l.initial.worker) (at_work (g.B.Bounds.view l.board) l.worker)

abbrev pub decreases-growth::grow-growth : goal.decreases-growth::grow-growth
decreases-growth::grow-growth g l = count_moves l.growth.held - count_held l.growth.held
