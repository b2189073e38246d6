use Rattle.std.proofs.Common.{ap}
use Rattle.oracle_search.proofs.WorkLemmas.{kept_none}
use Rattle.worked_rows.proofs.steps.search_root.Goals as goal

pub search-requires-clause-kept : goal.search-requires-clause-kept
search-requires-clause-kept g c =
    kept_none (g.G.Game.model c.args.g) (g.B.Bounds.view c.args.board.now) c.new-worker.result (ap (λ w. w.finished.keys) c.new-worker.ensures) (ap (λ w. w.searches.stored) c.new-worker.ensures)
