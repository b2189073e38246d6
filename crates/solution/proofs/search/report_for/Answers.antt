use Rattle.std.proofs.Common.{false}
use Rattle.std.proofs.lemmas.Result.{IfOk-weaker}
use Rattle.lazy_workers.proofs.FoundLemmas.{found_game}
use Rattle.solution.specs.Solutions.{IsSolvedGame}
use Rattle.solution.proofs.ReportLemmas.{has_gap, solved_game}
use Rattle.solution.proofs.search.report_for.Goals as goal

pub report_of-requires : goal.report_of-requires
report_of-requires g c = has_gap (g.G.Game.model c.args.g.now) c.args.ask.now false c.args.found (found_game (g.G.Game.model c.args.g.now) c.args.ask.now false c.args.found c.requires.found)

pub returns : goal.returns
returns g c =
    let m = g.G.Game.model c.args.g.now in
    IfOk-weaker c.report_of.result _ (IsSolvedGame m c.args.position c.args.ask.now)
    (λ s is. solved_game m c.args.ask.now c.args.found c.requires.found c.args.position s is (g.met.G.Game.lawful c.args.g.now) c.requires.ask c.requires.position
    c.requires.width)
    c.report_of.ensures
