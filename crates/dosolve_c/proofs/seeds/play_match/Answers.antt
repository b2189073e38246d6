use Rattle.dosolve_c.proofs.SeedLemmas.{match_told}
use Rattle.dosolve_c.proofs.seeds.play_match.Goals as goal

pub returns : goal.returns
returns g c =
    match_told (g.G.Game.model c.args.game) c.args.report.now c.args.games c.args.seed c.in_ok-first.first c.in_ok-first.totals c.told_payoffs.result
    c.in_ok-first.ensures.first c.in_ok-first.ensures.totals c.told_payoffs.ensures
