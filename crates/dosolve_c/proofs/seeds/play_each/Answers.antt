use Rattle.dosolve_c.proofs.SeedLemmas.{next_match}
use Rattle.dosolve_c.proofs.seeds.play_each.Goals as goal

pub loop-seed-preserved : goal.loop-seed-preserved
loop-seed-preserved g c =
    next_match (g.G.Game.model c.args.game) c.args.report.now c.args.games c.args.seeds.now c.loop-seed.seed-index c.loop-seed.told.items c.push.new.self.items
    c.in_ok-payoffs.payoffs c.loop-seed-test.true c.loop-seed.invariant c.in_ok-payoffs.ensures c.in_ok-push.ensures.items
