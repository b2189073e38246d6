use Rattle.std.proofs.Common.{refl}
use Rattle.plan_book.proofs.PlainBoundLemmas.{plain_bounds}
use Rattle.plan_book.proofs.PlainPlanLemmas.{plain_plans}
use Rattle.plan_book.proofs.PlainStateLemmas.{plain_states}
use Rattle.plan_book.proofs.chance_free.chance_free_games.Goals as goal

pub returns : goal.returns
returns g c =
    let m = g.G.Game.model c.args._g.now in
    let game = g.met.G.Game.lawful c.args._g.now in
    record { states = plain_states m game c.requires; plans = plain_plans m game c.requires 360360 refl; bounds = plain_bounds m game c.requires }
