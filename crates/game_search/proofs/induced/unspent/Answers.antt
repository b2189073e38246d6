use Rattle.std.proofs.Common.{sym, subst}
use Rattle.lazy_workers.specs.Keeping.{AreBudgets, begun_whole}
use Rattle.game_search.proofs.StepLemmas.{unspent_found}
use Rattle.game_search.proofs.induced.unspent.Goals as goal

pub returns : goal.returns
returns g c =
    let ask = c.args.ask.now in
    unspent_found (g.G.Game.model c.args.g) ask c.args.may_stop c.args.pure c.requires.pure c.from_vec.result
    (subst (AreBudgets ask (begun_whole c.args.may_stop)) (sym c.from_vec.ensures) c.in_ok-budgets.ensures.budgets) c.requires.near
