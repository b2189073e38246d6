use Rattle.std.proofs.Common.{subst, sym, arith, refl}
use Rattle.sim_game.specs.Model.{HasAtMost}
use Rattle.sim_game.proofs.StateLemmas.{few_numbered}
use Rattle.lazy_workers.proofs.RowLemmas.{fewer_rows_answer_too, budgets_for}
use Rattle.lazy_workers.proofs.workers.with_rows_for.Goals as goal

pub returns-clause-same : goal.returns-clause-same
returns-clause-same g c =
    let m = g.G.Game.model c.args.g in
    let few = few_numbered m (g.G.Game.numbering c.args.g) (g.met.G.Game.numbered c.args.g) in
    fewer_rows_answer_too m c.most_states-most.result (subst (HasAtMost m) (sym c.most_states-most.ensures) few) c.args.ask.now _ (omega arith) (omega arith)

pub returns-clause-turns : goal.returns-clause-turns
returns-clause-turns g c = budgets_for c.args.ask.now _ refl refl
