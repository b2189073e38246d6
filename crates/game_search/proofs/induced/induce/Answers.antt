use Rattle.std.proofs.Common.{IfOk, sym, subst}
use Rattle.game_search.specs.Steps.{IsPureFound, IsSolvedFor, IsStepOf}
use Rattle.game_search.proofs.induced.induce.Goals as goal

pub proposed-requires-clause-solved : goal.proposed-requires-clause-solved
proposed-requires-clause-solved g c =
    let solved = c.requires.solve.solves c.solve-found.result (rw c.with_stop.ensures at c.solve-found.ensures) in
    subst (λ stop. IsSolvedFor (g.G.Game.model c.args.g) c.args.ask.now stop c.solve-found.result) (sym solved.spent.same.may_stop) solved

pub proposed-requires-clause-pure : goal.proposed-requires-clause-pure
proposed-requires-clause-pure g c =
    let solved = c.requires.solve.solves c.solve-found.result (rw c.with_stop.ensures at c.solve-found.ensures) in
    subst (λ stop. IsPureFound (g.G.Game.model c.args.g) c.args.ask.now stop c.in_ok-pure.pure) (sym solved.spent.same.may_stop) c.in_ok-pure.ensures

pub returns-else-is_near : goal.returns-else-is_near
returns-else-is_near g c =
    let solved = c.requires.solve.solves c.solve-found.result (rw c.with_stop.ensures at c.solve-found.ensures) in
    subst (λ stop. IfOk c.proposed.result (IsStepOf (g.G.Game.model c.args.g) c.args.ask.now stop)) solved.spent.same.may_stop c.proposed.ensures
