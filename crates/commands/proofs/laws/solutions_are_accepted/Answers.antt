use Rattle.checker.specs.declared.verdict.Verdict.TheVariants.{Accepted}
use Rattle.commands.proofs.LawLemmas.{solution_is_right}
use Rattle.commands.proofs.laws.solutions_are_accepted.Goals as goal

pub returns-clause-only : goal.returns-clause-only
returns-clause-only g c = λ text ask may_stop is v verdict.
    c.one_verdict.ensures v Accepted verdict (solution_is_right _ (g.G.Game.model c.args.g.now) text ask may_stop c.args.r.now is)
