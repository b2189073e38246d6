use Rattle.solution.proofs.ReportLemmas.{found_solution, solved_game}
use Rattle.solution.proofs.report.reports_are_solutions.Goals as goal

pub returns-clause-solutions : goal.returns-clause-solutions
returns-clause-solutions g c = λ text ask may_stop x asks place width found s is.
    found_solution (g.G.Game.model c.args.g.now) ask may_stop x found text s is (g.met.G.Game.lawful c.args.g.now) asks place width

pub returns-clause-rows : goal.returns-clause-rows
returns-clause-rows g c = λ text ask x asks place width found s is.
    solved_game (g.G.Game.model c.args.g.now) ask x found text s is (g.met.G.Game.lawful c.args.g.now) asks place width
