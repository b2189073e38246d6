use Rattle.std.proofs.Common.{Ok}
use Rattle.commands.proofs.FindLemmas.{found_gap, found_solution}
use Rattle.commands.proofs.solve.search_task.Goals as goal

pub report_of-requires : goal.report_of-requires
report_of-requires g c =
    let ask = c.args.task.ask in let x = c.in_ok-found.found in
    found_gap c.game.result ask c.args.may_stop x (c.requires.find.finds c.game.result ask (Ok x) c.in_ok-found.ensures)

pub returns-clause-found : goal.returns-clause-found
returns-clause-found g c =
    let ask = c.args.task.ask in let text = c.args.task.text in let x = c.in_ok-found.found in let s = c.in_ok-solved.solved in
    let found = c.requires.find.finds c.game.result ask (Ok x) c.in_ok-found.ensures in
    found_solution c.game.result ask c.args.may_stop x found text s c.args.task.has_game c.game.ensures.is c.requires.ask c.in_ok-solved.ensures

pub returns-clause-in_range : goal.returns-clause-in_range
returns-clause-in_range g c =
    let ask = c.args.task.ask in let text = c.args.task.text in let x = c.in_ok-found.found in let s = c.in_ok-solved.solved in
    let found = c.requires.find.finds c.game.result ask (Ok x) c.in_ok-found.ensures in
    let solved = found_solution c.game.result ask c.args.may_stop x found text s c.args.task.has_game c.game.ensures.is c.requires.ask c.in_ok-solved.ensures in
    solved.2.in_range
