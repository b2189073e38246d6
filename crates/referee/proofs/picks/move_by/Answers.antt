use Rattle.std.proofs.Common.{◌≤◌}
use Rattle.plan_book.specs.Plans.{weights_at}
use Rattle.plan_book.specs.Sheets.{plan_of}
use Rattle.referee.proofs.PickLemmas.{first_picked, list_pick_below}
use Rattle.referee.proofs.picks.move_by.Goals as goal

pub returns-in-None-clause-is : goal.returns-in-None-clause-is
returns-in-None-clause-is g c =
    let m = g.G.Game.model c.args.g in
    let some : 1 ≤ m.moves c.args.sheet.now.side c.args.s = (g.met.G.Game.lawful c.args.g).other_moves c.args.sheet.now.side c.args.s c.requires.reachable c.requires.goes_on in
    λ history. first_picked (m.moves c.args.sheet.now.side c.args.s) c.args.sheet.now.total c.args.word
    (weights_at m c.args.sheet.now.side (plan_of c.args.sheet.now) c.args.s history) some c.requires.some (c.in-None.ensures.plays history)

pub returns-in-Some-clause-below : goal.returns-in-Some-clause-below
returns-in-Some-clause-below g c =
    rw c.pick.ensures (list_pick_below c.in-Some.weights.now c.args.sheet.now.total
    ((g.G.Game.model c.args.g).moves c.args.sheet.now.side c.args.s) c.args.word c.in-Some.ensures.whole.sums c.requires.some c.in-Some.ensures.whole.one_each)
