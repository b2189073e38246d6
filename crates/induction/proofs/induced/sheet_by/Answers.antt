use Rattle.induction.proofs.BothLemmas.{own_sheet}
use Rattle.induction.proofs.induced.sheet_by.Goals as goal

pub returns : goal.returns
returns g c =
    let sheet = c.in_ok-certify_by.ensures in let states = c.in_ok-states.ensures in
    own_sheet (g.G.Game.model c.args.g) c.args.side c.args.terms.total c.in_ok-states.states.items c.in_ok-certify_by.field-0 c.args.turns.now c.plan_from.new.turns
    sheet.side sheet.total sheet.lawful sheet.best sheet.as_many sheet.weights states.whole states.as_many states.spent
