use Rattle.induction.proofs.BothLemmas.{second_stopped, both_made}
use Rattle.induction.proofs.induced.both_sheets.Goals as goal

pub returns-in-Err-sheet_of : goal.returns-in-Err-sheet_of
returns-in-Err-sheet_of g c =
    let m = g.G.Game.model c.args.g in
    second_stopped m c.args.terms.total c.args.terms.rows c.args.turns c.sheet_of.new.turns c.sheet_of-2.new.turns
    c.in-Ok.one c.in-Err-sheet_of.e c.in-Ok.ensures c.in-Err-sheet_of.ensures.err

pub returns : goal.returns
returns g c =
    let m = g.G.Game.model c.args.g in
    both_made m c.args.terms.total c.args.terms.rows c.args.turns c.sheet_of.new.turns c.sheet_of-2.new.turns
    c.in-Ok.one c.in-Ok-sheet_of.two c.in-Ok.ensures c.in-Ok-sheet_of.ensures
