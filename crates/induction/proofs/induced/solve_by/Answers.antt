use Rattle.std.proofs.Common.{◌≡◌, Ok, Err, ◌∙◌}
use Rattle.induction.specs.Induced.{AreBothSheets}
use Rattle.induction.specs.Listed.{HasValues}
use Rattle.induction.proofs.SolvedLemmas.{err_solved, nothing_solved, made_solved, each_spent}
use Rattle.induction.proofs.induced.solve_by.Goals as goal

pub returns-in_err-known : goal.returns-in_err-known
returns-in_err-known g c = err_solved (g.G.Game.model c.args.g) c.args.terms.total c.args.terms.rows _ c.from_residual.result c.args.turns.now c.from_residual.ensures.1

pub returns-in_err-proposals : goal.returns-in_err-proposals
returns-in_err-proposals g c =
    err_solved (g.G.Game.model c.args.g) c.args.terms.total c.args.terms.rows _ c.from_residual-in_err-proposals.result c.args.turns.now
    c.from_residual-in_err-proposals.ensures.1

pub returns-in-Ok : goal.returns-in-Ok
returns-in-Ok g c =
    let m = g.G.Game.model c.args.g in let total = c.args.terms.total in let rows = c.args.terms.rows in
    let first : c.new-values.result.turns ≡ c.args.turns.now = c.new-values.ensures.turns ∙ c.replace-own.ensures.value in
    let v : HasValues m rows c.args.turns.now c.into_parts-proposals.result.1 = rw (c.new-values.ensures.rows, first, ← c.into_parts-proposals.ensures) at c.in_default.ensures.valued in
    let p : AreBothSheets m total rows c.into_parts-proposals.result.1 c.both_sheets-found.result.1 (Ok (c.in-Ok.one, c.in-Ok.two)) =
    rw c.in-Ok.is at (c.requires.both.makes _ c.into_parts-proposals.result.1 c.both_sheets-found.result c.both_sheets-found.ensures) in
    made_solved m total rows c.args.turns.now c.into_parts-proposals.result.1 c.both_sheets-found.result.1 v c.in-Ok.one c.in-Ok.two p c.with_bounds.result
    c.with_bounds.ensures.one c.with_bounds.ensures.two c.with_bounds.ensures.lower c.with_bounds.ensures.upper

pub returns : goal.returns
returns g c =
    let m = g.G.Game.model c.args.g in let total = c.args.terms.total in let rows = c.args.terms.rows in
    let first : c.new-values.result.turns ≡ c.args.turns.now = c.new-values.ensures.turns ∙ c.replace-own.ensures.value in
    let v : HasValues m rows c.args.turns.now c.into_parts-proposals.result.1 = rw (c.new-values.ensures.rows, first, ← c.into_parts-proposals.ensures) at c.in_default.ensures.valued in
    let p : AreBothSheets m total rows c.into_parts-proposals.result.1 c.both_sheets-found.result.1 (Err c.in-Err-found.e) =
    rw c.in-Err-found.is at (c.requires.both.makes _ c.into_parts-proposals.result.1 c.both_sheets-found.result c.both_sheets-found.ensures) in
    nothing_solved m total rows c.nothing-in-Err-found.result c.args.turns.now c.both_sheets-found.result.1 c.in-Err-found.e c.nothing-in-Err-found.ensures.none
    c.nothing-in-Err-found.ensures.why p.err (each_spent m total rows c.args.turns.now c.into_parts-proposals.result.1 c.both_sheets-found.result.1 v (Err c.in-Err-found.e) p)
