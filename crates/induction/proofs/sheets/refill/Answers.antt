use Rattle.std.proofs.Common.{◌-◌, All, length, take, drop, refl, arith}
use Rattle.std.proofs.lemmas.List.Elements.{All-drop, All-take}
use Rattle.induction.specs.Certified.{IsOpenState, AreBestBounds}
use Rattle.induction.proofs.CertifyLemmas.{run_next}
use Rattle.induction.proofs.sheets.refill.Given.{Over}
use Rattle.induction.proofs.sheets.refill.Goals as goal
use Rattle.induction.proofs.sheets.refill.Goals.{After-run_start-start, In_ok-found}

-- the states of the run, and what is found of them
ready : (g : Over) (c : After-run_start-start g) → All (IsOpenState (g.G.Game.model c.args._g) c.args._side c.args._total)
    (take (length c.args.states.now - c.run_start-start.result) (drop c.run_start-start.result c.args.states.now))
ready g c = All-take (IsOpenState (g.G.Game.model c.args._g) c.args._side c.args._total) _ (drop c.run_start-start.result c.args.states.now)
    (All-drop (IsOpenState (g.G.Game.model c.args._g) c.args._side c.args._total) c.run_start-start.result c.args.states.now c.requires.ready)

pub bounds_of-requires : goal.bounds_of-requires
bounds_of-requires g c = (c.requires.bounds _ _ c.requires.placed (ready g (goal.at.bounds_of-requires g c).After-run_start-start)).0

best : (g : Over) (c : In_ok-found g)
    → All (IsOpenState (g.G.Game.model c.args._g) c.args._side c.args._total) (take (length c.args.states.now - c.run_start-start.result) (drop c.run_start-start.result c.args.states.now))
    → AreBestBounds (g.G.Game.model c.args._g) c.args._side c.args._total c.args.made.now.rows.items
    (take (length c.args.states.now - c.run_start-start.result) (drop c.run_start-start.result c.args.states.now)) c.in_ok-found.field-0.items
best g c some = rw c.in_ok-found.was at ((c.requires.bounds _ _ c.requires.placed some).1 c.bounds_of.result c.bounds_of.ensures)

pub returns-clause-next : goal.returns-clause-next
returns-clause-next g c = run_next (g.G.Game.model c.args._g) c.args._side c.args._total c.args.made.now.rows.items c.args.states.now _ c.run_start-start.result c.in_ok-found.field-0.items
    c.run_start-start.ensures.within refl (best g (goal.at.returns-clause-next g c).In_ok-found (ready g (goal.at.returns-clause-next g c).After-run_start-start)) c.run_start-start.ensures.level

pub returns-clause-any : goal.returns-clause-any
returns-clause-any g c =
    let many = (best g (goal.at.returns-clause-any g c).In_ok-found (ready g (goal.at.returns-clause-any g c).After-run_start-start)).as_many in
    let within = c.run_start-start.ensures.within in
    λ some. omega (arith, many, within)
