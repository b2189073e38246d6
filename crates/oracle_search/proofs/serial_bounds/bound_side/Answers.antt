use Rattle.std.proofs.Common.{rules, ◌≡◌, Err, IfSome, w64, SFits, sym, ap, subst, ◌∙◌}
use Rattle.std.proofs.lemmas.Int.{to_z-of_z}
use Rattle.sim_game.specs.declared.Side.TheVariants.{One, Two}
use Rattle.sim_game.specs.Sides.{opening_bound}
use Rattle.plan_book.specs.Serial.{serial_bound}
use Rattle.bounds_board.specs.declared.bounds.BoardFault.TheVariants.{Full}
use Rattle.serial_ab.specs.Ends.{IsValue}
use Rattle.oracle_search.specs.Workers.{WorkerView}
use Rattle.oracle_search.proofs.BetterLemmas.{found_number}
use Rattle.oracle_search.proofs.WorkLemmas.{worked_serial}
use Rattle.oracle_search.proofs.serial_bounds.bound_side.Goals as goal

pub returns-clause-worked : goal.returns-clause-worked
returns-clause-worked g c =
    worked_serial c.args.side _ c.requires.here.kept (rw (ap (λ (w : WorkerView). w.visits) c.worker.view_is) at c.serial_with.ensures.ends.kept) c.serial_with.ensures.remembered
    (λ i. record (c.worker.view_is i) { visits = c.serial_with.new.worker.visits; searches = c.serial_with.new.worker.table })

pub returns-in_err-end-clause-worked : goal.returns-in_err-end-clause-worked
returns-in_err-end-clause-worked g c =
    worked_serial c.args.side _ c.requires.here.kept (rw (ap (λ (w : WorkerView). w.visits) c.worker.view_is) at c.serial_with.ensures.ends.kept) c.serial_with.ensures.remembered
    (λ i. record (c.worker.view_is i) { visits = c.serial_with.new.worker.visits; searches = c.serial_with.new.worker.table })

pub returns-in_err-end-clause-full : goal.returns-in_err-end-clause-full
returns-in_err-end-clause-full g c is =
    let stopped : c.from_residual.result ≡ Err c.in_err-end.field-0.0 = search rules in
    let both : c.from_residual.result ≡ Err Full = is in
    let full : c.in_err-end.field-0.0 ≡ Full = cc in
    c.serial_with.ensures.ends.full (c.in_err-end.was ∙ ap Err full)

pub returns-clause-found : goal.returns-clause-found
returns-clause-found g c =
    let m = g.G.Game.model c.args.setup.now.game in
    let low : SFits w64 c.opening_bound.result = search rules in
    let high : SFits w64 c.opening_bound-2.result = search rules in
    let value : IsValue (opening_bound m One) (opening_bound m Two) (serial_bound m c.args.side c.args.s) c.in_ok-end.end =
    rw (to_z-of_z w64 c.opening_bound.result low, to_z-of_z w64 c.opening_bound-2.result high, c.opening_bound.ensures, c.opening_bound-2.ensures) at c.in_ok-end.ensures.ends.value in
    subst (λ n. IfSome n (λ x. x ≡ serial_bound m c.args.side c.args.s)) (sym c.number_in.ensures)
    (found_number m (g.met.G.Game.lawful c.args.setup.now.game) c.args.side c.args.s c.requires.here.reachable c.in_ok-end.end value)
