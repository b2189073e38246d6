use Rattle.std.proofs.Common.{rules, ◌≡◌, ℕ, false, Err, [], refl, sym, arith}
use Rattle.induction.specs.declared.gave_up.GaveUp.TheVariants.{NoMemory}
use Rattle.induction.specs.Places.{is_put}
use Rattle.induction.specs.Planned.{HasCome}
use Rattle.induction.proofs.FollowLemmas.{root_met, root_seen, whole_plan, as_many}
use Rattle.induction.proofs.PlaceLemmas.{none_put}
use Rattle.induction.proofs.SpentLemmas.{none_spent, nothing, stopped_at, stopped_later, no_memory, err_is}
use Rattle.induction.proofs.follow.plan_from.Goals as goal

pub returns-in_err-seen-clause-err : goal.returns-in_err-seen-clause-err
returns-in_err-seen-clause-err g c =
    let m = g.G.Game.model c.args.g in
    let turns = c.args.turns.now in
    err_is (λ e. e ≡ NoMemory) _ _ c.from_residual.ensures.1 (λ e is. stopped_at m ⊥ 0 0 turns turns e (no_memory ⊥ turns e is) (nothing m) (none_spent 0 turns))

pub returns-in_err-meet-clause-err : goal.returns-in_err-meet-clause-err
returns-in_err-meet-clause-err g c =
    let m = g.G.Game.model c.args.g in
    let turns = c.args.turns.now in
    err_is (λ e. e ≡ NoMemory) _ _ c.from_residual-in_err-meet.ensures.1 (λ e is. stopped_at m ⊥ 0 0 turns turns e (no_memory ⊥ turns e is) (nothing m) (none_spent 0 turns))

pub each-init : goal.each-init
each-init g c =
    let m = g.G.Game.model c.args.g in
    let n = g.G.Game.numbering c.args.g in
    let none : (place : ℕ) → is_put c.in_ok-seen.seen place ≡ false = λ place. none_put c.in_ok-seen.seen place 0 (sym (c.in_ok-seen.ensures place)) refl in
    let come : HasCome m n.place m.root (is_put c.in_ok-seen.seen) (is_put c.meet.new.seen) [] c.meet.new.met.items = rw (c.root.ensures, c.new-met.ensures.items) at c.in_ok-meet.ensures in
    rw c.new-states.ensures.items (record {
      followed = root_met m (g.met.G.Game.lawful c.args.g) n (g.met.G.Game.numbered c.args.g) c.args.side c.args.total (is_put c.in_ok-seen.seen) (is_put c.meet.new.seen)
          c.meet.new.met.items none come;
      root = root_seen m n.place (is_put c.in_ok-seen.seen) (is_put c.meet.new.seen) c.meet.new.met.items come;
      spent = none_spent 0 c.args.turns.now;
    })

pub returns-in_err-plan_by-clause-err : goal.returns-in_err-plan_by-clause-err
returns-in_err-plan_by-clause-err g c =
    let m = g.G.Game.model c.args.g in
    let stopped : c.from_residual-in_err-plan_by.result ≡ Err c.in_err-plan_by.field-0.0 = search rules in
    rw stopped (stopped_later m ⊥ _ _ _ _ _ _ c.each.invariant.spent c.in_err-plan_by.ensures.err)

pub returns-clause-whole : goal.returns-clause-whole
returns-clause-whole g c =
    let m = g.G.Game.model c.args.g in
    whole_plan m (g.met.G.Game.lawful c.args.g) (g.G.Game.numbering c.args.g).place c.args.side c.args.total (is_put c.each.walk.seen) c.each.walk.met.items c.each.walk.states.items
    c.each.invariant.followed (omega arith) c.each.invariant.root

pub returns-clause-as_many : goal.returns-clause-as_many
returns-clause-as_many g c =
    let m = g.G.Game.model c.args.g in
    as_many m (g.met.G.Game.lawful c.args.g) (g.G.Game.numbering c.args.g).place c.args.side c.args.total (is_put c.each.walk.seen) c.each.walk.met.items c.each.walk.states.items
    c.each.invariant.followed (omega arith)
