use Rattle.std.proofs.Common.{rules, ◌⊎◌, inl, inr, w64, SFits, sym, ap, subst}
use Rattle.std.proofs.lemmas.Int.{to_z-of_z}
use Rattle.std.specs.Prelude.{IsSome}
use Rattle.sim_game.specs.Resolution.{IsFineWeight}
use Rattle.restricted_game.specs.declared.held.StepEnd.TheVariants.{Grown}
use Rattle.restricted_game.specs.Held.{HeldMoves, IsHolding, held_after}
use Rattle.restricted_game.specs.Runs.{grows, stays}
use Rattle.restricted_game.specs.Tables.{ArePlans}
use Rattle.restricted_game.proofs.EndLemmas.{row_room, col_room, holding_after, has_grown, not_all_held, none_from}
use Rattle.restricted_game.proofs.OverLemmas.{over_postable_one, over_postable_two, over_run, over_gap, turn_over_taken}
use Rattle.restricted_game.proofs.held.Restricted.step_over.Goals as goal
use Rattle.restricted_game.proofs.held.Restricted.step_over.Goals.{else-is_none-via-then-is_none+else-is_none-2, else-is_none-via-else-is_none}

pub post_both-requires-clause-one : goal.post_both-requires-clause-one
post_both-requires-clause-one g c =
    over_postable_one (g.G.Game.model c.args.g) (g.met.G.Game.lawful c.args.g) c.args.node.state c.requires.here.reachable c.requires.here.goes_on (g.B.Bounds.view c.args.board.now)
    c.total-total.result c.total-total.ensures.total c.total-total.ensures.low c.args.self.now c.args.numbers.now c.in-Ok.plans c.in-Ok.ensures.plans c.requires.read

pub post_both-requires-clause-two : goal.post_both-requires-clause-two
post_both-requires-clause-two g c =
    over_postable_two (g.G.Game.model c.args.g) (g.met.G.Game.lawful c.args.g) c.args.node.state c.requires.here.reachable c.requires.here.goes_on (g.B.Bounds.view c.args.board.now)
    c.total-total.result c.total-total.ensures.total c.total-total.ensures.low c.args.self.now c.args.numbers.now c.in-Ok.plans c.in-Ok.ensures.plans c.requires.read

pub returns-then-is_none-2-clause-stepped : goal.returns-then-is_none-2-clause-stepped
returns-then-is_none-2-clause-stepped g c =
    let lower : SFits w64 c.in-Ok.plans.one.bound = search rules in
    let upper : SFits w64 c.in-Ok.plans.two.bound = search rules in
    rw (to_z-of_z w64 c.in-Ok.plans.one.bound lower, to_z-of_z w64 c.in-Ok.plans.two.bound upper)
    record {
      ended = λ u are quiet. stays _ _ (rw (none_from c.in-Ok.plans.two.fresh c.if-is_none.ensures, none_from c.in-Ok.plans.one.fresh c.if-is_none-2.ensures) at
          (over_run (g.G.Game.model c.args.g) (g.met.G.Game.lawful c.args.g) c.args.node.state c.requires.here.reachable c.requires.here.goes_on (g.B.Bounds.view c.args.board.now)
          c.total-total.result c.total-total.ensures.total c.total-total.ensures.low c.args.self.now c.args.numbers.now c.in-Ok.plans c.in-Ok.ensures.plans
          (g.B.Bounds.view c.post_both.new.board) c.args.node.row c.post_both.ensures.better.later c.requires.here.holds c.in-Ok-post_both.ensures.posted u are quiet));
      gap = λ u are. over_gap (g.G.Game.model c.args.g) (g.met.G.Game.lawful c.args.g) c.args.node.state c.requires.here.reachable c.requires.here.goes_on (g.B.Bounds.view c.args.board.now)
          c.total-total.result c.total-total.ensures.total c.total-total.ensures.low c.args.self.now c.args.numbers.now c.in-Ok.plans c.in-Ok.ensures.plans
          (g.B.Bounds.view c.post_both.new.board) c.args.node.row c.post_both.ensures.better.later c.requires.here.holds c.in-Ok-post_both.ensures.posted u are
          (subst IsHolding c.self.view_is c.self.invariant.0) c.requires.fits.rows c.requires.fits.cols
          (subst (λ x. IsFineWeight (g.G.Game.model x) c.total-total.result) c.requires.here.game c.total-total.ensures.fine) (none_from c.in-Ok.plans.two.fresh c.if-is_none.ensures)
          (none_from c.in-Ok.plans.one.fresh c.if-is_none-2.ensures);
    }

pub hold-requires : goal.hold-requires
hold-requires g c =
    let planned = subst (λ (h : HeldMoves). ArePlans (g.G.Game.model c.args.g) c.args.solver.now c.args.node.state c.total-total.result h.rows h.cols c.args.numbers.now.table c.in-Ok.plans)
    (sym c.self.view_is) c.in-Ok.ensures.plans in
    row_room (g.G.Game.model c.args.g) c.args.node.state _ _ c.self.view_is c.self.invariant.0 c.requires.fits.rows c.requires.fits.cols c.in-Ok.plans
    planned _ c.self.inside.rows.len c.self.inside.rows.ok.0 c.self.invariant.1

pub hold-requires-2 : goal.hold-requires-2
hold-requires-2 g c =
    let planned = subst (λ (h : HeldMoves). ArePlans (g.G.Game.model c.args.g) c.args.solver.now c.args.node.state c.total-total.result h.rows h.cols c.args.numbers.now.table c.in-Ok.plans)
    (sym c.self.view_is) c.in-Ok.ensures.plans in
    col_room (g.G.Game.model c.args.g) c.args.node.state _ _ c.self.view_is c.self.invariant.0 c.requires.fits.rows c.requires.fits.cols c.in-Ok.plans
    planned _ c.self.inside.cols.len c.self.inside.cols.ok.0 c.self.invariant.2

pub invariant_of-self : goal.invariant_of-self
invariant_of-self g c =
    let planned = subst (λ (h : HeldMoves). ArePlans (g.G.Game.model c.args.g) c.args.solver.now c.args.node.state c.total-total.result h.rows h.cols c.args.numbers.now.table c.in-Ok.plans)
    (sym c.self.view_is) c.in-Ok.ensures.plans in
    rw (c.hold.ensures.items, c.hold-2.ensures.items, c.hold.ensures.room, c.hold-2.ensures.room) (
      holding_after (g.G.Game.model c.args.g) c.args.node.state _ _ c.self.view_is c.self.invariant.0 c.requires.fits.rows c.requires.fits.cols c.in-Ok.plans planned,
      c.self.invariant.1,
      c.self.invariant.2,
    )

pub returns-clause-stepped : goal.returns-clause-stepped
returns-clause-stepped g c = record {
  ended = λ u are quiet.
      let some : IsSome c.in-Ok.plans.two.fresh ⊎ IsSome c.in-Ok.plans.one.fresh =
      elim c.else-is_none.branch [ else-is_none-via-then-is_none+else-is_none-2 w ↦ inr w.if-is_none-2.ensures | else-is_none-via-else-is_none w ↦ inl w.if-is_none.ensures ] in
      grows _ _ _ _ (over_run (g.G.Game.model c.args.g) (g.met.G.Game.lawful c.args.g) c.args.node.state c.requires.here.reachable c.requires.here.goes_on
      (g.B.Bounds.view c.args.board.now) c.total-total.result c.total-total.ensures.total c.total-total.ensures.low c.args.self.now c.args.numbers.now c.in-Ok.plans c.in-Ok.ensures.plans
      (g.B.Bounds.view c.post_both.new.board) c.args.node.row c.post_both.ensures.better.later c.requires.here.holds c.in-Ok-post_both.ensures.posted u are quiet) some;
  gap = λ u are. tt;
}

pub returns-clause-held : goal.returns-clause-held
returns-clause-held g c =
    let planned = subst (λ (h : HeldMoves). ArePlans (g.G.Game.model c.args.g) c.args.solver.now c.args.node.state c.total-total.result h.rows h.cols c.args.numbers.now.table c.in-Ok.plans)
    (sym c.self.view_is) c.in-Ok.ensures.plans in
    let some : IsSome c.in-Ok.plans.two.fresh ⊎ IsSome c.in-Ok.plans.one.fresh =
    elim c.else-is_none.branch [ else-is_none-via-then-is_none+else-is_none-2 w ↦ inr w.if-is_none-2.ensures | else-is_none-via-else-is_none w ↦ inl w.if-is_none.ensures ] in
    rw (c.hold.ensures.items, c.hold-2.ensures.items) record {
      held = ap (λ (h : HeldMoves). held_after h (Grown c.in-Ok.plans.two.fresh c.in-Ok.plans.one.fresh)) c.self.view_is;
      grown = has_grown (g.G.Game.model c.args.g) c.args.node.state _ _ c.self.view_is c.self.invariant.0 c.requires.fits.rows c.requires.fits.cols c.in-Ok.plans planned some;
      all = λ all grown. not_all_held (g.G.Game.model c.args.g) c.args.node.state _ _ c.self.view_is c.self.invariant.0 c.requires.fits.rows c.requires.fits.cols c.in-Ok.plans planned some all;
      kept = tt;
    }

pub returns-in-Err-post_both-clause-turn : goal.returns-in-Err-post_both-clause-turn
returns-in-Err-post_both-clause-turn g c = turn_over_taken _ _ _ _ _ tt c.in-Ok.ensures.ok

pub returns-then-is_none-2-clause-turn : goal.returns-then-is_none-2-clause-turn
returns-then-is_none-2-clause-turn g c = turn_over_taken _ _ _ _ _ c.in-Ok.ensures.ok c.in-Ok.ensures.ok

pub returns-clause-turn : goal.returns-clause-turn
returns-clause-turn g c = turn_over_taken _ _ _ _ _ c.in-Ok.ensures.ok c.in-Ok.ensures.ok
