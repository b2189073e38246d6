use Rattle.std.proofs.Common.{rules, ◌≡◌, ◌+◌, ◌-◌, Err, length, sym, subst, ◌∙◌}
use Rattle.induction.specs.declared.gave_up.GaveUp.TheVariants.{NoMemory}
use Rattle.induction.specs.Undecided.{HasUndecided}
use Rattle.induction.proofs.ListedLemmas.{missing_less, none_missing}
use Rattle.induction.proofs.SpentLemmas.{none_spent, nothing, stopped_at, no_memory, err_is, reason_up}
use Rattle.induction.proofs.values.value_states.Goals as goal

pub returns-in_err-states-clause-err : goal.returns-in_err-states-clause-err
returns-in_err-states-clause-err g c =
    let m = g.G.Game.model c.args.g in
    let turns = c.args.values.now.turns in
    let stopped : c.from_residual.result ≡ Err c.in_err-states.field-0.0 = search rules in
    rw stopped (stopped_at m (HasUndecided m (c.args.values.now.rows + 1)) 0 0 turns turns c.in_err-states.field-0.0 (c.in_err-states.ensures.err turns) (nothing m) (none_spent 0 turns))

pub returns-in_err-halves-clause-err : goal.returns-in_err-halves-clause-err
returns-in_err-halves-clause-err g c =
    let m = g.G.Game.model c.args.g in
    let Many = HasUndecided m (c.args.values.now.rows + 1) in
    let turns = c.args.values.now.turns in
    err_is (λ e. e ≡ NoMemory) _ _ c.from_residual-in_err-halves.ensures.1 (λ e is. stopped_at m Many 0 0 turns turns e (no_memory Many turns e is) (nothing m) (none_spent 0 turns))

pub returns-in_err-give-clause-err : goal.returns-in_err-give-clause-err
returns-in_err-give-clause-err g c =
    let m = g.G.Game.model c.args.g in
    let Many = HasUndecided m (c.args.values.now.rows + 1) in
    let old = c.args.values.now.turns in
    let new = c.give.new.self.turns in
    let many : c.len-count.result ≡ length c.in_ok-states.states.items = search rules in
    let stopped : c.from_residual-in_err-give.result ≡ Err c.in_err-give.field-0.0 = search rules in
    rw stopped (stopped_at m Many 0 c.len-count.result old new c.in_err-give.field-0.0 (reason_up Many new c.in_err-give.field-0.0 c.in_err-give.ensures.err)
    (subst (HasUndecided m) (sym many) c.in_ok-states.ensures.listed.known_are.undecided)
    (none_missing (c.loop-half.missing - length c.first_of-some.result.now) c.len-count.result old new
    (missing_less c.loop-half.missing c.len-count.result (length c.first_of-some.result.now) old c.loop-half.values.turns new c.first_of-some.ensures.few c.loop-half.invariant.spent
    c.give.ensures.spent)))

pub loop-half-preserved : goal.loop-half-preserved
loop-half-preserved g c = record {
  rows = c.give.ensures.rows ∙ c.loop-half.invariant.rows;
  spent = missing_less c.loop-half.missing c.len-count.result (length c.first_of-some.result.now) c.args.values.now.turns c.loop-half.values.turns c.give.new.self.turns
      c.first_of-some.ensures.few c.loop-half.invariant.spent c.give.ensures.spent;
}

pub returns-clause-valued : goal.returns-clause-valued
returns-clause-valued g c =
    let many : c.len-count.result ≡ length c.in_ok-states.states.items = search rules in
    record {
      count = c.len-count.result;
      undecided = subst (HasUndecided (g.G.Game.model c.args.g)) (sym many) c.in_ok-states.ensures.listed.known_are.undecided;
      few = rw many c.in_ok-states.ensures.listed.few;
      spent = none_missing c.loop-half.missing c.len-count.result c.args.values.now.turns c.loop-half.values.turns c.loop-half.invariant.spent;
    }
