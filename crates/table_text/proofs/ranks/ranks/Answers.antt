use Rattle.std.proofs.Common.{ℤ, ◌-◌, ◌≤◌, List, ◌∙◌, ap, sym, subst, set, arith, w32}
use Rattle.serde_json.specs.View.{view}
use Rattle.table.specs.declared.nested.TheConstants.{MOST_STATES}
use Rattle.table_text.specs.States.{state_form_of, rank_in, rank_among}
use Rattle.std.proofs.lemmas.Int.{to_z_pos}
use Rattle.table_text.proofs.StateRanks.{AreRanksFrom, ranks_none, ranks_more, all_low}
use Rattle.table_text.proofs.ranks.ranks.Goals as goal

pub loop-left-init : goal.loop-left-init
loop-left-init c = ranks_none c.args.states.now c.in_ok-ranks.ranks.items c.in_ok-ranks.ensures

pub rank-rank-requires : goal.rank-rank-requires
rank-rank-requires c =
    subst (λ (zs : List ℤ). (z : ℤ) → rank_in zs z ≤ MOST_STATES) (sym c.as_slice.ensures.value) (all_low c.loop-left.left c.args.states.now c.loop-left.ranks.items c.loop-left.invariant c.requires)

pub loop-left-preserved : goal.loop-left-preserved
loop-left-preserved c =
    let s = c.loop-left.left - 1 in
    let v = c.index-states-left.result in
    let rank = c.rank-rank.ensures.exact ∙ ap (λ (zs : List ℤ). rank_among zs (state_form_of (view v))) c.as_slice.ensures.value in
    subst (λ (z : ℤ). AreRanksFrom s c.args.states.now (set c.loop-left.ranks.items s z)) (sym (to_z_pos w32 c.rank-rank.result (omega (arith, c.rank-rank.ensures.low))))
    (ranks_more s c.loop-left.left c.args.states.now v c.loop-left.ranks.items c.rank-rank.result (omega (arith, c.loop-left-test.true))
    (omega (arith, c.loop-left-test.true, c.loop-left.invariant.within)) c.index-states-left.is
    c.loop-left.invariant rank)
