use Rattle.std.proofs.Common.{rules, w64, SFits, arith}
use Rattle.std.proofs.lemmas.Int.{to_z-of_z}
use Rattle.std.proofs.lemmas.List.{length_push}
use Rattle.induction.proofs.CertifyLemmas.{bound_pushed}
use Rattle.induction.proofs.sheets.bound_states.Goals as goal

pub loop-planned-preserved : goal.loop-planned-preserved
loop-planned-preserved g c =
    let at = c.loop-planned in
    let fits : SFits w64 c.bound_state.result = search rules in
    let more = rw (to_z-of_z w64 c.bound_state.result fits) at c.in_ok-push.ensures.items in
    rw more (record {
      as_many = let was = at.invariant.as_many in let push = length_push at.found.items c.bound_state.result in omega (arith, was, push);
      each = bound_pushed (g.G.Game.model c.args.g) c.args.side c.args.total c.args.made.now.rows.items c.args.states.now at.found.items at.planned-index c.planned-item.result c.bound_state.result
          at.invariant.as_many c.loop-planned-test.true c.planned-item.is c.bound_state.ensures at.invariant.each;
    })
