use Rattle.std.proofs.Common.{◌≡◌, w64, sym, subst, arith}
use Rattle.std.proofs.lemmas.Int.{to_z-of_z, ints}
use Rattle.sim_game.specs.Model.{Reachable}
use Rattle.sim_game.proofs.ReachLemmas.{reachable_root}
use Rattle.bounds_board.specs.Views.{IsInnerKey}
use Rattle.bounds_board.proofs.ViewLemmas.{later_trans}
use Rattle.worked_rows.proofs.EndLemmas.{end_entry}
use Rattle.worked_rows.proofs.passes.post_root.Goals as goal

pub claim-requires : goal.claim-requires
claim-requires g c =
    let m = g.G.Game.model c.game-g.result in
    let s = c.root-root.result in
    let inner : IsInnerKey m c.key-key.result = record {
      state = s;
      reachable = rw c.root-root.ensures (reachable_root m);
      goes_on = omega arith;
      is_key = sym c.key-key.ensures;
    } in
    subst (λ (game : _). IsInnerKey (g.G.Game.model game) c.key-key.result) c.game-g.ensures inner

pub post-requires-clause-entry : goal.post-requires-clause-entry
post-requires-clause-entry g c =
    let m = g.G.Game.model c.game-g.result in
    let v = g.B.Bounds.view c.claim.new.self in
    let s = c.root-root.result in
    let r : Reachable m s = rw c.root-root.ensures (reachable_root m) in
    let last : m.rank c.after-end.result ≡ 0 = omega arith in
    let payoff = rw c.after-end.ensures.is at c.end_bound-payoff.ensures in
    let entry = end_entry m (g.met.G.Game.lawful c.game-g.result) v s r (omega arith) (omega arith) (omega arith) (omega arith) (omega (arith, ints)) (rw c.after-end.ensures.is at last)
    c.args.bound c.total.result (omega (arith, ints)) (omega (arith, ints, payoff)) (omega arith) in
    let weights = rw c.expect-weights.ensures at c.vec.ensures.items in
    let bound = to_z-of_z w64 c.args.bound c.ranges.bound in
    rw (
      c.claim.ensures.later.game,
      ← c.game-g.ensures,
      c.claim.ensures.later.total,
      ←
          c.total.ensures.total,
      c.key-key.ensures,
      bound,
      c.from_vec.ensures,
      weights,
    ) entry

pub returns : goal.returns
returns g c = later_trans _ _ _ c.claim.ensures.later c.post.ensures.later
