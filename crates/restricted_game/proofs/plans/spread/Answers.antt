use Rattle.std.proofs.Common.{rules, ◌≡◌, ◌<◌, length, replicate, subst, sym}
use Rattle.restricted_game.proofs.SpreadLemmas.{IsSpreadSoFar, spread_none, spread_more}
use Rattle.restricted_game.proofs.plans.spread.Goals as goal

pub loop-i-init : goal.loop-i-init
loop-i-init c =
    let zeros : c.in_ok-full.full.items ≡ replicate c.args.moves 0 = search rules in
    subst (IsSpreadSoFar c.args.moves c.args.held.now c.args.weights.now 0) (sym zeros) (spread_none c.args.moves c.args.held.now c.args.weights.now)

pub loop-i-preserved : goal.loop-i-preserved
loop-i-preserved c =
    let inside : c.loop-i.i < length c.args.held.now = search rules in
    spread_more c.args.moves c.args.held.now c.args.weights.now c.loop-i.full.items c.loop-i.i c.requires.held inside c.loop-i.invariant
