use Rattle.checker.proofs.FoundLemmas.{here_more, later_then, rank_walked}
use Rattle.checker.proofs.reach.follow_rank.Goals as goal

pub loop-place-preserved : goal.loop-place-preserved
loop-place-preserved g c =
    let m = g.G.Game.model c.args.g in
    let now = c.loop-place.found.items in
    let after = c.follow.new.found.items in
    let inv = c.loop-place.invariant in
    let it = c.in_ok-follow.ensures in
    record {
      later = later_then m c.args.sheet.now c.args.found.now.items now after inv.later it.later;
      here = here_more m c.args.sheet.now now after it.later c.args.found.now.items c.args.rank c.loop-place.place inv.later inv.here it.followed;
    }

pub returns : goal.returns
returns g c =
    rank_walked (g.G.Game.model c.args.g) c.args.sheet.now
    (g.met.G.Game.lawful c.args.g) c.args.rank c.loop-place.place c.args.found.now.items c.loop-place.found.items c.requires.walked c.loop-place.invariant.later
    (rw c.len-place-end.ensures at c.loop-place-test.false) c.loop-place.invariant.here
