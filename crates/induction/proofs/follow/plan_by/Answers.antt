use Rattle.std.proofs.Common.{rules, ◌≡◌, length, get_or}
use Rattle.induction.specs.Places.{is_put}
use Rattle.induction.proofs.FollowLemmas.{next_goes_on}
use Rattle.induction.proofs.follow.plan_by.Goals as goal

pub propose-requires : goal.propose-requires
propose-requires g c =
    let is_next : c.index-s.result.now ≡ get_or c.args.walk.now.met.items (length c.args.walk.now.states.items) c.index-s.result.now = search rules in
    c.requires.may_call c.args.side _
    (next_goes_on (g.G.Game.model c.args.g) (g.G.Game.numbering c.args.g).place c.args.side c.args.total (is_put c.args.walk.now.seen) c.args.walk.now.met.items c.args.walk.now.states.items
    c.requires.followed.are_met (length c.args.walk.now.states.items) c.index-s.result.now c.requires.left is_next)
