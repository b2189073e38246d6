use Rattle.std.proofs.Common.{◌<◌, ◌^◌, sym, subst, arith}
use Rattle.sim_game.proofs.ReachLemmas.{reachable_root}
use Rattle.goofspiel.specs.declared.drawn.DrawnState.{DrawnState}
use Rattle.goofspiel.specs.laws.Drawn.{drawn_sound, hands_small}
use Rattle.goofspiel.specs.DrawnRules.{drawn_game}
use Rattle.goofspiel.proofs.drawn.GoofspielDrawnGame.mirrored_place.Goals as goal

pub deals_below-requires : goal.deals_below-requires
deals_below-requires c = omega (arith, c.rank-left.ensures, (drawn_sound c.args.self.now.setting c.args.self.now.valid c.args.s c.requires).hands.few)

pub sets-requires : goal.sets-requires
sets-requires c = omega (arith, c.rank-left.ensures, (drawn_sound c.args.self.now.setting c.args.self.now.valid c.args.s c.requires).hands.few)

pub mirrored_number-deal-requires-clause-one : goal.mirrored_number-deal-requires-clause-one
mirrored_number-deal-requires-clause-one c = (hands_small c.args.self.now.setting c.args.self.now.valid c.args.s (drawn_sound c.args.self.now.setting c.args.self.now.valid c.args.s c.requires)).one

pub mirrored_number-deal-requires-clause-two : goal.mirrored_number-deal-requires-clause-two
mirrored_number-deal-requires-clause-two c = (hands_small c.args.self.now.setting c.args.self.now.valid c.args.s (drawn_sound c.args.self.now.setting c.args.self.now.valid c.args.s c.requires)).two

pub part_number-undrawn-requires-clause-set : goal.part_number-undrawn-requires-clause-set
part_number-undrawn-requires-clause-set c =
    let g = c.args.self.now.setting in
    let first = drawn_sound g c.args.self.now.valid (drawn_game g).root (reachable_root (drawn_game g)) in
    subst (λ (r : DrawnState). r.undrawn < 2 ^ 13) (sym c.root.ensures) first.undrawn_small

pub part_number-undrawn-requires-clause-part : goal.part_number-undrawn-requires-clause-part
part_number-undrawn-requires-clause-part c = (drawn_sound c.args.self.now.setting c.args.self.now.valid c.args.s c.requires).undrawn_small
