use Rattle.std.proofs.Common.{arith}
use Rattle.goofspiel.specs.laws.Drawn.{drawn_sound, hands_small, place_small}
use Rattle.goofspiel.proofs.drawn.GoofspielDrawnGame.add_transitions.Goals as goal

pub deals_below-requires : goal.deals_below-requires
deals_below-requires c = omega (arith, c.rank-left.ensures, (drawn_sound c.args.self.now.setting c.args.self.now.valid c.args.s c.requires).hands.few)

pub sets-requires : goal.sets-requires
sets-requires c = omega (arith, c.rank-left.ensures, (drawn_sound c.args.self.now.setting c.args.self.now.valid c.args.s c.requires).hands.few)

pub bounds-self-s : goal.bounds-self-s
bounds-self-s c = place_small c.args.self.now.setting c.args.self.now.valid c.args.s (drawn_sound c.args.self.now.setting c.args.self.now.valid c.args.s c.requires)

pub new-deals-requires-clause-left : goal.new-deals-requires-clause-left
new-deals-requires-clause-left c = omega (arith, c.rank-left.ensures, (drawn_sound c.args.self.now.setting c.args.self.now.valid c.args.s c.requires).hands.few)

pub size-requires : goal.size-requires
size-requires c = (drawn_sound c.args.self.now.setting c.args.self.now.valid c.args.s c.requires).undrawn_small

pub parts_without-twos-requires-clause-part : goal.parts_without-twos-requires-clause-part
parts_without-twos-requires-clause-part c = (hands_small c.args.self.now.setting c.args.self.now.valid c.args.s (drawn_sound c.args.self.now.setting c.args.self.now.valid c.args.s c.requires)).two

pub draw_parts-requires : goal.draw_parts-requires
draw_parts-requires c = (drawn_sound c.args.self.now.setting c.args.self.now.valid c.args.s c.requires).undrawn_small

pub parts_without-ones-requires-clause-part : goal.parts_without-ones-requires-clause-part
parts_without-ones-requires-clause-part c = (hands_small c.args.self.now.setting c.args.self.now.valid c.args.s (drawn_sound c.args.self.now.setting c.args.self.now.valid c.args.s c.requires)).one
