use Rattle.std.proofs.Common.{◌<◌, ◌^◌, sym, subst}
use Rattle.sim_game.proofs.ReachLemmas.{reachable_root}
use Rattle.goofspiel.specs.declared.drawn.DrawnState.{DrawnState}
use Rattle.goofspiel.specs.laws.Drawn.{drawn_sound}
use Rattle.goofspiel.specs.DrawnRules.{drawn_game}
use Rattle.goofspiel.proofs.drawn.GoofspielDrawn.draw_parts.Goals as goal

pub parts_without-parts-requires-clause-set : goal.parts_without-parts-requires-clause-set
parts_without-parts-requires-clause-set c =
    let g = c.args.self.now.setting in
    let first = drawn_sound g c.args.self.now.valid (drawn_game g).root (reachable_root (drawn_game g)) in
    subst (λ (r : DrawnState). r.undrawn < 2 ^ 13) (sym c.root-all.ensures) first.undrawn_small

pub part_number-requires-clause-set : goal.part_number-requires-clause-set
part_number-requires-clause-set c =
    let g = c.args.self.now.setting in
    let first = drawn_sound g c.args.self.now.valid (drawn_game g).root (reachable_root (drawn_game g)) in
    subst (λ (r : DrawnState). r.undrawn < 2 ^ 13) (sym c.root-all.ensures) first.undrawn_small
