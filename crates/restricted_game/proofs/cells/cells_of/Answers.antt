use Rattle.std.proofs.Common.{rules, ◌≡◌, ◌*◌, ◌/◌, ◌%◌, ◌++◌, ◌∷◌, [], ℤ, List, length, w64, SFits, ap, ◌∙◌, arith}
use Rattle.std.proofs.lemmas.Int.{ints, to_z-of_z}
use Rattle.std.proofs.lemmas.List.FromFn.{length-map-range_with_len}
use Rattle.sim_game.specs.declared.Side.TheVariants.{One, Two}
use Rattle.restricted_game.specs.Tables.{pair_cell}
use Rattle.restricted_game.proofs.CellLemmas.{cells_more}
use Rattle.restricted_game.proofs.cells.cells_of.Goals as goal

pub loop-pair-preserved : goal.loop-pair-preserved
loop-pair-preserved g c =
    let m = g.G.Game.model c.args.g in
    let width = c.args.table.now.width in
    let f : SFits w64 c.pair_cell.result = omega (arith, ints, c.pair_cell.ensures.small) in
    let pushed : c.push.new.self.items ≡ c.loop-pair.items.items ++ c.pair_cell.result ∷ [] = rw (to_z-of_z w64 c.pair_cell.result f) at c.in_ok-push.ensures.items in
    let more = cells_more (λ pair. pair_cell m c.args.side c.args.s c.args.table.now (pair / width) (pair % width)) c.loop-pair.pair c.loop-pair.items.items c.push.new.self.items c.pair_cell.result
    pushed c.loop-pair.invariant.cells_so_far c.loop-pair.invariant.small c.pair_cell.ensures.value c.pair_cell.ensures.small in
    record { cells_so_far = more.0; small = more.1 }

pub invariant_of-result : goal.invariant_of-result
invariant_of-result g c =
    let game = g.met.G.Game.lawful c.args.g in
    let h = c.requires.here in
    let all_pairs : c.loop-pair.pair ≡ c.args.table.now.height * c.args.table.now.width = search rules in
    record {
      some_row = omega (arith, game.other_moves One c.args.s h.reachable h.goes_on, h.shape.height);
      few_rows = omega (arith, game.moves_high One c.args.s h.reachable, game.width_high, h.shape.height);
      some_col = omega (arith, game.other_moves Two c.args.s h.reachable h.goes_on, h.shape.width);
      few_cols = omega (arith, game.moves_high Two c.args.s h.reachable, game.width_high, h.shape.width);
      all = ap (λ (l : List ℤ). length l) c.loop-pair.invariant.cells_so_far ∙ length-map-range_with_len _ 0 c.loop-pair.pair ∙ all_pairs;
      small = c.loop-pair.invariant.small;
    }
