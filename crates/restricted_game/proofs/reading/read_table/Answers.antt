use Rattle.std.proofs.Common.{rules, ◌≡◌, ◌*◌, ◌<◌, length, sym, subst, arith}
use Rattle.std.proofs.lemmas.List.Elements.{All-set}
use Rattle.sim_game.specs.declared.Side.TheVariants.{Two}
use Rattle.restricted_game.specs.Sizes.{IsSmallEnclosure}
use Rattle.restricted_game.specs.Tables.{IsStride}
use Rattle.restricted_game.proofs.NodeLemmas.{only_read_after}
use Rattle.restricted_game.proofs.PlaceLemmas.{place_within}
use Rattle.restricted_game.proofs.TableLemmas.{filled_more}
use Rattle.restricted_game.proofs.reading.read_table.Goals as goal

pub returns-in-Err-clause-board : goal.returns-in-Err-clause-board
returns-in-Err-clause-board g c = only_read_after (g.G.Game.model c.args.g) c.args.s _ _ _ _ _ c.loop-place.invariant.board c.read_child.ensures.board

pub loop-place-preserved : goal.loop-place-preserved
loop-place-preserved g c =
    let found = c.in-Ok-read_child.ensures in
    let some : 0 < c.moves-width.result = omega (arith, (g.met.G.Game.lawful c.args.g).other_moves Two c.args.s c.requires.here.reachable c.requires.here.goes_on, c.moves-width.ensures) in
    let inside : c.loop-place.place < length c.loop-place.enclosures.items = search rules in
    let stride = subst (IsStride (g.G.Game.model c.args.g) c.args.s) (sym c.stride-stride.ensures) c.requires.here.children.places.stride in
    record {
      board = only_read_after (g.G.Game.model c.args.g) c.args.s _ _ _ _ _ c.loop-place.invariant.board c.read_child.ensures.board;
      filled = filled_more (g.G.Game.model c.args.g) c.args.s c.requires.here.reachable _ _ _ c.loop-place.invariant.board.later c.read_child.ensures.board.later c.args.rows.now
          c.args.cols.now c.moves-width.result c.stride-stride.result c.moves-width.ensures some
          stride c.loop-place.place c.in-Ok-read_child.found found.read c.loop-place.enclosures.items inside c.loop-place.invariant.filled;
      small = All-set IsSmallEnclosure c.loop-place.enclosures.items _ _ found.small c.loop-place.invariant.small;
    }

pub returns-clause-filled : goal.returns-clause-filled
returns-clause-filled g c =
    let stride = subst (IsStride (g.G.Game.model c.args.g) c.args.s) (sym c.stride-stride.ensures) c.requires.here.children.places.stride in
    let all : c.loop-place.place ≡ c.moves-height.result * c.moves-width.result * c.stride-stride.result = search rules in
    record {
      read = λ one two draw p q w r.
          let inside = place_within c.moves-height.result c.moves-width.result c.stride-stride.result one two draw (rw c.moves-height.ensures p)
          (rw c.moves-width.ensures q) (omega (arith, stride.draws one two p q)) in
          c.loop-place.invariant.filled.read one two draw p q (omega (arith, inside, all)) w r;
    }
