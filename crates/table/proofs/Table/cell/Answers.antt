use Rattle.std.proofs.Common.{◌≡◌, pos, arith}
use Rattle.std.proofs.lemmas.Int.{ints}
use Rattle.sums.specs.Sums.{count_below}
use Rattle.sim_game.specs.declared.Side.TheVariants.{One}
use Rattle.table.specs.Setting.{lists_of}
use Rattle.table.specs.laws.Game.{is_inner, place_high}
use Rattle.table.specs.Lists.{cells_of, table_value}
use Rattle.table.proofs.Table.cell.Goals as goal

pub overflow_cast-first : goal.overflow_cast-first
overflow_cast-first c =
    let l = lists_of c.args.self.now.setting in
    let valid = c.args.self.now.valid in
    let v : table_value l c.args.s ≡ pos (count_below c.args.s (cells_of l)) = valid.fits.places c.args.s c.requires.here (is_inner l valid One c.args.s c.args.a c.requires.here c.requires.one) in
    (omega (arith, ints, v), omega (arith, ints, v))

pub cell-requires : goal.cell-requires
cell-requires c =
    let l = lists_of c.args.self.now.setting in
    let valid = c.args.self.now.valid in
    let high = place_high l valid c.args.s c.args.a c.args.b c.requires.here c.requires.one c.requires.two in
    rw c.moves-columns.ensures (omega (arith, ints, high))
