use Rattle.std.proofs.Common.{ℕ, subst, ◌∙◌}
use Rattle.sim_game.specs.declared.Side.TheVariants.{One, Two}
use Rattle.bounds_board.proofs.ViewLemmas.{later_trans}
use Rattle.restricted_game.specs.Held.{AreMoves}
use Rattle.restricted_game.proofs.AloneLemmas.{own_moves, one_of_own, one_alone_postable, two_alone_postable, alone_posted}
use Rattle.restricted_game.proofs.NodeLemmas.{node_later}
use Rattle.restricted_game.proofs.PostLemmas.{grows_none, postable_later}
use Rattle.restricted_game.proofs.held.Restricted.post_alone.Goals as goal

pub best_alone-row-requires : goal.best_alone-row-requires
best_alone-row-requires g c =
    let m = g.G.Game.model c.args.g in
    let s = c.args.node.state in
    let cells = c.requires.read.are.cells in
    let held_rows : AreMoves (m.moves One s) c.rows-rows.result.now = subst (λ (n : ℕ). AreMoves n c.rows-rows.result.now) c.requires.fits.rows c.rows-rows.ensures.held in
    record { held = own_moves m One s c.args.numbers.now.table c.args.numbers.now.lows cells.shape cells.lows c.rows-rows.result.now held_rows }

pub best_alone-col-requires : goal.best_alone-col-requires
best_alone-col-requires g c =
    let m = g.G.Game.model c.args.g in
    let s = c.args.node.state in
    let cells = c.requires.read.are.cells in
    let held_cols : AreMoves (m.moves Two s) c.cols-cols.result.now = subst (λ (n : ℕ). AreMoves n c.cols-cols.result.now) c.requires.fits.cols c.cols-cols.ensures.held in
    record { held = own_moves m Two s c.args.numbers.now.table c.args.numbers.now.highs cells.shape cells.highs c.cols-cols.result.now held_cols }

pub plan_side-requires-clause-own : goal.plan_side-requires-clause-own
plan_side-requires-clause-own g c =
    let m = g.G.Game.model c.args.g in
    let s = c.args.node.state in
    let cells = c.requires.read.are.cells in
    let held_rows : AreMoves (m.moves One s) c.rows-rows.result.now = subst (λ (n : ℕ). AreMoves n c.rows-rows.result.now) c.requires.fits.rows c.rows-rows.ensures.held in
    one_of_own m One s c.args.numbers.now.table c.args.numbers.now.lows cells.shape cells.lows c.rows-rows.result.now c.best_alone-row.result.place held_rows c.best_alone-row.ensures

pub plan_side-requires-2-clause-own : goal.plan_side-requires-2-clause-own
plan_side-requires-2-clause-own g c =
    let m = g.G.Game.model c.args.g in
    let s = c.args.node.state in
    let cells = c.requires.read.are.cells in
    let held_cols : AreMoves (m.moves Two s) c.cols-cols.result.now = subst (λ (n : ℕ). AreMoves n c.cols-cols.result.now) c.requires.fits.cols c.cols-cols.ensures.held in
    one_of_own m Two s c.args.numbers.now.table c.args.numbers.now.highs cells.shape cells.highs c.cols-cols.result.now c.best_alone-col.result.place held_cols c.best_alone-col.ensures

pub post_both-requires-clause-one : goal.post_both-requires-clause-one
post_both-requires-clause-one g c =
    let m = g.G.Game.model c.args.g in
    let s = c.args.node.state in
    let has_row = rw c.rows-rows.ensures.rows at c.best_alone-row.ensures in
    let has_col = rw c.cols-cols.ensures.cols at c.best_alone-col.ensures in
    let one = rw c.cols-cols.ensures.cols at c.in_ok-one.ensures in
    let two = rw c.rows-rows.ensures.rows at c.in_ok-two.ensures in
    postable_later m (g.B.Bounds.view c.args.board.now) (g.B.Bounds.view c.read-known.new.self) _ c.read-known.ensures.later
    (one_alone_postable m (g.met.G.Game.lawful c.args.g) s c.requires.here.reachable c.requires.here.goes_on (g.B.Bounds.view c.args.board.now)
    c.args.self.now c.args.numbers.now c.requires.read c.total-total.result (c.total-total.ensures.total ∙ c.read-known.ensures.later.total) c.total-total.ensures.low
    c.best_alone-row.result.place c.best_alone-col.result.place has_row has_col c.in_ok-one.one c.in_ok-two.two one two)

pub post_both-requires-clause-two : goal.post_both-requires-clause-two
post_both-requires-clause-two g c =
    let m = g.G.Game.model c.args.g in
    let s = c.args.node.state in
    let has_row = rw c.rows-rows.ensures.rows at c.best_alone-row.ensures in
    let has_col = rw c.cols-cols.ensures.cols at c.best_alone-col.ensures in
    let one = rw c.cols-cols.ensures.cols at c.in_ok-one.ensures in
    let two = rw c.rows-rows.ensures.rows at c.in_ok-two.ensures in
    postable_later m (g.B.Bounds.view c.args.board.now) (g.B.Bounds.view c.read-known.new.self) _ c.read-known.ensures.later
    (two_alone_postable m (g.met.G.Game.lawful c.args.g) s c.requires.here.reachable c.requires.here.goes_on (g.B.Bounds.view c.args.board.now)
    c.args.self.now c.args.numbers.now c.requires.read c.total-total.result (c.total-total.ensures.total ∙ c.read-known.ensures.later.total) c.total-total.ensures.low
    c.best_alone-row.result.place c.best_alone-col.result.place has_row has_col c.in_ok-one.one c.in_ok-two.two one two)

pub post_both-requires-clause-here : goal.post_both-requires-clause-here
post_both-requires-clause-here g c = node_later _ _ _ _ _ _ c.read-known.ensures.later c.requires.here

pub returns-in_err-one-clause-posted : goal.returns-in_err-one-clause-posted
returns-in_err-one-clause-posted g c = grows_none _ _ _ c.read-known.ensures.entries

pub returns-in_err-two-clause-posted : goal.returns-in_err-two-clause-posted
returns-in_err-two-clause-posted g c = grows_none _ _ _ c.read-known.ensures.entries

pub returns-clause-later : goal.returns-clause-later
returns-clause-later g c = later_trans _ _ _ c.read-known.ensures.later c.post_both.ensures.better.later

pub returns-clause-posted : goal.returns-clause-posted
returns-clause-posted g c =
    let m = g.G.Game.model c.args.g in
    let s = c.args.node.state in
    let has_row = rw c.rows-rows.ensures.rows at c.best_alone-row.ensures in
    let has_col = rw c.cols-cols.ensures.cols at c.best_alone-col.ensures in
    let one = rw c.cols-cols.ensures.cols at c.in_ok-one.ensures in
    let two = rw c.rows-rows.ensures.rows at c.in_ok-two.ensures in
    let held_rows : AreMoves (m.moves One s) c.args.self.now.rows = rw (c.rows-rows.ensures.rows, c.requires.fits.rows) at c.rows-rows.ensures.held in
    let held_cols : AreMoves (m.moves Two s) c.args.self.now.cols = rw (c.cols-cols.ensures.cols, c.requires.fits.cols) at c.cols-cols.ensures.held in
    alone_posted m (g.met.G.Game.lawful c.args.g) s c.requires.here.reachable c.requires.here.goes_on (g.B.Bounds.view c.args.board.now)
    c.args.self.now c.args.numbers.now c.requires.read c.total-total.result (c.total-total.ensures.total ∙ c.read-known.ensures.later.total) c.total-total.ensures.low
    c.best_alone-row.result.place c.best_alone-col.result.place has_row has_col c.in_ok-one.one c.in_ok-two.two one two
    (g.B.Bounds.view c.args.board.now).entries (g.B.Bounds.view c.post_both.new.board).entries held_rows held_cols (rw c.read-known.ensures.entries at c.post_both.ensures.only)
