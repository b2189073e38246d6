use Rattle.std.proofs.Common.{rules, ◌≡◌, true, Err, refl, ap, ◌∙◌}
use Rattle.std.proofs.lemmas.Result.{err_from_is_err_and}
use Rattle.sim_game.specs.Model.{LeadsTo}
use Rattle.matrix_game.specs.Budget.{left_of}
use Rattle.bounds_board.specs.declared.bounds.BoardFault.TheVariants.{Full}
use Rattle.bounds_board.proofs.FullLemmas.{full_weaker}
use Rattle.bounds_board.proofs.ViewLemmas.{later_trans}
use Rattle.restricted_game.specs.Stages.{AreStageNumbers}
use Rattle.restricted_game.proofs.NodeLemmas.{node_later}
use Rattle.restricted_game.proofs.OverLemmas.{numbers_later}
use Rattle.restricted_game.proofs.ReadLemmas.{read_child_leads}
use Rattle.oracle_search.specs.Finished.{IsClose}
use Rattle.oracle_search.specs.Workers.{WorkerView, at_work}
use Rattle.oracle_search.specs.Searches.{IsWorked, IsBoardFull}
use Rattle.oracle_search.proofs.SweepLemmas.{swept_by, swept_none, swept_added, swept_read, one_added, one_none, close_full}
use Rattle.oracle_search.proofs.WorkLemmas.{node_of, worked_none, worked_after, worked_read, worked_posted, worked_asked, turned_asked, turn_asked, at_row_after, stop_board}
use Rattle.oracle_search.proofs.sweeps.close_in.Given.{Over}
use Rattle.oracle_search.proofs.sweeps.close_in.Goals as goal
use Rattle.oracle_search.proofs.sweeps.close_in.Goals.{After-post_alone, After-is_within, After-ask, After-take_turn_over, In_ok-take_turn_over, In_err-numbers}

-- what was read, and posted alone
posted : (g : Over) (c : After-post_alone g) → IsWorked (g.G.Game.model c.args.setup.now.game) c.args.node.state (at_work (g.B.Bounds.view c.args.board.now) c.args.worker.now)
    (at_work (g.B.Bounds.view c.post_alone.new.board) c.args.worker.now)
posted g c = worked_posted (worked_read (worked_none c.requires.here.kept) c.read.ensures.board.later c.read.ensures.board.entries) c.post_alone.ensures.later c.post_alone.ensures.posted

-- and read again; the numbers are those of the first reading
near : (g : Over) (c : After-is_within g) → let m = g.G.Game.model c.args.setup.now.game in
    IsWorked m c.args.node.state (at_work (g.B.Bounds.view c.args.board.now) c.args.worker.now) (at_work (g.B.Bounds.view c.is_within.new.board) c.args.worker.now)
    × AreStageNumbers m (g.B.Bounds.view c.args.board.now) (g.B.Bounds.view c.is_within.new.board) c.args.node.state c.args.growth.now.held c.in_ok-numbers.numbers
near g c = (
  worked_read (worked_posted (worked_read (worked_none c.requires.here.kept) c.read.ensures.board.later c.read.ensures.board.entries) c.post_alone.ensures.later c.post_alone.ensures.posted)
      c.is_within.ensures.later c.is_within.ensures.entries,
  numbers_later (g.G.Game.model c.args.setup.now.game) _ _ _ c.args.node.state c.args.growth.now.held c.in_ok-numbers.numbers
      (later_trans _ _ _ c.post_alone.ensures.later c.is_within.ensures.later) c.in_ok-numbers.ensures.read,
)

-- and the gate was asked
told : (g : Over) (c : After-ask g) → IsWorked (g.G.Game.model c.args.setup.now.game) c.args.node.state (at_work (g.B.Bounds.view c.args.board.now) c.args.worker.now)
    (at_work (g.B.Bounds.view c.is_within.new.board) c.ask.new.self)
told g c = worked_asked (worked_read
    (worked_posted (worked_read (worked_none c.requires.here.kept) c.read.ensures.board.later c.read.ensures.board.entries) c.post_alone.ensures.later c.post_alone.ensures.posted)
    c.is_within.ensures.later c.is_within.ensures.entries) c.ask.ensures

-- a turn
turned : (g : Over) (c : After-take_turn_over g) → IsWorked (g.G.Game.model c.args.setup.now.game) c.args.node.state (at_work (g.B.Bounds.view c.args.board.now) c.args.worker.now)
    (at_work (g.B.Bounds.view c.take_turn_over.new.board) c.take_turn_over.new.worker)
turned g c = worked_after (worked_asked (worked_read
    (worked_posted (worked_read (worked_none c.requires.here.kept) c.read.ensures.board.later c.read.ensures.board.entries) c.post_alone.ensures.later c.post_alone.ensures.posted)
    c.is_within.ensures.later c.is_within.ensures.entries) c.ask.ensures) c.take_turn_over.ensures.worked

swept_as : (g : Over) (c : After-take_turn_over g) → c.take_turn_over.new.worker.swept ≡ c.args.worker.now.swept
swept_as g c = ap (λ (w : WorkerView). w.swept) c.take_turn_over.ensures.same ∙ ap (λ (w : WorkerView). w.swept) c.ask.ensures.same

closed : (g : Over) (c : In_ok-take_turn_over g) → c.args.sweep.now.is_last ≡ true → IsClose (g.G.Game.model c.args.setup.now.game) (g.B.Bounds.view c.take_turn_over.new.board) c.args.node.state
closed g c last =
    let m = g.G.Game.model c.args.setup.now.game in
    let old = g.B.Bounds.view c.args.board.now in
    let here = c.requires.here in
    close_full m (g.met.G.Game.lawful c.args.setup.now.game) c.args.node.state here.has_row.goes_on here.reachable old (g.B.Bounds.view c.take_turn_over.new.board) c.args.growth.now.held
    c.in_ok-take_turn_over.field-0 (c.take_turn_over.ensures.worked.board.later.total ∙ c.is_within.ensures.later.total ∙ c.post_alone.ensures.later.total ∙ c.read.ensures.board.later.total)
    c.requires.held (c.requires.done last) (c.in_ok-take_turn_over.ensures.held.all c.requires.held.all)
    (c.in_ok-take_turn_over.ensures.gap old (numbers_later m _ _ _ c.args.node.state c.args.growth.now.held c.in_ok-numbers.numbers
    (later_trans _ _ _ c.post_alone.ensures.later c.is_within.ensures.later) c.in_ok-numbers.ensures.read))

full : (g : Over) (c : In_err-numbers g) → c.read.result ≡ Err Full → IsBoardFull (g.G.Game.model c.args.setup.now.game) c.args.node.state (g.B.Bounds.view c.read.new.board)
full g c is =
    let m = g.G.Game.model c.args.setup.now.game in
    full_weaker m (g.B.Bounds.view c.read.new.board) _ (LeadsTo m c.args.node.state) (read_child_leads m c.args.node.state c.args.growth.now.held.rows c.args.growth.now.held.cols)
    (c.read.ensures.full is)

pub returns-in_err-numbers-clause-swept : goal.returns-in_err-numbers-clause-swept
returns-in_err-numbers-clause-swept g c = swept_read (swept_none c.requires.here.kept c.requires.swept) c.read.ensures.board.later c.read.ensures.board.entries

pub returns-in_err-numbers-clause-ended : goal.returns-in_err-numbers-clause-ended
returns-in_err-numbers-clause-ended g c =
    let p = err_from_is_err_and c.from_residual.result c.from_residual.ensures.1 in
    rw (p.1, p.2) (stop_board _ c.args.node.state (at_work (g.B.Bounds.view c.read.new.board) c.args.worker.now) _ c.in_err-numbers.field-0.0 c.in_err-numbers.was
    (full g (goal.at.returns-in_err-numbers-clause-ended g c).In_err-numbers))

pub returns-in_err-post_alone-clause-swept : goal.returns-in_err-post_alone-clause-swept
returns-in_err-post_alone-clause-swept g c = swept_by (swept_none c.requires.here.kept c.requires.swept) (posted g (goal.at.returns-in_err-post_alone-clause-swept g c).After-post_alone) refl

pub returns-in_err-post_alone-clause-ended : goal.returns-in_err-post_alone-clause-ended
returns-in_err-post_alone-clause-ended g c = let p = err_from_is_err_and c.from_residual-in_err-post_alone.result c.from_residual-in_err-post_alone.ensures.1 in rw (p.1, p.2) tt

pub returns-then-is_within-clause-swept : goal.returns-then-is_within-clause-swept
returns-then-is_within-clause-swept g c =
    swept_by (swept_none c.requires.here.kept c.requires.swept) (near g (goal.at.returns-then-is_within-clause-swept g c).After-is_within).0 refl

pub returns-then-left-eq0-clause-swept : goal.returns-then-left-eq0-clause-swept
returns-then-left-eq0-clause-swept g c =
    swept_by (swept_none c.requires.here.kept c.requires.swept) (told g (goal.at.returns-then-left-eq0-clause-swept g c).After-ask) (ap (λ (w : WorkerView). w.swept) c.ask.ensures.same)

pub returns-then-left-eq0-clause-ended : goal.returns-then-left-eq0-clause-ended
returns-then-left-eq0-clause-ended g c =
    let none : left_of c.ask.new.self.turns ≡ 0 = search rules in
    (none, one_none (turned_asked _ _ c.ask.ensures.turns).1 (ap (λ (w : WorkerView). w.swept) c.ask.ensures.same))

pub post_alone-requires-clause-here : goal.post_alone-requires-clause-here
post_alone-requires-clause-here g c = node_later _ _ _ _ _ _ c.read.ensures.board.later (node_of c.requires.here)

pub post_alone-requires-clause-fits : goal.post_alone-requires-clause-fits
post_alone-requires-clause-fits g c = record { rows = c.requires.held.most_rows; cols = c.requires.held.most_cols }

pub take_turn_over-requires-clause-here : goal.take_turn_over-requires-clause-here
take_turn_over-requires-clause-here g c = at_row_after c.requires.here (told g (goal.at.take_turn_over-requires-clause-here g c).After-ask)

pub take_turn_over-requires-clause-fits : goal.take_turn_over-requires-clause-fits
take_turn_over-requires-clause-fits g c = record { rows = c.requires.held.most_rows; cols = c.requires.held.most_cols }

pub take_turn_over-requires-clause-read : goal.take_turn_over-requires-clause-read
take_turn_over-requires-clause-read g c = record { since = g.B.Bounds.view c.args.board.now; are = (near g (goal.at.take_turn_over-requires-clause-read g c).After-is_within).1 }

-- ---- after the turn
pub returns-clause-swept : goal.returns-clause-swept
returns-clause-swept g c =
    let k = goal.at.returns-clause-swept g c in
    let here = c.requires.here in
    swept_added (g.met.G.Game.lawful c.args.setup.now.game) c.args.node.state here.reachable c.args.node.row here.has_row.goes_on
    ((turned g k.After-take_turn_over).board.later.keys c.args.node.row _ here.has_row.holds) (closed g k.In_ok-take_turn_over)
    (rw (swept_as g k.After-take_turn_over) c.requires.unmet)
    (swept_by (swept_none here.kept c.requires.swept) (turned g k.After-take_turn_over) (swept_as g k.After-take_turn_over))
    (rw c.key.ensures at c.in_ok-add_swept.ensures.ok)

pub returns-clause-ended : goal.returns-clause-ended
returns-clause-ended g c = (
  λ last goes_on. closed g (goal.at.returns-clause-ended g c).In_ok-take_turn_over last,
  one_added c.key.result (turn_asked _ _ _ c.ask.ensures.turns c.in_ok-take_turn_over.ensures.turn.0 c.in_ok-take_turn_over.ensures.turn.1)
      (swept_as g (goal.at.returns-clause-ended g c).After-take_turn_over) c.in_ok-add_swept.ensures.ok,
)

pub returns-in_err-add_swept-clause-swept : goal.returns-in_err-add_swept-clause-swept
returns-in_err-add_swept-clause-swept g c = rw c.in_err-add_swept.ensures.err
    (swept_by (swept_none c.requires.here.kept c.requires.swept) (turned g (goal.at.returns-in_err-add_swept-clause-swept g c).After-take_turn_over)
    (swept_as g (goal.at.returns-in_err-add_swept-clause-swept g c).After-take_turn_over))

pub returns-in_err-take_turn_over-clause-swept : goal.returns-in_err-take_turn_over-clause-swept
returns-in_err-take_turn_over-clause-swept g c =
    swept_by (swept_none c.requires.here.kept c.requires.swept) (turned g (goal.at.returns-in_err-take_turn_over-clause-swept g c).After-take_turn_over)
    (swept_as g (goal.at.returns-in_err-take_turn_over-clause-swept g c).After-take_turn_over)

pub returns-in_err-add_swept-clause-ended : goal.returns-in_err-add_swept-clause-ended
returns-in_err-add_swept-clause-ended g c = let p = err_from_is_err_and c.from_residual-in_err-add_swept.result c.from_residual-in_err-add_swept.ensures.1 in rw (p.1, p.2) tt

pub returns-in_err-take_turn_over-clause-ended : goal.returns-in_err-take_turn_over-clause-ended
returns-in_err-take_turn_over-clause-ended g c = let p = err_from_is_err_and c.from_residual-in_err-take_turn_over.result c.from_residual-in_err-take_turn_over.ensures.1 in rw (p.1, p.2) tt
