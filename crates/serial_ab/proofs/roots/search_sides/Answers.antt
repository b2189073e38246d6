use Rattle.std.proofs.Common.{◌∙◌, arith}
use Rattle.sim_game.specs.declared.Side.TheVariants.{Two}
use Rattle.sim_game.specs.Model.{LeadsTo}
use Rattle.plan_book.specs.Serial.{tree_size}
use Rattle.serial_ab.proofs.RootLemmas.{cut_before, no_room}
use Rattle.serial_ab.proofs.roots.search_sides.Goals as goal

pub returns-in-Err-Cut-search_root-clause-ends : goal.returns-in-Err-Cut-search_root-clause-ends
returns-in-Err-Cut-search_root-clause-ends g c =
    let m = g.G.Game.model c.args.g in
    let size = tree_size m m.root in
    let first = c.in-Ok.ensures.ends in
    let second = rw c.in-Err-Cut-search_root.field-0-is at c.in-Err-Cut-search_root.ensures.ends in (
      record {
        searched = c.requires.searched;
        cut = cut_before Two size size c.args.worker.now.visits c.search_root.new.worker.visits c.search_root-in-Ok.new.worker.visits
            c.search_root.ensures.kept.visits second;
      },
      (let other = c.search_root-in-Ok.ensures.kept.visits.other in let entered = first.entered c.requires.searched in omega arith),
    )

pub returns-in-Err-Full-search_root-clause-ends : goal.returns-in-Err-Full-search_root-clause-ends
returns-in-Err-Full-search_root-clause-ends g c =
    let m = g.G.Game.model c.args.g in
    let first = c.in-Ok.ensures.ends in
    let second = rw c.in-Err-Full-search_root.field-0-is at c.in-Err-Full-search_root.ensures.ends in
    let rows = c.search_root-in-Ok.ensures.kept.later.rows ∙ c.search_root.ensures.kept.later.rows in (
      c.requires.searched,
      first.had_left c.requires.searched,
      no_room m (g.B.Bounds.view c.search_root-in-Ok.new.board) (LeadsTo m m.root) (g.B.Bounds.view c.args.board.now).rows
          rows second.1,
    )

pub returns-in-Err-Full-clause-ends : goal.returns-in-Err-Full-clause-ends
returns-in-Err-Full-clause-ends g c =
    let m = g.G.Game.model c.args.g in
    let first = rw c.in-Err-Full.field-0-is at c.in-Err-Full.ensures.ends in (
      c.requires.searched,
      first.0,
      no_room m (g.B.Bounds.view c.search_root.new.board) (LeadsTo m m.root) (g.B.Bounds.view c.args.board.now).rows
          c.search_root.ensures.kept.later.rows first.1,
    )
