use Rattle.std.proofs.Common.{rules, ◌+◌, refl, sym, ap, ◌∙◌, subst, arith}
use Rattle.shared_board.specs.Plays.{MayClaim, IsLearnt}
use Rattle.shared_board.specs.declared.view.View.{View}
use Rattle.shared_board.proofs.ClaimLemmas.{claims_as, looks_as, row_inside, still_at}
use Rattle.shared_board.proofs.steps.try_row.Goals as goal

pub load-held-requires : goal.load-held-requires
load-held-requires g c = let size = c.requires.board in let may = c.requires.row.1 in let inside =
    row_inside c.args.rows c.args.key c.requires.row.0 c.args.row may.here may.inside in (
      c.requires.seat.0,
      omega arith,
      looks_as g.G.Game.model c.args.words.now.key.0 c.args.rows c.args.words.now.table_id.slots c.args.seat.now.id c.args.seat.now.me c.args.row
          c.args.key c.requires.row.0 c.args.words.now.key.1 may size.0,
    )

pub returns-then-held-ne0-clause-seat : goal.returns-then-held-ne0-clause-seat
returns-then-held-ne0-clause-seat g c = let told = c.load-held.ensures.2 in let l = (told.2 c.args.row refl).1 c.if-held-ne0.true c.args.key in
    let still = still_at g.G.Game.model c.args.rows c.args.key c.args.seat.now.me.0 _ _ _ _ _ _ _ c.requires.seat told.0 l in
    ((c.load-held.ensures.0 ∙ c.requires.seat.0, still.0, still.1), search rules)

pub returns-then-held-ne0-clause-learnt : goal.returns-then-held-ne0-clause-learnt
returns-then-held-ne0-clause-learnt g c = (c.load-held.ensures.2.2 c.args.row refl).1 c.if-held-ne0.true c.args.key

pub compare_exchange-requires : goal.compare_exchange-requires
compare_exchange-requires g c = let size = c.requires.board in let t = c.requires.row.0 in let free = (c.load-held.ensures.2.2 c.args.row refl).0 (search rules) in
    let may = subst (λ (v : View g.row.G.Denot). MayClaim (g.G.Game.model c.args.words.now.key.0) c.args.rows v c.args.row c.args.key t) (sym free) c.requires.row.1 in let inside =
    row_inside c.args.rows c.args.key t c.args.row may.here may.inside in (
      c.load-held.ensures.0 ∙ c.requires.seat.0,
      omega arith,
      claims_as g.G.Game.model c.args.words.now.key.0 c.args.rows c.args.words.now.table_id.slots c.load-held.new.seat.id
          c.load-held.new.seat.me c.args.row c.args.key t c.args.words.now.key.1 (c.args.key + 1) may size.0 (omega arith),
    )

pub returns-clause-seat : goal.returns-clause-seat
returns-clause-seat g c = let held = c.load-held.ensures in let free = (held.2.2 c.args.row refl).0 (search rules) in let told = c.compare_exchange.ensures.2 in let l =
    told.2 c.args.row c.args.key refl (omega arith) in
    let still = still_at g.G.Game.model c.args.rows c.args.key c.args.seat.now.me.0 c.args.words.now.table_id c.load-held.new.seat.table_id _ _ _ _ _
    (held.0 ∙ c.requires.seat.0, (λ e. c.requires.seat.1 (sym (ap (λ (v : View g.row.G.Denot). v.tickets) free) ∙ e)), held.2.0 ∙ c.requires.seat.2) told.0 l in
    ((c.compare_exchange.ensures.0 ∙ (held.0 ∙ c.requires.seat.0), still.0, still.1), search rules)

pub returns-clause-learnt : goal.returns-clause-learnt
returns-clause-learnt g c = subst (λ (v : View g.row.G.Denot). IsLearnt g.G.Game.model v c.compare_exchange.new.seat.me.0 c.args.row c.args.key c.compare_exchange.result)
    ((c.load-held.ensures.2.2 c.args.row refl).0 (search rules))
    (c.compare_exchange.ensures.2.2 c.args.row c.args.key refl (omega arith))
