use Rattle.std.proofs.Common.{◌≡◌, ◌∙◌, sym, arith}
use Rattle.plan_book.specs.Children.{children_of}
use Rattle.plan_book.specs.Sheets.{row_at}
use Rattle.plan_book.proofs.SheetLemmas.{reached_reachable}
use Rattle.checker.proofs.FoundLemmas.{all_followed, child_reached, done_more, followed_none, followed_one, later_then, row_here, state_read, weights_of}
use Rattle.checker.proofs.reach.follow.Goals as goal

pub returns-in-None-clause-followed : goal.returns-in-None-clause-followed
returns-in-None-clause-followed g c =
    let at = state_read c.args.found.now.items c.args.place c.index.result.now (rw c.requires.states.one_each c.requires.within) c.index.ensures in
    followed_none (g.G.Game.model c.args.g) c.args.sheet.now c.args.found.now.items c.args.found.now.items c.args.rank c.args.place (at ∙ c.in-None.is)

pub rank-requires : goal.rank-requires
rank-requires g c =
    let at = state_read c.args.found.now.items c.args.place c.index.result.now (rw c.requires.states.one_each c.requires.within) c.index.ensures in
    reached_reachable _ c.args.sheet.now.side (row_at c.args.sheet.now.rows) c.in-Some.s (c.requires.states.reached c.args.place c.in-Some.s (at ∙ c.in-Some.is))

pub returns-then-rank-clause-followed : goal.returns-then-rank-clause-followed
returns-then-rank-clause-followed g c =
    let at = state_read c.args.found.now.items c.args.place c.index.result.now (rw c.requires.states.one_each c.requires.within) c.index.ensures in
    followed_one (g.G.Game.model c.args.g) c.args.sheet.now c.args.found.now.items c.args.found.now.items c.args.rank c.args.place c.in-Some.s
    (at ∙ c.in-Some.is) (λ same. absurd (c.if-rank.true (c.rank.ensures ∙ same)))

pub children-requires : goal.children-requires
children-requires g c =
    let at = state_read c.args.found.now.items c.args.place c.index.result.now (rw c.requires.states.one_each c.requires.within) c.index.ensures in
    reached_reachable _ c.args.sheet.now.side (row_at c.args.sheet.now.rows) c.in-Some.s (c.requires.states.reached c.args.place c.in-Some.s (at ∙ c.in-Some.is))

pub mark-requires-clause-reached : goal.mark-requires-clause-reached
mark-requires-clause-reached g c =
    let m = g.G.Game.model c.args.g in
    let sheet = c.args.sheet.now in
    let s = c.in-Some.s in
    let row = c.index-as_slice-place.result in
    let at = state_read c.args.found.now.items c.args.place c.index.result.now (rw c.requires.states.one_each c.requires.within) c.index.ensures ∙ c.in-Some.is in
    let is = row_here sheet.rows c.requires.rising (m.key s) c.args.place row c.requires.within (rw c.as_slice.ensures at c.index-as_slice-place.is)
    (sym (c.requires.states.is_key c.args.place s at)) in
    let weights = weights_of c.as_slice.result.now c.args.place row c.as_slice-weights.result.now c.index-as_slice-place.is c.as_slice-weights.ensures in
    let items : c.as_slice-below.result.now ≡ children_of m sheet.side row.weights s = c.as_slice-below.ensures.value ∙ rw weights at c.in_ok-children.ensures in
    child_reached m sheet (g.met.G.Game.lawful c.args.g) s row
    (c.requires.states.reached c.args.place s at) is c.as_slice-below.result.now items c.loop-number.number c.index-below-number.result c.loop-number-test.true c.index-below-number.is

pub loop-number-preserved : goal.loop-number-preserved
loop-number-preserved g c =
    let m = g.G.Game.model c.args.g in
    let sheet = c.args.sheet.now in
    let now = c.loop-number.found.items in
    let after = c.mark.new.found.items in
    let inv = c.loop-number.invariant in
    record {
      later = later_then m sheet c.args.found.now.items now after inv.later c.mark.ensures.later;
      done = done_more m sheet now after c.mark.ensures.later c.as_slice-below.result.now c.loop-number.number c.index-below-number.result
          c.loop-number-test.true c.index-below-number.is inv.done c.mark.ensures.marked;
    }

pub returns-clause-followed : goal.returns-clause-followed
returns-clause-followed g c =
    let m = g.G.Game.model c.args.g in
    let sheet = c.args.sheet.now in
    let s = c.in-Some.s in
    let row = c.index-as_slice-place.result in
    let at = state_read c.args.found.now.items c.args.place c.index.result.now (rw c.requires.states.one_each c.requires.within) c.index.ensures ∙ c.in-Some.is in
    let is = row_here sheet.rows c.requires.rising (m.key s) c.args.place row c.requires.within (rw c.as_slice.ensures at c.index-as_slice-place.is)
    (sym (c.requires.states.is_key c.args.place s at)) in
    let weights = weights_of c.as_slice.result.now c.args.place row c.as_slice-weights.result.now c.index-as_slice-place.is c.as_slice-weights.ensures in
    let items : c.as_slice-below.result.now ≡ children_of m sheet.side row.weights s = c.as_slice-below.ensures.value ∙ rw weights at c.in_ok-children.ensures in
    let followed = all_followed m sheet (g.met.G.Game.lawful c.args.g) s row (c.requires.states.reached c.args.place s at) is c.as_slice-below.result.now items c.loop-number.found.items
    (λ k d h. c.loop-number.invariant.done k d (let last = c.loop-number-test.false in omega (arith, h, last))) in
    followed_one m sheet c.args.found.now.items c.loop-number.found.items c.args.rank c.args.place s at (λ same. followed)
