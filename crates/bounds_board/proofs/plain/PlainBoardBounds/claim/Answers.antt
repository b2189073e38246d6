use Rattle.std.proofs.Common.{◌+◌, subst, sym, arith}
use Rattle.std.proofs.lemmas.List.{length-set}
use Rattle.sim_game.specs.Model.{IsGame}
use Rattle.sim_game.specs.declared.Side.TheVariants.{One, Two}
use Rattle.bounds_board.specs.Plain.{PlainValue}
use Rattle.bounds_board.specs.Views.{IsInnerKey}
use Rattle.plan_book.proofs.BookLemmas.{best_opening}
use Rattle.bounds_board.proofs.TableLemmas.{key_pushed}
use Rattle.bounds_board.proofs.PlainLemmas.{few_rows, claim_full, claim_room, claim_keeps, claim_alone, claim_later, opening_returned}
use Rattle.bounds_board.proofs.plain.PlainBoardBounds.claim.Goals as goal

pub overflow_cast-row : goal.overflow_cast-row
overflow_cast-row g c = omega (arith, c.self.inside.slots.ok.0, few_rows _ _ _ _ _ c.self.invariant.0)

pub push_reserved-requires : goal.push_reserved-requires
push_reserved-requires g c =
    let free = rw (c.as_slice.ensures.value, c.as_slice-2.ensures.value) at c.in-Free.ensures in
    omega (arith, c.self.inside.slots.ok.0, c.self.invariant.1, claim_room _ _ _ _ _ c.self.invariant.0 _ _ free)

pub overflow_add-row : goal.overflow_add-row
overflow_add-row g c = omega (arith, c.self.inside.slots.ok.0, few_rows _ _ _ _ _ c.self.invariant.0)

pub invariant_of-self : goal.invariant_of-self
invariant_of-self g c =
    let free = rw (c.as_slice.ensures.value, c.as_slice-2.ensures.value) at c.in-Free.ensures in
    let game : IsGame (g.G.Game.model c.self.inside.game) = g.met.G.Game.lawful c.self.inside.game in
    let inner = subst (λ (v : PlainValue _). IsInnerKey (g.G.Game.model v.game) c.args.key) (sym c.self.view_is) c.requires in
    let kept = claim_keeps _ _ _ _ _ c.self.invariant.0 _ _ free _ _ (opening_returned _ One _ game c.opening_bound-lower.ensures)
    (opening_returned _ Two _ game c.opening_bound-upper.ensures) inner in
    (rw (c.push_reserved.ensures.items, c.len-row.ensures, c.self.inside.slots.ok.0) kept, rw (length-set, c.push_reserved.ensures.capacity) c.self.invariant.1)

pub returns-in-Row-clause-opened : goal.returns-in-Row-clause-opened
returns-in-Row-clause-opened g c = λ side. best_opening (g.G.Game.model c.args.self.now.game) c.args.self.now.entries side c.args.key

pub returns-in-Free-clause-later : goal.returns-in-Free-clause-later
returns-in-Free-clause-later g c = rw (← c.self.view_is, c.push_reserved.ensures.items)
    (claim_later g.G.Game.model c.self.inside.game c.self.inside.heads.items c.self.inside.slots.items c.self.inside.book.total c.self.inside.book.entries c.in-Free.head (c.len-row.result + 1) _)

pub returns-in-Free-clause-ok : goal.returns-in-Free-clause-ok
returns-in-Free-clause-ok g c = rw (c.push_reserved.ensures.items, c.new-in-Free.ensures, c.len-row.ensures, c.self.inside.slots.ok.0) (key_pushed c.self.inside.slots.items _)

pub returns-in-Free-clause-alone : goal.returns-in-Free-clause-alone
returns-in-Free-clause-alone g c =
    let free = rw (c.as_slice.ensures.value, c.as_slice-2.ensures.value) at c.in-Free.ensures in
    rw (c.push_reserved.ensures.items, c.new-in-Free.ensures, c.len-row.ensures, c.self.inside.slots.ok.0) (claim_alone _ _ _ _ _ c.self.invariant.0 _ _ free _ _)

pub returns-in-Free-clause-opened : goal.returns-in-Free-clause-opened
returns-in-Free-clause-opened g c = rw (← c.self.view_is) (λ side. best_opening (g.G.Game.model c.self.inside.game) c.self.inside.book.entries side c.args.key)

pub returns-in-Full-clause-full : goal.returns-in-Full-clause-full
returns-in-Full-clause-full g c =
    let others = rw (c.as_slice.ensures.value, c.as_slice-2.ensures.value) at c.in-Full.ensures in
    let inner = subst (λ (v : PlainValue _). IsInnerKey (g.G.Game.model v.game) c.args.key) (sym c.self.view_is) c.requires in
    rw (← c.self.view_is) (claim_full g.G.Game.model c.self.inside.game _ _ _ _ c.self.invariant.0 c.args.key inner others)
