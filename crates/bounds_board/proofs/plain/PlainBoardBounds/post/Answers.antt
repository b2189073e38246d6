use Rattle.std.proofs.Common.{◌≡◌, Some, length, slice_get, subst, sym, refl}
use Rattle.sim_game.specs.Model.{IsGame}
use Rattle.bounds_board.specs.Plain.{PlainValue, plain_view}
use Rattle.bounds_board.specs.Slots.{keys_of}
use Rattle.bounds_board.specs.Views.{IsPostable}
use Rattle.plan_book.proofs.BookLemmas.{best_last, few_weights}
use Rattle.bounds_board.proofs.TableLemmas.{row_inside}
use Rattle.bounds_board.proofs.PlainLemmas.{post_keeps, post_keys, post_later, bound_returned}
use Rattle.bounds_board.proofs.plain.PlainBoardBounds.post.Goals as goal

pub invariant_of-self-2 : goal.invariant_of-self-2
invariant_of-self-2 g c =
    let slots = c.self.inside.slots.items in let row = c.place-place.result in
    let game : IsGame (g.G.Game.model c.self.inside.game) = g.met.G.Game.lawful c.self.inside.game in
    let at_row : slice_get (keys_of slots) row ≡ Some c.args.e.key =
    subst (λ (v : PlainValue _). slice_get v.keys row ≡ Some c.args.e.key) (sym c.self.view_is) (rw c.place-place.ensures c.requires.row) in
    let entry = subst (λ (v : PlainValue _). IsPostable (g.G.Game.model v.game) (plain_view g.G.Game.model v) c.args.e) (sym c.self.view_is) c.requires.entry in
    let met = bound_returned _ game c.self.inside.book.total _ c.args.e c.index.result.now c.tighten-slot.result entry c.tighten-slot.ensures in
    let kept = post_keeps _ game _ _ _ _ c.self.invariant.0 row c.args.e at_row c.index.result.now c.tighten-slot.result c.index.ensures met _ (λ side key. refl) entry in
    (rw (c.push.ensures.total, c.push.ensures.entries, c.reserve.ensures.total, c.reserve.ensures.entries) kept, c.self.invariant.1)

pub push-requires-clause-few : goal.push-requires-clause-few
push-requires-clause-few g c =
    let entry = subst (λ (v : PlainValue _). IsPostable (g.G.Game.model v.game) (plain_view g.G.Game.model v) c.args.e) (sym c.self.view_is) c.requires.entry in
    few_weights _ (g.met.G.Game.lawful c.self.inside.game) _ _ c.args.e entry

pub returns-clause-later : goal.returns-clause-later
returns-clause-later g c =
    let slots = c.self.inside.slots.items in let row = c.place-place.result in
    let at_row : slice_get (keys_of slots) row ≡ Some c.args.e.key =
    subst (λ (v : PlainValue _). slice_get v.keys row ≡ Some c.args.e.key) (sym c.self.view_is) (rw c.place-place.ensures c.requires.row) in
    let keys = post_keys slots row c.index.result.now c.tighten-slot.result (row_inside slots row c.args.e.key at_row) c.index.ensures c.tighten-slot.ensures.key in
    rw (← c.self.view_is, keys, c.push.ensures.total, c.push.ensures.entries, c.reserve.ensures.total, c.reserve.ensures.entries)
    (post_later g.G.Game.model c.self.inside.game (length c.self.inside.heads.items) (keys_of slots) c.self.inside.book.total c.self.inside.book.entries c.args.e)

pub returns-clause-seen : goal.returns-clause-seen
returns-clause-seen g c = rw c.push.ensures.entries (best_last (g.G.Game.model c.self.inside.game) _ c.args.e)
