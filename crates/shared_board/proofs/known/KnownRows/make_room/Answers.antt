use Rattle.std.proofs.Common.{◌<◌, ◌∙◌, ap, sym, length, subst}
use Rattle.shared_board.specs.declared.known.KnownRows.{KnownRows}
use Rattle.shared_board.proofs.PlaceLemmas.{AreWider, wider_put}
use Rattle.shared_board.proofs.known.KnownRows.make_room.Goals as goal
use Rattle.shared_board.proofs.known.KnownRows.make_room.Goals.{then-place-ne0, else-place-ne0}

pub loop-place-preserved : goal.loop-place-preserved
loop-place-preserved c = elim c.if-place-ne0.branch [
  | then-place-ne0 w ↦
      let inside : c.loop-place.place-index < length c.deref-place-items.result.now = c.loop-place-test.true in
      wider_put _ _ _ _ _ w.put.ensures.0 _ c.deref-place-items.ensures.value inside c.loop-place.invariant (ap (λ z. z.places.items) w.wider-is ∙ w.put.ensures.1)
  | else-place-ne0 w ↦ subst (λ (z : KnownRows). AreWider c.args.self.now.places.items z.places.items) (sym w.wider-is) c.loop-place.invariant
]
