use Rattle.std.proofs.Common.{length, ap, ◌∙◌}
use Rattle.std.proofs.lemmas.List.{length-replicate}
use Rattle.induction.specs.Places.{PlaceWords}
use Rattle.induction.proofs.PlaceLemmas.{no_words}
use Rattle.induction.proofs.places.PlaceTable.new.Goals as goal

pub returns : goal.returns
returns c =
    let w : PlaceWords = record { listed = c.in_ok-vec.field-0.items; keys = c.new.result; words = c.new-2.result.items } in
    let zeros = c.in_ok-vec.ensures.items_if_clones_equal (λ x e. e) in
    no_words w _ zeros c.new.ensures (ap length zeros ∙ length-replicate _ _)
