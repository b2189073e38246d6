-- Known rows of children: none, one more, and as the views go on.
use Rattle.std.proofs.Common.{◌≡◌, inl, inr, ℕ, ◌<◌, None, Some, length, set, slice_index_or, sym, ap, ◌∙◌, arith}
use Rattle.std.proofs.lemmas.Bool.{cases_eq}
use Rattle.std.proofs.lemmas.List.{get_or-set_same, get_or-set_other, length-set}
use Rattle.std.proofs.lemmas.Option.{same_Some}
use Rattle.sim_game.specs.declared.Side.TheVariants.{One, Two}
use Rattle.sim_game.specs.Model.{GameModel, Reachable}
use Rattle.sim_game.proofs.SideLemmas.{looser_trans}
use Rattle.bounds_board.specs.Views.{BoardView, IsLater}
use Rattle.restricted_game.specs.Children.{KeptRows, HasPlaces, IsRowOf, HasNoRows, AreChildRows}
use Rattle.restricted_game.specs.Tables.{draw_index}
use Rattle.restricted_game.proofs.PlaceLemmas.{place_within, same_place}

pub no_child_rows : {S G N : Type 0} (m : GameModel S) (v : BoardView G N) (s : S) (children : KeptRows) → HasNoRows m s children → AreChildRows m v s children
no_child_rows m v s children none = record { places = none.places; each = λ one two draw row p q r e. absurd (none.none _ row e) }

pub row_later : {S G N : Type 0} (m : GameModel S) (u v : BoardView G N) (t : S) (row : ℕ) → IsLater u v → IsRowOf m u t row → IsRowOf m v t row
row_later m u v t row later is = record {
  goes_on = is.goes_on;
  holds = later.keys row (m.key t) is.holds;
  opened = λ side. looser_trans side _ _ _ (is.opened side) (later.seen side (m.key t));
}

pub child_rows_later : {S G N : Type 0} (m : GameModel S) (u v : BoardView G N) (s : S) (children : KeptRows) → IsLater u v → AreChildRows m u s children → AreChildRows m v s children
child_rows_later m u v s children later are = record { places = are.places; each = λ one two draw row p q r e. row_later m u v _ row later (are.each one two draw row p q r e) }

module _ {S : Type 0} (m : GameModel S) (s : S) (reach : Reachable m s) (children : KeptRows) (places : HasPlaces m s children) (one two draw : ℕ)
    (one_in : one < m.moves One s) (two_in : two < m.moves Two s) (draw_in : draw < m.draws s one two) where
  abbrev place : ℕ
  place = draw_index children.width children.stride one two draw

  fits : (a b d : ℕ) → a < m.moves One s → b < m.moves Two s → d < m.draws s a b → d < children.stride
  fits a b d p q r = omega (arith, places.stride.draws a b p q)

  pub place_in : place < length children.rows
  place_in = rw (places.room, places.width) (place_within (m.moves One s) (m.moves Two s) children.stride one two draw one_in two_in (fits one two draw one_in two_in draw_in))

  -- one row more
  pub child_rows_more : {G N : Type 0} (u v : BoardView G N) (row : ℕ) → AreChildRows m u s children → IsLater u v
      → IsRowOf m v (m.drawn s one two draw) row → AreChildRows m v s (record children { rows = set children.rows place (Some row) })
  child_rows_more u v row are later is = record {
    places = record { width = places.width; stride = places.stride; room = length-set children.rows place (Some row) ∙ places.room };
    each = λ a b d found p q r e. elim (cases_eq (draw_index children.width children.stride a b d) place) [
      | inl at ↦
          let same = same_place children.width children.stride a b d one two draw (rw places.width q) (rw places.width two_in) (fits a b d p q r) (fits one two draw one_in two_in draw_in) at in
          let is_row : row ≡ found = same_Some row found
          (sym (get_or-set_same children.rows place (Some row) None place_in) ∙ ap (λ (n : ℕ). slice_index_or (set children.rows place (Some row)) n None) (sym at) ∙ e) in
          rw (same.0, same.1, same.2, ← is_row) is
      | inr other ↦ row_later m u v _ found later (are.each a b d found p q r (sym (get_or-set_other children.rows place (draw_index children.width children.stride a b d) (Some row) None other) ∙ e))
    ];
  }
