-- The text of a table, where its states are in range, and what is told where they are not.
use Rattle.std.proofs.Common.{◌≡◌, ℕ, ℤ, List, true, false, Ok, Err, refl}
use Rattle.serde_json.specs.Data.{Data}
use Rattle.fields.specs.Numbers.{IsNumberList}
use Rattle.fields.specs.Ranges.{IsPositionInRange}
use Rattle.sim_game.specs.declared.Limits.{Limits}
use Rattle.table.specs.Ranges.{AreWithin}
use Rattle.table.specs.Nested.{StateForm, are_in_range, lists_of_states}
use Rattle.table.proofs.RangeLemmas.{forms_in_range}
use Rattle.table_text.specs.declared.fault.StatesFault.TheVariants as faults
use Rattle.table_text.specs.States.{forms_of, forms_in, are_state_kinds, table_text_of, table_text_in}

is_number_list : {low high : ℤ} {most : ℕ} (zs : List ℤ) → AreWithin low high most zs → IsNumberList low high most zs
is_number_list zs h = record { few = h.few; within = h.each }

pub text_in_range : (limits : Limits) (forms : List StateForm) → are_in_range limits forms ≡ true → IsPositionInRange (table_text_of (lists_of_states forms))
text_in_range limits forms h =
    let fits = forms_in_range limits forms h in
    let l = lists_of_states forms in (
      is_number_list l.ranks fits.ranks,
      (
        is_number_list l.moves fits.moves,
        (
          is_number_list l.values fits.values,
          (is_number_list l.cells fits.cells, (is_number_list l.draws fits.draws, (is_number_list l.rewards fits.rewards, tt))),
        ),
      ),
    )

pub wrong_kind : (limits : Limits) (v : Data) → are_state_kinds v ≡ false → table_text_in limits v ≡ Err faults.Kind
unfolding table_text_in forms_in
wrong_kind limits v kinds = rw kinds refl

pub wrong_range : (limits : Limits) (v : Data) → are_state_kinds v ≡ true → are_in_range limits (forms_of v) ≡ false → table_text_in limits v ≡ Err faults.Range
unfolding table_text_in forms_in
wrong_range limits v kinds range = rw (kinds, range) refl

pub right : (limits : Limits) (v : Data) → are_state_kinds v ≡ true → are_in_range limits (forms_of v) ≡ true → table_text_in limits v ≡ Ok (table_text_of (lists_of_states (forms_of v)))
unfolding table_text_in forms_in
right limits v kinds range = rw (kinds, range) refl
