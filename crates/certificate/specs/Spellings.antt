-- How a report spells the values of fields.
use Rattle.std.specs.Prelude.{ℕ, ◌==◌, map, Bool, true, not, List, [], ◌∷◌, codes, is_some, Option, option_map}
use Rattle.std.specs.Fmt.{signed_decimal}
use Rattle.std.specs.List.{join_with_byte}
use Rattle.text.specs.Texts.{list_text}
use Rattle.fields.specs.declared.field.FieldKind.{FieldKind}
use Rattle.fields.specs.declared.field.FieldKind.TheVariants as holds
use Rattle.fields.specs.declared.field.Value.{Value}
use Rattle.fields.specs.declared.field.Value.TheVariants as values
use Rattle.fields.specs.Fields.{spelling, word_in}
use Rattle.certificate.specs.Numbers.{natural_in, integer_in}
use Rattle.certificate.specs.Readers.{list_in, some_list_in}

-- parts with a comma between each two, or a dash for none
abbrev pub joined_list : List (List ℕ) → List ℕ
joined_list [] = codes "-"
joined_list (x ∷ xs) = join_with_byte 44 (x ∷ xs)

abbrev pub value_text : Value → List ℕ
value_text (values.Number z) = signed_decimal z
value_text (values.List ns) = list_text ns
value_text (values.Numbers zs) = joined_list (map signed_decimal zs)
value_text (values.Optional zs) = joined_list (map signed_decimal zs)
value_text (values.Word w) = spelling w

-- the fields of a value: one, but none of an optional list without numbers
abbrev pub value_fields : Value → List (List ℕ)
value_fields (values.Optional []) = []
value_fields v = value_text v ∷ []

abbrev pub value_in : FieldKind → List ℕ → Option Value
value_in (holds.Number low high) text = option_map (λ z. values.Number z) (integer_in low high text)
value_in (holds.List most) text = option_map (λ ns. values.List ns) (list_in (natural_in 0 255) most text)
value_in (holds.Numbers low high most) text = option_map (λ zs. values.Numbers zs) (list_in (integer_in low high) most text)
value_in (holds.Optional low high most) text = option_map (λ zs. values.Optional zs) (some_list_in (integer_in low high) most text)
value_in (holds.Word choices) text = option_map (λ w. values.Word w) (word_in choices text)

-- the text is one of the words, if the field holds a word; and a field that can hold no number has no text
abbrev pub has_form : FieldKind → List ℕ → Bool
has_form (holds.Word choices) text = is_some (word_in choices text)
has_form (holds.Optional low high most) text = not (most == 0)
has_form kind text = true
