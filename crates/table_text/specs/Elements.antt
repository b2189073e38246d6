-- What stands in a JSON value: the items of a list, and a whole number.
use Rattle.std.specs.Prelude.{ℤ, Bool, List, [], ◌∷◌, is_some, Option, option_and_then}
use Rattle.serde_json.specs.Data.{Data, Items, no_items, item}
use Rattle.serde_json.specs.Find.{as_number, as_i64}

abbrev pub whole_in : Data → Option ℤ
whole_in d = option_and_then as_i64 (as_number d)

abbrev pub is_whole : Data → Bool
is_whole d = is_some (whole_in d)

-- the items as a list
abbrev pub list_of : Items → List Data
list_of no_items = []
list_of (item d ds) = d ∷ list_of ds
