-- Texts: words, numbers, lists and lines.
use Rattle.std.specs.Prelude.{◌≡◌, ℕ, List, [], ◌∷◌, ◌++◌, map, flat_map, codes, decimal}
use Rattle.std.specs.List.{join_with_byte}
use Rattle.sim_game.specs.declared.Side.{Side}
use Rattle.sim_game.specs.declared.Side.TheVariants.{One, Two}

-- new is old with the text behind it
pub record Adds (old new text : List ℕ) : Type 0 where
  pub is : new ≡ old ++ text

abbrev pub side_word : Side → List ℕ
side_word One = codes "one"
side_word Two = codes "two"

-- numbers with a comma between each two, or a dash for none
abbrev pub list_text : List ℕ → List ℕ
list_text [] = codes "-"
list_text (n ∷ ns) = join_with_byte 44 (map decimal (n ∷ ns))

-- fields with a space between each two, and a line feed behind them
abbrev pub line_text : List (List ℕ) → List ℕ
line_text [] = 10 ∷ []
line_text (x ∷ []) = x ++ 10 ∷ []
line_text (x ∷ y ∷ more) = x ++ (32 ∷ line_text (y ∷ more))

abbrev pub text_of : List (List (List ℕ)) → List ℕ
text_of lines = flat_map line_text lines
