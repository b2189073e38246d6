-- Reading and writing the line of a position undo each other.
use Rattle.std.proofs.Common.{◌≡◌, ℕ, ◌+◌, ◌<◌, ◌≤◌, get_or, drop, append-nil, ℤ, pos, List, [], ◌∷◌, ◌++◌, codes, flat_map, length, map, Bool, true, false, ◌&&◌, leb, leb-true, eqb-true, ◌==◌, Some, Ok, refl, sym, ap, ap₂, subst, ◌∙◌, arith}
use Rattle.std.specs.Fmt.{signed_decimal}
use Rattle.std.specs.List.{join_with_byte}
use Rattle.std.proofs.lemmas.Bool.{and_parts}
use Rattle.std.proofs.lemmas.Grind.{flat_map-append}
use Rattle.std.proofs.lemmas.List.Elements.{All-cons}
use Rattle.text.specs.Texts.{line_text}
use Rattle.text.proofs.TextLemmas.{line_text-numbers}
use Rattle.certificate.specs.declared.error.TextError.TheVariants.{Line}
use Rattle.certificate.specs.Unread.{Unread}
use Rattle.fields.specs.declared.field.Value.{Value}
use Rattle.fields.specs.declared.field.Value.TheVariants.{Optional}
use Rattle.fields.specs.declared.positions.TheConstants.{GAMES}
use Rattle.fields.specs.declared.positions.PositionText.{PositionText}
use Rattle.fields.specs.declared.positions.PositionText.TheVariants as texts
use Rattle.fields.specs.declared.positions.Shown.{Shown}
use Rattle.sim_game.specs.declared.Limits.{Limits}
use Rattle.sim_game.specs.declared.Limits.TheVariants.{Narrow, Wide}
use Rattle.fields.specs.declared.positions.GameKind.{GameKind}
use Rattle.fields.specs.declared.positions.GameKind.TheVariants.{Goofspiel}
use Rattle.fields.specs.Numbers.{Within}
use Rattle.certificate.specs.Spellings.{joined_list, value_text, value_fields}
use Rattle.certificate.specs.Versions.{has_game, limits_of}
use Rattle.certificate.specs.Positions.{position_numbers, position_fields, game_in, game, line_values, position, value_line}
use Rattle.fields.specs.Fields.{AllFit}
use Rattle.fields.specs.Positions.{game_word, kinds_of, kind_of, shown_value, values_of, position_with, game_of}
use Rattle.certificate.proofs.Spelling.{IsField, Spells, is_word, word_spells, passing_spells}
use Rattle.certificate.proofs.FieldLaws.{FieldLaw, line_more, bind_ok, ok_is, spelled_takes, spelled_again}
use Rattle.certificate.proofs.ValueLaws.{are_small, longest_line, line_takes, writes_all, line_again}
use Rattle.fields.proofs.PositionLemmas.{made_of, made_again, within_wide}

-- ---- the games, one by one

-- the most bytes of a position's line behind its first words
abbrev pub line_most : Limits → ℕ
line_most Narrow = 100000000
line_most Wide = 2900000000

-- the word is one, and the line of the fields is not too long
abbrev is_game : Limits → GameKind → Bool
is_game limits game = is_word (game_word game) && (are_small (kinds_of limits game) && leb (longest_line (kinds_of limits game)) (line_most limits))

known_word : (game : GameKind) → game_of (game_word game) ≡ Some game
unfolding game_of
known_word Goofspiel = refl
known_word game = refl

known_game : (limits : Limits) (game : GameKind) → is_game limits game ≡ true
known_game Narrow Goofspiel = refl
known_game Wide Goofspiel = refl
known_game limits game = refl

-- ---- what is written of a position

join_more : (x : List ℕ) (zs : List ℤ) → join_with_byte 44 (x ∷ map signed_decimal zs) ≡ x ++ flat_map (λ z. 44 ∷ signed_decimal z) zs
join_more x [] = sym (append-nil x)
join_more x (z ∷ zs) = ap (λ (t : List ℕ). x ++ (44 ∷ t)) (join_more (signed_decimal z) zs)

-- the first number of a list, and the others
pub numbers_written : (zs : List ℤ) → 0 < length zs → signed_decimal (get_or zs 0 (pos 0)) ++ flat_map (λ z. 44 ∷ signed_decimal z) (drop 1 zs) ≡ joined_list (map signed_decimal zs)
numbers_written [] some = absurd (omega arith)
numbers_written (z ∷ zs) some = sym (join_more (signed_decimal z) zs)

-- an optional list with numbers, and one without
pub optional_none : (zs : List ℤ) → (length zs == 0) ≡ true → [] ≡ value_line (Optional zs)
optional_none [] none = refl
optional_none (z ∷ zs) none = absurd (omega (arith, eqb-true (length (z ∷ zs)) 0 none))

pub optional_some : (zs : List ℤ) → (length zs == 0) ≡ false → 32 ∷ joined_list (map signed_decimal zs) ≡ value_line (Optional zs)
optional_some [] some = absurd cc
optional_some (z ∷ zs) some = refl

-- the fields of the values, one behind the other
value_is : (v : Value) (t : List ℕ) → value_line v ++ t ≡ flat_map (λ (f : List ℕ). 32 ∷ f) (value_fields v) ++ t
value_is (Optional []) t = refl
value_is v t = ap (λ (s : List ℕ). s ++ t) (sym (append-nil (32 ∷ value_text v)))

lines_of : (vs : List Shown) → flat_map (λ v. value_line (shown_value v)) vs ≡ flat_map (λ (f : List ℕ). 32 ∷ f) (flat_map value_fields (map shown_value vs))
lines_of [] = refl
lines_of (v ∷ vs) =
    let fields = value_fields (shown_value v) in
    let more = flat_map value_fields (map shown_value vs) in
    let spaced : List (List ℕ) → List ℕ = λ fs. flat_map (λ (f : List ℕ). 32 ∷ f) fs in
    ap (λ (t : List ℕ). value_line (shown_value v) ++ t) (lines_of vs) ∙ value_is (shown_value v) (spaced more) ∙ sym (flat_map-append (λ (f : List ℕ). 32 ∷ f) fields more)

same_fields : (fs : List (List ℕ)) → map (λ (f : List ℕ). f) fs ≡ fs
same_fields [] = refl
same_fields (f ∷ fs) = ap (λ (fs : List (List ℕ)). f ∷ fs) (same_fields fs)

pub line_written : (word : List ℕ) (vs : List Shown) (text : PositionText) → map shown_value vs ≡ values_of text
    → codes "game " ++ (word ++ (flat_map (λ v. value_line (shown_value v)) vs ++ 10 ∷ [])) ≡ line_text (codes "game" ∷ word ∷ position_numbers text)
line_written word vs text are =
    let fields : List Value → List (List ℕ) = λ vs. flat_map value_fields vs in
    ap (λ (t : List ℕ). codes "game " ++ (word ++ (t ++ 10 ∷ []))) (lines_of vs)
    ∙ ap (λ (t : List ℕ). codes "game " ++ t) (line_text-numbers (λ (f : List ℕ). f) word (fields (map shown_value vs))
    ∙ ap (λ (fs : List (List ℕ)). line_text (word ∷ fs)) (same_fields (fields (map shown_value vs)) ∙ ap fields are))

-- ---- what is known of each game

record IsGameLine (limits : Limits) (game : GameKind) : Type 0 where
  word : is_word (game_word game) ≡ true
  small : are_small (kinds_of limits game) ≡ true
  short : longest_line (kinds_of limits game) ≤ line_most limits

game_line : (limits : Limits) (game : GameKind) → IsGameLine limits game
game_line limits game =
    let a = and_parts _ _ (known_game limits game) in
    let b = and_parts _ _ a.1 in
    record { word = a.0; small = b.0; short = leb-true _ _ b.1 }

-- what the fields of a game's line hold, whatever the limits
pub values_fit : (limits : Limits) (game : GameKind) (u : Unread) (x : List Value × Unread) → line_values (kinds_of limits game) u ≡ Ok x → AllFit (kinds_of Wide game) x.0
values_fit limits game u x e = within_wide limits game x.0 (line_takes (kinds_of limits game) u x (game_line limits game).small e).1

-- behind its word a line has five or six fields
pub numbers_count : (text : PositionText) → Within 5 6 (length (position_numbers text))
numbers_count (texts.Table ranks moves values cells draws []) = (omega arith, omega arith)
numbers_count (texts.Table ranks moves values cells draws (z ∷ zs)) = (omega arith, omega arith)
numbers_count text = (omega arith, omega arith)

game_words : Spells 20 game_of game_word (λ _. Unit {0})
unfolding game_of
game_words = word_spells GAMES game_word (λ game. (known_word game, (game_line Wide game).word))

-- the game of a word, in a report of the version
game_spells : (version : ℕ) → Spells 20 (game_in version) game_word (λ game. has_game version game ≡ true)
unfolding game_in
game_spells version = passing_spells game_of game_word (has_game version) game_words

-- ---- the whole

-- the version has the game, and the values fit its fields
pub record IsInVersion (version : ℕ) (text : PositionText) : Type 0 where
  pub values : AllFit (kinds_of (limits_of version) (kind_of text)) (values_of text)
  pub game : has_game version (kind_of text) ≡ true

pub position_law : (version : ℕ) → FieldLaw 7 (21 + line_most (limits_of version)) (position version) position_fields (IsInVersion version)
unfolding position game
position_law version =
    let limits = limits_of version in record {
      takes = λ u x e few.
          let g = bind_ok (game version u) _ x e in
          let kinds = kinds_of limits g.0.0 in
          let vs = bind_ok (line_values kinds g.0.1) _ x g.2 in
          let t = spelled_takes Line (game_in version) u g.0 g.1 in
          let s = (game_spells version).takes t.first g.0.0 t.is in
          let n = line_takes kinds g.0.1 vs.0 (game_line limits g.0.0).small vs.1 in
          let made = made_of g.0.0 vs.0.0 (within_wide limits g.0.0 vs.0.0 n.1) in
          subst (λ (x : PositionText × Unread). (u.parts ≡ position_fields x.0) × IsInVersion version x.0) (ok_is (position_with g.0.0 vs.0.0, vs.0.1) x vs.2) (
            t.here ∙ ap₂ (λ (w : List ℕ) (fs : List (List ℕ)). w ∷ fs) (s.0 ∙ ap game_word (sym made.0)) (n.0 ∙ ap (λ (vs : List Value). flat_map value_fields vs) (sym made.1)),
            record { values = rw (made.0, made.1) n.1; game = ap (has_game version) made.0 ∙ s.1 },
          );
      again = λ n text fits.
          let kind = kind_of text in
          let w = writes_all (kinds_of limits kind) (values_of text) (game_line limits kind).small fits.values in
          let first = spelled_again Line (game_in version) (game_word kind) (position_numbers text) n kind ((game_spells version).again kind fits.game) in (
            record { parts = []; number = n },
            rw (first, line_again (kinds_of limits kind) (values_of text) n w, made_again text) refl,
          );
      clean = λ text fits.
          let kind = kind_of text in
          All-cons IsField _ _ (game_words.clean kind tt) (writes_all (kinds_of limits kind) (values_of text) (game_line limits kind).small fits.values).clean;
      short = λ text fits few.
          let kind = kind_of text in
          let values = (writes_all (kinds_of limits kind) (values_of text) (game_line limits kind).small fits.values).short in
          omega (arith, line_more (game_word kind) (position_numbers text), game_words.short kind tt, (game_line limits kind).short, values);
    }
