-- A `Value`'s items and members as the lists that the definitions read.
use Rattle.std.proofs.Common.{◌≡◌, ℕ, ◌≤◌, ℤ, pos, negsuc, All, Some, None, arith, ltb, ltb-true, List, [], ◌∷◌, Bool, cond, ◌&&◌, length, nat_le, map, Option, String, Global, Ok, Err, string_bytes, refl}
use Rattle.std.specs.List.{list_all, filter_map, cons_option}
use Rattle.std.specs.Map.{keys_of}
use Rattle.std.proofs.lemmas.Option.{cond_some, option_and_then_some}
use Rattle.std.proofs.lemmas.List.{length-map}
use Rattle.std.proofs.lemmas.List.Elements.{All-nil, All-cons}
use Rattle.std.proofs.lemmas.List.Folds.{list_all-map}
use Rattle.serde_json.specs.Data.{Data}
use Rattle.serde_json.specs.View.{view, members_view}
use Rattle.serde_json.specs.declared.value.Value.{Value}
use Rattle.position.specs.declared.games.InputError.TheVariants.{Kind, Range}
use Rattle.fields.specs.declared.field.Field.{Field}
use Rattle.fields.specs.declared.positions.GameKind.{GameKind}
use Rattle.table_text.specs.Elements.{is_whole, whole_in}
pub use Rattle.table_text.proofs.StateKinds.{list_of_items}
use Rattle.position.specs.Objects.{names_of, is_known, is_byte, byte_of, byte_in, bytes_in}

pub known_members : (game : GameKind) (ms : List (String Global × Value)) → list_all (is_known game) (names_of (members_view ms)) ≡ list_all (λ k. is_known game (string_bytes k)) (keys_of ms)
known_members game [] = refl
known_members game (m ∷ ms) = rw (known_members game ms) refl

filter_map-map : {A B C : Type 0} (f : B → Option C) (g : A → B) (xs : List A) → filter_map f (map g xs) ≡ filter_map (λ x. f (g x)) xs
filter_map-map f g [] = refl
filter_map-map {A} {B} {C} f g (x ∷ xs) = rw (filter_map-map f g xs) refl

-- what the tests on the items decide
pub bytes_in_view : (field : Field) (most : ℕ) (vs : List Value) (whole small : Bool) → whole ≡ list_all (λ v. is_whole (view v)) vs
    → small ≡ (nat_le (length vs) most && list_all (λ v. is_byte (view v)) vs)
    → bytes_in field most (map view vs) ≡ cond whole (cond small (Ok (filter_map (λ v. byte_in (view v)) vs)) (Err (Range field))) (Err (Kind field))
unfolding bytes_in
bytes_in_view field most vs whole small w s = rw (w, s, list_all-map is_whole view vs, list_all-map is_byte view vs, length-map vs view, filter_map-map byte_in view vs) refl

-- ---- small numbers

byte_of-le : (z : ℤ) (n : ℕ) → byte_of z ≡ Some n → n ≤ 255
byte_of-le (pos m) n e = let found = cond_some (ltb m 256) m n e in omega (arith, found.1, ltb-true _ _ found.0)
byte_of-le (negsuc m) n e = absurd cc

byte_in-le : (d : Data) (n : ℕ) → byte_in d ≡ Some n → n ≤ 255
byte_in-le d n e = option_and_then_some byte_of (whole_in d) n e (λ z is h. byte_of-le z n h)

-- the numbers among some values are at most as many, and small
pub bytes_fit : (vs : List Value) → (length (filter_map (λ v. byte_in (view v)) vs) ≤ length vs) × All (λ n. n ≤ 255) (filter_map (λ v. byte_in (view v)) vs)
bytes_fit [] = (omega arith, All-nil (λ n. n ≤ 255))
bytes_fit (v ∷ vs) =
    let more = bytes_fit vs in
    elim (byte_in (view v)) as (λ o. byte_in (view v) ≡ o
    → (length (cons_option o (filter_map (λ v. byte_in (view v)) vs)) ≤ length (v ∷ vs)) × All (λ n. n ≤ 255) (cons_option o (filter_map (λ v. byte_in (view v)) vs))) [
      | None ↦ λ is. (omega (arith, more.0), more.1)
      | Some n ↦ λ is. (omega (arith, more.0), All-cons (λ n. n ≤ 255) n (filter_map (λ v. byte_in (view v)) vs) (byte_in-le (view v) n is) more.1)
    ] refl
