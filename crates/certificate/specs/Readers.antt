-- Readers: what stands at the front of a line or of a text, or the first fault.
use Rattle.std.specs.Prelude.{◌≡◌, ℕ, ◌+◌, ℤ, Bool, ◌&&◌, ◌==◌, not, List, [], ◌∷◌, length, codes, nat_le, bytes_eq, if◌then◌else◌, Option, Some, None, option_map, option_and_then, Result, Ok, Err}
use Rattle.std.specs.List.{slice_split, list_all}
use Rattle.certificate.specs.declared.error.TextError.{TextError}
use Rattle.certificate.specs.declared.error.TextError.TheVariants as errors
use Rattle.certificate.specs.Unread.{Unread}
use Rattle.certificate.specs.Numbers.{natural_in, integer_in}

infixl 10 ◌>>=◌
abbrev pub ◌>>=◌ : {A B : Type 0} → Result A TextError → (A → Result B TextError) → Result B TextError
(Ok x) >>= f = f x
(Err e) >>= f = Err e

-- What a function returned, seen by view, is what reading gives, unless memory ran out.
abbrev pub Fails : {Y : Type 0} → TextError → Result Y TextError → Type 0
Fails errors.NoMemory read = Unit {0}
Fails e read = read ≡ Err e

abbrev pub Gives : {X Y : Type 0} → (X → Y) → Result X TextError → Result Y TextError → Type 0
Gives view (Ok x) read = read ≡ Ok (view x)
Gives view (Err e) read = Fails e read

-- the value there is, or the fault
abbrev pub or_fault : {A : Type 0} → Option A → TextError → Result A TextError
or_fault None e = Err e
or_fault (Some x) e = Ok x

-- ---- readers

-- takes a value from the front
abbrev pub Reads : Type 0 → Type 0
Reads A = Unread → Result (A × Unread) TextError

-- one value and then another
infixr 5 ◌followed_by◌
abbrev pub ◌followed_by◌ : {A B : Type 0} → Reads A → Reads B → Reads (A × B)
(p followed_by q) u = p u >>= λ x. q x.1 >>= λ y. Ok ((x.0, y.0), y.1)

-- what is made of the value
abbrev pub made_by : {A B : Type 0} → (A → B) → Reads A → Reads B
made_by f p u = p u >>= λ x. Ok (f x.0, x.1)

-- ---- the fields of a line

abbrev pub first_field : List (List ℕ) → ℕ → Result (List ℕ × Unread) TextError
first_field [] number = Err (errors.Line number)
first_field (f ∷ fs) number = Ok (f, record { parts = fs; number = number })

unfoldable pub field : Reads (List ℕ)
field u = first_field u.parts u.number

-- what the next field spells
abbrev pub spelled : {A : Type 0} → (ℕ → TextError) → (List ℕ → Option A) → Reads A
spelled fault value u = do
  f ← field u
  a ← or_fault (value f.0) (fault u.number)
  Ok (a, f.1)

unfoldable pub natural : ℕ → ℕ → Reads ℕ
natural low high = spelled errors.Number (natural_in low high)

unfoldable pub integer : ℤ → ℤ → Reads ℤ
integer low high = spelled errors.Number (integer_in low high)

-- the values that all fields spell
unfoldable pub each_in : {A : Type 0} → (List ℕ → Option A) → List (List ℕ) → Option (List A)
each_in value [] = Some []
each_in value (f ∷ fs) = option_and_then (λ x. option_map (λ xs. x ∷ xs) (each_in value fs)) (value f)

abbrev pub naturals_in : ℕ → ℕ → List (List ℕ) → Option (List ℕ)
naturals_in low high fs = each_in (natural_in low high) fs

-- the numbers that all further fields spell
unfoldable pub naturals : ℕ → ℕ → Reads (List ℕ)
naturals low high u = do
  ns ← or_fault (naturals_in low high u.parts) (errors.Number u.number)
  Ok (ns, record { parts = []; number = u.number })

-- from least to most parts, none of them empty
unfoldable pub has_parts : ℕ → ℕ → List (List ℕ) → Bool
has_parts least most parts = list_all (λ part. not (length part == 0)) parts && (nat_le least (length parts) && nat_le (length parts) most)

-- the parts of a list: at most so many with a comma between each two, or a dash for none
unfoldable pub list_parts : ℕ → List ℕ → Option (List (List ℕ))
list_parts most text =
    let parts = slice_split (λ b. b == 44) text in
    if bytes_eq text (codes "-") then Some [] else (if has_parts 1 most parts then Some parts else None)

-- the values of a list
unfoldable pub list_in : {A : Type 0} → (List ℕ → Option A) → ℕ → List ℕ → Option (List A)
list_in value most text = option_and_then (λ parts. each_in value parts) (list_parts most text)

-- the same, of some values
unfoldable pub some_list_in : {A : Type 0} → (List ℕ → Option A) → ℕ → List ℕ → Option (List A)
some_list_in value most text = option_and_then (λ xs. if length xs == 0 then None else Some xs) (list_in value most text)

-- this word stands next
unfoldable pub expected_word : List ℕ → Reads (Unit {0})
expected_word word u = do
  f ← field u
  if bytes_eq f.0 word then Ok (tt, f.1) else Err (errors.Line u.number)

infixr 6 ◌before◌
abbrev pub ◌before◌ : {A : Type 0} → Reads (Unit {0}) → Reads A → Reads A
(p before q) u = p u >>= λ x. q x.1

-- ---- the lines of a text

-- The lines of a text. The last has no line feed behind it.
abbrev pub lines_in : List ℕ → List (List ℕ)
lines_in bytes = slice_split (λ b. b == 10) bytes

abbrev pub fields_in : List ℕ → List (List ℕ)
fields_in line = slice_split (λ b. b == 32) line

abbrev pub cut_line : List (List ℕ) → ℕ → Option (List ℕ × Unread)
cut_line [] number = None
cut_line (line ∷ []) number = None
cut_line (line ∷ next ∷ more) number = Some (line, record { parts = next ∷ more; number = number + 1 })

-- the first line, where a line feed ends it
unfoldable pub first_line : Unread → Option (List ℕ × Unread)
first_line u = cut_line u.parts u.number

-- the fields of the next line, from least to most of them and none empty
unfoldable pub next_line : ℕ → ℕ → Reads Unread
next_line least most u = do
  l ← or_fault (first_line u) errors.Short
  if has_parts least most (fields_in l.0)
      then Ok (record { parts = fields_in l.0; number = u.number }, l.1) else Err (errors.Line u.number)

-- what the fields of the next line say
abbrev pub in_line : {A : Type 0} → ℕ → ℕ → Reads A → Reads A
in_line least most says u = do
  l ← next_line least most u
  a ← says l.0
  Ok (a.0, l.1)
