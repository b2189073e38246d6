-- Reading rows one after the other, as a loop does.
use Rattle.std.proofs.Common.{◌≡◌, ℕ, suc, ◌+◌, ◌-◌, ◌<◌, ◌≤◌, List, [], ◌∷◌, ◌++◌, Option, Some, Result, Ok, Err, refl, sym, ap, ◌∙◌, arith, append_assoc, append-nil}
use Rattle.plan_book.specs.declared.SheetRow.{SheetRow}
use Rattle.certificate.specs.declared.error.TextError.{TextError}
use Rattle.certificate.specs.declared.error.TextError.TheVariants.{NoMemory}
use Rattle.certificate.specs.Unread.{Unread}
use Rattle.sim_game.specs.declared.Limits.{Limits}
use Rattle.certificate.specs.Readers.{◌>>=◌, Fails}
use Rattle.certificate.specs.Reading.{next_row, rows}

abbrev pub Listed : Type 0 → Type 0
Listed A = Result (List A × Unread) TextError

abbrev pub Rows : Type 0
Rows = Listed SheetRow

-- what was read, behind what was read before
abbrev pub behind : {A : Type 0} → List A → Listed A → Listed A
behind front read = read >>= λ x. Ok (front ++ x.0, x.1)

pub regroup : {A : Type 0} (front : List A) (x : A) (read : Listed A) → behind front (read >>= λ y. Ok (x ∷ y.0, y.1)) ≡ behind (front ++ x ∷ []) read
regroup {A} front x (Ok y) = ap (λ (xs : List A). Ok (xs, y.1)) (sym (append_assoc front (x ∷ []) y.0))
regroup front x (Err e) = refl

pub row_more : (front : List SheetRow) (limits : Limits) (count i : ℕ) (last : Option ℕ) (u after : Unread) (row : SheetRow) (whole : Rows) → i < count → next_row limits last u ≡ Ok (row, after)
    → behind front (rows limits (count - i) last u) ≡ whole → behind (front ++ row ∷ []) (rows limits (count - (i + 1)) (Some row.key) after) ≡ whole
unfolding rows
row_more front limits count i last u after row whole lt is so_far =
    let k : count - i ≡ suc (count - (i + 1)) = omega arith in
    let one : behind front (rows limits (count - i) last u) ≡ behind (front ++ row ∷ []) (rows limits (count - (i + 1)) (Some row.key) after) =
    rw (k, is) (regroup front row (rows limits (count - (i + 1)) (Some row.key) after)) in
    sym one ∙ so_far

row_stops : (e : TextError) (front : List SheetRow) (limits : Limits) (count i : ℕ) (last : Option ℕ) (u : Unread) (whole : Rows) → i < count
    → behind front (rows limits (count - i) last u) ≡ whole → next_row limits last u ≡ Err e → whole ≡ Err e
unfolding rows
row_stops e front limits count i last u whole lt so_far is =
    let k : count - i ≡ suc (count - (i + 1)) = omega arith in
    let one : behind front (rows limits (count - i) last u) ≡ Err e = rw (k, is) refl in
    sym so_far ∙ one

-- the fault of a row is the fault of the rows
pub row_fails : (e : TextError) (front : List SheetRow) (limits : Limits) (count i : ℕ) (last : Option ℕ) (u : Unread) (whole : Rows) → i < count
    → behind front (rows limits (count - i) last u) ≡ whole → Fails e (next_row limits last u) → Fails e whole
row_fails NoMemory front limits count i last u whole lt so_far fault = tt
row_fails e front limits count i last u whole lt so_far fault = row_stops e front limits count i last u whole lt so_far fault

pub rows_done : (front : List SheetRow) (limits : Limits) (count i : ℕ) (last : Option ℕ) (u : Unread) (whole : Rows) → count ≤ i
    → behind front (rows limits (count - i) last u) ≡ whole → whole ≡ Ok (front, u)
unfolding rows
rows_done front limits count i last u whole le so_far =
    let k : count - i ≡ 0 = omega arith in
    let one : behind front (rows limits (count - i) last u) ≡ Ok (front, u) = rw k (ap (λ (rs : List SheetRow). Ok (rs, u)) (append-nil front)) in
    sym so_far ∙ one
