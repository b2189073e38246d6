-- The report that a text spells, or its first fault.
use Rattle.std.specs.Prelude.{ℕ, zero, suc, ◌+◌, ℤ, pos, neg_ℤ, Bool, true, false, ◌==◌, List, [], ◌∷◌, length, codes, nat_lt, bytes_eq, find, if◌then◌else◌, Option, Some, None, option_and_then, Result, Ok, Err}
use Rattle.sums.specs.declared.TheConstants.{LEAST_WEIGHT, MOST_WEIGHT}
use Rattle.sim_game.specs.declared.Side.TheVariants as sides
use Rattle.plan_book.specs.declared.SheetRow.{SheetRow}
use Rattle.certificate.specs.declared.error.TextError.{TextError}
use Rattle.certificate.specs.declared.error.TextError.TheVariants as errors
use Rattle.fields.specs.declared.positions.PositionText.{PositionText}
use Rattle.certificate.specs.declared.report.Outcome.{Outcome}
use Rattle.certificate.specs.declared.report.Outcome.TheVariants.{Closed, Settled, Spent, Full, Stopped}
use Rattle.certificate.specs.declared.report.Report.{Report}
use Rattle.sim_game.specs.declared.Limits.{Limits}
use Rattle.certificate.specs.Versions.{newest_version, has_outcome, limits_of, most_rows, most_moves, version_of}
use Rattle.certificate.specs.Positions.{position}
use Rattle.certificate.specs.Texts.{outcome_word}
use Rattle.certificate.specs.Readers.{◌>>=◌, Reads, ◌followed_by◌, ◌before◌, made_by, spelled, natural, integer, naturals, expected_word, lines_in, in_line}
pub use Rattle.certificate.specs.Readers.{Fails, Gives}

-- ---- the lines

-- the outcome whose word it is
unfoldable pub outcome_of : List ℕ → Option Outcome
outcome_of word = find (λ o. bytes_eq word (outcome_word o)) (Closed ∷ Settled ∷ Spent ∷ Full ∷ Stopped ∷ [])

-- in a report of a version
unfoldable pub outcome_in : ℕ → List ℕ → Option Outcome
outcome_in version word = option_and_then (λ o. if has_outcome version o then Some o else None) (outcome_of word)

unfoldable pub outcome : ℕ → Reads Outcome
outcome version = spelled errors.Line (outcome_in version)

unfoldable pub game_line : ℕ → Reads PositionText
game_line version = in_line 7 8 (expected_word (codes "game") before position version)

unfoldable pub natural_line : List ℕ → ℕ → ℕ → Reads ℕ
natural_line word low high = in_line 2 2 (expected_word word before natural low high)

unfoldable pub integer_line : List ℕ → ℤ → ℤ → Reads ℤ
integer_line word low high = in_line 2 2 (expected_word word before integer low high)

unfoldable pub outcome_line : ℕ → Reads Outcome
outcome_line version = in_line 2 2 (expected_word (codes "outcome") before outcome version)

unfoldable pub spent_line : Reads (List ℕ)
spent_line = in_line 2 17 (expected_word (codes "spent") before naturals 0 1099511627776)

unfoldable pub end_line : Reads (Unit {0})
end_line = in_line 1 1 (expected_word (codes "end"))

-- ---- the sheets

abbrev pub read_row : ℕ × (ℤ × List ℕ) → SheetRow
read_row (key, (bound, weights)) = record { key = key; bound = bound; weights = weights }

unfoldable pub row_line : Limits → Reads SheetRow
row_line limits = in_line 3 (2 + most_moves limits) (made_by read_row (natural 0 9223372036854775807 followed_by integer (neg_ℤ (pos 4000000000)) (pos 4000000000) followed_by naturals 0 1048576))

-- the key is greater than the one before
abbrev pub rises : Option ℕ → ℕ → Bool
rises None key = true
rises (Some last) key = nat_lt last key

unfoldable pub next_row : Limits → Option ℕ → Reads SheetRow
next_row limits last u = do
  row ← row_line limits u
  if rises last row.0.key then Ok row else Err (errors.Order u.number)

-- so many rows, behind a last key
unfoldable pub rows : Limits → ℕ → Option ℕ → Reads (List SheetRow)
rows limits zero last u = Ok ([], u)
rows limits (suc count) last u = do
  first ← next_row limits last u
  others ← rows limits count (Some first.0.key) first.1
  Ok (first.0 ∷ others.0, others.1)

unfoldable pub sheet : Limits → List ℕ → Reads (List SheetRow)
sheet limits word u = do
  count ← natural_line word 0 (most_rows limits) u
  rows limits count.0 None count.1

-- ---- the whole

-- the first line names a version
unfoldable pub version_line : Reads ℕ
version_line = in_line 3 3 (expected_word (codes "dosolve") before expected_word (codes "report") before natural 1 newest_version)

-- any other is a fault of the head
abbrev pub or_head : {A : Type 0} → Result A TextError → Result A TextError
or_head (Ok x) = Ok x
or_head (Err e) = Err errors.Head

unfoldable pub head : Reads ℕ
head u = or_head (version_line u)

-- what the search was asked, and what it can reach: weight, turns, gap asked and resolution
unfoldable pub terms : Reads (ℕ × ℕ × ℤ × ℤ)
terms = made_by (λ x. (x.0, x.1.0, x.1.1.0, x.1.1.1)) (
    natural_line (codes "weight") LEAST_WEIGHT MOST_WEIGHT
    followed_by natural_line (codes "turns") 0 1099511627776
    followed_by integer_line (codes "asked") (pos 0) (pos 8000000000)
    followed_by integer_line (codes "resolution") (pos 0) (pos 99999999999))

-- what it found: outcome, both bounds, and the turns spent
unfoldable pub findings : ℕ → Reads (Outcome × ℤ × ℤ × List ℕ)
findings version = made_by (λ x. (x.0, x.1.0, x.1.1.0, x.1.1.1)) (
    outcome_line version
    followed_by integer_line (codes "lower") (neg_ℤ (pos 4000000000)) (pos 4000000000)
    followed_by integer_line (codes "upper") (neg_ℤ (pos 4000000000)) (pos 4000000000)
    followed_by spent_line)

-- the rows of both sheets, and the last line
unfoldable pub sheets : Limits → Reads (List SheetRow × List SheetRow)
sheets limits = made_by (λ x. (x.0, x.1.0)) (sheet limits (codes "one") followed_by sheet limits (codes "two") followed_by end_line)

abbrev pub report_of : PositionText × ((ℕ × ℕ × ℤ × ℤ) × ((Outcome × ℤ × ℤ × List ℕ) × (List SheetRow × List SheetRow))) → Report
report_of (position, (asked, (found, rows))) = record {
  position = position;
  weight = asked.0;
  turns = asked.1;
  asked = asked.2;
  resolution = asked.3;
  outcome = found.0;
  lower = found.1;
  upper = found.2;
  spent = found.3;
  one = record { side = sides.One; total = asked.0; rows = rows.0 };
  two = record { side = sides.Two; total = asked.0; rows = rows.1 };
}

-- the lines behind the first, in a report of the version
unfoldable pub report : ℕ → Reads Report
report version = made_by report_of (game_line version followed_by terms followed_by findings version followed_by sheets (limits_of version))

-- no line is left
abbrev pub ended : List (List ℕ) → Bool
ended (line ∷ []) = length line == 0
ended lines = false

-- the version that the bytes name, and the report under it
unfoldable pub named_report : List ℕ → Result (ℕ × Report) TextError
named_report bytes = do
  version ← head (record { parts = lines_in bytes; number = 1 })
  r ← report version.0 version.1
  if ended r.1.parts then Ok (version.0, r.0) else Err errors.Tail

-- A report has one version. Under another it is a fault of the head, which is told last: only the whole tells the version.
abbrev pub of_version : ℕ → Report → Result Report TextError
of_version version r = if version_of r == version then Ok r else Err errors.Head

unfoldable pub read_report : List ℕ → Result Report TextError
read_report bytes = do
  named ← named_report bytes
  of_version named.0 named.1
