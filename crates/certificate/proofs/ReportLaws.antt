-- Reading and writing a report undo each other.
use Rattle.std.proofs.Common.{◌≡◌, ℕ, zero, suc, ◌+◌, ◌*◌, ◌^◌, ◌<◌, ◌≤◌, ℤ, pos, neg_ℤ, unsigned_abs, List, [], ◌∷◌, ◌++◌, length, map, true, false, Bool, cond, not, ◌==◌, ◌||◌, codes, Option, Some, None, Result, Ok, Err, decimal, All, refl, sym, ap, ap₂, subst, ◌∙◌, arith, append_assoc, append-nil, lt-ltb, ltb-true, eqb-true}
use Rattle.std.specs.Fmt.{signed_decimal}
use Rattle.std.specs.List.Sorted.{IsStrictlyIncreasing}
use Rattle.std.proofs.lemmas.Grind.{flat_map-append}
use Rattle.std.proofs.Math.Bool.{or-true}
use Rattle.std.proofs.lemmas.Bool.{eq-eqb}
use Rattle.std.proofs.lemmas.Int.{ints}
use Rattle.std.proofs.lemmas.List.{length-append, length-map}
use Rattle.std.proofs.lemmas.List.Elements.{All-nil, All-cons, All-head, All-tail, All-weaker}
use Rattle.std.proofs.lemmas.List.Splits.{join_with_byte-slice_split}
use Rattle.sim_game.specs.declared.Side.{Side}
use Rattle.sim_game.specs.declared.Side.TheVariants.{One, Two}
use Rattle.plan_book.specs.declared.Sheet.{Sheet}
use Rattle.plan_book.specs.declared.SheetRow.{SheetRow}
use Rattle.certificate.specs.declared.error.TextError.{TextError}
use Rattle.certificate.specs.declared.error.TextError.TheVariants.{Line, Head, NoMemory}
use Rattle.fields.specs.declared.positions.GameKind.{GameKind}
use Rattle.fields.specs.declared.positions.GameKind.TheVariants.{Goofspiel}
use Rattle.certificate.specs.declared.report.Outcome.{Outcome}
use Rattle.certificate.specs.declared.report.Report.{Report}
use Rattle.certificate.specs.Unread.{Unread}
use Rattle.text.specs.Texts.{line_text, text_of}
use Rattle.certificate.specs.Versions.{newest_version, has_game, is_older, has_outcome, limits_of, most_rows, most_moves, is_long, needs_newest, version_of}
use Rattle.certificate.specs.Positions.{position_fields}
use Rattle.sim_game.specs.declared.Limits.{Limits}
use Rattle.sim_game.specs.declared.Limits.TheVariants.{Narrow, Wide}
use Rattle.fields.specs.declared.positions.PositionText.{PositionText}
use Rattle.fields.specs.Fields.{AllFit}
use Rattle.fields.specs.Positions.{game_version, kind_of, kinds_of, values_of, is_small, is_narrow}
use Rattle.fields.proofs.PositionLemmas.{within_wide, narrow_fits, narrow_by_size}
use Rattle.certificate.specs.Texts.{outcome_word, row_fields, sheet_lines, report_lines, report_text}
use Rattle.fields.specs.Ranges.{Within, Between, IsPositionInRange}
use Rattle.certificate.specs.Ranges.{IsRowInRange, IsSheetInRange, IsInRange}
use Rattle.certificate.specs.Readers.{Fails, lines_in}
use Rattle.certificate.specs.Reading.{game_line, natural_line, integer_line, outcome, outcome_line, spent_line, end_line, row_line, rises, next_row, rows, sheet, sheets, terms, findings, report_of, report, version_line, or_head, head, ended, named_report, read_report}
use Rattle.certificate.proofs.Spelling.{IsField, clean_word, outcome_spells}
use Rattle.certificate.proofs.PositionLaws.{line_most, IsInVersion, position_law, numbers_count}
use Rattle.certificate.proofs.FieldLaws.{bind_ok, test_ok, ok_is, last_law, word_law, before_law, natural_law, integer_law, naturals_law, row_law, small_bound, bound_between}
use Rattle.certificate.proofs.TextLaws.{joined, TextLaw, line_law, lines_law, made_law, told_law}

-- ---- the lines

natural_line_law : (word : List ℕ) → IsField word → (low high : ℕ) → high < 2 ^ 64
    → TextLaw (length word + 1 + 22) (natural_line word low high) (λ n. line_text (word ∷ decimal n ∷ [])) (Within low high)
unfolding natural_line
natural_line_law word clean low high wide =
    told_law _ (Within low high) (line_law (before_law word clean (natural_law low high wide)) (omega arith)) (λ n fits. (refl, fits.0)) (λ n fits. (fits, (omega arith, omega arith)))

integer_line_law : (word : List ℕ) → IsField word → (low high : ℤ) → ((z : ℤ) → Between low high z → unsigned_abs z < 2 ^ 63)
    → TextLaw (length word + 1 + 22) (integer_line word low high) (λ z. line_text (word ∷ signed_decimal z ∷ [])) (Between low high)
unfolding integer_line
integer_line_law word clean low high small =
    told_law _ (Between low high) (line_law (before_law word clean (integer_law low high small)) (omega arith)) (λ z fits. (refl, fits.0)) (λ z fits. (fits, (omega arith, omega arith)))

bound_line_law : (word : List ℕ) → IsField word
    → TextLaw (length word + 1 + 22) (integer_line word (neg_ℤ (pos 4000000000)) (pos 4000000000)) (λ z. line_text (word ∷ signed_decimal z ∷ [])) (λ z. unsigned_abs z ≤ 4000000000)
bound_line_law word clean =
    told_law _ _ (integer_line_law word clean (neg_ℤ (pos 4000000000)) (pos 4000000000) (λ z h. omega (arith, ints, h.0, h.1))) (λ z fits. (refl, small_bound z fits)) bound_between

outcome_line_law : (version : ℕ) → TextLaw 30 (outcome_line version) (λ o. line_text (codes "outcome" ∷ outcome_word o ∷ [])) (λ o. has_outcome version o ≡ true)
unfolding outcome_line outcome
outcome_line_law version =
    told_law _ (λ o. has_outcome version o ≡ true)
    (line_law (before_law (codes "outcome") (clean_word (codes "outcome") refl) (last_law Line (outcome_spells version))) (omega arith))
    (λ o fits. (refl, fits.0)) (λ o fits. (fits, (omega arith, omega arith)))

spent_line_law : TextLaw 343 spent_line (λ ns. line_text (codes "spent" ∷ map decimal ns)) (λ ns. Within 1 16 (length ns) × All (λ n. n ≤ 1099511627776) ns)
unfolding spent_line
spent_line_law =
    told_law _ (λ ns. Within 1 16 (length ns) × All (λ n. n ≤ 1099511627776) ns)
    (line_law (before_law (codes "spent") (clean_word (codes "spent") refl) (naturals_law 16 20 1099511627776 (omega arith) (omega arith) (omega arith))) (omega arith))
    (λ ns fits. (refl, ((omega (arith, fits.1.0, length-map ns decimal), omega (arith, fits.1.1, length-map ns decimal)), fits.0)))
    (λ ns fits. (fits.1, (omega (arith, fits.0.0, length-map ns decimal), omega (arith, fits.0.1, length-map ns decimal))))

end_line_law : TextLaw 5 end_line (λ _. line_text (codes "end" ∷ [])) (λ _. Unit {0})
unfolding end_line
end_line_law = told_law _ (λ _. Unit {0}) (line_law (word_law (codes "end") (clean_word (codes "end") refl)) (omega arith)) (λ u fits. (refl, tt)) (λ u fits. (tt, (omega arith, omega arith)))

game_line_law : (version : ℕ) → TextLaw (5 + (21 + line_most (limits_of version))) (game_line version) (λ p. line_text (codes "game" ∷ position_fields p)) (IsInVersion version)
unfolding game_line
game_line_law version = told_law _ (IsInVersion version) (line_law (before_law (codes "game") (clean_word (codes "game") refl) (position_law version)) (omega arith))
    (λ p fits. (refl, fits.0)) (λ p fits. (fits, (omega (arith, (numbers_count p).0), omega (arith, (numbers_count p).1))))

-- a row in range, with at most so many weights as the limits allow
abbrev IsRowWithin : Limits → SheetRow → Type 0
IsRowWithin limits row = IsRowInRange row × length row.weights ≤ most_moves limits

unfoldable row_most : Limits → ℕ
row_most limits = 21 + (21 + (most_moves limits * 8 + 1))

moves_few : (limits : Limits) → most_moves limits ≤ 64
moves_few Narrow = omega arith
moves_few Wide = omega arith

row_line_law : (limits : Limits) → TextLaw (row_most limits) (row_line limits) (λ row. line_text (row_fields row)) (IsRowWithin limits)
unfolding row_line row_most
row_line_law limits = told_law _ (IsRowWithin limits) (line_law (row_law (most_moves limits)) (omega arith))
    (λ row fits.
    let count = length-map row.weights decimal in
    let few : length row.weights ≤ most_moves limits = omega (arith, fits.1.1, count) in (
      refl,
      (
        record {
          key = fits.0.key;
          bound = fits.0.bound;
          weights = fits.0.weights;
          moves = (omega (arith, fits.1.0, count), omega (arith, few, moves_few limits));
        },
        few,
      ),
    ))
    (λ row fits. (
      record { key = fits.0.key; bound = fits.0.bound; weights = fits.0.weights },
      (omega (arith, fits.0.moves.0, length-map row.weights decimal), omega (arith, fits.1, length-map row.weights decimal)),
    ))

-- ---- the rows

-- each key is greater than the one before
abbrev Rising : Option ℕ → List SheetRow → Type 0
Rising last [] = Unit {0}
Rising last (row ∷ more) = (rises last row.key ≡ true) × Rising (Some row.key) more

abbrev keys : List SheetRow → List ℕ
keys rs = map (λ row. row.key) rs

increasing : (last : Option ℕ) (rs : List SheetRow) → Rising last rs → IsStrictlyIncreasing (keys rs)
increasing last [] up k lt = absurd (omega arith)
increasing last (a ∷ []) up k lt = absurd (omega arith)
increasing last (a ∷ b ∷ more) up zero lt = ltb-true _ _ up.1.0
increasing last (a ∷ b ∷ more) up (suc k) lt =
    let e : suc k + 1 ≡ suc (k + 1) = omega arith in
    rw e (increasing (Some a.key) (b ∷ more) up.1 k (omega arith))

rising_from : (a : SheetRow) (more : List SheetRow) → IsStrictlyIncreasing (keys (a ∷ more)) → Rising (Some a.key) more
rising_from a [] up = tt
rising_from a (b ∷ more) up =
    (lt-ltb _ _ (up 0 (omega arith)), rising_from b more (λ k lt. let e : suc k + 1 ≡ suc (k + 1) = omega arith in rw e at (up (suc k) (omega arith))))

rising : (rs : List SheetRow) → IsStrictlyIncreasing (keys rs) → Rising None rs
rising [] up = tt
rising (a ∷ more) up = (refl, rising_from a more up)

record TakesRows (limits : Limits) (count : ℕ) (last : Option ℕ) (u : Unread) (x : List SheetRow × Unread) : Type 0 where
  text : joined u.parts ≡ text_of (map row_fields x.0) ++ joined x.1.parts
  len : length x.0 ≡ count
  rows : All (IsRowWithin limits) x.0
  up : Rising last x.0

rows_takes : (limits : Limits) (count : ℕ) (last : Option ℕ) (u : Unread) (x : List SheetRow × Unread) → rows limits count last u ≡ Ok x → TakesRows limits count last u x
unfolding rows next_row
rows_takes limits zero last u x e =
    subst (TakesRows limits 0 last u) (ok_is ([], u) x e) (record { text = refl; len = refl; rows = All-nil (IsRowWithin limits); up = tt })
rows_takes limits (suc count) last u x e =
    let first = bind_ok (next_row limits last u) _ x e in
    let others = bind_ok (rows limits count (Some first.0.0.key) first.0.1) _ x first.2 in
    let row = bind_ok (row_line limits u) _ first.0 first.1 in
    let above = test_ok (rises last row.0.0.key) _ _ first.0 row.2 in
    let same : row.0 ≡ first.0 = ok_is row.0 first.0 above.1 in
    let one = (row_line_law limits).takes u first.0 (row.1 ∙ above.1) in
    let more = rows_takes limits count (Some first.0.0.key) first.0.1 others.0 others.1 in
    let front = line_text (row_fields first.0.0) in
    subst (TakesRows limits (suc count) last u) (ok_is (first.0.0 ∷ others.0.0, others.0.1) x others.2)
    (record {
      text = one.0 ∙ ap (λ (rest : List ℕ). front ++ rest) more.text ∙ sym (append_assoc front (text_of (map row_fields others.0.0)) (joined others.0.1.parts));
      len = ap suc more.len;
      rows = All-cons (IsRowWithin limits) first.0.0 others.0.0 one.1 more.rows;
      up = (subst (λ (r : SheetRow × Unread). rises last r.0.key ≡ true) same above.0, more.up);
    })

rows_again : (limits : Limits) (last : Option ℕ) (rs : List SheetRow) (n : ℕ) (rest : List ℕ) → All (IsRowWithin limits) rs → Rising last rs
    → (m : ℕ) × (rows limits (length rs) last (record { parts = lines_in (text_of (map row_fields rs) ++ rest); number = n }) ≡ Ok (rs, record { parts = lines_in rest; number = m }))
unfolding rows next_row
rows_again limits last [] n rest fits up = (n, refl)
rows_again limits last (row ∷ more) n rest fits up =
    let first = (row_line_law limits).again n row (text_of (map row_fields more) ++ rest) (All-head (IsRowWithin limits) row more fits) in
    let others = rows_again limits (Some row.key) more first.0 rest (All-tail (IsRowWithin limits) row more fits) up.1 in
    (others.0, rw (append_assoc (line_text (row_fields row)) (text_of (map row_fields more)) rest, first.1, up.0, others.1) refl)

rows_short : (limits : Limits) (rs : List SheetRow) → All (IsRowWithin limits) rs → length (text_of (map row_fields rs)) ≤ length rs * row_most limits
rows_short limits [] fits = omega arith
rows_short limits (row ∷ more) fits =
    omega (
      arith,
      length-append (line_text (row_fields row)) (text_of (map row_fields more)),
      (row_line_law limits).short row
          (All-head (IsRowWithin limits) row more fits),
      rows_short limits more (All-tail (IsRowWithin limits) row more fits),
    )

-- the rows of a sheet in range
record RowsFit (limits : Limits) (rs : List SheetRow) : Type 0 where
  few : length rs ≤ most_rows limits
  rows : All (IsRowWithin limits) rs
  rising : IsStrictlyIncreasing (keys rs)

-- the most bytes of the rows of a sheet
abbrev rows_most : Limits → ℕ
rows_most Narrow = 313600000
rows_most Wide = 9400000000

few_bytes : (limits : Limits) (n : ℕ) → n ≤ most_rows limits → n * row_most limits ≤ rows_most limits
unfolding row_most
few_bytes Narrow n few = omega (arith, few)
few_bytes Wide n few = omega (arith, few)

wide_row : (limits : Limits) (n : ℕ) → n * row_most limits ≤ n * 555
unfolding row_most
wide_row Narrow n = omega arith
wide_row Wide n = omega arith

sheet_by_rows : (word : List ℕ) → IsField word → (limits : Limits) (rs : List SheetRow) → RowsFit limits rs
    → length (text_of (sheet_lines word rs)) ≤ length word + 23 + length rs * row_most limits
unfolding sheet_lines
sheet_by_rows word clean limits rs fits =
    let count = length rs in
    let counted = natural_line_law word clean 0 (2 ^ 32) (omega arith) in
    omega (
      arith,
      length-append (line_text (word ∷ decimal count ∷ [])) (text_of (map row_fields rs)),
      counted.short count (omega arith, rows_count limits count fits.few),
      rows_short limits rs fits.rows,
    )
  where
    rows_count : (limits : Limits) (n : ℕ) → n ≤ most_rows limits → n ≤ 2 ^ 32
    rows_count Narrow n few = omega (arith, few)
    rows_count Wide n few = omega (arith, few)

sheet_law : (word : List ℕ) → IsField word → (limits : Limits) → TextLaw (length word + 23 + rows_most limits) (sheet limits word) (λ rs. text_of (sheet_lines word rs)) (RowsFit limits)
unfolding sheet sheet_lines
sheet_law word clean limits =
    let counted = natural_line_law word clean 0 (most_rows limits) (rows_small limits) in
    record {
      takes = λ u x e.
          let count = bind_ok (natural_line word 0 (most_rows limits) u) _ x e in
          let c = counted.takes u count.0 count.1 in
          let r = rows_takes limits count.0.0 None count.0.1 x count.2 in
          let front : ℕ → List ℕ = λ n. line_text (word ∷ decimal n ∷ []) in (
            c.0 ∙ ap (λ (rest : List ℕ). front count.0.0 ++ rest) r.text
                ∙ ap (λ n. front n ++ (text_of (map row_fields x.0) ++ joined x.1.parts)) (sym r.len)
                ∙ sym (append_assoc (front (length x.0)) (text_of (map row_fields x.0)) (joined x.1.parts)),
            record { few = omega (arith, r.len, c.1.1); rows = r.rows; rising = increasing None x.0 r.up },
          );
      again = λ n rs rest fits.
          let count = length rs in
          let c = counted.again n count (text_of (map row_fields rs) ++ rest) (omega arith, fits.few) in
          let r = rows_again limits None rs c.0 rest fits.rows (rising rs fits.rising) in
          (r.0, rw (append_assoc (line_text (word ∷ decimal count ∷ [])) (text_of (map row_fields rs)) rest, c.1) r.1);
      short = λ rs fits. omega (arith, sheet_by_rows word clean limits rs fits, few_bytes limits (length rs) fits.few);
    }
  where
    rows_small : (limits : Limits) → most_rows limits < 2 ^ 64
    rows_small Narrow = omega arith
    rows_small Wide = omega arith

-- ---- the whole

abbrev terms_text : ℕ × ℕ × ℤ × ℤ → List ℕ
terms_text x =
    line_text (codes "weight" ∷ decimal x.0 ∷ [])
    ++ (line_text (codes "turns" ∷ decimal x.1 ∷ []) ++ (line_text (codes "asked" ∷ signed_decimal x.2 ∷ []) ++ line_text (codes "resolution" ∷ signed_decimal x.3 ∷ [])))

abbrev TermsFit : ℕ × ℕ × ℤ × ℤ → Type 0
TermsFit x = Within 8192 1048576 x.0 × x.1 ≤ 1099511627776 × Between (pos 0) (pos 8000000000) x.2 × Between (pos 0) (pos 99999999999) x.3

terms_law : TextLaw 118 terms terms_text TermsFit
unfolding terms
terms_law =
    made_law (λ (x : ℕ × (ℕ × (ℤ × ℤ))). (x.0, x.1.0, x.1.1.0, x.1.1.1)) (λ (b : ℕ × ℕ × ℤ × ℤ). (b.0, (b.1, (b.2, b.3)))) terms_text TermsFit
    (lines_law (natural_line_law (codes "weight") (clean_word (codes "weight") refl) 8192 1048576 (omega arith))
    (lines_law (natural_line_law (codes "turns") (clean_word (codes "turns") refl) 0 1099511627776 (omega arith))
    (lines_law (integer_line_law (codes "asked") (clean_word (codes "asked") refl) (pos 0) (pos 8000000000) (λ z h. omega (arith, ints, h.0, h.1)))
    (integer_line_law (codes "resolution") (clean_word (codes "resolution") refl) (pos 0) (pos 99999999999) (λ z h. omega (arith, ints, h.0, h.1))))))
    (λ x fits. (refl, (fits.0, fits.1.0.1, fits.1.1.0, fits.1.1.1)))
    (λ b fits. ((fits.0, ((omega arith, fits.1), (fits.2, fits.3))), refl))

abbrev findings_text : Outcome × ℤ × ℤ × List ℕ → List ℕ
findings_text x =
    line_text (codes "outcome" ∷ outcome_word x.0 ∷ [])
    ++ (line_text (codes "lower" ∷ signed_decimal x.1 ∷ []) ++ (line_text (codes "upper" ∷ signed_decimal x.2 ∷ []) ++ line_text (codes "spent" ∷ map decimal x.3)))

-- in a report of the version
abbrev FindingsFit : ℕ → Outcome × ℤ × ℤ × List ℕ → Type 0
FindingsFit version x =
    has_outcome version x.0 ≡ true × unsigned_abs x.1 ≤ 4000000000 × unsigned_abs x.2 ≤ 4000000000 × (Within 1 16 (length x.3) × All (λ n. n ≤ 1099511627776) x.3)

findings_law : (version : ℕ) → TextLaw 429 (findings version) findings_text (FindingsFit version)
unfolding findings
findings_law version =
    made_law (λ (x : Outcome × (ℤ × (ℤ × List ℕ))). (x.0, x.1.0, x.1.1.0, x.1.1.1)) (λ (b : Outcome × ℤ × ℤ × List ℕ). (b.0, (b.1, (b.2, b.3)))) findings_text (FindingsFit version)
    (lines_law (outcome_line_law version)
    (lines_law (bound_line_law (codes "lower") (clean_word (codes "lower") refl)) (lines_law (bound_line_law (codes "upper") (clean_word (codes "upper") refl)) spent_line_law)))
    (λ x fits. (refl, (fits.0, fits.1.0, fits.1.1.0, fits.1.1.1)))
    (λ b fits. ((fits.0, (fits.1, (fits.2, fits.3))), refl))

abbrev sheets_text : List SheetRow × List SheetRow → List ℕ
sheets_text x = text_of (sheet_lines (codes "one") x.0) ++ (text_of (sheet_lines (codes "two") x.1) ++ line_text (codes "end" ∷ []))

abbrev SheetsFit : Limits → List SheetRow × List SheetRow → Type 0
SheetsFit limits x = RowsFit limits x.0 × RowsFit limits x.1

sheets_law : (limits : Limits) → TextLaw ((26 + rows_most limits) + ((26 + rows_most limits) + 5)) (sheets limits) sheets_text (SheetsFit limits)
unfolding sheets
sheets_law limits =
    made_law (λ (x : List SheetRow × (List SheetRow × Unit {0})). (x.0, x.1.0)) (λ (b : List SheetRow × List SheetRow). (b.0, (b.1, tt))) sheets_text (SheetsFit limits)
    (lines_law (sheet_law (codes "one") (clean_word (codes "one") refl) limits) (lines_law (sheet_law (codes "two") (clean_word (codes "two") refl) limits) end_line_law))
    (λ x fits. (refl, (fits.0, fits.1.0)))
    (λ b fits. ((fits.0, (fits.1, tt)), refl))

-- the text of the lines behind the first
abbrev body : Report → List ℕ
body r =
    line_text (codes "game" ∷ position_fields r.position) ++ (terms_text (r.weight, r.turns, r.asked, r.resolution)
    ++ (findings_text (r.outcome, r.lower, r.upper, r.spent) ++ sheets_text (r.one.rows, r.two.rows)))

sheet_is : (limits : Limits) (side : Side) (total : ℕ) (s : Sheet) → IsSheetInRange limits side total s → record { side = side; total = total; rows = s.rows } ≡ s
sheet_is limits side total s fits = sym (ap₂ (λ (side : Side) (total : ℕ). record { side = side; total = total; rows = s.rows }) fits.side_is fits.total_is)

-- rows, and how many weights they have
rows_within : (limits : Limits) (rs : List SheetRow) → All IsRowInRange rs → All (λ (row : SheetRow). length row.weights ≤ most_moves limits) rs → All (IsRowWithin limits) rs
rows_within limits [] fits few = All-nil (IsRowWithin limits)
rows_within limits (row ∷ more) fits few =
    let Few : SheetRow → Type 0 = λ row. length row.weights ≤ most_moves limits in
    All-cons (IsRowWithin limits) row more (All-head IsRowInRange row more fits, All-head Few row more few)
    (rows_within limits more (All-tail IsRowInRange row more fits) (All-tail Few row more few))

rows_fit : (limits : Limits) (side : Side) (total : ℕ) (s : Sheet) → IsSheetInRange limits side total s → RowsFit limits s.rows
rows_fit limits side total s fits = record { few = fits.few; rows = rows_within limits s.rows fits.rows fits.moves; rising = fits.rising }

in_sheet : (limits : Limits) (side : Side) (total : ℕ) (rs : List SheetRow) → RowsFit limits rs → IsSheetInRange limits side total (record { side = side; total = total; rows = rs })
in_sheet limits side total rs fits = record {
  side_is = refl;
  total_is = refl;
  few = fits.few;
  rows = All-weaker (IsRowWithin limits) IsRowInRange (λ row h. h.0) rs fits.rows;
  moves = All-weaker (IsRowWithin limits) (λ (row : SheetRow). length row.weights ≤ most_moves limits) (λ row h. h.1) rs fits.rows;
  rising = fits.rising;
}

-- a report whose numbers are in the ranges of a version
record IsOfVersion (version : ℕ) (r : Report) : Type 0 where
  position : IsInVersion version r.position
  terms : TermsFit (r.weight, r.turns, r.asked, r.resolution)
  findings : FindingsFit version (r.outcome, r.lower, r.upper, r.spent)
  one : IsSheetInRange (limits_of version) One r.weight r.one
  two : IsSheetInRange (limits_of version) Two r.weight r.two

report_law : (version : ℕ) → TextLaw ((5 + (21 + line_most (limits_of version))) + (118 + (429 + ((26 + rows_most (limits_of version)) + ((26 + rows_most (limits_of version)) + 5)))))
    (report version) body (IsOfVersion version)
unfolding report
report_law version =
    let limits = limits_of version in
    made_law report_of (λ r. (r.position, ((r.weight, r.turns, r.asked, r.resolution), ((r.outcome, r.lower, r.upper, r.spent), (r.one.rows, r.two.rows))))) body (IsOfVersion version)
    (lines_law (game_line_law version) (lines_law terms_law (lines_law (findings_law version) (sheets_law limits))))
    (λ x fits. let s = fits.1.1.1 in (
      refl,
      record { position = fits.0; terms = fits.1.0; findings = fits.1.1.0; one = in_sheet limits One _ _ s.0; two = in_sheet limits Two _ _ s.1 },
    ))
    (λ r fits. (
      (fits.position, (fits.terms, (fits.findings, (rows_fit limits One r.weight r.one fits.one, rows_fit limits Two r.weight r.two fits.two)))),
      ap₂ (λ (one two : Sheet). record r { one = one; two = two }) (sheet_is limits One r.weight r.one fits.one) (sheet_is limits Two r.weight r.two fits.two),
    ))

-- ---- the version of a report

-- what a report has within the limits of its version
record IsVersion (r : Report) (version : ℕ) : Type 0 where
  known : Within 1 newest_version version
  position : IsPositionInRange r.position → IsInVersion version r.position
  outcome : has_outcome version r.outcome ≡ true

own_game : (k : GameKind) → (Within 1 newest_version (game_version k)) × ((limits_of (game_version k) ≡ Narrow) × (has_game (game_version k) k ≡ true))
own_game Goofspiel = ((omega arith, omega arith), (refl, refl))
own_game k = ((omega arith, omega arith), (refl, refl))

newest_has : (k : GameKind) → has_game newest_version k ≡ true
newest_has k = or-true (game_version k == newest_version)

narrow_position : (text : PositionText) (b : Bool) → (not (is_narrow text) || b) ≡ false → is_narrow text ≡ true
narrow_position text b e = elim (is_narrow text) as (λ t. (not t || b) ≡ false → t ≡ true) [
  | true ↦ λ h. refl
  | false ↦ λ h. absurd cc
] e

newest_tells : (o : Outcome) → has_outcome newest_version o ≡ true
newest_tells o = or-true (is_older o)

older_outcome : (narrow one two older : Bool) → (not narrow || (one || (two || not older))) ≡ false → older ≡ true
older_outcome narrow one two true e = refl
older_outcome false one two false e = absurd cc
older_outcome true true two false e = absurd cc
older_outcome true false true false e = absurd cc
older_outcome true false false false e = absurd cc

version_is : (r : Report) → IsVersion r (version_of r)
version_is r =
    let k = kind_of r.position in
    let own = own_game k in
    elim (needs_newest r) as (λ b. needs_newest r ≡ b → IsVersion r (cond b newest_version (game_version k))) [
      | true ↦ λ needs. record { known = (omega arith, omega arith); position = λ fits. record { values = fits; game = newest_has k }; outcome = newest_tells r.outcome }
      | false ↦ λ needs.
          let narrow = narrow_position r.position (is_long r.one || (is_long r.two || not (is_older r.outcome))) needs in
          let older = older_outcome (is_narrow r.position) (is_long r.one) (is_long r.two) (is_older r.outcome) needs in
          record {
            known = own.0;
            position = λ fits. record { values = rw (own.1.0) (narrow_fits r.position fits narrow); game = own.1.1 };
            outcome = rw older refl;
          }
    ] refl

-- a report in range is one of its version
of_own : (r : Report) → IsInRange r → IsOfVersion (version_of r) r
of_own r fits = record {
  position = (version_is r).position fits.position;
  terms = (fits.weight, fits.turns, fits.asked, fits.resolution);
  findings = ((version_is r).outcome, fits.lower, fits.upper, (fits.workers, fits.spent));
  one = fits.one;
  two = fits.two;
}

in_own : (version : ℕ) (r : Report) → IsOfVersion version r → version_of r ≡ version → IsInRange r
in_own version r is own =
    let t = is.terms in
    let f = is.findings in record {
      position = within_wide (limits_of version) (kind_of r.position) (values_of r.position) is.position.values;
      weight = t.0;
      turns = t.1;
      asked = t.2;
      resolution = t.3;
      lower = f.1;
      upper = f.2;
      workers = f.3.0;
      spent = f.3.1;
      one = subst (λ (v : ℕ). IsSheetInRange (limits_of v) One r.weight r.one) (sym own) is.one;
      two = subst (λ (v : ℕ). IsSheetInRange (limits_of v) Two r.weight r.two) (sym own) is.two;
    }

-- ---- the text in one row

abbrev head_fields : ℕ → List (List ℕ)
head_fields version = codes "dosolve" ∷ codes "report" ∷ decimal version ∷ []

grouped : (w t a r o l u s rest : List ℕ) → w ++ (t ++ (a ++ (r ++ (o ++ (l ++ (u ++ (s ++ rest))))))) ≡ (w ++ (t ++ (a ++ r))) ++ ((o ++ (l ++ (u ++ s))) ++ rest)
grouped w t a r o l u s rest = simp append_assoc

report_text-body : (r : Report) → report_text r ≡ line_text (head_fields (version_of r)) ++ body r
unfolding report_lines
report_text-body r =
    let one = sheet_lines (codes "one") r.one.rows in
    let two = sheet_lines (codes "two") r.two.rows in
    let last = (codes "end" ∷ []) ∷ [] in
    let both : text_of (one ++ (two ++ last)) ≡ sheets_text (r.one.rows, r.two.rows) =
    flat_map-append line_text one (two ++ last) ∙ ap (λ (rest : List ℕ). text_of one ++ rest) (flat_map-append line_text two last) in
    ap (λ (rest : List ℕ). line_text (head_fields (version_of r)) ++ (line_text (codes "game" ∷ position_fields r.position) ++ rest))
    (grouped (line_text (codes "weight" ∷ decimal r.weight ∷ [])) (line_text (codes "turns" ∷ decimal r.turns ∷ []))
    (line_text (codes "asked" ∷ signed_decimal r.asked ∷ [])) (line_text (codes "resolution" ∷ signed_decimal r.resolution ∷ []))
    (line_text (codes "outcome" ∷ outcome_word r.outcome ∷ [])) (line_text (codes "lower" ∷ signed_decimal r.lower ∷ []))
    (line_text (codes "upper" ∷ signed_decimal r.upper ∷ [])) (line_text (codes "spent" ∷ map decimal r.spent)) (text_of (one ++ (two ++ last)))
    ∙ ap (λ (rest : List ℕ). terms_text (r.weight, r.turns, r.asked, r.resolution) ++ (findings_text (r.outcome, r.lower, r.upper, r.spent) ++ rest)) both)

-- ---- the head and the end

version_line_law : TextLaw 37 version_line (λ v. line_text (head_fields v)) (Within 1 newest_version)
unfolding version_line
version_line_law = told_law _ (Within 1 newest_version)
    (line_law (before_law (codes "dosolve") (clean_word (codes "dosolve") refl)
    (before_law (codes "report") (clean_word (codes "report") refl) (natural_law 1 newest_version (omega arith)))) (omega arith))
    (λ v fits. (refl, fits.0)) (λ v fits. (fits, (omega arith, omega arith)))

or_head_ok : {A : Type 0} (r : Result A TextError) (x : A) → or_head r ≡ Ok x → r ≡ Ok x
or_head_ok (Ok y) x e = e
or_head_ok (Err f) x e = absurd cc

pub or_head_err : {A : Type 0} (r : Result A TextError) (e : TextError) → Fails e r → ¬ (e ≡ NoMemory) → or_head r ≡ Err Head
or_head_err r NoMemory is not = absurd (not refl)
or_head_err r e is not = rw is refl

head_takes : (u : Unread) (x : ℕ × Unread) → head u ≡ Ok x → joined u.parts ≡ line_text (head_fields x.0) ++ joined x.1.parts
unfolding head
head_takes u x e = (version_line_law.takes u x (or_head_ok (version_line u) x e)).0

head_again : (version : ℕ) (rest : List ℕ) → Within 1 newest_version version
    → (m : ℕ) × (head (record { parts = lines_in (line_text (head_fields version) ++ rest); number = 1 }) ≡ Ok (version, record { parts = lines_in rest; number = m }))
unfolding head
head_again version rest known = let a = version_line_law.again 1 version rest known in (a.0, ap or_head a.1)

nothing_left : (lines : List (List ℕ)) → ended lines ≡ true → joined lines ≡ []
nothing_left [] e = absurd cc
nothing_left ([] ∷ []) e = refl
nothing_left ((b ∷ bs) ∷ []) e = absurd (omega (arith, eqb-true (suc (length bs)) 0 e))
nothing_left (line ∷ next ∷ more) e = absurd cc

-- The text of a report in range is read as the report.
pub read_again : (r : Report) → IsInRange r → read_report (report_text r) ≡ Ok r
unfolding read_report named_report
read_again r fits =
    let version = version_of r in
    let h = head_again version (body r) (version_is r).known in
    let a = (report_law version).again h.0 r [] (of_own r fits) in
    let rest = subst (λ (t : List ℕ). report version (record { parts = lines_in t; number = h.0 }) ≡ Ok (r, record { parts = lines_in []; number = a.0 })) (append-nil (body r)) a.1 in
    ap read_report (report_text-body r) ∙ rw (h.1, rest, eq-eqb version version refl) refl

-- what bytes are that name a version and are read under it
record IsNamed (bytes : List ℕ) (x : ℕ × Report) : Type 0 where
  fits : IsOfVersion x.0 x.1
  text : bytes ≡ line_text (head_fields x.0) ++ body x.1

named_takes : (bytes : List ℕ) (x : ℕ × Report) → named_report bytes ≡ Ok x → IsNamed bytes x
unfolding named_report
named_takes bytes x e =
    let h = bind_ok (head (record { parts = lines_in bytes; number = 1 })) _ x e in
    let r = bind_ok (report h.0.0 h.0.1) _ x h.2 in
    let over = test_ok (ended r.0.1.parts) (Ok (h.0.0, r.0.0)) _ x r.2 in
    let taken = (report_law h.0.0).takes h.0.1 r.0 r.1 in
    subst (IsNamed bytes) (ok_is (h.0.0, r.0.0) x over.1) (record {
      fits = taken.1;
      text = sym (join_with_byte-slice_split 10 bytes) ∙ head_takes _ h.0 h.1
          ∙ ap (λ (rest : List ℕ). line_text (head_fields h.0.0) ++ rest)
          (taken.0 ∙ ap (λ (rest : List ℕ). body r.0.0 ++ rest) (nothing_left r.0.1.parts over.0) ∙ append-nil (body r.0.0));
    })

-- The position of what is read is in range, whichever version the bytes name.
pub named_position : (bytes : List ℕ) (x : ℕ × Report) → named_report bytes ≡ Ok x → IsPositionInRange x.1.position
named_position bytes x e =
    let position = (named_takes bytes x e).fits.position in
    within_wide (limits_of x.0) (kind_of x.1.position) (values_of x.1.position) position.values

-- Under its own version it is a report in range, and the bytes are its text.
pub named_own : (bytes : List ℕ) (x : ℕ × Report) → named_report bytes ≡ Ok x → version_of x.1 ≡ x.0 → (bytes ≡ report_text x.1) × IsInRange x.1
named_own bytes x e version =
    let named = named_takes bytes x e in (
      named.text ∙ ap (λ (v : ℕ). line_text (head_fields v) ++ body x.1) (sym version) ∙ sym (report_text-body x.1),
      in_own x.0 x.1 named.fits version,
    )

-- What is read as a report names its version.
pub read_named : (bytes : List ℕ) (r : Report) → read_report bytes ≡ Ok r → named_report bytes ≡ Ok (version_of r, r)
unfolding read_report
read_named bytes r e =
    let n = bind_ok (named_report bytes) _ r e in
    let own = test_ok (version_of n.0.1 == n.0.0) _ _ r n.2 in
    let is : n.0.1 ≡ r = ok_is n.0.1 r own.1 in
    let version : n.0.0 ≡ version_of r = sym (eqb-true _ _ own.0) ∙ ap version_of is in
    n.1 ∙ ap Ok (λ i. (version i, is i))

-- Bytes that are read as a report are its text, and it is in range.
pub read_takes : (bytes : List ℕ) (r : Report) → read_report bytes ≡ Ok r → (bytes ≡ report_text r) × IsInRange r
read_takes bytes r e = named_own bytes (version_of r, r) (read_named bytes r e) refl

-- ---- below the newest version

old_limits : (version : ℕ) → version ≤ 2 → limits_of version ≡ Narrow
old_limits zero old = refl
old_limits (suc zero) old = refl
old_limits (suc (suc zero)) old = refl
old_limits (suc (suc (suc n))) old = absurd (omega (arith, old))

not_newest : (version : ℕ) → version ≤ 2 → (version == newest_version) ≡ false
not_newest zero old = refl
not_newest (suc zero) old = refl
not_newest (suc (suc zero)) old = refl
not_newest (suc (suc (suc n))) old = absurd (omega (arith, old))

left_of : (a b : Bool) → b ≡ false → (a || b) ≡ true → a ≡ true
left_of true b none e = refl
left_of false b none e = let both : false ≡ true = sym none ∙ e in absurd cc

own_version : (version : ℕ) (k : GameKind) → version ≤ 2 → has_game version k ≡ true → game_version k ≡ version
own_version version k old e = eqb-true _ _ (left_of (game_version k == version) (version == newest_version) (not_newest version old) e)

not_long : (s : Sheet) → length s.rows ≤ most_rows Narrow → is_long s ≡ false
not_long s few = grind arith

own_below : (version : ℕ) (r : Report) → version ≤ 2 → IsOfVersion version r → is_small r.position ≡ true → version_of r ≡ version
own_below version r old is small =
    let narrow = old_limits version old in
    let Holds : Limits → Type 0 = λ limits. AllFit (kinds_of limits (kind_of r.position)) (values_of r.position) in
    let place : is_narrow r.position ≡ true = narrow_by_size r.position (subst Holds narrow is.position.values) ∙ small in
    let one = not_long r.one (subst (λ (limits : Limits). length r.one.rows ≤ most_rows limits) narrow is.one.few) in
    let two = not_long r.two (subst (λ (limits : Limits). length r.two.rows ≤ most_rows limits) narrow is.two.few) in
    let older : is_older r.outcome ≡ true = left_of (is_older r.outcome) (version == newest_version) (not_newest version old) is.findings.0 in
    rw (place, one, two, older) (own_version version (kind_of r.position) old is.position.game)

-- What is read under a lower version has that version, unless its position is too large for the narrow rules.
pub read_below : (version : ℕ) (u : Unread) (x : Report × Unread) → version ≤ 2 → report version u ≡ Ok x → is_small x.0.position ≡ true → version_of x.0 ≡ version
read_below version u x old e small = own_below version x.0 old ((report_law version).takes u x e).1 small

-- ---- how long a text can be

body_by_rows : (version : ℕ) (r : Report) → IsOfVersion version r
    → length (body r) ≤ 1000 + line_most (limits_of version) + (length r.one.rows * row_most (limits_of version) + length r.two.rows * row_most (limits_of version))
body_by_rows version r is =
    let limits = limits_of version in
    let line = line_text (codes "game" ∷ position_fields r.position) in
    let terms = terms_text (r.weight, r.turns, r.asked, r.resolution) in
    let findings = findings_text (r.outcome, r.lower, r.upper, r.spent) in
    let one = text_of (sheet_lines (codes "one") r.one.rows) in
    let two = text_of (sheet_lines (codes "two") r.two.rows) in
    let end = line_text (codes "end" ∷ []) in
    omega (
      arith,
      length-append line (terms ++ (findings ++ (one ++ (two ++ end)))),
      length-append terms (findings ++ (one ++ (two ++ end))),
      length-append findings (one ++ (two ++ end)),
      length-append one (two ++ end),
      length-append two end,
      (game_line_law version).short r.position is.position,
      terms_law.short (r.weight, r.turns, r.asked, r.resolution) is.terms,
      (findings_law version).short (r.outcome, r.lower, r.upper, r.spent) is.findings,
      sheet_by_rows (codes "one") (clean_word (codes "one") refl) limits r.one.rows (rows_fit limits One r.weight r.one is.one),
      sheet_by_rows (codes "two") (clean_word (codes "two") refl) limits r.two.rows (rows_fit limits Two r.weight r.two is.two),
    )

text_by_rows : (r : Report) → IsInRange r
    → length (report_text r) ≤ 1037 + line_most (limits_of (version_of r)) + (length r.one.rows * row_most (limits_of (version_of r)) + length r.two.rows * row_most (limits_of (version_of r)))
text_by_rows r fits =
    let version = version_of r in
    omega (
      arith,
      ap length (report_text-body r),
      length-append (line_text (head_fields version)) (body r),
      version_line_law.short version (version_is r).known,
      body_by_rows version r (of_own r fits),
    )

line_few : (limits : Limits) → line_most limits ≤ 2900000000
line_few Narrow = omega arith
line_few Wide = omega arith

pub report_by_rows : (r : Report) → IsInRange r → length (report_text r) ≤ 2900001037 + (length r.one.rows + length r.two.rows) * 555
report_by_rows r fits =
    let limits = limits_of (version_of r) in
    omega (arith, text_by_rows r fits, line_few limits, wide_row limits (length r.one.rows), wide_row limits (length r.two.rows))

narrow_short : (r : Report) (limits : Limits) → limits ≡ Narrow → (one two : ℕ) → one ≤ most_rows limits → two ≤ most_rows limits
    → 1037 + line_most limits + (one * row_most limits + two * row_most limits) ≤ 1073741824
narrow_short r limits is one two few_one few_two =
    omega (arith, few_bytes limits one few_one, few_bytes limits two few_two, ap line_most is, ap rows_most is)

pub report_short : (r : Report) → IsInRange r → version_of r ≤ 2 → length (report_text r) ≤ 1073741824
report_short r fits old =
    let limits = limits_of (version_of r) in
    omega (arith, text_by_rows r fits, narrow_short r limits (old_limits (version_of r) old) (length r.one.rows) (length r.two.rows) fits.one.few fits.two.few)
