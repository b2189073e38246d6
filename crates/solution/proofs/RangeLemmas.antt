-- The rows of a lawful sheet are in the ranges of a report's.
use Rattle.std.proofs.Common.{◌≡◌, ℕ, ◌≤◌, inl, inr, Bool, true, false, not, ◌||◌, if◌then◌else◌, List, [], ◌∷◌, length, sum, refl, sym, ◌∙◌, arith}
use Rattle.std.proofs.lemmas.Bool.{cases_lt, lt-ltb}
use Rattle.std.specs.List.{AllByRecursion}
use Rattle.std.proofs.lemmas.List.Elements.{All-from_recursion, All-weaker}
use Rattle.std.proofs.lemmas.List.Sums.{sum_by-cons}
use Rattle.sim_game.specs.declared.Side.{Side}
use Rattle.sim_game.specs.declared.Side.TheVariants.{One, Two}
use Rattle.sim_game.specs.Model.{GameModel, IsGame}
use Rattle.sim_game.proofs.SideLemmas.{looser_trans, opening_state}
use Rattle.plan_book.specs.declared.Sheet.{Sheet}
use Rattle.plan_book.specs.declared.SheetRow.{SheetRow}
use Rattle.plan_book.specs.Sheets.{IsLawful, IsLawfulRow, row_at}
use Rattle.plan_book.proofs.SheetLemmas.{reached_reachable}
use Rattle.sim_game.specs.declared.Limits.{Limits}
use Rattle.sim_game.specs.declared.Limits.TheVariants.{Narrow, Wide}
use Rattle.fields.specs.Positions.{game_version, kind_of, is_narrow}
use Rattle.certificate.specs.declared.report.Report.{Report}
use Rattle.certificate.specs.Versions.{newest_version, limits_of, most_rows, most_moves, is_long, is_older, needs_newest, version_of}
use Rattle.certificate.specs.Ranges.{IsRowInRange, IsSheetInRange}
use Rattle.lazy_workers.proofs.SummaryLemmas.{abs_small, scaled_low, scaled_high}

parts_small : (ws : List ℕ) (most : ℕ) → sum ws ≤ most → AllByRecursion (λ w. w ≤ most) ws
parts_small [] most h = tt
parts_small (w ∷ ws) most h = (omega (arith, sum_by-cons (λ x. x) w ws), parts_small ws most (omega (arith, sum_by-cons (λ x. x) w ws)))

rows_few : (limits : Limits) (n : ℕ) → n ≤ most_rows Narrow → n ≤ most_rows limits
rows_few Narrow n few = few
rows_few Wide n few = omega (arith, few)

moves_few : (limits : Limits) (n : ℕ) → n ≤ most_moves Narrow → n ≤ most_moves limits
moves_few Narrow n few = few
moves_few Wide n few = omega (arith, few)

not_long : (sheet : Sheet) → is_long sheet ≡ false → length sheet.rows ≤ most_rows Narrow
not_long sheet short = elim (cases_lt (most_rows Narrow) (length sheet.rows)) [
  | inl more ↦ let wrong : true ≡ false = sym (lt-ltb (most_rows Narrow) (length sheet.rows) more) ∙ short in absurd (cc)
  | inr few ↦ few
]

-- what is within the narrow limits, unless a report needs the newest version, is within those of its version
within_version : (most : Limits → ℕ) (n version : ℕ) (newest : Bool) → ((limits : Limits) → n ≤ most Narrow → n ≤ most limits) → n ≤ most Wide
    → (newest ≡ false → n ≤ most Narrow) → n ≤ most (limits_of (if newest then newest_version else version))
within_version most n version true wider wide narrow = wide
within_version most n version false wider wide narrow = wider (limits_of version) (narrow refl)

-- a report that does not need it is of a position within the narrow limits, with short sheets
needs_none : (narrow one two older : Bool) → (not narrow || (one || (two || not older))) ≡ false → (narrow ≡ true) × (one ≡ false) × (two ≡ false)
needs_none true false false older e = (refl, refl, refl)
needs_none narrow one two older e = absurd (cc)

module _ (r : Report) where
  pub rows_in : (sheet : Sheet) → length sheet.rows ≤ most_rows Wide → (needs_newest r ≡ false → is_long sheet ≡ false)
      → length sheet.rows ≤ most_rows (limits_of (version_of r))
  rows_in sheet few short = within_version most_rows (length sheet.rows) (game_version (kind_of r.position)) (needs_newest r) (λ limits. rows_few limits (length sheet.rows)) few
      (λ none. not_long sheet (short none))

  pub moves_in : (width : ℕ) → width ≤ most_moves Wide → (is_narrow r.position ≡ true → width ≤ most_moves Narrow) → width ≤ most_moves (limits_of (version_of r))
  moves_in width wide narrow = within_version most_moves width (game_version (kind_of r.position)) (needs_newest r) (λ limits. moves_few limits width) wide
      (λ none. narrow (needs_none (is_narrow r.position) (is_long r.one) (is_long r.two) (is_older r.outcome) none).0)

  pub short_one : needs_newest r ≡ false → is_long r.one ≡ false
  short_one none = (needs_none (is_narrow r.position) (is_long r.one) (is_long r.two) (is_older r.outcome) none).1

  pub short_two : needs_newest r ≡ false → is_long r.two ≡ false
  short_two none = (needs_none (is_narrow r.position) (is_long r.one) (is_long r.two) (is_older r.outcome) none).2

module _ {S : Type 0} (m : GameModel S) (game : IsGame m) where
  row_in_range : (side : Side) (total : ℕ) (rows : List SheetRow) (r : SheetRow) → total ≤ 1048576 → IsLawfulRow m side total rows r → IsRowInRange r
  row_in_range side total rows r small lawful =
      let reached = reached_reachable m side (row_at rows) lawful.state lawful.reached in
      let key = game.key_high lawful.state reached in
      let some = game.other_moves side lawful.state reached lawful.step.goes_on in
      let few = game.moves_high side lawful.state reached in let width = game.width_high in
      let one_each = lawful.step.one_each in let is_key = lawful.is_key in let sums = lawful.step.sums in record {
        key = omega arith;
        bound = abs_small r.bound (scaled_low m game r.bound (looser_trans One _ _ _ (opening_state m One lawful.state game reached) lawful.low))
            (scaled_high m game r.bound (looser_trans Two _ _ _ (opening_state m Two lawful.state game reached) lawful.high));
        moves = (omega arith, omega arith);
        weights = All-from_recursion (λ w. w ≤ 1048576) r.weights (parts_small r.weights 1048576 (omega arith));
      }

  row_moves : (side : Side) (total : ℕ) (rows : List SheetRow) (r : SheetRow) → IsLawfulRow m side total rows r → length r.weights ≤ m.width
  row_moves side total rows r lawful =
      let reached = reached_reachable m side (row_at rows) lawful.state lawful.reached in
      omega (arith, game.moves_high side lawful.state reached, lawful.step.one_each)

  -- within limits that the game and the rows keep
  pub sheet_in_range : (limits : Limits) (sheet : Sheet) → IsLawful m sheet → sheet.total ≤ 1048576 → m.width ≤ most_moves limits → length sheet.rows ≤ most_rows limits
      → IsSheetInRange limits sheet.side sheet.total sheet
  sheet_in_range limits sheet lawful small wide few = record {
    side_is = refl;
    total_is = refl;
    few = few;
    moves = All-weaker (IsLawfulRow m sheet.side sheet.total sheet.rows) (λ (r : SheetRow). length r.weights ≤ most_moves limits)
        (λ r lawful. let moves = row_moves sheet.side sheet.total sheet.rows r lawful in omega (arith, moves, wide)) sheet.rows lawful.rows;
    rows = All-weaker (IsLawfulRow m sheet.side sheet.total sheet.rows) IsRowInRange (λ r. row_in_range sheet.side sheet.total sheet.rows r small) sheet.rows lawful.rows;
    rising = lawful.rising;
  }
