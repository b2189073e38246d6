-- That the plans of the best entries are what is to be found.
use Rattle.std.proofs.Common.{◌≡◌, ⊎_elim, ℕ, ◌+◌, ◌*◌, ◌<◌, ◌≤◌, ℤ, pos, ◌-ℤ◌, ◌≤ℤ◌, Bool, true, false, cond, Option, None, Some, option_map, List, length, All, Contains, sym, ap, subst, ◌∙◌, arith}
use Rattle.std.specs.Int.RustNames.{unsigned_abs}
use Rattle.std.specs.List.{AllByRecursion}
use Rattle.std.proofs.lemmas.Int.{ints}
use Rattle.std.proofs.lemmas.Bool.{cases_eq}
use Rattle.std.proofs.lemmas.List.Elements.{All-contains, All-weaker, at_from_Contains, recursion_from_All}
use Rattle.sim_game.specs.declared.Side.{Side}
use Rattle.sim_game.specs.declared.Side.TheVariants.{One, Two}
use Rattle.sim_game.specs.Model.{GameModel, IsGame, IsEnd}
use Rattle.sim_game.specs.Resolution.{IsLeastGap, payoff_range, IsResolution}
use Rattle.sim_game.specs.Sides.{IsNoTighter, better, opening_bound, state_bound}
use Rattle.sim_game.proofs.ReachLemmas.{reachable_root}
use Rattle.sim_game.proofs.SideLemmas.{looser_trans, opening_state, end_range}
use Rattle.plan_book.specs.declared.Entry.{Entry}
use Rattle.plan_book.specs.declared.Sheet.{Sheet}
use Rattle.plan_book.specs.declared.SheetRow.{SheetRow}
use Rattle.plan_book.specs.Books.{IsClosed, IsBooked, IsBestSheet, best_entry, best_posted, best_row, row_of, book_bound}
use Rattle.plan_book.specs.Entries.{IsEntry, IsPureEntry}
use Rattle.plan_book.specs.Plans.{one_move}
use Rattle.plan_book.specs.Sheets.{IsLawful, IsReached, root_bound, plan_of}
use Rattle.plan_book.specs.Expected.{Guarantees}
use Rattle.plan_book.specs.Serial.{serial_bound}
use Rattle.plan_book.proofs.BestLemmas.{row_entry}
use Rattle.plan_book.proofs.BookLemmas.{IsRanged, bound_kept, best_kept, best_range, entry_range}
use Rattle.plan_book.proofs.ExpectedLemmas.{is_same, is_other}
use Rattle.plan_book.proofs.SheetLemmas.{sheet_guarantees}
use Rattle.bounds_board.proofs.KnownLemmas.{better_has, state_in}
use Rattle.fields.specs.declared.ask.Ask.{Ask}
use Rattle.fields.specs.declared.ask.StageMethod.{StageMethod}
use Rattle.fields.specs.declared.ask.SearchMethod.{SearchMethod}
use Rattle.fields.specs.declared.ask.SearchMethod.TheVariants.{Oracle, Induction}
use Rattle.fields.specs.Ranges.{IsAskInRange}
use Rattle.shared_board.specs.Closing.{HasKey, IsKeptRow, kept_bound}
use Rattle.shared_board.specs.declared.close.Kept.{Kept}
use Rattle.lazy_workers.specs.declared.summary.Found.{Found}
use Rattle.lazy_workers.specs.declared.budgets.Begun.{Begun}
use Rattle.lazy_workers.specs.Keeping.{oracle_turns, begun_whole, IsPureRow, IsSheetRowKept, AreOwed}
use Rattle.lazy_workers.specs.Searched.{IsFar, turns_each, TooFewAfter, IsSearched}
use Rattle.lazy_workers.specs.Findings.{IsFoundPlan, IsPlanKept, IsIdle, AreSpent, IsGapWide, IsFoundAfter, IsFoundGame, IsFoundFor}
use Rattle.lazy_workers.proofs.SummaryLemmas.{root_is, rows_few, abs_small, scaled_low, scaled_high}

-- ---- numbers that a game has one of
gap_once : (width range weight a b : ℕ) → IsLeastGap width range weight a → IsLeastGap width range weight b → a ≡ b
gap_once width range weight a b p q = omega (arith, p.least b q.enough, q.least a p.enough)

resolution_once : {S : Type 0} (m : GameModel S) (weight a b : ℕ) → IsResolution m weight a → IsResolution m weight b → a ≡ b
resolution_once m weight a b p q = let same = gap_once m.width (payoff_range m) weight p.gap q.gap p.is_gap q.is_gap in
    p.sums ∙ subst (λ (g : ℕ). m.rank m.root * (g + 1 + cond m.chance_free 0 1) ≡ b) (sym same) (sym q.sums)

module _ {S : Type 0} (m : GameModel S) (game : IsGame m) (weight : ℕ) (entries : List Entry) (closed : IsClosed m weight entries) where
  -- the bounds at the root lie in the range of payoffs
  root_range : (side of : Side) → IsNoTighter of (opening_bound m of) (book_bound m entries side m.root)
  root_range side of = ⊎_elim
      (λ (end : IsEnd m m.root). rw (is_same (m.rank m.root) 0 end)
      (looser_trans of _ _ _ (opening_state m of m.root game (reachable_root m)) (end_range m of m.root game (reachable_root m) end)))
      (λ (on : IsEnd m m.root → ⊥). rw (is_other (m.rank m.root) 0 on)
      (better_has side (IsNoTighter of (opening_bound m of)) (best_posted m entries side (m.key m.root)) (state_bound m side m.root)
      (best_range m weight (IsBooked m entries) entries side of (m.key m.root) game closed) (state_in m side of m.root game (reachable_root m))))
      (cases_eq (m.rank m.root) 0)

  -- the best bound posted at the key of a best row is that of the row
  row_posted : (side : Side) (key : ℕ) (r : SheetRow) → best_row side entries key ≡ Some r → best_posted m entries side key ≡ r.bound
  row_posted side key r found = sym (best_kept m side key entries ranged) ∙ kept (best_entry side entries key) found where
    ranged : AllByRecursion (IsRanged m side) entries
    ranged = recursion_from_All (IsRanged m side) entries (All-weaker (IsEntry m weight (IsBooked m entries)) (IsRanged m side)
        (λ e entry is_side. entry_range m game weight (IsBooked m entries) side e entry) entries closed)

    kept : (o : Option Entry) → option_map row_of o ≡ Some r → bound_kept m side o ≡ r.bound
    kept None e = absurd (cc)
    kept (Some entry) e = let same : row_of entry ≡ r = cc in ap (λ (x : SheetRow). x.bound) same

  root_small : (side : Side) → unsigned_abs (book_bound m entries side m.root) ≤ 4000000000
  root_small side = abs_small (book_bound m entries side m.root) (scaled_low m game (book_bound m entries side m.root) (root_range side One))
      (scaled_high m game (book_bound m entries side m.root) (root_range side Two))

module _ {S : Type 0} (m : GameModel S) (game : IsGame m) (ask : Ask) (before : Begun) (asks : IsAskInRange ask) (entries : List Entry) (x : Found)
    (searched : IsSearched m ask before entries x.kept x.turns x.was_full) where
  some_turns : 1 ≤ length x.turns
  some_turns = omega (arith, searched.workers, asks.workers.0)

  -- ---- a plan of the best entries
  module _ (side : Side) (sheet : Sheet) (is : sheet.side ≡ side) (total : sheet.total ≡ ask.weight) (lawful : IsLawful m sheet) (best : IsBestSheet m side entries sheet.rows) where
    closed : IsClosed m sheet.total entries
    closed = subst (λ (w : ℕ). IsClosed m w entries) (sym total) searched.closed

    its_best : IsBestSheet m sheet.side entries sheet.rows
    its_best = subst (λ (of : Side). IsBestSheet m of entries sheet.rows) (sym is) best

    root_bound_is : root_bound m sheet ≡ book_bound m entries side m.root
    root_bound_is = root_is m game sheet.total entries closed sheet its_best ∙ ap (λ (of : Side). book_bound m entries of m.root) is

    -- the rows are those of best entries, whose keys have rows on the board
    abbrev BestRow : SheetRow → Type 0
    BestRow r = (s : S) × IsReached m side (best_row side entries) s × (m.key s ≡ r.key) × (best_row side entries r.key ≡ Some r)

    pure_row : All (λ t. t.spent ≡ 0) x.turns → (r : SheetRow) → BestRow r → IsPureRow ask.weight r
    pure_row none r only =
        let behind = row_entry (IsPureEntry m ask.weight) side entries r.key r (searched.alone none) only.3 in
        let weights : behind.0.weights ≡ r.weights = ap (λ (y : SheetRow). y.weights) behind.2 in
        let pure = behind.1.holds in
        record { place = pure.place; pure = subst (λ (ws : List ℕ). ws ≡ one_move ask.weight (length ws) pure.place) weights pure.pure }

    kept_row : (r : SheetRow) → BestRow r → IsSheetRowKept side x.kept r
    kept_row r only =
        let behind = row_entry (λ e. HasKey x.kept e.key) side entries r.key r searched.entered only.3 in
        let held : HasKey x.kept r.key = subst (HasKey x.kept) behind.1.is_key behind.1.holds in
        let row : IsKeptRow m entries held.row = All-contains (IsKeptRow m entries) x.kept held.row searched.best held.is_kept in
        record {
          held = held;
          bound = row.best side ∙ row_posted m game ask.weight entries searched.closed side held.row.key r (ap (best_row side entries) held.is_key ∙ only.3);
        }

    -- the root's row has the best bounds posted in the book; a root that is an end has none
    root_row : (row : Kept) → Contains x.kept row → row.key ≡ m.key m.root
        → book_bound m entries side m.root ≡ better side (kept_bound side row) (state_bound m side m.root)
    root_row row held at = ⊎_elim
        (λ (end : IsEnd m m.root). let it = at_from_Contains x.kept row held in let none = ap length (searched.rows.none end) in absurd (omega (arith, it.1, none)))
        (λ (on : IsEnd m m.root → ⊥).
        let best : IsKeptRow m entries row = All-contains (IsKeptRow m entries) x.kept row searched.best held in
        rw (is_other (m.rank m.root) 0 on) (ap (λ (x : ℤ). better side x (state_bound m side m.root)) (sym (best.best side ∙ ap (best_posted m entries side) at))))
        (cases_eq (m.rank m.root) 0)

    pub found_plan : (bound : ℤ) → bound ≡ root_bound m sheet → IsFoundPlan m ask before.may_stop (IsIdle m ask x) side sheet bound
    found_plan bound at =
        let booked : bound ≡ book_bound m entries side m.root = at ∙ root_bound_is in record {
          side_is = is;
          total_is = total;
          lawful = lawful;
          bound_is = at;
          guaranteed = subst (λ (of : Side). Guarantees m of (plan_of sheet) bound) is
              (subst (Guarantees m sheet.side (plan_of sheet)) (sym at) (sheet_guarantees m game sheet lawful (omega (arith, total, asks.weight.0))));
          small = subst (λ (z : ℤ). unsigned_abs z ≤ 4000000000) (sym booked) (root_small m game ask.weight entries searched.closed side);
          few = rows_few m game sheet.total entries closed sheet its_best ask.rows searched.held;
          alone = λ none. All-weaker BestRow (IsPureRow ask.weight) (pure_row none) sheet.rows best.only;
          pure = λ has many. subst (IsNoTighter side (serial_bound m side m.root)) (sym booked) (searched.found.pure has many some_turns side);
        }

    pub plan_kept : (bound : ℤ) → bound ≡ root_bound m sheet → IsPlanKept m side x.kept sheet bound
    plan_kept bound at = record {
      rows = All-weaker BestRow (IsSheetRowKept side x.kept) kept_row sheet.rows best.only;
      root = λ row held key. at ∙ root_bound_is ∙ root_row row held key;
    }

  -- ---- what is found
  module _ (is_one : x.one.side ≡ One) (is_two : x.two.side ≡ Two) (total_one : x.one.total ≡ ask.weight) (total_two : x.two.total ≡ ask.weight)
      (lawful_one : IsLawful m x.one) (lawful_two : IsLawful m x.two) (best_one : IsBestSheet m One entries x.one.rows) (best_two : IsBestSheet m Two entries x.two.rows)
      (lower : x.lower ≡ root_bound m x.one) (upper : x.upper ≡ root_bound m x.two)
      (resolution : (n : ℕ) × (x.resolution ≡ pos n) × IsResolution m ask.weight n) (high : x.resolution ≤ℤ pos 99999999999) where
    far : IsGapWide ask x → IsFar m ask (book_bound m entries Two m.root -ℤ book_bound m entries One m.root)
    far wide =
        let low = lower ∙ root_bound_is One x.one is_one total_one lawful_one best_one in
        let up = upper ∙ root_bound_is Two x.two is_two total_two lawful_two best_two in
        let asked = wide.asked in let above = wide.resolution in record {
          asked = omega (arith, ints, low, up, asked);
          resolution = λ n is. let same = resolution_once m ask.weight n resolution.0 is resolution.2 in omega (arith, ints, low, up, resolution.1, above, same);
        }

    not_full : x.was_full ≡ false → x.was_full ≡ true → ⊥
    not_full is was = let wrong : false ≡ true = sym is ∙ was in absurd (cc)

    spent : x.was_full ≡ false → IsGapWide ask x → AreSpent m ask before.may_stop (TooFewAfter before.spent m ask) x
    spent free wide = record {
      all = searched.found.all_spent (not_full free) (far wide);
      too_few = λ all. (searched.found.due (not_full free) (far wide) all some_turns).0;
    }

    is_game : IsFoundAfter m ask before (TooFewAfter before.spent m ask) x
    is_game = record {
      one = found_plan One x.one is_one total_one lawful_one best_one x.lower lower;
      two = found_plan Two x.two is_two total_two lawful_two best_two x.upper upper;
      resolution = resolution;
      resolution_high = high;
      workers = searched.workers;
      within = searched.found.within;
      at_once = searched.found.at_once;
      full = λ was. (searched.found.full was).1;
      spent = spent;
    }

    pub is_found : IsFoundFor m ask before x
    is_found = record {
      game = is_game;
      one_kept = plan_kept One x.one is_one total_one lawful_one best_one x.lower lower;
      two_kept = plan_kept Two x.two is_two total_two lawful_two best_two x.upper upper;
      rows = searched.rows;
      -- a search that met a full board leaves no row
      rooted = λ goes_on left. searched.found.rowed (λ was. let all = (searched.found.full was).0 in absurd (omega arith)) some_turns goes_on;
      owed = λ free wide all left. subst (λ (z : ℤ). AreOwed m ask before.spent z x.kept) (sym resolution.1)
          ((searched.found.due (not_full free) (far wide) all some_turns).1 resolution.0 resolution.2 left);
      full = λ was. (searched.found.full was).0;
    }

-- ---- double oracle alone
more_each : (each turns states : ℕ) → turns < each * states → turns < (3 + each) * states
more_each each turns states less = omega (arith, less)

-- a state takes no more turns by double oracle than by any method
fewer_each : {S : Type 0} (m : GameModel S) (stages : StageMethod) (search : SearchMethod) (turns states : ℕ) → turns < oracle_turns m stages * states
    → turns < turns_each m stages search * states
fewer_each m stages Oracle turns states less = less
fewer_each m stages Induction turns states less = more_each (oracle_turns m stages) turns states less

-- what is found with all the turns that are asked is found by the method that is asked
pub found_game : {S : Type 0} (m : GameModel S) (ask : Ask) (may_stop : Bool) (x : Found) → IsFoundFor m ask (begun_whole may_stop) x
    → IsFoundGame m ask may_stop x
found_game m ask may_stop x found = record {
  one = found.game.one;
  two = found.game.two;
  resolution = found.game.resolution;
  resolution_high = found.game.resolution_high;
  workers = found.game.workers;
  within = found.game.within;
  at_once = found.game.at_once;
  full = found.game.full;
  spent = λ free wide.
      let rest = found.game.spent free wide in
      record { all = rest.all; too_few = λ all n has rows. let less = rest.too_few all n has rows in fewer_each m ask.stages ask.search ask.turns (n + m.rank m.root + 1) (omega (arith, less)) };
}
