-- What the rows of the closed board show.
use Rattle.std.proofs.Common.{◌≡◌, ◌≢◌, ⊎_elim, inl, inr, ℕ, suc, ◌+◌, ◌*◌, ◌<◌, ◌≤◌, ℤ, pos, ◌+ℤ◌, ◌-ℤ◌, ◌*ℤ◌, ◌≤ℤ◌, Bool, true, cond, Some, List, [], ◌∷◌, length, get_or, slice_index, All, Contains, refl, sym, ap, subst, ◌∙◌, arith}
use Rattle.std.specs.List.{AllByRecursion}
use Rattle.std.proofs.lemmas.Int.{ints}
use Rattle.std.proofs.lemmas.List.Elements.{All-weaker, All-contains, All-from_recursion, recursion_from_All, at_from_Contains}
use Rattle.sums.proofs.IntegerLemmas.{times_mono}
use Rattle.sim_game.specs.declared.Side.{Side}
use Rattle.sim_game.specs.declared.Side.TheVariants.{One, Two}
use Rattle.sim_game.specs.Model.{GameModel, IsGame}
use Rattle.sim_game.specs.Sides.{IsNoTighter, better, state_bound}
use Rattle.sim_game.specs.Resolution.{IsResolution}
use Rattle.sim_game.proofs.SideLemmas.{looser_trans, better_left}
use Rattle.plan_book.specs.Entries.{IsPureEntry}
use Rattle.plan_book.specs.declared.Entry.{Entry}
use Rattle.plan_book.specs.Books.{IsClosed, IsBooked, best_posted, book_bound}
use Rattle.plan_book.proofs.BookLemmas.{best_backed, best_range}
use Rattle.plan_book.proofs.ExpectedLemmas.{is_other}
use Rattle.bounds_board.specs.Views.{IsEnclosure}
use Rattle.bounds_board.proofs.KnownLemmas.{better_more}
use Rattle.matrix_game.specs.Budget.{Budget}
use Rattle.shared_board.specs.Rule.{Has}
use Rattle.shared_board.specs.Passes.{seen_by}
use Rattle.shared_board.specs.Closing.{AreKeptRows, IsKeptRow, IsDistinct, HasKey, kept_bound}
use Rattle.shared_board.specs.declared.view.View.{View}
use Rattle.shared_board.specs.declared.close.Kept.{Kept}
use Rattle.oracle_search.specs.Finished.{AreApart}
use Rattle.fields.specs.declared.ask.Ask.{Ask}
use Rattle.lazy_workers.specs.declared.budgets.Begun.{Begun}
use Rattle.lazy_workers.specs.Keeping.{AreAmong, IsKeptState, known_gap, IsFinishedRow, AreOwed, AreRows}
use Rattle.lazy_workers.specs.Searched.{HasKeysIn, IsOwed, IsRooted, IsSearched}
use Rattle.lazy_workers.specs.Workers.{rows_of, KnowsEach, known_of, IsMetKey, IsFinishedKey, AreKeysOf, AreOwedTo, IsDueTo, HasView}
use Rattle.lazy_workers.proofs.JoinLemmas.{found_later}

nothing_kept : Kept
nothing_kept = record { key = 0; lower = pos 0; upper = pos 0 }

-- no key stands twice
abbrev pub Apart : List ℕ → Type 0
Apart [] = Unit {0}
Apart (k ∷ ks) = ((x : ℕ) → Has x ks → k ≢ x) × Apart ks

has_at : (ks : List ℕ) (x : ℕ) → Has x ks → (i : ℕ) × (i < length ks) × (slice_index ks i ≡ x)
has_at [] x h = absurd h
has_at (k ∷ ks) x h = ⊎_elim
    (λ (e : x ≡ k). (0, omega arith, sym e))
    (λ (t : Has x ks). let it = has_at ks x t in (suc it.0, omega (arith, it.1), it.2))
    h

apart_by_recursion : (ks : List ℕ) → AreApart ks → Apart ks
apart_by_recursion [] apart = tt
apart_by_recursion (k ∷ ks) apart = (
  λ x h e. let it = has_at ks x h in apart 0 (suc it.0) (omega arith) (omega (arith, it.1)) (e ∙ sym it.2),
  apart_by_recursion ks (λ i j l h. apart (suc i) (suc j) (omega arith) (omega arith)),
)

module _ {S G : Type 0} (m : GameModel S) (game : IsGame m) (ask : Ask) (before : Begun) (v : View G) (entries : List Entry) (kept : List Kept)
    (is : AreKeptRows m ask.rows v entries kept) (closed : IsClosed m ask.weight entries) where
  -- each entry's key has a row
  pub kept_keys : HasKeysIn ask.rows entries
  kept_keys = record {
    key_at = λ row. Some (get_or kept row nothing_kept).key;
    held = All-weaker (λ (e : Entry). HasKey kept e.key) (λ e. (row : ℕ) × (row < ask.rows) × (Some (get_or kept row nothing_kept).key ≡ Some e.key))
        (λ e h.
        let it = at_from_Contains kept h.row h.is_kept in
        let few = is.few in
        let inside = it.1 in
        let same : get_or kept it.0 nothing_kept ≡ h.row = it.2 nothing_kept in
        (it.0, omega arith, ap Some (ap (λ (k : Kept). k.key) same ∙ h.is_key)))
        entries is.entered;
  }

  -- the bounds of each row are the best of the book, which are backed
  kept_state : (x : Kept) → IsKeptRow m entries x → IsKeptState m x
  kept_state x row =
      let s = row.named.state in
      let at : (side : Side) → kept_bound side x ≡ best_posted m entries side (m.key s) = λ side. row.best side ∙ ap (best_posted m entries side) (sym row.named.is_key) in
      let best : IsEnclosure m (best_posted m entries One (m.key s)) (best_posted m entries Two (m.key s)) s = record {
        lower_backed = best_backed m ask.weight (IsBooked m entries) entries One s game row.named.reachable closed;
        upper_backed = best_backed m ask.weight (IsBooked m entries) entries Two s game row.named.reachable closed;
        lower_low = best_range m ask.weight (IsBooked m entries) entries One One (m.key s) game closed;
        lower_high = best_range m ask.weight (IsBooked m entries) entries One Two (m.key s) game closed;
        upper_low = best_range m ask.weight (IsBooked m entries) entries Two One (m.key s) game closed;
        upper_high = best_range m ask.weight (IsBooked m entries) entries Two Two (m.key s) game closed;
      } in
      record {
        named = row.named;
        bounds =
            subst (λ (z : ℤ). IsEnclosure m z x.upper s) (sym (at One)) (subst (λ (z : ℤ). IsEnclosure m (best_posted m entries One (m.key s)) z s) (sym (at Two)) best);
      }

  rows_kept : 1 ≤ m.rank m.root → AreRows m ask.rows kept
  rows_kept goes_on = record { none = λ end. absurd (omega arith); few = is.few; distinct = is.distinct; each = All-weaker (IsKeptRow m entries) (IsKeptState m) kept_state kept is.each }

  -- ---- the rows of keys that were met
  module _ (Kind : ℕ → Type 0) (met_of : (key : ℕ) → Kind key → IsMetKey m (rows_of v) key) where
    row_of : (key : ℕ) → Kind key → HasKey kept key
    row_of key f = let met = met_of key f in is.known met.row key met.has_row

    abbrev rows : (keys : List ℕ) → AllByRecursion Kind keys → List Kept
    rows [] each = []
    rows (key ∷ keys) each = (row_of key each.0).row ∷ rows keys each.1

    rows_count : (keys : List ℕ) (each : AllByRecursion Kind keys) → length (rows keys each) ≡ length keys
    rows_count [] each = refl
    rows_count (key ∷ keys) each = ap suc (rows_count keys each.1)

    rows_all : (P : Kept → Type 0) → ((key : ℕ) (f : Kind key) → P (row_of key f).row) → (keys : List ℕ) (each : AllByRecursion Kind keys) → AllByRecursion P (rows keys each)
    rows_all P here [] each = tt
    rows_all P here (key ∷ keys) each = (here key each.0, rows_all P here keys each.1)

    rows_keys : (keys : List ℕ) (each : AllByRecursion Kind keys) (x : Kept) → Has x (rows keys each) → Has x.key keys
    rows_keys [] each x h = h
    rows_keys (key ∷ keys) each x h = ⊎_elim
        (λ (e : x ≡ (row_of key each.0).row). inl (ap (λ (k : Kept). k.key) e ∙ (row_of key each.0).is_key))
        (λ (t : Has x (rows keys each.1)). inr (rows_keys keys each.1 x t))
        h

    rows_distinct : (keys : List ℕ) (each : AllByRecursion Kind keys) → Apart keys → IsDistinct (rows keys each)
    rows_distinct [] each apart = tt
    rows_distinct (key ∷ keys) each apart = (
      λ y h e. apart.0 y.key (rows_keys keys each.1 y h) (sym (row_of key each.0).is_key ∙ e),
      rows_distinct keys each.1 apart.1,
    )

    -- each key has a row of its own
    own_rows : (P : Kept → Type 0) → ((key : ℕ) (f : Kind key) → P (row_of key f).row) → (keys : List ℕ) → AreKeysOf Kind keys
        → (some : List Kept) × AreAmong kept some × All P some × (length some ≡ length keys)
    own_rows P here keys are =
        let each = recursion_from_All Kind keys are.each in
        let list = rows keys each in (
          list,
          record {
            among = All-from_recursion (Contains kept) list (rows_all (Contains kept) (λ key f. (row_of key f).is_kept) keys each);
            distinct = rows_distinct keys each (apart_by_recursion keys are.apart);
          },
          All-from_recursion P list (rows_all P here keys each),
          rows_count keys each,
        )

  -- ---- the rows of finished states
  module _ (n : ℕ) (resolution : IsResolution m ask.weight n) where
    abbrev Finished : ℕ → Type 0
    Finished key = IsFinishedKey m ask (seen_by m v) (rows_of v) key

    finished_row : (key : ℕ) (f : Finished key) → IsFinishedRow m (pos n) (row_of Finished (λ key f. f.met) key f).row
    finished_row key f =
        let here = row_of Finished (λ key f. f.met) key f in
        let named = f.met.named in
        let row : IsKeptRow m entries here.row = All-contains (IsKeptRow m entries) kept here.row is.each here.is_kept in
        let s = named.state in
        let best : (side : Side) → IsNoTighter side (known_of m (seen_by m v) s side) (better side (kept_bound side here.row) (state_bound m side s)) = λ side.
        better_more side _ _ (state_bound m side s) (subst (IsNoTighter side (seen_by m v side (m.key s)))
        (sym (row.best side ∙ ap (best_posted m entries side) (here.is_key ∙ sym named.is_key))) (is.no_looser side (m.key s))) in
        record {
          named = record { state = s; reachable = named.reachable; goes_on = named.goes_on; is_key = named.is_key ∙ sym here.is_key };
          close = share (m.rank m.root) (m.rank s) (resolution.gap + 1 + cond m.chance_free 0 1) n (known_gap m here.row s) resolution.sums
              (apart _ _ _ _ _ (best One) (best Two) (f.close resolution.gap resolution.is_gap));
        } where
          apart : (a b c d : ℤ) (gap : ℕ) → a ≤ℤ b → d ≤ℤ c → c ≤ℤ (a +ℤ pos gap) → (d -ℤ b) ≤ℤ pos gap
          apart a b c d gap low high near = omega (arith, ints)

          share : (root rank each n : ℕ) (gap : ℤ) → n ≡ root * each → gap ≤ℤ pos (rank * each) → (pos root *ℤ gap) ≤ℤ (pos rank *ℤ pos n)
          share root rank each n gap is near =
              let times : root * (rank * each) ≡ rank * n = rw is (omega arith) in
              subst (λ (k : ℕ). (pos root *ℤ gap) ≤ℤ pos k) times (times_mono root gap (pos (rank * each)) near)

    owed_rows : AreOwedTo m ask before (seen_by m v) (rows_of v) → AreOwed m ask before.spent (pos n) kept
    owed_rows owed =
        let met = own_rows (IsMetKey m (rows_of v)) (λ key f. f) (Contains kept) (λ key f. (row_of (IsMetKey m (rows_of v)) (λ key f. f) key f).is_kept) owed.met owed.are_met in
        let finished = own_rows Finished (λ key f. f.met) (IsFinishedRow m (pos n)) finished_row owed.finished owed.are_finished in
        record {
          met = met.0;
          are_met = met.1;
          finished = finished.0;
          are_finished = finished.1;
          each = finished.2;
          few = rw (met.3, finished.3) owed.few;
        }

  -- a board on which a row is left is none of which each row's key is known
  rows_left : IsDueTo m ask before (seen_by m v) (rows_of v) → IsOwed m ask before.spent kept
  rows_left due n resolution left = ⊎_elim
      (λ (each : KnowsEach ask.rows (rows_of v)). let all = is.full each in absurd (omega arith))
      (λ (owed : AreOwedTo m ask before (seen_by m v) (rows_of v)). owed_rows n resolution owed)
      due

  -- of a root that is no end, the bound of the book is the best posted at its key, or that of every value of it where that is better
  module _ (goes_on : 1 ≤ m.rank m.root) where
    root_posted : (side : Side) → book_bound m entries side m.root ≡ better side (best_posted m entries side (m.key m.root)) (state_bound m side m.root)
    root_posted side = let on = is_other (m.rank m.root) 0 (λ e. absurd (omega arith)) in rw on refl

    -- it is no looser than what the pass has seen
    pub root_tighter : (side : Side) → IsNoTighter side (seen_by m v side (m.key m.root)) (book_bound m entries side m.root)
    root_tighter side = subst (IsNoTighter side (seen_by m v side (m.key m.root))) (sym (root_posted side))
        (looser_trans side _ _ _ (is.no_looser side (m.key m.root)) (better_left side _ (state_bound m side m.root)))

    -- and than what the pass knows
    root_known : (side : Side) → IsNoTighter side (known_of m (seen_by m v) m.root side) (book_bound m entries side m.root)
    root_known side = subst (IsNoTighter side (known_of m (seen_by m v) m.root side)) (sym (root_posted side))
        (better_more side _ _ (state_bound m side m.root) (is.no_looser side (m.key m.root)))

    pub joined_searched : (turns : List Budget) (was_full : Bool) → HasView m ask before v (was_full ≡ true) turns → length turns ≡ ask.workers
        → (All (λ t. t.spent ≡ 0) turns → All (IsPureEntry m ask.weight) entries) → IsSearched m ask before entries kept turns was_full
    joined_searched turns was_full j count alone = record {
      closed = closed;
      held = kept_keys;
      rows = rows_kept goes_on;
      entered = is.entered;
      best = is.each;
      workers = count;
      found = found_later m ask before (known_of m (seen_by m v) m.root) (λ side. book_bound m entries side m.root) (KnowsEach ask.rows (rows_of v))
          (length kept ≡ ask.rows) (IsDueTo m ask before (seen_by m v) (rows_of v)) (IsOwed m ask before.spent kept)
          ((row : ℕ) × rows_of v row (m.key m.root)) (IsRooted m kept) (was_full ≡ true) turns root_known is.full rows_left (λ it _. is.known it.0 (m.key m.root) it.1) j;
      alone = alone;
    }
