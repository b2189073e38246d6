-- What the walk through the states that the rows of a sheet reach has found, after each of its steps.
use Rattle.std.proofs.Common.{◌≡◌, ℕ, false, zero, suc, ◌+◌, ◌<◌, ◌≤◌, Option, None, Some, List, [], ◌∷◌, length, All, get_or, slice_get, slice_set, inl, inr, refl, sym, ap, subst, ◌∙◌, arith}
use Rattle.std.proofs.lemmas.Bool.{cases_eq, cases_lt}
use Rattle.std.proofs.lemmas.List.{get_or_past, get_or-set_same, get_or-set_other, length-set}
use Rattle.std.proofs.lemmas.List.Elements.{All-get_or}
use Rattle.std.specs.List.Sorted.{IsStrictlyIncreasing}
use Rattle.std.specs.Option.{IsSome}
use Rattle.std.specs.Prelude.{IsSomeAnd, is_some}
use Rattle.sim_game.specs.Model.{GameModel, IsGame, Turn, after_turn, after_history}
use Rattle.sim_game.specs.Sides.{own_move}
use Rattle.plan_book.specs.declared.Sheet.{Sheet}
use Rattle.plan_book.specs.declared.SheetRow.{SheetRow}
use Rattle.plan_book.specs.Children.{children_of}
use Rattle.plan_book.specs.Sheets.{row_at, IsKeptTurn, IsKeptHistory, IsReached}
use Rattle.plan_book.proofs.BestLemmas.{reached_root, reached_turn}
use Rattle.plan_book.proofs.ExpectedLemmas.{is_same, is_other}
use Rattle.plan_book.proofs.GatherLemmas.{child_place, item_at}
use Rattle.plan_book.proofs.SheetLemmas.{reached_reachable}
use Rattle.plan_book.proofs.LookupLemmas.{row_keys, keys_length, key_of, rises, row_found}
use Rattle.plan_book.proofs.WalkLemmas.{item_below, turn_parts, reply_move}
use Rattle.checker.specs.Found.{key_of_row, state_at, AreStates, IsMarked, IsStateFollowed, IsFollowedAt, FindsMore, IsWalked, AreReached, IsStateOf}

-- ---- rows by place
read : (rows : List SheetRow) (place : ℕ) → place < length rows → (r : SheetRow) × (slice_get rows place ≡ Some r) × (key_of_row rows place ≡ r.key)
read [] place p = absurd (omega arith)
read (r ∷ rows) zero p = (r, refl, refl)
read (r ∷ rows) (suc place) p = read rows place (omega arith)

row_key : (rows : List SheetRow) (key : ℕ) (r : SheetRow) → row_at rows key ≡ Some r → r.key ≡ key
row_key [] key r e = absurd (cc)
row_key (x ∷ rows) key r e = elim (cases_eq x.key key) [
  | inl same ↦
      let here : Some x ≡ Some r = rw (is_same x.key key same) at e in
      let it : x ≡ r = cc in
      subst (λ (y : SheetRow). y.key ≡ key) it same
  | inr other ↦ row_key rows key r (rw (is_other x.key key other) at e)
]

-- a search has found the place of the key
pub keyed : (rows : List SheetRow) (key place : ℕ) → place < length rows → row_at rows key ≡ slice_get rows place → key_of_row rows place ≡ key
keyed rows key place p e = let it = read rows place p in it.2 ∙ row_key rows key it.0 (e ∙ it.1)

module _ (rows : List SheetRow) (rising : IsStrictlyIncreasing (row_keys rows)) where
  same_place : (i j : ℕ) → i < length rows → j < length rows → key_of_row rows i ≡ key_of_row rows j → i ≡ j
  same_place i j p q e = elim (cases_lt i j) [
    | inl h ↦ let r = rises (row_keys rows) rising i j h (rw (keys_length rows) q) in absurd (omega (arith, r, e))
    | inr h ↦ elim (cases_lt j i) [
      | inl g ↦ let r = rises (row_keys rows) rising j i g (rw (keys_length rows) p) in absurd (omega (arith, r, e))
      | inr g ↦ omega arith
    ]
  ]

  -- no row has the key
  pub unmarked : {S : Type 0} (found : List (Option S)) (key : ℕ) → row_at rows key ≡ None → IsMarked rows found key
  unmarked found key none = λ place p e.
      let it = read rows place p in
      let row = row_found rows rising key place p e in
      absurd (let x = it.1 in cc)

  -- a state is found at the place of the key
  pub marked_at : {S : Type 0} (found : List (Option S)) (key place : ℕ) → place < length rows → key_of_row rows place ≡ key → IsSome (state_at found place) → IsMarked rows found key
  marked_at found key place p e some = λ j q e'. subst (λ (i : ℕ). IsSome (state_at found i)) (same_place place j p q (e ∙ sym e')) some

  -- a row whose place is known is the row of its key
  pub row_here : (key place : ℕ) (r : SheetRow) → place < length rows → r ≡ get_or rows place r → key_of_row rows place ≡ key → row_at rows key ≡ Some r
  row_here key place r p is e = row_found rows rising key place p e ∙ item_at rows place r p is

pub weights_of : (slice : List SheetRow) (place : ℕ) (row : SheetRow) (weights : List ℕ) → row ≡ get_or slice place row → weights ≡ (get_or slice place row).weights → weights ≡ row.weights
weights_of slice place row weights is same = same ∙ ap (λ (x : SheetRow). x.weights) (sym is)

-- ---- states by place
same_item : {X : Type 0} (xs : List X) (k : ℕ) (d e : X) → k < length xs → get_or xs k d ≡ get_or xs k e
same_item [] k d e h = absurd (omega arith)
same_item (x ∷ xs) zero d e h = refl
same_item (x ∷ xs) (suc k) d e h = same_item xs k d e (omega arith)

-- what is read at a place
pub state_read : {S : Type 0} (found : List (Option S)) (place : ℕ) (o : Option S) → place < length found → o ≡ get_or found place o → state_at found place ≡ o
state_read found place o p is = same_item found place None o p ∙ sym is

some_from : {S : Type 0} (o : Option S) → IsSome o → (s : S) × (o ≡ Some s)
some_from None h = absurd (cc)
some_from (Some s) h = (s, refl)

is_some_of : {S : Type 0} (o : Option S) (s : S) → o ≡ Some s → IsSome o
is_some_of o s e = rw e refl

one_value : {S : Type 0} (o : Option S) (s t : S) → o ≡ Some s → o ≡ Some t → s ≡ t
one_value o s t e e' = cc

no_value : {S : Type 0} (o : Option S) (s : S) → o ≡ None → o ≡ Some s → ⊥
no_value o s e e' = absurd (cc)

pub none_from : {S : Type 0} (o : Option S) → is_some o ≡ false → o ≡ None
none_from None h = refl
none_from (Some s) h = absurd (cc)

nowhere : {S : Type 0} (found : List (Option S)) → All (λ o. o ≡ None) found → (place : ℕ) → state_at found place ≡ None
nowhere found none place = elim (cases_lt place (length found)) [ inl p ↦ All-get_or (λ o. o ≡ None) found place None p none | inr p ↦ get_or_past found place None p ]

module _ {S : Type 0} (m : GameModel S) (sheet : Sheet) where
  abbrev Reached : S → Type 0
  Reached s = IsReached m sheet.side (row_at sheet.rows) s

  pub no_states : (found : List (Option S)) → length found ≡ length sheet.rows → All (λ o. o ≡ None) found → AreStates m sheet found
  no_states found len none = record {
    one_each = len;
    reached = λ place s e. absurd (no_value (state_at found place) s (nowhere found none place) e);
    is_key = λ place s e. absurd (no_value (state_at found place) s (nowhere found none place) e);
  }

  pub later_then : (before now after : List (Option S)) → FindsMore m sheet before now → FindsMore m sheet now after → FindsMore m sheet before after
  later_then before now after old new = record { states = new.states; kept = λ place s e. new.kept place s (old.kept place s e) }

  module _ (before after : List (Option S)) (later : FindsMore m sheet before after) where
    pub marked_later : (key : ℕ) → IsMarked sheet.rows before key → IsMarked sheet.rows after key
    marked_later key marked = λ place p e. let it = some_from (state_at before place) (marked place p e) in is_some_of _ it.0 (later.kept place it.0 it.1)

    followed_later : (s : S) → IsStateFollowed m sheet before s → IsStateFollowed m sheet after s
    followed_later s followed = λ t turn. marked_later _ (followed t turn)

    -- one more item
    pub done_more : (items : List S) (number : ℕ) (child : S) → number < length items → child ≡ get_or items number child
        → ((k : ℕ) (d : S) → k < number → IsMarked sheet.rows before (m.key (get_or items k d)))
        → IsMarked sheet.rows after (m.key child) → (k : ℕ) (d : S) → k < number + 1 → IsMarked sheet.rows after (m.key (get_or items k d))
    done_more items number child h is done marked k d u = elim (cases_lt k number) [
      | inl earlier ↦ marked_later _ (done k d earlier)
      | inr last ↦
          let same : k ≡ number = omega arith in
          let it : get_or items k d ≡ child = ap (λ (n : ℕ). get_or items n d) same ∙ same_item items number d child h ∙ sym is in
          subst (λ (x : S). IsMarked sheet.rows after (m.key x)) (sym it) marked
    ]

    -- one more place
    pub here_more : (first : List (Option S)) (rank place : ℕ) → FindsMore m sheet first before
        → ((j : ℕ) → j < place → IsFollowedAt m sheet first before rank j) → IsFollowedAt m sheet before after rank place
        → (j : ℕ) → j < place + 1 → IsFollowedAt m sheet first after rank j
    here_more first rank place old all here j h = elim (cases_lt j place) [
      | inl earlier ↦ λ s e same. followed_later s (all j earlier s e same)
      | inr last ↦ λ s e same. here s (subst (λ (i : ℕ). state_at before i ≡ Some s) (omega arith) (old.kept j s e)) same
    ]

  -- ---- one more state
  module _ (found : List (Option S)) (states : AreStates m sheet found) (place : ℕ) (s : S) (p : place < length sheet.rows) (key : key_of_row sheet.rows place ≡ m.key s) where
    p' : place < length found
    p' = rw states.one_each p

    put : (P : ℕ → S → Type 0) → P place s → ((j : ℕ) (t : S) → state_at found j ≡ Some t → P j t) → (j : ℕ) (t : S) → state_at (slice_set found place (Some s)) j ≡ Some t → P j t
    put P here there j t e = elim (cases_eq j place) [
      | inl same ↦
          let value : state_at (slice_set found place (Some s)) j ≡ Some s = rw same (get_or-set_same found place (Some s) None p') in
          rw same (subst (P place) (one_value (state_at (slice_set found place (Some s)) j) s t value e) here)
      | inr other ↦ there j t (sym (get_or-set_other found place j (Some s) None other) ∙ e)
    ]

    pub later_more : Reached s → state_at found place ≡ None → FindsMore m sheet found (slice_set found place (Some s))
    later_more reached empty = record {
      states = record {
        one_each = length-set found place (Some s) ∙ states.one_each;
        reached = put (λ j t. Reached t) reached states.reached;
        is_key = put (λ j t. m.key t ≡ key_of_row sheet.rows j) (sym key) states.is_key;
      };
      kept = λ j t e. elim (cases_eq j place) [
        | inl same ↦ absurd (no_value (state_at found place) t empty (subst (λ (i : ℕ). state_at found i ≡ Some t) same e))
        | inr other ↦ get_or-set_other found place j (Some s) None other ∙ e
      ];
    }

    pub marked_here : IsStrictlyIncreasing (row_keys sheet.rows) → IsMarked sheet.rows (slice_set found place (Some s)) (m.key s)
    marked_here rising = marked_at sheet.rows rising (slice_set found place (Some s)) (m.key s) place p key (is_some_of _ s (get_or-set_same found place (Some s) None p'))

  -- ---- the children of a state
  module _ (game : IsGame m) (s : S) (row : SheetRow) (r : Reached s) (is : row_at sheet.rows (m.key s) ≡ Some row) (items : List S) (e : items ≡ children_of m sheet.side row.weights s) where
    pub child_reached : (k : ℕ) (child : S) → k < length items → child ≡ get_or items k child → Reached child
    child_reached k child h it = (item_below m game sheet.side (row_at sheet.rows) s row.weights row k child r is refl (rw (← e) h) (rw (← e) it)).reached

    pub all_followed : (found : List (Option S)) → ((k : ℕ) (d : S) → k < length items → IsMarked sheet.rows found (m.key (get_or items k d))) → IsStateFollowed m sheet found s
    all_followed found done = λ t turn.
        let parts = turn_parts m sheet.side s t turn.turn in
        let played : 1 ≤ get_or row.weights (own_move sheet.side t) 0 = subst (λ (o : Option SheetRow). IsSomeAnd o (λ x. 1 ≤ get_or x.weights (own_move sheet.side t) 0)) is turn.played in
        let child = child_place m sheet.side row.weights s (own_move sheet.side t) (reply_move sheet.side t) t.draw parts.own_below parts.reply_below parts.draw_below played in
        let it : get_or items child.0 s ≡ after_turn m s t = rw e (child.2 s ∙ sym parts.is) in
        subst (λ (x : S). IsMarked sheet.rows found (m.key x)) it (done child.0 s (rw e child.1))

  -- the state at the place is this one, or has another rank
  pub followed_one : (before after : List (Option S)) (rank place : ℕ) (s : S) → state_at before place ≡ Some s
      → (m.rank s ≡ rank → IsStateFollowed m sheet after s) → IsFollowedAt m sheet before after rank place
  followed_one before after rank place s at followed = λ t e same. let it = one_value (state_at before place) s t at e in subst (IsStateFollowed m sheet after) it (followed (ap m.rank it ∙ same))

  pub followed_none : (before after : List (Option S)) (rank place : ℕ) → state_at before place ≡ None → IsFollowedAt m sheet before after rank place
  followed_none before after rank place none = λ s e same. absurd (no_value (state_at before place) s none e)

  -- ---- the whole walk
  has_place : (rows : List SheetRow) (key : ℕ) (P : SheetRow → Type 0) → IsSomeAnd (row_at rows key) P → (place : ℕ) × (place < length rows) × (key_of_row rows place ≡ key)
  has_place [] key P h = absurd h
  has_place (r ∷ rows) key P h = elim (cases_eq r.key key) [
    | inl same ↦ (0, omega arith, same)
    | inr other ↦ let rest = has_place rows key P (rw (is_other r.key key other) at h) in (suc rest.0, omega (arith, rest.1), rest.2)
  ]

  module _ (game : IsGame m) where
    turn_falls : (s : S) (t : Turn) → Reached s → IsKeptTurn m sheet.side (row_at sheet.rows) s t → m.rank (after_turn m s t) < m.rank s
    turn_falls s t r turn = game.rank_falls s t (reached_reachable m sheet.side (row_at sheet.rows) s r) turn.turn

    falls : (s : S) (h : List Turn) → Reached s → IsKeptHistory m sheet.side (row_at sheet.rows) s h → m.rank (after_history m s h) ≤ m.rank s
    falls s [] r kept = omega arith
    falls s (t ∷ h) r kept = let rest = falls (after_turn m s t) h (reached_turn m sheet.side (row_at sheet.rows) s t r kept.0) kept.1 in
        let first = turn_falls s t r kept.0 in omega (arith, rest, first)

    -- no state is of a higher rank than the root
    pub root_walked : (found : List (Option S)) → AreStates m sheet found → IsMarked sheet.rows found (m.key m.root) → IsWalked m sheet found (m.rank m.root + 1)
    root_walked found states root = record {
      states = states;
      root = root;
      followed = λ s r high.
          let low : m.rank s ≤ m.rank m.root = subst (λ (x : S). m.rank x ≤ m.rank m.root) r.leads (falls m.root r.history (reached_root m sheet.side (row_at sheet.rows)) r.kept) in
          absurd (omega (arith, low, high));
    }

    -- the states of a rank are found once those of higher ranks are followed
    along : (found : List (Option S)) (rank : ℕ) → IsWalked m sheet found (rank + 1) → (s : S) (h : List Turn) → Reached s
        → IsMarked sheet.rows found (m.key s) → IsKeptHistory m sheet.side (row_at sheet.rows) s h
        → rank ≤ m.rank (after_history m s h) → IsMarked sheet.rows found (m.key (after_history m s h))
    along found rank walked s [] r marked kept low = marked
    along found rank walked s (t ∷ h) r marked kept low =
        let next = reached_turn m sheet.side (row_at sheet.rows) s t r kept.0 in
        let rest = falls (after_turn m s t) h next kept.1 in
        let first = turn_falls s t r kept.0 in
        along found rank walked (after_turn m s t) h next (walked.followed s r (omega (arith, low, rest, first)) t kept.0) kept.1 low

    marked_from : (found : List (Option S)) (rank : ℕ) → IsWalked m sheet found (rank + 1) → (s : S) → Reached s → rank ≤ m.rank s → IsMarked sheet.rows found (m.key s)
    marked_from found rank walked s r low =
        subst (λ (x : S). IsMarked sheet.rows found (m.key x)) r.leads
        (along found rank walked m.root r.history (reached_root m sheet.side (row_at sheet.rows)) walked.root r.kept (subst (λ (x : S). rank ≤ m.rank x) (sym r.leads) low))

    found_at : (found : List (Option S)) → AreStates m sheet found → (s : S) → Reached s → (place : ℕ) → key_of_row sheet.rows place ≡ m.key s
        → IsSome (state_at found place) → state_at found place ≡ Some s
    found_at found states s r place key some =
        let it = some_from (state_at found place) some in
        let there = reached_reachable m sheet.side (row_at sheet.rows) it.0 (states.reached place it.0 it.1) in
        it.1 ∙ ap Some (game.same_key it.0 s there (reached_reachable m sheet.side (row_at sheet.rows) s r) (states.is_key place it.0 it.1 ∙ key))

    -- one more rank
    pub rank_walked : (rank place : ℕ) (before now : List (Option S)) → IsWalked m sheet before (rank + 1) → FindsMore m sheet before now
        → length sheet.rows ≤ place → ((j : ℕ) → j < place → IsFollowedAt m sheet before now rank j)
        → IsWalked m sheet now rank
    rank_walked rank place before now walked later all here = record {
      states = later.states;
      root = marked_later before now later (m.key m.root) walked.root;
      followed = λ s r high. elim (cases_lt rank (m.rank s)) [
        | inl above ↦ followed_later before now later s (walked.followed s r (omega arith))
        | inr last ↦ λ t turn.
            let at = has_place sheet.rows (m.key s) _ turn.played in
            let it = found_at before walked.states s r at.0 at.2 (marked_from before rank walked s r high at.0 at.1 at.2) in
            let p = at.1 in
            here at.0 (omega (arith, p, all)) s it (omega arith) t turn
      ];
    }

    -- an end leads nowhere
    pub all_reached : (found : List (Option S)) → IsWalked m sheet found 1 → AreReached m sheet found
    all_reached found walked = record { states = walked.states; whole = λ s r. marked_from found 0 walked s r (omega arith) }

  -- what is found at a place is the state of its row's key
  key_state : (found : List (Option S)) (place key : ℕ) (o : Option S) → AreReached m sheet found → place < length sheet.rows
      → key_of_row sheet.rows place ≡ key → state_at found place ≡ o → IsStateOf m sheet key o
  key_state found place key None are p e is = λ s r same. let some = are.whole s r place p (e ∙ sym same) in absurd (let o = is in cc)
  key_state found place key (Some s) are p e is = (are.states.reached place s is, are.states.is_key place s is ∙ e)

  pub state_of : (found : List (Option S)) (place : ℕ) (row : SheetRow) (o : Option S) → AreReached m sheet found → place < length sheet.rows
      → row ≡ get_or sheet.rows place row → o ≡ get_or found place o → IsStateOf m sheet row.key o
  state_of found place row o are p is o_is =
      key_state found place row.key o are p (key_of sheet.rows place row p ∙ ap (λ (x : SheetRow). x.key) (sym is)) (state_read found place o (rw are.states.one_each p) o_is)
