-- A claim keeps the rule, and what it has learnt after so many tries.
use Rattle.std.proofs.Common.{◌≡◌, length, ◌≢◌, inl, inr, ⊎_elim, ℕ, zero, suc, ◌+◌, ◌%◌, ◌<◌, ◌≤◌, List, [], set, sym, refl, ap, ◌∙◌, subst, arith, Some, eqb}
use Rattle.std.proofs.Common.{mod-lt, length-set, get_or-set_other, get_or-set_same, ◌⊎◌, ◌∷◌}
use Rattle.std.proofs.lemmas.Bool.{cases_lt}
use mathlib.Core.Logic.{dite}
use native.Mathlib.Decide.{ℕ_discrete}
use mathlib.Core.Option.{some, none}
use lib.ListN.{get_elem?}
use prog.Atomic.{either}
use Rattle.atomic_table.specs.Table.{State, Me, step, Act, keeps, stepped, Allows, Valid, carried_after}
use Rattle.atomic_table.proofs.Lists.{exchanged, set_here}
use Rattle.sim_game.specs.declared.Side.{Side}
use Rattle.sim_game.specs.Model.{GameModel}
use Rattle.bounds_board.specs.Views.{IsInnerKey}
use Rattle.shared_board.specs.Words.{key_word, bound_word, row_after, key_in_row, bound_in_row, IsLooser}
use Rattle.shared_board.specs.Rule.{IsConsistent, IsConsistentView, IsRow, Has}
use Rattle.shared_board.specs.Plays.{knowing, claimed, looked, MayClaim, IsApart, more_keys, AllNamed, IsLearnt, IsAt}
use Rattle.shared_board.specs.declared.view.View.{View}
use Rattle.shared_board.proofs.RuleLemmas.{changes, fits_words, keeps_words}
use Rattle.shared_board.proofs.ListLemmas.{at_long}
use Rattle.shared_board.proofs.WordLemmas.{word_refl, key_not_bound}
use Rattle.bounds_board.proofs.PlainLemmas.{row_met}
use Rattle.atomic_table.specs.Seated.{TableId}

some_suc : (n : ℕ) → n ≢ 0 → (k : ℕ) × (n ≡ suc k)
some_suc zero h = absurd (h refl)
some_suc (suc k) h = (k, refl)

-- a row that is tried is one of the board
pub row_inside : (rows key tried row : ℕ) → row_after rows key tried ≡ row → tried < rows → row < rows
row_inside rows key tried row is l = subst (λ (z : ℕ). z < rows) is (mod-lt (key % rows + tried) (omega arith))

pub game_is : {G : Type 0} (a b : G) → Some a ≡ Some b → a ≡ b
game_is a b e = cc

module _ {S G : Type 0} (m : GameModel S) (g : G) (rows : ℕ) where
  -- a view that learns a key of a row
  learns : (words : List ℕ) (head issued id : ℕ) (v : View G) (i k : ℕ) → v.tickets ≢ [] → i < rows → key_in_row words i ≡ suc k → IsConsistentView m g rows words head issued id v
      → IsConsistentView m g rows words head issued id (knowing v i k)
  learns words head issued id v i k holder l e f = record {
    leads = f.leads;
    follows = f.follows;
    idle = λ z. absurd (holder z);
    same_game = f.same_game;
    shaped = f.shaped;
    knows = λ j n h. ⊎_elim (λ (is : (j, n) ≡ (i, k)). subst (λ (y : ℕ × ℕ). (y.0 < rows) × (key_in_row words y.0 ≡ suc y.1)) (sym is) (l, e))
        (λ (old : Has (j, n) v.keys). f.knows j n old) h;
    no_tighter = f.no_tighter;
    backed = λ j side x h. let b = f.backed j side x h in record { key = b.key; known = inr b.known; in_range = b.in_range; proved = b.proved; seen_too = b.seen_too };
  }

  module _ (s : State (Unit {0}) (View G)) (r : IsConsistent m g rows s) (v : View G) (id i k t : ℕ) (at : get_elem? s.views id ≡ some v) (may : MayClaim m rows v i k t) where
    inside : i < rows
    inside = row_inside rows k t i may.here may.inside

    abbrev mine : IsConsistentView m g rows s.words r.head r.issued id v
    mine = r.each_view id v at

    module _ (blank : key_in_row s.words i ≡ 0) where
      abbrev after : List ℕ
      after = set s.words (key_word i) (suc k)

      key_here : key_in_row after i ≡ suc k
      key_here = get_or-set_same s.words (key_word i) (suc k) 0 (let wide = r.wide in let l = inside in omega arith)

      key_else : (j : ℕ) → j ≢ i → key_in_row after j ≡ key_in_row s.words j
      key_else j n = get_or-set_other s.words (key_word i) (key_word j) (suc k) 0 (λ e. n (omega arith))

      bound_same : (side : Side) (j : ℕ) → bound_in_row after side j ≡ bound_in_row s.words side j
      bound_same side j = get_or-set_other s.words (key_word i) (bound_word side j) (suc k) 0 (key_not_bound side j i)

      -- no row had the key
      new_key : (j : ℕ) → j < rows → key_in_row s.words j ≢ suc k
      new_key j l e = let old = (r.each_row j l).reached k e in ⊎_elim
          (λ (lt : old.0 < t). let p = may.passed old.0 lt in p.2 (let was = (mine.knows (row_after rows k old.0) p.0 p.1).1 in
          let is : key_in_row s.words (row_after rows k old.0) ≡ suc k = ap (key_in_row s.words) old.2 ∙ e in omega arith))
          (λ (le : t ≤ old.0). ⊎_elim
          (λ (lt : t < old.0). old.3 t lt (ap (key_in_row s.words) may.here ∙ blank))
          (λ (ge : old.0 ≤ t). let same : old.0 ≡ t = omega arith in
          let is : i ≡ j = sym may.here ∙ (ap (row_after rows k) (sym same) ∙ old.2) in let none : key_in_row s.words j ≡ 0 = ap (key_in_row s.words) (sym is) ∙ blank in
          omega arith)
          (cases_lt t old.0))
          (cases_lt old.0 t)

      still : (j n : ℕ) → key_in_row s.words j ≡ suc n → key_in_row after j ≡ suc n
      still j n e = key_else j (λ is. let none : key_in_row s.words j ≡ 0 = ap (key_in_row s.words) is ∙ blank in omega arith) ∙ e

      others_fit : (j : ℕ) (u : View G) → IsConsistentView m g rows s.words r.head r.issued j u → IsConsistentView m g rows after r.head r.issued j u
      others_fit j u f = fits_words m g rows s.words after r.head r.issued r.head r.issued j u f.leads still
          (λ side q _. subst (IsLooser side (bound_in_row s.words side q)) (sym (bound_same side q)) (word_refl side (bound_in_row s.words side q))) f

      row_ok : (j : ℕ) → j < rows → IsRow {G = G} m g rows after j
      row_ok j l = let old = r.each_row j l in dite (ℕ_discrete j i)
          (λ (is : j ≡ i). let now : key_in_row after j ≡ suc k = ap (key_in_row after) is ∙ key_here in record {
            reached = λ n e. let same : n ≡ k = omega arith in (
              t,
              may.inside,
              ap (λ (z : ℕ). row_after rows z t) same ∙ (may.here ∙ sym is),
              λ u lt. let p = may.passed u lt in let known = mine.knows (row_after rows k u) p.0 p.1 in let q = still (row_after rows k u) p.0 known.1 in
                  let there : key_in_row after (row_after rows n u) ≡ suc p.0 = ap (λ (z : ℕ). key_in_row after (row_after rows z u)) same ∙ q in λ z. (omega arith),
            );
            named = λ n e. subst (IsInnerKey m) (omega arith) may.named;
            single = λ n q e lq eq. dite (ℕ_discrete q i) (λ (iq : q ≡ i). is ∙ sym iq) (λ (nq : q ≢ i). let w = key_else q nq in absurd (new_key q lq (omega arith)));
            free = λ e. absurd (omega arith);
          })
          (λ (ne : j ≢ i). let same = key_else j ne in record {
            reached = λ n e. let o = old.reached n (sym same ∙ e) in (
              o.0,
              o.1,
              o.2,
              λ u lt z. let p = some_suc (key_in_row s.words (row_after rows n u)) (o.3 u lt) in let now =
                  still (row_after rows n u) p.0 p.1 in omega arith,
            );
            named = λ n e. old.named n (sym same ∙ e);
            single = λ n q e lq eq. dite (ℕ_discrete q i) (λ (iq : q ≡ i). let there : key_in_row after q ≡ suc k = ap (key_in_row after) iq ∙ key_here in
                absurd (new_key j l (omega arith)))
                (λ (nq : q ≢ i). old.single n q (sym same ∙ e) lq (sym (key_else q nq) ∙ eq));
            free = λ e side. bound_same side j ∙ old.free (sym same ∙ e) side;
          })

      pub claims_free : IsConsistent m g rows record { words = after; homes = s.homes; views = set s.views id (knowing v i k) }
      claims_free = changes m g rows s r id v (knowing v i k) after at (length-set s.words (key_word i) (suc k))
          (get_or-set_other s.words (key_word i) 0 (suc k) 0 (λ e. omega arith))
          refl refl (λ x h. h) (λ p h. inr h) (learns after r.head r.issued id v i k may.holder inside key_here (others_fit id v mine)) others_fit row_ok
          (λ side j l. inl (bound_same side j))
          (λ j n l e. dite (ℕ_discrete j i) (λ (is : j ≡ i). let now : key_in_row after j ≡ suc k = ap (key_in_row after) is ∙ key_here in let same : n ≡ k = omega arith in
          inr (inl (λ c. (is c, same c)))) (λ (ne : j ≢ i). inl (sym (key_else j ne) ∙ e)))

    pub claims_found : (k' : ℕ) → key_in_row s.words i ≡ suc k'
        → IsConsistent m g rows record { words = set s.words (key_word i) (key_in_row s.words i); homes = s.homes; views = set s.views id (knowing v i k') }
    claims_found k' e = keeps_words m g rows s r id v (knowing v i k') (key_word i) at refl refl (λ x h. h) (λ p h. inr h)
        (learns s.words r.head r.issued id v i k' may.holder inside e mine)

    pub looks_free : IsConsistent m g rows record { words = set s.words (key_word i) (key_in_row s.words i); homes = s.homes; views = set s.views id v }
    looks_free = keeps_words m g rows s r id v v (key_word i) at refl refl (λ x h. h) (λ p h. h) mine

module _ {S G : Type 0} (m : GameModel S) (g : G) (rows : ℕ) where
  pub apart : (s : State (Unit {0}) (View G)) (r : IsConsistent m g rows s) (id : ℕ) (v : View G) → get_elem? s.views id ≡ some v → IsApart v.keys
  apart s r id v at = let f = r.each_view id v at in record {
    one_row = λ i j k a b. let x = f.knows i k a in let y = f.knows j k b in (r.each_row i x.0).single k j x.1 y.0 y.1;
    one_key = λ i k l a b. let x = (f.knows i k a).1 in let y = (f.knows i l b).1 in omega arith;
  }

  pub set_apart : (s : State (Unit {0}) (View G)) (words : List ℕ) (id : ℕ) (v w : View G) → get_elem? s.views id ≡ some v
      → IsConsistent m g rows record { words = words; homes = s.homes; views = set s.views id w } → IsApart w.keys
  set_apart s words id v w at r = apart record { words = words; homes = s.homes; views = set s.views id w } r id w (set_here s.views id w (at_long s.views id v at))

module _ {S G : Type 0} (model : G → GameModel S) (g : G) (rows : ℕ) where
  pub claims : (slots id : ℕ) (a : Me (Unit {0}) (View G)) (i k t : ℕ) → MayClaim (model g) rows a.0 i k t
      → Allows (IsConsistent (model g) g rows) slots id a (key_word i) (λ n. either (eqb n 0) (suc k) n) (claimed model (step slots (key_word i) 0 (suc k) none) a)
  claims slots id a i k t may s r deep at _ = let n : ℕ = key_in_row s.words i in let m = model g in let mine = r.each_view id a.0 at in
      let P : ℕ → Type 0 = λ x. (w : View G) × (act : Act (Unit {0})) × Valid s.homes a.1 act × IsConsistent m g rows (stepped s (key_word i) x id a.1 w act)
      × claimed model (step slots (key_word i) 0 (suc k) none) a n (w, carried_after a.1 act) in
      let tells : (key x : ℕ) → IsConsistent m g rows record { words = set s.words (key_word i) x; homes = s.homes; views = set s.views id (knowing a.0 i key) } → IsInnerKey m key
      → (n ≡ 0 → key ≡ k) → (n ≢ 0 → n ≡ suc key) → P x = λ key x now named is_new is_old. (
        knowing a.0 i key,
        keeps,
        tt,
        now,
        (
          refl,
          set_apart m g rows s (set s.words (key_word i) x) id a.0 (knowing a.0 i key) at now,
          λ j q e f. let row : i ≡ j = omega arith in let asked : k ≡ q = omega arith in
              record {
                key = key;
                known = λ c. knowing a.0 (row c) key;
                named =
                    λ h is. subst (λ (z : G). IsInnerKey (model z) key) (game_is g h (sym (mine.same_game may.holder) ∙ is)) named;
                is_new = λ none. is_new none ∙ asked;
                is_old =
                    is_old;
              },
        ),
      )
      in exchanged n 0 (suc k) P (λ (hit : n ≡ 0). tells k (suc k) (claims_free m g rows s r a.0 id i k t at may hit) may.named (λ _. refl) (λ other. absurd (other hit)))
      (λ (miss : n ≢ 0). let p = some_suc n miss in
      tells p.0 n (claims_found m g rows s r a.0 id i k t at may p.0 p.1) ((r.each_row i (row_inside rows k t i may.here may.inside)).named p.0 p.1) (λ none. absurd (miss none))
      (λ _. p.1))

  pub looks : (slots id : ℕ) (a : Me (Unit {0}) (View G)) (i k t : ℕ) → MayClaim (model g) rows a.0 i k t
      → Allows (IsConsistent (model g) g rows) slots id a (key_word i) (λ n. n) (looked model (step slots (key_word i) 0 0 none) a)
  looks slots id a i k t may s r deep at _ = let n : ℕ = key_in_row s.words i in let m = model g in let mine = r.each_view id a.0 at in
      let tells : (w : View G) → IsConsistent m g rows record { words = set s.words (key_word i) n; homes = s.homes; views = set s.views id w } → (n ≡ 0 → w ≡ a.0)
      → (n ≢ 0 → (q : ℕ) → IsLearnt model a.0 w i q n)
      → (w : View G) × (act : Act (Unit {0})) × Valid s.homes a.1 act × IsConsistent m g rows (stepped s (key_word i) n id a.1 w act)
      × looked model (step slots (key_word i) 0 0 none) a n (w, carried_after a.1 act) = λ w now same more. (
        w,
        keeps,
        tt,
        now,
        (
          refl,
          set_apart m g rows s (set s.words (key_word i) n) id a.0 w at now,
          λ j e. let row : i ≡ j = omega arith in
              (same, λ held q. subst (λ (z : ℕ). IsLearnt model a.0 w z q n) row (more held q)),
        ),
      )
      in dite (ℕ_discrete n 0) (λ (free : n ≡ 0). tells a.0 (looks_free m g rows s r a.0 id i k t at may) (λ _. refl) (λ held. absurd (held free)))
      (λ (held : n ≢ 0). let p = some_suc n held in tells (knowing a.0 i p.0) (claims_found m g rows s r a.0 id i k t at may p.0 p.1) (λ none. absurd (held none)) (λ _ q. record {
        key = p.0;
        known = refl;
        named = λ h is. subst (λ (z : G). IsInnerKey (model z) p.0) (game_is g h (sym (mine.same_game may.holder) ∙ is))
            ((r.each_row i (row_inside rows k t i may.here may.inside)).named p.0 p.1);
        is_new = λ none. absurd (held none);
        is_old = λ _. p.1;
      }))

  pub looks_as : (slots id : ℕ) (a : Me (Unit {0}) (View G)) (i k t count : ℕ) → MayClaim (model g) rows a.0 i k t → count ≡ rows
      → Allows (IsConsistent (model g) g count) slots id a (key_word i) (λ n. n) (looked model (step slots (key_word i) 0 0 none) a)
  looks_as slots id a i k t count may e = subst (λ (z : ℕ). Allows (IsConsistent (model g) g z) slots id a (key_word i) (λ n. n)
      (looked model (step slots (key_word i) 0 0 none) a)) (sym e) (looks slots id a i k t may)

  -- the same for a word that is the key plus 1, and as many rows
  pub claims_as : (slots id : ℕ) (a : Me (Unit {0}) (View G)) (i k t count new : ℕ) → MayClaim (model g) rows a.0 i k t → count ≡ rows → new ≡ suc k
      → Allows (IsConsistent (model g) g count) slots id a (key_word i) (λ n. either (eqb n 0) new n) (claimed model (step slots (key_word i) 0 new none) a)
  claims_as slots id a i k t count new may e f =
      subst (λ (z : ℕ × ℕ). Allows (IsConsistent (model g) g z.0) slots id a (key_word i) (λ n. either (eqb n 0) z.1 n) (claimed model (step slots (key_word i) 0 z.1 none) a))
      (λ c. (sym e c, sym f c)) (claims slots id a i k t may)

module _ {S G : Type 0} (model : G → GameModel S) (rows key tried : ℕ) (old new : View G) where
  pub record SoFar : Type 0 where
    pub more : (ks : List (ℕ × ℕ)) × (new ≡ more_keys ks old) × (length ks ≤ tried)
    pub named : (g : G) → old.game ≡ Some g → AllNamed (model g) old.keys → AllNamed (model g) new.keys
    pub inside : ((i k : ℕ) → Has (i, k) old.keys → i < rows) → (i k : ℕ) → Has (i, k) new.keys → i < rows
    pub apart : 0 < tried → IsApart new.keys
    pub passed : (u : ℕ) → u < tried → (k : ℕ) × Has (row_after rows key u, k) new.keys × (k ≢ key)

module _ {S G : Type 0} (model : G → GameModel S) (rows key : ℕ) (old : View G) where
  -- the view learnt the key of one row more
  pub learnt : (tried n k : ℕ) (new next : View G) (i : ℕ) → SoFar model rows key tried old new → IsLearnt model new next i k n
      → ((ks : List (ℕ × ℕ)) × (next ≡ more_keys ks old) × (length ks ≤ tried + 1)) × ((g : G) → old.game ≡ Some g → AllNamed (model g) old.keys → AllNamed (model g) next.keys)
  learnt tried n k new next i so l = (
    ((i, l.key) ∷ so.more.0, l.known ∙ ap (λ (v : View G). knowing v i l.key) so.more.1, omega (arith, so.more.2)),
    λ g e all. subst (λ (v : View G). AllNamed (model g) v.keys) (sym l.known)
        (λ j q h. ⊎_elim (λ (here : (j, q) ≡ (i, l.key)). subst (λ (y : ℕ × ℕ). IsInnerKey (model g) y.1) (sym here) (l.named g (ap (λ (v : View G). v.game) so.more.1 ∙ e)))
        (λ (there : Has (j, q) new.keys). so.named g e all j q there) h),
  )

  pub keeps_inside : (tried n k : ℕ) (new next : View G) (i : ℕ) → SoFar model rows key tried old new → IsLearnt model new next i k n → i < rows
      → ((j q : ℕ) → Has (j, q) old.keys → j < rows) → (j q : ℕ) → Has (j, q) next.keys → j < rows
  keeps_inside tried n k new next i so l room all j q h = ⊎_elim (λ (here : (j, q) ≡ (i, l.key)). subst (λ (y : ℕ × ℕ). y.0 < rows) (sym here) room)
      (λ (there : Has (j, q) new.keys). so.inside all j q there) (subst (λ (v : View G). Has (j, q) v.keys) l.known h)

  pub goes_on : (tried n i : ℕ) (new next : View G) → SoFar model rows key tried old new → i ≡ row_after rows key tried → IsLearnt model new next i key n → IsApart next.keys
      → i < rows → n ≢ 0 → n ≢ suc key
      → SoFar model rows key (tried + 1) old next
  goes_on tried n i new next so at l single room full other = let t = learnt tried n key new next i so l in let is = l.is_old full in record {
    more = t.0;
    named = t.1;
    inside = keeps_inside tried n key new next i so l room;
    apart = λ _. single;
    passed = λ u h. subst (λ (v : View G). (k : ℕ) × Has (row_after rows key u, k) v.keys × (k ≢ key)) (sym l.known)
        (⊎_elim (λ (lt : u < tried). let p = so.passed u lt in (p.0, inr p.1, p.2))
        (λ (ge : tried ≤ u). let same : u ≡ tried = omega arith in let here : row_after rows key u ≡ i = ap (row_after rows key) same ∙ sym at in
        (l.key, inl (λ c. (here c, l.key)), λ e. other (is ∙ ap suc e))) (cases_lt u tried));
  }

  -- the row that was found
  pub found_row : (n : ℕ) (new next : View G) (i : ℕ) → IsLearnt model new next i key n → (n ≡ 0) ⊎ (n ≡ suc key) → Has (i, key) next.keys
  found_row n new next i l hit = let is : l.key ≡ key = ⊎_elim (λ (z : n ≡ 0). l.is_new z) (λ (e : n ≡ suc key). let old = l.is_old (λ z. omega arith) in omega arith) hit in
      subst (λ (v : View G). Has (i, key) v.keys) (sym l.known) (inl (λ c. (i, sym is c)))

  pub all_met : (new : View G) → SoFar model rows key rows old new → (i : ℕ) → i < rows → (k : ℕ) × Has (i, k) new.keys × (k ≢ key)
  all_met new so i l = let u = row_met rows key i l in subst (λ (z : ℕ). (k : ℕ) × Has (z, k) new.keys × (k ≢ key)) u.2 (so.passed u.0 u.1)

  pub may_claim : (tried : ℕ) (new : View G) (g : G) → SoFar model rows key tried old new → new.tickets ≢ [] → IsInnerKey (model g) key → tried < rows
      → MayClaim (model g) rows new (row_after rows key tried) key tried
  may_claim tried new g so holder named l = record { holder = holder; named = named; inside = l; here = refl; passed = so.passed }

  -- the seat after a step that told what it learnt
  pub still_at : (z t : TableId) (a b : Me (Unit {0}) (View G)) (i k n : ℕ) → IsAt z t a → b.1 ≡ a.1 → IsLearnt model a.0 b.0 i k n → (b.0.tickets ≢ []) × (b.1 ≡ [])
  still_at z t a b i k n at slots l = ((λ e. at.1 (sym (ap (λ (v : View G). v.tickets) l.known) ∙ e)), slots ∙ at.2)
