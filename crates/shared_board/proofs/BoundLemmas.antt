-- Reads and posts keep the rule.
use Rattle.std.proofs.Common.{◌≡◌, ◌≢◌, ◌⊎◌, inl, inr, ⊎_elim, ℕ, suc, ◌+◌, ◌<◌, pos, ◌≤ℤ◌, neg_ℤ, List, [], ◌∷◌, length, set, sym, refl, ap, ◌∙◌, subst}
use Rattle.std.proofs.Common.{arith, Some, length-set, get_or-set_other, get_or-set_same}
use Rattle.std.proofs.lemmas.Int.{ints}
use mathlib.Core.Logic.{dite}
use native.Mathlib.Decide.{ℕ_discrete}
use mathlib.Core.Option.{some, none}
use lib.ListN.{get_elem?}
use Rattle.atomic_table.specs.Table.{State, Me, step, keeps, Allows}
use Rattle.sim_game.specs.declared.Side.{Side}
use Rattle.sim_game.specs.declared.Side.TheVariants.{One, Two}
use Rattle.sim_game.specs.Model.{GameModel, IsGame}
use Rattle.sim_game.specs.Sides.{opening_bound}
use Rattle.sim_game.proofs.SideLemmas.{opening_state}
use Rattle.plan_book.specs.Backed.{IsBacked, by_range}
use Rattle.shared_board.specs.Words.{key_word, bound_word, key_in_row, bound_in_row, opening_word, IsLooser, tighter, as_bound, IsProved}
use Rattle.shared_board.specs.Rule.{IsConsistent, IsConsistentView, IsRow, IsPostedWord, IsWordInRange, Has, seen_at, seen, with_seen}
use Rattle.shared_board.specs.Plays.{reading, posting, loaded, met, IsBound, MayPost}
use Rattle.shared_board.specs.declared.view.View.{View}
use Rattle.shared_board.proofs.RuleLemmas.{backed_more, changes, fits_words, keeps_words}
use Rattle.shared_board.proofs.ClaimLemmas.{game_is, set_apart}
use Rattle.shared_board.proofs.ListLemmas.{set_either}
use Rattle.shared_board.proofs.WordLemmas.{word_refl, word_trans, word_left, word_right, tighter_is, key_not_bound, bounds_apart, bound_inside, bound_not_first, bound_word-back, word_mono}

module _ {S : Type 0} (m : GameModel S) (game_laws : IsGame m) where
  pub low_fits : neg_ℤ (pos 4000000000) ≤ℤ opening_bound m One
  low_fits = let a = game_laws.low_least in omega (arith, ints)

  pub high_fits : neg_ℤ (pos 4000000000) ≤ℤ opening_bound m Two
  high_fits = let a = game_laws.low_least in let b = game_laws.low_high in omega (arith, ints)

  ordered : opening_bound m One ≤ℤ opening_bound m Two
  ordered = let b = game_laws.low_high in omega (arith, ints)

  pub opening_in_range : (side : Side) → IsWordInRange m (opening_word m side)
  opening_in_range One = (omega arith, word_mono (opening_bound m One) (opening_bound m Two) low_fits ordered)
  opening_in_range Two = (word_mono (opening_bound m One) (opening_bound m Two) low_fits ordered, omega arith)

  pub opening_back : (side : Side) → as_bound (opening_word m side) ≡ opening_bound m side
  opening_back One = bound_word-back (opening_bound m One) low_fits
  opening_back Two = bound_word-back (opening_bound m Two) high_fits

  pub opening_proved : (side : Side) (k : ℕ) → IsProved m side k (opening_word m side)
  unfolding IsProved
  opening_proved side k s reached key = subst (IsBacked m side s) (sym (opening_back side)) (by_range s (opening_bound m side) (opening_state m side s game_laws reached))

module _ {G : Type 0} where
  abbrev pub sees : Side → View G → ℕ → ℕ → List (ℕ × Side × ℕ) → ℕ → View G
  sees side v i x posted loads = with_seen side (set (seen side v) i x) (record v { posted = posted; loads = loads })

  pub shaped_as : (rows : ℕ) (side side' : Side) (v : View G) (i x : ℕ) (posted : List (ℕ × Side × ℕ)) (loads : ℕ) → ((side' : Side) → length (seen side' v) ≡ rows)
      → length (seen side' (sees side v i x posted loads)) ≡ rows
  shaped_as rows One One v i x posted loads long = length-set v.lower i x ∙ long One
  shaped_as rows Two Two v i x posted loads long = length-set v.upper i x ∙ long Two
  shaped_as rows One Two v i x posted loads long = long Two
  shaped_as rows Two One v i x posted loads long = long One

module _ {S G : Type 0} (m : GameModel S) where
  -- what holds of the bound x, where it is seen, and of what was seen, after x in row i is seen
  pub seen_as : (side side' : Side) (v : View G) (i x j : ℕ) (posted : List (ℕ × Side × ℕ)) (loads : ℕ) (P : ℕ → Type 0)
      → (side ≡ side' → i ≡ j → P x) → P (seen_at m side' v j) → P (seen_at m side' (sees side v i x posted loads) j)
  seen_as One One v i x j posted loads P here there = set_either v.lower i x j (opening_word m One) P (here refl) there
  seen_as Two Two v i x j posted loads P here there = set_either v.upper i x j (opening_word m Two) P (here refl) there
  seen_as One Two v i x j posted loads P here there = there
  seen_as Two One v i x j posted loads P here there = there

  -- after a bound in row i is seen, no less is seen
  pub sees_more : (side side' : Side) (v : View G) (i x j : ℕ) (posted : List (ℕ × Side × ℕ)) (loads : ℕ) → IsLooser side (seen_at m side v i) x
      → IsLooser side' (seen_at m side' v j) (seen_at m side' (sees side v i x posted loads) j)
  sees_more side side' v i x j posted loads more = seen_as side side' v i x j posted loads (λ z. IsLooser side' (seen_at m side' v j) z)
      (λ e is. subst (λ (y : Side × ℕ). IsLooser y.0 (seen_at m y.0 v y.1) x) (λ c. (e c, is c)) more) (word_refl side' (seen_at m side' v j))

  pub seen_here : (rows : ℕ) (side : Side) (v : View G) (i x : ℕ) (posted : List (ℕ × Side × ℕ)) (loads : ℕ) → length (seen side v) ≡ rows → i < rows
      → seen_at m side (sees side v i x posted loads) i ≡ x
  seen_here rows One v i x posted loads long l = get_or-set_same v.lower i x (opening_word m One) (omega arith)
  seen_here rows Two v i x posted loads long l = get_or-set_same v.upper i x (opening_word m Two) (omega arith)

module _ {S G : Type 0} (m : GameModel S) (g : G) (rows : ℕ) where
  -- a posted bound is an old one, or is proved and no tighter than x, by a view that holds a ticket
  abbrev Posts : View G → Side → ℕ → ℕ → ℕ × Side × ℕ → Type 0
  Posts v side i x p = Has p v.posted ⊎ ((v.tickets ≢ []) × (i ≡ p.0) × (side ≡ p.1) × IsLooser side p.2 x × ((k : ℕ) × Has (i, k) v.keys × IsProved m side k p.2)
      × IsWordInRange m p.2)

  -- the view has seen x in row i, and posted what may be posted
  fits_seen : (words : List ℕ) (head issued id : ℕ) (v : View G) (side : Side) (i x : ℕ) (posted : List (ℕ × Side × ℕ)) (loads : ℕ) → (v.tickets ≡ [] → posted ≡ []) → i < rows
      → IsLooser side (seen_at m side v i) x → IsLooser side x (bound_in_row words side i) → ((p : ℕ × Side × ℕ) → Has p posted → Posts v side i x p)
      → IsConsistentView m g rows words head issued id v → IsConsistentView m g rows words head issued id
      (with_seen side (set (seen side v) i x) (record v { posted = posted; loads = loads }))
  fits_seen words head issued id v side i x posted loads quiet l more less posts f = let u : View G = record v { posted = posted; loads = loads } in record {
    leads = f.leads;
    follows = f.follows;
    idle = λ e. ((f.idle e).0, quiet e, (f.idle e).2);
    same_game = f.same_game;
    shaped = λ holder side'. shaped_as rows side side' v i x posted loads (f.shaped holder);
    knows = f.knows;
    no_tighter = λ side' j lj. seen_as m side side' v i x j posted loads (λ z. IsLooser side' z (bound_in_row words side' j))
        (λ e is. subst (λ (y : Side × ℕ). IsLooser y.0 x (bound_in_row words y.0 y.1)) (λ c. (e c, is c)) less) (f.no_tighter side' j lj);
    backed = λ j side' y h. ⊎_elim
        (λ (old : Has (j, side', y) v.posted). backed_more m v (with_seen side (set (seen side v) i x) u) j side' y (f.backed j side' y old) (λ p k. k)
        (sees_more m side side' v i x j posted loads more))
        (λ (new : (v.tickets ≢ []) × (i ≡ j) × (side ≡ side') × IsLooser side y x × ((k : ℕ) × Has (i, k) v.keys × IsProved m side k y) × IsWordInRange m y).
        subst (λ (q : Side × ℕ). IsPostedWord m (with_seen side (set (seen side v) i x) u) q.1 q.0 y) (λ c. (new.2 c, new.1 c)) (record {
          key = new.4.0;
          known = new.4.1;
          in_range = new.5;
          proved = new.4.2;
          seen_too = subst (IsLooser side y) (sym (seen_here m rows side v i x posted loads (f.shaped new.0 side) l)) new.3;
        })) (posts (j, side', y) h);
  }

  module _ (game_laws : IsGame m) (s : State (Unit {0}) (View G)) (r : IsConsistent m g rows s) where
    pub word_in_range : (side : Side) (i : ℕ) → i < rows → IsWordInRange m (bound_in_row s.words side i)
    word_in_range side i l = dite (ℕ_discrete (bound_in_row s.words side i) (opening_word m side))
        (λ (e : bound_in_row s.words side i ≡ opening_word m side). subst (IsWordInRange m) (sym e) (opening_in_range m game_laws side))
        (λ (n : bound_in_row s.words side i ≢ opening_word m side). let o = r.posted side i l n in
        ((r.each_view o.0 o.1 o.2).backed i side (bound_in_row s.words side i) o.3).in_range)

    word_proved : (side : Side) (i k : ℕ) → i < rows → key_in_row s.words i ≡ suc k → IsProved m side k (bound_in_row s.words side i)
    word_proved side i k l is = dite (ℕ_discrete (bound_in_row s.words side i) (opening_word m side))
        (λ (e : bound_in_row s.words side i ≡ opening_word m side). subst (IsProved m side k) (sym e) (opening_proved m game_laws side k))
        (λ (n : bound_in_row s.words side i ≢ opening_word m side). let o = r.posted side i l n in let f = r.each_view o.0 o.1 o.2 in let b =
        f.backed i side (bound_in_row s.words side i) o.3 in let known = (f.knows i b.key b.known).1 in
        let same : b.key ≡ k = omega arith in subst (λ (z : ℕ). IsProved m side z (bound_in_row s.words side i)) same b.proved)

    module _ (id : ℕ) (v : View G) (at : get_elem? s.views id ≡ some v) (side : Side) (i : ℕ) (inside : i < rows) where
      abbrev mine : IsConsistentView m g rows s.words r.head r.issued id v
      mine = r.each_view id v at

      abbrev n : ℕ
      n = bound_in_row s.words side i

      pub reads_now : IsConsistent m g rows record { words = set s.words (bound_word side i) n; homes = s.homes; views = set s.views id (reading side v i n) }
      reads_now = keeps_words m g rows s r id v (reading side v i n) (bound_word side i) at refl refl (λ x h. h) (λ p h. h)
          (fits_seen s.words r.head r.issued id v side i n v.posted (v.loads + 1) (λ e. (mine.idle e).1) inside
          (mine.no_tighter side i inside) (word_refl side n) (λ p h. inl h) mine)

      module _ (holder : v.tickets ≢ []) (x key : ℕ) (known : Has (i, key) v.keys) (in_range : IsWordInRange m x) (proved : IsProved m side key x) where
        abbrev new : ℕ
        new = tighter side n x

        abbrev after : List ℕ
        after = set s.words (bound_word side i) new

        key_same : (j : ℕ) → key_in_row after j ≡ key_in_row s.words j
        key_same j = get_or-set_other s.words (bound_word side i) (key_word j) new 0 (λ e. key_not_bound side i j (sym e))

        bound_here : bound_in_row after side i ≡ new
        bound_here = get_or-set_same s.words (bound_word side i) new 0 (subst (λ (z : ℕ). bound_word side i < z) (sym r.wide) (bound_inside side i rows inside))

        -- what holds of the new bound in its place, and of each old one
        bound_as : (side' : Side) (j : ℕ) (P : ℕ → Type 0) → (side ≡ side' → i ≡ j → P new) → P (bound_in_row s.words side' j) → P (bound_in_row after side' j)
        bound_as side' j P here there = set_either s.words (bound_word side i) new (bound_word side' j) 0 P (λ e. let same = bounds_apart side side' i j e in here same.0 same.1)
            there

        bounds_grow : (side' : Side) (j : ℕ) → j < rows → IsLooser side' (bound_in_row s.words side' j) (bound_in_row after side' j)
        bounds_grow side' j l = bound_as side' j (IsLooser side' (bound_in_row s.words side' j))
            (λ a b. subst (λ (y : Side × ℕ). IsLooser y.0 (bound_in_row s.words y.0 y.1) new) (λ c. (a c, b c)) (word_left side n x))
            (word_refl side' (bound_in_row s.words side' j))

        others_fit : (j : ℕ) (u : View G) → IsConsistentView m g rows s.words r.head r.issued j u → IsConsistentView m g rows after r.head r.issued j u
        others_fit j u f = fits_words m g rows s.words after r.head r.issued r.head r.issued j u f.leads (λ q k e. key_same q ∙ e) bounds_grow f

        row_ok : (j : ℕ) → j < rows → IsRow {G = G} m g rows after j
        row_ok j l = let o = r.each_row j l in record {
          reached = λ k e. let t = o.reached k (sym (key_same j) ∙ e) in (t.0, t.1, t.2, λ u lt z. t.3 u lt (sym (key_same _) ∙ z));
          named = λ k e. o.named k (sym (key_same j) ∙ e);
          single = λ k q e lq eq. o.single k q (sym (key_same j) ∙ e) lq (sym (key_same q) ∙ eq);
          free = λ e side'. let was : key_in_row s.words j ≡ 0 = sym (key_same j) ∙ e in
              bound_as side' j (λ z. z ≡ opening_word m side') (λ _ is. absurd
              (let k : key_in_row s.words i ≡ suc key = (mine.knows i key known).1 in let z : key_in_row s.words i ≡ 0 = ap (key_in_row s.words) is ∙ was in omega arith))
              (o.free was side');
        }

        pub posts_now : IsConsistent m g rows record { words = after; homes = s.homes; views = set s.views id (posting side v i x n) }
        posts_now = changes m g rows s r id v (posting side v i x n) after at (length-set s.words (bound_word side i) new)
            (get_or-set_other s.words (bound_word side i) 0 new 0 (λ e. bound_not_first side i (sym e)))
            refl refl (λ p h. inr h) (λ p h. h)
            (fits_seen after r.head r.issued id v side i new ((i, side, x) ∷ v.posted) v.loads (λ e. absurd (holder e)) inside
            (word_trans side (seen_at m side v i) n new (mine.no_tighter side i inside) (word_left side n x)) (subst (IsLooser side new) (sym bound_here) (word_refl side new))
            (λ p h. ⊎_elim (λ (e : p ≡ (i, side, x)). inr (subst (λ (q : ℕ × Side × ℕ). (v.tickets ≢ []) × (i ≡ q.0) × (side ≡ q.1) × IsLooser side q.2 new
            × ((k : ℕ) × Has (i, k) v.keys × IsProved m side k q.2) × IsWordInRange m q.2) (sym e)
            (holder, refl, refl, word_right side n x, (key, known, proved), in_range))) (λ (o : Has p v.posted). inl o) h) (others_fit id v mine))
            others_fit row_ok
            (λ side' j l. bound_as side' j (λ z. (z ≡ bound_in_row s.words side' j) ⊎ Has (j, side', z) ((i, side, x) ∷ v.posted))
            (λ a b. subst (λ (y : Side × ℕ). (new ≡ bound_in_row s.words y.0 y.1) ⊎ Has (y.1, y.0, new) ((i, side, x) ∷ v.posted)) (λ c. (a c, b c))
            (⊎_elim (λ (e : new ≡ n). inl e) (λ (e : new ≡ x). inr (inl (λ c. (i, side, e c)))) (tighter_is side n x))) (inl refl))
            (λ j k l e. inl (sym (key_same j) ∙ e))

module _ {S G : Type 0} (model : G → GameModel S) (g : G) (rows : ℕ) (game_laws : IsGame (model g)) where
  -- what a step at the bound of a row tells, where F gives the view after it by the row
  told : (s : State (Unit {0}) (View G)) (r : IsConsistent (model g) g rows s) (id : ℕ) (v : View G) → get_elem? s.views id ≡ some v → (side : Side) (i : ℕ) → v.tickets ≢ []
      → i < rows → (F : ℕ → View G)
      → (j : ℕ) → bound_word side i ≡ bound_word side j → (F i ≡ F j) × ((h : G) → v.game ≡ Some h → IsBound model side v j (bound_in_row s.words side i) h)
  told s r id v at side i holder l F j e = let same = (bounds_apart side side i j e).1 in let f = r.each_view id v at in (
    ap F same,
    λ h is. subst (λ (y : ℕ × G). IsBound model side v y.0 (bound_in_row s.words side i) y.1) (λ c. (same c, game_is g h (sym (f.same_game holder) ∙ is) c)) (record {
      no_looser = f.no_tighter side i l;
      in_range = word_in_range (model g) g rows game_laws s r side i l;
      proved = λ k known. word_proved (model g) g rows game_laws s r side i k l (f.knows i k known).1;
    }),
  )

  pub reads : (slots id : ℕ) (a : Me (Unit {0}) (View G)) (side : Side) (i : ℕ) → a.0.tickets ≢ [] → i < rows
      → Allows (IsConsistent (model g) g rows) slots id a (bound_word side i) (λ n. n) (loaded model side (step slots (bound_word side i) 0 0 none) a)
  reads slots id a side i holder inside s r deep at _ = let n : ℕ = bound_in_row s.words side i in let w : View G = reading side a.0 i n in let now =
      reads_now (model g) g rows game_laws s r id a.0 at side i inside in (
        w,
        keeps,
        tt,
        now,
        (
          refl,
          set_apart (model g) g rows s (set s.words (bound_word side i) n) id a.0 w at now,
          told s r id a.0 at side i holder inside
              (λ z. reading side a.0 z n),
        ),
      )

  pub posts : (slots id : ℕ) (a : Me (Unit {0}) (View G)) (side : Side) (i x : ℕ) → MayPost (model g) rows side a.0 i x
      → Allows (IsConsistent (model g) g rows) slots id a (bound_word side i) (λ n. tighter side n x) (met model side (step slots (bound_word side i) x 0 none) a)
  posts slots id a side i x may s r deep at _ = let n : ℕ = bound_in_row s.words side i in let w : View G = posting side a.0 i x n in
      let now = posts_now (model g) g rows game_laws s r id a.0 at side i may.inside may.holder x may.key may.known may.in_range may.proved in (
        w,
        keeps,
        tt,
        now,
        (
          refl,
          set_apart (model g) g rows s (set s.words (bound_word side i) (tighter side n x)) id a.0 w at now,
          told s r id a.0 at side i may.holder may.inside
              (λ z. posting side a.0 z x n),
        ),
      )
