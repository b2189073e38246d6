-- A split and a join keep the rule, and so does each kind of step.
use Rattle.std.proofs.Common.{◌≡◌, ◌≢◌, ⊎_elim, ℕ, zero, suc, ◌+◌, ◌<◌, max, List, [], ◌∷◌, ◌++◌, length, get_or, set, true, false, true≢false, ◌||◌, sym, refl, ap, ◌∙◌, subst, arith}
use Rattle.std.proofs.lemmas.Bool.{or_left, or_right, or_parts}
use Rattle.std.proofs.lemmas.Bool.Decides.{nat_tests}
use mathlib.Core.Logic.{dite}
use native.Mathlib.Decide.{ℕ_discrete}
use mathlib.Core.Option.{some}
use lib.ListN.{get_elem?}
use Rattle.atomic_table.specs.Table.{State, Splits, Joins}
use Rattle.atomic_table.proofs.Lists.{set_here, set_else, at_longer, at_snoc}
use Rattle.sim_game.specs.declared.Side.{Side}
use Rattle.sim_game.specs.declared.Side.TheVariants.{One, Two}
use Rattle.sim_game.specs.Model.{GameModel, IsGame}
use Rattle.shared_board.specs.Words.{bound_in_row, opening_word, IsLooser, tighter, key_word, bound_word}
use Rattle.shared_board.specs.Rule.{IsConsistent, IsConsistentView, IsWordInRange, Has, seen_at, seen, total, times, once_below, spent_view}
use Rattle.shared_board.specs.Plays.{issuing, issued_view, joined, tightest, knowing, reading}
use Rattle.shared_board.specs.declared.view.View.{View}
use Rattle.shared_board.proofs.RuleLemmas.{fits_words, backed_more}
use Rattle.shared_board.proofs.ListLemmas.{all_set, at_long, same_at, somewhere_set, somewhere_longer, somewhere_join, total_set, total_append, times_append, has_left, has_right, has_split}
use Rattle.shared_board.proofs.WordLemmas.{word_refl, word_left, word_right, word_both, tighter_same}
use Rattle.std.proofs.lemmas.List.{set-get_or}
use Rattle.shared_board.specs.Laws.{IsBoardStep, claims, looks, finds, posts, reads, splits, joins}
use Rattle.shared_board.proofs.ClaimLemmas.{claims_free, claims_found, looks_free}
use Rattle.shared_board.proofs.BoundLemmas.{posts_now, reads_now}

pub in_range_word : {S : Type 0} (m : GameModel S) (side : Side) (x : ℕ) → IsWordInRange m x → IsLooser side (opening_word m side) x
in_range_word m One x h = h.0
in_range_word m Two x h = h.1

-- of lists of one length, the tightest is in each place
tightest_at : (side : Side) (xs ys : List ℕ) (i d : ℕ) → length xs ≡ length ys → get_or (tightest side xs ys) i d ≡ tighter side (get_or xs i d) (get_or ys i d)
tightest_at side [] [] i d e = sym (tighter_same side d)
tightest_at side [] (y ∷ ys) i d e = absurd (omega arith)
tightest_at side (x ∷ xs) [] i d e = absurd (omega arith)
tightest_at side (x ∷ xs) (y ∷ ys) zero d e = refl
tightest_at side (x ∷ xs) (y ∷ ys) (suc i) d e = tightest_at side xs ys i d (omega arith)

tightest_long : (side : Side) (xs ys : List ℕ) (n : ℕ) → length xs ≡ n → length ys ≡ n → length (tightest side xs ys) ≡ n
tightest_long side [] ys n a b = b
tightest_long side (x ∷ xs) [] n a b = a
tightest_long side (x ∷ xs) (y ∷ ys) zero a b = absurd (omega arith)
tightest_long side (x ∷ xs) (y ∷ ys) (suc n) a b = ap suc (tightest_long side xs ys n (omega arith) (omega arith))

pub long_joined : {G : Type 0} (side : Side) (v w : View G) (n : ℕ) → length (seen side v) ≡ n → length (seen side w) ≡ n → length (seen side (joined v w)) ≡ n
long_joined One v w n a b = tightest_long One v.lower w.lower n a b
long_joined Two v w n a b = tightest_long Two v.upper w.upper n a b

pub not_nil : (xs ys : List ℕ) → xs ≢ [] → xs ++ ys ≢ []
not_nil [] ys n e = n refl
not_nil (x ∷ xs) ys n e = cc

-- two views of one board
module _ {S G : Type 0} (m : GameModel S) (v w : View G) (long : (side : Side) → length (seen side v) ≡ length (seen side w)) where
  pub seen_joined : (side : Side) (i : ℕ) → seen_at m side (joined v w) i ≡ tighter side (seen_at m side v i) (seen_at m side w i)
  seen_joined One i = tightest_at One v.lower w.lower i (opening_word m One) (long One)
  seen_joined Two i = tightest_at Two v.upper w.upper i (opening_word m Two) (long Two)

  pub sees_left : (side : Side) (i : ℕ) → IsLooser side (seen_at m side v i) (seen_at m side (joined v w) i)
  sees_left side i = subst (IsLooser side (seen_at m side v i)) (sym (seen_joined side i)) (word_left side (seen_at m side v i) (seen_at m side w i))

  pub sees_right : (side : Side) (i : ℕ) → IsLooser side (seen_at m side w i) (seen_at m side (joined v w) i)
  sees_right side i = subst (IsLooser side (seen_at m side w i)) (sym (seen_joined side i)) (word_right side (seen_at m side v i) (seen_at m side w i))

module _ {S G : Type 0} (m : GameModel S) (g : G) (rows : ℕ) where
  fits_drawing : (words : List ℕ) (head issued id : ℕ) (v : View G) → v.lead ≡ true → IsConsistentView m g rows words head issued id v
      → IsConsistentView m g rows words head (issued + 1) id (issuing v)
  fits_drawing words head issued id v lead f = record {
    leads = λ e. let l = f.leads e in (l.0, ap (λ (n : ℕ). n + 1) l.1);
    follows = λ e. absurd (true≢false (sym lead ∙ e));
    idle = f.idle;
    same_game = f.same_game;
    shaped = f.shaped;
    knows = f.knows;
    no_tighter = f.no_tighter;
    backed = λ i side x h. backed_more m v (issuing v) i side x (f.backed i side x h) (λ p k. k) (word_refl side (seen_at m side v i));
  }

  fits_drawn : (words : List ℕ) (head issued id j : ℕ) (v : View G) → v.tickets ≢ [] → IsConsistentView m g rows words head issued id v
      → IsConsistentView m g rows words head (issued + 1) j (issued_view v)
  fits_drawn words head issued id j v holder f = record {
    leads = λ e. absurd (true≢false (sym e));
    follows = λ _. refl;
    idle = λ (e : v.issued ∷ [] ≡ []). cc;
    same_game = λ _. f.same_game holder;
    shaped = λ _. f.shaped holder;
    knows = f.knows;
    no_tighter = f.no_tighter;
    backed = λ i side x h. absurd h;
  }

  pub keeps_split : (id : ℕ) (v : View G) → v.lead ≡ true → v.issued < 65535 → Splits (IsConsistent m g rows) id v (issuing v) (issued_view v)
  keeps_split id v lead room s r at = let f = r.each_view id v at in let me = f.leads lead in let long = at_long s.views id v at in
      let left : View G = issuing v in let right : View G = issued_view v in let half : List (View G) = set s.views id left in let issued = r.issued in let few = r.few in record {
        wide = r.wide;
        zero_first = r.zero_first;
        head = r.head;
        issued = r.issued + 1;
        few = (let d : v.issued ≡ issued = me.1 in (omega arith, omega arith));
        led = (left, subst (λ (z : ℕ). get_elem? (half ++ right ∷ []) z ≡ some left) me.0 (at_longer half (right ∷ []) id left (set_here s.views id left long)), lead);
        held = λ n. let count : View G → ℕ = λ u. times n u.tickets in let moved = total_set count s.views id v left at in let sum = total_append count half (right ∷ []) in
            let was : total count s.views ≡ once_below n issued = r.held n in
            let next : once_below n (issued + 1) ≡ once_below n issued + times n (issued ∷ []) = grind (arith, nat_tests) in let mine : count right ≡ times n (issued ∷ []) =
            ap (λ (d : ℕ). times n (d ∷ [])) me.1 in let same : count left ≡ count v = refl in let last : total count (right ∷ []) ≡ count right = omega arith in omega arith;
        each_view = λ j u e. ⊎_elim (λ (old : get_elem? half j ≡ some u). all_set (IsConsistentView m g rows s.words r.head (issued + 1)) s.views id left
            (fits_drawing s.words r.head issued id v lead f)
            (λ q w n is. let o = r.each_view q w is in fits_words m g rows s.words s.words r.head issued r.head (issued + 1) q w (λ l. absurd (n ((o.leads l).0 ∙ sym me.0)))
            (λ i k e. e) (λ side i _. word_refl side (bound_in_row s.words side i)) o) j u old)
            (λ (new : right ≡ u). subst (IsConsistentView m g rows s.words r.head (issued + 1) j) new
            (fits_drawn s.words r.head issued id j v (λ e. true≢false (sym lead ∙ (f.idle e).0)) f)) (at_snoc half right u j e);
        each_row = r.each_row;
        posted = λ side i l n. let P : View G → Type 0 = λ u. Has (i, side, bound_in_row s.words side i) u.posted in
            somewhere_longer P half (right ∷ []) (somewhere_set P s.views id v left at (λ h. h) (r.posted side i l n));
        claimed = λ i k l e. let P : View G → Type 0 = λ u. Has (i, k) u.keys in
            somewhere_longer P half (right ∷ []) (somewhere_set P s.views id v left at (λ h. h) (r.claimed i k l e));
      }

  -- a word is no looser than the opening bound
  pub never_looser : (s : State (Unit {0}) (View G)) (r : IsConsistent m g rows s) (side : Side) (i : ℕ) → i < rows
      → IsLooser side (opening_word m side) (bound_in_row s.words side i)
  never_looser s r side i l = dite (ℕ_discrete (bound_in_row s.words side i) (opening_word m side))
      (λ (e : bound_in_row s.words side i ≡ opening_word m side). subst (IsLooser side (opening_word m side)) (sym e) (word_refl side (opening_word m side)))
      (λ (n : bound_in_row s.words side i ≢ opening_word m side). let o = r.posted side i l n in let b =
      (r.each_view o.0 o.1 o.2).backed i side (bound_in_row s.words side i) o.3 in in_range_word m side (bound_in_row s.words side i) b.in_range)

  seen_nothing : (side : Side) (i : ℕ) → opening_word m side ≡ seen_at m side (spent_view {G = G}) i
  seen_nothing One i = refl
  seen_nothing Two i = refl

  module _ (s : State (Unit {0}) (View G)) (r : IsConsistent m g rows s) (id other : ℕ) (v w : View G) (at : get_elem? s.views id ≡ some v) (two : other ≢ id)
      (at' : get_elem? s.views other ≡ some w) (holder : v.tickets ≢ []) (holder' : w.tickets ≢ []) where
    abbrev f : IsConsistentView m g rows s.words r.head r.issued id v
    f = r.each_view id v at

    abbrev f' : IsConsistentView m g rows s.words r.head r.issued other w
    f' = r.each_view other w at'

    abbrev both : View G
    both = joined v w

    abbrev fst : List (View G)
    fst = set s.views id both

    abbrev snd : List (View G)
    snd = set fst other spent_view

    here : get_elem? snd id ≡ some both
    here = set_else fst other id spent_view (λ e. two (sym e)) ∙ set_here s.views id both (at_long s.views id v at)

    still : (j : ℕ) (u : View G) → j ≢ id → j ≢ other → get_elem? s.views j ≡ some u → get_elem? snd j ≡ some u
    still j u n n' e = set_else fst other j spent_view n' ∙ (set_else s.views id j both n ∙ e)

    -- the lead's seat after the join
    head : (h : ℕ) × (w.lead ≡ true → h ≡ id) × (v.lead ≡ true → h ≡ id) × (r.head ≢ other → h ≡ r.head) × ((u : View G) × (get_elem? snd h ≡ some u) × (u.lead ≡ true))
    head = let lead : (j : ℕ) (u : View G) → get_elem? s.views j ≡ some u → r.head ≡ j → u.lead ≡ true =
        λ j u at e. ap (λ (u : View G). u.lead) (same_at s.views j u r.led.0 at (subst (λ (z : ℕ). get_elem? s.views z ≡ some r.led.0) e r.led.1)) ∙ r.led.2 in
        dite (ℕ_discrete r.head other) (λ (e : r.head ≡ other). (id, (λ _. refl), (λ _. refl), (λ n. absurd (n e)), (both, here, or_right v.lead w.lead (lead other w at' e))))
        (λ (n : r.head ≢ other). (
          r.head,
          (λ l. absurd (n (sym (f'.leads l).0))),
          (λ l. sym (f.leads l).0),
          (λ _. refl),
          dite (ℕ_discrete r.head id)
              (λ (e : r.head ≡ id). (both, subst (λ (z : ℕ). get_elem? snd z ≡ some both) (sym e) here, or_left v.lead w.lead (lead id v at e)))
              (λ (n' : r.head ≢ id). (r.led.0, still r.head r.led.0 n' n r.led.1, r.led.2)),
        ))

    same_length : (side : Side) → length (seen side v) ≡ length (seen side w)
    same_length side = f.shaped holder side ∙ sym (f'.shaped holder' side)

    fits_both : IsConsistentView m g rows s.words head.0 r.issued id both
    fits_both = record {
      leads = elim v.lead as (λ b. v.lead ≡ b → (b || w.lead) ≡ true → (id ≡ head.0) × (max v.issued w.issued ≡ r.issued)) [
        | true ↦ λ l _. let mine = f.leads l in let d = mine.1 in
            let quiet : w.issued ≡ 0 = elim w.lead as (λ b. w.lead ≡ b → w.issued ≡ 0) [ true ↦ λ q. absurd (two ((f'.leads q).0 ∙ sym mine.0)) | false ↦ λ q. f'.follows q ]
            refl in (sym (head.2 l), omega arith)
        | false ↦ λ l q. let d = (f'.leads q).1 in let z = f.follows l in (sym (head.1 q), omega arith)
      ] refl;
      follows = λ e. let p = or_parts v.lead w.lead e in let a = f.follows p.0 in let b = f'.follows p.1 in omega arith;
      idle = λ e. absurd (not_nil v.tickets w.tickets holder e);
      same_game = λ _. f.same_game holder;
      shaped = λ _ side. long_joined side v w rows (f.shaped holder side) (f'.shaped holder' side);
      knows = λ i k h. ⊎_elim (λ (a : Has (i, k) v.keys). f.knows i k a) (λ (b : Has (i, k) w.keys). f'.knows i k b) (has_split (i, k) v.keys w.keys h);
      no_tighter = λ side i l. subst (λ (z : ℕ). IsLooser side z (bound_in_row s.words side i)) (sym (seen_joined m v w same_length side i))
          (word_both side (seen_at m side v i) (seen_at m side w i) (bound_in_row s.words side i) (f.no_tighter side i l) (f'.no_tighter side i l));
      backed = λ i side x h. ⊎_elim (λ (a : Has (i, side, x) v.posted). backed_more m v both i side x (f.backed i side x a) (λ p k. has_left p v.keys w.keys k)
          (sees_left m v w same_length side i))
          (λ (b : Has (i, side, x) w.posted). backed_more m w both i side x (f'.backed i side x b) (λ p k. has_right p v.keys w.keys k) (sees_right m v w same_length side i))
          (has_split (i, side, x) v.posted w.posted h);
    }

    fits_spent : IsConsistentView m g rows s.words head.0 r.issued other spent_view
    fits_spent = record {
      leads = λ e. absurd (true≢false (sym e));
      follows = λ _. refl;
      idle = λ _. (refl, refl, refl);
      same_game = λ n. absurd (n refl);
      shaped = λ n. absurd (n refl);
      knows = λ i k h. absurd h;
      no_tighter = λ side i l. subst (λ (z : ℕ). IsLooser side z (bound_in_row s.words side i)) (seen_nothing side i) (never_looser s r side i l);
      backed = λ i side x h. absurd h;
    }

    pub joins_now : IsConsistent m g rows record { words = s.words; homes = s.homes; views = snd }
    joins_now = record {
      wide = r.wide;
      zero_first = r.zero_first;
      head = head.0;
      issued = r.issued;
      few = r.few;
      led = head.4;
      held = λ n. let count : View G → ℕ = λ u. times n u.tickets in let a = total_set count s.views id v both at in let b =
          total_set count fst other w spent_view (set_else s.views id other both two ∙ at') in
          let sum : count both ≡ count v + count w = times_append n v.tickets w.tickets in let none : count spent_view ≡ 0 = refl in
          let was : total count s.views ≡ once_below n r.issued = r.held n in
          let now : total count snd ≡ total count s.views = omega arith in now ∙ was;
      each_view = all_set (IsConsistentView m g rows s.words head.0 r.issued) fst other spent_view fits_spent
          (λ j u n' e. all_set (λ (q : ℕ) (x : View G). q ≢ other → IsConsistentView m g rows s.words head.0 r.issued q x) s.views id both (λ _. fits_both)
          (λ q x n is apart. let o = r.each_view q x is in fits_words m g rows s.words s.words r.head r.issued head.0 r.issued q x
          (λ l. let p = o.leads l in (p.0 ∙ sym (head.3 (λ h. apart (p.0 ∙ h))), p.1)) (λ i k e. e) (λ side i _. word_refl side (bound_in_row s.words side i)) o) j u e n');
      each_row = r.each_row;
      posted = λ side i l n. let x : ℕ × Side × ℕ = (i, side, bound_in_row s.words side i) in
          somewhere_join (λ u. Has x u.posted) s.views id other v w both spent_view at at' two (has_left x v.posted w.posted) (has_right x v.posted w.posted) (r.posted side i l n);
      claimed = λ i k l e. somewhere_join (λ u. Has (i, k) u.keys) s.views id other v w both spent_view at at' two (has_left (i, k) v.keys w.keys) (has_right (i, k) v.keys w.keys)
          (r.claimed i k l e);
    }

  pub keeps_join : (id other : ℕ) (v w : View G) → v.tickets ≢ [] → w.tickets ≢ [] → Joins (IsConsistent m g rows) id v other w (joined v w) spent_view
  keeps_join id other v w holder holder' s r at two now = joins_now s r id other v w at two (sym (set_else s.views id other (joined v w) two) ∙ now) holder holder'

module _ {S G : Type 0} (m : GameModel S) (game_laws : IsGame m) (g : G) (rows : ℕ) where
  pub keeps : (s t : State (Unit {0}) (View G)) → IsConsistent m g rows s → IsBoardStep m rows s t → IsConsistent m g rows t
  keeps _ _ r (claims s id i k t v at may free) = claims_free m g rows s r v id i k t at may free
  keeps _ _ r (looks s id i k t v at may free) = subst (λ (ws : List ℕ). IsConsistent m g rows record { words = ws; homes = s.homes; views = set s.views id v })
      (set-get_or s.words (key_word i) 0) (looks_free m g rows s r v id i k t at may)
  keeps _ _ r (finds s id i k t found v at may is) = subst (λ (ws : List ℕ). IsConsistent m g rows
      record { words = ws; homes = s.homes; views = set s.views id (knowing v i found) }) (set-get_or s.words (key_word i) 0)
      (claims_found m g rows s r v id i k t at may found is)
  keeps _ _ r (posts s id i x side v at may) = posts_now m g rows game_laws s r id v at side i may.inside may.holder x may.key may.known may.in_range may.proved
  keeps _ _ r (reads s id i side v at inside) = subst (λ (ws : List ℕ). IsConsistent m g rows
      record { words = ws; homes = s.homes; views = set s.views id (reading side v i (get_or s.words (bound_word side i) 0)) })
      (set-get_or s.words (bound_word side i) 0) (reads_now m g rows game_laws s r id v at side i inside)
  keeps _ _ r (splits s id v at lead room) = keeps_split m g rows id v lead room s r at
  keeps _ _ r (joins s id other v w at two at' holder holder') = joins_now m g rows s r id other v w at two at' holder holder'
