-- The rule of a board of free rows, and after a step that sets one view, and perhaps one word, where the view and the rows still fit.
use Rattle.std.proofs.Common.{◌≡◌, ℕ, zero, suc, ◌<◌, List, [], ◌∷◌, length, get_or, replicate, true≢false, sym, refl, ◌∙◌, subst, arith, ◌≢◌, ◌⊎◌, inl, ⊎_elim, true, set, ap}
use Rattle.std.proofs.lemmas.List.{length-replicate, set-get_or}
use Rattle.std.proofs.lemmas.Bool.Decides.{nat_tests}
use Rattle.atomic_table.specs.Table.{opening, State}
use Rattle.sim_game.specs.declared.Side.{Side}
use Rattle.sim_game.specs.declared.Side.TheVariants.{One, Two}
use Rattle.sim_game.specs.Model.{GameModel}
use Rattle.shared_board.specs.Words.{bound_in_row, opening_word, IsBlank, IsLooser, key_in_row}
use Rattle.shared_board.specs.Rule.{IsConsistent, IsConsistentView, IsRow, IsPostedWord, first_view, seen_at, seen, total, times, once_below, Has, Somewhere}
use Rattle.shared_board.specs.declared.view.View.{View}
use Rattle.shared_board.proofs.ListLemmas.{alone, all_set, at_long, same_at, somewhere_set, total_set}
use Rattle.shared_board.proofs.WordLemmas.{word_refl, word_trans}
use mathlib.Core.Logic.{dite}
use native.Mathlib.Decide.{ℕ_discrete}
use mathlib.Core.Option.{some}
use lib.ListN.{get_elem?}
use Rattle.atomic_table.proofs.Lists.{set_here, set_else}

one_number : (n : ℕ) → total (λ (xs : List ℕ). times n xs) ((0 ∷ []) ∷ []) ≡ once_below n 1
one_number zero = refl
one_number (suc n) = grind (arith, nat_tests)

same_replicate : (n i x : ℕ) → get_or (replicate n x) i x ≡ x
same_replicate zero i x = refl
same_replicate (suc n) zero x = refl
same_replicate (suc n) (suc i) x = same_replicate n i x

module _ {S G : Type 0} (m : GameModel S) (g : G) (rows : ℕ) where
  abbrev pub first : View G
  first = first_view g rows (opening_word m One) (opening_word m Two)

  pub first_long : (side : Side) → length (seen side first) ≡ rows
  first_long One = length-replicate rows (opening_word m One)
  first_long Two = length-replicate rows (opening_word m Two)

  pub first_seen : (side : Side) (i : ℕ) → seen_at m side first i ≡ opening_word m side
  first_seen One i = same_replicate rows i (opening_word m One)
  first_seen Two i = same_replicate rows i (opening_word m Two)

module _ {S G : Type 0} (m : GameModel S) (g : G) (rows : ℕ) (words : List ℕ) (blank : IsBlank words rows (opening_word m One) (opening_word m Two)) where
  abbrev start : View G
  start = first m g rows

  blank_bound : (side : Side) (i : ℕ) → i < rows → bound_in_row words side i ≡ opening_word m side
  blank_bound One i l = blank.lower i l
  blank_bound Two i l = blank.upper i l

  fits : IsConsistentView m g rows words 0 1 0 start
  fits = record {
    leads = λ _. (refl, refl);
    follows = λ e. absurd (true≢false e);
    idle = λ (e : 0 ∷ [] ≡ []). cc;
    same_game = λ _. refl;
    shaped = λ _ side. first_long m g rows side;
    knows = λ i k h. absurd h;
    no_tighter = λ side i l. subst (IsLooser side (seen_at m side start i)) (first_seen m g rows side i ∙ sym (blank_bound side i l)) (word_refl side (seen_at m side start i));
    backed = λ i side x h. absurd h;
  }

  blank_row : (i : ℕ) → i < rows → IsRow {G = G} m g rows words i
  blank_row i l = let free = blank.free i l in record {
    reached = λ k e. absurd (omega arith);
    named = λ k e. absurd (omega arith);
    single = λ k j e _ _. absurd (omega arith);
    free = λ _ side. blank_bound side i l;
  }

  pub starts : IsConsistent m g rows (opening words [] start)
  starts = record {
    wide = blank.wide;
    zero_first = blank.zero_first;
    head = 0;
    issued = 1;
    few = (omega arith, omega arith);
    led = (start, refl, refl);
    held = one_number;
    each_view = λ j v e. let is = alone start v j e in subst (λ (y : ℕ × View G). IsConsistentView m g rows words 0 1 y.0 y.1) (λ k. (sym is.0 k, is.1 k)) fits;
    each_row = blank_row;
    posted = λ side i l n. absurd (n (blank_bound side i l));
    claimed = λ i k l e. let free = blank.free i l in absurd (omega arith);
  }

pub backed_more : {S G : Type 0} (m : GameModel S) (v w : View G) (i : ℕ) (side : Side) (x : ℕ) → IsPostedWord m v i side x → ((p : ℕ × ℕ) → Has p v.keys → Has p w.keys)
    → IsLooser side (seen_at m side v i) (seen_at m side w i) → IsPostedWord m w i side x
backed_more m v w i side x b keys l = record {
  key = b.key;
  known = keys (i, b.key) b.known;
  in_range = b.in_range;
  proved = b.proved;
  seen_too =
      word_trans side x (seen_at m side v i) (seen_at m side w i) b.seen_too l;
}

module _ {S G : Type 0} (m : GameModel S) (g : G) (rows : ℕ) where
  -- a view fits words in which each key stands and no bound is looser, with another lead's seat or another count of tickets
  pub fits_words : (words words' : List ℕ) (head issued head' issued' j : ℕ) (u : View G) → (u.lead ≡ true → (j ≡ head') × (u.issued ≡ issued'))
      → ((i k : ℕ) → key_in_row words i ≡ suc k → key_in_row words' i ≡ suc k)
      → ((side : Side) (i : ℕ) → i < rows → IsLooser side (bound_in_row words side i) (bound_in_row words' side i))
      → IsConsistentView m g rows words head issued j u → IsConsistentView m g rows words' head' issued' j u
  fits_words words words' head issued head' issued' j u leads keys bounds f = record {
    leads = leads;
    follows = f.follows;
    idle = f.idle;
    same_game = f.same_game;
    shaped = f.shaped;
    knows = λ i k h. let o = f.knows i k h in (o.0, keys i k o.1);
    no_tighter = λ side i l. word_trans side (seen_at m side u i) (bound_in_row words side i) (bound_in_row words' side i) (f.no_tighter side i l) (bounds side i l);
    backed = f.backed;
  }

  -- the view of seat id becomes w, which holds the same tickets, and knows and has posted at least as much, and the words become others
  pub changes : (s : State (Unit {0}) (View G)) (r : IsConsistent m g rows s) (id : ℕ) (v w : View G) (words : List ℕ) → get_elem? s.views id ≡ some v
      → length words ≡ length s.words → get_or words 0 0 ≡ get_or s.words 0 0
      → w.tickets ≡ v.tickets → w.lead ≡ v.lead → ((x : _) → Has x v.posted → Has x w.posted) → ((p : _) → Has p v.keys → Has p w.keys)
      → IsConsistentView m g rows words r.head r.issued id w → ((j : ℕ) (u : View G) → IsConsistentView m g rows s.words r.head r.issued j u
      → IsConsistentView m g rows words r.head r.issued j u)
      → ((i : ℕ) → i < rows → IsRow {G = G} m g rows words i)
      → ((side : Side) (i : ℕ) → i < rows → (bound_in_row words side i ≡ bound_in_row s.words side i) ⊎ Has (i, side, bound_in_row words side i) w.posted)
      → ((i k : ℕ) → i < rows → key_in_row words i ≡ suc k → (key_in_row s.words i ≡ suc k) ⊎ Has (i, k) w.keys)
      → IsConsistent m g rows record { words = words; homes = s.homes; views = set s.views id w }
  changes s r id v w words at as_wide first tickets lead grows learns fits others row_ok bounds names = record {
    wide = as_wide ∙ r.wide;
    zero_first = first ∙ r.zero_first;
    head = r.head;
    issued = r.issued;
    few = r.few;
    led = dite (ℕ_discrete r.head id)
        (λ (e : r.head ≡ id). (
          w,
          subst (λ (z : ℕ). get_elem? (set s.views id w) z ≡ some w) (sym e) (set_here s.views id w (at_long s.views id v at)),
          lead ∙ (ap (λ (u : View G). u.lead) (same_at s.views id v r.led.0 at (subst (λ (z : ℕ). get_elem? s.views z ≡ some r.led.0) e r.led.1)) ∙ r.led.2),
        ))
        (λ (n : r.head ≢ id). (r.led.0, set_else s.views id r.head w n ∙ r.led.1, r.led.2));
    held = λ n. let count : View G → ℕ = λ u. times n u.tickets in let moved = total_set count s.views id v w at in let same : count w ≡ count v = ap (times n) tickets in
        let was : total count s.views ≡ once_below n r.issued = r.held n in
        let now : total count (set s.views id w) ≡ total count s.views = omega arith in now ∙ was;
    each_view = all_set (IsConsistentView m g rows words r.head r.issued) s.views id w fits (λ j u n e. others j u (r.each_view j u e));
    each_row = row_ok;
    posted = λ side i l n. ⊎_elim
        (λ (same : bound_in_row words side i ≡ bound_in_row s.words side i). somewhere_set (λ u. Has (i, side, bound_in_row words side i) u.posted) s.views id v w at
        (grows (i, side, bound_in_row words side i))
        (subst (λ (z : ℕ). Somewhere s.views (λ u. Has (i, side, z) u.posted)) (sym same) (r.posted side i l (λ e. n (same ∙ e)))))
        (λ (mine : Has (i, side, bound_in_row words side i) w.posted). (id, w, set_here s.views id w (at_long s.views id v at), mine)) (bounds side i l);
    claimed = λ i k l e. ⊎_elim (λ (old : key_in_row s.words i ≡ suc k). somewhere_set (λ u. Has (i, k) u.keys) s.views id v w at (learns (i, k)) (r.claimed i k l old))
        (λ (mine : Has (i, k) w.keys). (id, w, set_here s.views id w (at_long s.views id v at), mine)) (names i k l e);
  }

  -- the same where no word changes
  pub keeps_words : (s : State (Unit {0}) (View G)) (r : IsConsistent m g rows s) (id : ℕ) (v w : View G) (i : ℕ) → get_elem? s.views id ≡ some v
      → w.tickets ≡ v.tickets → w.lead ≡ v.lead → ((x : _) → Has x v.posted → Has x w.posted) → ((p : _) → Has p v.keys → Has p w.keys)
      → IsConsistentView m g rows s.words r.head r.issued id w
      → IsConsistent m g rows record { words = set s.words i (get_or s.words i 0); homes = s.homes; views = set s.views id w }
  keeps_words s r id v w i at tickets lead grows learns fits = subst (λ (ws : List ℕ). IsConsistent m g rows record { words = ws; homes = s.homes; views = set s.views id w })
      (sym (set-get_or s.words i 0))
      (changes s r id v w s.words at refl refl tickets lead grows learns fits (λ j u f. f) r.each_row (λ side j l. inl refl) (λ j k l e. inl e))
