-- The facts of a pass, after its view or its book changed.
use Rattle.std.proofs.Common.{◌≡◌, inl, inr, ⊎_elim, ℕ, ◌+◌, ◌*◌, ◌<◌, ◌≤◌, min, max, List, [], ◌∷◌, ◌++◌, length, length-append, Bool, true, false, ◌||◌, All}
use Rattle.std.proofs.Common.{sym, refl, ap, ◌∙◌, subst, arith, Some, ◌⊎◌, ℤ, pos, neg_ℤ, ◌≤ℤ◌, w64, to_z, of_z}
use Rattle.std.proofs.lemmas.List.Elements.{All-nil, All-append, All-weaker, All-push}
use Rattle.atomic_table.specs.Table.{Me}
use Rattle.sim_game.specs.declared.Side.{Side}
use Rattle.sim_game.specs.declared.Side.TheVariants.{One, Two}
use Rattle.sim_game.specs.Model.{GameModel, IsGame}
use Rattle.plan_book.specs.declared.Entry.{Entry}
use Rattle.plan_book.specs.Entries.{IsEntry}
use Rattle.shared_board.specs.Words.{IsLooser, tighter, word_of, opening_word, as_bound, IsProved}
use Rattle.shared_board.specs.Rule.{Has, seen_at, seen, IsWordInRange}
use Rattle.shared_board.specs.Plays.{AllNamed, issuing, issued_view, joined, more_keys, reading, posting, IsBound}
use Rattle.shared_board.specs.Passes.{IsKnown, IsPostedEntry, HasPostedEntry, IsUnseen, IsTold, KnowsNoLess, IsPass, IsBoundAnswer}
use Rattle.shared_board.specs.declared.view.View.{View}
use Rattle.shared_board.proofs.WordLemmas.{word_refl, tighter_same, word_trans, word_left, word_is, word_mono, bound_word-back}
use Rattle.shared_board.proofs.ListLemmas.{has_left, has_right, has_split}
use Rattle.shared_board.proofs.SeatLemmas.{not_nil, long_joined, seen_joined, sees_left, sees_right}
use Rattle.shared_board.proofs.RuleLemmas.{first, first_long, first_seen}
use Rattle.shared_board.proofs.SeenLemmas.{each_grows, seen_grows, looser_bound, lawful_grows}
use Rattle.shared_board.proofs.ClaimLemmas.{game_is}
use Rattle.std.proofs.lemmas.Int.{ints, to_z-of_z}
use Rattle.sim_game.specs.Sides.{IsNoTighter, opening_bound}
use Rattle.plan_book.specs.Backed.{IsBacked}
use Rattle.plan_book.proofs.BookLemmas.{entry_backed, entry_range}
use Rattle.bounds_board.proofs.PlainLemmas.{range_fits}
use Rattle.shared_board.proofs.BoundLemmas.{sees_more, seen_as, shaped_as, sees, low_fits, high_fits}

module _ {S G : Type 0} (m : GameModel S) where
  pub each_entered : (v w : View G) (es : List Entry) → ((p : ℕ × ℕ) → Has p v.keys → Has p w.keys) → ((x : ℕ × Side × ℕ) → Has x v.posted → Has x w.posted)
      → All (IsPostedEntry v) es → All (IsPostedEntry w) es
  each_entered v w es keys posted all = All-weaker (IsPostedEntry v) (IsPostedEntry w)
      (λ e b. record { row = b.row; known = keys (b.row, e.key) b.known; posted = posted (b.row, e.side, word_of e.bound) b.posted }) es all

  pub booked_as : (v w : View G) (es fs : List Entry) (i : ℕ) (side : Side) (x : ℕ) → ((p : ℕ × ℕ) → Has p v.keys → Has p w.keys) → ((e : Entry) → Has e es → Has e fs)
      → HasPostedEntry v es i side x → HasPostedEntry w fs i side x
  booked_as v w es fs i side x keys entries b = record {
    entry = b.entry;
    booked = entries b.entry b.booked;
    same_side = b.same_side;
    same_bound = b.same_bound;
    known =
        keys (i, b.entry.key) b.known;
  }

  -- a view that knows, has seen and has posted as much
  pub told_as : (v w : View G) (total : ℕ) (entries : List Entry) → ((p : ℕ × ℕ) → Has p v.keys → Has p w.keys) → AllNamed m w.keys → w.posted ≡ v.posted
      → ((side : Side) (i : ℕ) → IsLooser side (seen_at m side v i) (seen_at m side w i)) → ((side : Side) (i : ℕ) → IsUnseen m w side i) → IsTold m v total entries
      → IsTold m w total entries
  told_as v w total entries keys named posted sees unseen t = record {
    named = named;
    lawful = each_grows m v w total entries keys sees t.lawful;
    entered = each_entered v w entries keys (λ x h. subst (Has x) (sym posted) h) t.entered;
    booked = λ i side x h. booked_as v w entries entries i side x keys (λ e k. k) (t.booked i side x (subst (Has (i, side, x)) posted h));
    unseen = unseen;
  }

  -- what two passes of one game tell together
  module _ (v w : View G) (long : (side : Side) → length (seen side v) ≡ length (seen side w)) where
    lefts : (p : ℕ × ℕ) → Has p v.keys → Has p (joined v w).keys
    lefts p h = has_left p v.keys w.keys h

    rights : (p : ℕ × ℕ) → Has p w.keys → Has p (joined v w).keys
    rights p h = has_right p v.keys w.keys h

    unseen_joined : (side : Side) (i : ℕ) → IsUnseen m v side i → IsUnseen m w side i → IsUnseen m (joined v w) side i
    unseen_joined side i a b = ⊎_elim
        (λ (x : seen_at m side v i ≡ opening_word m side). ⊎_elim
        (λ (y : seen_at m side w i ≡ opening_word m side). inl (seen_joined m v w long side i ∙ ((λ c. tighter side (x c) (y c)) ∙ tighter_same side (opening_word m side))))
        (λ (y : (k : ℕ) × Has (i, k) w.keys). inr (y.0, rights (i, y.0) y.1)) b)
        (λ (x : (k : ℕ) × Has (i, k) v.keys). inr (x.0, lefts (i, x.0) x.1)) a

    pub knows_left : KnowsNoLess m v (joined v w)
    knows_left = record { keys = λ i k h. lefts (i, k) h; seen = λ side key. seen_grows m v (joined v w) side key lefts (sees_left m v w long side) }

    pub knows_right : KnowsNoLess m w (joined v w)
    knows_right = record { keys = λ i k h. rights (i, k) h; seen = λ side key. seen_grows m w (joined v w) side key rights (sees_right m v w long side) }

    told_joined : (total : ℕ) (es fs : List Entry) → IsTold m v total es → IsTold m w total fs → IsTold m (joined v w) total (es ++ fs)
    told_joined total es fs a b = record {
      named = λ i k h. ⊎_elim (λ (x : Has (i, k) v.keys). a.named i k x) (λ (x : Has (i, k) w.keys). b.named i k x) (has_split (i, k) v.keys w.keys h);
      lawful = All-append (IsEntry m total (IsKnown m (joined v w))) es fs (each_grows m v (joined v w) total es lefts (sees_left m v w long) a.lawful)
          (each_grows m w (joined v w) total fs rights (sees_right m v w long) b.lawful);
      entered = All-append (IsPostedEntry (joined v w)) es fs (each_entered v (joined v w) es lefts (λ x h. has_left x v.posted w.posted h) a.entered)
          (each_entered w (joined v w) fs rights (λ x h. has_right x v.posted w.posted h) b.entered);
      booked = λ i side x h. ⊎_elim
          (λ (y : Has (i, side, x) v.posted). booked_as v (joined v w) es (es ++ fs) i side x lefts (λ e k. has_left e es fs k) (a.booked i side x y))
          (λ (y : Has (i, side, x) w.posted). booked_as w (joined v w) fs (es ++ fs) i side x rights (λ e k. has_right e es fs k) (b.booked i side x y))
          (has_split (i, side, x) v.posted w.posted h);
      unseen = λ side i. unseen_joined side i (a.unseen side i) (b.unseen side i);
    }

module _ {S G : Type 0} (model : G → GameModel S) where
  -- passes of one table have seen as many rows
  pub long_both : (words words' : ℕ) (v w : View G) (slots slots' : List (ℕ × Unit {0})) (total total' : ℕ) (es fs : List Entry) (lead lead' : Bool) (issued issued' held held' : ℕ)
      → IsPass model words v slots total es lead issued held → IsPass model words' w slots' total' fs lead' issued' held' → words ≡ words' → (side : Side)
      → length (seen side v) ≡ length (seen side w)
  long_both words words' v w slots slots' total total' es fs lead lead' issued issued' held held' p q same side = let x = p.shaped side in let y = q.shaped side in omega arith

  pub pass_joined : (words words' : ℕ) (v w : View G) (slots slots' : List (ℕ × Unit {0})) (total : ℕ) (es fs entries : List Entry) (lead lead' lead'' : Bool)
      (issued issued' issued'' held held' held'' : ℕ) (b : Me (Unit {0}) (View G))
      → IsPass model words v slots total es lead issued held → IsPass model words w slots' total fs lead' issued' held' → v.game ≡ w.game → b ≡ (joined v w, slots) → words' ≡ words
      → entries ≡ es ++ fs → lead'' ≡ (lead || lead') → issued'' ≡ max issued issued' → held'' ≡ min (held + held') 4294967295
      → IsPass model words' b.0 b.1 total entries lead'' issued'' held''
  pass_joined words words' v w slots slots' total es fs entries lead lead' lead'' issued issued' issued'' held held' held'' b p q game is table all leads most sum =
      let long : (side : Side) → length (seen side v) ≡ length (seen side w) = λ side. (let x = p.shaped side in let y = q.shaped side in omega arith) in
      let da = p.issues in let db = q.issues in let fa = p.few in let fb = q.few in
      subst (λ (z : ℕ × Me (Unit {0}) (View G) × List Entry × Bool × ℕ × ℕ). IsPass model z.0 z.1.0 z.1.1 total z.2 z.3 z.4 z.5)
      (λ c. (sym table c, sym is c, sym all c, sym leads c, sym most c, sym sum c)) (record {
        no_slots = p.no_slots;
        leads = λ c. p.leads c || q.leads c;
        issues = λ c. max (da c) (db c);
        holds = (let ha = p.holds in let hb = q.holds in omega (arith, length-append v.tickets w.tickets));
        holder = not_nil v.tickets w.tickets p.holder;
        few = omega arith;
        inside = λ i k h. ⊎_elim (λ (x : Has (i, k) v.keys). p.inside i k x) (λ (x : Has (i, k) w.keys). q.inside i k x) (has_split (i, k) v.keys w.keys h);
        shaped = λ side. ap (λ (n : ℕ). 3 * n + 1) (long_joined side v w (length (seen side v)) refl (sym (long side))) ∙ p.shaped side;
        told = λ g e. told_joined (model g) v w long total es fs (p.told g e) (q.told g (sym game ∙ e));
      })

  -- a pass whose view is w now, which holds the same tickets
  pub pass_with : (words words' : ℕ) (v w : View G) (slots : List (ℕ × Unit {0})) (total : ℕ) (es fs es' : List Entry) (lead : Bool) (issued issued' held : ℕ)
      (b : Me (Unit {0}) (View G)) → IsPass model words v slots total es lead issued held
      → b.0 ≡ w → b.1 ≡ [] → words' ≡ words → es' ≡ fs → (w.lead ≡ v.lead) × (w.tickets ≡ v.tickets) → (w.issued ≡ issued') × (issued' ≤ 65535)
      → ((i k : ℕ) → Has (i, k) w.keys → 3 * i + 3 < words)
      → ((side : Side) → 3 * length (seen side w) + 1 ≡ words) → ((g : G) → w.game ≡ Some g → IsTold (model g) w total fs) → IsPass model words' b.0 b.1 total es' lead issued' held
  pass_with words words' v w slots total es fs es' lead issued issued' held b p is none table all same issues inside shaped told =
      subst (λ (z : ℕ × View G × List Entry). IsPass model z.0 z.1 b.1 total z.2 lead issued' held) (λ c. (sym table c, sym is c, sym all c)) (record {
        no_slots = none;
        leads = same.0 ∙ p.leads;
        issues = issues.0;
        holds = p.holds ∙ ap (λ (ns : List ℕ). min (length ns) 4294967295) (sym same.1);
        holder = λ e. p.holder (sym same.1 ∙ e);
        few = issues.1;
        inside = inside;
        shaped = shaped;
        told = told;
      })

  pub pass_issuing : (words words' : ℕ) (v : View G) (slots : List (ℕ × Unit {0})) (total : ℕ) (entries : List Entry) (lead : Bool) (issued held : ℕ) (b : Me (Unit {0}) (View G))
      → IsPass model words v slots total entries lead issued held
      → issued < 65535 → b ≡ (issuing v, slots) → words' ≡ words → IsPass model words' b.0 b.1 total entries lead (issued + 1) held
  pass_issuing words words' v slots total entries lead issued held b p room is table =
      pass_with words words' v (issuing v) slots total entries entries entries lead issued (issued + 1) held b p (ap (λ z. z.0) is) (ap (λ z. z.1) is ∙ p.no_slots) table refl
      (refl, refl) (ap (λ (n : ℕ). n + 1) p.issues, omega arith) p.inside p.shaped
      (λ g e. let t = p.told g e in told_as (model g) v (issuing v) total entries (λ p h. h) t.named refl (λ side i. word_refl side (seen_at (model g) side v i)) t.unseen t)

  pub pass_issued : (words words' : ℕ) (v : View G) (slots : List (ℕ × Unit {0})) (total total' : ℕ) (entries entries' : List Entry) (lead : Bool) (issued held : ℕ)
      (b : Me (Unit {0}) (View G)) → IsPass model words v slots total entries lead issued held
      → entries' ≡ [] → b ≡ (issued_view v, []) → words' ≡ words → IsPass model words' b.0 b.1 total' entries' false 0 1
  pass_issued words words' v slots total total' entries entries' lead issued held b p none is table =
      subst (λ (z : ℕ × Me (Unit {0}) (View G) × List Entry). IsPass model z.0 z.1.0 z.1.1 total' z.2 false 0 1) (λ c. (sym table c, sym is c, sym none c)) (record {
        no_slots = refl;
        leads = refl;
        issues = refl;
        holds = refl;
        holder = λ (e : v.issued ∷ [] ≡ []). cc;
        few = omega arith;
        inside = p.inside;
        shaped = p.shaped;
        told = λ g e. let w : View G = issued_view v in let t = p.told g e in
            record {
              named = t.named;
              lawful = All-nil (IsEntry (model g) total' (IsKnown (model g) w));
              entered = All-nil (IsPostedEntry w);
              booked =
                  λ i side x h. absurd h;
              unseen = t.unseen;
            };
      })

-- the pass of a new board
module _ {S G : Type 0} (model : G → GameModel S) (g : G) (rows : ℕ) where
  first_pass : (words total : ℕ) → words ≡ 3 * rows + 1 → IsPass model words (first (model g) g rows) [] total [] true 1 1
  first_pass words total wide = record {
    no_slots = refl;
    leads = refl;
    issues = refl;
    holds = refl;
    holder = λ (e : 0 ∷ [] ≡ []). cc;
    few = omega arith;
    inside = λ i k h. absurd h;
    shaped = λ side. ap (λ (n : ℕ). 3 * n + 1) (first_long (model g) g rows side) ∙ sym wide;
    told = λ h e. record {
      named = λ i k t. absurd t;
      lawful = All-nil (IsEntry (model h) total (IsKnown (model h) (first (model g) g rows)));
      entered = All-nil (IsPostedEntry (first (model g) g rows));
      booked = λ i side x t. absurd t;
      unseen = λ side i. inl (subst (λ (z : G). seen_at (model z) side (first (model g) g rows) i ≡ opening_word (model z) side) (game_is g h e)
          (first_seen (model g) g rows side i));
    };
  }

  pub pass_first : (words total : ℕ) (entries : List Entry) (b : Me (Unit {0}) (View G)) → words ≡ 3 * rows + 1 → b ≡ (first (model g) g rows, []) → entries ≡ []
      → IsPass model words b.0 b.1 total entries true 1 1
  pass_first words total entries b wide is none = subst (λ (z : Me (Unit {0}) (View G) × List Entry). IsPass model words z.0.0 z.0.1 total z.1 true 1 1)
      (λ c. (sym is c, sym none c)) (first_pass words total wide)

module _ {S G : Type 0} (model : G → GameModel S) where
  pub pass_claimed : (words words' : ℕ) (v : View G) (slots : List (ℕ × Unit {0})) (total : ℕ) (es : List Entry) (lead : Bool) (issued held : ℕ) (b : Me (Unit {0}) (View G))
      (ks : List (ℕ × ℕ))
      → IsPass model words v slots total es lead issued held → b.0 ≡ more_keys ks v → b.1 ≡ [] → words' ≡ words
      → ((g : G) → v.game ≡ Some g → AllNamed (model g) v.keys → AllNamed (model g) b.0.keys) → ((i k : ℕ) → Has (i, k) b.0.keys → 3 * i + 3 < words)
      → IsPass model words' b.0 b.1 total es lead issued held
  pass_claimed words words' v slots total es lead issued held b ks p is none table named inside =
      pass_with model words words' v (more_keys ks v) slots total es es es lead issued issued held b p is none table refl (refl, refl) (p.issues, p.few)
      (λ i k h. inside i k (subst (λ (z : View G). Has (i, k) z.keys) (sym is) h)) p.shaped
      (λ g e. let t = p.told g e in told_as (model g) v (more_keys ks v) total es (λ q h. has_right q ks v.keys h)
      (subst (λ (z : View G). AllNamed (model g) z.keys) is (named g e t.named)) refl
      (λ side i. word_refl side (seen_at (model g) side v i))
      (λ side i. ⊎_elim (λ (a : seen_at (model g) side v i ≡ opening_word (model g) side). inl a) (λ (b : (k : ℕ) × Has (i, k) v.keys). inr (b.0, has_right (i, b.0) ks v.keys b.1))
      (t.unseen side i)) t)

module _ {S : Type 0} (m : GameModel S) (game_laws : IsGame m) where
  pub word_low : (side : Side) (w : ℕ) → IsWordInRange m w → IsNoTighter side (opening_bound m side) (as_bound w)
  word_low One w h = let low = h.0 in let e = word_is (opening_bound m One) (low_fits m game_laws) in omega (arith, ints)
  word_low Two w h = let high = h.1 in let e = word_is (opening_bound m Two) (high_fits m game_laws) in omega (arith, ints)

  pub word_small : (w : ℕ) → IsWordInRange m w → w ≤ 8000000000
  word_small w h = let top = h.1 in let e = word_is (opening_bound m Two) (high_fits m game_laws) in let g = game_laws.high_most in omega (arith, ints)

  module _ (e : Entry) (total : ℕ) (Known : Side → S → ℤ → Type 0) (l : IsEntry m total Known e) where
    pub entry_low : neg_ℤ (pos 4000000000) ≤ℤ e.bound
    entry_low = let a = entry_range m game_laws total Known One e l in let c = game_laws.low_least in omega (arith, ints)

    -- the bound fits, so it comes back as it was handed over
    pub entry_small : (neg_ℤ (pos 4000000000) ≤ℤ to_z w64 (of_z w64 e.bound)) × (to_z w64 (of_z w64 e.bound) ≤ℤ pos 4000000000)
    entry_small = let low = entry_range m game_laws total Known One e l in let high = entry_range m game_laws total Known Two e l in let most = game_laws.high_most in
        rw (to_z-of_z w64 e.bound (range_fits m game_laws e.bound low high)) (entry_low, omega (arith, ints))

    pub entry_in_range : IsWordInRange m (word_of e.bound)
    entry_in_range = let low = low_fits m game_laws in let a = entry_range m game_laws total Known One e l in let b = entry_range m game_laws total Known Two e l in
        (word_mono (opening_bound m One) e.bound low a, word_mono e.bound (opening_bound m Two) entry_low b)

    pub entry_back : as_bound (word_of e.bound) ≡ e.bound
    entry_back = bound_word-back e.bound entry_low

    pub entry_proved : IsProved m e.side e.key (word_of e.bound)
    unfolding IsProved
    entry_proved s reached key = subst (IsBacked m e.side s) (sym entry_back) (entry_backed m total Known e s game_laws l reached (sym key))

  pub answers : {G : Type 0} (side : Side) (v : View G) (i w : ℕ) → IsLooser side (seen_at m side v i) w → IsWordInRange m w → ((k : ℕ) → Has (i, k) v.keys → IsProved m side k w)
      → IsBoundAnswer m side v i (as_bound w)
  unfolding IsProved
  answers side v i w no_looser in_range proved = record {
    no_looser = looser_bound side (seen_at m side v i) w no_looser;
    low = word_low One w in_range;
    high = word_low Two w in_range;
    backed = λ k h s reached key. proved k h s reached key;
  }

module _ {S G : Type 0} (m : GameModel S) where
  -- the key of the row is known
  pub unseen_sees : (side side' : Side) (v : View G) (i x j : ℕ) (posted : List (ℕ × Side × ℕ)) (loads k : ℕ) → Has (i, k) v.keys → IsUnseen m v side' j
      → IsUnseen m (sees side v i x posted loads) side' j
  unseen_sees side side' v i x j posted loads k known u = seen_as m side side' v i x j posted loads (λ z. (z ≡ opening_word m side') ⊎ ((q : ℕ) × Has (j, q) v.keys))
      (λ e is. inr (k, subst (λ (z : ℕ). Has (z, k) v.keys) is known)) u

module _ {S G : Type 0} (model : G → GameModel S) where
  pub pass_reading : (words words' : ℕ) (v : View G) (slots : List (ℕ × Unit {0})) (total : ℕ) (es : List Entry) (lead : Bool) (issued held : ℕ) (b : Me (Unit {0}) (View G))
      (rows : ℕ) (side : Side) (i n k : ℕ) → Has (i, k) v.keys
      → IsPass model words v slots total es lead issued held → b.0 ≡ reading side v i n → b.1 ≡ [] → words' ≡ words → words ≡ 3 * rows + 1
      → ((g : G) → v.game ≡ Some g → IsBound model side v i n g)
      → IsPass model words' b.0 b.1 total es lead issued held
  pass_reading words words' v slots total es lead issued held b rows side i n k known p is none table wide told =
      pass_with model words words' v (reading side v i n) slots total es es es lead issued issued held b p is none table refl (refl, refl) (p.issues, p.few) p.inside
      (λ side'. ap (λ (k : ℕ). 3 * k + 1) (shaped_as rows side side' v i n v.posted (v.loads + 1) (λ side'. (let x = p.shaped side' in omega arith))) ∙ sym wide)
      (λ g e. let t = p.told g e in told_as (model g) v (reading side v i n) total es (λ q h. h) t.named refl
      (λ side' j. sees_more (model g) side side' v i n j v.posted (v.loads + 1) (told g e).no_looser)
      (λ side' j. unseen_sees (model g) side side' v i n j v.posted (v.loads + 1) k known (t.unseen side' j)) t)

  pub pass_posted : (words words' : ℕ) (v : View G) (slots : List (ℕ × Unit {0})) (total : ℕ) (es es' : List Entry) (lead : Bool) (issued held : ℕ) (b : Me (Unit {0}) (View G))
      (rows i n : ℕ) (e : Entry)
      → IsPass model words v slots total es lead issued held → b.0 ≡ posting e.side v i (word_of e.bound) n → b.1 ≡ [] → words' ≡ words → words ≡ 3 * rows + 1
      → ((g : G) → v.game ≡ Some g → IsBound model e.side v i n g)
      → es' ≡ es ++ e ∷ [] → Has (i, e.key) v.keys → ((g : G) → v.game ≡ Some g → IsEntry (model g) total (IsKnown (model g) v) e)
      → IsPass model words' b.0 b.1 total es' lead issued held
  pass_posted words words' v slots total es es' lead issued held b rows i n e p is none table wide told all known lawful =
      let x : ℕ = word_of e.bound in let new : ℕ = tighter e.side n x in let posted : List (ℕ × Side × ℕ) = (i, e.side, x) ∷ v.posted in let w : View G = posting e.side v i x n in
      pass_with model words words' v w slots total es (es ++ e ∷ []) es' lead issued issued held b p is none table all (refl, refl) (p.issues, p.few) p.inside
      (λ side'. ap (λ (k : ℕ). 3 * k + 1) (shaped_as rows e.side side' v i new posted v.loads (λ side'. (let x = p.shaped side' in omega arith))) ∙ sym wide)
      (λ g is'. let m = model g in let t = p.told g is' in
      let sees : (side' : Side) (j : ℕ) → IsLooser side' (seen_at m side' v j) (seen_at m side' w j) = λ side' j. sees_more m e.side side' v i new j posted v.loads
      (word_trans e.side (seen_at m e.side v i) n new (told g is').no_looser (word_left e.side n x)) in record {
        named = t.named;
        lawful = All-push (IsEntry m total (IsKnown m w)) es e (each_grows m v w total es (λ q k. k) sees t.lawful) (lawful_grows m v w total e (λ q k. k) sees (lawful g is'));
        entered = All-push (IsPostedEntry w) es e (each_entered m v w es (λ q k. k) (λ q k. inr k) t.entered) (record { row = i; known = known; posted = inl refl });
        booked = λ j side' y h. ⊎_elim
            (λ (here : (j, side', y) ≡ (i, e.side, x)). subst (λ (q : ℕ × Side × ℕ). HasPostedEntry w (es ++ e ∷ []) q.0 q.1 q.2) (sym here)
            (record { entry = e; booked = has_right e es (e ∷ []) (inl refl); same_side = refl; same_bound = refl; known = known }))
            (λ (old : Has (j, side', y) v.posted). booked_as m v w es (es ++ e ∷ []) j side' y (λ q k. k) (λ f k. has_left f es (e ∷ []) k) (t.booked j side' y old)) h;
        unseen = λ side' j. unseen_sees m e.side side' v i new j posted v.loads e.key known (t.unseen side' j);
      })
