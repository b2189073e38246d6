-- A desk as a search sees it: what stays, what grows, what its calls tell, and the rows that it has met.
use Rattle.std.proofs.Common.{◌≡◌, ◌≢◌, ⊎_elim, ℕ, ◌+◌, ◌<◌, ◌≤◌, ℤ, Bool, true, false, cond, eqb, None, Some, IsSome, List, ◌∷◌, ◌++◌, length, sym}
use Rattle.std.proofs.Common.{refl, ap, ◌∙◌, subst, arith, Result, Ok, Err, OnOk, OnErr, get_or-set_same, All}
use Rattle.std.proofs.lemmas.Int.{ints}
use Rattle.sim_game.specs.declared.Side.{Side}
use Rattle.sim_game.specs.declared.Side.TheVariants.{One, Two}
use Rattle.sim_game.specs.Model.{GameModel, IsGame, IsEnd, Reachable}
use Rattle.sim_game.specs.Sides.{IsNoTighter, opening_bound, state_bound, end_bound}
use Rattle.sim_game.proofs.SideLemmas.{looser_refl, looser_trans, looser_left, looser_right, looser_both, better_left, better_right, opening_state, end_range}
use Rattle.plan_book.specs.declared.Entry.{Entry}
use Rattle.plan_book.specs.Entries.{IsEntry}
use Rattle.bounds_board.specs.Views.{BoardView, IsLater, IsInnerKey, IsFull, IsSeenNumber, by_end, by_range, by_seen, IsPostable, IsRead, IsEnclosure}
use Rattle.bounds_board.proofs.PlainLemmas.{entry_weaker}
use Rattle.shared_board.specs.Words.{IsLooser, tighter, word_of, as_bound, opening_word}
use Rattle.shared_board.specs.Rule.{Has, seen, seen_at}
use Rattle.shared_board.specs.Plays.{more_keys, reading, posting, IsApart, AllNamed}
use Rattle.shared_board.specs.Passes.{known_key, seen_by, known_by, IsKnown, IsUnseen, IsBoundAnswer}
use Rattle.shared_board.specs.Values.{DeskValue, viewing, entering, desk_view}
use Rattle.shared_board.specs.declared.view.View.{View}
use Rattle.shared_board.proofs.ListLemmas.{has_right}
use Rattle.shared_board.proofs.WordLemmas.{word_refl, word_trans, word_left, word_right}
use Rattle.shared_board.proofs.BoundLemmas.{sees_more, opening_back, seen_here}
use Rattle.shared_board.proofs.SeenLemmas.{looser_bound, key_of_has, has_key_of, seen_opening, seen_has, seen_most, seen_grows, seen_one}
use Rattle.shared_board.proofs.PassLemmas.{entry_back}
use Rattle.std.proofs.lemmas.List.Elements.{All-cons, All-contains, All-weaker}
use Rattle.shared_board.specs.Known.{IsPlace, AreKnown, IsFreeOrIn}
use Rattle.shared_board.specs.declared.known.Place.{Place}

-- ---- answers
pub ok_always : {A E : Type 0} (r : Result A E) (Q : Type 0) → Q → OnOk r Q
ok_always (Ok x) Q h = h
ok_always (Err e) Q h = tt

pub either_way : {A E : Type 0} (r : Result A E) (P Q X : Type 0) → (P → X) → (Q → X) → OnOk r P → OnErr r Q → X
either_way (Ok x) P Q X f g h k = f h
either_way (Err e) P Q X f g h k = g k

pub key_known : (ks : List (ℕ × ℕ)) (row : ℕ) → IsSome (known_key ks row) → (k : ℕ) × Has (row, k) ks
key_known ks row h = elim (known_key ks row) as (λ o. known_key ks row ≡ o → IsSome o → (k : ℕ) × Has (row, k) ks) [ None ↦ λ _ h. cc | Some k ↦ λ e _. (k, has_key_of ks row k e) ]
    refl h

pub key_stays : (ks ls : List (ℕ × ℕ)) → ((p : ℕ × ℕ) → Has p ks → Has p ls) → IsApart ls → (row key : ℕ) → known_key ks row ≡ Some key → known_key ls row ≡ Some key
key_stays ks ls keys apart row key e = let h = keys (row, key) (has_key_of ks row key e) in key_of_has ls row key (λ l t. apart.one_key row l key t h) h

-- ---- numbers that were seen
module _ {S G N : Type 0} (m : GameModel S) (game : IsGame m) (v : View G) (named : AllNamed m v.keys) (b : BoardView G N) where
  -- no key of an end is known
  seen_at_end : (side : Side) (s : S) → Reachable m s → IsEnd m s → IsNoTighter side (seen_by m v side (m.key s)) (opening_bound m side)
  seen_at_end side s r e = seen_most m side v v.keys (m.key s) (opening_bound m side) (looser_refl side (opening_bound m side))
      (λ i h. let n = named i (m.key s) h in let same : n.state ≡ s = game.same_key n.state s n.reachable r n.is_key in let on : 1 ≤ m.rank n.state = n.goes_on in
      let at : m.rank n.state ≡ m.rank s = ap m.rank same in absurd (omega arith))

  -- what is known of an end is no tighter than its payoff
  known_at_end : (side : Side) (s : S) → Reachable m s → IsEnd m s → IsNoTighter side (seen_by m v side (m.key s)) (end_bound m s)
  known_at_end side s r e = looser_trans side _ _ _ (seen_at_end side s r e) (looser_trans side _ _ _ (opening_state m side s game r) (end_range m side s game r e))

  known_of : ((side : Side) (key : ℕ) → b.seen side key ≡ seen_by m v side key) → (side : Side) (s : S) (x : ℤ) (t : Bool) → eqb (m.rank s) 0 ≡ t → (t ≡ true → IsEnd m s)
      → Reachable m s → IsSeenNumber m b side s x
      → IsNoTighter side x (cond t (end_bound m s) (known_by m v side s))
  known_of is side s x true e end r (by_end z h) = looser_right side x x (end_bound m s) h (looser_refl side x)
  known_of is side s x true e end r (by_range h) = looser_trans side x _ _ h (end_range m side s game r (end refl))
  known_of is side s x true e end r (by_seen h) = looser_trans side x (b.seen side (m.key s)) _ h
      (looser_left side _ _ _ (sym (is side (m.key s))) (known_at_end side s r (end refl)))
  known_of is side s x false e end r (by_end z h) = let no : true ≡ false = ap (λ (n : ℕ). eqb n 0) (sym z) ∙ e in cc
  known_of is side s x false e end r (by_range h) = looser_trans side x _ _ h (better_right side (seen_by m v side (m.key s)) (state_bound m side s))
  known_of is side s x false e end r (by_seen h) = looser_trans side x (b.seen side (m.key s)) _ h
      (looser_left side _ _ _ (sym (is side (m.key s))) (better_left side (seen_by m v side (m.key s)) (state_bound m side s)))

  pub known_entry : (e : Entry) → ((side : Side) (key : ℕ) → b.seen side key ≡ seen_by m v side key) → IsPostable m b e → IsEntry m b.total (IsKnown m v) e
  known_entry e is h = entry_weaker m b.total (IsSeenNumber m b) (IsKnown m v) e
      (λ s x r k. known_of is e.side s x (eqb (m.rank s) 0) refl (λ h. Rattle.std.proofs.lemmas.Bool.eqb-true (m.rank s) 0 h) r k) h

-- what a read tells of the states of a key
pub read_backed : {S G : Type 0} (m : GameModel S) (v : View G) (i : ℕ) (lower upper : ℤ) → IsBoundAnswer m One v i lower → IsBoundAnswer m Two v i upper → (s : S) → Reachable m s
    → known_key v.keys i ≡ Some (m.key s) → IsEnclosure m lower upper s
read_backed m v i lower upper low up s r e = let known = has_key_of v.keys i (m.key s) e in record {
  lower_backed = low.backed (m.key s) known s r refl;
  upper_backed = up.backed (m.key s) known s r refl;
  lower_low = low.low;
  lower_high = low.high;
  upper_low = up.low;
  upper_high = up.high;
}

module _ {S G : Type 0} (model : G → GameModel S) where
  -- what a view that knows and has seen as much gives
  later_as : (d : DeskValue G) (w : View G) → w.lead ≡ d.pass.view.lead → w.issued ≡ d.pass.view.issued → w.tickets ≡ d.pass.view.tickets
      → ((row key : ℕ) → known_key d.pass.view.keys row ≡ Some key → known_key w.keys row ≡ Some key) → ((p : ℕ × ℕ) → Has p d.pass.view.keys → Has p w.keys)
      → ((side : Side) (i : ℕ) → IsLooser side (seen_at (model d.board.game) side d.pass.view i) (seen_at (model d.board.game) side w i))
      → IsLater (desk_view model d) (desk_view model (viewing d w))
  later_as d w lead issued tickets stays keys sees = record {
    name = λ k. record { table = d.pass.name; lead = lead k; issued = issued k; tickets = tickets k };
    game = refl;
    total = refl;
    rows = refl;
    keys = stays;
    seen = λ side key. seen_grows (model d.board.game) d.pass.view w side key keys (sees side);
  }

  -- ---- claims
  module _ (d d' : DeskValue G) (ks : List (ℕ × ℕ)) (is : d' ≡ viewing d (more_keys ks d.pass.view)) (apart : IsApart d'.pass.view.keys) where
    now_apart : IsApart (ks ++ d.pass.view.keys)
    now_apart = subst (λ (z : DeskValue G). IsApart z.pass.view.keys) is apart

    sees_same : (side : Side) (i : ℕ) → IsLooser side (seen_at (model d.board.game) side d.pass.view i) (seen_at (model d.board.game) side (more_keys ks d.pass.view) i)
    sees_same side i = word_refl side (seen_at (model d.board.game) side d.pass.view i)

    pub claim_later : IsLater (desk_view model d) (desk_view model d')
    claim_later = subst (λ (z : DeskValue G). IsLater (desk_view model d) (desk_view model z)) (sym is)
        (later_as d (more_keys ks d.pass.view) refl refl refl (key_stays d.pass.view.keys (ks ++ d.pass.view.keys) (λ p h. has_right p ks d.pass.view.keys h) now_apart)
        (λ p h. has_right p ks d.pass.view.keys h) sees_same)

    pub claim_opened : (side : Side) (key : ℕ) → IsNoTighter side (opening_bound (model d.board.game) side) (seen_by (model d'.board.game) d'.pass.view side key)
    claim_opened side key = subst (λ (z : DeskValue G). IsNoTighter side (opening_bound (model d.board.game) side) (seen_by (model z.board.game) z.pass.view side key)) (sym is)
        (seen_opening (model d.board.game) side (more_keys ks d.pass.view) (ks ++ d.pass.view.keys) key)

    -- what was seen stays as it was
    module _ (game : IsGame (model d.board.game)) (unseen : (side : Side) (i : ℕ) → IsUnseen (model d.board.game) d.pass.view side i) where
      abbrev m : GameModel S
      m = model d.board.game

      no_more : (side : Side) (key i : ℕ) → Has (i, key) (ks ++ d.pass.view.keys)
          → IsNoTighter side (as_bound (seen_at m side (more_keys ks d.pass.view) i)) (seen_by m d.pass.view side key)
      no_more side key i h = ⊎_elim
          (λ (e : seen_at m side d.pass.view i ≡ opening_word m side). looser_left side (opening_bound m side) (as_bound (seen_at m side d.pass.view i))
          (seen_by m d.pass.view side key)
          (sym (ap as_bound e ∙ opening_back m game side)) (seen_opening m side d.pass.view d.pass.view.keys key))
          (λ (o : (k : ℕ) × Has (i, k) d.pass.view.keys). let same : o.0 ≡ key = now_apart.one_key i o.0 key (has_right (i, o.0) ks d.pass.view.keys o.1) h in
          seen_has m side d.pass.view d.pass.view.keys i key (subst (λ (z : ℕ). Has (i, z) d.pass.view.keys) same o.1)) (unseen side i)

      pub claim_unseen : (side : Side) (key : ℕ) → seen_by (model d'.board.game) d'.pass.view side key ≡ seen_by m d.pass.view side key
      claim_unseen side key = subst (λ (z : DeskValue G). seen_by (model z.board.game) z.pass.view side key ≡ seen_by m d.pass.view side key) (sym is)
          (looser_both side (seen_by m (more_keys ks d.pass.view) side key) (seen_by m d.pass.view side key)
          (seen_most m side (more_keys ks d.pass.view) (ks ++ d.pass.view.keys) key (seen_by m d.pass.view side key) (seen_opening m side d.pass.view d.pass.view.keys key)
          (λ i h. no_more side key i h))
          (seen_grows m d.pass.view (more_keys ks d.pass.view) side key (λ p h. has_right p ks d.pass.view.keys h) (sees_same side)))

    pub claim_full : (key : ℕ) → IsInnerKey (model d.board.game) key → AllNamed (model d.board.game) d'.pass.view.keys
        → ((i : ℕ) → i < d.board.rows → (k : ℕ) × Has (i, k) d'.pass.view.keys × (k ≢ key))
        → IsFull (model d.board.game) (desk_view model d') key
    claim_full key inner named others = let rows : d'.board.rows ≡ d.board.rows = ap (λ (z : DeskValue G). z.board.rows) is in record {
      inner = inner;
      others = λ row l. let o = others row (subst (λ (n : ℕ). row < n) rows l) in
          (o.0, key_of_has d'.pass.view.keys row o.0 (λ q t. apart.one_key row q o.0 t o.1) o.1, named row o.0 o.1, o.2);
      apart = λ row other k _ _ p q. apart.one_row row other k (has_key_of d'.pass.view.keys row k p) (has_key_of d'.pass.view.keys other k q);
    }

  looser_back : (side : Side) (a b : ℕ) → IsNoTighter side (as_bound a) (as_bound b) → IsLooser side a b
  looser_back One a b h = omega (arith, ints)
  looser_back Two a b h = omega (arith, ints)

  -- ---- reads
  module _ (d d' : DeskValue G) (i a b : ℕ) (lower upper : ℤ) (is : d' ≡ viewing d (reading Two (reading One d.pass.view i a) i b)) (is_lower : lower ≡ as_bound a)
      (is_upper : upper ≡ as_bound b)
      (low : IsBoundAnswer (model d.board.game) One d.pass.view i lower) (up : IsBoundAnswer (model d.board.game) Two d.pass.view i upper)
      (shaped : (side : Side) → (i < d.board.rows) × (length (seen side d.pass.view) ≡ d.board.rows)) where
    abbrev first : View G
    first = reading One d.pass.view i a

    abbrev second : View G
    second = reading Two first i b

    read_sees : (side : Side) (j : ℕ) → IsLooser side (seen_at (model d.board.game) side d.pass.view j) (seen_at (model d.board.game) side second j)
    read_sees side j = let m = model d.board.game in let v = d.pass.view in
        let lows : IsLooser One (seen_at m One v i) a = looser_back One (seen_at m One v i) a (subst (IsNoTighter One (as_bound (seen_at m One v i))) is_lower low.no_looser) in
        let ups : IsLooser Two (seen_at m Two v i) b = looser_back Two (seen_at m Two v i) b (subst (IsNoTighter Two (as_bound (seen_at m Two v i))) is_upper up.no_looser) in
        word_trans side (seen_at m side v j) (seen_at m side first j) (seen_at m side second j)
        (sees_more m One side v i a j v.posted (v.loads + 1) lows) (sees_more m Two side first i b j first.posted (first.loads + 1) ups)

    pub read_later : IsLater (desk_view model d) (desk_view model d')
    read_later = subst (λ (z : DeskValue G). IsLater (desk_view model d) (desk_view model z)) (sym is) (later_as d second refl refl refl (λ row key e. e) (λ p h. h) read_sees)

    pub read_seen : IsApart d.pass.view.keys → (key : ℕ) → known_key d.pass.view.keys i ≡ Some key → IsRead (desk_view model d') lower upper key
    read_seen apart key e = let m = model d.board.game in let known = has_key_of d.pass.view.keys i key e in
        let long = (shaped One).1 in let tall = (shaped Two).1 in let inside = (shaped One).0 in
        let one : lower ≡ as_bound (seen_at m One second i) = is_lower ∙ ap as_bound (sym (get_or-set_same d.pass.view.lower i a (opening_word m One) (omega arith))) in
        let two : upper ≡ as_bound (seen_at m Two second i) = is_upper ∙ ap as_bound (sym (get_or-set_same d.pass.view.upper i b (opening_word m Two) (omega arith))) in
        subst (λ (z : DeskValue G). IsRead (desk_view model z) lower upper key) (sym is) (record {
          lower_seen = one ∙ seen_one m second One i key apart known (looser_right One (opening_bound m One) lower (as_bound (seen_at m One second i)) one low.low);
          upper_seen = two ∙ seen_one m second Two i key apart known (looser_right Two (opening_bound m Two) upper (as_bound (seen_at m Two second i)) two up.high);
        })

  -- ---- posts
  module _ (d d' : DeskValue G) (i : ℕ) (e : Entry) (did : (n : ℕ) × (d' ≡ entering d (posting e.side d.pass.view i (word_of e.bound) n) e)
      × IsLooser e.side (seen_at (model d.board.game) e.side d.pass.view i) n × (i < d.board.rows) × (length (seen e.side d.pass.view) ≡ d.board.rows)) where
    abbrev after : View G
    after = posting e.side d.pass.view i (word_of e.bound) did.0

    pub post_later : IsLater (desk_view model d) (desk_view model d')
    post_later = let m = model d.board.game in let v = d.pass.view in let x : ℕ = word_of e.bound in let n = did.0 in
        let later = later_as d after refl refl refl (λ row key h. h) (λ p h. h) (λ side j. sees_more m e.side side v i (tighter e.side n x) j ((i, e.side, x) ∷ v.posted) v.loads
        (word_trans e.side (seen_at m e.side v i) n (tighter e.side n x) did.2 (word_left e.side n x))) in
        subst (λ (z : DeskValue G). IsLater (desk_view model d) (desk_view model z)) (sym did.1)
        (record { name = later.name; game = later.game; total = later.total; rows = later.rows; keys = later.keys; seen = later.seen })

    pub post_seen : IsGame (model d.board.game) → (total : ℕ) (Known : Side → S → ℤ → Type 0) → IsEntry (model d.board.game) total Known e
        → known_key d.pass.view.keys i ≡ Some e.key
        → IsNoTighter e.side e.bound ((desk_view model d').seen e.side e.key)
    post_seen game total Known lawful key = let m = model d.board.game in let v = d.pass.view in let x : ℕ = word_of e.bound in let n = did.0 in
        let here : as_bound (tighter e.side n x) ≡ as_bound (seen_at m e.side after i) =
        ap as_bound (sym (seen_here m d.board.rows e.side v i (tighter e.side n x) ((i, e.side, x) ∷ v.posted) v.loads did.4 did.3)) in
        let low : IsNoTighter e.side e.bound (as_bound (seen_at m e.side after i)) =
        looser_right e.side e.bound (as_bound (tighter e.side n x)) (as_bound (seen_at m e.side after i)) here
        (looser_left e.side (as_bound x) e.bound (as_bound (tighter e.side n x)) (entry_back m game e total Known lawful)
        (looser_bound e.side x (tighter e.side n x) (word_right e.side n x))) in
        let known : Has (i, e.key) after.keys = has_key_of v.keys i e.key key in
        subst (λ (z : DeskValue G). IsNoTighter e.side e.bound ((desk_view model z).seen e.side e.key)) (sym did.1)
        (looser_trans e.side e.bound (as_bound (seen_at m e.side after i)) (seen_by m after e.side e.key) low (seen_has m e.side after after.keys i e.key known))

-- no less is known
pub known_more : (ks old new : List (ℕ × ℕ)) (places : List Place) → new ≡ ks ++ old → IsApart new → AreKnown old places → AreKnown new places
known_more ks old new places is apart = All-weaker (IsPlace old) (IsPlace new) more places where
  more : (place : Place) → IsPlace old place → IsPlace new place
  more place h = record { taken = λ row e. record { has = subst (Has (row, place.key)) (sym is) (has_right (row, place.key) ks old (h.taken row e).has); apart = apart } }

-- a row is kept
pub known_kept : (keys : List (ℕ × ℕ)) (old new : List Place) (x : Place) → All (IsFreeOrIn (x ∷ old)) new → IsPlace keys x → AreKnown keys old → AreKnown keys new
known_kept keys old new x places here known = All-weaker (IsFreeOrIn (x ∷ old)) (IsPlace keys) is new places where
  is : (place : Place) → IsFreeOrIn (x ∷ old) place → IsPlace keys place
  is place = ⊎_elim (λ free. record { taken = λ row e. absurd (omega arith) })
      (λ stood. All-contains (IsPlace keys) (x ∷ old) place (All-cons (IsPlace keys) x old here known) stood)
