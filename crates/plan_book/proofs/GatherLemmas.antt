-- The best entries by key, and the states that they reach.
use Rattle.std.proofs.Common.{◌≡◌, ℕ, zero, suc, ◌+◌, ◌<◌, ◌≤◌, Bool, true, false, cond, ◌&&◌, eqb, Option, None, Some, option_and_then, List, [], ◌∷◌, length, take, ◌-◌, inl, inr, length-append, get_or, slice_get, refl, sym, ap, ◌∙◌, arith}
use Rattle.std.proofs.lemmas.Bool.{eqb-true}
use Rattle.std.proofs.lemmas.List.{get_or_append_left, get_or-append-add}
use Rattle.std.proofs.Math.Seq.{get_or-append_right}
use Rattle.std.proofs.lemmas.List.Sums.{fold_more}
use Rattle.std.specs.Option.{IfSome}
use Rattle.sim_game.specs.declared.Side.{Side}
use Rattle.plan_book.specs.declared.Entry.{Entry}
use Rattle.std.proofs.lemmas.Bool.{cases_lt}
use Rattle.sim_game.specs.Model.{GameModel}
use Rattle.plan_book.specs.Entries.{concat_below}
use Rattle.plan_book.specs.Children.{children_of_pair, children_of_move, children_of_weighted, children_of}
use Rattle.sim_game.specs.Sides.{other_side, draws_of, child_of}
use Rattle.plan_book.proofs.ExpectedLemmas.{is_same, is_other}
use Rattle.plan_book.specs.Books.{same_side, beats, better_entry, best_entry}

pub item_at : {X : Type 0} (xs : List X) (n : ℕ) (e : X) → n < length xs → e ≡ get_or xs n e → slice_get xs n ≡ Some e
item_at [] n e h is = absurd (omega arith)
item_at (x ∷ xs) zero e h is = ap Some (sym is)
item_at (x ∷ xs) (suc n) e h is = item_at xs n e (omega arith) is

and_false : (b : Bool) → (b && false) ≡ false
and_false true = refl
and_false false = refl

and_true : (b : Bool) → (b && true) ≡ b
and_true true = refl
and_true false = refl

picked : (xs : List Entry) (n : ℕ) (e : Entry) (test : Bool) (old : Option ℕ) (kept : Option Entry) → slice_get xs n ≡ Some e → option_and_then (slice_get xs) old ≡ kept
    → option_and_then (slice_get xs) (cond test (Some n) old) ≡ cond test (Some e) kept
picked xs n e true old kept item was = item
picked xs n e false old kept item was = was

place_more : (side : Side) (xs : List Entry) (n : ℕ) (e : Entry) (here test : Bool) (old new : Option ℕ) (kept : Option Entry) → slice_get xs n ≡ Some e
    → option_and_then (slice_get xs) old ≡ kept → new ≡ cond (test && here) (Some n) old → (here ≡ true → test ≡ (same_side e.side side && beats side e kept))
    → option_and_then (slice_get xs) new ≡ cond (same_side e.side side && (here && beats side e kept)) (Some e) kept
place_more side xs n e false test old new kept item was is better = rw (is, and_false test, and_false (same_side e.side side)) was
place_more side xs n e true test old new kept item was is better = rw (is, and_true test, ← better refl) (picked xs n e test old kept item was)

-- the place for a key after one more entry
pub best_more : (side : Side) (xs : List Entry) (n : ℕ) (e : Entry) (key : ℕ) (test : Bool) (places : ℕ → Option ℕ) (new : Option ℕ) → n < length xs → e ≡ get_or xs n e
    → ((k : ℕ) → option_and_then (slice_get xs) (places k) ≡ best_entry side (take n xs) k)
    → test ≡ (same_side e.side side && beats side e (option_and_then (slice_get xs) (places e.key)))
    → new ≡ cond (test && eqb e.key key) (Some n) (places key)
    → option_and_then (slice_get xs) new ≡ best_entry side (take (n + 1) xs) key
best_more side xs n e key test places new h is was better is_new =
    place_more side xs n e (eqb e.key key) test (places key) new (best_entry side (take n xs) key) (item_at xs n e h is) (was key) is_new
    (λ same. better ∙ ap (λ (o : Option Entry). same_side e.side side && beats side e o) (ap (λ (k : ℕ). option_and_then (slice_get xs) (places k)) (eqb-true e.key key same) ∙ was key))
    ∙ ap (λ (x : Entry). better_entry side key (best_entry side (take n xs) key) x) is
    ∙ sym (fold_more (better_entry side key) None xs n e h)

-- it is one of the places so far
pub within_more : (n key : ℕ) (test : Bool) (old new : Option ℕ) → IfSome old (λ j. j < n) → new ≡ cond test (Some n) old → IfSome new (λ j. j < n + 1)
within_more n key true old new was is = rw is (omega arith)
within_more n key false old new was is = rw is (later old was)
  where
    later : (o : Option ℕ) → IfSome o (λ j. j < n) → IfSome o (λ j. j < n + 1)
    later None h = tt
    later (Some j) h = omega arith

-- ---- the children of a state, by place
concat_has : {X : Type 0} (n : ℕ) (f : ℕ → List X) (i k : ℕ) → i < n → k < length (f i) → (j : ℕ) × (j < length (concat_below n f)) × ((d : X) → get_or (concat_below n f) j d ≡ get_or (f i) k d)
concat_has zero f i k h p = absurd (omega arith)
concat_has (suc n) f i k h p = elim (cases_lt i n) [
  | inl earlier ↦
      let before = concat_has n f i k earlier p in
      (before.0, rw length-append (omega (arith, before.1)), λ d. get_or_append_left (concat_below n f) (f n) d before.0 before.1 ∙ before.2 d)
  | inr last ↦
      let same : i ≡ n = omega arith in
      let q : k < length (f n) = rw same at p in
      (length (concat_below n f) + k, rw length-append (omega arith), λ d. get_or-append-add (concat_below n f) (f n) k d ∙ ap (λ (x : ℕ). get_or (f x) k d) (sym same))
]

concat_from : {X : Type 0} (n : ℕ) (f : ℕ → List X) (j : ℕ) → j < length (concat_below n f)
    → (i : ℕ) × (i < n) × ((k : ℕ) × (k < length (f i)) × ((d : X) → get_or (concat_below n f) j d ≡ get_or (f i) k d))
concat_from zero f j h = absurd (omega arith)
concat_from (suc n) f j h = elim (cases_lt j (length (concat_below n f))) [
  | inl earlier ↦
      let before = concat_from n f j earlier in
      (before.0, omega (arith, before.1), (before.2.0, before.2.1, λ d. get_or_append_left (concat_below n f) (f n) d j earlier ∙ before.2.2 d))
  | inr later ↦
      let whole : j < length (concat_below n f) + length (f n) = rw length-append at h in
      (n, omega arith, (j - length (concat_below n f), omega arith, λ d. get_or-append_right (concat_below n f) (f n) j d later))
]

-- a state that follows by an own move of positive weight
pub record IsChild {S : Type 0} (m : GameModel S) (side : Side) (weights : List ℕ) (s child : S) : Type 0 where
  pub own : ℕ
  pub reply : ℕ
  pub draw : ℕ
  pub own_below : own < m.moves side s
  pub reply_below : reply < m.moves (other_side side) s
  pub draw_below : draw < draws_of m side s own reply
  pub positive : 1 ≤ get_or weights own 0
  pub is : child ≡ child_of m side s own reply draw

module _ {S : Type 0} (m : GameModel S) (side : Side) (weights : List ℕ) (s : S) where
  weighted_move : (own : ℕ) → 1 ≤ get_or weights own 0 → children_of_weighted m side weights s own ≡ children_of_move m side s own
  weighted_move own h = ap (λ (b : Bool). cond b [] (children_of_move m side s own)) (is_other (get_or weights own 0) 0 (λ e. omega arith))

  no_move : (own k : ℕ) → k < length (children_of_weighted m side weights s own) → 1 ≤ get_or weights own 0
  no_move own k h = elim (cases_lt 0 (get_or weights own 0)) [
    | inl some ↦ some
    | inr none ↦
        let empty : children_of_weighted m side weights s own ≡ [] = ap (λ (b : Bool). cond b [] (children_of_move m side s own)) (is_same (get_or weights own 0) 0 (omega arith)) in
        let h' : k < 0 = rw empty at h in
        absurd (omega arith)
  ]

  -- each child stands in the list
  pub child_place : (own reply draw : ℕ) → own < m.moves side s → reply < m.moves (other_side side) s → draw < draws_of m side s own reply → 1 ≤ get_or weights own 0
      → (k : ℕ) × (k < length (children_of m side weights s)) × ((d : S) → get_or (children_of m side weights s) k d ≡ child_of m side s own reply draw)
  child_place own reply draw p q u w =
      let pair = concat_has (draws_of m side s own reply) (λ d. child_of m side s own reply d ∷ []) draw 0 u (omega arith) in
      let move = concat_has (m.moves (other_side side) s) (children_of_pair m side s own) reply pair.0 q pair.1 in
      let e = weighted_move own w in
      let all = concat_has (m.moves side s) (children_of_weighted m side weights s) own move.0 p (rw e move.1) in
      (all.0, all.1, λ d. all.2 d ∙ ap (λ (xs : List S). get_or xs move.0 d) e ∙ move.2 d ∙ pair.2 d)

  -- and each item of the list is a child
  pub item_child : (k : ℕ) (d : S) → k < length (children_of m side weights s) → IsChild m side weights s (get_or (children_of m side weights s) k d)
  item_child k d h =
      let all = concat_from (m.moves side s) (children_of_weighted m side weights s) k h in
      let own = all.0 in
      let w = no_move own all.2.0 all.2.1 in
      let e = weighted_move own w in
      let place : all.2.0 < length (children_of_move m side s own) = rw e at all.2.1 in
      let move = concat_from (m.moves (other_side side) s) (children_of_pair m side s own) all.2.0 place in
      let pair = concat_from (draws_of m side s own move.0) (λ x. child_of m side s own move.0 x ∷ []) move.2.0 move.2.1 in
      let first : pair.2.0 ≡ 0 = omega (arith, pair.2.1) in
      record {
        own = own;
        reply = move.0;
        draw = pair.0;
        own_below = all.1;
        reply_below = move.1;
        draw_below = pair.1;
        positive = w;
        is = all.2.2 d ∙ ap (λ (xs : List S). get_or xs all.2.0 d) e ∙ move.2.2 d ∙ pair.2.2 d ∙ ap (λ (n : ℕ). get_or (child_of m side s own move.0 pair.0 ∷ []) n d) first;
      }
