-- A view that holds each ticket is alone, and what a closed board has.
use Rattle.std.proofs.Common.{◌≡◌, ◌≢◌, ⊎_elim, ℕ, zero, suc, ◌+◌, ◌<◌, ◌≤◌, cond, eqb, List, [], ◌∷◌, length, sym, refl, ap, ◌∙◌, arith, inl, inr, min, ℤ}
use Rattle.std.proofs.Common.{true, ◌&&◌, ◌++◌, map, length-append, get_or, All, subst}
use Rattle.std.proofs.lemmas.Bool.{cases_lt}
use Rattle.std.proofs.lemmas.Bool.Decides.{nat_tests}
use mathlib.Core.Option.{some, some-injective, some-ne-none}
use lib.ListN.{get_elem?}
use Rattle.sums.specs.Sums.{count_below}
use Rattle.sums.proofs.CountLemmas.{count_mono, count_add, count_constant, count_term}
use Rattle.shared_board.specs.Rule.{times, total, once_below, IsConsistent, IsConsistentView, Has, Somewhere, seen_at}
use Rattle.shared_board.specs.declared.view.View.{View}
use Rattle.shared_board.proofs.ListLemmas.{total_at, total_two, same_at, has_left, has_right, has_split}
use Rattle.std.specs.List.{Contains}
use Rattle.std.proofs.lemmas.List.{map-append}
use Rattle.std.proofs.lemmas.List.Elements.{All-nil, All-cons, All-weaker, All-contains, Contains-append_right}
use mathlib.Core.Logic.{dite}
use native.Mathlib.Decide.{ℕ_discrete}
use Rattle.atomic_table.specs.Table.{State}
use Rattle.sim_game.specs.declared.Side.{Side}
use Rattle.sim_game.specs.declared.Side.TheVariants.{One, Two}
use Rattle.sim_game.specs.Model.{GameModel, IsGame}
use Rattle.sim_game.specs.Sides.{IsNoTighter, opening_bound, state_bound, end_bound}
use Rattle.sim_game.proofs.SideLemmas.{looser_trans, looser_left, looser_both}
use Rattle.plan_book.specs.declared.Entry.{Entry}
use Rattle.plan_book.specs.Entries.{IsEntry}
use Rattle.plan_book.specs.Books.{same_side, best_posted, IsBooked, IsClosed}
use Rattle.plan_book.proofs.BookLemmas.{best_opening, best_has, eqb_self, same_side_self}
use Rattle.bounds_board.proofs.PlainLemmas.{entry_weaker}
use Rattle.shared_board.specs.Words.{IsLooser, key_in_row, bound_in_row, opening_word, word_of, as_bound}
use Rattle.shared_board.specs.Passes.{known_key, seen_by, known_by, IsKnown, IsPostedEntry, IsTold}
use Rattle.shared_board.specs.Closing.{kept_row, kept_if, kept_rows, key_if, known_keys, kept_bound, IsDistinct, HasKey, IsKeptRow, AreKeptRows}
use Rattle.shared_board.specs.declared.close.Kept.{Kept}
use Rattle.shared_board.proofs.WordLemmas.{word_trans}
use Rattle.shared_board.proofs.BoundLemmas.{word_in_range, opening_back}
use Rattle.shared_board.proofs.SeenLemmas.{looser_bound, key_of_has, key_of_none, cond_first, cond_better, seen_most, better_more, known_then}
use Rattle.shared_board.proofs.PassLemmas.{entry_back, word_low}

abbrev one_at : ℕ → ℕ → ℕ
one_at y x = cond (eqb x y) 1 0

one_here : (y : ℕ) → one_at y y ≡ 1
one_here y = grind (arith, nat_tests)

-- no more tickets below d than they are, counted one by one
length_sum : (xs : List ℕ) (d : ℕ) → ((x : ℕ) → d ≤ x → times x xs ≡ 0) → length xs ≤ count_below d (λ x. times x xs)
length_sum [] d h = omega arith
length_sum (y ∷ ys) d h =
    let low : y < d = ⊎_elim (λ (lt : y < d). lt) (λ (ge : d ≤ y). let z : one_at y y + times y ys ≡ 0 = h y ge in let o = one_here y in absurd (omega arith)) (cases_lt y d) in
    let rest = length_sum ys d (λ x l. (let z : one_at y x + times x ys ≡ 0 = h x l in omega arith)) in let sum = count_add d (one_at y) (λ x. times x ys) in let one =
    count_term d (one_at y) y low in let o = one_here y in omega arith

sum_le : (f : ℕ → ℕ) (d : ℕ) → ((x : ℕ) → f x ≤ 1) → count_below d f ≤ d
sum_le f d h = omega (arith, count_mono d f (λ _. 1) (λ x _. h x), count_constant d 1)

sum_lt : (f : ℕ → ℕ) (d n : ℕ) → ((x : ℕ) → f x ≤ 1) → n < d → f n ≡ 0 → count_below d f < d
sum_lt f zero n h l z = absurd (omega arith)
sum_lt f (suc d) n h l z = let a = h d in ⊎_elim (λ (lt : n < d). omega (arith, sum_lt f d n h lt z))
    (λ (ge : d ≤ n). let same : n ≡ d = omega arith in let here : f d ≡ 0 = ap f (sym same) ∙ z in omega (arith, sum_le f d h)) (cases_lt n d)

once_le : (n d : ℕ) → once_below n d ≤ 1
once_le n d = ⊎_elim (λ (l : n < d). grind (arith, nat_tests)) (λ (l : d ≤ n). grind (arith, nat_tests)) (cases_lt n d)

once_high : (n d : ℕ) → d ≤ n → once_below n d ≡ 0
once_high n d l = grind (arith, nat_tests)

module _ {G : Type 0} (views : List (View G)) (issued : ℕ) (held : (n : ℕ) → total (λ (v : View G). times n v.tickets) views ≡ once_below n issued) (id : ℕ) (v : View G)
    (at : get_elem? views id ≡ some v) where
  mine_le : (n : ℕ) → times n v.tickets ≤ once_below n issued
  mine_le n = let t = total_at (λ (u : View G). times n u.tickets) views id v at in let h = held n in omega arith

  mine_sum : length v.tickets ≤ count_below issued (λ x. times x v.tickets)
  mine_sum = length_sum v.tickets issued (λ x l. (let a = mine_le x in let b = once_high x issued l in omega arith))

  pub no_more : length v.tickets ≤ issued
  no_more = let s = mine_sum in let l = sum_le (λ x. times x v.tickets) issued (λ x. (let a = mine_le x in let b = once_le x issued in omega arith)) in omega arith

  none_else : (xs : List ℕ) → ((n : ℕ) → times n v.tickets + times n xs ≤ once_below n issued) → issued ≤ length v.tickets → xs ≡ []
  none_else [] two whole = refl
  none_else (n ∷ ns) two whole = let both : times n v.tickets + (one_at n n + times n ns) ≤ once_below n issued = two n in let o = one_here n in let top = once_le n issued in
      let none : times n v.tickets ≡ 0 = omega arith in
      let low : n < issued = ⊎_elim (λ (l : n < issued). l) (λ (ge : issued ≤ n). let z = once_high n issued ge in absurd (omega arith)) (cases_lt n issued) in
      let less = sum_lt (λ x. times x v.tickets) issued n (λ x. (let a = mine_le x in let b = once_le x issued in omega arith)) low none in let s = mine_sum in absurd (omega arith)

  -- the others hold no ticket
  pub alone : issued ≤ length v.tickets → (j : ℕ) (u : View G) → j ≢ id → get_elem? views j ≡ some u → u.tickets ≡ []
  alone whole j u n e = none_else u.tickets (λ x. (let t = total_two (λ (w : View G). times x w.tickets) views id j v u (λ h. n (sym h)) at e in let h = held x in omega arith))
      whole

pub at_or : (xs : List ℕ) (i x : ℕ) → get_elem? xs i ≡ some x → get_or xs i 0 ≡ x
at_or [] i x e = absurd (some-ne-none x (sym e))
at_or (y ∷ ys) zero x e = some-injective y x e
at_or (y ∷ ys) (suc i) x e = at_or ys i x e

pub row_is : (words : List ℕ) (i k key : ℕ) (lower upper : ℤ) → key ≡ k → lower ≡ as_bound (bound_in_row words One i) → upper ≡ as_bound (bound_in_row words Two i)
    → mathlib.Core.Path.◌≡◌ {A = Kept} (record { key = key; lower = lower; upper = upper }) (kept_row words i k)
row_is words i k key lower upper a b c = λ j. record { key = a j; lower = b j; upper = c j }

-- one row more
pub more_free : (words : List ℕ) (n m : ℕ) → m ≡ suc n → key_in_row words n ≡ 0 → kept_rows words m ≡ kept_rows words n
more_free words n m e free = ap (kept_rows words) e ∙ (ap (λ q. kept_rows words n ++ kept_if words n q) free ∙ mathlib.Core.List.append-nil (kept_rows words n))

pub more_taken : (words : List ℕ) (n m k : ℕ) → m ≡ suc n → key_in_row words n ≡ suc k → kept_rows words m ≡ kept_rows words n ++ kept_row words n k ∷ []
more_taken words n m k e taken = ap (kept_rows words) e ∙ ap (λ q. kept_rows words n ++ kept_if words n q) taken

-- what is kept comes from a row
last_one : (words : List ℕ) (n : ℕ) (x : Kept) (q : ℕ) → key_in_row words n ≡ q → Has x (kept_if words n q) → (k : ℕ) × (key_in_row words n ≡ suc k) × (x ≡ kept_row words n k)
last_one words n x zero e t = absurd t
last_one words n x (suc k) e t = ⊎_elim (λ (is : x ≡ kept_row words n k). (k, e, is)) (λ (no : ⊥). absurd no) t

kept_from : (words : List ℕ) (n : ℕ) (x : Kept) → Has x (kept_rows words n) → (i : ℕ) × (k : ℕ) × (i < n) × (key_in_row words i ≡ suc k) × (x ≡ kept_row words i k)
kept_from words zero x h = absurd h
kept_from words (suc n) x h = ⊎_elim (λ (old : Has x (kept_rows words n)). let o = kept_from words n x old in (o.0, o.1, omega arith, o.3, o.4))
    (λ (new : Has x (kept_if words n (key_in_row words n))). let o = last_one words n x (key_in_row words n) refl new in (n, o.0, omega arith, o.1, o.2))
    (has_split x (kept_rows words n) (kept_if words n (key_in_row words n)) h)

kept_has : (words : List ℕ) (n i k : ℕ) → i < n → key_in_row words i ≡ suc k → Has (kept_row words i k) (kept_rows words n)
kept_has words zero i k l e = absurd (omega arith)
kept_has words (suc n) i k l e = ⊎_elim (λ (lt : i < n). has_left (kept_row words i k) (kept_rows words n) (kept_if words n (key_in_row words n)) (kept_has words n i k lt e))
    (λ (ge : n ≤ i). let same : n ≡ i = omega arith in has_right (kept_row words i k) (kept_rows words n) (kept_if words n (key_in_row words n))
    (subst (λ (ks : List Kept). Has (kept_row words i k) ks) (sym (ap (kept_if words n) (ap (key_in_row words) same ∙ e))) (inl (λ c. kept_row words (sym same c) k))))
    (cases_lt i n)

length_if : (words : List ℕ) (i n : ℕ) → length (kept_if words i n) ≡ min n 1
length_if words i zero = omega arith
length_if words i (suc n) = omega arith

kept_few : (words : List ℕ) (n : ℕ) → length (kept_rows words n) ≤ n
kept_few words zero = omega arith
kept_few words (suc n) = omega (arith, kept_few words n, length-append (kept_rows words n) (kept_if words n (key_in_row words n)), length_if words n (key_in_row words n))

kept_full : (words : List ℕ) (n : ℕ) → ((i : ℕ) → i < n → key_in_row words i ≢ 0) → length (kept_rows words n) ≡ n
kept_full words zero h = refl
kept_full words (suc n) h = let some = h n (omega arith) in
    omega (arith, kept_full words n (λ i l. h i (omega arith)), length-append (kept_rows words n) (kept_if words n (key_in_row words n)), length_if words n (key_in_row words n))

distinct_append : (xs ys : List Kept) → IsDistinct xs → IsDistinct ys → ((x y : Kept) → Has x xs → Has y ys → x.key ≢ y.key) → IsDistinct (xs ++ ys)
distinct_append [] ys a b h = b
distinct_append (x ∷ xs) ys a b h = (
  (λ y t. ⊎_elim (λ (o : Has y xs). a.0 y o) (λ (n : Has y ys). h x y (inl refl) n) (has_split y xs ys t)),
  distinct_append xs ys a.1 b (λ p q s t. h p q (inr s) t),
)

distinct_if : (words : List ℕ) (i n : ℕ) → IsDistinct (kept_if words i n)
distinct_if words i zero = tt
distinct_if words i (suc n) = ((λ y h. absurd h), tt)

kept_distinct : (words : List ℕ) (rows n : ℕ) → n ≤ rows → ((i j k : ℕ) → i < rows → j < rows → key_in_row words i ≡ suc k → key_in_row words j ≡ suc k → i ≡ j)
    → IsDistinct (kept_rows words n)
kept_distinct words rows zero l single = tt
kept_distinct words rows (suc n) l single = distinct_append (kept_rows words n) (kept_if words n (key_in_row words n)) (kept_distinct words rows n (omega arith) single)
    (distinct_if words n (key_in_row words n))
    (λ x y h t e. let o = kept_from words n x h in let p = last_one words n y (key_in_row words n) refl t in let same_key : o.1 ≡ p.0 = sym (ap (λ (z : Kept). z.key) o.4)
    ∙ (e ∙ ap (λ (z : Kept). z.key) p.2) in
    let a = o.2 in let same : o.0 ≡ n = single o.0 n o.1 (omega arith) (omega arith) o.3 (p.1 ∙ ap suc (sym same_key)) in omega arith)

kept_side : (side : Side) (words : List ℕ) (i k : ℕ) → kept_bound side (kept_row words i k) ≡ as_bound (bound_in_row words side i)
kept_side One words i k = refl
kept_side Two words i k = refl

-- ---- lists
pub has_contains : {A : Type 0} (x : A) (xs : List A) → Has x xs → Contains xs x
has_contains x [] h = absurd h
has_contains x (y ∷ ys) h = ⊎_elim (λ (e : x ≡ y). (0, omega arith, sym e)) (λ (t : Has x ys). Contains-append_right (y ∷ []) ys x (has_contains x ys t)) h

-- what holds of each that stands in the list
pub all_has : {A : Type 0} (P : A → Type 0) (xs : List A) → ((x : A) → Has x xs → P x) → All P xs
all_has P [] each = All-nil P
all_has P (x ∷ xs) each = All-cons P x xs (each x (inl refl)) (all_has P xs (λ y h. each y (inr h)))

-- ---- the best bounds of a book
-- no entry of a book is tighter than the best bound
pub best_entry_of : {S : Type 0} (m : GameModel S) (es : List Entry) (e : Entry) → Has e es → IsNoTighter e.side e.bound (best_posted m es e.side e.key)
best_entry_of m [] e h = absurd h
best_entry_of m (f ∷ es) e h = ⊎_elim
    (λ (here : e ≡ f). subst (λ (z : Entry). IsNoTighter e.side e.bound (best_posted m (z ∷ es) e.side e.key)) here
    (cond_first (same_side e.side e.side && eqb e.key e.key) e.side e.bound (best_posted m es e.side e.key) (rw (same_side_self e.side, eqb_self e.key) refl)))
    (λ (there : Has e es). looser_trans e.side e.bound (best_posted m es e.side e.key) (best_posted m (f ∷ es) e.side e.key) (best_entry_of m es e there)
    (cond_better (same_side f.side e.side && eqb f.key e.key) e.side f.bound (best_posted m es e.side e.key))) h

module _ {S G : Type 0} (m : GameModel S) (game_laws : IsGame m) (g : G) (rows : ℕ) (s : State (Unit {0}) (View G)) (r : IsConsistent m g rows s) (id : ℕ) (v : View G)
    (at : get_elem? s.views id ≡ some v) (lead : v.lead ≡ true) (whole : v.issued ≤ length v.tickets)
    (total : ℕ) (entries : List Entry) (told : IsTold m v total entries) where
  abbrev f : IsConsistentView m g rows s.words r.head r.issued id v
  f = r.each_view id v at

  pub just_whole : length v.tickets ≡ v.issued
  just_whole = let a = no_more s.views r.issued r.held id v at in let b = (f.leads lead).1 in omega arith

  -- what some view has, and none that holds no ticket, this view has
  own : (P : View G → Type 0) → ((u : View G) → u.posted ≡ [] → u.keys ≡ [] → P u → ⊥) → Somewhere s.views P → P v
  own P idle o = dite (ℕ_discrete o.0 id) (λ (e : o.0 ≡ id). subst P (same_at s.views id o.1 v (subst (λ (z : ℕ). get_elem? s.views z ≡ some o.1) e o.2) at) o.3)
      (λ (ne : o.0 ≢ id). let none = alone s.views r.issued r.held id v at (let b = (f.leads lead).1 in omega arith) o.0 o.1 ne o.2 in
      let empty = (r.each_view o.0 o.1 o.2).idle none in absurd (idle o.1 empty.1 empty.2 o.3))

  key_known : (i n : ℕ) → i < rows → key_in_row s.words i ≡ n → map (λ (x : Kept). x.key) (kept_if s.words i n) ≡ key_if (known_key v.keys i)
  key_known i zero l e = ap key_if (sym (key_of_none v.keys i (λ k h. let known = (f.knows i k h).1 in absurd (omega arith))))
  key_known i (suc k) l e = ap key_if (sym (key_of_has v.keys i k (λ q h. let known = (f.knows i q h).1 in omega arith)
      (own (λ u. Has (i, k) u.keys) (λ u _ none h. subst (Has (i, k)) none h) (r.claimed i k l e))))

  keys_known : (n : ℕ) → n ≤ rows → map (λ (x : Kept). x.key) (kept_rows s.words n) ≡ known_keys v.keys n
  keys_known zero l = refl
  keys_known (suc n) l = map-append (λ (x : Kept). x.key) (kept_rows s.words n) (kept_if s.words n (key_in_row s.words n))
      ∙ (λ c. keys_known n (omega arith) c ++ key_known n (key_in_row s.words n) (omega arith) refl c)

  entry_of : (e : Entry) → Has e entries → IsEntry m total (IsKnown m v) e
  entry_of e h = All-contains (IsEntry m total (IsKnown m v)) entries e told.lawful (has_contains e entries h)

  -- a row's bound is no tighter than the best of the book
  booked_low : (side : Side) (i k : ℕ) → i < rows → key_in_row s.words i ≡ suc k → IsNoTighter side (as_bound (bound_in_row s.words side i)) (best_posted m entries side k)
  booked_low side i k l is = dite (ℕ_discrete (bound_in_row s.words side i) (opening_word m side))
      (λ (e : bound_in_row s.words side i ≡ opening_word m side). looser_left side (opening_bound m side) (as_bound (bound_in_row s.words side i)) (best_posted m entries side k)
      (sym (ap as_bound e ∙ opening_back m game_laws side)) (best_opening m entries side k))
      (λ (n : bound_in_row s.words side i ≢ opening_word m side). let b =
      told.booked i side (bound_in_row s.words side i) (own (λ u. Has (i, side, bound_in_row s.words side i) u.posted)
      (λ u none _ h. subst (Has (i, side, bound_in_row s.words side i)) none h) (r.posted side i l n)) in
      let there = (f.knows i b.entry.key b.known).1 in let key : b.entry.key ≡ k = omega arith in
      let bound : b.entry.bound ≡ as_bound (bound_in_row s.words side i) = sym (entry_back m game_laws b.entry total (IsKnown m v) (entry_of b.entry b.booked))
      ∙ ap as_bound b.same_bound in
      subst (λ (y : Side × ℕ × ℤ). IsNoTighter y.0 y.2 (best_posted m entries y.0 y.1)) (λ c. (b.same_side c, key c, bound c)) (best_entry_of m entries b.entry b.booked))

  -- and no entry is tighter than it
  posted_low : (e : Entry) (i : ℕ) → i < rows → key_in_row s.words i ≡ suc e.key → IsEntry m total (IsKnown m v) e → IsPostedEntry v e
      → IsNoTighter e.side e.bound (as_bound (bound_in_row s.words e.side i))
  posted_low e i l is lawful n = let k = f.knows n.row e.key n.known in let row : n.row ≡ i = (r.each_row n.row k.0).single e.key i k.1 l is in
      let b = f.backed n.row e.side (word_of e.bound) n.posted in
      let low : IsLooser e.side (word_of e.bound) (bound_in_row s.words e.side n.row) =
      word_trans e.side (word_of e.bound) (seen_at m e.side v n.row) (bound_in_row s.words e.side n.row) b.seen_too (f.no_tighter e.side n.row k.0) in
      subst (λ (y : ℤ × ℕ). IsNoTighter e.side y.0 (as_bound (bound_in_row s.words e.side y.1))) (λ c. (entry_back m game_laws e total (IsKnown m v) lawful c, row c))
      (looser_bound e.side (word_of e.bound) (bound_in_row s.words e.side n.row) low)

  booked_high : (side : Side) (i k : ℕ) → i < rows → key_in_row s.words i ≡ suc k → IsNoTighter side (best_posted m entries side k) (as_bound (bound_in_row s.words side i))
  booked_high side i k l is = best_has m entries side k (λ x. IsNoTighter side x (as_bound (bound_in_row s.words side i)))
      (word_low m game_laws side (bound_in_row s.words side i) (word_in_range m g rows game_laws s r side i l))
      (all_has (λ e. e.side ≡ side → e.key ≡ k → IsNoTighter side e.bound (as_bound (bound_in_row s.words side i))) entries
      (λ e h a b. subst (λ (y : Side). IsNoTighter y e.bound (as_bound (bound_in_row s.words y i))) a
      (posted_low e i l (is ∙ ap suc (sym b)) (entry_of e h) (All-contains (IsPostedEntry v) entries e told.entered (has_contains e entries h)))))

  booked : (side : Side) (i k : ℕ) → i < rows → key_in_row s.words i ≡ suc k → as_bound (bound_in_row s.words side i) ≡ best_posted m entries side k
  booked side i k l is = looser_both side (as_bound (bound_in_row s.words side i)) (best_posted m entries side k) (booked_low side i k l is) (booked_high side i k l is)

  -- what was seen is no tighter than the best of the book
  seen_booked : (side : Side) (key : ℕ) → IsNoTighter side (seen_by m v side key) (best_posted m entries side key)
  seen_booked side key = seen_most m side v v.keys key (best_posted m entries side key) (best_opening m entries side key)
      (λ i h. let k = f.knows i key h in looser_trans side (as_bound (seen_at m side v i)) (as_bound (bound_in_row s.words side i)) (best_posted m entries side key)
      (looser_bound side (seen_at m side v i) (bound_in_row s.words side i) (f.no_tighter side i k.0)) (booked_low side i key k.0 k.1))

  pub book_closed : IsClosed m total entries
  book_closed = All-weaker (IsEntry m total (IsKnown m v)) (IsEntry m total (IsBooked m entries))
      (λ e h. entry_weaker m total (IsKnown m v) (IsBooked m entries) e
      (λ t x _ k. known_then (eqb (m.rank t) 0) e.side x (end_bound m t) (known_by m v e.side t) _
      (better_more e.side _ _ (state_bound m e.side t) (seen_booked e.side (m.key t))) k) h) entries told.lawful

  has_key : (i k : ℕ) → i < rows → key_in_row s.words i ≡ suc k → HasKey (kept_rows s.words rows) k
  has_key i k l is = record { row = kept_row s.words i k; is_kept = has_contains (kept_row s.words i k) (kept_rows s.words rows) (kept_has s.words rows i k l is); is_key = refl }

  pub closes : AreKeptRows m rows v entries (kept_rows s.words rows)
  closes = record {
    keys = keys_known rows (omega arith);
    few = kept_few s.words rows;
    full = λ all. kept_full s.words rows (λ i l z. let o = all i l in let k = (f.knows i o.0 o.1).1 in omega arith);
    distinct = kept_distinct s.words rows rows (omega arith) (λ i j k li lj a b. (r.each_row i li).single k j a lj b);
    each = all_has (IsKeptRow m entries) (kept_rows s.words rows) (λ x h. let o = kept_from s.words rows x h in subst (IsKeptRow m entries) (sym o.4) (record {
      named = (r.each_row o.0 o.2).named o.1 o.3;
      best = λ side. kept_side side s.words o.0 o.1 ∙ booked side o.0 o.1 o.2 o.3;
    }));
    entered = All-weaker (IsPostedEntry v) (λ e. HasKey (kept_rows s.words rows) e.key) (λ e n. let k = f.knows n.row e.key n.known in has_key n.row e.key k.0 k.1) entries
        told.entered;
    known = λ i k h. let q = f.knows i k h in has_key i k q.0 q.1;
    no_looser = seen_booked;
  }
