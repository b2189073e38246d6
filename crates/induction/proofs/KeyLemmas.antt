-- Keys in slots: one more of them, and what a walk from slot to slot tells of a key.
use Rattle.std.proofs.Common.{◌≡◌, ◌≢◌, ℕ, suc, ◌+◌, ◌-◌, ◌<◌, ◌≤◌, Bool, true, false, not, ◌||◌, cond, eqb, ltb, Option, None, Some, List, [], ◌∷◌, ◌++◌, length, get_or, set, inl, inr, refl, sym, ap, subst, ◌∙◌, arith}
use Rattle.std.proofs.lemmas.Bool.{cases_lt, cases_eq, eqb-true, lt-ltb}
use Rattle.std.proofs.lemmas.List.{get_or-set_same, get_or-set_other, length-set, get_or_append_left, length_push}
use Rattle.std.proofs.Math.Numerals.{add-one}
use Rattle.std.proofs.lemmas.List.Folds.{position_or_len_push}
use Rattle.std.proofs.lemmas.List.Sums.{position_or_len_is, prefix_len-le-length}
use Rattle.std.proofs.Math.Seq.{get_or-append_seam}
use Rattle.std.proofs.lemmas.Cmp.{nat_eq_equiv}
use Rattle.std.proofs.lemmas.Map.Keys.{apart_from_distinct, IsDistinct-push}
use Rattle.std.specs.List.{IsDistinct, list_any, position_or_len}
use Rattle.std.specs.Option.{is_some}
use Rattle.plan_book.proofs.ExpectedLemmas.{is_same, is_other}
use Rattle.induction.specs.Keys.{key_place, first_slot, slot_after, slot_at, IsNamed, IsFreeSlot, AreFound, IsIndexed}

-- ---- a key more in the slots
module _ (count : ℕ) (slots : List ℕ) (slot name : ℕ) (free : get_or slots slot 0 ≡ 0) where
  taken : (i : ℕ) → 1 ≤ get_or slots i 0 → get_or (set slots slot name) i 0 ≡ get_or slots i 0
  taken i some = get_or-set_other slots slot i name 0 (λ e. absurd (let none : get_or slots i 0 ≡ 0 = ap (λ (k : ℕ). get_or slots k 0) e ∙ free in omega (arith, none, some)))

  pub named_still : (first other : ℕ) → 1 ≤ other → IsNamed count slots first other → IsNamed count (set slots slot name) first other
  named_still first other some h = record {
    steps = h.steps;
    few = h.few;
    there = let there = h.there in taken (slot_at count first h.steps) (omega (arith, there, some)) ∙ there;
    before = λ u l. let before = h.before u l in rw (taken (slot_at count first u) before) before;
  }

pub named_now : (count : ℕ) (slots : List ℕ) (first slot name : ℕ) → IsFreeSlot count slots first slot → IsNamed count (set slots slot name) first name
named_now count slots first slot name h = record {
  steps = h.steps;
  few = h.few;
  there = rw h.there (get_or-set_same slots slot name 0 h.within);
  before = λ u l. let before = h.before u l in rw (taken count slots slot name h.free (slot_at count first u) before) before;
}

pub found_more : (count : ℕ) (slots : List ℕ) (shift : ℕ) (keys : List ℕ) (most slot : ℕ) → AreFound count slots shift keys most
    → IsFreeSlot count slots (first_slot count shift (get_or keys most 0)) slot
    → AreFound count (set slots slot (most + 1)) shift keys (most + 1)
found_more count slots shift keys most slot old h i l = elim (cases_lt i most) [
  | inl earlier ↦ named_still count slots slot (most + 1) h.free _ (i + 1) (omega arith) (old i earlier)
  | inr not ↦
      let it : i ≡ most = omega arith in
      subst (λ (k : ℕ). IsNamed count (set slots slot (most + 1)) (first_slot count shift (get_or keys k 0)) (k + 1)) (sym it)
      (named_now count slots (first_slot count shift (get_or keys most 0)) slot (most + 1) h)
]

-- the same keys, with one behind them
pub found_among : (count : ℕ) (slots : List ℕ) (shift : ℕ) (keys : List ℕ) (key : ℕ) → AreFound count slots shift keys (length keys) → AreFound count slots shift (keys ++ key ∷ []) (length keys)
found_among count slots shift keys key old i l =
    subst (λ (k : ℕ). IsNamed count slots (first_slot count shift k) (i + 1)) (sym (get_or_append_left keys (key ∷ []) 0 i l)) (old i l)

pub none_indexed : IsIndexed [] 0 []
unfolding IsDistinct
none_indexed = record { few = omega arith; enough = λ l. absurd (omega arith); distinct = tt; found = λ i l. absurd (omega arith) }

-- ---- a walk
-- the slot is taken, and not by the key
pub record IsOther (slots keys : List ℕ) (key slot : ℕ) : Type 0 where
  pub taken : 1 ≤ get_or slots slot 0
  pub other : (i : ℕ) → i < length keys → get_or slots slot 0 ≡ i + 1 → get_or keys i 0 ≢ key

-- so many steps from the first slot, past slots that keep the property
pub record IsWalk (P : ℕ → Type 0) (count first steps slot : ℕ) : Type 0 where
  pub at : slot ≡ slot_at count first steps
  pub within : slot < count
  pub seen : (u : ℕ) → u < steps → P (slot_at count first u)

pub walk_first : (P : ℕ → Type 0) (count first slot : ℕ) → slot ≡ first → slot < count → IsWalk P count first 0 slot
unfolding slot_at
walk_first P count first slot is h = record { at = is; within = h; seen = λ u l. absurd (omega arith) }

slot_next : (count first steps : ℕ) → slot_at count first (steps + 1) ≡ slot_after count (slot_at count first steps)
unfolding slot_at
slot_next count first steps = rw (add-one steps) refl

pub walk_more : (P : ℕ → Type 0) (count first steps slot next : ℕ) → IsWalk P count first steps slot → P slot → next ≡ slot_after count slot → next < count → IsWalk P count first (steps + 1) next
walk_more P count first steps slot next walk here is within = record {
  at = is ∙ ap (slot_after count) walk.at ∙ sym (slot_next count first steps);
  within = within;
  seen = λ u l. elim (cases_lt u steps) [
    | inl earlier ↦ walk.seen u earlier
    | inr not ↦ let it : u ≡ steps = omega arith in subst P (walk.at ∙ ap (slot_at count first) (sym it)) here
  ];
}

pub other_here : (slots keys : List ℕ) (key slot : ℕ) → 1 ≤ get_or slots slot 0 → (get_or slots slot 0 - 1 < length keys → get_or keys (get_or slots slot 0 - 1) 0 ≢ key) → IsOther slots keys key slot
other_here slots keys key slot some apart = record {
  taken = some;
  other = λ i l named e. let it : i ≡ get_or slots slot 0 - 1 = omega (arith, named) in apart (omega (arith, l, it)) (ap (λ (k : ℕ). get_or keys k 0) (sym it) ∙ e);
}

module _ (count : ℕ) (slots : List ℕ) (shift : ℕ) (keys : List ℕ) (key steps : ℕ) (found : AreFound count slots shift keys (length keys))
    (seen : (u : ℕ) → u < steps → IsOther slots keys key (slot_at count (first_slot count shift key) u)) where
  named : (i : ℕ) → i < length keys → get_or keys i 0 ≡ key → IsNamed count slots (first_slot count shift key) (i + 1)
  named i l e = subst (λ (k : ℕ). IsNamed count slots (first_slot count shift k) (i + 1)) e (found i l)

  not_before : (i : ℕ) → (l : i < length keys) → (e : get_or keys i 0 ≡ key) → (named i l e).steps < steps → ⊥
  not_before i l e h = let n = named i l e in (seen n.steps h).other i l n.there e

  pub not_at_free : get_or slots (slot_at count (first_slot count shift key) steps) 0 ≡ 0 → (i : ℕ) → i < length keys → get_or keys i 0 ≢ key
  not_at_free free i l e = let n = named i l e in elim (cases_lt n.steps steps) [
    | inl earlier ↦ absurd (not_before i l e earlier)
    | inr not ↦ elim (cases_eq n.steps steps) [
      | inl here ↦ absurd (let there = n.there in let none : get_or slots (slot_at count (first_slot count shift key) n.steps) 0 ≡ 0 = rw here free in omega (arith, there, none))
      | inr other ↦ absurd (let some = n.before steps (omega arith) in omega (arith, free, some))
    ]
  ]

  pub not_anywhere : count ≤ steps → (i : ℕ) → i < length keys → get_or keys i 0 ≢ key
  not_anywhere all i l e = absurd (let few = (named i l e).few in not_before i l e (omega (arith, few, all)))

-- ---- places
not_less : (a b : ℕ) → b ≤ a → ltb a b ≡ false
not_less a b h = grind arith

pub no_place : (keys : List ℕ) (key : ℕ) → ((i : ℕ) → i < length keys → get_or keys i 0 ≢ key) → key_place keys key ≡ None
no_place keys key apart =
    let all : position_or_len (eqb key) keys ≡ length keys =
    position_or_len_is (eqb key) keys (length keys) 0 (omega arith) (λ k l. is_other key (get_or keys k 0) (λ e. absurd (apart k l (sym e)))) (λ l. absurd (omega arith)) in
    rw all (ap (λ (b : Bool). cond b (Some (length keys)) None) (not_less (length keys) (length keys) (omega arith)))

pub place_at : (keys : List ℕ) (key i : ℕ) → IsDistinct eqb keys → i < length keys → get_or keys i 0 ≡ key → key_place keys key ≡ Some i
place_at keys key i distinct l e =
    let it : position_or_len (eqb key) keys ≡ i =
    position_or_len_is (eqb key) keys i 0 (omega arith)
    (λ k h. is_other key (get_or keys k 0) (λ same. absurd (let apart : eqb (get_or keys k 0) (get_or keys i 0) ≡ false = apart_from_distinct eqb keys k i 0 distinct h l in
    let no : eqb (get_or keys k 0) (get_or keys i 0) ≡ true = is_same (get_or keys k 0) (get_or keys i 0) (sym same ∙ sym e) in cc)))
    (λ h. is_same key (get_or keys i 0) (sym e)) in
    rw it (ap (λ (b : Bool). cond b (Some i) None) (lt-ltb i (length keys) l))

same_test : (a b : ℕ) → eqb a b ≡ eqb b a
same_test a b = elim (cases_eq a b) [
  | inl e ↦ is_same a b e ∙ sym (is_same b a (sym e))
  | inr ne ↦ is_other a b ne ∙ sym (is_other b a (λ e. absurd (ne (sym e))))
]

none_last : (at size : ℕ) → at ≤ size → cond (ltb at size) (Some at) None ≡ None → at ≡ size
none_last at size le none = elim (cases_lt at size) [
  | inl less ↦ absurd (let yes = lt-ltb at size less in cc)
  | inr not ↦ omega arith
]

pushed : (here : Bool) (at size : ℕ) → at ≤ size → (here ≡ true → at ≡ size)
    → cond (ltb (cond (eqb at size) (size + cond here 0 1) at) (size + 1)) (Some (cond (eqb at size) (size + cond here 0 1) at)) None ≡ cond here (Some size) (cond (ltb at size) (Some at) None)
pushed true at size le h =
    let it = h refl in
    let name : cond (eqb at size) (size + 0) at ≡ size = ap (λ (b : Bool). cond b (size + 0) at) (is_same at size it) ∙ omega arith in
    rw name (ap (λ (b : Bool). cond b (Some size) None) (lt-ltb size (size + 1) (omega arith)))
pushed false at size le h = elim (cases_eq at size) [
  | inl it ↦
      let name : cond (eqb at size) (size + 1) at ≡ size + 1 = ap (λ (b : Bool). cond b (size + 1) at) (is_same at size it) in
      rw name (ap (λ (b : Bool). cond b (Some (size + 1)) None) (not_less (size + 1) (size + 1) (omega arith))
      ∙ sym (ap (λ (b : Bool). cond b (Some at) None) (not_less at size (omega (arith, it)))))
  | inr ne ↦
      let name : cond (eqb at size) (size + 1) at ≡ at = ap (λ (b : Bool). cond b (size + 1) at) (is_other at size ne) in
      let less : at < size = omega arith in
      rw name (ap (λ (b : Bool). cond b (Some at) None) (lt-ltb at (size + 1) (omega (arith, less)))
      ∙ sym (ap (λ (b : Bool). cond b (Some at) None) (lt-ltb at size less)))
]

pub place_more : (keys : List ℕ) (key : ℕ) → key_place keys key ≡ None → (other : ℕ) → key_place (keys ++ key ∷ []) other ≡ cond (eqb key other) (Some (length keys)) (key_place keys other)
place_more keys key new other =
    let at = position_or_len (eqb other) keys in
    let size = length keys in
    let le : at ≤ size = prefix_len-le-length (λ x. not (eqb other x)) keys in
    let there : eqb other key ≡ true → at ≡ size = λ e.
    let same : other ≡ key = eqb-true other key e in
    none_last at size le (subst (λ (k : ℕ). key_place keys k ≡ None) (sym same) new) in
    let more : key_place (keys ++ key ∷ []) other ≡ cond (ltb (cond (eqb at size) (size + cond (eqb other key) 0 1) at) (size + 1))
    (Some (cond (eqb at size) (size + cond (eqb other key) 0 1) at)) None =
    rw (position_or_len_push (eqb other) keys key, length_push keys key) refl in
    more ∙ pushed (eqb other key) at size le there ∙ ap (λ (b : Bool). cond b (Some size) (cond (ltb at size) (Some at) None)) (same_test other key)

-- ---- a key more
apart_step : (here : Bool) (at size : ℕ) (rest : Bool) → cond (not here) (1 + at) 0 ≡ suc size → (at ≡ size → rest ≡ false) → (here || rest) ≡ false
apart_step true at size rest e up = absurd (omega (arith, e))
apart_step false at size rest e up = up (omega (arith, e))

all_apart : (key : ℕ) (keys : List ℕ) → position_or_len (eqb key) keys ≡ length keys → list_any (eqb key) keys ≡ false
all_apart key [] e = refl
all_apart key (x ∷ keys) e = apart_step (eqb key x) (position_or_len (eqb key) keys) (length keys) (list_any (eqb key) keys) e (all_apart key keys)

none_place : (place : Option ℕ) → is_some place ≡ false → place ≡ None
none_place None e = refl
none_place (Some i) e = absurd (cc)

pub new_place : (keys : List ℕ) (key : ℕ) → is_some (key_place keys key) ≡ false → key_place keys key ≡ None
new_place keys key new = none_place (key_place keys key) new

pub indexed_more : (slots : List ℕ) (shift : ℕ) (keys : List ℕ) (key slot : ℕ) → IsIndexed slots shift keys → is_some (key_place keys key) ≡ false → 16 ≤ length slots
    → IsFreeSlot (length slots) slots (first_slot (length slots) shift key) slot → IsIndexed (set slots slot (length keys + 1)) shift (keys ++ key ∷ [])
indexed_more slots shift keys key slot old new some free =
    let all : position_or_len (eqb key) keys ≡ length keys =
    none_last (position_or_len (eqb key) keys) (length keys) (prefix_len-le-length (λ x. not (eqb key x)) keys) (new_place keys key new) in
    let here : IsFreeSlot (length slots) slots (first_slot (length slots) shift (get_or (keys ++ key ∷ []) (length keys) 0)) slot =
    subst (λ (k : ℕ). IsFreeSlot (length slots) slots (first_slot (length slots) shift k) slot) (sym (get_or-append_seam keys key [] 0)) free in
    let found : AreFound (length slots) (set slots slot (length keys + 1)) shift (keys ++ key ∷ []) (length keys + 1) =
    found_more (length slots) slots shift (keys ++ key ∷ []) (length keys) slot (found_among (length slots) slots shift keys key old.found) here in
    record {
      few = rw (length-set slots slot (length keys + 1)) old.few;
      enough = λ l. rw (length-set slots slot (length keys + 1)) some;
      distinct = IsDistinct-push nat_eq_equiv keys key old.distinct (all_apart key keys all);
      found = subst (λ (n : ℕ). AreFound n (set slots slot (length keys + 1)) shift (keys ++ key ∷ []) (length (keys ++ key ∷ []))) (sym (length-set slots slot (length keys + 1)))
          (subst (AreFound (length slots) (set slots slot (length keys + 1)) shift (keys ++ key ∷ [])) (sym (length_push keys key)) found);
    }
