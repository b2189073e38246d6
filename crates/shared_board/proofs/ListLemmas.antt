-- Lists of views, counts over them, and lists in which something stands.
use Rattle.std.proofs.Common.{◌≡◌, ◌≢◌, ◌⊎◌, inl, inr, ⊎_elim, ℕ, zero, suc, ◌+◌, ◌<◌, ◌≤◌, List, [], ◌∷◌, ◌++◌, length, get_or, set, sym, refl, ap, ◌∙◌, subst, arith}
use mathlib.Core.Logic.{dite}
use native.Mathlib.Decide.{ℕ_discrete}
use mathlib.Core.Option.{some, some-injective, some-ne-none}
use lib.ListN.{get_elem?}
use Rattle.atomic_table.proofs.Lists.{at_set, at_longer, set_here, set_else}
use Rattle.shared_board.specs.Rule.{Has, Somewhere, times, total}

module _ {A : Type 0} where
  pub all_set : (F : ℕ → A → Type 0) (views : List A) (i : ℕ) (w : A) → F i w → ((j : ℕ) (u : A) → j ≢ i → get_elem? views j ≡ some u → F j u)
      → (j : ℕ) (u : A) → get_elem? (set views i w) j ≡ some u → F j u
  all_set F views i w mine others j u e = ⊎_elim (λ (x : (j ≡ i) × (w ≡ u)). subst (λ (y : ℕ × A). F y.0 y.1) (λ k. (sym x.0 k, x.1 k)) mine)
      (λ (x : (j ≢ i) × (get_elem? views j ≡ some u)). others j u x.0 x.1) (at_set views i j w u e)

  pub alone : (x v : A) (j : ℕ) → get_elem? (x ∷ []) j ≡ some v → (j ≡ 0) × (x ≡ v)
  alone x v zero e = (refl, some-injective x v e)
  alone x v (suc j) e = absurd (some-ne-none v (sym e))

  pub same_at : (views : List A) (i : ℕ) (v w : A) → get_elem? views i ≡ some v → get_elem? views i ≡ some w → v ≡ w
  same_at views i v w e f = some-injective v w (sym e ∙ f)

  pub at_long : (views : List A) (i : ℕ) (v : A) → get_elem? views i ≡ some v → i < length views
  at_long [] i v e = absurd (some-ne-none v (sym e))
  at_long (x ∷ xs) zero v e = omega arith
  at_long (x ∷ xs) (suc i) v e = omega (arith, at_long xs i v e)

  pub somewhere_longer : (P : A → Type 0) (xs ys : List A) → Somewhere xs P → Somewhere (xs ++ ys) P
  somewhere_longer P xs ys o = (o.0, o.1, at_longer xs ys o.0 o.1 o.2, o.3)

  -- where an element becomes another that has it too
  pub somewhere_set : (P : A → Type 0) (views : List A) (i : ℕ) (v w : A) → get_elem? views i ≡ some v → (P v → P w) → Somewhere views P → Somewhere (set views i w) P
  somewhere_set P views i v w at grows o = dite (ℕ_discrete o.0 i)
      (λ (e : o.0 ≡ i). (i, w, set_here views i w (at_long views i v at), grows (subst P (same_at views i o.1 v (subst (λ (z : ℕ). get_elem? views z ≡ some o.1) e o.2) at) o.3)))
      (λ (n : o.0 ≢ i). (o.0, o.1, set_else views i o.0 w n ∙ o.2, o.3))

  -- where two become one that has it too, and something else
  pub somewhere_join : (P : A → Type 0) (views : List A) (i j : ℕ) (v w both spent : A) → get_elem? views i ≡ some v → get_elem? views j ≡ some w → j ≢ i → (P v → P both)
      → (P w → P both)
      → Somewhere views P → Somewhere (set (set views i both) j spent) P
  somewhere_join P views i j v w both spent at at' two left right o =
      let here : get_elem? (set (set views i both) j spent) i ≡ some both = set_else (set views i both) j i spent (λ e. two (sym e))
      ∙ set_here views i both (at_long views i v at) in
      let moved : (n : ℕ) (u : A) → get_elem? views n ≡ some u → o.0 ≡ n → P u =
      λ n u e is. subst P (same_at views n o.1 u (subst (λ (z : ℕ). get_elem? views z ≡ some o.1) is o.2) e) o.3 in
      dite (ℕ_discrete o.0 i) (λ (e : o.0 ≡ i). (i, both, here, left (moved i v at e)))
      (λ (n : o.0 ≢ i). dite (ℕ_discrete o.0 j) (λ (e : o.0 ≡ j). (i, both, here, right (moved j w at' e)))
      (λ (n' : o.0 ≢ j). (o.0, o.1, set_else (set views i both) j o.0 spent n' ∙ (set_else views i o.0 both n ∙ o.2), o.3)))

  pub total_set : (f : A → ℕ) (views : List A) (i : ℕ) (v w : A) → get_elem? views i ≡ some v → total f (set views i w) + f v ≡ total f views + f w
  total_set f [] i v w e = absurd (some-ne-none v (sym e))
  total_set f (x ∷ xs) zero v w e = let is : f x ≡ f v = ap f (some-injective x v e) in omega arith
  total_set f (x ∷ xs) (suc i) v w e = omega (arith, total_set f xs i v w e)

  pub total_append : (f : A → ℕ) (xs ys : List A) → total f (xs ++ ys) ≡ total f xs + total f ys
  total_append f [] ys = omega arith
  total_append f (x ∷ xs) ys = omega (arith, total_append f xs ys)

  pub total_at : (f : A → ℕ) (views : List A) (i : ℕ) (v : A) → get_elem? views i ≡ some v → f v ≤ total f views
  total_at f [] i v e = absurd (some-ne-none v (sym e))
  total_at f (x ∷ xs) zero v e = let is : f x ≡ f v = ap f (some-injective x v e) in omega arith
  total_at f (x ∷ xs) (suc i) v e = omega (arith, total_at f xs i v e)

  -- two of them
  pub total_two : (f : A → ℕ) (views : List A) (i j : ℕ) (v w : A) → i ≢ j → get_elem? views i ≡ some v → get_elem? views j ≡ some w → f v + f w ≤ total f views
  total_two f [] i j v w n e g = absurd (some-ne-none v (sym e))
  total_two f (x ∷ xs) zero zero v w n e g = absurd (n refl)
  total_two f (x ∷ xs) zero (suc j) v w n e g = let is : f x ≡ f v = ap f (some-injective x v e) in omega (arith, total_at f xs j w g)
  total_two f (x ∷ xs) (suc i) zero v w n e g = let is : f x ≡ f w = ap f (some-injective x w g) in omega (arith, total_at f xs i v e)
  total_two f (x ∷ xs) (suc i) (suc j) v w n e g = omega (arith, total_two f xs i j v w (λ h. n (ap suc h)) e g)

  pub has_left : (x : A) (xs ys : List A) → Has x xs → Has x (xs ++ ys)
  has_left x [] ys h = absurd h
  has_left x (y ∷ xs) ys h = ⊎_elim (λ (e : x ≡ y). inl e) (λ (t : Has x xs). inr (has_left x xs ys t)) h

  pub has_right : (x : A) (xs ys : List A) → Has x ys → Has x (xs ++ ys)
  has_right x [] ys h = h
  has_right x (y ∷ xs) ys h = inr (has_right x xs ys h)

  pub has_split : (x : A) (xs ys : List A) → Has x (xs ++ ys) → Has x xs ⊎ Has x ys
  has_split x [] ys h = inr h
  has_split x (y ∷ xs) ys h = ⊎_elim (λ (e : x ≡ y). inl (inl e)) (λ (t : Has x (xs ++ ys)). ⊎_elim (λ (l : Has x xs). inl (inr l)) (λ (r : Has x ys). inr r) (has_split x xs ys t))
      h

pub times_append : (n : ℕ) (xs ys : List ℕ) → times n (xs ++ ys) ≡ times n xs + times n ys
times_append n [] ys = omega arith
times_append n (x ∷ xs) ys = omega (arith, times_append n xs ys)

-- what holds of the new element and of what stood there
pub set_either : (xs : List ℕ) (i x j d : ℕ) (P : ℕ → Type 0) → (i ≡ j → P x) → P (get_or xs j d) → P (get_or (set xs i x) j d)
set_either [] i x j d P here there = there
set_either (y ∷ ys) zero x zero d P here there = here refl
set_either (y ∷ ys) zero x (suc j) d P here there = there
set_either (y ∷ ys) (suc i) x zero d P here there = there
set_either (y ∷ ys) (suc i) x (suc j) d P here there = set_either ys i x j d P (λ e. here (ap suc e)) there
