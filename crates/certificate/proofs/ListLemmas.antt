-- Reading values one after the other, as loops do.
use Rattle.std.proofs.Common.{◌≡◌, ℕ, List, [], ◌∷◌, ◌++◌, Option, Some, None, option_map, refl, sym, ap, ◌∙◌, append_assoc, append-nil}
use Rattle.certificate.specs.Readers.{each_in}

-- the values, behind those read before
abbrev pub behind : {A : Type 0} → List A → Option (List A) → Option (List A)
behind front o = option_map (λ xs. front ++ xs) o

regroup : {A : Type 0} (front : List A) (x : A) (o : Option (List A)) → behind front (option_map (λ xs. x ∷ xs) o) ≡ behind (front ++ x ∷ []) o
regroup front x None = refl
regroup {A} front x (Some xs) = ap (λ (l : List A). Some l) (sym (append_assoc front (x ∷ []) xs))

pub value_more : {A : Type 0} (value : List ℕ → Option A) (front : List A) (x : A) (f : List ℕ) (fs rest : List (List ℕ)) (whole : Option (List A)) → fs ≡ f ∷ rest → Some x ≡ value f
    → behind front (each_in value fs) ≡ whole → behind (front ++ x ∷ []) (each_in value rest) ≡ whole
unfolding each_in
value_more value front x f fs rest whole here is so_far =
    let one : behind front (each_in value fs) ≡ behind (front ++ x ∷ []) (each_in value rest) = rw (here, ← is) (regroup front x (each_in value rest)) in
    sym one ∙ so_far

pub value_none : {A : Type 0} (value : List ℕ → Option A) (front : List A) (f : List ℕ) (fs rest : List (List ℕ)) (whole : Option (List A)) → fs ≡ f ∷ rest → None ≡ value f
    → behind front (each_in value fs) ≡ whole → None ≡ whole
unfolding each_in
value_none value front f fs rest whole here is so_far =
    let one : behind front (each_in value fs) ≡ None = rw (here, ← is) refl in
    sym one ∙ so_far

pub values_done : {A : Type 0} (value : List ℕ → Option A) (front : List A) (fs : List (List ℕ)) (whole : Option (List A)) → fs ≡ []
    → behind front (each_in value fs) ≡ whole → Some front ≡ whole
unfolding each_in
values_done {A} value front fs whole none so_far =
    let one : behind front (each_in value fs) ≡ Some front = rw none (ap (λ (l : List A). Some l) (append-nil front)) in
    sym one ∙ so_far
