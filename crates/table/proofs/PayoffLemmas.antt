-- The least and the greatest payoff are those of ends.
use Rattle.std.proofs.Common.{◌≡◌, ℕ, zero, suc, ◌<◌, ℤ, pos, neg_ℤ, eqb, refl, sym, ◌∙◌, ◌⊎◌, inl, inr, arith}
use Rattle.std.proofs.lemmas.Bool.{cond_both, eqb-true}
use Rattle.std.specs.Int.{int_max, int_min}
use Rattle.std.specs.Prelude.{int_lt}
use Rattle.table.specs.Lists.{Lists, greatest_of, least_of, table_rank, table_value}

-- an end below n has this payoff
abbrev pub IsPaid : Lists → ℕ → ℤ → Type 0
IsPaid l n payoff = (s : ℕ) × (s < n) × (table_rank l s ≡ 0) × (table_value l s ≡ payoff)

-- the best so far is that before, or the payoff of this end
abbrev IsStep : Lists → ℕ → ℤ → ℤ → Type 0
IsStep l n old new = (new ≡ old) ⊎ ((table_rank l n ≡ 0) × (table_value l n ≡ new))

best_found : (l : Lists) (best : ℕ → ℤ) → ((n : ℕ) → IsStep l n (best n) (best (suc n))) → (n : ℕ) → (best n ≡ best 0) ⊎ IsPaid l n (best n)
best_found l best h zero = inl refl
best_found l best h (suc n) = elim (h n) [
  | inl same ↦ elim (best_found l best h n) [
    | inl none ↦ inl (same ∙ none)
    | inr found ↦ inr (found.0, omega (arith, found.1), found.2, found.3 ∙ sym same)
  ]
  | inr here ↦ inr (n, omega arith, here.0, here.1)
]

min_of : (a b : ℤ) → (int_min a b ≡ a) ⊎ (b ≡ int_min a b)
min_of a b = cond_both (int_lt b a) b a (λ (z : ℤ). (z ≡ a) ⊎ (b ≡ z)) (λ e. inr refl) (λ e. inl refl)

max_of : (a b : ℤ) → (int_max a b ≡ a) ⊎ (b ≡ int_max a b)
max_of a b = cond_both (int_lt b a) a b (λ (z : ℤ). (z ≡ a) ⊎ (b ≡ z)) (λ e. inl refl) (λ e. inr refl)

least_step : (l : Lists) (n : ℕ) → IsStep l n (least_of l n) (least_of l (suc n))
least_step l n = cond_both (eqb (table_rank l n) 0) (int_min (least_of l n) (table_value l n)) (least_of l n) (IsStep l n (least_of l n))
    (λ e. elim (min_of (least_of l n) (table_value l n)) [ inl old ↦ inl old | inr new ↦ inr (eqb-true (table_rank l n) 0 e, new) ]) (λ e. inl refl)

greatest_step : (l : Lists) (n : ℕ) → IsStep l n (greatest_of l n) (greatest_of l (suc n))
greatest_step l n = cond_both (eqb (table_rank l n) 0) (int_max (greatest_of l n) (table_value l n)) (greatest_of l n) (IsStep l n (greatest_of l n))
    (λ e. elim (max_of (greatest_of l n) (table_value l n)) [ inl old ↦ inl old | inr new ↦ inr (eqb-true (table_rank l n) 0 e, new) ]) (λ e. inl refl)

pub least_found : (l : Lists) (n : ℕ) → (least_of l n ≡ pos 4000) ⊎ IsPaid l n (least_of l n)
least_found l n = best_found l (least_of l) (least_step l) n

pub greatest_found : (l : Lists) (n : ℕ) → (greatest_of l n ≡ neg_ℤ (pos 4000)) ⊎ IsPaid l n (greatest_of l n)
greatest_found l n = best_found l (greatest_of l) (greatest_step l) n
