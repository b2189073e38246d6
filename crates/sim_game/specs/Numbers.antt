-- Numbers that tell the states of a game apart.
use Rattle.std.proofs.Common.{◌≡◌, ℕ, zero, suc, ◌+◌, ◌*◌, ◌/◌, ◌<◌, ◌≤◌, refl, sym, ap, subst, ◌∙◌, inl, inr, arith}
use Rattle.std.proofs.lemmas.Bool.{cases_lt}
use Rattle.std.proofs.lemmas.Nat.{div-mul-add}
use Rattle.sums.specs.Sums.{count_below}
use Rattle.sim_game.specs.Model.{GameModel, IsGame, Reachable}

-- a place for each state, and how many places there are
pub record Numbering (S : Type 0) : Type 0 where
  pub place : S → ℕ
  pub most : ℕ

-- no two reachable states have one place
pub record IsNumbering {S : Type 0} (m : GameModel S) (n : Numbering S) : Type 0 where
  pub below : (s : S) → Reachable m s → n.place s < n.most
  pub apart : (s t : S) → Reachable m s → Reachable m t → n.place s ≡ n.place t → s ≡ t

-- ---- numbers of several digits
-- a digit below w behind others
pub digits_apart : (w a b c d : ℕ) → b < w → d < w → a * w + b ≡ c * w + d → (a ≡ c) × (b ≡ d)
digits_apart w a b c d low high e =
    let same : a ≡ c = sym (div-mul-add a w b low) ∙ ap (λ (n : ℕ). n / w) e ∙ div-mul-add c w d high in
    let front : a * w ≡ c * w = ap (λ (n : ℕ). n * w) same in
    (same, omega (arith, e, front))

-- ---- by keys
abbrev pub by_key : {S : Type 0} → GameModel S → ℕ → Numbering S
by_key m most = record { place = m.key; most = most }

pub numbered_by_key : {S : Type 0} (m : GameModel S) → IsGame m → (most : ℕ) → ((s : S) → Reachable m s → m.key s < most) → IsNumbering m (by_key m most)
numbered_by_key m game most below = record { below = below; apart = game.same_key }

-- ---- by classes: a number in a class stands behind all those of the classes below
abbrev pub by_classes : {S : Type 0} → (classes : ℕ) (class number : S → ℕ) (size : ℕ → ℕ) → Numbering S
by_classes classes class number size = record { place = λ s. count_below (class s) size + number s; most = count_below classes size }

count_upto : (few many : ℕ) (size : ℕ → ℕ) → few ≤ many → count_below few size ≤ count_below many size
count_upto few zero size l = let none : few ≡ 0 = omega (arith, l) in subst (λ n. count_below n size ≤ 0) (sym none) (omega arith)
count_upto few (suc many) size l = elim (cases_lt few (suc many)) [
  | inl less ↦ let rest = count_upto few many size (omega (arith, less)) in omega (arith, rest)
  | inr more ↦ let e : few ≡ suc many = omega (arith, l, more) in subst (λ n. count_below n size ≤ count_below (suc many) size) (sym e) (omega arith)
]

module _ {S : Type 0} (m : GameModel S) (classes : ℕ) (class number : S → ℕ) (size : ℕ → ℕ) (in_class : (s : S) → Reachable m s → class s < classes)
    (in_size : (s : S) → Reachable m s → number s < size (class s))
    (apart : (s t : S) → Reachable m s → Reachable m t → class s ≡ class t → number s ≡ number t → s ≡ t) where
  abbrev place : S → ℕ
  place s = count_below (class s) size + number s

  place_below : (s : S) (many : ℕ) → Reachable m s → class s < many → place s < count_below many size
  place_below s many r l = let upto = count_upto (suc (class s)) many size (omega (arith, l)) in omega (arith, upto, in_size s r)

  place_apart : (s t : S) → Reachable m s → Reachable m t → place s ≡ place t → s ≡ t
  place_apart s t r r' e = elim (cases_lt (class s) (class t)) [
    | inl less ↦ absurd (let low = place_below s (class t) r less in omega (arith, low, e))
    | inr more ↦ elim (cases_lt (class t) (class s)) [
      | inl less ↦ absurd (let low = place_below t (class s) r' less in omega (arith, low, e))
      | inr less ↦
          let same : class s ≡ class t = omega (arith, more, less) in
          let front : count_below (class s) size ≡ count_below (class t) size = rw same refl in
          apart s t r r' same (omega (arith, e, front))
    ]
  ]

  pub numbered_by_classes : IsNumbering m (by_classes classes class number size)
  numbered_by_classes = record { below = λ s r. place_below s classes r (in_class s r); apart = place_apart }
