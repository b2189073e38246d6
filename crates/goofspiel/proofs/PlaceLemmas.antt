-- The numbers of states, from what the code counts.
use Rattle.std.proofs.Common.{◌≡◌, ℕ, ◌+◌, ◌-◌, ◌*◌, ◌<◌, ◌≤◌, max, pos, ◌-ℤ◌, List, length, refl, sym, ap, subst, ◌∙◌, arith}
use Rattle.std.proofs.Math.Nat.{mul-le-mul}
use Rattle.std.specs.Int.RustNames.{unsigned_abs}
use Rattle.sim_game.specs.Model.{Reachable}
use Rattle.goofspiel.specs.declared.drawn.DrawnState.{DrawnState}
use Rattle.goofspiel.specs.declared.Setting.{Setting}
use Rattle.goofspiel.specs.declared.State.{State}
use Rattle.goofspiel.specs.Cards.{cards, places}
use Rattle.goofspiel.specs.Deals.{IsDealt, spread}
use Rattle.goofspiel.specs.laws.Deals.{few_prizes}
use Rattle.goofspiel.specs.laws.Drawn.{root_undrawn}
use Rattle.goofspiel.specs.DrawnRules.{drawn_game}
use Rattle.goofspiel.specs.Places.{HasParts, IsPartOf, part_number, deals, hands, deal_number, drawn_far, later, sets, drawn_deals_with, drawn_number}
use Rattle.goofspiel.specs.laws.Places.{deal_below, drawn_below, drawn_parts}
use Rattle.goofspiel.specs.Position.{IsPosition}
use Rattle.goofspiel.proofs.CountLemmas.{choose_few}

deals_few : (held far : ℕ) → held ≤ 8192 → far ≤ 3315 → deals held far ≤ 444998877184
deals_few held far h f =
    mul-le-mul {n₁ = 2 * far + 1} {m₁ = held * held} {n₂ = 6631} {m₂ = 67108864} (omega (arith, f)) (mul-le-mul {n₁ = held} {m₁ = held} {n₂ = 8192} {m₂ = 8192} h h)

pub deal_number_is : (g : Setting) (far : ℕ) (s : State) (one two held score : ℕ) → one ≡ part_number (cards g.one) (cards s.one) → two ≡ part_number (cards g.two) (cards s.two)
    → held ≡ hands g (length (cards s.one)) → score ≡ unsigned_abs (s.score -ℤ (g.score -ℤ pos far)) → (one * held + two) * (2 * far + 1) + score ≡ deal_number g far s
deal_number_is g far s one two held score a b h p = rw (a, b, h, p) refl

module _ (g : Setting) (p : IsPosition g) where
  pub deal_few : (far : ℕ) (s : State) → ((spent : ℕ) × (far ≡ spread g.pay spent) × IsDealt g spent s) → HasParts g s → far ≤ 3315 → deal_number g far s < 549755813888
  deal_few far s dealt parts few =
      let (spent, same, here) = dealt in
      let below : deal_number g far s < deals (hands g (length (cards s.one))) far =
      subst (λ (n : ℕ). deal_number g n s < deals (hands g (length (cards s.one))) n) (sym same) (deal_below g p spent s here parts) in
      omega (arith, below, deals_few (hands g (length (cards s.one))) far (choose_few g.count (length (cards s.one)) (few_prizes g p)) few)

  -- the undrawn places are numbered among those of the first state
  pub undrawn_is : (s first : DrawnState) (number : ℕ) → Reachable (drawn_game g) s → first ≡ (drawn_game g).root
      → (IsPartOf (places first.undrawn) (places s.undrawn) → number ≡ part_number (places first.undrawn) (places s.undrawn)) → number ≡ part_number (later g) (places s.undrawn)
  undrawn_is s first number r same is =
      let all : places first.undrawn ≡ later g = ap (λ (u : DrawnState). places u.undrawn) same ∙ root_undrawn g p in
      subst (λ (xs : List ℕ). IsPartOf xs (places s.undrawn) → number ≡ part_number xs (places s.undrawn)) all is (drawn_parts g p s r).undrawn

  pub drawn_number_is : (s : DrawnState) (deal count undrawn prizes : ℕ) → deal ≡ deal_number g (drawn_far g) s.hands → count ≡ sets g (length (cards s.hands.one))
      → undrawn ≡ part_number (later g) (places s.undrawn) → prizes ≡ max 1 g.count → (deal * count + undrawn) * prizes + s.place ≡ drawn_number g s
  drawn_number_is s deal count undrawn prizes a b h q = rw (a, b, h, q) refl

  -- The number of a state, put together as its parts were computed.
  pub drawn_number_from : (s first : DrawnState) (far left deal count undrawn prizes : ℕ) → Reachable (drawn_game g) s → first ≡ (drawn_game g).root → far ≡ drawn_far g
      → left ≡ length (cards s.hands.one) → deal ≡ deal_number g far s.hands → count ≡ sets g left
      → (IsPartOf (places first.undrawn) (places s.undrawn) → undrawn ≡ part_number (places first.undrawn) (places s.undrawn)) → prizes ≡ max 1 g.count
      → (deal * count + undrawn) * prizes + s.place ≡ drawn_number g s
  drawn_number_from s first far left deal count undrawn prizes r same spread rank a b h q =
      drawn_number_is s deal count undrawn prizes (a ∙ ap (λ (n : ℕ). deal_number g n s.hands) spread) (b ∙ ap (sets g) rank) (undrawn_is s first undrawn r same h) q

  pub drawn_few : (s : DrawnState) → Reachable (drawn_game g) s → drawn_far g ≤ 3315 → drawn_number g s < 72057594037927936
  drawn_few s r few =
      let left = length (cards s.hands.one) in
      let prizes = few_prizes g p in
      let each = deals_few (hands g left) (drawn_far g) (choose_few g.count left prizes) few in
      let inner : sets g left * deals (hands g left) (drawn_far g) ≤ 8192 * 444998877184 =
      mul-le-mul {n₁ = sets g left} {m₁ = deals (hands g left) (drawn_far g)} {n₂ = 8192} {m₂ = 444998877184} (choose_few (g.count - 1) (left - 1) (omega (arith, prizes))) each in
      let outer : drawn_deals_with g left ≤ 13 * (8192 * 444998877184) =
      mul-le-mul {n₁ = max 1 g.count} {m₁ = sets g left * deals (hands g left) (drawn_far g)} {n₂ = 13} {m₂ = 8192 * 444998877184} (omega (arith, prizes)) inner in
      omega (arith, drawn_below g p s r, outer)
