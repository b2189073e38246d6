use Rattle.std.proofs.Common.{◌≡◌, ℕ, ◌+◌, ◌*◌, ◌/◌, ◌^◌, ◌<◌, ◌≤◌, ◌⊎◌, max, pos, ◌+ℤ◌, Bool, None, cond, ltb, ◌&&◌, get_or, length, refl, ap, inl, inr, arith}
use Rattle.std.proofs.Math.Nat.{div-eq_of_lt}
use Rattle.std.proofs.lemmas.Bool.Decides.{nat_tests}
use Rattle.std.proofs.lemmas.Bool.{and_parts, cond_both, lt-ltb, ltb-true, or_cases}
use Rattle.std.specs.Int.RustNames.{unsigned_abs}
use Rattle.sim_game.specs.declared.Limits.TheVariants.{Narrow}
use Rattle.sim_game.specs.declared.Side.{Side}
use Rattle.oshi_zumo.specs.declared.Setting.{Setting}
use Rattle.oshi_zumo.specs.declared.State.{State}
use Rattle.oshi_zumo.specs.laws.Game.{bid_paid, moves_open, open_bids, over_at_end, oshi_zumo_is_game}
use Rattle.oshi_zumo.specs.Position.{first_fault, IsPosition}
use Rattle.oshi_zumo.specs.Rules.{bids, bids_from, coin_bits, coins_of, is_off, is_bout_over, oshi_zumo_rank}
use Rattle.oshi_zumo.proofs.keeps_rules.Goals as goal

paid : (g : Setting) (side : Side) (s : State) (i : ℕ) → i < length (bids g side s) → get_or (bids g side s) i 0 ≤ coins_of side s
paid g side s i h =
    let e = open_bids g side s (moves_open (is_bout_over g s) (bids_from g.least (coins_of side s)) i h) in
    rw e (bid_paid g.least (coins_of side s) i (rw e at h))

abbrev Ended : Setting → State → Type 0
Ended g s = (g.size < unsigned_abs s.place) ⊎ ((s.one < g.least) × (s.two < g.least))

ended : (g : Setting) (s : State) → IsPosition g → oshi_zumo_rank g s ≡ 0 → Ended g s
ended g s p h = elim (or_cases (is_off g s) (ltb s.one g.least && ltb s.two g.least) (over_at_end (is_off g s) s.one s.two g.least p.least_low h)) [
  | inl off ↦ inl (ltb-true g.size (unsigned_abs s.place) off)
  | inr poor ↦ let both = and_parts (ltb s.one g.least) (ltb s.two g.least) poor in inr (ltb-true s.one g.least both.0, ltb-true s.two g.least both.1)
]

end_rank : (g : Setting) (s : State) → Ended g s → oshi_zumo_rank g s ≡ 0
end_rank g s (inl off) = ap (λ (b : Bool). cond b 0 (max (s.one / g.least) (s.two / g.least))) (lt-ltb g.size (unsigned_abs s.place) off)
end_rank g s (inr poor) = cond_both (is_off g s) 0 (max (s.one / g.least) (s.two / g.least)) (λ (n : ℕ). n ≡ 0) (λ _. refl) (λ _. omega (arith, div-eq_of_lt poor.0, div-eq_of_lt poor.1))

narrow_bits : (g : Setting) → first_fault Narrow g ≡ None → coin_bits g ≡ 5
narrow_bits g h = grind (arith, nat_tests)

pub returns : goal.returns
returns c =
    let g = c.args._game.now.setting in
    record {
      root = refl;
      moves = λ side s. refl;
      label = λ side s i. refl;
      paid = paid g;
      follows = λ s t. refl;
      draws = λ s one two. refl;
      chance = λ s one two draw. refl;
      ends = λ s. (ended g s c.args._game.now.valid, end_rank g s);
      payoff = λ s. refl;
      reward = λ s one two draw. refl;
      rank = λ s. refl;
      key = λ s. refl;
      narrow_key = λ h s. ap (λ (bits : ℕ). (unsigned_abs (s.place +ℤ pos 16) * 2 ^ bits + s.one) * 2 ^ bits + s.two) (narrow_bits g h);
      low = refl;
      high = refl;
      width = refl;
      chance_free = refl;
      same_state = (oshi_zumo_is_game g c.args._game.now.valid).same_key;
    }
