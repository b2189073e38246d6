use Rattle.std.proofs.Common.{arith, ◌≡◌, ◌≤◌, ℕ, ℤ, ◌-◌, ◌*◌, ◌^◌, ◌%◌, w32, to_z, of_z, ap, sym, ◌∙◌, refl}
use Rattle.std.proofs.lemmas.Int.{ints}
use Rattle.std.proofs.lemmas.Nat.{one_shl}
use Rattle.std.specs.Int.RustNames.{unsigned_abs}
use Rattle.goofspiel.specs.laws.Deals.{few_prizes, same_goofspiel_state}
use Rattle.goofspiel.specs.laws.Drawn.{later_small, later_packed, same_drawn_state}
use Rattle.goofspiel.proofs.drawn.GoofspielDrawnGame.root.Goals as goal

-- the bit above the later places
bit_is : (later count : ℕ) → later ≡ count - 1 → count ≤ 13 → 2 * (1 * 2 ^ later % 65536 - 1) ≡ 2 * (2 ^ (count - 1) - 1)
bit_is later count is few = ap (λ (bit : ℕ). 2 * (bit - 1)) (one_shl later 16 (omega arith) ∙ ap (λ (n : ℕ). 2 ^ n) is)

pub overflow_mul-result : goal.overflow_mul-result
overflow_mul-result c =
    let count = c.args.self.now.setting.count in
    let few = few_prizes c.args.self.now.setting c.args.self.now.valid in
    let is = bit_is c.saturating_sub-later.result count c.saturating_sub-later.ensures few in
    let small = later_small (count - 1) (omega arith) in
    omega (arith, is, small)

same_score : (z : ℤ) → unsigned_abs z ≤ 1000 → to_z w32 (of_z w32 z) ≡ z
same_score z small = omega (arith, ints)

pub returns : goal.returns
returns c =
    let g = c.args.self.now.setting in
    let few = few_prizes g c.args.self.now.valid in
    same_drawn_state _ _ (same_goofspiel_state _ _ refl refl (same_score g.score c.args.self.now.valid.score_small))
    (bit_is c.saturating_sub-later.result g.count c.saturating_sub-later.ensures few ∙ sym (later_packed (g.count - 1) (omega arith))) refl
