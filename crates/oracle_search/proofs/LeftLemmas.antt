-- That what linear stages leave is narrower than the gap at which regret matching leaves a state.
use Rattle.std.proofs.Common.{◌≡◌, ℕ, ◌+◌, ◌*◌, ◌/◌, ◌<◌, ◌≤◌, min, pos, cond, inl, inr, arith}
use Rattle.std.proofs.Math.Nat.{div-mul-le_self}
use Rattle.std.proofs.lemmas.Bool.{cases_lt}
use Rattle.std.proofs.lemmas.Grind.{div_ceil_times}
use Rattle.std.proofs.lemmas.Int.{ints}
use Rattle.std.proofs.lemmas.Nat.{mul-le}
use Rattle.std.specs.Int.{div_ceil}
use Rattle.sim_game.specs.Model.{GameModel, IsGame}
use Rattle.sim_game.specs.Resolution.{IsLeastGap, payoff_range}
use Rattle.oracle_search.specs.Finished.{IsLeftBelow}

-- a gap below so much is no stage's, for payoffs that are d millionths apart
too_narrow : (w x d gap : ℕ) → 8192 ≤ w → w ≤ 1048576 → 1000000 ≤ d → x * (16 * w) ≤ d → gap < 32 * (x + 2) → w * gap * gap < d * d
too_narrow w x d gap low high some part less =
    let wx : 16 * (w * x) ≤ d = grind arith in
    let few : 131072 * x ≤ d = let more = mul-le 8192 x w x low (omega arith) in omega (arith, wx, more) in
    let dx : 16 * (w * x) * x ≤ d * x = mul-le (16 * (w * x)) x d x wx (omega arith) in
    let dd : d * (131072 * x) ≤ d * d = mul-le d (131072 * x) d d (omega arith) few in
    let far : 1000000 * d ≤ d * d = mul-le 1000000 d d d some (omega arith) in
    let square : gap * gap ≤ (32 * (x + 2)) * (32 * (x + 2)) = mul-le gap gap (32 * (x + 2)) (32 * (x + 2)) (omega (arith, less)) (omega (arith, less)) in
    let whole : w * (gap * gap) ≤ w * ((32 * (x + 2)) * (32 * (x + 2))) = mul-le w (gap * gap) w ((32 * (x + 2)) * (32 * (x + 2))) (omega arith) square in
    let parts : w * ((32 * (x + 2)) * (32 * (x + 2))) ≡ 1024 * (w * x * x) + 4096 * (w * x) + 4096 * w = grind arith in
    let first : 16 * (w * x) * x ≡ 16 * (w * x * x) = grind arith in
    let second : d * (131072 * x) ≡ 131072 * (d * x) = grind arith in
    let last : w * gap * gap ≡ w * (gap * gap) = grind arith in
    omega (arith, wx, dx, dd, far, whole, parts, first, second, last, high, some)

abbrev pub left_each : ℕ → ℕ → ℕ
left_each range w = range * 1000000 / (16 * w) + 2 * min range 1

-- what is left with each rank
few_left : (width range w gap more : ℕ) → 1 ≤ width → 8192 ≤ w → w ≤ 1048576 → IsLeastGap width range w gap → left_each range w ≤ div_ceil (gap + 1 + more) 32
few_left width range w gap more some low high is =
    let x = range * 1000000 / (16 * w) in
    let d = range * 1000000 in
    let part : x * (16 * w) ≤ d = div-mul-le_self d (16 * w) in
    let up = div_ceil_times (gap + 1 + more) 32 (omega arith) in
    elim (cases_lt 0 range) [
      | inl wide ↦ elim (cases_lt gap (32 * (x + 2))) [
        | inl less ↦
            let narrow = too_narrow w x d gap low high (omega arith) part less in
            let twice : 1 * d ≤ 2 * width * d = mul-le 1 d (2 * width) d (omega arith) (omega arith) in
            let both : d * d ≤ 2 * width * d * d = mul-le d d (2 * width * d) d (omega (arith, twice)) (omega arith) in
            let enough : 2 * width * d * d ≤ w * gap * gap = is.enough in
            absurd (omega (arith, narrow, both, enough))
        | inr more_gap ↦ omega (arith, up.0, up.1, more_gap)
      ]
      | inr none ↦
          let zero : x * 1 ≤ x * (16 * w) = mul-le x 1 x (16 * w) (omega arith) (omega arith) in
          omega (arith, up.0, up.1, none, part, zero)
    ]

module _ {S : Type 0} (m : GameModel S) (game : IsGame m) where
  pub left_narrow : (total : ℕ) (s : S) → 8192 ≤ total → total ≤ 1048576 → IsLeftBelow m total s (pos (m.rank s * left_each (payoff_range m) total))
  left_narrow total s low high stage is =
      let each = few_left m.width (payoff_range m) total stage (cond m.chance_free 0 1) game.width_low low high is in
      let all = mul-le (m.rank s) (left_each (payoff_range m) total) (m.rank s) (div_ceil (stage + 1 + cond m.chance_free 0 1) 32) (omega arith) each in
      omega (arith, ints, all)
