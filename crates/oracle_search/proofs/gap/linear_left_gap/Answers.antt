use Rattle.std.proofs.Common.{rules, ◌≡◌, ℕ, ◌+◌, ◌*◌, ◌/◌, ◌≤◌, min, ℤ, pos, ◌≤ℤ◌, w64, to_z, sym, subst, ap, ◌∙◌, arith}
use Rattle.std.proofs.Math.Nat.{div-le_self}
use Rattle.std.proofs.lemmas.Int.{ints, to_z-of_z, to_z_pos}
use Rattle.std.proofs.lemmas.Nat.{mul-le}
use Rattle.sim_game.specs.declared.TheConstants.{MOST_TURNS}
use Rattle.sim_game.specs.Resolution.{payoff_range}
use Rattle.oracle_search.specs.Finished.{IsLeftBelow}
use Rattle.oracle_search.proofs.LeftLemmas.{left_each, left_narrow}
use Rattle.oracle_search.proofs.gap.linear_left_gap.Given.{Over}
use Rattle.oracle_search.proofs.gap.linear_left_gap.Goals as goal

-- the number itself
left : (g : Over) (c : goal.After-rank g) → let m = g.G.Game.model c.args.g in
    to_z w64 (c.rank.result * (c.unsigned_abs-range.result * 1000000 / (16 * c.args.total) + 2 * c.min.result))
    ≡ pos (m.rank c.args.s * left_each (payoff_range m) c.args.total)
left g c =
    let m = g.G.Game.model c.args.g in
    let game = g.met.G.Game.lawful c.args.g in
    let range : c.unsigned_abs-range.result ≡ payoff_range m = search (rules, to_z-of_z) in
    let wide : payoff_range m ≤ 8000 = omega (arith, ints, game.low_least, game.low_high, game.high_most) in
    let least : c.min.result ≡ min (payoff_range m) 1 = c.min.ensures ∙ ap (λ (n : ℕ). min n 1) range in
    let each : c.unsigned_abs-range.result * 1000000 / (16 * c.args.total) + 2 * c.min.result ≡ left_each (payoff_range m) c.args.total =
    ap (λ (n : ℕ). n * 1000000 / (16 * c.args.total) + 2 * c.min.result) range ∙ ap (λ (n : ℕ). payoff_range m * 1000000 / (16 * c.args.total) + 2 * n) least in
    let few : left_each (payoff_range m) c.args.total ≤ 9000000000 = omega (arith, div-le_self (payoff_range m * 1000000) (16 * c.args.total), wide) in
    let rank = game.rank_high c.args.s c.requires.reachable in
    let small = mul-le (m.rank c.args.s) (left_each (payoff_range m) c.args.total) MOST_TURNS 9000000000 rank few in
    ap (λ (n : ℕ). to_z w64 (c.rank.result * n)) each ∙ ap (λ (n : ℕ). to_z w64 (n * left_each (payoff_range m) c.args.total)) c.rank.ensures
    ∙ to_z_pos w64 (m.rank c.args.s * left_each (payoff_range m) c.args.total) (omega (arith, small))

pub returns-clause-least : goal.returns-clause-least
returns-clause-least g c = subst (λ (n : ℤ). pos 0 ≤ℤ n) (sym (left g c)) (omega (arith, ints))

pub returns-clause-left : goal.returns-clause-left
returns-clause-left g c =
    let m = g.G.Game.model c.args.g in
    subst (IsLeftBelow m c.args.total c.args.s) (sym (left g c)) (left_narrow m (g.met.G.Game.lawful c.args.g) c.args.total c.args.s c.requires.low c.requires.high)
