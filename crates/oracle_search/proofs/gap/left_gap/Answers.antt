use Rattle.std.proofs.Common.{◌≡◌, ℕ, ◌+◌, ◌*◌, ◌/◌, ◌<◌, ◌≤◌, ◌^◌, pos, w64, SFits, cond, ap, ◌∙◌, arith}
use Rattle.std.specs.Int.{div_ceil}
use Rattle.std.proofs.lemmas.Int.{ints, to_z-of_z, to_z_pos}
use Rattle.std.proofs.lemmas.Grind.{div_ceil_times}
use Rattle.std.proofs.lemmas.Nat.{mul-le}
use Rattle.std.proofs.Math.Nat.{div-le_self}
use Rattle.sim_game.specs.declared.TheConstants.{MOST_TURNS}
use Rattle.oracle_search.specs.Finished.{left_gap}
use Rattle.oracle_search.proofs.WorkLemmas.{rank_below_root, rank_part}
use Rattle.oracle_search.proofs.gap.left_gap.Given.{Over}
use Rattle.oracle_search.proofs.gap.left_gap.Goals as goal

pub nonzero_div-each : goal.nonzero_div-each
nonzero_div-each g c =
    let m = g.G.Game.model c.args.g in
    let root : c.rank.result ≡ m.rank m.root = c.rank.ensures ∙ ap m.rank c.root.ensures in
    let below = rank_below_root m (g.met.G.Game.lawful c.args.g) c.args.s c.requires.here.reachable in
    let some = c.requires.here.goes_on in omega arith

part : (g : Over) (c : goal.After-div_ceil g) → c.div_ceil.result ≡ div_ceil (c.resolution.ensures.is.0 / c.rank.result) 32
part g c =
    let is = c.resolution.ensures.is.1 in let most = c.resolution.ensures.most in
    let fits : SFits w64 c.resolution.result = omega (arith, ints) in
    rw (to_z-of_z w64 c.resolution.result fits, is) at c.div_ceil.ensures

fits : (g : Over) (c : goal.After-div_ceil g) → c.rank-2.result * c.div_ceil.result < 2 ^ 63
fits g c =
    let is = c.resolution.ensures.is.1 in let most = c.resolution.ensures.most in
    let few : c.resolution.ensures.is.0 ≤ 99999999999 = omega (arith, ints) in
    let less = div-le_self c.resolution.ensures.is.0 c.rank.result in
    let rounded = (div_ceil_times (c.resolution.ensures.is.0 / c.rank.result) 32 (omega arith)).1 in
    let part_is = part g c in
    let small : c.div_ceil.result ≤ 100000000000 = omega arith in
    let high = (g.met.G.Game.lawful c.args.g).rank_high c.args.s c.requires.here.reachable in let rank = c.rank-2.ensures in
    let product = mul-le c.rank-2.result c.div_ceil.result MOST_TURNS 100000000000 (omega arith) small in
    omega arith

pub overflow_cast-result-2 : goal.overflow_cast-result-2
overflow_cast-result-2 g c = let small = fits g c in omega (arith, ints)

pub returns : goal.returns
returns g c =
    let m = g.G.Game.model c.args.g in
    let res = c.resolution.ensures.is.2 in
    let root : c.rank.result ≡ m.rank m.root = c.rank.ensures ∙ ap m.rank c.root.ensures in
    let below = rank_below_root m (g.met.G.Game.lawful c.args.g) c.args.s c.requires.here.reachable in
    let some = c.requires.here.goes_on in
    let each : c.resolution.ensures.is.0 / c.rank.result ≡ res.gap + 1 + cond m.chance_free 0 1 =
    ap (λ (k : ℕ). c.resolution.ensures.is.0 / k) root ∙ rank_part m c.args.total c.resolution.ensures.is.0 (omega arith) res in
    let product : c.rank-2.result * c.div_ceil.result ≡ left_gap m res.gap (m.rank c.args.s) =
    ap (λ (k : ℕ). k * c.div_ceil.result) c.rank-2.ensures ∙ ap (λ (k : ℕ). m.rank c.args.s * k) (part g c ∙ ap (λ (k : ℕ). div_ceil k 32) each) in
    (res.gap, res.is_gap, to_z_pos w64 (c.rank-2.result * c.div_ceil.result) (fits g c) ∙ ap pos product)
