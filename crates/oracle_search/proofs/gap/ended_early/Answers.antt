use Rattle.std.proofs.Common.{rules, ◌≡◌, sym, ℤ, pos, ◌+ℤ◌, ◌-ℤ◌, ◌≤ℤ◌, ◌<ℤ◌, arith}
use Rattle.std.proofs.lemmas.Int.{ints}
use Rattle.bounds_board.specs.Views.{known_bound}
use Rattle.sim_game.specs.declared.Side.TheVariants.{One, Two}
use Rattle.oracle_search.specs.Finished.{IsBeyond, left_gap}
use Rattle.oracle_search.proofs.WorkLemmas.{close_left}
use Rattle.oracle_search.proofs.gap.ended_early.Goals as goal

beyond_gap : (low high gap target : ℤ) → gap ≡ high -ℤ low → target <ℤ gap → (low +ℤ target) <ℤ high
beyond_gap low high gap target is far = omega (arith, ints)

pub returns-then-gap-left_gap-clause-end : goal.returns-then-gap-left_gap-clause-end
returns-then-gap-left_gap-clause-end g c =
    let m = g.G.Game.model c.args.setup.now.game in
    let v = g.B.Bounds.view c.told_gap-gap.new.board in
    let gap = c.told_gap-gap.ensures.gap in
    let far : c.args.target <ℤ c.told_gap-gap.result = search rules in
    let beyond : IsBeyond m v c.args.s c.args.target = beyond_gap (known_bound m v One c.args.s) (known_bound m v Two c.args.s) c.told_gap-gap.result c.args.target gap far in
    let stage = c.left_gap.ensures.0 in
    let is : c.left_gap.result ≡ pos (left_gap m stage (m.rank c.args.s)) = c.left_gap.ensures.2 in
    let near : c.told_gap-gap.result ≤ℤ c.left_gap.result = search rules in
    let below : c.told_gap-gap.result ≤ℤ pos (left_gap m stage (m.rank c.args.s)) = omega (arith, ints) in
    (beyond, close_left m c.total.result stage v c.args.s c.told_gap-gap.result (sym c.total.ensures.total) c.left_gap.ensures.1 gap below)
