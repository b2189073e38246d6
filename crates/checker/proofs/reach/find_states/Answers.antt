use Rattle.std.proofs.Common.{◌≡◌, ◌+◌, ◌-◌, subst, arith}
use Rattle.checker.specs.Found.{IsMarked, IsWalked}
use Rattle.checker.proofs.FoundLemmas.{all_reached, no_states, root_walked}
use Rattle.checker.proofs.reach.find_states.Goals as goal

pub mark-requires-clause-states : goal.mark-requires-clause-states
mark-requires-clause-states g c = no_states (g.G.Game.model c.args.g) c.args.sheet.now c.in_ok-found.found.items (rw c.len.ensures at c.in_ok-found.ensures.len) c.in_ok-found.ensures.none

pub loop-fallen-init : goal.loop-fallen-init
loop-fallen-init g c =
    let m = g.G.Game.model c.args.g in
    let sheet = c.args.sheet.now in
    let found = c.mark.new.found.items in
    let root = subst (λ (s : g.row.G-State.Denot). IsMarked sheet.rows found (m.key s)) c.root-root.ensures c.mark.ensures.marked in
    subst (IsWalked m sheet found) (omega arith) (root_walked m sheet (g.met.G.Game.lawful c.args.g) found c.mark.ensures.later.states root)

pub loop-fallen-preserved : goal.loop-fallen-preserved
loop-fallen-preserved g c =
    let m = g.G.Game.model c.args.g in
    let top : c.rank-top.result ≡ m.rank m.root = rw c.root-root.ensures at c.rank-top.ensures in
    let rank : c.rank-top.result - c.loop-fallen.fallen ≡ m.rank m.root + 1 - (c.loop-fallen.fallen + 1) = omega (arith, top) in
    subst (IsWalked m c.args.sheet.now c.follow_rank.new.found.items) rank c.in_ok-follow_rank.ensures

pub returns : goal.returns
returns g c =
    let m = g.G.Game.model c.args.g in
    let top : c.rank-top.result ≡ m.rank m.root = rw c.root-root.ensures at c.rank-top.ensures in
    let ends : m.rank m.root + 1 - c.loop-fallen.fallen ≡ 1 = omega (arith, top) in
    all_reached m c.args.sheet.now (g.met.G.Game.lawful c.args.g) c.loop-fallen.found.items (subst (IsWalked m c.args.sheet.now c.loop-fallen.found.items) ends c.loop-fallen.invariant)
