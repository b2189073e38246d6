use Rattle.std.proofs.Common.{◌≡◌, ◌+◌, ◌-◌, ℕ, arith, subst, sym}
use Rattle.table.specs.Setting.{lists_of}
use Rattle.table.proofs.FitLemmas.{HaveRisen, not_risen, risen_all}
use Rattle.table.proofs.setting.Setting.do_draws_fit.Goals as goal

pub returns-then-first-last : goal.returns-then-first-last
returns-then-first-last c =
    let l = lists_of c.args.self.now in
    let place = c.loop-place.place - 1 in
    let e : c.loop-place.place ≡ place + 1 = omega arith in
    let risen = subst (λ (p : ℕ). HaveRisen l p c.loop-place.last) e c.loop-place.invariant in
    sym (not_risen l place c.loop-place.last c.in-Draws.first risen c.in-Draws.ensures (omega arith))

pub returns : goal.returns
returns c =
    let l = lists_of c.args.self.now in
    let e : c.loop-place.place ≡ 0 = omega arith in
    sym (risen_all l c.loop-place.last (subst (λ (p : ℕ). HaveRisen l p c.loop-place.last) e c.loop-place.invariant))
