use Rattle.std.proofs.Common.{rules, ◌≡◌, w64, SFits, of_z, ap, ◌∙◌}
use Rattle.std.proofs.lemmas.Int.{to_z-of_z}
use Rattle.plan_book.specs.Sheets.{root_bound}
use Rattle.checker.specs.Verdicts.{IsResolutionFor}
use Rattle.checker.proofs.VerdictLemmas.{same_number}
use Rattle.checker.proofs.number_fault.Goals as goal

pub returns-then-r-want : goal.returns-then-r-want
returns-then-r-want g c =
    let m = g.G.Game.model c.args.g in
    let r = c.args.r.now in
    let lower_fits : SFits w64 c.bound_of-lower.result = search rules in
    let upper_fits : SFits w64 c.bound_of-upper.result = search rules in
    let told_lower : SFits w64 r.lower = search rules in
    let told_upper : SFits w64 r.upper = search rules in
    let lower : r.lower ≡ root_bound m r.one = same_number _ _ told_lower lower_fits c.if-r-lower.false ∙ rw c.root-root.ensures at c.bound_of-lower.ensures in
    let upper : r.upper ≡ root_bound m r.two = same_number _ _ told_upper upper_fits c.if-r-upper.false ∙ rw c.root-root.ensures at c.bound_of-upper.ensures in
    let want_fits : SFits w64 c.resolution-want.result = search rules in
    rw (to_z-of_z w64 c.resolution-want.result want_fits) (lower, upper, c.resolution-want.ensures.is, λ e. c.if-r-want.true (ap (of_z w64) e))

pub returns-then-not-is_allowed : goal.returns-then-not-is_allowed
returns-then-not-is_allowed g c =
    let m = g.G.Game.model c.args.g in
    let r = c.args.r.now in
    let lower_fits : SFits w64 c.bound_of-lower.result = search rules in
    let upper_fits : SFits w64 c.bound_of-upper.result = search rules in
    let want_fits : SFits w64 c.resolution-want.result = search rules in
    let told_lower : SFits w64 r.lower = search rules in
    let told_upper : SFits w64 r.upper = search rules in
    let told_resolution : SFits w64 r.resolution = search rules in
    let lower : r.lower ≡ root_bound m r.one = same_number _ _ told_lower lower_fits c.if-r-lower.false ∙ rw c.root-root.ensures at c.bound_of-lower.ensures in
    let upper : r.upper ≡ root_bound m r.two = same_number _ _ told_upper upper_fits c.if-r-upper.false ∙ rw c.root-root.ensures at c.bound_of-upper.ensures in
    let is = c.resolution-want.ensures.is in
    let resolution : IsResolutionFor m r r.resolution = (is.0, same_number _ _ told_resolution want_fits c.if-r-want.false ∙ is.1, is.2) in
    (lower, upper, resolution, c.if-not-is_allowed.ensures)

pub returns : goal.returns
returns g c =
    let m = g.G.Game.model c.args.g in
    let r = c.args.r.now in
    let lower_fits : SFits w64 c.bound_of-lower.result = search rules in
    let upper_fits : SFits w64 c.bound_of-upper.result = search rules in
    let want_fits : SFits w64 c.resolution-want.result = search rules in
    let told_lower : SFits w64 r.lower = search rules in
    let told_upper : SFits w64 r.upper = search rules in
    let told_resolution : SFits w64 r.resolution = search rules in
    let lower : r.lower ≡ root_bound m r.one = same_number _ _ told_lower lower_fits c.if-r-lower.false ∙ rw c.root-root.ensures at c.bound_of-lower.ensures in
    let upper : r.upper ≡ root_bound m r.two = same_number _ _ told_upper upper_fits c.if-r-upper.false ∙ rw c.root-root.ensures at c.bound_of-upper.ensures in
    let is = c.resolution-want.ensures.is in
    let resolution : IsResolutionFor m r r.resolution = (is.0, same_number _ _ told_resolution want_fits c.if-r-want.false ∙ is.1, is.2) in
    record { lower = lower; upper = upper; resolution = resolution; outcome = c.if-not-is_allowed.ensures }
