use Rattle.std.proofs.Common.{rules, w32, SFits}
use Rattle.std.proofs.lemmas.Int.{to_z-of_z}
use Rattle.certificate.proofs.ListLemmas.{value_more, value_none, values_done}
use Rattle.certificate.proofs.lists.integers.Goals as goal

pub returns-in_default-short_integer : goal.returns-in_default-short_integer
returns-in_default-short_integer c =
    let low : SFits w32 c.args.low = search rules in
    let high : SFits w32 c.args.high = search rules in
    rw (to_z-of_z w32 c.args.low low, to_z-of_z w32 c.args.high high)
    at (value_none _ c.parts.numbers.items _ _ _ _ c.in-Some.ensures c.in_default-short_integer.ensures c.parts.invariant)

pub parts-preserved : goal.parts-preserved
parts-preserved c =
    let z : SFits w32 c.in-Some-short_integer.z = search rules in
    rw (c.in_ok-push.ensures.items, to_z-of_z w32 c.in-Some-short_integer.z z)
    (value_more _ c.parts.numbers.items _ _ _ _ _ c.in-Some.ensures c.in-Some-short_integer.ensures c.parts.invariant)

pub returns : goal.returns
returns c =
    let low : SFits w32 c.args.low = search rules in
    let high : SFits w32 c.args.high = search rules in
    rw c.from_vec.ensures (rw (to_z-of_z w32 c.args.low low, to_z-of_z w32 c.args.high high) at (values_done _ c.parts.numbers.items _ _ c.in_default.ensures.0 c.parts.invariant))
