use Rattle.std.proofs.Common.{sym, ◌∙◌}
use Rattle.certificate.proofs.PartLemmas.{count_more, has_parts-empty, has_parts-many, has_parts-counted}
use Rattle.certificate.proofs.parts.has_parts.Goals as goal

pub returns-then-is_empty : goal.returns-then-is_empty
returns-then-is_empty c = has_parts-empty c.args.least c.args.most c.parts.count _ _ _ _ c.in-Some.ensures (sym c.is_empty.ensures ∙ c.if-is_empty.true) c.parts.invariant

pub returns-then-count-most : goal.returns-then-count-most
returns-then-count-most c = has_parts-many c.args.least c.args.most c.parts.count _ _ _ _ c.in-Some.ensures c.if-count-most.true c.parts.invariant

pub parts-preserved : goal.parts-preserved
parts-preserved c = count_more _ _ _ _ _ _ c.in-Some.ensures (sym c.is_empty.ensures ∙ c.if-is_empty.false) c.if-count-most.false c.parts.invariant

pub returns : goal.returns
returns c = has_parts-counted c.args.least c.args.most c.parts.count _ _ c.in_default.ensures.0 c.parts.invariant
