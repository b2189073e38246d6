use Rattle.std.proofs.Common.{flat_map, take}
use Rattle.text.specs.Texts.{Adds}
use Rattle.certificate.specs.Positions.{value_line}
use Rattle.fields.specs.Positions.{shown_value}
use Rattle.certificate.proofs.positions.add_values.Given as goal

abbrev pub invariant-loop-value : goal.invariant-loop-value
invariant-loop-value l = Adds l.initial.text l.text (flat_map (λ v. value_line (shown_value v)) (take l.value-index l.values))
