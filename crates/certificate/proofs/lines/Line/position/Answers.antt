use Rattle.certificate.specs.Versions.{limits_of}
use Rattle.certificate.proofs.PositionLaws.{values_fit}
use Rattle.certificate.proofs.lines.Line.position.Goals as goal

pub with_values-requires : goal.with_values-requires
with_values-requires c =
    let read = rw (c.fields.ensures, c.limits_of.ensures) at c.in_ok-values.ensures in
    values_fit (limits_of c.args.version) c.in_ok-game.game _ _ read
