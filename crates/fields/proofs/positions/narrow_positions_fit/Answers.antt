use Rattle.fields.proofs.PositionLemmas.{within_wide, narrow_fits, narrow_by_size}
use Rattle.sim_game.specs.declared.Limits.TheVariants.{Narrow}
use Rattle.fields.specs.Positions.{kind_of, values_of}
use Rattle.fields.proofs.positions.narrow_positions_fit.Goals as goal

pub returns-clause-fits : goal.returns-clause-fits
returns-clause-fits c = narrow_fits

pub returns-clause-only : goal.returns-clause-only
returns-clause-only c = λ text fits. (within_wide Narrow (kind_of text) (values_of text) fits, narrow_by_size text fits)
