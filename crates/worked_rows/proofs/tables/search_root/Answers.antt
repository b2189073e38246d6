use Rattle.bounds_board.proofs.ViewLemmas.{later_trans}
use Rattle.serial_ab.proofs.TableLemmas.{remembered_later}
use Rattle.worked_rows.proofs.tables.search_root.Goals as goal

pub serial_with-requires-clause-remembered : goal.serial_with-requires-clause-remembered
serial_with-requires-clause-remembered g c = remembered_later c.claim.ensures.later c.requires.remembered

pub returns-in-Ok-serial_with-clause-later : goal.returns-in-Ok-serial_with-clause-later
returns-in-Ok-serial_with-clause-later g c = later_trans _ _ _ c.claim.ensures.later c.serial_with.ensures.ends.kept.later

pub returns-in-Err-serial_with-clause-later : goal.returns-in-Err-serial_with-clause-later
returns-in-Err-serial_with-clause-later g c = later_trans _ _ _ c.claim.ensures.later c.serial_with.ensures.ends.kept.later

pub returns-in-Err-clause-remembered : goal.returns-in-Err-clause-remembered
returns-in-Err-clause-remembered g c = remembered_later c.claim.ensures.later c.requires.remembered
