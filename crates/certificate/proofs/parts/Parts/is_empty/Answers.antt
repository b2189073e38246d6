use Rattle.certificate.proofs.PartLemmas.{parts-none}
use Rattle.certificate.proofs.parts.Parts.is_empty.Goals as goal

pub returns : goal.returns
returns c = rw (← c.self.view_is) (parts-none c.self.inside.at c.self.inside.rest c.is_none.result c.is_none.ensures)
