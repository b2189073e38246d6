use Rattle.std.proofs.Common.{ap, ⊎_elim, inl, inr}
use Rattle.serial_ab.specs.Tables.{TableView}
use Rattle.serial_ab.proofs.TableLemmas.{one_more}
use Rattle.serial_ab.proofs.transpositions.TranspositionTable.store.Goals as goal

pub returns-in-Ok-clause-stored : goal.returns-in-Ok-clause-stored
returns-in-Ok-clause-stored c = inl c.in-Ok.ensures.updates.1

pub returns-in-Ok-clause-others : goal.returns-in-Ok-clause-others
returns-in-Ok-clause-others c = λ q e tells. ⊎_elim
    (λ held. inl (rw (← ap (λ (t : TableView). t.stored) c.self.view_is) (c.make_room.ensures.less q e held)))
    (λ here. inr here)
    (one_more c.make_room.new.memos.entries c.insert.new.self.entries c.args.query.now c.args.memo.now c.in-Ok.ensures.updates.0 q e tells)
