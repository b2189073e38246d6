use Rattle.std.proofs.Common.{arith, eqb, length, sym}
use Rattle.std.proofs.lemmas.Bool.{ne_eqb}
use Rattle.table.specs.Setting.{lists_of}
use Rattle.table.specs.laws.Below.{not_all}
use Rattle.table.specs.Lists.{draws_at}
use Rattle.table.proofs.rules.Fitting.is_chance_free.Goals as goal

pub returns-then-draw_count-ne1 : goal.returns-then-draw_count-ne1
returns-then-draw_count-ne1 c =
    let l = lists_of c.args.self.now.setting in
    sym (not_all (length l.cells) (λ place. eqb (draws_at l place) 1) c.loop-place.place (omega arith) (ne_eqb (draws_at l c.loop-place.place) 1 (λ e. absurd (omega arith))))
