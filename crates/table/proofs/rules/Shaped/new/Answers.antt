use Rattle.std.proofs.Common.{arith, sym, ◌∙◌}
use Rattle.std.proofs.lemmas.Bool.{eqb-false}
use Rattle.table.specs.Setting.{lists_of}
use Rattle.table.proofs.FitLemmas.{fits_from}
use Rattle.table.proofs.PositionLemmas.{table_from}
use Rattle.table.proofs.rules.Shaped.new.Goals as goal

pub invariant_of-lists : goal.invariant_of-lists
invariant_of-lists c = record { fits = fits_from (lists_of c.args.setting) (sym c.do_fit.ensures ∙ c.if-not-do_fit.false) }

pub invariant_of-result : goal.invariant_of-result
invariant_of-result c =
    let l = lists_of c.args.setting in
    let some = eqb-false _ 0 (sym c.if-is_empty.ensures) in
    record {
      valid = table_from c.args.limits l c.in_ok-check-4.ensures c.in_ok-check-5.ensures c.in_ok-check-6.ensures c.in_ok-check-7.ensures
          (fits_from l (sym c.do_fit.ensures ∙ c.if-not-do_fit.false)) (omega arith) c.args.setting.few_states c.args.setting.few_draws
          c.in_ok-check.ensures c.in_ok-check-2.ensures c.in_ok-check-3.ensures;
    }
