use Rattle.std.proofs.Common.{rules, ◌≡◌, ◌-ℤ◌, true, w64, SFits, to_z, of_z, ap, ◌∙◌}
use Rattle.std.proofs.lemmas.Int.{to_z-of_z}
use Rattle.lazy_workers.specs.Findings.{found_gap}
use Rattle.solution.specs.Outcomes.{IsOutcomeFor}
use Rattle.solution.specs.Solutions.{spent_of}
use Rattle.lazy_workers.specs.Keeping.{AreAllSpent}
use Rattle.solution.proofs.ReportLemmas.{gap_fits, spent_or, outcome_by}
use Rattle.solution.proofs.report.report_of.Goals as goal

pub overflow_sub-gap : goal.overflow_sub-gap
overflow_sub-gap c = gap_fits c.args.found c.requires (search rules) (search rules)

pub returns : goal.returns
returns c =
    let x = c.args.found in
    let lower_fits : SFits w64 x.lower = search rules in
    let upper_fits : SFits w64 x.upper = search rules in
    let resolution_fits : SFits w64 x.resolution = search rules in
    let asked_fits : SFits w64 c.args.ask.now.gap = search rules in
    let lower = to_z-of_z w64 x.lower lower_fits in
    let upper = to_z-of_z w64 x.upper upper_fits in
    let resolution = to_z-of_z w64 x.resolution resolution_fits in
    let asked = to_z-of_z w64 c.args.ask.now.gap asked_fits in
    let spent = c.from_vec.ensures ∙ c.in_ok-spent.ensures ∙ ap spent_of c.as_slice.ensures in
    let gap_is = to_z-of_z w64 (to_z w64 (of_z w64 x.upper) -ℤ to_z w64 (of_z w64 x.lower)) (gap_fits x c.requires lower_fits upper_fits) in
    let told : IsOutcomeFor (found_gap x) c.args.ask.now.gap x.resolution x.was_full (c.are_all_spent-all_spent.result ≡ true) c.outcome_for-outcome.result =
    rw (gap_is, upper, lower, asked, resolution) at c.outcome_for-outcome.ensures in
    let all = spent_or c.are_all_spent-all_spent.result (AreAllSpent c.args.ask.now x.turns) (rw c.as_slice-2.ensures at c.are_all_spent-all_spent.ensures) in
    let ends = outcome_by (found_gap x) c.args.ask.now.gap x.resolution x.was_full (c.are_all_spent-all_spent.result ≡ true) (AreAllSpent c.args.ask.now x.turns) all.0 all.1
    c.outcome_for-outcome.result told in
    record {
      outcome = c.outcome_for-outcome.result;
      is_outcome = ends;
      is_solved = λ i. record {
        report = record {
          position = c.args.position;
          weight = c.args.ask.now.weight;
          turns = c.args.ask.now.turns;
          asked = asked i;
          resolution = resolution i;
          outcome = c.outcome_for-outcome.result;
          lower = lower i;
          upper = upper i;
          spent = spent i;
          one = x.one;
          two = x.two;
        };
        turns = x.turns;
        kept = x.kept;
      };
    }
