use Rattle.std.proofs.Common.{Ok, false, subst}
use Rattle.goofspiel.specs.Rules.{goofspiel_game}
use Rattle.position.specs.declared.games.AnyGame.TheVariants.{Goofspiel}
use Rattle.position.proofs.GameLemmas.{is_game, of_this}
use Rattle.lazy_workers.specs.Findings.{IsFoundGame}
use Rattle.solution.specs.Solutions.{IsReportOf}
use Rattle.solution.proofs.ReportLemmas.{has_gap, found_solution}
use Rattle.commands.specs.Samples.{sample_ask, sample_line, sample_position}
use Rattle.commands.specs.Runs.{status_of, IsSampled}
use Rattle.commands.proofs.RunLemmas.{answers}
use Rattle.commands.proofs.SampleLemmas.{asks, in_range, sample_few, sample_width, is_sample_solution}
use Rattle.commands.proofs.SizeLemmas.{few_states, rank_is, size_is}
use Rattle.commands.proofs.sample.sampled.Goals as goal

pub report_of-requires : goal.report_of-requires
report_of-requires g c =
    let any = Goofspiel c.sample_game.result in let x = c.in_ok-found.found in
    let found = of_this (λ S m. IsFoundGame m sample_ask false x) any (c.requires.finds any sample_ask (Ok x) c.in_ok-found.ensures) in
    has_gap (goofspiel_game c.sample_game.result.setting) sample_ask false x found

pub returns : goal.returns
returns g c =
    let n = c.args.number in
    let sample = c.sample_game.result in
    let game = goofspiel_game sample.setting in
    let any = Goofspiel sample in let x = c.in_ok-found.found in let s = c.in_ok-solved.solved in
    let found = of_this (λ S m. IsFoundGame m sample_ask false x) any (c.requires.finds any sample_ask (Ok x) c.in_ok-found.ensures) in
    let report = subst (λ text. IsReportOf text sample_ask x s) c.in_ok-position.ensures c.in_ok-solved.ensures in
    let solved = found_solution game sample_ask false x found (sample_position n) s report (is_game any) asks (in_range n) (sample_width n sample) in
    let whole = is_sample_solution game n s.report (few_states n sample.setting sample.valid c.sample_game.ensures)
    (rank_is n sample.setting sample.valid c.sample_game.ensures) (size_is n sample.setting sample.valid c.sample_game.ensures) (sample_few sample) solved in
    answers (IsSampled n) (status_of s.report.outcome) (sample_line n s.report) c.told.result (IsSampled.reported s.report (any, c.sample_game.ensures, whole)) c.told.ensures

pub told-requires-clause-range : goal.told-requires-clause-range
told-requires-clause-range g c =
    let n = c.args.number in let sample = c.sample_game.result in
    let any = Goofspiel sample in let x = c.in_ok-found.found in let s = c.in_ok-solved.solved in
    let found = of_this (λ S m. IsFoundGame m sample_ask false x) any (c.requires.finds any sample_ask (Ok x) c.in_ok-found.ensures) in
    let report = subst (λ text. IsReportOf text sample_ask x s) c.in_ok-position.ensures c.in_ok-solved.ensures in
    let solved = found_solution (goofspiel_game sample.setting) sample_ask false x found (sample_position n) s report (is_game any) asks (in_range n) (sample_width n sample) in
    solved.in_range
