-- What is found for a game of a position, and its report.
use Rattle.std.proofs.Common.{Bool, subst}
use Rattle.fields.specs.declared.positions.PositionText.{PositionText}
use Rattle.fields.specs.declared.ask.Ask.{Ask}
use Rattle.fields.specs.Ranges.{IsAskInRange}
use Rattle.position.specs.declared.games.AnyGame.{AnyGame}
use Rattle.position.specs.Games.{IsGameOf, model_of, OfSame, OfGame}
use Rattle.position.specs.HasGame.{HasGame}
use Rattle.position.proofs.GameLemmas.{is_game}
use Rattle.position.proofs.LimitLemmas.{narrow_game}
use Rattle.lazy_workers.specs.declared.summary.Found.{Found}
use Rattle.lazy_workers.specs.Findings.{IsFoundGame}
use Rattle.solution.specs.declared.report.Solved.{Solved}
use Rattle.solution.specs.Outcomes.{HasGap}
use Rattle.solution.specs.Solutions.{IsReportOf, IsSolution}
use Rattle.solution.proofs.ReportLemmas.{has_gap, found_solution as is_solution}

module _ (any : AnyGame) (ask : Ask) (may_stop : Bool) (x : Found) (found : OfSame any (λ S m. IsFoundGame m ask may_stop x)) where
  pub found_gap : HasGap x
  found_gap = has_gap (model_of found.0) ask may_stop x found.2

  -- the report of what was found is a solution of the position's game
  pub found_solution : (text : PositionText) (s : Solved) → HasGame text → IsGameOf text any → IsAskInRange ask → IsReportOf text ask x s
      → OfGame text (λ S m. IsSolution m text ask may_stop s.report)
  found_solution text s has is asks of =
      let this = subst (IsGameOf text) found.1 is in
      (found.0, this, is_solution (model_of found.0) ask may_stop x found.2 text s of (is_game found.0) asks has.in_range (narrow_game text found.0 has this))
