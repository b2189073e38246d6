-- Games of many seeds, told in numbers in the caller's memory.
use Rattle.std.specs.Prelude.{◌≡◌, ℕ, ℤ, true, false, List, length, take}
use Rattle.std.specs.List.{AllZip}
use Rattle.sim_game.specs.Model.{GameModel}
use Rattle.referee.specs.declared.Totals.{Totals}
use Rattle.certificate.specs.declared.report.Report.{Report}
use Rattle.position.specs.Games.{OfGame}
use Rattle.commands.specs.Matches.{IsMatch}
use Rattle.dosolve_c.specs.declared.seeds.MatchPayoffs.{MatchPayoffs}
use Rattle.dosolve_c.specs.Calls.{can_play, put_over}
use Rattle.dosolve_c.specs.Plans.{IsReportIn, IsUnread}

-- the payoff of the first game, and the totals of all
abbrev pub payoffs_told : ℤ → Totals → MatchPayoffs
payoffs_told first t = record { games = t.games; first = first; sum = t.sum; least = t.least; most = t.most }

-- the numbers of the match whose text play prints
pub record IsMatchTold {S : Type 0} (m : GameModel S) (r : Report) (games seed : ℕ) (told : MatchPayoffs) : Type 0 where
  pub text : List ℕ
  pub is_match : IsMatch m r games seed text
  pub numbers : told ≡ payoffs_told is_match.first.payoff is_match.totals

-- a match for each seed
abbrev pub AreMatchesTold : {S : Type 0} → GameModel S → Report → ℕ → List ℕ → List MatchPayoffs → Type 0
AreMatchesTold m r games seeds told = AllZip (IsMatchTold m r games) seeds told

-- the results before and after
pub data AreGamesTold (games : ℕ) (seeds bytes : List ℕ) (results results' : List MatchPayoffs) : ℕ → Type 0 where
  -- a match for each seed that there is room for
  played : (r : Report) (told : List MatchPayoffs) → can_play games ≡ true → IsReportIn bytes r
      → OfGame r.position (λ S m. AreMatchesTold m r games (take (length results) seeds) told)
      → results' ≡ put_over told results → AreGamesTold games seeds bytes results results' 0
  no_match : can_play games ≡ false → results' ≡ results → AreGamesTold games seeds bytes results results' 1
  fault : (status : ℕ) → can_play games ≡ true → IsUnread bytes status → results' ≡ results
      → AreGamesTold games seeds bytes results results' status
