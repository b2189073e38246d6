-- What is answered to the bytes of a report whose plans play against each other.
use Rattle.std.specs.Prelude.{◌≡◌, ℕ, List, [], ◌∷◌, ◌++◌, codes, decimal, Ok, Err}
use Rattle.std.specs.Fmt.{signed_decimal}
use Rattle.sim_game.specs.declared.Side.TheVariants.{One, Two}
use Rattle.sim_game.specs.Model.{GameModel, after_turn}
use Rattle.referee.specs.declared.PlayedTurn.{PlayedTurn}
use Rattle.referee.specs.declared.Record.{Record}
use Rattle.referee.specs.declared.Totals.{Totals}
use Rattle.referee.specs.Streams.{words_of_game}
use Rattle.referee.specs.Tallies.{AreTotals, game_payoff}
use Rattle.referee.specs.Transcripts.{IsRecord, as_turn}
use Rattle.certificate.specs.declared.report.Report.{Report}
use Rattle.position.specs.Games.{OfGame}
use Rattle.commands.specs.declared.reports.ReportFault.{ReportFault}
use Rattle.commands.specs.Reports.{fault_text}
use Rattle.commands.specs.Checks.{report_in}

-- ---- the lines
-- the labels of both moves, and the number of the draw
abbrev pub turn_text : {S : Type 0} → GameModel S → S → PlayedTurn → List ℕ
turn_text m s t =
    codes "turn " ++ (decimal (m.label One s t.one)
    ++ 32 ∷ (decimal (m.label Two s t.two) ++ 32 ∷ (decimal t.draw ++ 10 ∷ [])))

-- a line for each turn from the state on
abbrev pub turns_text : {S : Type 0} → GameModel S → S → List PlayedTurn → List ℕ
turns_text m s [] = []
turns_text m s (t ∷ turns) = turn_text m s t ++ turns_text m (after_turn m s (as_turn t)) turns

abbrev pub totals_text : Totals → List ℕ
totals_text t =
    codes "games " ++ (decimal t.games ++ (codes " sum " ++ (signed_decimal t.sum
    ++ (codes " least " ++ (signed_decimal t.least ++ (codes " most " ++ (signed_decimal t.most ++ 10 ∷ [])))))))

-- the turns and the payoff of the first game, and the totals of all
abbrev pub match_text : {S : Type 0} → GameModel S → Record → Totals → List ℕ
match_text m first totals =
    turns_text m m.root first.turns ++ (codes "payoff " ++ (signed_decimal first.payoff ++ 10 ∷ totals_text totals))

-- ---- answers
-- the text of so many games between the plans of the report, by the words of the seed
pub record IsMatch {S : Type 0} (m : GameModel S) (r : Report) (games seed : ℕ) (text : List ℕ) : Type 0 where
  pub first : Record
  pub totals : Totals
  pub is_first : IsRecord m r.one r.two (words_of_game m seed 0) first
  pub are_totals : AreTotals games (game_payoff m r.one r.two seed) totals
  pub is : text ≡ match_text m first totals

-- the status and the text that play answers to the bytes
pub data IsPlayedMatch (games seed : ℕ) (bytes : List ℕ) : ℕ → List ℕ → Type 0 where
  played : (r : Report) (text : List ℕ) → report_in bytes ≡ Ok r
      → OfGame r.position (λ S m. IsMatch m r games seed text) → IsPlayedMatch games seed bytes 0 text
  unread : (f : ReportFault) → report_in bytes ≡ Err f → IsPlayedMatch games seed bytes 9 (fault_text f)
