-- The sample of a number: a position of Goofspiel, and the line that tells how it is solved.
use Rattle.std.specs.Prelude.{◌≡◌, ◌⊎◌, ℕ, pos, ◌%◌, ◌≤ℤ◌, false, List, [], ◌∷◌, ◌++◌, take, drop, map, All, codes, decimal}
use Rattle.std.specs.Fmt.{signed_decimal}
use Rattle.sim_game.specs.declared.Side.TheVariants.{One, Two}
use Rattle.sim_game.specs.Model.{GameModel}
use Rattle.plan_book.specs.Serial.{serial_bound}
use Rattle.goofspiel.specs.declared.Pay.TheVariants.{Margin}
use Rattle.fields.specs.declared.ask.Ask.{Ask}
use Rattle.certificate.specs.declared.report.Outcome.TheVariants.{Closed, Settled}
use Rattle.fields.specs.declared.positions.PositionText.{PositionText}
use Rattle.fields.specs.declared.positions.PositionText.TheVariants.{Goofspiel}
use Rattle.certificate.specs.declared.report.Report.{Report}
use Rattle.fields.specs.Asks.{ask_of}
use Rattle.certificate.specs.Outcomes.{gap_of}
use Rattle.text.specs.Texts.{line_text}
use Rattle.certificate.specs.Texts.{outcome_word}
use Rattle.lazy_workers.specs.Searched.{IsPureClose}
use Rattle.solution.specs.Solutions.{IsSolution}
use Rattle.position.specs.Games.{OfGame}

-- ---- the position
-- the cards of a side, which are the prizes too
abbrev pub sample_cards : List ℕ
sample_cards = 1 ∷ 2 ∷ 3 ∷ 4 ∷ 5 ∷ []

abbrev pub rotated_left : ℕ → List ℕ → List ℕ
rotated_left n xs = drop n xs ++ take n xs

abbrev pub sample_prizes : ℕ → List ℕ
sample_prizes n = rotated_left (n % 5) sample_cards

abbrev pub sample_position : ℕ → PositionText
sample_position n = Goofspiel sample_cards sample_cards (sample_prizes n) (pos 0) Margin

-- what is asked for each sample
abbrev pub sample_ask : Ask
sample_ask = ask_of (pos 0) 8192 262144 40000 65536 1

-- ---- what is found
-- both bounds and the gap between them
abbrev pub bounds_words : Report → List ℕ
bounds_words r =
    codes "lower " ++ (signed_decimal r.lower
    ++ (codes " upper " ++ (signed_decimal r.upper ++ (codes " gap " ++ signed_decimal (gap_of r)))))

-- the line of the number and the report
abbrev pub sample_line : ℕ → Report → List ℕ
sample_line n r =
    line_text (codes "sample" ∷ decimal n ∷ bounds_words r
    ∷ outcome_word r.outcome ∷ codes "spent" ∷ map decimal r.spent)

-- the report is what solve would report of the sample; the turns, the visits and the rows that are asked for it suffice
pub record IsSampleSolution {S : Type 0} (m : GameModel S) (n : ℕ) (r : Report) : Type 0 where
  pub solution : IsSolution m (sample_position n) sample_ask false r
  pub ends : (r.outcome ≡ Closed) ⊎ (r.outcome ≡ Settled)
  -- the bounds are at least as tight as pure plans can make them
  pub pure_lower : serial_bound m One m.root ≤ℤ r.lower
  pub pure_upper : r.upper ≤ℤ serial_bound m Two m.root
  -- no turn is spent where pure plans close the gap
  pub at_once : IsPureClose m sample_ask → (r.outcome ≡ Closed) × All (λ n. n ≡ 0) r.spent

abbrev pub IsSampleReport : ℕ → Report → Type 0
IsSampleReport n r = OfGame (sample_position n) (λ S m. IsSampleSolution m n r)
