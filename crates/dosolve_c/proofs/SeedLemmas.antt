-- Matches of seeds, one behind the other.
use Rattle.std.proofs.Common.{◌≡◌, ℕ, ◌+◌, ◌<◌, List, [], ◌∷◌, ◌++◌, length, min, take, get_or, refl, ap, ◌∙◌, subst, add-one}
use Rattle.std.proofs.Math.Seq.{take-suc}
use Rattle.std.proofs.lemmas.List.{take_min}
use Rattle.std.specs.List.{AllZip}
use Rattle.sim_game.specs.Model.{GameModel}
use Rattle.referee.specs.declared.Record.{Record}
use Rattle.referee.specs.declared.Totals.{Totals}
use Rattle.referee.specs.Streams.{words_of_game}
use Rattle.referee.specs.Tallies.{AreTotals, game_payoff}
use Rattle.referee.specs.Transcripts.{IsRecord}
use Rattle.certificate.specs.declared.report.Report.{Report}
use Rattle.commands.specs.Matches.{match_text}
use Rattle.dosolve_c.specs.declared.seeds.MatchPayoffs.{MatchPayoffs}
use Rattle.dosolve_c.specs.Seeds.{payoffs_told, IsMatchTold, AreMatchesTold}

pub match_told : {S : Type 0} (m : GameModel S) (r : Report) (games seed : ℕ) (first : Record) (totals : Totals) (told : MatchPayoffs) → IsRecord m r.one r.two (words_of_game m seed 0) first
    → AreTotals games (game_payoff m r.one r.two seed) totals → told ≡ payoffs_told first.payoff totals → IsMatchTold m r games seed told
match_told m r games seed first totals told is_first are_totals numbers =
    record { text = match_text m first totals; is_match = record { first = first; totals = totals; is_first = is_first; are_totals = are_totals; is = refl }; numbers = numbers }

-- both lists get longer by one
longer : {A B : Type 0} (R : A → B → Type 0) (xs : List A) (ys : List B) (x : A) (y : B) → AllZip R xs ys → R x y → AllZip R (xs ++ x ∷ []) (ys ++ y ∷ [])
longer R [] [] x y all is = (is, tt)
longer R [] (b ∷ ys) x y all is = absurd all
longer R (a ∷ xs) [] x y all is = absurd all
longer R (a ∷ xs) (b ∷ ys) x y all is = (all.0, longer R xs ys x y all.1 is)

pub next_match : {S : Type 0} (m : GameModel S) (r : Report) (games : ℕ) (seeds : List ℕ) (i : ℕ) (told more : List MatchPayoffs) (payoffs : MatchPayoffs) → i < length seeds
    → AreMatchesTold m r games (take i seeds) told → IsMatchTold m r games (get_or seeds i 0) payoffs → more ≡ told ++ payoffs ∷ [] → AreMatchesTold m r games (take (i + 1) seeds) more
next_match m r games seeds i told more payoffs some before is pushed =
    let front = ap (λ (k : ℕ). take k seeds) (add-one i) ∙ take-suc seeds i 0 some in
    rw (front, pushed) (longer (IsMatchTold m r games) (take i seeds) told (get_or seeds i 0) payoffs before is)

-- the front of the seeds, no longer than the room
pub front_of_seeds : {S : Type 0} (m : GameModel S) (r : Report) (games room count : ℕ) (seeds : List ℕ) (told : List MatchPayoffs) → count ≡ min room (length seeds)
    → AreMatchesTold m r games (take count seeds) told → AreMatchesTold m r games (take room seeds) told
front_of_seeds m r games room count seeds told is all =
    let front = ap (λ (k : ℕ). take k seeds) is ∙ take_min room seeds in subst (λ s. AreMatchesTold m r games s told) front all
