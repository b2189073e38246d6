-- To the bytes of a report exploit and play have one answer.
use Rattle.std.proofs.Common.{◌≡◌, ℕ, List, Ok, refl, sym, ap, ap₂, subst, ◌∙◌}
use Rattle.sim_game.specs.declared.Side.{Side}
use Rattle.sim_game.specs.Model.{GameModel, IsGame}
use Rattle.exploit.specs.declared.WorstCase.{WorstCase}
use Rattle.exploit.specs.Replies.{HasMore, IsWorstCase}
use Rattle.exploit.specs.Worst.{IsWorst}
use Rattle.exploit.proofs.CountLemmas.{few_or_more, one_worth}
use Rattle.referee.specs.Tallies.{game_payoff}
use Rattle.referee.proofs.TallyLemmas.{one_tally}
use Rattle.certificate.specs.declared.report.Report.{Report}
use Rattle.position.specs.Games.{OfGame}
use Rattle.position.proofs.GameLemmas.{of_one_game}
use Rattle.commands.specs.Reports.{fault_text}
use Rattle.commands.specs.Checks.{report_in}
use Rattle.commands.specs.Measured.{measured_text, most_states, sheet_of, IsExploited}
use Rattle.commands.specs.Matches.{match_text, IsMatch, IsPlayedMatch}

-- two properties of the games of two reports of the same bytes are of one game
of_one_report : (bytes : List ℕ) (r s : Report) (P Q : Report → (S : Type 0) → GameModel S → Type 0) (R : Type 0) → ((S : Type 0) (m : GameModel S) → IsGame m → P r S m → Q r S m → R)
    → report_in bytes ≡ Ok r → report_in bytes ≡ Ok s → OfGame r.position (P r) → OfGame s.position (Q s) → R
of_one_report bytes r s P Q R by is it p q =
    let same : s ≡ r = cc (is, it) in
    of_one_game r.position (P r) (Q r) R by p (subst (λ (x : Report). OfGame x.position (Q x)) same q)

module _ (side : Side) (bytes : List ℕ) where
  abbrev HasWorst : WorstCase → Report → (S : Type 0) → GameModel S → Type 0
  HasWorst case r S m = IsWorstCase m (sheet_of side r) (most_states r) case × IsWorst m (sheet_of side r)

  abbrev IsLarge : Report → (S : Type 0) → GameModel S → Type 0
  IsLarge r S m = HasMore m (sheet_of side r) (most_states r)

  never_both : (r s : Report) (case : WorstCase) → report_in bytes ≡ Ok r → report_in bytes ≡ Ok s → OfGame r.position (HasWorst case r) → OfGame s.position (IsLarge s) → ⊥
  never_both r s case is it p q = of_one_report bytes r s (HasWorst case) IsLarge ⊥ (λ S m game a b. few_or_more m (sheet_of side r) (most_states r) case a.0 b) is it p q

  pub one_exploited : (text other : List ℕ) (status state : ℕ) → IsExploited side bytes status text → IsExploited side bytes state other → (status ≡ state) × (text ≡ other)
  one_exploited _ _ _ _ (IsExploited.measured r a is p) (IsExploited.measured s b it q) =
      let same : a.worth ≡ b.worth = of_one_report bytes r s (HasWorst a) (HasWorst b) (a.worth ≡ b.worth) (λ S m game x y. one_worth m game (sheet_of side r) (most_states r) a b x.0 y.0) is it p q in
      (refl, ap (measured_text side) same)
  one_exploited _ _ _ _ (IsExploited.measured r a is p) (IsExploited.full s it q) = absurd (never_both r s a is it p q)
  one_exploited _ _ _ _ (IsExploited.measured r a is p) (IsExploited.unread g it) = absurd (cc (is, it))
  one_exploited _ _ _ _ (IsExploited.full r is p) (IsExploited.measured s b it q) = absurd (never_both s r b it is q p)
  one_exploited _ _ _ _ (IsExploited.full r is p) (IsExploited.full s it q) = (refl, refl)
  one_exploited _ _ _ _ (IsExploited.full r is p) (IsExploited.unread g it) = absurd (cc (is, it))
  one_exploited _ _ _ _ (IsExploited.unread f is) (IsExploited.measured s b it q) = absurd (cc (is, it))
  one_exploited _ _ _ _ (IsExploited.unread f is) (IsExploited.full s it q) = absurd (cc (is, it))
  one_exploited _ _ _ _ (IsExploited.unread f is) (IsExploited.unread g it) = let e : f ≡ g = cc (is, it) in (refl, ap fault_text e)

module _ (games seed : ℕ) (bytes : List ℕ) where
  abbrev HasText : List ℕ → Report → (S : Type 0) → GameModel S → Type 0
  HasText text r S m = IsMatch m r games seed text

  one_text : {S : Type 0} (m : GameModel S) (r : Report) (text other : List ℕ) → IsMatch m r games seed text → IsMatch m r games seed other → text ≡ other
  one_text m r text other p q =
      let turns : p.first.turns ≡ q.first.turns = p.is_first.turns ∙ sym q.is_first.turns in
      let payoffs : p.first.payoff ≡ q.first.payoff = p.is_first.payoff ∙ sym q.is_first.payoff in
      let first : p.first ≡ q.first = λ i. record { turns = turns i; payoff = payoffs i } in
      let totals = one_tally games (game_payoff m r.one r.two seed) p.totals q.totals p.are_totals q.are_totals in
      p.is ∙ ap₂ (match_text m) first totals ∙ sym q.is

  pub one_match : (text other : List ℕ) (status state : ℕ) → IsPlayedMatch games seed bytes status text → IsPlayedMatch games seed bytes state other → (status ≡ state) × (text ≡ other)
  one_match _ _ _ _ (IsPlayedMatch.played r text is p) (IsPlayedMatch.played s other it q) =
      (refl, of_one_report bytes r s (HasText text) (HasText other) (text ≡ other) (λ S m game x y. one_text m r text other x y) is it p q)
  one_match _ _ _ _ (IsPlayedMatch.played r text is p) (IsPlayedMatch.unread g it) = absurd (cc (is, it))
  one_match _ _ _ _ (IsPlayedMatch.unread f is) (IsPlayedMatch.played s other it q) = absurd (cc (is, it))
  one_match _ _ _ _ (IsPlayedMatch.unread f is) (IsPlayedMatch.unread g it) = let e : f ≡ g = cc (is, it) in (refl, ap fault_text e)
