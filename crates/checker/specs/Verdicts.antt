-- When a report is accepted, and what is the first thing wrong with it.
use Rattle.std.specs.Prelude.{◌≡◌, ℕ, ℤ, pos, ◌⊎◌}
use Rattle.sim_game.specs.declared.Side.TheVariants.{One, Two}
use Rattle.sim_game.specs.Model.{GameModel}
use Rattle.sim_game.specs.Resolution.{IsResolution}
use Rattle.plan_book.specs.Sheets.{IsLawful, root_bound}
use Rattle.certificate.specs.declared.report.Report.{Report}
use Rattle.certificate.specs.Outcomes.{IsAllowed}
use Rattle.checker.specs.declared.verdict.Why.{Why}
use Rattle.checker.specs.declared.verdict.Why.TheVariants.{Root, OutcomeWrong, ResolutionWrong}
use Rattle.checker.specs.declared.verdict.Verdict.{Verdict}
use Rattle.checker.specs.declared.verdict.Verdict.TheVariants.{Accepted, Refused}
use Rattle.checker.specs.Faults.{IsFirstFault}

-- the number is the game's resolution at the report's weight
abbrev pub IsResolutionFor : {S : Type 0} → GameModel S → Report → ℤ → Type 0
IsResolutionFor m r want = (n : ℕ) × (want ≡ pos n) × IsResolution m r.weight n

-- what a report tells beside its sheets is right
pub record HasRightNumbers {S : Type 0} (m : GameModel S) (r : Report) : Type 0 where
  pub lower : r.lower ≡ root_bound m r.one
  pub upper : r.upper ≡ root_bound m r.two
  pub resolution : IsResolutionFor m r r.resolution
  pub outcome : IsAllowed r

-- the report is right in all its parts
pub record IsRight {S : Type 0} (m : GameModel S) (r : Report) : Type 0 where
  pub one : IsLawful m r.one
  pub two : IsLawful m r.two
  pub numbers : HasRightNumbers m r

-- what is wrong beside the sheets; each fault comes where those before it do not
abbrev pub IsNumberFault : {S : Type 0} → GameModel S → Report → Why → Type 0
IsNumberFault m r (Root One) = ¬ (r.lower ≡ root_bound m r.one)
IsNumberFault m r (Root Two) = (r.lower ≡ root_bound m r.one) × ¬ (r.upper ≡ root_bound m r.two)
IsNumberFault m r (ResolutionWrong want) = (r.lower ≡ root_bound m r.one) × (r.upper ≡ root_bound m r.two) × IsResolutionFor m r want × ¬ (r.resolution ≡ want)
IsNumberFault m r OutcomeWrong = (r.lower ≡ root_bound m r.one) × (r.upper ≡ root_bound m r.two) × IsResolutionFor m r r.resolution × ¬ IsAllowed r
IsNumberFault m r _ = ⊥

-- the first thing wrong with the report: in the rows of One, in those of Two, or beside them
abbrev pub IsFirstWhy : {S : Type 0} → GameModel S → Report → Why → Type 0
IsFirstWhy m r w = IsFirstFault m r.one w
    ⊎ ((IsLawful m r.one × IsFirstFault m r.two w)
    ⊎ (IsLawful m r.one × IsLawful m r.two × IsNumberFault m r w))

abbrev pub IsVerdict : {S : Type 0} → GameModel S → Report → Verdict → Type 0
IsVerdict m r Accepted = IsRight m r
IsVerdict m r (Refused w) = IsFirstWhy m r w
