-- What can be wrong with a row of a sheet, and which fault is the first.
use Rattle.std.specs.Prelude.{◌≡◌, ℕ, ◌<◌, ◌≤◌, ℤ, pos, ◌*ℤ◌, ◌≤ℤ◌, Option, None, Some, List, slice_get, map, take, All}
use Rattle.std.specs.List.Sorted.{IsStrictlyIncreasing}
use Rattle.sums.specs.declared.TheConstants.{LEAST_WEIGHT, MOST_WEIGHT}
use Rattle.sim_game.specs.Model.{GameModel}
use Rattle.sim_game.specs.declared.Side.TheVariants.{One, Two}
use Rattle.sim_game.specs.Sides.{other_side, IsNoTighter, IsTighter, state_bound, over_turns}
use Rattle.plan_book.specs.declared.Sheet.{Sheet}
use Rattle.plan_book.specs.declared.SheetRow.{SheetRow}
use Rattle.plan_book.specs.Plans.{AreWeights}
use Rattle.plan_book.specs.Sheets.{row_at, bound_at, IsReached, IsLawfulRow, IsLawful}
use Rattle.plan_book.specs.Steps.{worth, cell}
use Rattle.fields.specs.Ranges.{Within}
use Rattle.certificate.specs.Ranges.{IsRowInRange}
use Rattle.checker.specs.declared.verdict.Why.{Why}
use Rattle.checker.specs.declared.verdict.Why.TheVariants.{Weights, Bound, Idle, Outside}

-- a sheet that a report's text can have
pub record IsReadable (sheet : Sheet) : Type 0 where
  pub total : Within LEAST_WEIGHT MOST_WEIGHT sheet.total
  pub rows : All IsRowInRange sheet.rows
  pub rising : IsStrictlyIncreasing (map (λ row. row.key) sheet.rows)

-- the state has the key, is no end, and is the root or is reached from it through rows
pub record IsUsed {S : Type 0} (m : GameModel S) (sheet : Sheet) (key : ℕ) (s : S) : Type 0 where
  pub reached : IsReached m sheet.side (row_at sheet.rows) s
  pub goes_on : 1 ≤ m.rank s
  pub is_key : m.key s ≡ key

-- one weight a move, and the weights sum to the total
abbrev pub HasWholeWeights : {S : Type 0} → GameModel S → Sheet → SheetRow → S → Type 0
HasWholeWeights m sheet r s = AreWeights (m.moves sheet.side s) sheet.total r.weights

-- the bound lies in the range of the state
pub record IsInside {S : Type 0} (m : GameModel S) (r : SheetRow) (s : S) : Type 0 where
  pub low : state_bound m One s ≤ℤ r.bound
  pub high : r.bound ≤ℤ state_bound m Two s

-- the mean, over the draws of an own move and a reply, of the turn's reward with the sheet's bound at the state that follows
abbrev pub cell_of : {S : Type 0} → GameModel S → Sheet → S → ℕ → ℕ → ℤ
cell_of m sheet s own reply = cell m sheet.side s (over_turns m sheet.side s (bound_at m sheet.side sheet.rows)) own reply

-- what weights are worth against a reply, over the bounds of the sheet
abbrev pub worth_of : {S : Type 0} → GameModel S → Sheet → List ℕ → S → ℕ → ℤ
worth_of m sheet weights s reply = worth m sheet.side s weights (over_turns m sheet.side s (bound_at m sheet.side sheet.rows)) reply

-- what the weights have to be worth against each reply
abbrev pub need_of : Sheet → SheetRow → ℤ
need_of sheet r = pos sheet.total *ℤ r.bound

-- the weights are worth enough against each of the first replies
abbrev pub HoldsBelow : {S : Type 0} → GameModel S → Sheet → SheetRow → S → ℕ → Type 0
HoldsBelow m sheet r s count = (q : ℕ) → q < count → IsNoTighter sheet.side (need_of sheet r) (worth_of m sheet r.weights s q)

-- the first reply against which the weights are not worth enough
pub record IsFirstReply {S : Type 0} (m : GameModel S) (sheet : Sheet) (r : SheetRow) (s : S) (reply : ℕ) : Type 0 where
  pub in_range : reply < m.moves (other_side sheet.side) s
  pub fails : IsTighter sheet.side (need_of sheet r) (worth_of m sheet r.weights s reply)
  pub first : HoldsBelow m sheet r s reply

-- against which reply the row's weights are not worth its bound
abbrev pub IsReplyFault : {S : Type 0} → GameModel S → Sheet → SheetRow → S → Why → Type 0
IsReplyFault m sheet r s (Bound side key reply amount need) =
    (side ≡ sheet.side) × (key ≡ r.key) × IsFirstReply m sheet r s reply × (amount ≡ worth_of m sheet r.weights s reply) × (need ≡ need_of sheet r)
IsReplyFault m sheet r s _ = ⊥

-- what is wrong with the row at its state; each fault comes where those before it do not
abbrev pub IsFaultAt : {S : Type 0} → GameModel S → Sheet → SheetRow → S → Why → Type 0
IsFaultAt m sheet r s (Weights side key) = (side ≡ sheet.side) × (key ≡ r.key) × ¬ HasWholeWeights m sheet r s
IsFaultAt m sheet r s (Outside side key) = (side ≡ sheet.side) × (key ≡ r.key) × HasWholeWeights m sheet r s × ¬ IsInside m r s
IsFaultAt m sheet r s (Bound side key reply amount need) =
    HasWholeWeights m sheet r s × IsInside m r s × IsReplyFault m sheet r s (Bound side key reply amount need)
IsFaultAt m sheet r s _ = ⊥

-- nothing is wrong with the row at its state
pub record IsSoundAt {S : Type 0} (m : GameModel S) (sheet : Sheet) (r : SheetRow) (s : S) : Type 0 where
  pub whole : HasWholeWeights m sheet r s
  pub inside : IsInside m r s
  pub holds : HoldsBelow m sheet r s (m.moves (other_side sheet.side) s)

-- what is wrong with the row
abbrev pub IsRowFault : {S : Type 0} → GameModel S → Sheet → SheetRow → Why → Type 0
IsRowFault {S} m sheet r (Idle side key) = (side ≡ sheet.side) × (key ≡ r.key) × ((s : S) → ¬ IsUsed m sheet r.key s)
IsRowFault {S} m sheet r w = (s : S) × IsUsed m sheet r.key s × IsFaultAt m sheet r s w

-- the first fault of the rows, in their order
pub record IsFirstFault {S : Type 0} (m : GameModel S) (sheet : Sheet) (w : Why) : Type 0 where
  pub place : ℕ
  pub row : SheetRow
  pub stands : slice_get sheet.rows place ≡ Some row
  pub before : All (IsLawfulRow m sheet.side sheet.total sheet.rows) (take place sheet.rows)
  pub fault : IsRowFault m sheet row w

-- the sheet is lawful, or the first fault of its rows
abbrev pub IsFirstFaultOrNone : {S : Type 0} → GameModel S → Sheet → Option Why → Type 0
IsFirstFaultOrNone m sheet None = IsLawful m sheet
IsFirstFaultOrNone m sheet (Some w) = IsFirstFault m sheet w
