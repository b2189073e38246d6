-- The moves that a restricted game holds, and how a step adds to them.
use Rattle.std.specs.Prelude.{◌≡◌, ℕ, ◌+◌, ◌<◌, ◌≤◌, nat_eq, Option, None, Some, Result, IfOk, OnErr, List, [], ◌∷◌, ◌++◌, length, All}
use Rattle.std.specs.List.{IsDistinct}
use Rattle.sums.specs.declared.TheConstants.{MOST_MOVES}
use Rattle.restricted_game.specs.declared.held.StepEnd.{StepEnd}
use Rattle.restricted_game.specs.declared.held.StepEnd.TheVariants.{Grown, Done}

-- the held moves of One and of Two, in order of addition, and how many moves each of them has
pub record HeldMoves : Type 0 where
  pub rows : List ℕ
  pub cols : List ℕ
  pub most_rows : ℕ
  pub most_cols : ℕ

-- some of n moves, each once
pub record AreMoves (n : ℕ) (moves : List ℕ) : Type 0 where
  pub some : 1 ≤ length moves
  pub within : All (λ move. move < n) moves
  pub apart : IsDistinct nat_eq moves
  pub few : length moves ≤ n

-- what always holds of the held moves
pub record IsHolding (h : HeldMoves) : Type 0 where
  pub rows : AreMoves h.most_rows h.rows
  pub cols : AreMoves h.most_cols h.cols
  pub few_rows : h.most_rows ≤ MOST_MOVES
  pub few_cols : h.most_cols ≤ MOST_MOVES

-- each move of both sides is held
pub record HoldsAll (h : HeldMoves) : Type 0 where
  pub rows : length h.rows ≡ h.most_rows
  pub cols : length h.cols ≡ h.most_cols

-- how many moves are held
abbrev pub count_held : HeldMoves → ℕ
count_held h = length h.rows + length h.cols

-- how many moves there are
abbrev pub count_moves : HeldMoves → ℕ
count_moves h = h.most_rows + h.most_cols

-- ---- growth
abbrev pub with_move : List ℕ → Option ℕ → List ℕ
with_move moves None = moves
with_move moves (Some move) = moves ++ move ∷ []

-- what is held after a step: the moves that it names are added at the end
abbrev pub held_after : HeldMoves → StepEnd → HeldMoves
held_after h (Grown row col) = record h { rows = with_move h.rows row; cols = with_move h.cols col }
held_after h (Done lower upper) = h

-- a step that grew the game holds more than before, and never more than all moves
abbrev pub HasGrown : HeldMoves → HeldMoves → StepEnd → Type 0
HasGrown old new (Grown row col) = (count_held old < count_held new) × (count_held new ≤ count_moves new)
HasGrown old new (Done lower upper) = new ≡ old

-- ---- how many steps there are
abbrev pub IsGrown : StepEnd → Type 0
IsGrown (Grown row col) = Unit {0}
IsGrown (Done lower upper) = ⊥

-- what a step does with the held moves: it holds those that it names as well, none where all are held; a step that fails changes nothing
pub record HoldsMore {F : Type 0} (old new : HeldMoves) (result : Result StepEnd F) : Type 0 where
  pub held : IfOk result (λ end. new ≡ held_after old end)
  pub grown : IfOk result (HasGrown old new)
  pub all : HoldsAll old → IfOk result (λ end. IsGrown end → ⊥)
  pub kept : OnErr result (new ≡ old)

-- steps of one restricted game of so many moves: what is held before each and after the last, and how each ended, of which only the last may be done
pub record AreSteps (moves : ℕ) (held : ℕ → HeldMoves) (ends : ℕ → StepEnd) (count : ℕ) : Type 0 where
  pub starts : 2 ≤ count_held (held 0)
  pub fits : count_held (held 0) ≤ moves
  pub same : (i : ℕ) → i ≤ count → count_moves (held i) ≡ moves
  pub each : (i : ℕ) → i < count → HasGrown (held i) (held (i + 1)) (ends i)
  pub growing : (i : ℕ) → i + 1 < count → IsGrown (ends i)

-- no game takes as many steps as it has moves, up to and with the first that is done
abbrev pub FewSteps : Type 0
FewSteps = (moves : ℕ) (held : ℕ → HeldMoves) (ends : ℕ → StepEnd) (count : ℕ) → AreSteps moves held ends count → count < moves
