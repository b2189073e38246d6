-- How a step ends, and what is held then.
use Rattle.std.proofs.Common.{◌≡◌, ◌⊎◌, ⊎_elim, ℕ, ◌<◌, ◌≤◌, ℤ, Bool, true, false, IsTrue, Option, None, Some, List, length, refl, sym, ap, subst, ◌∙◌, arith}
use Rattle.std.specs.Prelude.{IfSome, IsSome, is_some}
use Rattle.std.specs.Bool.{then_some}
use Rattle.std.specs.List.{Contains}
use Rattle.std.proofs.lemmas.List.{length_push}
use Rattle.sim_game.specs.declared.Side.{Side}
use Rattle.sim_game.specs.declared.Side.TheVariants.{One, Two}
use Rattle.sim_game.specs.Model.{GameModel, IsGame, Reachable}
use Rattle.sim_game.specs.Resolution.{IsFineWeight}
use Rattle.sim_game.specs.Sides.{other_side}
use Rattle.bounds_board.specs.Views.{BoardView}
use Rattle.matrix_game.specs.declared.solver.StageSolver.{StageSolver}
use Rattle.restricted_game.specs.declared.held.StepEnd.TheVariants.{Grown, Done}
use Rattle.restricted_game.specs.declared.plans.Plans.{Plans}
use Rattle.restricted_game.specs.declared.table.StageTable.{StageTable}
use Rattle.restricted_game.specs.Gaps.{HasStepGap}
use Rattle.restricted_game.specs.Held.{HeldMoves, AreMoves, IsHolding, HoldsAll, count_held, count_moves, with_move, held_after}
use Rattle.restricted_game.specs.Runs.{IsPlan, IsStepRun}
use Rattle.restricted_game.specs.Tables.{ArePlans}
use Rattle.restricted_game.proofs.HeldLemmas.{moves_more, held_few}
use Rattle.restricted_game.proofs.StageLemmas.{step_close}

-- ---- a move that is not held
abbrev IsNew : ℕ → List ℕ → ℕ → Type 0
IsNew n moves move = (move < n) × (Contains moves move → ⊥)

if_fresh : (fresh : Bool) (place : ℕ) (P : ℕ → Type 0) → (IsTrue fresh → P place) → IfSome (then_some fresh place) P
if_fresh true place P h = h refl
if_fresh false place P h = tt

-- a fresh reply is a move that is not held
fresh_new : {S : Type 0} (m : GameModel S) (side : Side) (s : S) (total : ℕ) (own others weights : List ℕ) (numbers : ℕ → ℕ → ℕ → ℤ) (plan : List ℕ) (bound : ℤ) (fresh : Option ℕ)
    → IsPlan m side s total own others weights numbers plan bound fresh → IfSome fresh (IsNew (m.moves (other_side side) s) others)
fresh_new m side s total own others weights numbers plan bound fresh planned =
    let reply = planned.is_best in
    subst (λ (o : Option ℕ). IfSome o (IsNew (m.moves (other_side side) s) others)) (sym planned.fresh_is)
    (if_fresh planned.is_fresh planned.reply _ (λ t. (reply.place_in, λ held. reply.new t planned.reply reply.place_in held (sym reply.worth))))

with_held : (n : ℕ) (moves : List ℕ) (move : Option ℕ) → AreMoves n moves → IfSome move (IsNew n moves) → AreMoves n (with_move moves move)
with_held n moves None held new = held
with_held n moves (Some x) held new = moves_more n moves x held new.0 new.1

new_room : (n room len : ℕ) (moves : List ℕ) (move : Option ℕ) → AreMoves n moves → IfSome move (IsNew n moves) → len ≡ length moves → n ≤ room → IfSome move (λ _. len < room)
new_room n room len moves None held new e h = tt
new_room n room len moves (Some x) held new e h = omega (arith, (moves_more n moves x held new.0 new.1).few, length_push moves x)

with_length : (moves : List ℕ) (move : Option ℕ) → length moves ≤ length (with_move moves move)
with_length moves None = omega arith
with_length moves (Some x) = omega (arith, length_push moves x)

with_longer : (moves : List ℕ) (move : Option ℕ) → IsSome move → length moves < length (with_move moves move)
with_longer moves None h = absurd (cc)
with_longer moves (Some x) h = omega (arith, length_push moves x)

pub none_from : (move : Option ℕ) → is_some move ≡ false → move ≡ None
none_from None e = refl
none_from (Some x) e = absurd (cc)

-- ---- the end
module _ {S : Type 0} (m : GameModel S) (s : S) (h held : HeldMoves) (is : h ≡ held) (holding : IsHolding h) (most_rows : held.most_rows ≡ m.moves One s) (most_cols : held.most_cols ≡ m.moves Two s)
    {solver : StageSolver} {total : ℕ} {table : StageTable} (plans : Plans) (planned : ArePlans m solver s total h.rows h.cols table plans) where
  abbrev row : Option ℕ
  row = plans.two.fresh

  abbrev col : Option ℕ
  col = plans.one.fresh

  new_row : IfSome row (IsNew h.most_rows h.rows)
  new_row = subst (λ (n : ℕ). IfSome row (IsNew n h.rows)) (sym (ap (λ (k : HeldMoves). k.most_rows) is ∙ most_rows)) (fresh_new m Two s _ _ _ _ _ _ _ _ planned.two)

  new_col : IfSome col (IsNew h.most_cols h.cols)
  new_col = subst (λ (n : ℕ). IfSome col (IsNew n h.cols)) (sym (ap (λ (k : HeldMoves). k.most_cols) is ∙ most_cols)) (fresh_new m One s _ _ _ _ _ _ _ _ planned.one)

  pub row_room : (room len : ℕ) → len ≡ length h.rows → h.most_rows ≤ room → IfSome row (λ _. len < room)
  row_room room len = new_room h.most_rows room len h.rows row holding.rows new_row

  pub col_room : (room len : ℕ) → len ≡ length h.cols → h.most_cols ≤ room → IfSome col (λ _. len < room)
  col_room room len = new_room h.most_cols room len h.cols col holding.cols new_col

  pub holding_after : IsHolding (held_after h (Grown row col))
  holding_after = record {
    rows = with_held h.most_rows h.rows row holding.rows new_row;
    cols = with_held h.most_cols h.cols col holding.cols new_col;
    few_rows = holding.few_rows;
    few_cols = holding.few_cols;
  }

  pub has_grown : IsSome row ⊎ IsSome col → (count_held held < count_held (held_after h (Grown row col))) × (count_held (held_after h (Grown row col)) ≤ count_moves (held_after h (Grown row col)))
  has_grown some = subst (λ (k : HeldMoves). (count_held k < count_held (held_after h (Grown row col))) × (count_held (held_after h (Grown row col)) ≤ count_moves (held_after h (Grown row col)))) is (
    ⊎_elim (λ (r : IsSome row). omega (arith, with_longer h.rows row r, with_length h.cols col)) (λ (k : IsSome col). omega (arith, with_longer h.cols col k, with_length h.rows row)) some,
    held_few (held_after h (Grown row col)) holding_after,
  )

  -- no reply is new to a game that holds all moves
  pub not_all_held : IsSome row ⊎ IsSome col → HoldsAll held → ⊥
  not_all_held some all =
      let more = has_grown some in
      let rows = ap (λ (k : HeldMoves). k.most_rows) is in
      let cols = ap (λ (k : HeldMoves). k.most_cols) is in
      omega (arith, more.0, holding_after.rows.few, holding_after.cols.few, all.rows, all.cols, rows, cols)

pub end_gap : {S G N : Type 0} (m : GameModel S) (game : IsGame m) (u v : BoardView G N) (s : S) (reach : Reachable m s) (h held : HeldMoves)
    → h ≡ held → IsHolding h → held.most_rows ≡ m.moves One s → held.most_cols ≡ m.moves Two s → IsFineWeight m u.total
    → {solver : StageSolver} (lower upper : ℤ) → IsStepRun m u v solver s h.rows h.cols None None lower upper → HasStepGap m u v s held (Done lower upper)
end_gap m game u v s reach h held is holding most_rows most_cols enough {solver} lower upper run = subst (λ (k : HeldMoves). HasStepGap m u v s k (Done lower upper)) is (λ gap stage close is_gap.
    step_close m game u v s reach enough h lower upper run (subst (λ (n : ℕ). AreMoves n h.rows) (ap (λ (k : HeldMoves). k.most_rows) is ∙ most_rows) holding.rows)
    (subst (λ (n : ℕ). AreMoves n h.cols) (ap (λ (k : HeldMoves). k.most_cols) is ∙ most_cols) holding.cols) gap close stage is_gap)
