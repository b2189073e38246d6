-- Searches of states, and restricted games that grow.
use Rattle.std.proofs.Common.{◌≡◌, ◌↔◌, inl, inr, ⊎_elim, ℕ, ◌+◌, ◌-◌, ◌*◌, ◌<◌, ◌≤◌, ℤ, pos, ◌+ℤ◌, ◌≤ℤ◌, cond, Option, Some, None, Ok, Err, Contains, refl, sym, ap, subst, ◌∙◌, arith}
use Rattle.std.proofs.lemmas.Int.{ints}
use Rattle.std.proofs.Math.Nat.{mul-le-mul_right}
use Rattle.sim_game.specs.declared.Side.TheVariants.{One, Two}
use Rattle.sim_game.specs.Model.{GameModel, IsGame, IsTurn, Reachable}
use Rattle.sim_game.specs.Resolution.{IsStageGap}
use Rattle.matrix_game.specs.declared.solver.StageSolver.{StageSolver}
use Rattle.matrix_game.specs.declared.solver.StageSolver.TheVariants as solvers
use Rattle.matrix_game.specs.Budget.{left_of}
use Rattle.matrix_game.specs.Solvers.{UsesRegret}
use Rattle.bounds_board.specs.Views.{BoardView, IsLater, IsFull, known_bound}
use Rattle.restricted_game.specs.declared.held.StepEnd.{StepEnd}
use Rattle.restricted_game.specs.declared.held.StepEnd.TheVariants.{Grown, Done}
use Rattle.restricted_game.specs.Children.{KeptRows, AreChildRows}
use Rattle.restricted_game.specs.Gaps.{AreClose, HasStepGap}
use Rattle.restricted_game.specs.Held.{HeldMoves, count_held, count_moves, held_after}
use Rattle.restricted_game.specs.Nodes.{FitsState}
use Rattle.oracle_search.specs.declared.ends.SearchEnd.{SearchEnd}
use Rattle.oracle_search.specs.declared.ends.SearchEnd.TheVariants.{Reached, Settled, Spent, Full}
use Rattle.oracle_search.specs.declared.ends.Stop.{Stop}
use Rattle.oracle_search.specs.declared.ends.Stop.TheVariants as stops
use Rattle.oracle_search.specs.Finished.{IsWithin, IsBeyond, IsClose, rank_gap}
use Rattle.oracle_search.specs.Searches.{IsWorked, growth_turns, TakesTurns, TakesAtMost, HasTaken, HasTurn, HasKept, IsFirstHeld, Ends, IsStop, finish_of, IsEarlyEnd, AreDone}
use Rattle.oracle_search.specs.Workers.{WorkerView, WorkView, is_linear, at_work}
use Rattle.oracle_search.proofs.KeyLemmas.{done_within}
use Rattle.oracle_search.proofs.TurnLemmas.{TakesWithin, more_turns, begun_within, last_turn, taken_by, taken_after, within_turn, stopped_within, passed_within}
use Rattle.oracle_search.proofs.WorkLemmas.{worked_none, worked_read, worked_after, within_not_beyond}

-- a turn changes nothing of how stages are solved
pub same_kind : (a b : StageSolver) → UsesRegret a ↔ UsesRegret b → is_linear a ≡ is_linear b
same_kind (solvers.Regret x) (solvers.Regret y) same = refl
same_kind (solvers.Regret x) (solvers.Linear y) same = absurd (same.0 tt)
same_kind (solvers.Linear x) (solvers.Regret y) same = absurd (same.1 tt)
same_kind (solvers.Linear x) (solvers.Linear y) same = refl

-- no row of a full board has the key that was asked for
pub row_of_other : {S G N : Type 0} (m : GameModel S) (v : BoardView G N) (asked : ℕ) → IsFull m v asked → (row : ℕ) → row < v.rows → v.key_at row ≡ Some asked → ⊥
row_of_other m v asked full row below held =
    let other = full.others row below in
    let has : v.key_at row ≡ Some other.0 = other.1 in
    let both : Some other.0 ≡ Some asked = sym has ∙ held in
    other.3 (cc)

-- ---- searches of the states after moves
-- what was kept, that no turn was taken but at states that were finished, what is done, and the rows that are known
pub record IsSearching {S G N : Type 0} (m : GameModel S) (s : S) (places : KeptRows) (old new : WorkView G N) (Known : Type 0) : Type 0 where
  pub worked : IsWorked m s old new
  pub turns : TakesAtMost (growth_turns m) 0 (m.rank s - 1) old.worker new.worker
  pub done : Known
  pub children : AreChildRows m new.board s places

module _ {S G N : Type 0} {m : GameModel S} {s : S} where
  pub searching_none : {xs : KeptRows} {v : WorkView G N} {Known : Type 0} → HasKept m v → AreChildRows m v.board s xs → Known → IsSearching m s xs v v Known
  searching_none kept children done = record { worked = worked_none kept; turns = taken_by refl refl; done = done; children = children }

  -- the claim of a row
  pub searching_read : {xs ys : KeptRows} {u : WorkView G N} {v b : BoardView G N} {w : WorkerView} {Known More : Type 0} → IsSearching m s xs u (at_work v w) Known
      → IsLater v b → b.entries ≡ v.entries → AreChildRows m b s ys → More → IsSearching m s ys u (at_work b w) More
  searching_read p later same children done = record { worked = worked_read p.worked later same; turns = p.turns; done = done; children = children }

  pub searching_more : {xs ys : KeptRows} {u v w : WorkView G N} {Known More : Type 0} {below : ℕ} → IsSearching m s xs u v Known → IsWorked m s v w → below ≤ m.rank s - 1
      → TakesAtMost (growth_turns m) 0 below v.worker w.worker → AreChildRows m w.board s ys → More → IsSearching m s ys u w More
  searching_more p worked low taken children done = record { worked = worked_after p.worked worked; turns = taken_after worked low p.turns taken; done = done; children = children }

  -- the part that stopped
  pub searching_stopped : {xs : KeptRows} {u v w : WorkView G N} {Known : Type 0} {below : ℕ} → IsSearching m s xs u v Known → IsWorked m s v w → below ≤ m.rank s - 1
      → TakesAtMost (growth_turns m) below below v.worker w.worker → TakesAtMost (growth_turns m) (m.rank s - 1) (m.rank s - 1) u.worker w.worker
  searching_stopped {u = u} {w = w} {below = below} p worked low taken = record {
    unless_full = λ not. ⊎_elim
        (λ (a : TakesTurns (growth_turns m) below u.worker w.worker). inl (more_turns (growth_turns m) below (m.rank s - 1) u.worker w.worker low a))
        (λ (b : (left_of w.turns ≡ 0) × TakesTurns (growth_turns m) (m.rank s - 1) u.worker w.worker). inr b)
        ((taken_after worked low p.turns taken).unless_full not);
  }

-- ---- how the search of one of the states ended
module _ {S G N : Type 0} (m : GameModel S) (s : S) (u v : WorkView G N) where
  pub child_done : {done : Unit {0}} (end : SearchEnd) → 1 ≤ m.rank s → finish_of end ≡ Ok done → Ends m s (pos 0) v end → HasTaken m s end u v
      → IsClose m v.board s × TakesAtMost (growth_turns m) 1 (m.rank s) u.worker v.worker
  child_done Reached goes_on is ends taken = (done_within m s v.board (ends goes_on) goes_on, taken)
  child_done Settled goes_on is ends taken = (ends.2, taken)
  child_done Spent goes_on is ends taken = absurd (cc)
  child_done Full goes_on is ends taken = absurd (cc)

  pub child_stopped : (end : SearchEnd) (stop : Stop) → finish_of end ≡ Err stop → Ends m s (pos 0) v end → HasTaken m s end u v
      → IsStop m s v (TakesAtMost (growth_turns m) (m.rank s) (m.rank s) u.worker v.worker) stop
  child_stopped Reached stop is ends taken = absurd (cc)
  child_stopped Settled stop is ends taken = absurd (cc)
  child_stopped Spent stop is ends taken = let same : stops.Spent ≡ stop = cc in subst (IsStop m s v (TakesAtMost (growth_turns m) (m.rank s) (m.rank s) u.worker v.worker)) same (ends.2, taken)
  child_stopped Full stop is ends taken = let same : stops.Full ≡ stop = cc in subst (IsStop m s v (TakesAtMost (growth_turns m) (m.rank s) (m.rank s) u.worker v.worker)) same ends.1

-- ---- how a search ends before its first turn
module _ {S G N : Type 0} (m : GameModel S) (s : S) (goes_on : 1 ≤ m.rank s) where
  pub early_beyond : (v : BoardView G N) (target : ℤ) (early : Option SearchEnd) → IsEarlyEnd m v s target early → ((end : SearchEnd) → early ≡ Some end → ⊥) → IsBeyond m v s target
  early_beyond v target None is none = is
  early_beyond v target (Some end) is none = absurd (none end refl)

  pub early_ends : (w : WorkView G N) (target : ℤ) (end : SearchEnd) → IsEarlyEnd m w.board s target (Some end) → Ends m s target w end
  early_ends w target Reached early = λ _. early
  early_ends w target Settled early = (goes_on, early.0, early.1)
  early_ends w target Spent early = absurd early
  early_ends w target Full early = absurd early

  pub early_reached : (v : BoardView G N) (target : ℤ) (end : SearchEnd) → IsWithin m v s target → IsEarlyEnd m v s target (Some end) → end ≡ Reached
  early_reached v target Reached within early = refl
  early_reached v target Settled within early = absurd (within_not_beyond m v s target within early.0)
  early_reached v target Spent within early = absurd early
  early_reached v target Full within early = absurd early

-- ---- a restricted game that grows
-- its turns, with one left over for each move that may still be added, and the rows that are known
pub record IsGrowing {S G N : Type 0} (m : GameModel S) (s : S) (places : KeptRows) (held : HeldMoves) (old new : WorkView G N) : Type 0 where
  pub worked : IsWorked m s old new
  pub turns : TakesWithin (growth_turns m) 2 (count_held held) (m.rank s) old.worker new.worker
  pub few : count_held held ≤ growth_turns m + 1
  pub fits : FitsState m s held
  pub children : AreChildRows m new.board s places

after_rows : (h : HeldMoves) (end : StepEnd) → (held_after h end).most_rows ≡ h.most_rows
after_rows h (Grown row col) = refl
after_rows h (Done lower upper) = refl

after_cols : (h : HeldMoves) (end : StepEnd) → (held_after h end).most_cols ≡ h.most_cols
after_cols h (Grown row col) = refl
after_cols h (Done lower upper) = refl

module _ {S G N : Type 0} {m : GameModel S} {s : S} (goes_on : 1 ≤ m.rank s) where
  pub growing_none : {xs : KeptRows} {held : HeldMoves} {v : WorkView G N} → IsGame m → HasKept m v → IsFirstHeld m s held → AreChildRows m v.board s xs → IsGrowing m s xs held v v
  growing_none game kept first children = let two = first.two in let some = game.width_low in record {
    worked = worked_none kept;
    turns = begun_within first.two;
    few = omega arith;
    fits = record { rows = first.rows; cols = first.cols };
    children = children;
  }

  module _ {xs : KeptRows} {held : HeldMoves} {u v : WorkView G N} (g : IsGrowing m s xs held u v) where
    -- what the game and the states after its moves took, wherever these stopped
    pub growing_stopped : {w : WorkView G N} → IsWorked m s v w → TakesAtMost (growth_turns m) (m.rank s - 1) (m.rank s - 1) v.worker w.worker
        → TakesAtMost (growth_turns m) (m.rank s) (m.rank s) u.worker w.worker
    growing_stopped worked taken = stopped_within worked g.few goes_on g.turns taken

    -- the states after held moves, all done
    pub growing_passed : {ys : KeptRows} {w : WorkView G N} → IsWorked m s v w → TakesAtMost (growth_turns m) 0 (m.rank s - 1) v.worker w.worker → AreChildRows m w.board s ys
        → IsGrowing m s ys held u w
    growing_passed worked taken children = record {
      worked = worked_after g.worked worked;
      turns = passed_within worked g.few goes_on g.turns taken;
      few = g.few;
      fits = g.fits;
      children = children;
    }

    -- one turn, of a game that may grow no more
    pub growing_turn : {x : WorkerView} → HasTurn v.turns x.turns → x.finished ≡ v.finished → TakesAtMost (growth_turns m) 1 (m.rank s) u.worker x
    growing_turn turn same = last_turn g.few g.turns turn same

    -- one turn, with a move added: no more are held than both sides have
    pub growing_more : {ys : KeptRows} {new : HeldMoves} {w : WorkView G N} (end : StepEnd) → IsWorked m s v w → HasTurn v.turns w.turns → w.finished ≡ v.finished → new ≡ held_after held end
        → IsGame m → Reachable m s → (count_held held < count_held new) × (count_held new ≤ count_moves new) → AreChildRows m w.board s ys → IsGrowing m s ys new u w
    growing_more {new = new} end worked turn same after game reach rises children =
        let more = rises.0 in
        let rows : new.most_rows ≡ m.moves One s = ap (λ (h : HeldMoves). h.most_rows) after ∙ after_rows held end ∙ g.fits.rows in
        let cols : new.most_cols ≡ m.moves Two s = ap (λ (h : HeldMoves). h.most_cols) after ∙ after_cols held end ∙ g.fits.cols in record {
          worked = worked_after g.worked worked;
          turns = within_turn (omega arith) g.turns turn same;
          few = omega (arith, rises.1, rows, cols, game.moves_high One s reach, game.moves_high Two s reach, game.width_low);
          fits = record { rows = rows; cols = cols };
          children = children;
        }

-- ---- how close the bounds are where no reply is fresh
one_rank : (r k : ℕ) → 1 ≤ r → (r - 1) * k + k ≡ r * k
one_rank r k some = let is : r ≡ (r - 1) + 1 = omega arith in let more : ((r - 1) + 1) * k ≡ (r - 1) * k + k = omega arith in sym (ap (λ (n : ℕ). n * k) is ∙ more)

pub close_after : {S G N : Type 0} (m : GameModel S) (s : S) → 1 ≤ m.rank s → IsGame m → Reachable m s → (v w : BoardView G N) (held : HeldMoves) (lower upper : ℤ) → w.total ≡ v.total
    → ((one : ℕ) → Contains held.rows one → one < m.moves One s) → ((two : ℕ) → Contains held.cols two → two < m.moves Two s)
    → ((one two : ℕ) → Contains held.rows one → Contains held.cols two → AreDone m v s one two)
    → HasStepGap m v w s held (Done lower upper) → IsClose m w s
close_after m s goes_on game r v w held lower upper same rows cols done step stage is =
    let each = stage + 1 + cond m.chance_free 0 1 in
    let gap = rank_gap m stage (m.rank s - 1) in
    let stage_of : IsStageGap m v.total stage = subst (λ (n : ℕ). IsStageGap m n stage) same is in
    let close : AreClose m v s held gap = record {
      close = λ one two draw in_rows in_cols l inner.
          let child = m.drawn s one two draw in
          let turn : IsTurn m s (record { one = one; two = two; draw = draw }) = record { one_below = rows one in_rows; two_below = cols two in_cols; draw_below = l } in
          let falls : m.rank child < m.rank s = game.rank_falls s (record { one = one; two = two; draw = draw }) r turn in
          let less : m.rank child * each ≤ (m.rank s - 1) * each = let low : m.rank child ≤ m.rank s - 1 = omega arith in mul-le-mul_right each low in
          let within : IsWithin m v child (pos (rank_gap m stage (m.rank child))) = done one two in_rows in_cols draw l inner stage stage_of in
          wider (known_bound m v One child) (known_bound m v Two child) _ _ within less;
    } in
    let sum : (m.rank s - 1) * each + each ≡ m.rank s * each = one_rank (m.rank s) each goes_on in
    wider (known_bound m w One s) (known_bound m w Two s) _ _ (step gap stage close stage_of).known (omega arith)
  where
    wider : (low high : ℤ) (part all : ℕ) → high ≤ℤ (low +ℤ pos part) → part ≤ all → high ≤ℤ (low +ℤ pos all)
    wider low high part all near less = omega (arith, ints)
