-- Sweeps, one part after another.
use Rattle.std.proofs.Common.{◌≡◌, inl, inr, ⊎_elim, ℕ, ◌+◌, ◌*◌, ◌<◌, ◌≤◌, ℤ, pos, ◌+ℤ◌, ◌≤ℤ◌, ◌<ℤ◌, Bool, true, false, cond, List, [], ◌∷◌, ◌++◌, length, Some, Result, Ok, Err, Contains, refl, sym, ap, subst, ◌∙◌, arith}
use Rattle.std.specs.Bool.{MatchBool}
use Rattle.std.specs.List.{range_with_len}
use Rattle.std.proofs.lemmas.Int.{ints}
use Rattle.std.proofs.lemmas.Bool.{cases_lt}
use Rattle.std.proofs.Math.Nat.{mul-le-mul_left, mul-le-mul_right}
use Rattle.std.proofs.lemmas.List.{length-append}
use Rattle.std.proofs.lemmas.List.Elements.{All-contains}
use Rattle.sim_game.specs.declared.Side.TheVariants.{One, Two}
use Rattle.sim_game.specs.Model.{GameModel, IsGame, Reachable}
use Rattle.matrix_game.specs.Budget.{left_of}
use Rattle.bounds_board.specs.Views.{BoardView, IsLater}
use Rattle.bounds_board.proofs.KnownLemmas.{known_later}
use Rattle.bounds_board.proofs.ViewLemmas.{later_refl}
use Rattle.restricted_game.specs.Children.{KeptRows, AreChildRows}
use Rattle.restricted_game.specs.declared.held.StepEnd.{StepEnd}
use Rattle.restricted_game.specs.declared.held.StepEnd.TheVariants.{Grown, Done}
use Rattle.restricted_game.specs.Held.{HeldMoves, IsGrown}
use Rattle.restricted_game.specs.Gaps.{HasStepGap}
use Rattle.restricted_game.proofs.HeldLemmas.{all_moves_held}
use Rattle.oracle_search.specs.declared.ends.SearchEnd.{SearchEnd}
use Rattle.oracle_search.specs.declared.ends.SearchEnd.TheVariants.{Reached, Settled, Spent, Full}
use Rattle.oracle_search.specs.declared.ends.Stop.{Stop}
use Rattle.oracle_search.specs.Finished.{IsWithin, IsBeyond, IsClose, AreFinished, AreAdded}
use Rattle.oracle_search.specs.Searches.{HasKept, IsBoardFull, IsWorked, IsWorkedBelow, Ends, TakesAtMost, growth_turns, HasTurn, HasEnded, BoundsByPure, IsStoppedAs}
use Rattle.oracle_search.specs.Sweeps.{HasSwept, TakesOne, IsSweepEnd, AreAllDone, IsFullHeld, TakesSweeps, TakesUnlessFull, EndsBySweeps, LeavesToNext, IsAfterSweep, HasBounded, HasRunOut}
use Rattle.oracle_search.specs.Workers.{WorkerView, WorkView, at_work, at_start, with_swept, without_full}
use Rattle.oracle_search.proofs.GrowLemmas.{close_after}
use Rattle.oracle_search.proofs.KeyLemmas.{finished_none, finished_later, finished_more, added_none, added_wider, added_after, added_more}
use Rattle.oracle_search.proofs.TurnLemmas.{not_before, taken_by, taken_from, taken_full, taken_spent}
use Rattle.oracle_search.proofs.WorkLemmas.{IsAfter, worked_none, worked_read, worked_after, worked_wider, worked_under, worked_swept, stop_more, pure_later}

-- ---- parts of a sweep
module _ {S G N : Type 0} {m : GameModel S} {is_last : Bool} {s : S} {limit : ℕ} where
  -- a part that finishes no state, after another
  pub swept_by : {u : WorkView G N} {v b : BoardView G N} {w new : WorkerView} → HasSwept m is_last s limit u (at_work v w) → IsWorked m s (at_work v w) (at_work b new) → new.swept ≡ w.swept
      → HasSwept m is_last s limit u (at_work b new)
  swept_by {u} {v} {b} {w} p worked same = record {
    worked = worked_after p.worked worked;
    added = subst (AreAdded m is_last b limit u.swept) (sym same) (added_after worked.board.later p.added (added_none b limit w.swept));
    kept = subst (AreFinished m is_last b) (sym same) (finished_later worked.board.later p.kept);
  }

  pub swept_none : {v : WorkView G N} → HasKept m v → AreFinished m is_last v.board v.swept → HasSwept m is_last s limit v v
  swept_none {v} kept swept = record { worked = worked_none kept; added = added_none v.board limit v.swept; kept = swept }

  pub swept_read : {u : WorkView G N} {v b : BoardView G N} {w : WorkerView} → HasSwept m is_last s limit u (at_work v w) → IsLater v b → b.entries ≡ v.entries
      → HasSwept m is_last s limit u (at_work b w)
  swept_read p later same = swept_by p (worked_read (worked_none p.worked.kept) later same) refl

  pub swept_after : {u v w : WorkView G N} → HasSwept m is_last s limit u v → HasSwept m is_last s limit v w → HasSwept m is_last s limit u w
  swept_after p q = record { worked = worked_after p.worked q.worked; added = added_after q.worked.board.later p.added q.added; kept = q.kept }

module _ {S G N : Type 0} {m : GameModel S} {is_last : Bool} {u v : WorkView G N} where
  pub swept_wider : {s : S} {a b : ℕ} → a ≤ b → HasSwept m is_last s a u v → HasSwept m is_last s b u v
  swept_wider wide p = record { worked = p.worked; added = added_wider wide p.added; kept = p.kept }

  -- the same of the state before
  pub swept_child : {s child : S} → IsAfter m s child → HasSwept m is_last child (m.rank child + 1) u v → HasSwept m is_last s (m.rank s) u v
  swept_child {s} after p = let lower = after.lower in
      record { worked = worked_wider (omega arith) (worked_under s after.leads p.worked); added = added_wider (omega arith) p.added; kept = p.kept }

-- the state itself, whose key was added
pub swept_added : {S G N : Type 0} {m : GameModel S} {is_last : Bool} (game : IsGame m) (s : S) (r : Reachable m s) {u : WorkView G N} {v : BoardView G N} {w new : WorkerView} (row : ℕ)
    → 1 ≤ m.rank s → v.key_at row ≡ Some (m.key s) → (is_last ≡ true → IsClose m v s) → (Contains w.swept (m.key s) → ⊥) → HasSwept m is_last s (m.rank s) u (at_work v w)
    → new ≡ with_swept w (m.key s) → HasSwept m is_last s (m.rank s + 1) u (at_work v new)
swept_added {m = m} {is_last = is_last} game s r {u} {v} {w} row goes_on held close not p is = subst (λ (x : WorkerView). HasSwept m is_last s (m.rank s + 1) u (at_work v x)) (sym is) (record {
  worked = worked_swept (w.swept ++ m.key s ∷ []) p.worked refl;
  added = added_after (later_refl v) (added_wider (omega arith) p.added) (added_more m game s r goes_on row held close w.swept);
  kept = finished_more m game s r goes_on row held close w.swept p.kept not;
})

-- ---- turns of a sweep
-- a turn that was not taken
pub one_none : {w x : WorkerView} → x.turns.spent ≡ w.turns.spent → x.swept ≡ w.swept → TakesOne w x
one_none turns swept = record { unless_full = λ not. let keys = ap (λ (l : List ℕ). length l) swept in omega arith }

-- a turn at the state itself, whose key was added
pub one_added : {w x y : WorkerView} (key : ℕ) → HasTurn w.turns x.turns → x.swept ≡ w.swept → y ≡ with_swept x key → TakesOne w y
one_added {w} {x} {y} key turn swept is = record {
  unless_full = λ not.
      let spent : x.turns.spent ≡ w.turns.spent + 1 = ap (λ t. t.spent) turn.1 in
      let same : y.turns.spent ≡ x.turns.spent = ap (λ (z : WorkerView). z.turns.spent) is in
      let keys = ap (λ (l : List ℕ). length l) swept in
      let more : length y.swept ≡ length x.swept + 1 = ap (λ (z : WorkerView). length z.swept) is ∙ length-append x.swept (key ∷ []) in
      omega arith;
}

module _ {S G N : Type 0} {m : GameModel S} {s : S} {limit : ℕ} {v x : WorkView G N} (worked : IsWorkedBelow m s limit v x) where
  pub one_after : {w : WorkerView} → TakesOne w v.worker → TakesOne v.worker x.worker → TakesOne w x.worker
  one_after p q = record {
    unless_full = λ not. let a = p.unless_full (not_before v.finished.was_full x.finished.was_full worked.finished.full not) in let b = q.unless_full not in omega arith;
  }

  -- an end, after a part that took no turn
  pub ended_after : (Known : Type 0) {u : WorkerView} → TakesOne u v.worker → (r : Result (Unit {0}) Stop) → IsSweepEnd m s Known v.worker x r → IsSweepEnd m s Known u x r
  ended_after Known p (Ok done) end = (end.0, one_after p end.1)
  ended_after Known p (Err stop) end = stop_more m s x stop (one_after p) end

-- ---- sweeps over the states after moves
-- what was kept so far, what is done, and the rows that are known
pub record IsSweeping {S G N : Type 0} (m : GameModel S) (is_last : Bool) (s : S) (places : KeptRows) (old new : WorkView G N) (Known : Type 0) : Type 0 where
  pub swept : HasSwept m is_last s (m.rank s) old new
  pub turns : TakesOne old.worker new.worker
  pub done : Known
  pub children : AreChildRows m new.board s places

module _ {S G N : Type 0} {m : GameModel S} {is_last : Bool} {s : S} where
  pub sweeping_none : {xs : KeptRows} {v : WorkView G N} {Known : Type 0} → HasKept m v → AreFinished m is_last v.board v.swept → AreChildRows m v.board s xs → Known
      → IsSweeping m is_last s xs v v Known
  sweeping_none kept swept children done = record { swept = swept_none kept swept; turns = one_none refl refl; done = done; children = children }

  -- the claim of a row
  pub sweeping_read : {xs ys : KeptRows} {u : WorkView G N} {v b : BoardView G N} {w : WorkerView} {Known More : Type 0} → IsSweeping m is_last s xs u (at_work v w) Known
      → IsLater v b → b.entries ≡ v.entries → AreChildRows m b s ys → More → IsSweeping m is_last s ys u (at_work b w) More
  sweeping_read p later same children done = record { swept = swept_read p.swept later same; turns = p.turns; done = done; children = children }

  pub sweeping_more : {xs ys : KeptRows} {u v w : WorkView G N} {Known More : Type 0} → IsSweeping m is_last s xs u v Known → HasSwept m is_last s (m.rank s) v w
      → TakesOne v.worker w.worker → AreChildRows m w.board s ys → More → IsSweeping m is_last s ys u w More
  sweeping_more p swept turns children done =
      record { swept = swept_after p.swept swept; turns = one_after swept.worked p.turns turns; done = done; children = children }

-- ---- a restricted game that holds all moves
-- how close the bounds are after a step
pub close_full : {S G N : Type 0} (m : GameModel S) (game : IsGame m) (s : S) → 1 ≤ m.rank s → Reachable m s → (v w : BoardView G N) (held : HeldMoves) (end : StepEnd) → w.total ≡ v.total
    → IsFullHeld m s held → AreAllDone m v s → (IsGrown end → ⊥) → HasStepGap m v w s held end → IsClose m w s
close_full m game s goes_on r v w held (Grown row col) same full done all gap = absurd (all tt)
close_full m game s goes_on r v w held (Done lower upper) same full done all gap =
    close_after m s goes_on game r v w held lower upper same is_row is_col (λ one two has_one has_two. done one two (is_row one has_one) (is_col two has_two)) gap where
      is_move : (moves : ℕ) → 1 ≤ moves → (x : ℕ) → Contains (range_with_len 0 moves) x → x < moves
      is_move moves some x has = All-contains (λ (n : ℕ). n < moves) (range_with_len 0 moves) x (all_moves_held moves some).within has

      is_row : (one : ℕ) → Contains held.rows one → one < m.moves One s
      is_row one has = is_move (m.moves One s) (game.other_moves One s r goes_on) one (subst (λ (l : List ℕ). Contains l one) full.rows has)

      is_col : (two : ℕ) → Contains held.cols two → two < m.moves Two s
      is_col two has = is_move (m.moves Two s) (game.other_moves Two s r goes_on) two (subst (λ (l : List ℕ). Contains l two) full.cols has)

-- bounds that meet are within each target
pub met_not_beyond : {S G N : Type 0} (m : GameModel S) (v w : BoardView G N) (s : S) (target : ℤ) → pos 0 ≤ℤ target → IsLater v w → IsWithin m v s (pos 0) → IsBeyond m w s target → ⊥
met_not_beyond m v w s target some later near far = not_both _ _ _ _ (known_later m v w One s later) (known_later m v w Two s later) near far where
  not_both : (a b c d : ℤ) → a ≤ℤ b → d ≤ℤ c → c ≤ℤ (a +ℤ pos 0) → (b +ℤ target) <ℤ d → ⊥
  not_both a b c d low high near far = absurd (omega (arith, ints))

-- ---- the turns of whole sweeps
-- the longer of two lists
longer : {S G N : Type 0} {m : GameModel S} {is_close : Bool} {v : BoardView G N} (xs ys : List ℕ) → AreFinished m is_close v xs → AreFinished m is_close v ys
    → (zs : List ℕ) × AreFinished m is_close v zs × (length xs ≤ length zs) × (length ys ≤ length zs)
longer xs ys p q = elim (cases_lt (length xs) (length ys)) [
  | inl less ↦ (ys, q, omega (arith, less), omega arith)
  | inr most ↦ (xs, p, omega arith, omega (arith, most))
]

module _ {S G N : Type 0} {m : GameModel S} where
  pub owed_none : {earlier last a b : ℕ} (v : BoardView G N) → b ≤ a → TakesSweeps m earlier last v a b
  owed_none v few = record { keys = []; swept = finished_none v; finished = []; closed = finished_none v; few = omega arith }

  -- a sweep that began with no state finished
  pub owed_sweep : {is_last : Bool} {v t : BoardView G N} {w x : WorkerView} (u : WorkerView) → w ≡ record u { swept = [] } → IsLater v t → AreFinished m is_last v x.swept
      → TakesOne w x → x.finished.was_full ≡ false → TakesSweeps m (cond is_last 0 1) (cond is_last 1 0) t u.turns.spent x.turns.spent
  owed_sweep {is_last = is_last} {t = t} {w = w} {x = x} u is later swept took not = of is_last (finished_later later swept) where
    begun : length w.swept ≡ 0
    begun = ap (λ (z : WorkerView). length z.swept) is

    spent : w.turns.spent ≡ u.turns.spent
    spent = ap (λ (z : WorkerView). z.turns.spent) is

    of : (b : Bool) → AreFinished m b t x.swept → TakesSweeps m (cond b 0 1) (cond b 1 0) t u.turns.spent x.turns.spent
    of true are = record { keys = []; swept = finished_none t; finished = x.swept; closed = are; few = let most = took.unless_full not in omega (arith, begun, spent) }
    of false are = record { keys = x.swept; swept = are; finished = []; closed = finished_none t; few = let most = took.unless_full not in omega (arith, begun, spent) }

  -- the longer lists are owed the turns of both
  pub owed_after : {p q x y a b c : ℕ} {u v : BoardView G N} → IsLater u v → TakesSweeps m p x u a b → TakesSweeps m q y v b c → TakesSweeps m (p + q) (x + y) v a c
  owed_after {p} {q} {x} {y} later one two =
      let keys = longer one.keys two.keys (finished_later later one.swept) two.swept in
      let finished = longer one.finished two.finished (finished_later later one.closed) two.closed in
      let first = one.few in let last = two.few in
      let more_one : p * length one.keys ≤ p * length keys.0 = mul-le-mul_left p keys.2 in
      let more_two : q * length two.keys ≤ q * length keys.0 = mul-le-mul_left q keys.3 in
      let last_one : x * length one.finished ≤ x * length finished.0 = mul-le-mul_left x finished.2 in
      let last_two : y * length two.finished ≤ y * length finished.0 = mul-le-mul_left y finished.3 in
      record { keys = keys.0; swept = keys.1; finished = finished.0; closed = finished.1; few = omega arith }

  pub owed_wider : {p q x y a b : ℕ} {v : BoardView G N} → p ≤ q → x ≤ y → TakesSweeps m p x v a b → TakesSweeps m q y v a b
  owed_wider {p} {q} {x} {y} wide last owed =
      let few = owed.few in
      let more : p * length owed.keys ≤ q * length owed.keys = mul-le-mul_right (length owed.keys) wide in
      let more_last : x * length owed.finished ≤ y * length owed.finished = mul-le-mul_right (length owed.finished) last in
      record { keys = owed.keys; swept = owed.swept; finished = owed.finished; closed = owed.closed; few = omega arith }

  pub owed_later : {p x a b : ℕ} {u v : BoardView G N} → IsLater u v → TakesSweeps m p x u a b → TakesSweeps m p x v a b
  owed_later later owed =
      record { keys = owed.keys; swept = finished_later later owed.swept; finished = owed.finished; closed = finished_later later owed.closed; few = owed.few }

-- ---- whole sweeps
-- what so many sweeps, none of them the last, leave to the next
pub record HasMade {S G N : Type 0} (m : GameModel S) (s : S) (sweeps : ℕ) (old new : WorkView G N) : Type 0 where
  pub worked : IsWorked m s old new
  pub owed : TakesUnlessFull m sweeps 0 old.worker new

module _ {S G N : Type 0} {m : GameModel S} {s : S} {u v : WorkView G N} where
  pub made_wider : {p q : ℕ} → p ≤ q → HasMade m s p u v → HasMade m s q u v
  made_wider wide made = record { worked = made.worked; owed = λ not. owed_wider wide (omega arith) (made.owed not) }

  module _ {w : WorkView G N} {sweeps : ℕ} (made : HasMade m s sweeps u v) (worked : IsWorked m s v w) where
    not_full : w.finished.was_full ≡ false → v.finished.was_full ≡ false
    not_full = not_before v.finished.was_full w.finished.was_full worked.finished.full

    pub made_more : {target : ℤ} → LeavesToNext m s target false v w → HasMade m s (sweeps + 1) u w
    made_more left = record { worked = worked_after made.worked worked; owed = λ not. owed_after worked.board.later (made.owed (not_full not)) (left.owed not) }

    -- with one more, be it the last
    pub made_owed : (earlier last : ℕ) → sweeps + earlier ≤ 2 → last ≤ 1 → TakesUnlessFull m earlier last v.worker w → TakesUnlessFull m 2 1 u.worker w
    made_owed earlier last few one owed = λ not. owed_wider {x = 0 + last} few (omega arith) (owed_after worked.board.later (made.owed (not_full not)) (owed not))

    pub made_end : (earlier last : ℕ) {target : ℤ} {end : SearchEnd} → sweeps + earlier ≤ 2 → last ≤ 1 → EndsBySweeps m s target earlier last v w end → EndsBySweeps m s target 2 1 u w end
    made_end earlier last few one ended = record {
      ends = ended.ends;
      owed = made_owed earlier last few one ended.owed;
      turned = λ is. let before = made.worked.turns.rises in let turn = ended.turned is in omega arith;
    }

-- whether a sweep reached the target
pub after_sweep : {S G N : Type 0} {m : GameModel S} {s : S} {target : ℤ} {is_last : Bool} {u v : WorkView G N} (reached : Bool)
    → MatchBool reached (IsWithin m v.board s target) (IsBeyond m v.board s target) → (IsWithin m v.board s target → EndsBySweeps m s target (cond is_last 0 1) (cond is_last 1 0) u v Reached)
    → (IsBeyond m v.board s target → LeavesToNext m s target is_last u v) → IsAfterSweep m s target is_last u v reached
after_sweep true is ends leaves = ends is
after_sweep false is ends leaves = leaves is

-- the search is settled after the last sweep
pub ends_settled : {S G N : Type 0} {m : GameModel S} {s : S} {target : ℤ} {v w : WorkView G N} → 1 ≤ m.rank s → LeavesToNext m s target true v w → EndsBySweeps m s target 0 1 v w Settled
ends_settled goes_on left = record { ends = (goes_on, left.beyond, left.close refl); owed = left.owed; turned = λ _. left.turned refl }

-- ---- how the search of a state ends
module _ {S G N : Type 0} {m : GameModel S} {s : S} {target : ℤ} {u v : WorkView G N} {end : SearchEnd} where
  -- before a turn
  pub bounded_early : Ends m s target v end → v.turns.spent ≡ u.turns.spent → v.finished.keys ≡ u.finished.keys → HasBounded m s target u v end
  bounded_early ends turns keys = record { ends = ends; turns = λ _. taken_by turns keys; owed = λ _ not. owed_none v.board (omega arith) }

  module _ {start : WorkView G N} (turns : u.turns.spent ≡ start.turns.spent) where
    pub bounded_grown : u.finished.keys ≡ start.finished.keys → start.linear ≡ false → HasEnded m s target u v end → HasBounded m s target start v end
    bounded_grown keys regret ended =
        record { ends = ended.ends; turns = λ _. taken_from turns keys ended.turns; owed = λ linear. let wrong : false ≡ true = sym regret ∙ linear in absurd (cc) }

    pub bounded_swept : start.linear ≡ true → EndsBySweeps m s target 2 1 u v end → HasBounded m s target start v end
    bounded_swept linear ended = record {
      ends = ended.ends;
      turns = λ regret. let wrong : false ≡ true = sym regret ∙ linear in absurd (cc);
      owed = λ _ not. subst (λ (n : ℕ). TakesSweeps m 2 1 v.board n v.turns.spent) turns (ended.owed not);
    }

-- ---- how the search of a state ends that stopped
no_room : {A : Type 0} {full : Bool} → full ≡ true → full ≡ false → A
no_room full not = let wrong : false ≡ true = sym not ∙ full in absurd (cc)

-- it is not settled
pub stopped_unsettled : {S G N : Type 0} (m : GameModel S) (v : BoardView G N) (s : S) (target : ℤ) (stopped end : SearchEnd)
    → (stopped ≡ Settled → ⊥) → IsStoppedAs m v s target stopped end → end ≡ Settled → ⊥
stopped_unsettled m v s target stopped end not is settled = ⊎_elim
    (λ (a : IsWithin m v s target × (end ≡ Reached)). let wrong : Reached ≡ Settled = sym a.1 ∙ settled in absurd (cc))
    (λ (b : IsBeyond m v s target × (end ≡ stopped)). not (sym b.1 ∙ settled)) is

-- where no turn is left after pure plans
module _ {S G N : Type 0} {m : GameModel S} {s : S} {target : ℤ} {start v : WorkView G N} (u : WorkView G N) (turns : u.turns.spent ≡ start.turns.spent) where
  pub run_out_grown : u.finished.keys ≡ start.finished.keys → start.linear ≡ false → ((end : SearchEnd) → BoundsByPure m s target start v end)
      → TakesAtMost (growth_turns m) (m.rank s) (m.rank s) u.worker v.worker → HasRunOut m s target start v
  run_out_grown keys regret pure taken =
      record { turns = λ _. taken_from turns keys taken; owed = λ linear. let wrong : false ≡ true = sym regret ∙ linear in absurd (cc); pure = pure }

  pub run_out_swept : start.linear ≡ true → ((end : SearchEnd) → BoundsByPure m s target start v end) → TakesUnlessFull m 2 1 u.worker v → HasRunOut m s target start v
  run_out_swept linear pure owed = record {
    turns = λ regret. let wrong : false ≡ true = sym regret ∙ linear in absurd (cc);
    owed = λ _ not. subst (λ (n : ℕ). TakesSweeps m 2 1 v.board n v.turns.spent) turns (owed not);
    pure = pure;
  }

module _ {S G N : Type 0} {m : GameModel S} {s : S} {target : ℤ} {u : WorkView G N} where
  -- on a later board
  pub run_out_later : {v b : BoardView G N} {w : WorkerView} → IsLater v b → HasRunOut m s target u (at_work v w) → HasRunOut m s target u (at_work b w)
  run_out_later later out = record {
    turns = out.turns;
    owed = λ linear not. owed_later later (out.owed linear not);
    pure = λ end. record { tight = λ visits not goes_on. pure_later m s later ((out.pure end).tight visits not goes_on); at_once = (out.pure end).at_once };
  }

  module _ {v : WorkView G N} where
    pub bounded_spent : (end : SearchEnd) → 1 ≤ m.rank s → left_of v.turns ≡ 0 → HasRunOut m s target u v → IsStoppedAs m v.board s target Spent end → HasBounded m s target u v end
    bounded_spent end goes_on none out is = ⊎_elim
        (λ (a : IsWithin m v.board s target × (end ≡ Reached)). subst (HasBounded m s target u v) (sym a.1)
        (record { ends = λ _. a.0; turns = λ regret. taken_spent none (out.turns regret); owed = out.owed }))
        (λ (b : IsBeyond m v.board s target × (end ≡ Spent)). subst (HasBounded m s target u v) (sym b.1)
        (record { ends = (goes_on, b.0, none); turns = out.turns; owed = out.owed })) is

    -- at a full board
    module _ (full : v.finished.was_full ≡ true) where
      pub pure_full : {end : SearchEnd} → BoundsByPure m s target u v end
      pure_full = record { tight = λ visits not goes_on. no_room full not; at_once = λ visits not near. no_room full not }

      pub bounded_full : (end : SearchEnd) → IsBoardFull m s v.board → IsStoppedAs m v.board s target Full end → HasBounded m s target u v end
      bounded_full end was is = ⊎_elim
          (λ (a : IsWithin m v.board s target × (end ≡ Reached)). subst (HasBounded m s target u v) (sym a.1)
          (record { ends = λ _. a.0; turns = λ _. taken_full full; owed = λ _ not. no_room full not }))
          (λ (b : IsBeyond m v.board s target × (end ≡ Full)). subst (HasBounded m s target u v) (sym b.1)
          (record { ends = (full, was, λ row below held. b.0); turns = λ _. taken_full full; owed = λ _ not. no_room full not })) is

-- a search that began with no full board in mind
pub bounded_begun : {S G N : Type 0} {m : GameModel S} {s : S} {target : ℤ} {u v : BoardView G N} {x : WorkerView} {new : WorkView G N} {end : SearchEnd} (w : WorkerView) → x ≡ without_full w
    → HasBounded m s target (at_work v x) new end → HasBounded m s target (at_start u w) new end
bounded_begun {m = m} {new = new} w is ended = record {
  ends = ended.ends;
  turns = λ regret. taken_from (ap (λ (y : WorkerView). y.turns.spent) is) (ap (λ (y : WorkerView). y.finished.keys) is) (ended.turns (ap (λ (y : WorkerView). y.linear) is ∙ regret));
  owed = λ linear not. subst (λ (n : ℕ). TakesSweeps m 2 1 new.board n new.turns.spent) (ap (λ (y : WorkerView). y.turns.spent) is) (ended.owed (ap (λ (y : WorkerView). y.linear) is ∙ linear) not);
}
