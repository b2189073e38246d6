-- What one part of a search after another keeps.
use Rattle.std.proofs.Common.{◌≡◌, ◌⊎◌, inl, inr, ⊎_elim, ℕ, ◌+◌, ◌*◌, ◌/◌, ◌≤◌, ◌<◌, ℤ, pos, ◌+ℤ◌, ◌-ℤ◌, ◌≤ℤ◌, ◌<ℤ◌, cond, true, Option, Some, Result, Err, List, [], Contains, refl, sym, ap, subst, ◌∙◌, arith}
use Rattle.std.specs.Int.{div_ceil}
use Rattle.std.proofs.Math.Nat.{mul-le-mul_left, mul-div_cancel_left}
use Rattle.std.proofs.lemmas.Bool.{cases_lt}
use Rattle.std.proofs.lemmas.Grind.{div_ceil_times}
use Rattle.std.proofs.lemmas.Int.{ints}
use Rattle.sim_game.specs.declared.Side.{Side}
use Rattle.sim_game.specs.declared.Side.TheVariants.{One, Two}
use Rattle.sim_game.specs.Model.{GameModel, IsGame, IsTurn, LeadsTo, Turn, Reachable}
use Rattle.sim_game.specs.Resolution.{IsStageGap, IsResolution}
use Rattle.sim_game.proofs.ReachLemmas.{reachable_induction, reachable_turn, leads_none, leads_turn}
use Rattle.sim_game.proofs.SideLemmas.{looser_trans}
use Rattle.plan_book.specs.Books.{Grows}
use Rattle.plan_book.specs.Entries.{IsLawfulEntry, IsPureEntry}
use Rattle.plan_book.specs.Serial.{serial_bound}
use Rattle.matrix_game.specs.Budget.{Budget, left_of, after_one_turn, IsSameBudget, HasGivenUp}
use Rattle.matrix_game.proofs.BudgetLemmas.{same_budget, budget_after, one_turn_later}
use Rattle.bounds_board.specs.declared.bounds.BoardFault.{BoardFault}
use Rattle.bounds_board.specs.declared.bounds.BoardFault.TheVariants as board_faults
use Rattle.bounds_board.specs.Views.{BoardView, IsLater, IsFull, known_bound}
use Rattle.bounds_board.proofs.FullLemmas.{full_later, full_weaker}
use Rattle.bounds_board.proofs.KnownLemmas.{known_later}
use Rattle.bounds_board.proofs.ViewLemmas.{later_refl}
use Rattle.serial_ab.specs.Counts.{VisitsView, HasCounted, Counts, spent_on}
use Rattle.serial_ab.specs.Searches.{IsSerialKept}
use Rattle.serial_ab.specs.Transpositions.{AreRemembered}
use Rattle.serial_ab.proofs.KeptLemmas.{grows_none, grows_after}
use Rattle.serial_ab.proofs.TableLemmas.{remembered_later, remembered_none}
use Rattle.restricted_game.specs.Children.{KeptRows, HasRow, AreChildRows}
use Rattle.restricted_game.specs.declared.held.StepFault.{StepFault}
use Rattle.restricted_game.specs.declared.held.StepFault.TheVariants as step_faults
use Rattle.restricted_game.specs.Nodes.{IsAtNode, IsBetter}
use Rattle.restricted_game.proofs.ChildLemmas.{row_later}
use Rattle.restricted_game.proofs.NodeLemmas.{better_trans}
use Rattle.oracle_search.specs.declared.ends.SearchEnd.{SearchEnd}
use Rattle.oracle_search.specs.declared.ends.Stop.{Stop}
use Rattle.oracle_search.specs.declared.ends.Stop.TheVariants as stops
use Rattle.oracle_search.specs.Finished.{AreFinished, AreAdded, IsWithin, IsBeyond, IsClose, IsLeftBelow, left_gap}
use Rattle.oracle_search.specs.Searches.{HasTurned, HasKept, IsAtRow, IsAtChildren, IsBoardFull, IsWorkedBelow, IsWorked, IsStop, stop_at, stop_after, HasVisitsBelow, IsPureTight, IsPureWithin, IsAhead, BoundsByPure}
use Rattle.oracle_search.specs.Workers.{WorkerView, WorkView, HasAsked, at_work, with_full, with_key, without_full, without_searches}
use Rattle.oracle_search.proofs.BetterLemmas.{grows_weaker, better_serial}
use Rattle.oracle_search.proofs.KeyLemmas.{finished_none, finished_later, finished_more, added_none, added_wider, added_after, added_more}

-- ---- counts
visited_none : (v : VisitsView) → HasCounted v v
visited_none v = record { limit = refl; rises = λ side. omega arith }

visited_after : {u v w : VisitsView} → HasCounted u v → HasCounted v w → HasCounted u w
visited_after p q = record { limit = q.limit ∙ p.limit; rises = λ side. omega (arith, p.rises side, q.rises side) }

visited_counts : (side : Side) (most : ℕ) (x y : VisitsView) → Counts side most x y → HasCounted x y
visited_counts side most x y c = record { limit = c.limit; rises = each side c } where
  each : (side : Side) → Counts side most x y → (of : Side) → spent_on of x ≤ spent_on of y
  each One c One = c.rises
  each One c Two = let same = c.other in omega arith
  each Two c One = let same = c.other in omega arith
  each Two c Two = c.rises

turned_none : (t : Budget) → HasTurned t t
turned_none t = record { limit = same_budget t; rises = omega arith; within = λ h. h; none = λ _. refl }

turned_after : (t u v : Budget) → HasTurned t u → HasTurned u v → HasTurned t v
turned_after t u v p q =
    let left : left_of t ≡ 0 → left_of u ≡ 0 = λ e. let same = p.none e in let limit = p.limit.no_more in omega arith in
    record { limit = budget_after p.limit q.limit; rises = omega (arith, p.rises, q.rises); within = λ h. q.within (p.within h); none = λ e. q.none (left e) ∙ p.none e }

-- a turn was taken, or none was
turned_step : (old new : Budget) → (left_of old ≡ 0 → new ≡ old) → (new ≡ old) ⊎ (new ≡ after_one_turn old) → HasTurned old new
turned_step old new none one = ⊎_elim
    (λ (a : new ≡ old). rw a (turned_none old))
    (λ (b : new ≡ after_one_turn old).
    let limit : new.limit ≡ old.limit = ap (λ (t : Budget). t.limit) b in
    let spent : new.spent ≡ old.spent + 1 = ap (λ (t : Budget). t.spent) b in
    let some : old.spent ≤ old.limit → old.spent + 1 ≤ old.limit = λ h. ⊎_elim
    (λ (l : old.spent < old.limit). omega arith)
    (λ (g : old.limit ≤ old.spent). let same = ap (λ (t : Budget). t.spent) (none (omega arith)) in absurd (omega arith))
    (cases_lt old.spent old.limit) in
    record {
      limit = subst (IsSameBudget old) (sym b) (one_turn_later old);
      rises = omega arith;
      within = λ h. omega (arith, some h);
      none = λ e. ap (λ (t : Budget). t.spent) (none e);
    })
    one

-- no turn was taken, and those that were left may have been given up
pub turned_asked : (old new : Budget) → (new ≡ old) ⊎ HasGivenUp old new → HasTurned old new × (new.spent ≡ old.spent)
turned_asked old new asked = ⊎_elim
    (λ (a : new ≡ old). rw a (turned_none old, refl))
    (λ (b : HasGivenUp old new).
    let spent = b.spent in let none = b.none_left in
    (record { limit = b.same; rises = omega arith; within = λ h. omega arith; none = λ _. spent }, spent))
    asked

-- a turn that was taken after that was left before
pub turn_asked : (old asked new : Budget) → (asked ≡ old) ⊎ HasGivenUp old asked → 1 ≤ left_of asked → new ≡ after_one_turn asked → (1 ≤ left_of old) × (new ≡ after_one_turn old)
turn_asked old asked new a left one = ⊎_elim
    (λ (same : asked ≡ old). (rw same at left, one ∙ ap after_one_turn same))
    (λ (b : HasGivenUp old asked). let none = b.none_left in absurd (omega arith))
    a

-- where none was spent, none was taken
not_taken : (old new : Budget) → (new ≡ old) ⊎ (new ≡ after_one_turn old) → new.spent ≡ old.spent → new ≡ old
not_taken old new one same = ⊎_elim (λ a. a) (λ b. let more : new.spent ≡ old.spent + 1 = ap (λ (t : Budget). t.spent) b in absurd (omega arith)) one

-- where both parts together take no turn, neither does
same_turns : (t u v : Budget) → HasTurned t u → HasTurned u v → v.spent ≡ t.spent → (u.spent ≡ t.spent) × (v.spent ≡ u.spent)
same_turns t u v p q e = let first = p.rises in let last = q.rises in (omega arith, omega arith)

-- ---- one part after another
module _ {S G N : Type 0} (m : GameModel S) where
  pub full_kept : (s : S) {v w : BoardView G N} → IsLater v w → IsBoardFull m s v → IsBoardFull m s w
  full_kept s {v} {w} later was = full_later m v w (LeadsTo m s) later was

  -- a full board that the search of a state after it met
  pub full_below : (s child : S) {v : BoardView G N} → ((t : S) → LeadsTo m child t → LeadsTo m s t) → IsBoardFull m child v → IsBoardFull m s v
  full_below s child {v} leads was = full_weaker m v (LeadsTo m child) (LeadsTo m s) leads was

  -- a worker that has done nothing
  pub kept_none : (v : BoardView G N) (w : WorkerView) → w.finished.keys ≡ [] → w.searches.stored ≡ [] → HasKept m (at_work v w)
  kept_none v w no_keys no_searches = record { finished = subst (AreFinished m true v) (sym no_keys) (finished_none v); remembered = remembered_none no_searches }

module _ {S G N : Type 0} {m : GameModel S} {s : S} {limit : ℕ} where
  -- a part that finishes no state
  worked_by : (old new : WorkView G N) → IsBetter m old.board new.board → HasTurned old.turns new.turns → HasCounted old.visits new.visits → new.linear ≡ old.linear
      → new.finished.keys ≡ old.finished.keys → (old.finished.was_full ≡ true → new.finished.was_full ≡ true)
      → HasKept m old → AreRemembered m new.board new.searches → (new.finished.was_full ≡ true → old.finished.was_full ≡ true ⊎ IsBoardFull m s new.board)
      → (new.turns.spent ≡ old.turns.spent → Grows (IsPureEntry m old.board.total) old.board.entries new.board.entries) → IsWorkedBelow m s limit old new
  worked_by old new better turned visited linear same full kept remembered cause pure = record {
    board = better;
    turns = turned;
    visits = visited;
    linear = linear;
    finished = record { added = subst (AreAdded m true new.board limit old.finished.keys) (sym same) (added_none new.board limit old.finished.keys); full = full };
    kept = record { finished = subst (AreFinished m true new.board) (sym same) (finished_later better.later kept.finished); remembered = remembered };
    cause = cause;
    pure_alone = pure;
  }

  pub worked_after : {u v w : WorkView G N} → IsWorkedBelow m s limit u v → IsWorkedBelow m s limit v w → IsWorkedBelow m s limit u w
  worked_after {u} {v} {w} p q = record {
    board = better_trans m u.board v.board w.board p.board q.board;
    turns = turned_after u.turns v.turns w.turns p.turns q.turns;
    visits = visited_after p.visits q.visits;
    linear = q.linear ∙ p.linear;
    finished = record { added = added_after q.board.later p.finished.added q.finished.added; full = λ e. q.finished.full (p.finished.full e) };
    kept = q.kept;
    cause = λ e. ⊎_elim
        (λ (before : v.finished.was_full ≡ true). ⊎_elim (λ (first : u.finished.was_full ≡ true). inl first)
        (λ (was : IsBoardFull m s v.board). inr (full_kept m s q.board.later was)) (p.cause before))
        (λ (was : IsBoardFull m s w.board). inr was) (q.cause e);
    pure_alone = λ e.
        let both = same_turns u.turns v.turns w.turns p.turns q.turns e in
        grows_after (IsPureEntry m u.board.total) u.board.entries v.board.entries w.board.entries (p.pure_alone both.0)
        (subst (λ (total : ℕ). Grows (IsPureEntry m total) v.board.entries w.board.entries) p.board.later.total (q.pure_alone both.1));
  }

  -- a part without turns and visits
  worked_quietly : (v b : BoardView G N) (w new : WorkerView) → HasKept m (at_work v w) → IsLater v b → new.turns ≡ w.turns → new.visits ≡ w.visits → new.linear ≡ w.linear
      → new.finished.keys ≡ w.finished.keys → AreRemembered m b new.searches → (w.finished.was_full ≡ true → new.finished.was_full ≡ true)
      → (new.finished.was_full ≡ true → w.finished.was_full ≡ true ⊎ IsBoardFull m s b) → Grows (IsPureEntry m v.total) v.entries b.entries → IsWorkedBelow m s limit (at_work v w) (at_work b new)
  worked_quietly v b w new kept later turns visits linear keys remembered full cause posted = worked_by (at_work v w) (at_work b new)
      (record { later = later; posted = grows_weaker (IsPureEntry m v.total) (IsLawfulEntry m v.total) v.entries b.entries (λ e p. p.lawful) posted })
      (rw turns (turned_none w.turns)) (rw visits (visited_none w.visits)) linear keys full kept remembered cause (λ _. posted)

  worked_still : (v b : BoardView G N) (w : WorkerView) → HasKept m (at_work v w) → IsLater v b → Grows (IsPureEntry m v.total) v.entries b.entries
      → IsWorkedBelow m s limit (at_work v w) (at_work b w)
  worked_still v b w kept later posted =
      worked_quietly v b w w kept later refl refl refl refl (remembered_later later kept.remembered) (λ e. e) (λ e. inl e) posted

  pub worked_none : {v : WorkView G N} → HasKept m v → IsWorkedBelow m s limit v v
  worked_none {v} kept = worked_still v.board v.board v.worker kept (later_refl v.board) (grows_none (IsPureEntry m v.board.total) v.board.entries v.board.entries refl)

  -- bounds that were read, after another part
  pub worked_read : {u : WorkView G N} {v b : BoardView G N} {w : WorkerView} → IsWorkedBelow m s limit u (at_work v w) → IsLater v b → b.entries ≡ v.entries → IsWorkedBelow m s limit u (at_work b w)
  worked_read {v = v} {b = b} {w = w} p later same = worked_after p (worked_still v b w p.kept later (grows_none (IsPureEntry m v.total) v.entries b.entries same))

  -- posts of entries of one move
  pub worked_posted : {u : WorkView G N} {v b : BoardView G N} {w : WorkerView} → IsWorkedBelow m s limit u (at_work v w) → IsLater v b
      → Grows (IsPureEntry m v.total) v.entries b.entries → IsWorkedBelow m s limit u (at_work b w)
  worked_posted {v = v} {b = b} {w = w} p later posted = worked_after p (worked_still v b w p.kept later posted)

  -- a claim that was full
  pub worked_full : {u : WorkView G N} {v b : BoardView G N} {w new : WorkerView} → IsWorkedBelow m s limit u (at_work v w) → IsLater v b → b.entries ≡ v.entries
      → new ≡ with_full w → IsBoardFull m s b → IsWorkedBelow m s limit u (at_work b new)
  worked_full {u} {v} {b} {w} p later same is was = subst (λ (x : WorkerView). IsWorkedBelow m s limit u (at_work b x)) (sym is) (worked_after p
      (worked_quietly v b w (with_full w) p.kept later refl refl refl refl (remembered_later later p.kept.remembered) (λ _. refl) (λ _. inr was)
      (grows_none (IsPureEntry m v.total) v.entries b.entries same)))

  -- what the worker keeps of a sweep, and of serial searches, was changed
  pub worked_swept : {u : WorkView G N} {v : BoardView G N} {w new : WorkerView} (keys : List ℕ) → IsWorkedBelow m s limit u (at_work v w) → new ≡ record w { swept = keys }
      → IsWorkedBelow m s limit u (at_work v new)
  worked_swept {u} {v} {w} keys p is = subst (λ (x : WorkerView). IsWorkedBelow m s limit u (at_work v x)) (sym is) (worked_after p
      (worked_quietly v v w (record w { swept = keys }) p.kept (later_refl v) refl refl refl refl p.kept.remembered (λ e. e) (λ e. inl e)
      (grows_none (IsPureEntry m v.total) v.entries v.entries refl)))

  pub worked_forgot : {u : WorkView G N} {v : BoardView G N} {w new : WorkerView} → IsWorkedBelow m s limit u (at_work v w) → new ≡ without_searches w
      → IsWorkedBelow m s limit u (at_work v new)
  worked_forgot {u} {v} {w} p is = subst (λ (x : WorkerView). IsWorkedBelow m s limit u (at_work v x)) (sym is) (worked_after p
      (worked_quietly v v w (without_searches w) p.kept (later_refl v) refl refl refl refl (remembered_none refl) (λ e. e) (λ e. inl e)
      (grows_none (IsPureEntry m v.total) v.entries v.entries refl)))

  -- a turn
  pub worked_turn : {v b : BoardView G N} {w new : WorkerView} → HasKept m (at_work v w) → IsBetter m v b
      → (left_of w.turns ≡ 0 → new.turns ≡ w.turns) → (new.turns ≡ w.turns) ⊎ (new.turns ≡ after_one_turn w.turns)
      → (new.turns ≡ w.turns → b.entries ≡ v.entries) → new ≡ record w { turns = new.turns } → IsWorkedBelow m s limit (at_work v w) (at_work b new)
  worked_turn {v} {b} {w} {new} kept better none one unposted is = subst (λ (x : WorkerView). IsWorkedBelow m s limit (at_work v w) (at_work b x)) (sym is)
      (worked_by (at_work v w) (at_work b (record w { turns = new.turns })) better
      (turned_step w.turns new.turns none one) (visited_none w.visits) refl refl (λ e. e) kept (remembered_later better.later kept.remembered) (λ e. inl e)
      (λ e. grows_none (IsPureEntry m v.total) v.entries b.entries (unposted (not_taken w.turns new.turns one e))))

  -- the gate was asked
  pub worked_asked : {u : WorkView G N} {v : BoardView G N} {w new : WorkerView} → IsWorkedBelow m s limit u (at_work v w) → HasAsked w new → IsWorkedBelow m s limit u (at_work v new)
  worked_asked {u} {v} {w} {new} p asked =
      let turned = turned_asked w.turns new.turns asked.turns in
      subst (λ (x : WorkerView). IsWorkedBelow m s limit u (at_work v x)) (sym asked.same) (worked_after p
      (worked_by (at_work v w) (at_work v (record w { turns = new.turns }))
      (record { later = later_refl v; posted = grows_none (IsLawfulEntry m v.total) v.entries v.entries refl })
      turned.0 (visited_none w.visits) refl refl (λ e. e) p.kept p.kept.remembered (λ e. inl e)
      (λ _. grows_none (IsPureEntry m v.total) v.entries v.entries refl)))

  -- a serial search
  pub worked_serial : {v b : BoardView G N} {w new : WorkerView} (side : Side) (most : ℕ) → HasKept m (at_work v w) → IsSerialKept m side most v b w.visits new.visits
      → AreRemembered m b new.searches → new ≡ record w { visits = new.visits; searches = new.searches } → IsWorkedBelow m s limit (at_work v w) (at_work b new)
  worked_serial {v} {b} {w} {new} side most kept counted remembered is = subst (λ (x : WorkerView). IsWorkedBelow m s limit (at_work v w) (at_work b x)) (sym is)
      (worked_by (at_work v w) (at_work b (record w { visits = new.visits; searches = new.searches })) (better_serial m side most v b w.visits new.visits counted) (turned_none w.turns)
      (visited_counts side most w.visits new.visits counted.visits) refl refl (λ e. e) kept remembered (λ e. inl e) (λ e. counted.posted))

-- ---- another limit, and another state
module _ {S G N : Type 0} {m : GameModel S} {u v : WorkView G N} where
  pub worked_wider : {s : S} {a b : ℕ} → a ≤ b → IsWorkedBelow m s a u v → IsWorkedBelow m s b u v
  worked_wider wide p = record {
    board = p.board;
    turns = p.turns;
    visits = p.visits;
    linear = p.linear;
    finished = record { added = added_wider wide p.finished.added; full = p.finished.full };
    kept = p.kept;
    cause = p.cause;
    pure_alone = p.pure_alone;
  }

  -- what the search of a state after it keeps
  pub worked_under : {child : S} {limit : ℕ} (s : S) → ((t : S) → LeadsTo m child t → LeadsTo m s t) → IsWorkedBelow m child limit u v → IsWorkedBelow m s limit u v
  worked_under {child} s leads p = record {
    board = p.board;
    turns = p.turns;
    visits = p.visits;
    linear = p.linear;
    finished = p.finished;
    kept = p.kept;
    cause = λ e. ⊎_elim (λ (before : u.finished.was_full ≡ true). inl before) (λ (was : IsBoardFull m child v.board). inr (full_below m s child leads was)) (p.cause e);
    pure_alone = p.pure_alone;
  }

-- a search that finished its state, whose key was added
pub worked_added : {S G N : Type 0} {m : GameModel S} (game : IsGame m) (s : S) (r : Reachable m s) {u : WorkView G N} {v : BoardView G N} {w new : WorkerView} (row : ℕ) → 1 ≤ m.rank s
    → v.key_at row ≡ Some (m.key s) → IsClose m v s → (Contains w.finished.keys (m.key s) → ⊥) → IsWorked m s u (at_work v w) → new ≡ with_key w (m.key s)
    → IsWorkedBelow m s (m.rank s + 1) u (at_work v new)
worked_added {m = m} game s r {u} {v} {w} row goes_on held close not p is = subst (λ (x : WorkerView). IsWorkedBelow m s (m.rank s + 1) u (at_work v x)) (sym is) (record {
  board = p.board;
  turns = p.turns;
  visits = p.visits;
  linear = p.linear;
  finished = record {
    added = added_after (later_refl v) (added_wider (omega arith) p.finished.added) (added_more m game s r goes_on row held (λ _. close) w.finished.keys);
    full = p.finished.full;
  };
  kept = record { finished = finished_more m game s r goes_on row held (λ _. close) w.finished.keys p.kept.finished not; remembered = p.kept.remembered };
  cause = p.cause;
  pure_alone = p.pure_alone;
})

-- ---- where a part of a search begins
module _ {S G N : Type 0} {m : GameModel S} where
  pub kept_begun : {v : BoardView G N} {w new : WorkerView} → new ≡ without_full w → HasKept m (at_work v w) → HasKept m (at_work v new)
  kept_begun {v} is kept = subst (λ (x : WorkerView). HasKept m (at_work v x)) (sym is) (record { finished = kept.finished; remembered = kept.remembered })

  pub worked_begun : {s : S} {limit : ℕ} {v : BoardView G N} {new : WorkerView} {x : WorkView G N} (w : WorkerView) → new ≡ without_full w → IsWorkedBelow m s limit (at_work v new) x
      → IsWorkedBelow m s limit (at_work v (without_full w)) x
  worked_begun {s} {limit} {v = v} {x = x} w is p = subst (λ (y : WorkerView). IsWorkedBelow m s limit (at_work v y) x) is p

  pub node_of : {g : G} {s : S} {row : ℕ} {v : WorkView G N} → IsAtRow m g s (Some row) v → IsAtNode m g v.board s row
  node_of here = record { game = here.game; reachable = here.reachable; goes_on = here.has_row.goes_on; holds = here.has_row.holds }

  pub at_row_after : {g : G} {s : S} {limit row : ℕ} {u v : WorkView G N} → IsAtRow m g s (Some row) u → IsWorkedBelow m s limit u v → IsAtRow m g s (Some row) v
  at_row_after {s = s} {row = row} {u = u} {v = v} here worked = record {
    game = worked.board.later.game ∙ here.game;
    reachable = here.reachable;
    has_row = row_later m u.board v.board s row worked.board.later here.has_row;
    kept = worked.kept;
  }

  pub at_children_after : {g : G} {s : S} {limit : ℕ} {old new : KeptRows} {u v : WorkView G N} → IsAtChildren m g s old u → IsWorkedBelow m s limit u v → AreChildRows m v.board s new
      → IsAtChildren m g s new v
  at_children_after here worked children =
      record { game = worked.board.later.game ∙ here.game; reachable = here.reachable; goes_on = here.goes_on; children = children; kept = worked.kept }

-- ---- states after moves
-- a state after a move of each side and a draw
pub record IsAfter {S : Type 0} (m : GameModel S) (s child : S) : Type 0 where
  pub reachable : Reachable m child
  pub lower : m.rank child < m.rank s
  pub leads : (t : S) → LeadsTo m child t → LeadsTo m s t

pub drawn_after : {S : Type 0} (m : GameModel S) → IsGame m → (s : S) → Reachable m s → (one two draw : ℕ) → one < m.moves One s → two < m.moves Two s → draw < m.draws s one two
    → IsAfter m s (m.drawn s one two draw)
drawn_after m game s r one two draw one_below two_below draw_below =
    let at : Turn = record { one = one; two = two; draw = draw } in
    let turn : IsTurn m s at = record { one_below = one_below; two_below = two_below; draw_below = draw_below } in
    record { reachable = reachable_turn m s at r turn; lower = game.rank_falls s at r turn; leads = λ t leads. leads_turn m s at t turn leads }

module _ {S G N : Type 0} {m : GameModel S} {s child : S} (after : IsAfter m s child) where
  pub at_child : {g : G} {limit : ℕ} {children : KeptRows} {row : Option ℕ} {u v : WorkView G N} → IsAtChildren m g s children u → IsWorkedBelow m s limit u v → HasRow m v.board child row
      → IsAtRow m g child row v
  at_child here worked row = record { game = worked.board.later.game ∙ here.game; reachable = after.reachable; has_row = row; kept = worked.kept }

  pub worked_child : {u v : WorkView G N} → IsWorkedBelow m child (m.rank child + 1) u v → IsWorked m s u v
  worked_child worked = let lower = after.lower in worked_wider (omega arith) (worked_under s after.leads worked)

  pub full_child : {v : BoardView G N} → IsFull m v (m.key child) → IsBoardFull m s v
  full_child full = record { state = child; is_asked = after.leads child (leads_none m child); full = full }

  pub stop_under : {Taken More : Type 0} (v : WorkView G N) (stop : Stop) → (Taken → More) → IsStop m child v Taken stop → IsStop m s v More stop
  stop_under v stops.Spent more is = (is.0, more is.1)
  stop_under v stops.Full more is = full_below m s child after.leads is
  stop_under v stops.NoMemory more is = tt

-- ---- why a part of a search stopped
module _ {S G N : Type 0} (m : GameModel S) (s : S) (v : WorkView G N) where
  pub stop_more : {Taken More : Type 0} (stop : Stop) → (Taken → More) → IsStop m s v Taken stop → IsStop m s v More stop
  stop_more stops.Spent more is = (is.0, more is.1)
  stop_more stops.Full more is = is
  stop_more stops.NoMemory more is = tt

  -- a fault of a board, and of a step
  pub stop_board : (Taken : Type 0) {T : Type 0} (fault : BoardFault) {r : Result T BoardFault} → r ≡ Err fault
      → (r ≡ Err board_faults.Full → IsBoardFull m s v.board) → IsStop m s v Taken (stop_at fault)
  stop_board Taken board_faults.Full is full = full is
  stop_board Taken board_faults.NoMemory is full = tt

  pub stop_step : {Taken T : Type 0} (fault : StepFault) {r : Result T StepFault} → r ≡ Err fault → (r ≡ Err step_faults.Full → IsBoardFull m s v.board)
      → (r ≡ Err step_faults.Spent → (left_of v.turns ≡ 0) × Taken) → IsStop m s v Taken (stop_after fault)
  stop_step step_faults.Spent is full spent = spent is
  stop_step step_faults.Full is full spent = full is
  stop_step step_faults.NoMemory is full spent = tt

-- ---- how far bounds are apart
module _ {S G N : Type 0} (m : GameModel S) (s : S) where
  pub pure_later : {v w : BoardView G N} → IsLater v w → IsPureTight m s v → IsPureTight m s w
  pure_later {v} {w} later pure side = looser_trans side _ _ _ (pure side) (known_later m v w side s later)

  pub ahead_later : {v w : BoardView G N} → IsLater v w → IsAhead m s v → IsAhead m s w
  ahead_later {v} {w} later ahead = ⊎_elim
      (λ (a : serial_bound m One s <ℤ known_bound m v One s). inl (tighter_than_later _ _ _ a (known_later m v w One s later)))
      (λ (b : known_bound m v Two s <ℤ serial_bound m Two s). inr (later_than_tighter _ _ _ (known_later m v w Two s later) b)) ahead
    where
      tighter_than_later : (x y z : ℤ) → x <ℤ y → y ≤ℤ z → x <ℤ z
      tighter_than_later x y z p q = omega (arith, ints)

      later_than_tighter : (x y z : ℤ) → x ≤ℤ y → y <ℤ z → x <ℤ z
      later_than_tighter x y z p q = omega (arith, ints)

  -- bounds as tight as pure plans make them are within each target that pure plans reach
  pub pure_within : (v : BoardView G N) (target : ℤ) → IsPureTight m s v → IsPureWithin m s target → IsWithin m v s target
  pure_within v target pure near = between _ _ _ _ (pure One) (pure Two) near where
    between : (a b c d : ℤ) → a ≤ℤ b → d ≤ℤ c → c ≤ℤ (a +ℤ target) → d ≤ℤ (b +ℤ target)
    between a b c d low high near = omega (arith, ints)

pub within_not_beyond : {S G N : Type 0} (m : GameModel S) (v : BoardView G N) (s : S) (gap : ℤ) → IsWithin m v s gap → IsBeyond m v s gap → ⊥
within_not_beyond m v s gap near far = not_both (known_bound m v One s +ℤ gap) (known_bound m v Two s) near far where
  not_both : (x y : ℤ) → y ≤ℤ x → x <ℤ y → ⊥
  not_both x y p q = absurd (omega (arith, ints))

-- ---- pure plans
module _ {S G N : Type 0} {m : GameModel S} {s : S} {target : ℤ} {u v : WorkView G N} {end : SearchEnd} where
  -- where bounds as tight as pure plans make them are beyond the target
  pub pure_beyond : (w : BoardView G N) → IsLater w v.board → IsBeyond m w s target → (HasVisitsBelow m s u.turns u.visits → IsPureTight m s w) → BoundsByPure m s target u v end
  pure_beyond w later far tight = record {
    tight = λ visits not goes_on. pure_later m s later (tight visits);
    at_once = λ visits not near. absurd (within_not_beyond m w s target (pure_within m s w target (tight visits) near) far);
  }

-- ---- a state that is left to another worker
-- no reachable state has a greater rank than the root
pub rank_below_root : {S : Type 0} (m : GameModel S) → IsGame m → (s : S) → Reachable m s → m.rank s ≤ m.rank m.root
rank_below_root m game = reachable_induction m (λ s. m.rank s ≤ m.rank m.root) (omega arith) (λ s t r here turn. let falls = game.rank_falls s t r turn in omega arith)

-- a rank's part of the resolution
pub rank_part : {S : Type 0} (m : GameModel S) (total n : ℕ) → 1 ≤ m.rank m.root → (r : IsResolution m total n) → n / m.rank m.root ≡ r.gap + 1 + cond m.chance_free 0 1
rank_part m total n some r = ap (λ (k : ℕ). k / m.rank m.root) r.sums ∙ mul-div_cancel_left (r.gap + 1 + cond m.chance_free 0 1) some

-- there is one stage's gap
pub left_below : {S : Type 0} (m : GameModel S) (total stage : ℕ) (s : S) (gap : ℤ) → IsStageGap m total stage → gap ≤ℤ pos (left_gap m stage (m.rank s)) → IsLeftBelow m total s gap
left_below m total stage s gap is near other there =
    let one_gap : stage ≡ other = let a = is.least other there.enough in let b = there.least stage is.enough in omega arith in
    subst (λ (k : ℕ). gap ≤ℤ pos (left_gap m k (m.rank s))) one_gap near

-- bounds within a gap at which a state is left are as close as its rank allows
pub close_below : {S G N : Type 0} (m : GameModel S) (total : ℕ) (v : BoardView G N) (s : S) (gap : ℤ) → v.total ≡ total → IsLeftBelow m total s gap
    → IsWithin m v s gap → IsClose m v s
close_below m total v s gap same left near stage is =
    let most = left stage (subst (λ (n : ℕ). IsStageGap m n stage) same is) in
    let each = stage + 1 + cond m.chance_free 0 1 in
    let part : div_ceil each 32 ≤ each = let rounded = (div_ceil_times each 32 (omega arith)).1 in omega arith in
    let less : m.rank s * div_ceil each 32 ≤ m.rank s * each = mul-le-mul_left (m.rank s) part in
    wider (known_bound m v One s) (known_bound m v Two s) (m.rank s * div_ceil each 32) (m.rank s * each) near most less
  where
    wider : (low high : ℤ) (part all : ℕ) → high ≤ℤ (low +ℤ gap) → gap ≤ℤ pos part → part ≤ all → high ≤ℤ (low +ℤ pos all)
    wider low high part all near most less = omega (arith, ints)

pub close_left : {S G N : Type 0} (m : GameModel S) (total stage : ℕ) (v : BoardView G N) (s : S) (gap : ℤ) → v.total ≡ total → IsStageGap m total stage
    → gap ≡ known_bound m v Two s -ℤ known_bound m v One s → gap ≤ℤ pos (left_gap m stage (m.rank s)) → IsClose m v s
close_left m total stage v s gap same is is_gap near =
    close_below m total v s gap same (left_below m total stage s gap is near) (within (known_bound m v One s) (known_bound m v Two s) is_gap)
  where
    within : (low high : ℤ) → gap ≡ high -ℤ low → high ≤ℤ (low +ℤ gap)
    within low high e = omega (arith, ints)
