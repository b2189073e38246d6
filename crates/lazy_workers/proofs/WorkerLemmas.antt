-- What the search of one worker shows of the game.
use Rattle.std.proofs.Common.{◌≡◌, ◌⊎◌, ⊎_elim, inl, inr, ℕ, ◌+◌, ◌*◌, ◌<◌, ◌≤◌, ℤ, pos, ◌+ℤ◌, ◌-ℤ◌, ◌≤ℤ◌, ◌<ℤ◌, Bool, true, false, None, Some, List, [], ◌∷◌, ◌++◌, length, get_or, slice_index, All, refl, sym, ap, subst, ◌∙◌, arith}
use Rattle.std.proofs.lemmas.Int.{ints}
use Rattle.std.proofs.Math.Nat.{mul-le-mul_left}
use Rattle.std.proofs.lemmas.Bool.{cases_lt}
use Rattle.std.proofs.lemmas.List.Elements.{All-cons, All-get_or, All-head, All-nil, All-weaker}
use Rattle.sim_game.specs.declared.Side.{Side}
use Rattle.sim_game.specs.declared.Side.TheVariants.{One, Two}
use Rattle.sim_game.specs.declared.TheConstants.{MOST_TURNS}
use Rattle.sim_game.specs.Model.{GameModel, IsGame, IsEnd, Reachable, HasAtMost}
use Rattle.sim_game.specs.Resolution.{IsStageGap, payoff_range}
use Rattle.sim_game.specs.Sides.{end_bound}
use Rattle.sim_game.proofs.SideLemmas.{looser_refl}
use Rattle.sim_game.proofs.ResolutionLemmas.{least_exists}
use Rattle.plan_book.specs.Entries.{IsPureEntry}
use Rattle.plan_book.specs.declared.Entry.{Entry}
use Rattle.plan_book.specs.Books.{book_bound}
use Rattle.plan_book.specs.Serial.{tree_size}
use Rattle.plan_book.proofs.ExpectedLemmas.{is_same}
use Rattle.serial_ab.proofs.ValueLemmas.{serial_end}
use Rattle.matrix_game.specs.Budget.{Budget, left_of}
use Rattle.matrix_game.specs.declared.solver.SolverKind.{SolverKind}
use Rattle.matrix_game.specs.Solvers.{solver_of}
use Rattle.bounds_board.specs.Views.{IsInnerKey, known_bound}
use Rattle.bounds_board.proofs.FullLemmas.{rows_too_few}
use Rattle.serial_ab.specs.Counts.{VisitsView, left_on}
use Rattle.oracle_search.specs.declared.ends.SearchEnd.{SearchEnd}
use Rattle.oracle_search.specs.declared.ends.SearchEnd.TheVariants.{Reached, Settled, Spent, Full}
use Rattle.oracle_search.specs.Finished.{FinishedView, IsFinished, AreFinished, AreApart, IsWithin, rank_gap}
use Rattle.oracle_search.specs.Sweeps.{TakesSweeps}
use Rattle.oracle_search.specs.declared.worker.MemoryLimits.{MemoryLimits}
use Rattle.oracle_search.specs.Searches.{IsWorked, IsBoardFull, Ends, growth_turns, TakesTurns, HasTaken, IsPureTight, HasVisitsBelow as Whole}
use Rattle.oracle_search.specs.Workers.{WorkView, is_linear}
use Rattle.fields.specs.declared.ask.Ask.{Ask}
use Rattle.fields.specs.declared.ask.StageMethod.{StageMethod}
use Rattle.fields.specs.declared.ask.StageMethod.TheVariants.{Regret, Linear}
use Rattle.fields.specs.declared.ask.StageMethod.TheVariants as methods
use Rattle.lazy_workers.specs.Solvers.{solver_kind}
use Rattle.lazy_workers.specs.Workers.{Rows, KnowsEach, IsMetKey, IsFinishedKey, AreKeysOf, AreOwedTo, IsDueTo, HaveFound}
use Rattle.lazy_workers.specs.declared.budgets.Begun.{Begun}
use Rattle.lazy_workers.specs.Keeping.{HasLimit, AreBudgets, oracle_turns, owed_turns}
use Rattle.lazy_workers.specs.Searched.{IsFar, HasRoom, HasVisits, IsPureClose, TooFewAfter, IsSearched}

-- bounds within a gap are no further apart
too_near : (low high gap : ℤ) → high ≤ℤ (low +ℤ gap) → gap <ℤ (high -ℤ low) → ⊥
too_near low high gap near far = absurd (omega (arith, ints))

-- turns of which each key takes so many, and each rank
turns_from : (each spent start before turns keys none rank : ℕ) → spent + each * none ≤ start + each * (keys + rank) → start ≤ before → spent ≡ turns
    → turns ≤ before + each * (keys + rank)
turns_from each spent start before turns keys none rank taken begun all = omega arith

-- they are too few for as many states
turns_below : (each before turns keys n rank : ℕ) → 1 ≤ each → keys ≤ n → turns ≤ before + each * (keys + rank) → turns < before + each * (n + rank + 1)
turns_below each before turns keys n rank some few taken = let more : each * (keys + rank) ≤ each * (n + rank) = mul-le-mul_left each (omega arith) in omega arith

-- a restricted game takes a turn at least
some_turns : {S : Type 0} (m : GameModel S) → IsGame m → 1 ≤ growth_turns m
some_turns m game = omega (arith, game.width_low)

-- turns that are owed to no more states than these are too few for them
owed_below : {S : Type 0} (m : GameModel S) → IsGame m → (stages : StageMethod) (before turns met finished n : ℕ) → met ≤ n → finished ≤ n
    → turns ≤ before + owed_turns m stages met finished → turns < before + oracle_turns m stages * (n + m.rank m.root + 1)
owed_below m game methods.Regret before turns met finished n some few owed = turns_below (growth_turns m) before turns finished n (m.rank m.root) (some_turns m game) few owed
owed_below m game methods.Linear before turns met finished n some few owed = omega (arith, some, few, owed)

-- the turns of a search that ended so: those of a restricted game to a state with regret matching, a turn of each of three sweeps with linear stages
abbrev pub AreTaken : {S G N : Type 0} → GameModel S → Ask → SearchEnd → WorkView G N → WorkView G N → Type 0
AreTaken m ask end start last = ((ask.stages ≡ Regret) × HasTaken m m.root end start last)
    ⊎ ((ask.stages ≡ Linear) × (last.finished.was_full ≡ false → TakesSweeps m 2 1 last.board start.turns.spent last.turns.spent))

-- whether the solver of a method makes sweeps
abbrev IsOfKind : StageMethod → SolverKind → Type 0
IsOfKind stages kind = ((stages ≡ Regret) × (is_linear (solver_of kind) ≡ false)) ⊎ ((stages ≡ Linear) × (is_linear (solver_of kind) ≡ true))

of_kind : (stages : StageMethod) (kept : ℕ) → IsOfKind stages (solver_kind stages kept)
of_kind methods.Regret kept = inl (refl, refl)
of_kind methods.Linear kept = inr (refl, refl)

pub of_limits : (workers : ℕ) (stages : StageMethod) (limits : MemoryLimits) → (workers ≤ 4 → limits ≡ record { searches = 262144; stages = solver_kind stages 65536 })
    → (4 < workers → limits ≡ record { searches = 65536; stages = solver_kind stages 16384 }) → IsOfKind stages limits.stages
of_limits workers stages limits few many = ⊎_elim
    (λ (l : 4 < workers). subst (λ (x : MemoryLimits). IsOfKind stages x.stages) (sym (many l)) (of_kind stages 16384))
    (λ (g : workers ≤ 4). subst (λ (x : MemoryLimits). IsOfKind stages x.stages) (sym (few g)) (of_kind stages 65536))
    (cases_lt 4 workers)

module _ {S : Type 0} (m : GameModel S) (game : IsGame m) where
  -- distinct keys of reachable states are no more than there are states
  module _ (keys : List ℕ) (apart : AreApart keys) (each : All (IsInnerKey m) keys) where
    known : (i : ℕ) → (s : S) × (i < length keys → Reachable m s × (m.key s ≡ slice_index keys i))
    known i = ⊎_elim
        (λ (l : i < length keys). let f : IsInnerKey m (get_or keys i 0) = All-get_or (IsInnerKey m) keys i 0 l each in (f.state, λ _. (f.reachable, f.is_key)))
        (λ (g : length keys ≤ i). (m.root, λ l. absurd (omega arith)))
        (cases_lt i (length keys))

    keys_few : (most : ℕ) → HasAtMost m most → length keys ≤ most
    keys_few most has = has.few (length keys) (λ i. (known i).0) (λ i l. ((known i).1 l).0)
        (λ i j l h e. apart i j l h (sym ((known i).1 (omega arith)).1 ∙ ap m.key e ∙ ((known j).1 h).1))

  module _ {G N : Type 0} (ask : Ask) (before : Begun) (start last : WorkView G N) (end : SearchEnd)
      (rows : last.board.rows ≡ ask.rows) (total : last.board.total ≡ ask.weight) (weight : 1 ≤ ask.weight) (goes_on : 1 ≤ m.rank m.root)
      (none : start.finished ≡ record { keys = []; was_full = false }) (limit : HasLimit ask before.may_stop start.turns) (begun : start.turns.spent ≤ before.spent)
      (inside : start.turns.spent ≤ start.turns.limit)
      (worked : IsWorked m m.root start last) (ends : Ends m m.root ask.gap last end) (takes : AreTaken m ask end start last) where
    abbrev has_row : Rows
    has_row row key = last.board.key_at row ≡ Some key

    -- a full board has a key in each row, and had no row for each state
    full_board : last.finished.was_full ≡ true → KnowsEach ask.rows has_row × (HasRoom m ask → ⊥)
    full_board was = ⊎_elim
        (λ (before : start.finished.was_full ≡ true). let no = ap (λ (f : FinishedView). f.was_full) none in let wrong : false ≡ true = sym no ∙ before in absurd (cc))
        (λ (full : IsBoardFull m m.root last.board). (
          λ row l. let it = full.full.others row (omega (arith, rows)) in (it.0, it.1),
          λ has. let few = rows_too_few m last.board (m.key full.state) full.full ask.rows has in absurd (omega (arith, few, rows)),
        ))
        (worked.cause was)

    room : HasRoom m ask → last.finished.was_full ≡ false
    room has = by last.finished.was_full refl where
      by : (b : Bool) → last.finished.was_full ≡ b → last.finished.was_full ≡ false
      by true e = absurd ((full_board e).1 has)
      by false e = e

    -- where no turn was spent, what was posted over no entries is pure
    pub pure_alone : start.board.entries ≡ [] → last.turns.spent ≡ 0 → All (IsPureEntry m ask.weight) last.board.entries
    pure_alone none unspent =
        let more = worked.turns.rises in
        let spent : last.turns.spent ≡ start.turns.spent = omega arith in
        let grows = worked.pure_alone spent in
        let joins : last.board.entries ≡ grows.more = grows.joins ∙ ap (λ (l : List Entry). l ++ grows.more) none in
        let weight_is : start.board.total ≡ ask.weight = sym worked.board.later.total ∙ total in
        subst (All (IsPureEntry m ask.weight)) (sym joins) (subst (λ (w : ℕ). All (IsPureEntry m w) grows.more) weight_is grows.each)

    within : last.turns.spent ≤ last.turns.limit
    within = worked.turns.within inside

    -- bounds further apart than was asked and than the resolution, and no full board
    module _ (far : IsFar m ask (known_bound m last.board Two m.root -ℤ known_bound m last.board One m.root)) where
      spent_by : (e : SearchEnd) → (e ≡ Full → ⊥) → Ends m m.root ask.gap last e → AreTaken m ask e start last
          → (before.may_stop ≡ false → last.turns.spent ≡ ask.turns) × (last.turns.spent ≡ ask.turns → TooFewAfter before.spent m ask × IsDueTo m ask before last.board.seen has_row)
      spent_by Reached not ends takes =
          let asked = far.asked in let near : IsWithin m last.board m.root ask.gap = ends goes_on in absurd (too_near _ _ _ near asked)
      spent_by Settled not ends takes =
          let stage : (stage : ℕ) × IsStageGap m ask.weight stage = least_exists m.width (payoff_range m) ask.weight game.width_low weight in
          let near : IsWithin m last.board m.root (pos (rank_gap m stage.0 (m.rank m.root))) = ends.2 stage.0 (subst (λ (w : ℕ). IsStageGap m w stage.0) (sym total) stage.1) in
          let beyond = far.resolution (rank_gap m stage.0 (m.rank m.root)) (record { gap = stage.0; is_gap = stage.1; sums = refl }) in absurd (too_near _ _ _ near beyond)
      spent_by Spent not ends takes =
          let in_limit = within in
          let none_left = ends.2 in (
            λ no. let last_limit : last.turns.limit ≡ ask.turns = worked.turns.limit.whole (limit.may ∙ no) ∙ limit.whole no in omega arith,
            λ all. (too_few all takes, by all takes last.finished.was_full refl),
          ) where
            taken : last.turns.spent ≡ ask.turns → HasTaken m m.root Spent start last → last.finished.was_full ≡ false
                → ask.turns ≤ before.spent + growth_turns m * (length last.finished.keys + m.rank m.root)
            taken all takes quiet =
                let so : TakesTurns (growth_turns m) (m.rank m.root) start.worker last.worker =
                ⊎_elim (λ (a : TakesTurns (growth_turns m) (m.rank m.root) start.worker last.worker). a)
                (λ (b : (left_of last.turns ≡ 0) × TakesTurns (growth_turns m) (m.rank m.root) start.worker last.worker). b.1) (takes.unless_full quiet) in
                turns_from (growth_turns m) last.turns.spent start.turns.spent before.spent ask.turns (length last.finished.keys) (length start.finished.keys) (m.rank m.root) so begun all

            met : (is_close : Bool) (key : ℕ) → IsFinished m is_close last.board (1 + MOST_TURNS) key → IsMetKey m has_row key
            met is_close key f = record { named = record { state = f.state; reachable = f.reachable; goes_on = f.goes_on; is_key = f.is_key }; row = f.row; has_row = f.held }

            finished : (key : ℕ) → IsFinished m true last.board (1 + MOST_TURNS) key → IsFinishedKey m ask last.board.seen has_row key
            finished key f = record { met = met true key f; close = λ stage is. f.close refl stage (subst (λ (w : ℕ). IsStageGap m w stage) (sym total) is) }

            finished_keys : (keys : List ℕ) → AreFinished m true last.board keys → AreKeysOf (IsFinishedKey m ask last.board.seen has_row) keys
            finished_keys keys f = record {
              apart = f.apart;
              each = All-weaker (IsFinished m true last.board (1 + MOST_TURNS)) (IsFinishedKey m ask last.board.seen has_row) finished keys f.each;
            }

            met_keys : (is_close : Bool) (keys : List ℕ) → AreFinished m is_close last.board keys → AreKeysOf (IsMetKey m has_row) keys
            met_keys is_close keys f = record {
              apart = f.apart;
              each = All-weaker (IsFinished m is_close last.board (1 + MOST_TURNS)) (IsMetKey m has_row) (met is_close) keys f.each;
            }

            owed : last.turns.spent ≡ ask.turns → AreTaken m ask Spent start last → last.finished.was_full ≡ false → AreOwedTo m ask before last.board.seen has_row
            owed all takes quiet =
                let so : (stages : StageMethod) (met finished : ℕ) → ask.stages ≡ stages → ask.turns ≤ before.spent + owed_turns m stages met finished
                → ask.turns ≤ before.spent + owed_turns m ask.stages met finished = λ stages met finished is few.
                subst (λ (x : StageMethod). ask.turns ≤ before.spent + owed_turns m x met finished) (sym is) few in
                ⊎_elim
                (λ (a : (ask.stages ≡ Regret) × HasTaken m m.root Spent start last). record {
                  met = last.finished.keys;
                  are_met = met_keys true last.finished.keys worked.kept.finished;
                  finished = last.finished.keys;
                  are_finished = finished_keys last.finished.keys worked.kept.finished;
                  few = so Regret _ _ a.0 (taken all a.1 quiet);
                })
                (λ (b : (ask.stages ≡ Linear) × (last.finished.was_full ≡ false → TakesSweeps m 2 1 last.board start.turns.spent last.turns.spent)).
                let it : TakesSweeps m 2 1 last.board start.turns.spent last.turns.spent = b.1 quiet in
                let few = it.few in record {
                  met = it.keys;
                  are_met = met_keys false it.keys it.swept;
                  finished = it.finished;
                  are_finished = finished_keys it.finished it.closed;
                  few = so Linear (length it.keys) (length it.finished) b.0 (omega arith);
                })
                takes

            too_few : last.turns.spent ≡ ask.turns → AreTaken m ask Spent start last → TooFewAfter before.spent m ask
            too_few all takes n has few =
                let wide : HasRoom m ask = record { few = λ count states reach apart. let less = has.few count states reach apart in omega arith } in
                let it = owed all takes (room wide) in
                let met_few = keys_few it.met it.are_met.apart (All-weaker (IsMetKey m has_row) (IsInnerKey m) (λ key f. f.named) it.met it.are_met.each) n has in
                let finished_few = keys_few it.finished it.are_finished.apart
                (All-weaker (IsFinishedKey m ask last.board.seen has_row) (IsInnerKey m) (λ key f. f.met.named) it.finished it.are_finished.each) n has in
                owed_below m game ask.stages before.spent ask.turns (length it.met) (length it.finished) n met_few finished_few it.few

            by : last.turns.spent ≡ ask.turns → AreTaken m ask Spent start last → (b : Bool) → last.finished.was_full ≡ b → KnowsEach ask.rows has_row ⊎ AreOwedTo m ask before last.board.seen has_row
            by all takes true e = inl (full_board e).0
            by all takes false e = inr (owed all takes e)
      spent_by Full not ends takes = absurd (not refl)

      all_spent : (end ≡ Full → ⊥)
          → (before.may_stop ≡ false → last.turns.spent ≡ ask.turns) × (last.turns.spent ≡ ask.turns → TooFewAfter before.spent m ask × IsDueTo m ask before last.board.seen has_row)
      all_spent not = spent_by end not ends takes

    -- visits for the whole tree that nothing stops, and a row for each state
    module _ (visits : start.visits ≡ record { limit = ask.visits; one = 0; two = 0 })
        (pure : Whole m m.root start.turns start.visits → last.finished.was_full ≡ false → IsPureTight m m.root last.board)
        (row : (end ≡ Full → ⊥) → (row : ℕ) × (last.board.key_at row ≡ Some (m.key m.root)))
        (at_once : Whole m m.root start.turns start.visits → last.finished.was_full ≡ false → IsPureClose m ask → (end ≡ Reached) × (last.turns ≡ start.turns)) where
      whole : HasVisits m ask before.may_stop → Whole m m.root start.turns start.visits
      whole has = (limit.may ∙ has.0, λ side. subst (λ (v : VisitsView). tree_size m m.root ≤ left_on side v) (sym visits) (each side)) where
        each : (of : Side) → tree_size m m.root ≤ left_on of (record { limit = ask.visits; one = 0; two = 0 })
        each One = omega (arith, has.1)
        each Two = omega (arith, has.1)

      one : (P : Budget → Type 0) → P last.turns → All P (last.turns ∷ [])
      one P here = All-cons P last.turns [] here (All-nil P)

      pub found : HaveFound m ask before last.board.seen (λ row key. last.board.key_at row ≡ Some key) (end ≡ Full) (last.turns ∷ [])
      found = record {
        within = one (HasLimit ask before.may_stop) (record {
          may = worked.turns.limit.may_stop ∙ limit.may;
          no_more = let now = worked.turns.limit.no_more in let first = limit.no_more in omega arith;
          whole = λ no. worked.turns.limit.whole (limit.may ∙ no) ∙ limit.whole no;
          spent = within;
        });
        full = λ e. full_board (subst (Ends m m.root ask.gap last) e ends).0;
        rowed = λ not _. row not;
        all_spent = λ not far no. one (λ t. t.spent ≡ ask.turns) ((all_spent far not).0 no);
        due = λ not far all _. (all_spent far not).1 (All-head (λ t. t.spent ≡ ask.turns) last.turns [] all);
        pure = λ has many _ side. pure (whole many) (room has) side;
        at_once = λ has many near. one (λ t. t.spent ≤ before.spent) (subst (λ (t : Budget). t.spent ≤ before.spent) (sym (at_once (whole many) (room has) near).1) begun);
      }

-- an end as root needs no search
pub nothing_searched : {S : Type 0} (m : GameModel S) → IsGame m → (ask : Ask) (before : Begun) → IsEnd m m.root → pos 0 ≤ℤ ask.gap → (turns : List Budget)
    → AreBudgets ask before turns → IsSearched m ask before [] [] turns false
nothing_searched m game ask before end low turns budgets = record {
  closed = All-nil _;
  held = record { key_at = λ _. None; held = All-nil _ };
  rows = record { none = λ _. refl; few = omega arith; distinct = tt; each = All-nil _ };
  entered = All-nil _;
  best = All-nil _;
  workers = budgets.count;
  alone = λ _. All-nil _;
  found = record {
    within = budgets.each;
    full = λ e. absurd (cc);
    rowed = λ _ some goes_on. absurd (omega arith);
    all_spent = λ _ far _. absurd (near far);
    due = λ _ far _ some. absurd (near far);
    pure = λ has many some side. rw (serial_end m game side m.root end, bound side) (looser_refl side (end_bound m m.root));
    at_once = λ has many close. budgets.begun;
  };
} where
  bound : (side : Side) → book_bound m [] side m.root ≡ end_bound m m.root
  bound side = rw (is_same (m.rank m.root) 0 end) refl

  near : IsFar m ask (book_bound m [] Two m.root -ℤ book_bound m [] One m.root) → ⊥
  near far = let asked = far.asked in let one = bound One in let two = bound Two in omega (arith, ints)
