-- What workers have found together, pass by pass.
use Rattle.std.proofs.Common.{◌≡◌, ◌⊎◌, ⊎_elim, inl, inr, ℕ, ◌+◌, ◌≤◌, ℤ, ◌+ℤ◌, ◌-ℤ◌, ◌≤ℤ◌, Bool, true, false, ◌||◌, max, Result, Ok, IfOk, Some, List, [], ◌∷◌, ◌++◌, length, All, refl, sym, ap, subst, ◌∙◌, arith}
use Rattle.std.proofs.lemmas.Int.{ints}
use Rattle.std.proofs.lemmas.List.{length-append, append-nil, append_assoc}
use Rattle.std.proofs.lemmas.List.Elements.{All-append, All-cons, All-nil, All-pop, All-tail, All-weaker}
use Rattle.std.proofs.lemmas.Result.{IfOk-weaker}
use Rattle.sim_game.specs.declared.Side.{Side}
use Rattle.sim_game.specs.declared.Side.TheVariants.{One, Two}
use Rattle.sim_game.specs.Model.{GameModel}
use Rattle.sim_game.specs.Sides.{IsNoTighter, state_bound}
use Rattle.sim_game.proofs.SideLemmas.{looser_trans}
use Rattle.plan_book.specs.Entries.{IsPureEntry}
use Rattle.plan_book.specs.Serial.{serial_bound}
use Rattle.sim_game.specs.declared.NoMemory.{NoMemory}
use Rattle.bounds_board.proofs.KnownLemmas.{better_more}
use Rattle.shared_board.specs.Plays.{issuing, issued_view, joined}
use Rattle.shared_board.specs.Passes.{seen_by, KnowsNoLess}
use Rattle.shared_board.specs.Values.{BoardValue, PassValue, DeskValue, DeskName, IsPassOf, desk_view}
use Rattle.shared_board.specs.Bare.{pass_of, IsSoundPass}
use Rattle.shared_board.specs.declared.view.View.{View}
use Rattle.shared_board.specs.declared.pass.BarePass.{BarePass}
use Rattle.oracle_search.specs.declared.ends.SearchEnd.{SearchEnd}
use Rattle.oracle_search.specs.declared.ends.SearchEnd.TheVariants.{Full}
use Rattle.fields.specs.declared.ask.Ask.{Ask}
use Rattle.lazy_workers.specs.declared.jobs.Done.{Done}
use Rattle.lazy_workers.specs.declared.jobs.Job.{Job}
use Rattle.matrix_game.specs.Budget.{Budget}
use Rattle.lazy_workers.specs.declared.budgets.Begun.{Begun}
use Rattle.lazy_workers.specs.Keeping.{HasLimit}
use Rattle.lazy_workers.specs.Searched.{IsFar, HasFound}
use Rattle.lazy_workers.specs.Workers.{IsLead, IsWorkerPass, Rows, rows_of, KnowsEach, known_of, IsMetKey, IsFinishedKey, AreOwedTo, IsDueTo, HaveFound, HasView, IsJobDone, IsNoLooser, IsJob}

-- ---- passes
module _ {G : Type 0} where
  pub lead_drawn : (p q : PassValue G) (n : ℕ) → q ≡ record p { view = issuing p.view } → IsLead p.view (1 + n) 1 → IsLead q.view (1 + (n + 1)) 1
  lead_drawn p q n e l = subst (λ (z : PassValue G). IsLead z.view (1 + (n + 1)) 1) (sym e) (record { leads = l.leads; draws = (let d = l.draws in omega arith); holds = l.holds })

  pub ours_drawn : (b : BoardValue G) (p q : PassValue G) → q ≡ record p { view = issuing p.view } → IsPassOf b p → IsPassOf b q
  ours_drawn b p q e o = subst (IsPassOf b) (sym e) (record { name = o.name; game = o.game; total = o.total })

module _ {S G : Type 0} (model : G → GameModel S) where
  pub job_drawn : (b : BoardValue G) (ask : Ask) (before : Begun) (job : Job G) (p : PassValue G) → pass_of job.pass ≡ p → p.entries ≡ []
      → HasLimit ask before.may_stop job.turns → job.turns.spent ≤ before.spent → IsWorkerPass model b job.pass → IsJob model b ask before job
  job_drawn b ask before job p is none limit begun w = record { pass = w; none = ap (λ (z : PassValue G). z.entries) is ∙ none; limit = limit; begun = begun }

  pub pass_drawn : (b : BoardValue G) (bare : BarePass G) (p : PassValue G) (v : View G) → pass_of bare ≡ p → IsSoundPass model bare → IsPassOf b p → p.view ≡ issued_view v → IsWorkerPass model b bare
  pass_drawn b bare p v is sound ours view = let same : bare.seat.me.0 ≡ issued_view v = ap (λ (z : PassValue G). z.view) is ∙ view in record {
    sound = sound;
    ours = subst (IsPassOf b) (sym is) ours;
    leads = ap (λ (z : View G). z.lead) same;
    draws = ap (λ (z : View G). z.issued) same;
    holds = ap (λ (z : View G). length z.tickets) same;
  }

-- a flag is true or false
not_true : (b : Bool) → (b ≡ true → ⊥) → b ≡ false
not_true true not = absurd (not refl)
not_true false not = refl

met_not : (was now : Bool) (end : SearchEnd) → (now ≡ false → (was ≡ false) × (end ≡ Full → ⊥)) → (now ≡ true → ⊥) → (was ≡ true → ⊥) × (end ≡ Full → ⊥)
met_not was now end else not = let it = else (not_true now not) in (λ is. let wrong : false ≡ true = sym it.0 ∙ is in absurd (cc), it.1)

-- what holds of each of a list holds of each behind some of it
All-behind : {X : Type 0} (P : X → Type 0) (xs ys : List X) → All P (xs ++ ys) → All P ys
All-behind P [] ys each = each
All-behind P (x ∷ xs) ys each = All-behind P xs ys (All-tail P x (xs ++ ys) each)

-- ---- what was found
pub knows_later : (rows : ℕ) (known more : Rows) → ((row key : ℕ) → known row key → more row key) → KnowsEach rows known → KnowsEach rows more
knows_later rows known more later knows i l = let it = knows i l in (it.0, later i it.0 it.1)

module _ {S : Type 0} (m : GameModel S) (ask : Ask) (before : Begun) where
  far_more : (a b : ℤ) → a ≤ℤ b → IsFar m ask a → IsFar m ask b
  far_more a b less far = record { asked = let asked = far.asked in omega (arith, ints); resolution = λ n is. let over = far.resolution n is in omega (arith, ints) }

  -- bounds that are no looser leave no greater gap
  gap_less : (bound next : Side → ℤ) → ((side : Side) → IsNoTighter side (bound side) (next side)) → (next Two -ℤ next One) ≤ℤ (bound Two -ℤ bound One)
  gap_less bound next tighter =
      let low : bound One ≤ℤ next One = tighter One in
      let high : next Two ≤ℤ bound Two = tighter Two in
      omega (arith, ints)

  -- what was found holds of bounds that are no looser
  pub found_later : (bound next : Side → ℤ) (F F' D D' R R' Met : Type 0) (turns : List Budget) → ((side : Side) → IsNoTighter side (bound side) (next side))
      → (F → F') → (D → D') → (R → R') → HasFound m ask before bound F D R Met turns
      → HasFound m ask before next F' D' R' Met turns
  found_later bound next F F' D D' R R' Met turns tighter full due row f =
      let was_far : IsFar m ask (next Two -ℤ next One) → IsFar m ask (bound Two -ℤ bound One) = far_more (next Two -ℤ next One) (bound Two -ℤ bound One) (gap_less bound next tighter) in record {
        within = f.within;
        full = λ met. (full (f.full met).0, (f.full met).1);
        rowed = λ not some. row (f.rowed not some);
        all_spent = λ not far. f.all_spent not (was_far far);
        due = λ not far all some. let it = f.due not (was_far far) all some in (it.0, due it.1);
        pure = λ has many some side. looser_trans side (serial_bound m side m.root) (bound side) (next side) (f.pure has many some side) (tighter side);
        at_once = f.at_once;
      }

  pub found_none : (bound : Side → ℤ) (F D R Met : Type 0) → (Met → ⊥) → HasFound m ask before bound F D R Met []
  found_none bound F D R Met not = record {
    within = All-nil (HasLimit ask before.may_stop);
    full = λ met. absurd (not met);
    rowed = λ _ some. absurd (omega arith);
    all_spent = λ _ far _. All-nil (λ t. t.spent ≡ ask.turns);
    due = λ _ far _ some. absurd (omega arith);
    pure = λ has many some side. absurd (omega arith);
    at_once = λ has many near. All-nil (λ t. t.spent ≤ before.spent);
  }

  -- what some have found, and what others have
  pub found_more : (bound : Side → ℤ) (F D R Was End Now : Type 0) (turns more : List Budget) → (Now → Was ⊎ End) → ((Now → ⊥) → (Was → ⊥) × (End → ⊥))
      → 1 ≤ length more → HasFound m ask before bound F D R Was turns
      → HasFound m ask before bound F D R End more → HasFound m ask before bound F D R Now (turns ++ more)
  found_more bound F D R Was End Now turns more then else some j f = record {
    within = All-append (HasLimit ask before.may_stop) turns more j.within f.within;
    rowed = λ not _. f.rowed (else not).1 some;
    full = λ now. ⊎_elim (λ (a : Was). j.full a) (λ (b : End). f.full b) (then now);
    all_spent = λ not far no. All-append (λ t. t.spent ≡ ask.turns) turns more (j.all_spent (else not).0 far no) (f.all_spent (else not).1 far no);
    due = λ not far all _. f.due (else not).1 far (All-behind (λ t. t.spent ≡ ask.turns) turns more all) some;
    pure = λ has many _ side. f.pure has many some side;
    at_once = λ has many near. All-append (λ t. t.spent ≤ before.spent) turns more (j.at_once has many near) (f.at_once has many near);
  }

  -- bounds that are seen as no looser, and rows of which no less is known
  module _ (seen next : Side → ℕ → ℤ) (known more : Rows) (tighter : (side : Side) (key : ℕ) → IsNoTighter side (seen side key) (next side key))
      (later : (row key : ℕ) → known row key → more row key) where
    met_later : (key : ℕ) → IsMetKey m known key → IsMetKey m more key
    met_later key f = record { named = f.named; row = f.row; has_row = later f.row key f.has_row }

    finished_later : (key : ℕ) → IsFinishedKey m ask seen known key → IsFinishedKey m ask next more key
    unfolding met_later
    finished_later key f = record {
      met = met_later key f.met;
      close = λ stage is.
          let s = f.met.named.state in
          closer _ _ _ _ _ (better_more One _ _ (state_bound m One s) (tighter One (m.key s))) (better_more Two _ _ (state_bound m Two s) (tighter Two (m.key s)))
          (f.close stage is);
    } where
      closer : (a b c d gap : ℤ) → a ≤ℤ b → d ≤ℤ c → c ≤ℤ (a +ℤ gap) → d ≤ℤ (b +ℤ gap)
      closer a b c d gap low high near = omega (arith, ints)

    due_later : IsDueTo m ask before seen known → IsDueTo m ask before next more
    due_later due = ⊎_elim
        (λ (each : KnowsEach ask.rows known). inl (knows_later ask.rows known more later each))
        (λ (owed : AreOwedTo m ask before seen known). inr
        (record {
          met = owed.met;
          are_met = record { apart = owed.are_met.apart; each = All-weaker (IsMetKey m known) (IsMetKey m more) met_later owed.met owed.are_met.each };
          finished = owed.finished;
          are_finished = record {
            apart = owed.are_finished.apart;
            each = All-weaker (IsFinishedKey m ask seen known) (IsFinishedKey m ask next more) finished_later owed.finished owed.are_finished.each;
          };
          few = owed.few;
        }))
        due

    pub seen_later : (Met : Type 0) (turns : List Budget) → HaveFound m ask before seen known Met turns → HaveFound m ask before next more Met turns
    seen_later Met turns f =
        found_later (known_of m seen m.root) (known_of m next m.root) (KnowsEach ask.rows known) (KnowsEach ask.rows more)
        (IsDueTo m ask before seen known) (IsDueTo m ask before next more) ((row : ℕ) × known row (m.key m.root)) ((row : ℕ) × more row (m.key m.root)) Met turns
        (λ side. better_more side _ _ (state_bound m side m.root) (tighter side (m.key m.root)))
        (knows_later ask.rows known more later) due_later (λ it. (it.0, later it.0 (m.key m.root) it.1)) f

-- ---- nothing is forgotten
module _ {S G : Type 0} (model : G → GameModel S) (g : G) where
  abbrev root_seen : View G → Side → ℤ
  root_seen v side = seen_by (model g) v side ((model g).key (model g).root)

  -- bounds at the root that are no looser than those of a pass are so than those of the workers in it
  pub none_forgotten : (v : View G) (bound : Side → ℤ) → ((side : Side) → IsNoTighter side (root_seen v side) (bound side)) → (found : List (Result (Done G) NoMemory))
      → All (λ r. IfOk r (IsNoLooser model g (root_seen v))) found → All (λ r. IfOk r (IsNoLooser model g bound)) found
  none_forgotten v bound tighter = All-weaker (λ r. IfOk r (IsNoLooser model g (root_seen v))) (λ r. IfOk r (IsNoLooser model g bound))
      (λ r. IfOk-weaker r (IsNoLooser model g (root_seen v)) (IsNoLooser model g bound)
      (λ d before side. looser_trans side (seen_by (model g) d.pass.seat.me.0 side ((model g).key (model g).root)) (root_seen v side) (bound side) (before side) (tighter side)))

-- the passes of a lead that takes in one worker after another, of all those that were found
pub record IsJoining {S G : Type 0} (model : G → GameModel S) (g : G) (b : BoardValue G) (ask : Ask) (before : Begun) (first lead : PassValue G)
    (all found : List (Result (Done G) NoMemory)) (turns : List Budget) (was_full : Bool) : Type 0 where
  pub ours : IsPassOf b lead
  pub leads : lead.view.lead ≡ true
  pub draws : lead.view.issued ≡ first.view.issued
  pub holds : length lead.view.tickets + length found ≡ length first.view.tickets + length all
  pub counts : length turns + length found ≡ length all
  pub each : All (λ r. IfOk r (IsJobDone model g b ask before)) found
  pub joined : HasView (model g) ask before lead.view (was_full ≡ true) turns
  -- where no turn was spent, only pure plans were posted
  pub alone : All (λ t. t.spent ≡ 0) turns → All (IsPureEntry (model g) ask.weight) lead.entries
  -- those that were taken in, whose bounds at the root are not forgotten
  pub taken : List (Result (Done G) NoMemory)
  pub splits : all ≡ found ++ taken
  pub tight : All (λ r. IfOk r (IsNoLooser model g (λ side. seen_by (model g) lead.view side ((model g).key (model g).root)))) taken

module _ {S G : Type 0} (model : G → GameModel S) (g : G) (b : BoardValue G) (ask : Ask) (before : Begun) where
  -- at the root a pass has seen bounds no looser than a worker has
  abbrev IsTight : View G → Result (Done G) NoMemory → Type 0
  IsTight v r = IfOk r (IsNoLooser model g (λ side. seen_by (model g) v side ((model g).key (model g).root)))

  pub joining_none : (first : PassValue G) (found : List (Result (Done G) NoMemory)) → IsPassOf b first → first.view.lead ≡ true → first.entries ≡ []
      → All (λ r. IfOk r (IsJobDone model g b ask before)) found → IsJoining model g b ask before first first found found [] false
  joining_none first found ours leads none each = record {
    ours = ours;
    leads = leads;
    draws = refl;
    holds = refl;
    counts = omega arith;
    each = each;
    joined = found_none (model g) ask before (known_of (model g) (seen_by (model g) first.view) (model g).root) (KnowsEach ask.rows (rows_of first.view))
        (IsDueTo (model g) ask before (seen_by (model g) first.view) (rows_of first.view)) ((row : ℕ) × rows_of first.view row ((model g).key (model g).root)) (false ≡ true) (λ e. absurd (cc));
    alone = λ _. subst (All (IsPureEntry (model g) ask.weight)) (sym none) (All-nil (IsPureEntry (model g) ask.weight));
    taken = [];
    splits = sym (append-nil found);
    tight = All-nil (IsTight first.view);
  }

  -- all were taken in
  pub joining_end : (first lead : PassValue G) (all : List (Result (Done G) NoMemory)) (turns : List Budget) (was : Bool)
      → IsJoining model g b ask before first lead all [] turns was → All (IsTight lead.view) all
  joining_end first lead all turns was j = subst (All (IsTight lead.view)) (sym j.splits) j.tight

  -- the one that is taken in next, and those that are left
  pub joining_next : (first lead : PassValue G) (all found rest : List (Result (Done G) NoMemory)) (d : Done G) (turns : List Budget) (was : Bool)
      → found ≡ rest ++ Ok d ∷ [] → IsJoining model g b ask before first lead all found turns was
      → All (λ r. IfOk r (IsJobDone model g b ask before)) rest × IsJobDone model g b ask before d
  joining_next first lead all found rest d turns was is j = All-pop (λ r. IfOk r (IsJobDone model g b ask before)) found rest (Some (Ok d)) is j.each

  pub joining_more : (first lead next : PassValue G) (all found rest : List (Result (Done G) NoMemory)) (d : Done G) (own : PassValue G) (turns more : List Budget) (was now : Bool)
      → b.game ≡ g → found ≡ rest ++ Ok d ∷ [] → more ≡ turns ++ d.turns ∷ []
      → own ≡ pass_of d.pass → next.name ≡ lead.name → next.total ≡ lead.total → next.view ≡ joined lead.view own.view
      → next.entries ≡ lead.entries ++ own.entries → KnowsNoLess (model b.game) lead.view next.view → KnowsNoLess (model b.game) own.view next.view
      → (now ≡ true → (was ≡ true) ⊎ (d.end ≡ Full)) → (now ≡ false → (was ≡ false) × (d.end ≡ Full → ⊥))
      → IsJoining model g b ask before first lead all found turns was → IsJoining model g b ask before first next all rest more now
  joining_more first lead next all found rest d own turns more was now game is more_is same name total seen posted mine theirs then else j =
      let m = model g in
      let parts = joining_next first lead all found rest d turns was is j in
      let from_lead = subst (λ (x : G). KnowsNoLess (model x) lead.view next.view) game mine in
      let from_worker = subst (λ (p : PassValue G). KnowsNoLess m p.view next.view) same (subst (λ (x : G). KnowsNoLess (model x) own.view next.view) game theirs) in
      let view : next.view ≡ joined lead.view d.pass.seat.me.0 = seen ∙ ap (λ (p : PassValue G). joined lead.view p.view) same in
      let numbers : length next.view.tickets ≡ length lead.view.tickets + length d.pass.seat.me.0.tickets =
      ap (λ (v : View G). length v.tickets) view ∙ length-append lead.view.tickets d.pass.seat.me.0.tickets in
      let left : length found ≡ length rest + 1 = ap length is ∙ length-append rest (Ok d ∷ []) in
      let turns_all : length more ≡ length turns + 1 = ap length more_is ∙ length-append turns (d.turns ∷ []) in
      let drawn : next.view.issued ≡ max lead.view.issued d.pass.seat.me.0.issued = ap (λ (v : View G). v.issued) view in
      let key = m.key m.root in
      record {
        ours = record { name = name ∙ j.ours.name; game = ap (λ (v : View G). v.game) view ∙ j.ours.game; total = total ∙ j.ours.total };
        leads = ap (λ (v : View G). v.lead) view ∙ ap (λ (a : Bool). a || d.pass.seat.me.0.lead) j.leads;
        draws = omega (arith, drawn, parts.1.pass.draws, j.draws);
        holds = omega (arith, parts.1.pass.holds, j.holds);
        counts = omega (arith, j.counts);
        each = parts.0;
        joined = subst (λ (l : List Budget). HasView m ask before next.view (now ≡ true) l) (sym more_is)
            (found_more m ask before (known_of m (seen_by m next.view) m.root) (KnowsEach ask.rows (rows_of next.view))
            (IsDueTo m ask before (seen_by m next.view) (rows_of next.view)) ((row : ℕ) × rows_of next.view row key) (was ≡ true) (d.end ≡ Full)
            (now ≡ true) turns (d.turns ∷ []) then (met_not was now d.end else) (omega arith)
            (seen_later m ask before (seen_by m lead.view) (seen_by m next.view) (rows_of lead.view) (rows_of next.view) from_lead.seen from_lead.keys (was ≡ true) turns j.joined)
            (seen_later m ask before (seen_by m d.pass.seat.me.0) (seen_by m next.view) (rows_of d.pass.seat.me.0)
            (rows_of next.view) from_worker.seen from_worker.keys (d.end ≡ Full) (d.turns ∷ []) parts.1.found));
        alone = λ none.
            let split = All-pop (λ t. t.spent ≡ 0) more turns (Some d.turns) more_is none in
            let entries : next.entries ≡ lead.entries ++ (pass_of d.pass).entries = posted ∙ ap (λ (p : PassValue G). lead.entries ++ p.entries) same in
            subst (All (IsPureEntry m ask.weight)) (sym entries) (All-append (IsPureEntry m ask.weight) lead.entries (pass_of d.pass).entries (j.alone split.0) (parts.1.alone split.1));
        taken = Ok d ∷ j.taken;
        splits = j.splits ∙ ap (λ (l : List (Result (Done G) NoMemory)). l ++ j.taken) is ∙ append_assoc rest (Ok d ∷ []) j.taken;
        tight = All-cons (IsTight next.view) (Ok d) j.taken (λ side. from_worker.seen side key)
            (none_forgotten model g lead.view (λ side. seen_by m next.view side key) (λ side. from_lead.seen side key) j.taken j.tight);
      }

  -- a pass after the search of its desk
  pub pass_later : (old new : BarePass G) (first last : DeskValue G) → first.pass ≡ pass_of old → pass_of new ≡ last.pass
      → (desk_view model last).name ≡ (desk_view model first).name → IsSoundPass model new → IsPassOf b (pass_of new) → IsWorkerPass model b old → IsWorkerPass model b new
  pass_later old new first last from to name sound ours w = record {
    sound = sound;
    ours = ours;
    leads = ap (λ (p : PassValue G). p.view.lead) to ∙ ap (λ (n : DeskName). n.lead) name ∙ ap (λ (p : PassValue G). p.view.lead) from ∙ w.leads;
    draws = ap (λ (p : PassValue G). p.view.issued) to ∙ ap (λ (n : DeskName). n.issued) name ∙ ap (λ (p : PassValue G). p.view.issued) from ∙ w.draws;
    holds = ap (λ (p : PassValue G). length p.view.tickets) to ∙ ap (λ (n : DeskName). length n.tickets) name ∙ ap (λ (p : PassValue G). length p.view.tickets) from ∙ w.holds;
  }
