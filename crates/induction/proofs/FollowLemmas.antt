-- States that a walk from the root down comes to.
use Rattle.std.proofs.Common.{◌≡◌, ◌||◌, ℕ, ◌<◌, ◌≤◌, Bool, true, false, cond, eqb, Option, None, Some, List, [], ◌∷◌, ◌++◌, map, length, take, get_or, inl, inr, ◌+◌, refl, sym, ap, subst, ◌∙◌, arith}
use Rattle.std.proofs.lemmas.Cmp.{nat_eq_equiv}
use Rattle.std.proofs.lemmas.Bool.{cases_lt}
use Rattle.std.proofs.lemmas.List.{map-append, get_or_default, get_or-map, get_or-take, length-map, length_push, take-append-le, take_more}
use Rattle.std.proofs.lemmas.List.Folds.{list_any-append}
use Rattle.std.proofs.Math.Seq.{take-length}
use Rattle.std.proofs.lemmas.List.Elements.{All-weaker, All-push, All-nil, All-map}
use Rattle.std.proofs.lemmas.Map.Keys.{IsDistinct-push, apart_from_distinct}
use Rattle.std.specs.List.{All, IsDistinct, list_any}
use Rattle.std.specs.Option.{IsSome, is_some}
use Rattle.std.specs.Prelude.{IsSomeAnd}
use Rattle.sim_game.specs.declared.Side.{Side}
use Rattle.sim_game.specs.Model.{GameModel, IsGame, Reachable, Turn, IsTurn, after_turn, after_history}
use Rattle.sim_game.proofs.ReachLemmas.{reachable_root, reachable_turn}
use Rattle.sim_game.specs.Numbers.{Numbering, IsNumbering}
use Rattle.sim_game.specs.Sides.{own_move}
use Rattle.plan_book.specs.declared.SheetRow.{SheetRow}
use Rattle.plan_book.specs.Children.{children_of}
use Rattle.plan_book.specs.Plans.{AreWeights}
use Rattle.plan_book.specs.Sheets.{row_at, IsKeptHistory, IsReached}
use Rattle.plan_book.proofs.BestLemmas.{reached_root}
use Rattle.plan_book.proofs.ExpectedLemmas.{is_same}
use Rattle.plan_book.proofs.FoundLemmas.{row_listed}
use Rattle.plan_book.proofs.LookupLemmas.{row_keys}
use Rattle.plan_book.proofs.SheetLemmas.{found, reached_reachable}
use Rattle.plan_book.proofs.TakenLemmas.{row_pushed}
use Rattle.plan_book.proofs.GatherLemmas.{child_place}
use Rattle.plan_book.proofs.WalkLemmas.{item_below, turn_parts, reply_move}
use Rattle.induction.specs.declared.PlannedState.{PlannedState}
use Rattle.induction.specs.Listed.{GoesOn}
use Rattle.induction.specs.Planned.{open_row, planned, weights_of_row, IsPlannedState, HasNext, HasEachRow, IsWholePlan}
use Rattle.induction.specs.Planned.{AreFollowed, AreMet, HasCome, HasMetNext, IsKept, IsMetState, met_before, met_now}
use Rattle.induction.proofs.RowLemmas.{no_row, same_tests, state_keys, keys_open, reached_by}
use Rattle.induction.proofs.UndecidedLemmas.{none_known, known_more}
use Rattle.induction.specs.Undecided.{IsUndecided, HasUndecided, KnowsUndecided}

-- ---- more rows
-- the list grew at its end
pub record Extends {X : Type 0} (old new : List X) : Type 0 where
  pub more : List X
  pub joins : new ≡ old ++ more

row_still : (rows more : List SheetRow) (key : ℕ) (r : SheetRow) → row_at rows key ≡ Some r → row_at (rows ++ more) key ≡ Some r
row_still [] more key r h = absurd (cc)
row_still (x ∷ rows) more key r h = step (eqb x.key key) x (row_at rows key) (row_at (rows ++ more) key) h (row_still rows more key r)
  where
    step : (here : Bool) (x : SheetRow) (old new : Option SheetRow) → cond here (Some x) old ≡ Some r → (old ≡ Some r → new ≡ Some r) → cond here (Some x) new ≡ Some r
    step true x old new h up = h
    step false x old new h up = up h

pub planned_still : {S : Type 0} (old new : List (PlannedState S)) → Extends old new → (key : ℕ) (r : SheetRow) → planned old key ≡ Some r → planned new key ≡ Some r
planned_still old new grown key r h =
    ap (λ (xs : List SheetRow). row_at xs key) (ap (map open_row) grown.joins ∙ map-append open_row old grown.more) ∙ row_still (map open_row old) (map open_row grown.more) key r h

played_still : (k : ℕ) (o p : Option SheetRow) → ((r : SheetRow) → o ≡ Some r → p ≡ Some r) → IsSomeAnd o (λ r. 1 ≤ get_or r.weights k 0) → IsSomeAnd p (λ r. 1 ≤ get_or r.weights k 0)
played_still k None p up h = absurd h
played_still k (Some r) p up h = subst (λ (o : Option SheetRow). IsSomeAnd o (λ x. 1 ≤ get_or x.weights k 0)) (sym (up r refl)) h

module _ {S : Type 0} (m : GameModel S) (side : Side) (rows others : ℕ → Option SheetRow) (up : (key : ℕ) (r : SheetRow) → rows key ≡ Some r → others key ≡ Some r) where
  kept_still : (s : S) (h : List Turn) → IsKeptHistory m side rows s h → IsKeptHistory m side others s h
  kept_still s [] kept = tt
  kept_still s (t ∷ h) kept = (
    record { turn = kept.0.turn; played = played_still (own_move side t) _ _ (up (m.key s)) kept.0.played },
    kept_still (after_turn m s t) h kept.1,
  )

  reached_up : (s : S) → IsReached m side rows s → IsReached m side others s
  reached_up s r = record { history = r.history; kept = kept_still m.root r.history r.kept; leads = r.leads }

pub reached_still : {S : Type 0} (m : GameModel S) (side : Side) (old new : List (PlannedState S)) (s : S) → Extends old new → IsReached m side (planned old) s → IsReached m side (planned new) s
reached_still m side old new s grown r = reached_up m side (planned old) (planned new) (planned_still old new grown) s r

-- ---- the walk
pub none_met : {S : Type 0} (m : GameModel S) (number : S → ℕ) (side : Side) (total : ℕ) (seen : ℕ → Bool) → ((place : ℕ) → seen place ≡ false) → AreFollowed m number side total seen [] []
unfolding IsDistinct
none_met m number side total seen none = record {
  are_met = record {
    plan = record { distinct = tt; each = All-nil _ };
    undecided = All-nil _;
    first = refl;
    few = omega arith;
    each = All-nil _;
    distinct = tt;
    places = λ s reach. none (number s);
    known = none_known m number seen 0 refl;
  };
  next = All-nil _;
}

-- ---- one state more is met
any_step : (here x : Bool) → cond here true x ≡ (x || (here || false))
any_step true true = refl
any_step true false = refl
any_step false true = refl
any_step false false = refl

module _ {S : Type 0} (m : GameModel S) (game : IsGame m) (n : Numbering S) (numbered : IsNumbering m n) (side : Side) (total : ℕ) (seen now : ℕ → Bool)
    (met : List S) (states : List (PlannedState S)) (s : S)
    (old : AreMet m n.place side total seen met states) (reached : IsReached m side (planned states) s) (mine : IsUndecided m s) (new : seen (n.place s) ≡ false)
    (put : (q : ℕ) → now q ≡ cond (eqb (n.place s) q) true (seen q)) where
  reachable : Reachable m s
  reachable = reached_reachable m side (planned states) s reached

  met_more : AreMet m n.place side total now (met ++ s ∷ []) states
  met_more =
      let keys : List ℕ = map m.key met in
      let long : length keys ≡ length met = length-map met m.key in
      record {
        plan = old.plan;
        undecided = old.undecided;
        first = old.first ∙ sym (take-append-le (length states) keys (m.key s ∷ []) (let few = old.few in omega (arith, few, long))) ∙ ap (take (length states)) (sym (map-append m.key met (s ∷ [])));
        few = (let few = old.few in let more = length_push met s in omega (arith, few, more));
        each = All-push (IsMetState m side (planned states)) met s old.each (record { undecided = mine; reached = reached });
        distinct = rw (map-append m.key met (s ∷ [])) (IsDistinct-push nat_eq_equiv keys (m.key s) old.distinct (sym (old.places s reachable) ∙ new));
        places = λ t r. put (n.place t)
            ∙ ap (λ (b : Bool). cond b true (seen (n.place t))) (same_tests m game n numbered s t reachable r ∙ nat_eq_equiv.symm (m.key s) (m.key t))
            ∙ any_step (eqb (m.key t) (m.key s)) (seen (n.place t))
            ∙ ap (λ (b : Bool). b || (eqb (m.key t) (m.key s) || false)) (old.places t r)
            ∙ sym (list_any-append (eqb (m.key t)) keys (m.key s ∷ []))
            ∙ ap (list_any (eqb (m.key t))) (sym (map-append m.key met (s ∷ [])));
        known = subst (KnowsUndecided m n.place now) (sym (length_push met s)) (known_more m n.place seen (length met) old.known s reachable mine new now put);
      }

-- ---- the walk has come to a state
either_true : (b x : Bool) → x ≡ true → cond b true x ≡ true
either_true true x h = refl
either_true false x h = h

come_kept : {S : Type 0} (m : GameModel S) (number : S → ℕ) (s : S) (old new : ℕ → Bool) (met now : List S) → HasCome m number s old new met now → IsKept old new
come_kept m number s old new met now (met_before h seen same) = λ place. rw seen (λ is. is)
come_kept m number s old new met now (met_now mine none put grown) = λ place is. put place ∙ either_true (eqb (number s) place) (old place) is

come_here : {S : Type 0} (m : GameModel S) (number : S → ℕ) (s : S) (old new : ℕ → Bool) (met now : List S) → HasCome m number s old new met now → IsUndecided m s → new (number s) ≡ true
come_here m number s old new met now (met_before h seen same) = rw seen h
come_here m number s old new met now (met_now mine none put grown) = λ _. put (number s) ∙ ap (λ (b : Bool). cond b true (old (number s))) (is_same (number s) (number s) refl)

come_long : {S : Type 0} (m : GameModel S) (number : S → ℕ) (s : S) (old new : ℕ → Bool) (met now : List S) → HasCome m number s old new met now → length met ≤ length now
come_long m number s old new met now (met_before h seen same) = rw same (omega arith)
come_long m number s old new met now (met_now mine none put grown) = rw grown (let long = length_push met s in omega (arith, long))

come_met : {S : Type 0} (m : GameModel S) → IsGame m → (n : Numbering S) → IsNumbering m n → (side : Side) (total : ℕ) (old new : ℕ → Bool) (met now : List S) (states : List (PlannedState S)) (s : S)
    → AreMet m n.place side total old met states → IsReached m side (planned states) s → HasCome m n.place s old new met now → AreMet m n.place side total new now states
come_met m game n numbered side total old new met now states s are reached (met_before h seen same) = rw (seen, same) are
come_met m game n numbered side total old new met now states s are reached (met_now mine none put grown) =
    rw grown (met_more m game n numbered side total old new met states s are reached mine none put)

-- the root is the first
pub root_met : {S : Type 0} (m : GameModel S) → IsGame m → (n : Numbering S) → IsNumbering m n → (side : Side) (total : ℕ) (old new : ℕ → Bool) (now : List S)
    → ((place : ℕ) → old place ≡ false) → HasCome m n.place m.root old new [] now → AreFollowed m n.place side total new now []
root_met {S = S} m game n numbered side total old new now none come = record {
  are_met = come_met m game n numbered side total old new [] now [] m.root (none_met m n.place side total old none).are_met (reached_root m side (planned {S = S} [])) come;
  next = All-nil _;
}

pub root_seen : {S : Type 0} (m : GameModel S) (number : S → ℕ) (old new : ℕ → Bool) (now : List S) → HasCome m number m.root old new [] now → IsUndecided m m.root → new (number m.root) ≡ true
root_seen m number old new now come = come_here m number m.root old new [] now come

module _ {S : Type 0} (m : GameModel S) (number : S → ℕ) (side : Side) (total : ℕ) (seen : ℕ → Bool) (met : List S) (states : List (PlannedState S))
    (old : AreMet m number side total seen met states) where
  pub met_go_on : All (GoesOn m) met
  met_go_on =
      All-weaker (IsMetState m side (planned states)) (GoesOn m) (λ s h. record { reachable = reached_reachable m side (planned states) s h.reached; no_end = h.undecided.goes_on }) met old.each

  pub next_goes_on : (k : ℕ) (s : S) → k < length met → s ≡ get_or met k s → GoesOn m s
  next_goes_on k s room is = subst (GoesOn m) (sym is) (met_go_on k s room)

-- ---- the next state that was met is planned
module _ {S : Type 0} (m : GameModel S) (number : S → ℕ) (side : Side) (total : ℕ) (seen : ℕ → Bool) (met : List S) (states : List (PlannedState S)) (p : PlannedState S)
    (old : AreMet m number side total seen met states) (room : length states < length met) (is_next : p.state ≡ get_or met (length states) p.state)
    (is_key : m.key p.state ≡ p.key) (is_rank : m.rank p.state ≡ p.rank) (whole : AreWeights (m.moves side p.state) total p.weights) where
  pushed : Extends states (states ++ p ∷ [])
  pushed = record { more = p ∷ []; joins = refl }

  next_is : IsMetState m side (planned states) p.state
  next_is = subst (IsMetState m side (planned states)) (sym is_next) (old.each (length states) p.state room)

  key_at : get_or (map m.key met) (length states) 0 ≡ p.key
  key_at = get_or-map m.key met (length states) p.state 0 room ∙ ap m.key (sym is_next) ∙ is_key

  none : is_some (planned states p.key) ≡ false
  none = no_row (map open_row states) p.key (λ k l.
      let short : length (map open_row states) ≡ length states = length-map states open_row in
      let long : length (map m.key met) ≡ length met = length-map met m.key in
      let earlier : k < length states = omega (arith, l, short) in
      let here : get_or (row_keys (map open_row states)) k 0 ≡ get_or (map m.key met) k 0 =
      ap (λ (ks : List ℕ). get_or ks k 0) (keys_open states ∙ old.first) ∙ get_or-take (length states) (map m.key met) k 0 earlier in
      rw (here, ← key_at) (apart_from_distinct eqb (map m.key met) k (length states) 0 old.distinct earlier (omega (arith, long, room))))

  here : (q : ℕ) → planned (states ++ p ∷ []) q ≡ cond (eqb p.key q) (Some (open_row p)) (planned states q)
  here q = ap (λ (xs : List SheetRow). row_at xs q) (map-append open_row states (p ∷ [])) ∙ row_pushed (map open_row states) (open_row p) p.key q refl none

  has_row : planned (states ++ p ∷ []) (m.key p.state) ≡ Some (open_row p)
  has_row = here (m.key p.state) ∙ ap (λ (b : Bool). cond b (Some (open_row p)) (planned states (m.key p.state))) (is_same p.key (m.key p.state) (sym is_key))

  reached_more : (s : S) → IsReached m side (planned states) s → IsReached m side (planned (states ++ p ∷ [])) s
  reached_more s = reached_still m side states (states ++ p ∷ []) s pushed

  still : (q : PlannedState S) → IsPlannedState m side total (planned states) q → IsPlannedState m side total (planned (states ++ p ∷ [])) q
  still q h = record { is_key = h.is_key; is_rank = h.is_rank; goes_on = h.goes_on; reached = reached_more q.state h.reached; whole = h.whole }

  planned_more : AreMet m number side total seen met (states ++ p ∷ [])
  planned_more =
      let room' : length states < length (map m.key met) = (let long = length-map met m.key in omega (arith, long, room)) in
      record {
        plan = record {
          distinct = rw (map-append (λ (x : PlannedState S). x.key) states (p ∷ []))
              (IsDistinct-push nat_eq_equiv (state_keys states) p.key old.plan.distinct
              (ap (list_any (eqb p.key)) (sym (keys_open states)) ∙ sym (row_listed (map open_row states) p.key) ∙ none));
          each = All-push (IsPlannedState m side total (planned (states ++ p ∷ []))) states p
              (All-weaker (IsPlannedState m side total (planned states)) (IsPlannedState m side total (planned (states ++ p ∷ []))) still states old.plan.each)
              (still p (record { is_key = is_key; is_rank = is_rank; goes_on = (let on = next_is.undecided.goes_on in omega (arith, on, is_rank)); reached = next_is.reached; whole = whole }));
        };
        undecided = All-push (λ x. IsUndecided m x.state) states p old.undecided next_is.undecided;
        first = map-append (λ (x : PlannedState S). x.key) states (p ∷ []) ∙ ap (λ (ks : List ℕ). ks ++ p.key ∷ []) old.first
            ∙ ap (λ (k : ℕ). take (length states) (map m.key met) ++ k ∷ []) (sym key_at) ∙ sym (take_more (map m.key met) (length states) 0 room')
            ∙ ap (λ (i : ℕ). take i (map m.key met)) (sym (length_push states p));
        few = (let long = length_push states p in omega (arith, long, room));
        each = All-weaker (IsMetState m side (planned states)) (IsMetState m side (planned (states ++ p ∷ [])))
            (λ s h. record { undecided = h.undecided; reached = reached_more s h.reached }) met old.each;
        distinct = old.distinct;
        places = old.places;
        known = old.known;
      }

-- ---- among the children of a state
-- the walk is at the children of the state that was planned last, and has come to so many of them
pub record IsAmong {S : Type 0} (m : GameModel S) (number : S → ℕ) (side : Side) (total : ℕ) (first : List (PlannedState S)) (start seen : ℕ → Bool)
    (least : ℕ) (met : List S) (states : List (PlannedState S)) (items : List S) (index : ℕ) : Type 0 where
  pub are_met : AreMet m number side total seen met states
  pub mine : PlannedState S
  pub joins : states ≡ first ++ mine ∷ []
  pub reached : IsReached m side (planned states) mine.state
  pub has : planned states (m.key mine.state) ≡ Some (open_row mine)
  pub items_are : items ≡ children_of m side mine.weights mine.state
  pub next : All (HasMetNext m number side start) first
  pub kept : IsKept start seen
  pub long : least ≤ length met
  pub done : (k : ℕ) (d : S) → k < index → IsUndecided m (get_or items k d) → seen (number (get_or items k d)) ≡ true

pub among_first : {S : Type 0} (m : GameModel S) (number : S → ℕ) (side : Side) (total : ℕ) (seen : ℕ → Bool) (met : List S) (states : List (PlannedState S)) (p : PlannedState S) (items : List S)
    → AreFollowed m number side total seen met states → length states < length met → p.state ≡ get_or met (length states) p.state
    → m.key p.state ≡ p.key → m.rank p.state ≡ p.rank → AreWeights (m.moves side p.state) total p.weights → items ≡ children_of m side p.weights p.state
    → IsAmong m number side total states seen seen (length met) met (states ++ p ∷ []) items 0
among_first m number side total seen met states p items old room is_next is_key is_rank whole items_are = record {
  are_met = planned_more m number side total seen met states p old.are_met room is_next is_key is_rank whole;
  reached = reached_more m number side total seen met states p old.are_met room is_next is_key is_rank whole p.state
      (next_is m number side total seen met states p old.are_met room is_next is_key is_rank whole).reached;
  mine = p;
  joins = refl;
  has = has_row m number side total seen met states p old.are_met room is_next is_key is_rank whole;
  items_are = items_are;
  next = old.next;
  kept = λ place is. is;
  long = omega arith;
  done = λ k d l goes. absurd (omega arith);
}

same_item : {X : Type 0} (xs : List X) (k : ℕ) (d e : X) → k < length xs → get_or xs k d ≡ get_or xs k e
same_item xs k d e h = get_or_default xs k d e h

module _ {S : Type 0} (m : GameModel S) (game : IsGame m) (n : Numbering S) (numbered : IsNumbering m n) (side : Side) (total : ℕ) (first : List (PlannedState S)) (start seen : ℕ → Bool)
    (least : ℕ) (met : List S) (states : List (PlannedState S)) (items : List S) (index : ℕ)
    (at : IsAmong m n.place side total first start seen least met states items index) where
  among_child : (child : S) → index < length items → child ≡ get_or items index child → IsReached m side (planned states) child
  among_child child h is =
      (item_below m game side (planned states) at.mine.state at.mine.weights (open_row at.mine) index child at.reached at.has refl (rw (← at.items_are) h) (rw (← at.items_are) is)).reached

  pub child_reachable : (child : S) → index < length items → child ≡ get_or items index child → Reachable m child
  child_reachable child h is = reached_reachable m side (planned states) child (among_child child h is)

  pub among_more : (now : ℕ → Bool) (later : List S) (child : S) → index < length items → child ≡ get_or items index child → HasCome m n.place child seen now met later
      → IsAmong m n.place side total first start now least later states items (index + 1)
  among_more now later child h is come =
      let stays : IsKept seen now = come_kept m n.place child seen now met later come in
      record {
        are_met = come_met m game n numbered side total seen now met later states child at.are_met (among_child child h is) come;
        reached = at.reached;
        mine = at.mine;
        joins = at.joins;
        has = at.has;
        items_are = at.items_are;
        next = at.next;
        kept = λ place was. stays place (at.kept place was);
        long = (let one = at.long in let two = come_long m n.place child seen now met later come in omega (arith, one, two));
        done = λ k d l goes. elim (cases_lt k index) [
          | inl earlier ↦ stays _ (at.done k d earlier goes)
          | inr last ↦
              let same : k ≡ index = omega arith in
              let it : get_or items k d ≡ child = ap (λ (i : ℕ). get_or items i d) same ∙ same_item items index d child h ∙ sym is in
              subst (λ (x : S). now (n.place x) ≡ true) (sym it) (come_here m n.place child seen now met later come (subst (IsUndecided m) it goes))
        ];
      }

  mine_next : length items ≤ index → HasMetNext m n.place side seen at.mine
  mine_next all = λ t turn played goes.
      let s : S = at.mine.state in
      let parts = turn_parts m side s t turn in
      let place = child_place m side at.mine.weights s (own_move side t) (reply_move side t) t.draw parts.own_below parts.reply_below parts.draw_below played in
      let it : get_or items place.0 s ≡ after_turn m s t = ap (λ (xs : List S). get_or xs place.0 s) at.items_are ∙ place.2 s ∙ sym parts.is in
      let long : length items ≡ length (children_of m side at.mine.weights s) = ap length at.items_are in
      subst (λ (x : S). seen (n.place x) ≡ true) it (at.done place.0 s (let l = place.1 in omega (arith, l, long, all)) (subst (IsUndecided m) (sym it) goes))

  pub among_done : length items ≤ index → AreFollowed m n.place side total seen met states
  among_done all = record {
    are_met = at.are_met;
    next = subst (All (HasMetNext m n.place side seen)) (sym at.joins)
        (All-push (HasMetNext m n.place side seen) first at.mine
        (All-weaker (HasMetNext m n.place side start) (HasMetNext m n.place side seen) (λ p h. λ t turn played goes. at.kept _ (h t turn played goes)) first at.next) (mine_next all));
  }

-- ---- from the root
module _ {S : Type 0} (m : GameModel S) (side : Side) (rows : ℕ → Option SheetRow) where
  -- the undecided states that follow the state of a row by its weights have rows
  abbrev HasRows : S → SheetRow → Type 0
  HasRows s r = (t : Turn) → IsTurn m s t → 1 ≤ get_or r.weights (own_move side t) 0 → IsUndecided m (after_turn m s t) → IsSome (rows (m.key (after_turn m s t)))

  by_row : (s : S) (t : Turn) (o : Option SheetRow) → ((r : SheetRow) → o ≡ Some r → HasRows s r) → IsTurn m s t → IsSomeAnd o (λ r. 1 ≤ get_or r.weights (own_move side t) 0)
      → IsUndecided m (after_turn m s t) → IsSome (rows (m.key (after_turn m s t)))
  by_row s t None each turn played mine = absurd played
  by_row s t (Some r) each turn played mine = each r refl t turn played mine

  module _ (next : (s : S) (r : SheetRow) → Reachable m s → rows (m.key s) ≡ Some r → HasRows s r) where
    along : (s : S) (h : List Turn) → Reachable m s → (IsUndecided m s → IsSome (rows (m.key s))) → IsKeptHistory m side rows s h → IsUndecided m (after_history m s h)
        → IsSome (rows (m.key (after_history m s h)))
    along s [] reach here kept mine = here mine
    along s (t ∷ h) reach here kept mine =
        along (after_turn m s t) h (reachable_turn m s t reach kept.0.turn) (by_row s t (rows (m.key s)) (λ r e. next s r reach e) kept.0.turn kept.0.played) kept.1 mine

    each_row : (IsUndecided m m.root → IsSome (rows (m.key m.root))) → HasEachRow m side rows
    each_row root s r mine =
        subst (λ (x : S). IsSome (rows (m.key x))) r.leads (along m.root r.history (reachable_root m) root r.kept (subst (IsUndecided m) (sym r.leads) mine))

-- a planned state as the row that it is to have
record IsOpenRow {S : Type 0} (m : GameModel S) (side : Side) (total : ℕ) (states : List (PlannedState S)) (r : SheetRow) : Type 0 where
  pub of : PlannedState S
  pub is : open_row of ≡ r
  pub plan : IsPlannedState m side total (planned states) of
  pub next : HasNext m side (planned states) of

open_rows : {S : Type 0} (m : GameModel S) (side : Side) (total : ℕ) (states : List (PlannedState S)) → All (IsPlannedState m side total (planned states)) states
    → All (HasNext m side (planned states)) states → All (IsOpenRow m side total states) (map open_row states)
open_rows m side total states plan next = All-map (IsOpenRow m side total states) open_row states (λ k d l. record { of = get_or states k d; is = refl; plan = plan k d l; next = next k d l })

module _ {S : Type 0} (m : GameModel S) (game : IsGame m) (number : S → ℕ) (side : Side) (total : ℕ) (seen : ℕ → Bool) (met : List S) (states : List (PlannedState S))
    (old : AreFollowed m number side total seen met states) (all : length met ≤ length states) where
  all_planned : map m.key met ≡ state_keys states
  all_planned =
      let same : length (map m.key met) ≡ length states = (let long = length-map met m.key in let few = old.are_met.few in omega (arith, long, few, all)) in
      sym (take-length (map m.key met)) ∙ ap (λ (i : ℕ). take i (map m.key met)) same ∙ sym old.are_met.first

  has_planned : (t : S) → Reachable m t → seen (number t) ≡ true → IsSome (planned states (m.key t))
  has_planned t reach is = row_listed (map open_row states) (m.key t) ∙ ap (list_any (eqb (m.key t))) (keys_open states ∙ sym all_planned) ∙ sym (old.are_met.places t reach) ∙ is

  next_planned : All (HasNext m side (planned states)) states
  next_planned = λ k d l. λ t turn played goes.
      has_planned _ (reachable_turn m _ t (reached_reachable m side (planned states) _ (old.are_met.plan.each k d l).reached) turn) (old.next k d l t turn played goes)

  pub as_many : HasUndecided m (length states)
  as_many = subst (HasUndecided m) (let few = old.are_met.few in omega (arith, few, all)) old.are_met.known.undecided

  pub whole_plan : (IsUndecided m m.root → seen (number m.root) ≡ true) → IsWholePlan m side total states
  whole_plan root = record {
    plan = old.are_met.plan;
    undecided = old.are_met.undecided;
    whole = each_row m side (planned states) (λ t r reach e.
        let here = found (IsOpenRow m side total states) (map open_row states) (m.key t) r (open_rows m side total states old.are_met.plan.each next_planned) e in
        let p : PlannedState _ = here.0.of in
        let key : p.key ≡ r.key = ap (λ (x : SheetRow). x.key) here.0.is in
        let same : p.state ≡ t = game.same_key p.state t (reached_reachable m side (planned states) p.state here.0.plan.reached) reach (here.0.plan.is_key ∙ key ∙ here.1) in
        λ turn legal played mine.
        subst (λ (x : _). IsSome (planned states (m.key (after_turn m x turn)))) same
        (here.0.next turn (subst (λ (x : _). IsTurn m x turn) (sym same) legal) (subst (λ (x : SheetRow). 1 ≤ get_or x.weights (own_move side turn) 0) (sym here.0.is) played)
        (subst (λ (x : _). IsUndecided m (after_turn m x turn)) (sym same) mine)))
        (λ mine. has_planned m.root (reachable_root m) (root mine));
  }

-- a sheet with the weights of a whole plan has each row too
pub each_row_still : {S : Type 0} (m : GameModel S) (side : Side) (rows others : ℕ → Option SheetRow) → ((key : ℕ) → weights_of_row (others key) ≡ weights_of_row (rows key)) → HasEachRow m side rows
    → HasEachRow m side others
each_row_still m side rows others same whole s r mine = has_row_by (rows (m.key s)) (others (m.key s)) (same (m.key s)) (whole s (reached_by m side others rows same s r) mine)
  where
    has_row_by : (o p : Option SheetRow) → weights_of_row p ≡ weights_of_row o → IsSome o → IsSome p
    has_row_by None p e h = absurd (cc)
    has_row_by (Some r) None e h = absurd (cc)
    has_row_by (Some r) (Some q) e h = refl
