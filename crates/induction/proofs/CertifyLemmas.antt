-- Rows that are certified one after another, children first, are a lawful sheet.
use Rattle.std.proofs.Common.{◌≡◌, ℕ, ◌+◌, ◌<◌, ◌≤◌, ℤ, ◌+ℤ◌, Bool, false, cond, eqb, Option, None, Some, List, [], ◌∷◌, ◌++◌, ◌-◌, map, length, take, drop, get_or, reverse, inl, inr, refl, sym, ap, subst, ◌∙◌, append_assoc, length-append, arith}
use Rattle.std.proofs.lemmas.List.{get_or_default, get_or_append_left, get_or-append-add, get_or-drop, get_or-take, length-drop, take_all, length-map, length_push, reverse-append, reverse-reverse}
use Rattle.std.proofs.lemmas.List.Elements.{All-weaker, All-push, All-nil}
use Rattle.std.proofs.lemmas.Bool.{cases_lt}
use Rattle.std.proofs.lemmas.Cmp.{nat_eq_equiv}
use Rattle.std.proofs.lemmas.List.Sorted.{All-permutation, IsPermutation-map, IsPermutation-reverse, IsPermutation-sym, length_permutation}
use Rattle.std.proofs.lemmas.Map.Keys.{IsDistinct-IsPermutation}
use Rattle.std.specs.List.{All, IsDistinct}
use Rattle.std.specs.List.Sorted.{IsNonDecreasingBy, IsPermutation}
use Rattle.std.specs.Option.{is_some, option_to_list}
use Rattle.std.specs.Prelude.{IsSome, pos, unwrap_or}
use Rattle.sim_game.specs.declared.Side.{Side}
use Rattle.sim_game.specs.Model.{GameModel, IsGame, Reachable}
use Rattle.sim_game.specs.Numbers.{Numbering, IsNumbering}
use Rattle.sim_game.specs.Sides.{other_side, turn_of, draws_of, child_of, turn_reward}
use Rattle.sim_game.proofs.SideLemmas.{looser_left, looser_refl, side_turn}
use Rattle.plan_book.specs.declared.Sheet.{Sheet}
use Rattle.plan_book.specs.declared.SheetRow.{SheetRow}
use Rattle.plan_book.specs.Sheets.{row_at, bound_or, IsReached, IsLawfulRow, IsLawful}
use Rattle.plan_book.specs.Steps.{IsStep}
use Rattle.plan_book.proofs.ExpectedLemmas.{is_other}
use Rattle.plan_book.proofs.LookupLemmas.{row_keys}
use Rattle.plan_book.proofs.SheetLemmas.{reached_reachable}
use Rattle.plan_book.proofs.StepLemmas.{step_mono}
use Rattle.plan_book.proofs.TakenLemmas.{row_pushed}
use Rattle.induction.specs.declared.PlannedState.{PlannedState}
use Rattle.induction.specs.Planned.{open_row, planned, weights_of_row, IsPlannedState, ArePlanned}
use Rattle.induction.specs.Certified.{IsBoundWord, ArePlaced, turn_numbers, IsBestStep, IsOpenState, IsBestOf, AreBestBounds, AreNextBounds, HasBestBounds}
use Rattle.induction.proofs.RowLemmas.{opened, weights_opened, keys_opened, state_keys, keys_open, planned_moved, reached_by, placed_more, next_is_new, filled_more, row_moved, rows_rise}
use Rattle.induction.proofs.BoundLemmas.{child_reachable}

-- ---- over other rows that have the same bounds
module _ {S : Type 0} (m : GameModel S) (side : Side) (s : S) (total : ℕ) (weights : List ℕ) (rows others : List SheetRow) (bound : ℤ) where
  abbrev pub Agree : Type 0
  Agree = (own reply d : ℕ) → own < m.moves side s → reply < m.moves (other_side side) s → d < draws_of m side s own reply
      → turn_numbers m side others s own reply d ≡ turn_numbers m side rows s own reply d

  over : (x : ℤ) → Agree → IsStep m side s total weights (turn_numbers m side rows s) x → IsStep m side s total weights (turn_numbers m side others s) x
  over x agree step = step_mono m side s total weights _ _ x step (λ own reply d p q u _. looser_left side _ _ _ (agree own reply d p q u) (looser_refl side _))

  back : (x : ℤ) → Agree → IsStep m side s total weights (turn_numbers m side others s) x → IsStep m side s total weights (turn_numbers m side rows s) x
  back x agree step = step_mono m side s total weights _ _ x step (λ own reply d p q u _. looser_left side _ _ _ (sym (agree own reply d p q u)) (looser_refl side _))

  pub best_over : Agree → IsBestStep m side s total weights rows bound → IsBestStep m side s total weights others bound
  best_over agree best = record {
    step = over bound agree best.step;
    tightest = λ x step. best.tightest x (back x agree step);
    ranged = best.ranged;
  }

-- ---- planned states in another order
pub record AreOrdered {S : Type 0} (m : GameModel S) (side : Side) (total : ℕ) (ps states : List (PlannedState S)) : Type 0 where
  pub first : IsDistinct eqb (state_keys ps)
  pub moved : IsPermutation ps states
  pub distinct : IsDistinct eqb (state_keys states)
  pub rising : IsNonDecreasingBy (λ p. p.rank) states
  pub plan : All (IsPlannedState m side total (planned ps)) states

pub ordered : {S : Type 0} (m : GameModel S) (side : Side) (total : ℕ) (ps states : List (PlannedState S)) → ArePlanned m side total ps → IsPermutation ps states
    → IsNonDecreasingBy (λ p. p.rank) states → AreOrdered m side total ps states
ordered m side total ps states plan moved rising = record {
  first = plan.distinct;
  moved = moved;
  distinct = IsDistinct-IsPermutation eqb nat_eq_equiv.symm _ _ (IsPermutation-map (λ p. p.key) ps states moved) plan.distinct;
  rising = rising;
  plan = All-permutation (IsPlannedState m side total (planned ps)) ps states moved plan.each;
}

-- the planned state at a place
pub planned_here : {S : Type 0} (m : GameModel S) (side : Side) (total : ℕ) (ps states : List (PlannedState S)) → AreOrdered m side total ps states
    → (i : ℕ) (p : PlannedState S) → i < length states → p ≡ get_or states i p → IsPlannedState m side total (planned ps) p
planned_here m side total ps states order i p h is = subst (IsPlannedState m side total (planned ps)) (sym is) (order.plan i p h)

-- ---- the rows so far
-- the row is of a state that is reached, of at most this rank
pub record IsCertified {S : Type 0} (m : GameModel S) (side : Side) (total : ℕ) (f : ℕ → Option SheetRow) (top : ℕ) (rows : List SheetRow) (r : SheetRow) : Type 0 where
  pub state : S
  pub is_key : m.key state ≡ r.key
  pub reached : IsReached m side f state
  pub low : m.rank state ≤ top
  pub best : IsBestStep m side state total r.weights rows r.bound

-- the first states have rows, and all others have at least the rank of those
pub record AreCertified {S : Type 0} (m : GameModel S) (number : S → ℕ) (side : Side) (total : ℕ) (f : ℕ → Option SheetRow) (states : List (PlannedState S))
    (i : ℕ) (rows : List SheetRow) (words : ℕ → ℕ) : Type 0 where
  pub filled : map opened rows ≡ map open_row (take i states)
  pub placed : ArePlaced m number rows words
  pub top : ℕ
  pub each : All (IsCertified m side total f top rows) rows
  pub above : (j : ℕ) (d : PlannedState S) → i ≤ j → j < length states → top ≤ (get_or states j d).rank

pub none_certified : {S : Type 0} (m : GameModel S) (number : S → ℕ) (side : Side) (total : ℕ) (f : ℕ → Option SheetRow) (states : List (PlannedState S)) (words : ℕ → ℕ)
    → ((place : ℕ) → words place ≡ 0) → AreCertified m number side total f states 0 [] words
none_certified m number side total f states words none = record {
  filled = refl;
  placed = record { held = λ s reach. none (number s); ranged = λ s r reach e. absurd (cc) };
  top = 0;
  each = All-nil _;
  above = λ j d l h. omega arith;
}

module _ {S : Type 0} (m : GameModel S) (game : IsGame m) (n : Numbering S) (numbered : IsNumbering m n) (side : Side) (total : ℕ)
    (ps states : List (PlannedState S)) (order : AreOrdered m side total ps states)
    (i : ℕ) (p : PlannedState S) (h : i < length states) (is : p ≡ get_or states i p) (rows : List SheetRow) (row : SheetRow) (words now : ℕ → ℕ) (word : ℕ)
    (old : AreCertified m n.place side total (planned ps) states i rows words) (key : row.key ≡ p.key) (weights : row.weights ≡ p.weights)
    (best : IsBestStep m side p.state total p.weights rows row.bound) (held : IsBoundWord (Some row) word)
    (put : (q : ℕ) → now q ≡ cond (eqb (n.place p.state) q) word (words q)) where
  here : IsPlannedState m side total (planned ps) p
  here = planned_here m side total ps states order i p h is

  pub reachable : Reachable m p.state
  reachable = reached_reachable m side (planned ps) p.state here.reached

  new : is_some (row_at rows row.key) ≡ false
  new = rw key (next_is_new states i p rows order.distinct h is old.filled)

  -- a state of lower rank has the bound that it had
  kept_bound : (t : S) → Reachable m t → m.rank t < p.rank → bound_or m side t (row_at (rows ++ row ∷ []) (m.key t)) ≡ bound_or m side t (row_at rows (m.key t))
  kept_bound t r lower =
      let other : eqb row.key (m.key t) ≡ false = is_other row.key (m.key t) (λ e.
      let same : p.state ≡ t = game.same_key p.state t reachable r (here.is_key ∙ sym key ∙ e) in
      let rank : m.rank p.state ≡ m.rank t = ap m.rank same in
      let mine = here.is_rank in
      absurd (omega (arith, rank, mine, lower))) in
      ap (bound_or m side t) (row_pushed rows row row.key (m.key t) refl new ∙ ap (λ (b : Bool). cond b (Some row) (row_at rows (m.key t))) other)

  agrees : (s : S) (used : List ℕ) (bound : ℤ) → Reachable m s → m.rank s ≤ p.rank → Agree m side s total used rows (rows ++ row ∷ []) bound
  agrees s used bound r low own reply d a b u =
      let legal = side_turn m side s own reply d a b u in
      let falls = game.rank_falls s (turn_of side own reply d) r legal in
      ap (λ (x : ℤ). turn_reward m side s own reply d +ℤ x) (kept_bound (child_of m side s own reply d) (child_reachable m game side s own reply r a b d u) (omega (arith, falls, low)))

  -- the row takes nothing from the bounds of states of no higher rank
  pub best_later : (s : S) (used : List ℕ) (bound : ℤ) → Reachable m s → m.rank s ≤ p.rank → IsBestStep m side s total used rows bound
      → IsBestStep m side s total used (rows ++ row ∷ []) bound
  best_later s used bound r low step = best_over m side s total used rows (rows ++ row ∷ []) bound (agrees s used bound r low) step

  pub certified_more : AreCertified m n.place side total (planned ps) states (i + 1) (rows ++ row ∷ []) now
  certified_more =
      let top_low : old.top ≤ p.rank = subst (λ (x : PlannedState S). old.top ≤ x.rank) (sym is) (old.above i p (omega arith) h) in
      record {
        filled = filled_more states i p rows row h is key weights old.filled;
        placed = placed_more m game n numbered rows row p.state words now word old.placed reachable (here.is_key ∙ sym key) best.ranged new held put;
        top = p.rank;
        each = All-push (IsCertified m side total (planned ps) p.rank (rows ++ row ∷ [])) rows row
            (All-weaker (IsCertified m side total (planned ps) old.top rows) (IsCertified m side total (planned ps) p.rank (rows ++ row ∷ [])) (λ r c.
            let low : m.rank c.state ≤ p.rank = (let l = c.low in omega (arith, l, top_low)) in
            record {
              state = c.state;
              is_key = c.is_key;
              reached = c.reached;
              low = low;
              best = best_over m side c.state total r.weights rows (rows ++ row ∷ []) r.bound (agrees c.state r.weights r.bound (reached_reachable m side (planned ps) c.state c.reached) low) c.best;
            }) rows old.each)
            (record {
              state = p.state;
              is_key = here.is_key ∙ sym key;
              reached = here.reached;
              low = (let mine = here.is_rank in omega (arith, mine));
              best = subst (λ (w : List ℕ). IsBestStep m side p.state total w (rows ++ row ∷ []) row.bound) (sym weights)
                  (best_over m side p.state total p.weights rows (rows ++ row ∷ []) row.bound
                  (agrees p.state p.weights row.bound reachable (let mine = here.is_rank in omega (arith, mine))) best);
            });
        above = λ j d l g.
            let first : p.rank ≡ (get_or states i d).rank = ap (λ (x : PlannedState S). x.rank) (is ∙ get_or_default states i p d h) in
            let up = order.rising i j d (omega (arith, l)) g in
            omega (arith, first, up);
      }

-- ---- the next of them
none_held : (o : Option SheetRow) (word : ℕ) → IsBoundWord o word → is_some o ≡ false → word ≡ 0
none_held None word is e = is
none_held (Some r) word is e = absurd (cc)

item_there : {X : Type 0} (xs ys : List X) (x : X) → x ≡ get_or (xs ++ x ∷ ys) (length xs) x
item_there [] ys x = refl
item_there (y ∷ xs) ys x = item_there xs ys x

there : {X : Type 0} (xs ys : List X) (x : X) → length xs < length (xs ++ x ∷ ys)
there xs ys x = rw length-append (omega arith)

module _ {S : Type 0} (m : GameModel S) (side : Side) (total : ℕ) (ps done rest left : List (PlannedState S)) (p : PlannedState S) (split : rest ≡ p ∷ left)
    (order : AreOrdered m side total ps (done ++ rest)) where
  ordered_here : AreOrdered m side total ps (done ++ p ∷ left)
  ordered_here = subst (λ (l : List (PlannedState S)). AreOrdered m side total ps (done ++ l)) split order

  moved_on : done ++ p ∷ left ≡ (done ++ p ∷ []) ++ left
  moved_on = sym (append_assoc done (p ∷ []) left)

  pub planned_next : IsPlannedState m side total (planned ps) p
  planned_next = planned_here m side total ps (done ++ p ∷ left) ordered_here (length done) p (there done left p) (item_there done left p)

  pub ordered_next : AreOrdered m side total ps ((done ++ p ∷ []) ++ left)
  ordered_next = subst (AreOrdered m side total ps) moved_on ordered_here

  pub certified_here : (number : S → ℕ) (rows : List SheetRow) (words : ℕ → ℕ) → AreCertified m number side total (planned ps) (done ++ rest) (length done) rows words
      → AreCertified m number side total (planned ps) (done ++ p ∷ left) (length done) rows words
  certified_here number rows words old = subst (λ (l : List (PlannedState S)). AreCertified m number side total (planned ps) (done ++ l) (length done) rows words) split old

  module _ (game : IsGame m) (n : Numbering S) (numbered : IsNumbering m n) (rows : List SheetRow) (row : SheetRow) (words now : ℕ → ℕ) (word : ℕ)
      (old : AreCertified m n.place side total (planned ps) (done ++ rest) (length done) rows words) (key : row.key ≡ p.key) (weights : row.weights ≡ p.weights)
      (best : IsBestStep m side p.state total p.weights rows row.bound) (held : IsBoundWord (Some row) word)
      (put : (q : ℕ) → now q ≡ cond (eqb (n.place p.state) q) word (words q)) where
    pub certified_next : AreCertified m n.place side total (planned ps) ((done ++ p ∷ []) ++ left) (length (done ++ p ∷ [])) (rows ++ row ∷ []) now
    certified_next =
        let more : AreCertified m n.place side total (planned ps) (done ++ p ∷ left) (length done + 1) (rows ++ row ∷ []) now =
        certified_more m game n numbered side total ps (done ++ p ∷ left) ordered_here (length done) p (there done left p) (item_there done left p) rows row words now word
        (certified_here n.place rows words old) key weights best held put in
        subst (λ (k : ℕ). AreCertified m n.place side total (planned ps) ((done ++ p ∷ []) ++ left) k (rows ++ row ∷ []) now) (sym (length_push done p))
        (subst (λ (l : List (PlannedState S)). AreCertified m n.place side total (planned ps) l (length done + 1) (rows ++ row ∷ []) now) moved_on more)

    pub best_next : (q : PlannedState S) (bound : ℤ) → IsOpenState m side total q → q.rank ≡ p.rank → IsBestOf m side total rows q bound → IsBestOf m side total (rows ++ row ∷ []) q bound
    best_next q bound ready level step =
        best_later m game n numbered side total ps (done ++ p ∷ left) ordered_here (length done) p (there done left p) (item_there done left p) rows row words now word
        (certified_here n.place rows words old) key weights best held put q.state q.weights bound ready.reachable (let same = ready.is_rank in omega (arith, same, level)) step

  pub no_word : (number : S → ℕ) (rows : List SheetRow) (words : ℕ → ℕ) → AreCertified m number side total (planned ps) (done ++ rest) (length done) rows words → words (number p.state) ≡ 0
  no_word number rows words old =
      let new : is_some (row_at rows p.key) ≡ false =
      next_is_new (done ++ p ∷ left) (length done) p rows ordered_here.distinct (there done left p) (item_there done left p) (certified_here number rows words old).filled in
      none_held (row_at rows (m.key p.state)) (words (number p.state)) (old.placed.held p.state (reached_reachable m side (planned ps) p.state planned_next.reached))
      (ap (λ (k : ℕ). is_some (row_at rows k)) planned_next.is_key ∙ new)

pub none_left : {X : Type 0} (done rest : List X) (n : ℕ) → n ≡ length rest → n ≡ 0 → length (done ++ rest) ≤ length done
none_left done rest n long none = rw length-append (omega (arith, long, none))

-- ---- the states that are left, with bounds of the last of them
-- the states that are left, those of higher rank first, with the bounds that are at hand
pub record AreLeft {S : Type 0} (m : GameModel S) (number : S → ℕ) (side : Side) (total : ℕ) (ps states : List (PlannedState S)) (bounds : List ℤ)
    (rows : List SheetRow) (words : ℕ → ℕ) : Type 0 where
  pub done : List (PlannedState S)
  pub order : AreOrdered m side total ps (done ++ reverse states)
  pub certified : AreCertified m number side total (planned ps) (done ++ reverse states) (length done) rows words
  pub next : AreNextBounds m side total rows states bounds

open_here : {S : Type 0} (m : GameModel S) (side : Side) (total : ℕ) (ps : List (PlannedState S)) (p : PlannedState S) → IsPlannedState m side total (planned ps) p → IsOpenState m side total p
open_here m side total ps p is = record { reachable = reached_reachable m side (planned ps) p.state is.reached; is_rank = is.is_rank; goes_on = is.goes_on; whole = is.whole }

pub open_left : {S : Type 0} (m : GameModel S) (side : Side) (total : ℕ) (ps done states : List (PlannedState S)) → AreOrdered m side total ps (done ++ reverse states)
    → All (IsOpenState m side total) states
open_left {S} m side total ps done states order =
    let turned : All (IsOpenState m side total) (reverse states) = λ k d h.
    subst (IsOpenState m side total) (get_or-append-add done (reverse states) k d)
    (open_here m side total ps _ (order.plan (length done + k) d (rw length-append (omega (arith, h))))) in
    All-permutation (IsOpenState m side total) (reverse states) states (IsPermutation-sym states (reverse states) (IsPermutation-reverse states)) turned

pub none_next : {S : Type 0} (m : GameModel S) (side : Side) (total : ℕ) (rows : List SheetRow) (states : List (PlannedState S)) → AreNextBounds m side total rows states []
none_next m side total rows states = record {
  start = length states;
  reach = omega arith;
  level = λ j k d h g. absurd (omega (arith, h));
  each = λ k d b h. absurd (omega (arith, h));
}

pub all_left : {S : Type 0} (m : GameModel S) (number : S → ℕ) (side : Side) (total : ℕ) (ps sorted states : List (PlannedState S)) (words : ℕ → ℕ)
    → AreOrdered m side total ps sorted → states ≡ reverse sorted → ((place : ℕ) → words place ≡ 0) → AreLeft m number side total ps states [] [] words
all_left m number side total ps sorted states words order turned none =
    let back : reverse states ≡ sorted = ap reverse turned ∙ reverse-reverse sorted in
    record {
      done = [];
      order = subst (AreOrdered m side total ps) (sym back) order;
      certified = none_certified m number side total (planned ps) (reverse states) words none;
      next = none_next m side total [] states;
    }

-- the bounds of a run of last states
pub run_next : {S : Type 0} (m : GameModel S) (side : Side) (total : ℕ) (rows : List SheetRow) (states run : List (PlannedState S)) (start : ℕ) (bounds : List ℤ)
    → start < length states → run ≡ take (length states - start) (drop start states) → AreBestBounds m side total rows run bounds
    → ((k : ℕ) (d : PlannedState S) → start ≤ k → k < length states → (get_or states k d).rank ≡ (get_or states (length states - 1) d).rank)
    → AreNextBounds m side total rows states bounds
run_next {S} m side total rows states run start bounds within is best level =
    let all : take (length states - start) (drop start states) ≡ drop start states = take_all (length states - start) (drop start states) (rw length-drop (omega arith)) in
    let part : length run ≡ length states - start = ap length (is ∙ all) ∙ length-drop start states in
    let long : start + length bounds ≡ length states = (let many = best.as_many in omega (arith, many, part, within)) in
    record {
      start = start;
      reach = long;
      level = λ j k d h g. level (start + j) d (omega arith) (omega (arith, long, h)) ∙ sym (level (start + k) d (omega arith) (omega (arith, long, g)));
      each = λ k d b h.
          let at : get_or run k d ≡ get_or states (start + k) d =
          ap (λ (xs : List (PlannedState S)). get_or xs k d) is ∙ get_or-take (length states - start) (drop start states) k d (omega (arith, long, h)) ∙ get_or-drop start states k d in
          let many = best.as_many in
          subst (λ (q : PlannedState S). IsBestOf m side total rows q (get_or bounds k b)) at (best.each k d b (omega (arith, many, h)));
    }

-- the bound of a further state
pub bound_pushed : {S : Type 0} (m : GameModel S) (side : Side) (total : ℕ) (rows : List SheetRow) (states : List (PlannedState S)) (found : List ℤ) (n : ℕ) (p : PlannedState S) (x : ℤ)
    → length found ≡ n → n < length states → p ≡ get_or states n p → IsBestOf m side total rows p x
    → ((k : ℕ) (d : PlannedState S) (b : ℤ) → k < n → IsBestOf m side total rows (get_or states k d) (get_or found k b))
    → (k : ℕ) (d : PlannedState S) (b : ℤ) → k < n + 1 → IsBestOf m side total rows (get_or states k d) (get_or (found ++ x ∷ []) k b)
bound_pushed {S} m side total rows states found n p x long within is best old k d b h = elim (cases_lt k n) [
  | inl before ↦
      subst (λ (y : ℤ). IsBestOf m side total rows (get_or states k d) y) (sym (get_or_append_left found (x ∷ []) b k (omega (arith, long, before)))) (old k d b before)
  | inr behind ↦
      let last : k ≡ n = omega (arith, behind, h) in
      let state : p ≡ get_or states k d = is ∙ get_or_default states n p d within ∙ ap (λ (j : ℕ). get_or states j d) (sym last) in
      let value : x ≡ get_or (found ++ x ∷ []) k b =
      item_there found [] x ∙ get_or_default (found ++ x ∷ []) (length found) x b (there found [] x) ∙ ap (λ (j : ℕ). get_or (found ++ x ∷ []) j b) (long ∙ sym last) in
      subst (λ (q : PlannedState S). IsBestOf m side total rows q (get_or (found ++ x ∷ []) k b)) state (subst (λ (y : ℤ). IsBestOf m side total rows p y) value best)
]

-- the bound that is taken is the last one
pub taken_last : (found others : List ℤ) (o : Option ℤ) (x : ℤ) → found ≡ others ++ option_to_list o → IsSome o → x ≡ unwrap_or o (pos 0) → found ≡ others ++ x ∷ []
taken_last found others (Some y) x e is same = rw same e
taken_last found others None x e is same = absurd (cc)

module _ {S : Type 0} (m : GameModel S) (game : IsGame m) (n : Numbering S) (numbered : IsNumbering m n) (side : Side) (total : ℕ) (ps states left : List (PlannedState S))
    (found others : List ℤ) (p : PlannedState S) (bound : ℤ) (rows : List SheetRow) (words : ℕ → ℕ)
    (old : AreLeft m n.place side total ps states found rows words) (popped : states ≡ left ++ p ∷ []) where
  pub last_first : reverse states ≡ p ∷ reverse left
  last_first = ap reverse popped ∙ reverse-append left (p ∷ [])

  pub planned_last : IsPlannedState m side total (planned ps) p
  planned_last = planned_next m side total ps old.done (reverse states) (reverse left) p last_first old.order

  pub reachable_last : Reachable m p.state
  reachable_last = reached_reachable m side (planned ps) p.state planned_last.reached

  pub no_word_last : words (n.place p.state) ≡ 0
  no_word_last = no_word m side total ps old.done (reverse states) (reverse left) p last_first old.order n.place rows words old.certified

  module _ (taken : found ≡ others ++ bound ∷ []) where
    long : old.next.start + length others ≡ length left
    long =
        let all = old.next.reach in
        let one : length states ≡ length left + 1 = ap length popped ∙ length_push left p in
        let two : length found ≡ length others + 1 = ap length taken ∙ length_push others bound in
        omega (arith, all, one, two)

    more : length others < length found
    more = let two : length found ≡ length others + 1 = ap length taken ∙ length_push others bound in omega (arith, two)

    at_last : get_or states (old.next.start + length others) p ≡ p
    at_last = ap (λ (k : ℕ). get_or states k p) long ∙ ap (λ (xs : List (PlannedState S)). get_or xs (length left) p) popped ∙ sym (item_there left [] p)

    value : get_or found (length others) bound ≡ bound
    value = ap (λ (xs : List ℤ). get_or xs (length others) bound) taken ∙ sym (item_there others [] bound)

    pub best_last : IsBestOf m side total rows p bound
    best_last = subst (λ (q : PlannedState S). IsBestOf m side total rows q bound) at_last
        (subst (λ (x : ℤ). IsBestOf m side total rows (get_or states (old.next.start + length others) p) x) value (old.next.each (length others) p bound more))

    kept : (k : ℕ) (d : PlannedState S) → k < length others → get_or states (old.next.start + k) d ≡ get_or left (old.next.start + k) d
    kept k d h = ap (λ (xs : List (PlannedState S)). get_or xs (old.next.start + k) d) popped ∙ get_or_append_left left (p ∷ []) d (old.next.start + k) (omega (arith, long, h))

    value_kept : (k : ℕ) (b : ℤ) → k < length others → get_or found k b ≡ get_or others k b
    value_kept k b h = ap (λ (xs : List ℤ). get_or xs k b) taken ∙ get_or_append_left others (bound ∷ []) b k h

    same_rank : (k : ℕ) (d : PlannedState S) → k < length others → (get_or left (old.next.start + k) d).rank ≡ p.rank
    same_rank k d h =
        let size : length states ≡ length left + 1 = ap length popped ∙ length_push left p in
        let at : get_or states (old.next.start + length others) d ≡ p =
        sym (get_or_default states (old.next.start + length others) p d (omega (arith, long, size))) ∙ at_last in
        ap (λ (q : PlannedState S). q.rank) (sym (kept k d h)) ∙ old.next.level k (length others) d (omega (arith, more, h)) more ∙ ap (λ (q : PlannedState S). q.rank) at

    module _ (row : SheetRow) (now : ℕ → ℕ) (word : ℕ) (key : row.key ≡ p.key) (weights : row.weights ≡ p.weights) (worth : row.bound ≡ bound) (held : IsBoundWord (Some row) word)
        (put : (q : ℕ) → now q ≡ cond (eqb (n.place p.state) q) word (words q)) where
      best_row_here : IsBestStep m side p.state total p.weights rows row.bound
      best_row_here = subst (λ (x : ℤ). IsBestOf m side total rows p x) (sym worth) best_last

      order_then : AreOrdered m side total ps ((old.done ++ p ∷ []) ++ reverse left)
      order_then = ordered_next m side total ps old.done (reverse states) (reverse left) p last_first old.order

      pub left_then : AreLeft m n.place side total ps left others (rows ++ row ∷ []) now
      left_then = record {
        done = old.done ++ p ∷ [];
        order = order_then;
        certified = certified_next m side total ps old.done (reverse states) (reverse left) p last_first old.order game n numbered rows row words now word old.certified key weights
            best_row_here held put;
        next = record {
          start = old.next.start;
          reach = long;
          level = λ j k d h g. same_rank j d h ∙ sym (same_rank k d g);
          each = λ k d b h.
              best_next m side total ps old.done (reverse states) (reverse left) p last_first old.order game n numbered rows row words now word old.certified key weights best_row_here held put
              (get_or left (old.next.start + k) d) (get_or others k b)
              (open_left m side total ps (old.done ++ p ∷ []) left order_then (old.next.start + k) d (omega (arith, long, h))) (same_rank k d h)
              (subst (λ (q : PlannedState S). IsBestOf m side total rows q (get_or others k b)) (kept k d h)
              (subst (λ (x : ℤ). IsBestOf m side total rows (get_or states (old.next.start + k) d) x) (value_kept k b h) (old.next.each k d b (omega (arith, more, h)))));
        };
      }

-- ---- all of them
module _ {S : Type 0} (m : GameModel S) (game : IsGame m) (side : Side) (total : ℕ) (ps states : List (PlannedState S)) (order : AreOrdered m side total ps states)
    (i : ℕ) (rows ys : List SheetRow) (number : S → ℕ) (words : ℕ → ℕ) (done : AreCertified m number side total (planned ps) states i rows words) (all : length states ≤ i)
    (moved : IsPermutation rows ys) (rising : IsNonDecreasingBy (λ r. r.key) ys) where
  filled : map opened rows ≡ map open_row states
  filled = done.filled ∙ ap (map open_row) (take_all i states all)

  rows_apart : IsDistinct eqb (row_keys rows)
  rows_apart = subst (IsDistinct eqb) (sym (keys_open states) ∙ ap row_keys (sym filled) ∙ keys_opened rows) order.distinct

  pub same_weights : (key : ℕ) → weights_of_row (planned ps key) ≡ weights_of_row (row_at ys key)
  same_weights key = ap weights_of_row (sym (planned_moved ps states order.first order.moved key)) ∙ ap (λ (xs : List SheetRow). weights_of_row (row_at xs key)) (sym filled)
      ∙ weights_opened rows key ∙ ap weights_of_row (sym (row_moved rows ys rows_apart moved key))

  pub as_many : length ys ≡ length ps
  as_many =
      let mapped : length (map opened rows) ≡ length (map open_row states) = ap length filled in
      length_permutation rows ys moved ∙ sym (length-map rows opened) ∙ mapped ∙ length-map states open_row ∙ length_permutation ps states order.moved

  agree : (s : S) (used : List ℕ) (bound : ℤ) → Agree m side s total used rows ys bound
  agree s used bound own reply d p q u =
      ap (λ (o : Option SheetRow). turn_reward m side s own reply d +ℤ bound_or m side (child_of m side s own reply d) o) (row_moved rows ys rows_apart moved (m.key (child_of m side s own reply d)))

  lawful_row : (r : SheetRow) → IsCertified m side total (planned ps) done.top rows r → IsLawfulRow m side total ys r
  lawful_row r c =
      let best = best_over m side c.state total r.weights rows ys r.bound (agree c.state r.weights r.bound) c.best in
      record {
        state = c.state;
        is_key = c.is_key;
        reached = reached_by m side (planned ps) (row_at ys) same_weights c.state c.reached;
        low = best.ranged.low;
        high = best.ranged.high;
        step = best.step;
      }

  best_row : (r : SheetRow) → IsCertified m side total (planned ps) done.top rows r → (s : S) × Reachable m s × (m.key s ≡ r.key) × IsBestStep m side s total r.weights ys r.bound
  best_row r c = (c.state, reached_reachable m side (planned ps) c.state c.reached, c.is_key, best_over m side c.state total r.weights rows ys r.bound (agree c.state r.weights r.bound) c.best)

  module _ (sheet : Sheet) (is_side : sheet.side ≡ side) (is_total : sheet.total ≡ total) (is_rows : sheet.rows ≡ ys) where
    pub lawful_sheet : IsLawful m sheet
    lawful_sheet = rw (is_side, is_total, is_rows) (record {
      rising = rows_rise rows ys rows_apart moved rising;
      rows = All-permutation (IsLawfulRow m side total ys) rows ys moved (All-weaker (IsCertified m side total (planned ps) done.top rows) (IsLawfulRow m side total ys) lawful_row rows done.each);
    })

    pub best_sheet : HasBestBounds m sheet
    best_sheet = rw (is_side, is_total, is_rows) (record {
      each = All-permutation (λ r. (s : S) × Reachable m s × (m.key s ≡ r.key) × IsBestStep m side s total r.weights ys r.bound) rows ys moved
          (All-weaker (IsCertified m side total (planned ps) done.top rows)
          (λ r. (s : S) × Reachable m s × (m.key s ≡ r.key) × IsBestStep m side s total r.weights ys r.bound) best_row rows done.each);
    })
