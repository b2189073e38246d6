-- The best entries of a book are a lawful sheet.
use Rattle.std.proofs.Common.{◌≡◌, ℕ, ◌<◌, ◌≤◌, Bool, true, false, cond, ◌&&◌, eqb, ℤ, ◌-ℤ◌, Option, None, Some, option_map, Result, Ok, Err, List, [], ◌∷◌, ◌++◌, fold, get_or, slice_index_or, refl, sym, ap, subst, ◌∙◌, arith}
use Rattle.std.specs.Prelude.{IsSomeAnd, IfOk}
use Rattle.std.specs.List.{All, AllByRecursion}
use Rattle.std.proofs.lemmas.Bool.{eqb-true}
use Rattle.std.proofs.lemmas.List.Elements.{recursion_from_All, All-weaker}
use Rattle.sim_game.specs.declared.Side.{Side}
use Rattle.sim_game.specs.declared.Side.TheVariants.{One, Two}
use Rattle.sim_game.specs.Model.{GameModel, Turn, IsGame, Reachable, after_turn, after_history}
use Rattle.plan_book.specs.declared.Entry.{Entry}
use Rattle.plan_book.specs.declared.Sheet.{Sheet}
use Rattle.plan_book.specs.declared.SheetRow.{SheetRow}
use Rattle.plan_book.specs.Books.{same_side, beats, better_entry, best_entry, row_of, best_row, best_posted, book_bound, IsBooked, IsClosed, IsBestSheet}
use Rattle.plan_book.specs.Entries.{IsEntry}
use Rattle.plan_book.specs.Sheets.{row_at, bound_or, IsKeptTurn, IsKeptHistory, IsReached, IsLawfulRow, IsLawful}
use Rattle.sim_game.specs.Sides.{other_side, IsNoTighter, better, state_bound, end_bound, own_move, turn_of, draws_of, child_of, turn_reward, after_reward}
use Rattle.plan_book.specs.Steps.{IsStep}
use Rattle.plan_book.proofs.SheetLemmas.{reached_reachable}
use Rattle.sim_game.proofs.SideLemmas.{looser_right, looser_more, better_is, better_other, opening_state, side_turn}
use Rattle.plan_book.proofs.StepLemmas.{step_mono}
use Rattle.plan_book.proofs.BookLemmas.{same_side_true, and_left, and_right, IsRanged, bound_kept, best_kept, entry_in_state, entry_range}
use Rattle.plan_book.proofs.ExpectedLemmas.{is_other}

-- ---- reached states
kept_more : {S : Type 0} (m : GameModel S) (side : Side) (rows : ℕ → Option SheetRow) (s : S) (h : List Turn) (t : Turn)
    → IsKeptHistory m side rows s h → IsKeptTurn m side rows (after_history m s h) t
    → IsKeptHistory m side rows s (h ++ t ∷ [])
kept_more m side rows s [] t kept last = (last, tt)
kept_more m side rows s (u ∷ h) t kept last = (kept.0, kept_more m side rows (after_turn m s u) h t kept.1 last)

after_more : {S : Type 0} (m : GameModel S) (s : S) (h : List Turn) (t : Turn) → after_history m s (h ++ t ∷ []) ≡ after_turn m (after_history m s h) t
after_more m s [] t = refl
after_more m s (u ∷ h) t = after_more m (after_turn m s u) h t

pub reached_root : {S : Type 0} (m : GameModel S) (side : Side) (rows : ℕ → Option SheetRow) → IsReached m side rows m.root
reached_root m side rows = record { history = []; kept = tt; leads = refl }

pub reached_turn : {S : Type 0} (m : GameModel S) (side : Side) (rows : ℕ → Option SheetRow) (s : S) (t : Turn) → IsReached m side rows s
    → IsKeptTurn m side rows s t → IsReached m side rows (after_turn m s t)
reached_turn m side rows s t r turn = record {
  history = r.history ++ t ∷ [];
  kept = kept_more m side rows m.root r.history t r.kept (rw r.leads turn);
  leads = after_more m m.root r.history t ∙ ap (λ u. after_turn m u t) r.leads;
}

-- rows that agree on the states that are reached reach the same
module _ {S : Type 0} (m : GameModel S) (side : Side) (rows others : ℕ → Option SheetRow) (agree : (s : S) → IsReached m side rows s → others (m.key s) ≡ rows (m.key s)) where
  agree_along : (s : S) (h : List Turn) → IsReached m side rows s → IsKeptHistory m side rows s h → IsKeptHistory m side others s h
  agree_along s [] r kept = tt
  agree_along s (t ∷ h) r kept = (
    record { turn = kept.0.turn; played = subst (λ (o : Option SheetRow). IsSomeAnd o (λ x. 1 ≤ get_or x.weights (own_move side t) 0)) (sym (agree s r)) kept.0.played },
    agree_along (after_turn m s t) h (reached_turn m side rows s t r kept.0) kept.1,
  )

  pub reached_too : (s : S) → IsReached m side rows s → IsReached m side others s
  reached_too s r = record { history = r.history; kept = agree_along m.root r.history (reached_root m side rows) r.kept; leads = r.leads }

-- ---- the best entry
pub record IsFound (P : Entry → Type 0) (side : Side) (key : ℕ) (e : Entry) : Type 0 where
  pub holds : P e
  pub is_key : e.key ≡ key
  pub is_side : e.side ≡ side

kept_after : (P : Entry → Type 0) (side : Side) (key : ℕ) (here : Bool) (kept : Option Entry) (e f : Entry)
    → ((g : Entry) → kept ≡ Some g → IsFound P side key g) → (here ≡ true → IsFound P side key e)
    → cond here (Some e) kept ≡ Some f → IsFound P side key f
kept_after P side key false kept e f before first h = before f h
kept_after P side key true kept e f before first h = let it : e ≡ f = cc in subst (IsFound P side key) it (first refl)

found_from : (P : Entry → Type 0) (side : Side) (entries : List Entry) (key : ℕ) (kept : Option Entry) (e : Entry) → AllByRecursion P entries → ((g : Entry) → kept ≡ Some g → IsFound P side key g)
    → fold (better_entry side key) kept entries ≡ Some e → IsFound P side key e
found_from P side [] key kept e all before h = before e h
found_from P side (x ∷ entries) key kept e all before h =
    found_from P side entries key (better_entry side key kept x) e all.1
    (λ g h'. kept_after P side key (same_side x.side side && (eqb x.key key && beats side x kept)) kept x g before
    (λ here. record { holds = all.0; is_key = eqb-true x.key key (and_left _ _ (and_right _ _ here)); is_side = same_side_true x.side side (and_left _ _ here) }) h')
    h

best_found : (P : Entry → Type 0) (side : Side) (entries : List Entry) (key : ℕ) (e : Entry) → AllByRecursion P entries → best_entry side entries key ≡ Some e → IsFound P side key e
best_found P side entries key e all h = found_from P side entries key None e all (λ g h'. absurd (cc)) h

-- the entry behind a row
pub row_entry : (P : Entry → Type 0) (side : Side) (entries : List Entry) (key : ℕ) (r : SheetRow) → All P entries
    → best_row side entries key ≡ Some r → (e : Entry) × IsFound P side key e × (row_of e ≡ r)
row_entry P side entries key r all h = go (best_entry side entries key) refl h
  where
    go : (o : Option Entry) → best_entry side entries key ≡ o → option_map row_of o ≡ Some r → (e : Entry) × IsFound P side key e × (row_of e ≡ r)
    go None e' h' = absurd (cc)
    go (Some e) e' h' = (e, best_found P side entries key e (recursion_from_All P entries all) e', cc)

-- a best row has the key that it is asked for
pub best_keyed : (side : Side) (entries : List Entry) (key : ℕ) (r : SheetRow) → best_row side entries key ≡ Some r → r.key ≡ key
best_keyed side entries key r h =
    let behind = row_entry (λ _. Unit {0}) side entries key r (λ _ _ _. tt) h in
    ap (λ (x : SheetRow). x.key) (sym behind.2) ∙ behind.1.is_key

-- what a book has at a state is the bound of the best row there
pub book_row : {S : Type 0} (m : GameModel S) → IsGame m → (total : ℕ) (Known : Side → S → ℤ → Type 0) (entries : List Entry)
    → All (IsEntry m total Known) entries → (side : Side) (s : S) → Reachable m s
    → book_bound m entries side s ≡ bound_or m side s (best_row side entries (m.key s))
book_row {S} m game total Known entries each side s r = go (best_entry side entries (m.key s)) refl
  where
    ranged : AllByRecursion (IsRanged m side) entries
    ranged = recursion_from_All (IsRanged m side) entries (All-weaker (IsEntry m total Known) (IsRanged m side) (λ e entry is_side. entry_range m game total Known side e entry) entries each)

    best : (o : Option Entry) → best_entry side entries (m.key s) ≡ o → best_posted m entries side (m.key s) ≡ bound_kept m side o
    best o e = sym (best_kept m side (m.key s) entries ranged) ∙ ap (bound_kept m side) e

    here : (o : Option Entry) → best_entry side entries (m.key s) ≡ o → bound_or m side s (best_row side entries (m.key s)) ≡ bound_or m side s (option_map row_of o)
    here o e = ap (λ (x : Option Entry). bound_or m side s (option_map row_of x)) e

    go : (o : Option Entry) → best_entry side entries (m.key s) ≡ o → book_bound m entries side s ≡ bound_or m side s (best_row side entries (m.key s))
    go None e =
        ap (λ (x : ℤ). cond (eqb (m.rank s) 0) (end_bound m s) x)
        (ap (λ (x : ℤ). better side x (state_bound m side s)) (best None e) ∙ better_other side _ (state_bound m side s) (opening_state m side s game r))
        ∙ sym (here None e)
    go (Some e) is =
        let it = best_found (IsEntry m total Known) side entries (m.key s) e (recursion_from_All (IsEntry m total Known) entries each) is in
        let same : it.holds.state ≡ s = game.same_key it.holds.state s it.holds.reachable r (it.holds.is_key ∙ it.is_key) in
        let goes_on : 1 ≤ m.rank s = subst (λ (x : S). 1 ≤ m.rank x) same it.holds.step.goes_on in
        let range : IsNoTighter side (state_bound m side s) e.bound =
        subst (λ (x : S). IsNoTighter side (state_bound m side x) e.bound) same (entry_in_state m total Known side e it.holds) in
        ap (λ (b : Bool). cond b (end_bound m s) (better side (best_posted m entries side (m.key s)) (state_bound m side s))) (is_other (m.rank s) 0 (λ z. absurd (omega arith)))
        ∙ ap (λ (x : ℤ). better side x (state_bound m side s)) (best (Some e) is) ∙ better_is side e.bound (state_bound m side s) range ∙ sym (here (Some e) is)

-- ---- the best sheet
own_move_is : (side : Side) (own reply draw : ℕ) → own_move side (turn_of side own reply draw) ≡ own
own_move_is One own reply draw = refl
own_move_is Two own reply draw = refl

module _ {S : Type 0} (m : GameModel S) (game : IsGame m) (entries : List Entry) (total : ℕ) (closed : IsClosed m total entries) (rows : List SheetRow) where
  -- a best entry at a state that the best entries reach
  entry_row : (e : Entry) (s : S) → IsEntry m total (IsBooked m entries) e → IsBestSheet m e.side entries rows → IsReached m e.side (best_row e.side entries) s → m.key s ≡ e.key
      → best_row e.side entries e.key ≡ Some (row_of e) → IsLawfulRow m e.side total rows (row_of e)
  entry_row e s entry best reached key_is row_is =
      let r : Reachable m s = reached_reachable m e.side (best_row e.side entries) s reached in
      let same : entry.state ≡ s = game.same_key entry.state s entry.reachable r (entry.is_key ∙ sym key_is) in
      let step : IsStep m e.side s total e.weights entry.numbers e.bound = subst (λ (x : S). IsStep m e.side x total e.weights entry.numbers e.bound) same entry.step in
      let row : best_row e.side entries (m.key s) ≡ Some (row_of e) = rw key_is row_is in
      let in_range : (of : Side) → IsNoTighter of (state_bound m of s) e.bound = λ of.
      subst (λ (x : S). IsNoTighter of (state_bound m of x) e.bound) same (entry_in_state m total (IsBooked m entries) of e entry) in
      record {
        state = s;
        is_key = key_is;
        reached = reached_too m e.side (best_row e.side entries) (row_at rows) best.kept s reached;
        low = in_range One;
        high = in_range Two;
        step = step_mono m e.side s total e.weights _ _ e.bound step (λ own reply d p q u w.
            let turn : IsKeptTurn m e.side (best_row e.side entries) s (turn_of e.side own reply d) = record {
              turn = side_turn m e.side s own reply d p q u;
              played = subst (λ (o : Option SheetRow). IsSomeAnd o (λ x. 1 ≤ get_or x.weights (own_move e.side (turn_of e.side own reply d)) 0)) (sym row) (rw (own_move_is e.side own reply d) w);
            } in
            let child : S = child_of m e.side s own reply d in
            let next = reached_turn m e.side (best_row e.side entries) s (turn_of e.side own reply d) reached turn in
            let kept : bound_or m e.side child (best_row e.side entries (m.key child)) ≡ bound_or m e.side child (row_at rows (m.key child)) =
            ap (bound_or m e.side child) (sym (best.kept child next)) in
            let pay : ℤ = turn_reward m e.side s own reply d in
            let booked : IsNoTighter e.side (entry.numbers own reply d -ℤ pay) (book_bound m entries e.side child) =
            subst (λ (x : S). own < m.moves e.side x → reply < m.moves (other_side e.side) x → d < draws_of m e.side x own reply
            → after_reward m e.side x own reply d (IsBooked m entries e.side) (entry.numbers own reply d))
            same (λ p' q' u'. entry.known own reply d p' q' u' w) p q u in
            looser_more e.side pay _ _
            (looser_right e.side _ _ _ (book_row m game total (IsBooked m entries) entries closed e.side child (reached_reachable m e.side (best_row e.side entries) child next) ∙ kept) booked));
      }

-- the sheet of the best entries of a closed book is lawful
pub best_lawful : {S : Type 0} (m : GameModel S) → IsGame m → (entries : List Entry) (sheet : Sheet) → IsClosed m sheet.total entries → IsBestSheet m sheet.side entries sheet.rows → IsLawful m sheet
best_lawful {S} m game entries sheet closed best = record {
  rising = best.rising;
  rows = λ k d h.
      let r : SheetRow = slice_index_or sheet.rows k d in
      let here = best.only k d h in
      let behind = row_entry (IsEntry m sheet.total (IsBooked m entries)) sheet.side entries r.key r closed here.3 in
      let e : Entry = behind.0 in
      let P : Side → Type 0 = λ side. IsBestSheet m side entries sheet.rows → IsReached m side (best_row side entries) here.0 → best_row side entries e.key ≡ Some (row_of e)
      → IsLawfulRow m side sheet.total sheet.rows (row_of e) in
      let row_key : r.key ≡ e.key = sym behind.1.is_key in
      subst (IsLawfulRow m sheet.side sheet.total sheet.rows) behind.2
      (subst P behind.1.is_side (λ b reached row_is. entry_row m game entries sheet.total closed sheet.rows e here.0 behind.1.holds b reached (here.2 ∙ row_key) row_is)
      best here.1 (subst (λ (k' : ℕ). best_row sheet.side entries k' ≡ Some (row_of e)) row_key (here.3 ∙ ap Some (sym behind.2))));
}

-- the same of a call that may fail
pub result_lawful : {S E : Type 0} (m : GameModel S) → IsGame m → (side : Side) (total : ℕ) (entries : List Entry) (result : Result Sheet E) → IsClosed m total entries
    → IfOk result (λ sheet. sheet.side ≡ side) → IfOk result (λ sheet. sheet.total ≡ total) → IfOk result (λ sheet. IsBestSheet m side entries sheet.rows) → IfOk result (IsLawful m)
result_lawful m game side total entries (Ok sheet) closed is_side is_total best =
    best_lawful m game entries sheet (subst (λ (n : ℕ). IsClosed m n entries) (sym is_total) closed) (subst (λ (x : Side). IsBestSheet m x entries sheet.rows) (sym is_side) best)
result_lawful m game side total entries (Err e) closed is_side is_total best = tt
