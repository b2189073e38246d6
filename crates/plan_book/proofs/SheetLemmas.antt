-- A lawful sheet guarantees its bound.
use Rattle.std.proofs.Common.{◌≡◌, ℕ, zero, suc, ◌<◌, ◌≤◌, Bool, true, false, cond, eqb, ℤ, Option, None, Some, List, [], ◌∷◌, length, drop, slice_get, get_or, inl, inr, refl, sym, ap, subst, ◌∙◌, arith}
use Rattle.std.specs.List.{All, AllByRecursion}
use Rattle.std.proofs.lemmas.Bool.{cases_eq, eqb-true}
use Rattle.std.proofs.lemmas.List.Elements.{recursion_from_All}
use Rattle.sim_game.specs.declared.Side.{Side}
use Rattle.sim_game.specs.Model.{GameModel, Turn, IsHistory, IsGame, Reachable, after_turn}
use Rattle.sim_game.proofs.ReachLemmas.{reachable_root}
use Rattle.plan_book.specs.declared.Sheet.{Sheet}
use Rattle.plan_book.specs.declared.SheetRow.{SheetRow}
use Rattle.plan_book.specs.Expected.{Guarantees}
use Rattle.plan_book.specs.Plans.{Plan, weights_at}
use Rattle.plan_book.specs.Sheets.{row_at, bound_or, bound_at, IsKeptHistory, IsReached, IsLawfulRow, IsLawful, plan_of, root_bound}
use Rattle.sim_game.specs.Sides.{state_bound, end_bound, over_turns}
use Rattle.plan_book.specs.Steps.{IsStep}
use Rattle.plan_book.proofs.ExpectedLemmas.{is_same, is_other}
use Rattle.plan_book.proofs.PlayedLemmas.{plays_row}
use Rattle.plan_book.proofs.GuaranteeLemmas.{IsGuaranteed, IsKept, at_end, by_step, known, guaranteed, range_guaranteed, stakes_are}
use Rattle.sim_game.proofs.SideLemmas.{looser_refl, looser_left}

-- ---- rows
found_here : (P : SheetRow → Type 0) (b : Bool) (r row : SheetRow) (rest : Option SheetRow) (key : ℕ) → P r → eqb r.key key ≡ b → (rest ≡ Some row → P row × (row.key ≡ key))
    → cond b (Some r) rest ≡ Some row → P row × (row.key ≡ key)
found_here P true r row rest key p same below e = let it : r ≡ row = cc in subst (λ (x : SheetRow). P x × (x.key ≡ key)) it (p, eqb-true r.key key same)
found_here P false r row rest key p other below e = below e

found_by : (P : SheetRow → Type 0) (rows : List SheetRow) (key : ℕ) (row : SheetRow) → AllByRecursion P rows → row_at rows key ≡ Some row → P row × (row.key ≡ key)
found_by P [] key row all e = absurd (cc)
found_by P (r ∷ rows) key row all e = found_here P (eqb r.key key) r row (row_at rows key) key all.0 refl (found_by P rows key row all.1) e

-- the row found is one of the rows, and has the key
pub found : (P : SheetRow → Type 0) (rows : List SheetRow) (key : ℕ) (row : SheetRow) → All P rows → row_at rows key ≡ Some row → P row × (row.key ≡ key)
found P rows key row all e = found_by P rows key row (recursion_from_All P rows all) e

-- a row of the key is the first from its place on
pub row_from : (rows : List SheetRow) (i key : ℕ) (item : SheetRow) → i < length rows → item ≡ get_or rows i item → item.key ≡ key → row_at (drop i rows) key ≡ slice_get rows i
row_from [] i key item h e k = absurd (omega arith)
row_from (r ∷ rows) zero key item h e k = let same : r.key ≡ key = ap (λ (x : SheetRow). x.key) (sym e) ∙ k in rw (is_same r.key key same) refl
row_from (r ∷ rows) (suc i) key item h e k = row_from rows i key item (omega arith) e k

-- ---- states that a sheet reaches
kept_legal : {S : Type 0} (m : GameModel S) (side : Side) (rows : ℕ → Option SheetRow) (s : S) (h : List Turn) → IsKeptHistory m side rows s h → IsHistory m s h
kept_legal m side rows s [] k = tt
kept_legal m side rows s (t ∷ h) k = (k.0.turn, kept_legal m side rows (after_turn m s t) h k.1)

pub reached_reachable : {S : Type 0} (m : GameModel S) (side : Side) (rows : ℕ → Option SheetRow) (s : S) → IsReached m side rows s → Reachable m s
reached_reachable m side rows s r = record { history = r.history; legal = kept_legal m side rows m.root r.history r.kept; leads = r.leads }

-- ---- the bounds of a lawful sheet are guaranteed
module _ {S : Type 0} (m : GameModel S) (game : IsGame m) (sheet : Sheet) (lawful : IsLawful m sheet) where
  -- the row of a reachable state proves its bound there
  pub row_step : (s : S) (row : SheetRow) → Reachable m s → row_at sheet.rows (m.key s) ≡ Some row
      → IsStep m sheet.side s sheet.total row.weights (over_turns m sheet.side s (bound_at m sheet.side sheet.rows)) row.bound
  row_step s row r e =
      let here = found (IsLawfulRow m sheet.side sheet.total sheet.rows) sheet.rows (m.key s) row lawful.rows e in
      let same : here.0.state ≡ s = game.same_key here.0.state s (reached_reachable m sheet.side (row_at sheet.rows) here.0.state here.0.reached) r (here.0.is_key ∙ here.1) in
      subst (λ (x : S). IsStep m sheet.side x sheet.total row.weights (over_turns m sheet.side x (bound_at m sheet.side sheet.rows)) row.bound) same here.0.step

  kept_row : (reply : Plan) (s : S) (history : List Turn) → Reachable m s → (found_row : Option SheetRow) → row_at sheet.rows (m.key s) ≡ found_row
      → IsKept m game sheet.side (plan_of sheet) reply (bound_at m sheet.side sheet.rows) s history
  kept_row reply s history r None e = elim (cases_eq (m.rank s) 0) [
    | inl stop ↦
        let here : bound_at m sheet.side sheet.rows s ≡ end_bound m s =
        ap (bound_or m sheet.side s) e ∙ ap (λ (b : Bool). cond b (end_bound m s) (state_bound m sheet.side s)) (is_same (m.rank s) 0 stop) in
        at_end s history stop (looser_left sheet.side _ _ _ (sym here) (looser_refl sheet.side (end_bound m s)))
    | inr on ↦
        let here : bound_at m sheet.side sheet.rows s ≡ state_bound m sheet.side s =
        ap (bound_or m sheet.side s) e ∙ ap (λ (b : Bool). cond b (end_bound m s) (state_bound m sheet.side s)) (is_other (m.rank s) 0 on) in
        known s history (λ turns enough. subst (λ (x : ℤ). IsGuaranteed m game sheet.side (plan_of sheet) reply x turns s history) (sym here)
        (range_guaranteed m game sheet.side (plan_of sheet) reply turns s history r enough))
  ]
  kept_row reply s history r (Some row) e =
      let step = row_step s row r e in
      let here : bound_at m sheet.side sheet.rows s ≡ row.bound = ap (bound_or m sheet.side s) e in
      let weights : weights_at m sheet.side (plan_of sheet) s history ≡ row.weights =
      plays_row m sheet.side sheet s history lawful.rising row e (record { one_each = step.one_each; sums = step.sums }) in
      by_step s history step.goes_on (λ q p. rw (here, weights) (step.proves q p))

  pub sheet_guarantees : 1 ≤ sheet.total → Guarantees m sheet.side (plan_of sheet) (root_bound m sheet)
  sheet_guarantees weighs = record {
    some = weighs;
    against = λ reply some. rw (stakes_are sheet.side (plan_of sheet) reply)
        (guaranteed m game sheet.side (plan_of sheet) reply (bound_at m sheet.side sheet.rows) (λ s history r. kept_row reply s history r (row_at sheet.rows (m.key s)) refl)
        (m.rank m.root) m.root [] (reachable_root m) (omega arith));
  }
