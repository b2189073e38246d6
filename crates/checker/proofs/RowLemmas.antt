-- What the checks of a row say together.
use Rattle.std.proofs.Common.{◌≡◌, ℕ, ◌+◌, ◌<◌, ◌≤◌, Option, None, Some, List, length, get_or, take, sym, ap, subst, ◌∙◌, arith}
use Rattle.std.specs.Option.{MatchOption}
use Rattle.std.proofs.lemmas.List.{take_all}
use Rattle.std.proofs.lemmas.List.Elements.{All-more}
use Rattle.std.specs.List.{All}
use Rattle.sim_game.specs.Model.{GameModel, IsGame}
use Rattle.plan_book.specs.declared.Sheet.{Sheet}
use Rattle.plan_book.specs.declared.SheetRow.{SheetRow}
use Rattle.plan_book.specs.Sheets.{row_at, IsLawfulRow, IsLawful}
use Rattle.plan_book.proofs.GatherLemmas.{item_at}
use Rattle.plan_book.proofs.SheetLemmas.{reached_reachable}
use Rattle.checker.specs.declared.verdict.Why.{Why}
use Rattle.checker.specs.declared.verdict.Why.TheVariants.{Weights, Bound, Idle, Root, Outside, OutcomeWrong, ResolutionWrong}
use Rattle.checker.specs.Faults.{IsReadable, IsUsed, IsSoundAt, IsFaultAt, IsRowFault, IsFirstFault}
use Rattle.checker.specs.Found.{IsStateOf}

module _ {S : Type 0} (m : GameModel S) (sheet : Sheet) (r : SheetRow) where
  pub row_fault_is : (s : S) (w : Why) → IsUsed m sheet r.key s → IsFaultAt m sheet r s w → IsRowFault m sheet r w
  row_fault_is s (Bound side key reply amount need) used h = (s, used, h)
  row_fault_is s (Weights side key) used h = (s, used, h)
  row_fault_is s (Outside side key) used h = (s, used, h)
  row_fault_is s (Idle side key) used h = absurd h
  row_fault_is s (Root side) used h = absurd h
  row_fault_is s OutcomeWrong used h = absurd h
  row_fault_is s (ResolutionWrong want) used h = absurd h

  -- a row with no fault at its state is lawful
  lawful_row : (s : S) → IsReadable sheet → IsUsed m sheet r.key s → IsSoundAt m sheet r s → IsLawfulRow m sheet.side sheet.total sheet.rows r
  lawful_row s readable used sound = record {
    state = s;
    is_key = used.is_key;
    reached = used.reached;
    low = sound.inside.low;
    high = sound.inside.high;
    step = record {
      goes_on = used.goes_on;
      one_each = sound.whole.one_each;
      sums = sound.whole.sums;
      some = omega (arith, readable.total.0);
      proves = sound.holds;
    };
  }

  -- the rows reach no state of the key, or an end
  pub not_used : IsStateOf m sheet r.key None → (s : S) → ¬ IsUsed m sheet r.key s
  not_used none s used = none s used.reached used.is_key

  pub end_unused : (t : S) → IsGame m → IsStateOf m sheet r.key (Some t) → m.rank t ≡ 0 → (s : S) → ¬ IsUsed m sheet r.key s
  end_unused t game is stop s used =
      let same : s ≡ t = game.same_key s t (reached_reachable m sheet.side (row_at sheet.rows) s used.reached) (reached_reachable m sheet.side (row_at sheet.rows) t is.0) (used.is_key ∙ sym is.1) in
      let on = used.goes_on in
      let rank : m.rank s ≡ 0 = ap m.rank same ∙ stop in
      absurd (omega (arith, on, rank))

  row_ends : (s : S) (o : Option Why) → IsReadable sheet → IsUsed m sheet r.key s → MatchOption o (IsSoundAt m sheet r s) (IsFaultAt m sheet r s)
      → MatchOption o (IsLawfulRow m sheet.side sheet.total sheet.rows r) (IsRowFault m sheet r)
  row_ends s None readable used h = lawful_row s readable used h
  row_ends s (Some w) readable used h = row_fault_is s w used h

  -- the state goes on
  pub state_ends : (s : S) (o : Option Why) → IsReadable sheet → IsStateOf m sheet r.key (Some s) → 1 ≤ m.rank s → MatchOption o (IsSoundAt m sheet r s) (IsFaultAt m sheet r s)
      → MatchOption o (IsLawfulRow m sheet.side sheet.total sheet.rows r) (IsRowFault m sheet r)
  state_ends s o readable is on h = row_ends s o readable (record { reached = is.0; goes_on = on; is_key = is.1 }) h

-- ---- the rows so far
module _ {S : Type 0} (m : GameModel S) (sheet : Sheet) (i : ℕ) where
  abbrev pub AreLawfulBelow : ℕ → Type 0
  AreLawfulBelow n = All (IsLawfulRow m sheet.side sheet.total sheet.rows) (take n sheet.rows)

  pub rows_more : (r : SheetRow) → i < length sheet.rows → r ≡ get_or sheet.rows i r → AreLawfulBelow i → IsLawfulRow m sheet.side sheet.total sheet.rows r → AreLawfulBelow (i + 1)
  rows_more r p is all here = All-more (IsLawfulRow m sheet.side sheet.total sheet.rows) sheet.rows i r p all (subst (IsLawfulRow m sheet.side sheet.total sheet.rows) is here)

  pub first_here : (r : SheetRow) (w : Why) → i < length sheet.rows → r ≡ get_or sheet.rows i r → AreLawfulBelow i → IsRowFault m sheet r w → IsFirstFault m sheet w
  first_here r w p is all fault = record { place = i; row = r; stands = item_at sheet.rows i r p is; before = all; fault = fault }

  pub rows_all : IsReadable sheet → length sheet.rows ≤ i → AreLawfulBelow i → IsLawful m sheet
  rows_all readable p all = record { rising = readable.rising; rows = subst (λ (xs : List SheetRow). All (IsLawfulRow m sheet.side sheet.total sheet.rows) xs) (take_all i sheet.rows p) all }
