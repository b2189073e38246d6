-- The best entries that are taken as rows, and the places of those that are left.
use Rattle.std.proofs.Common.{◌≡◌, ℕ, Bool, true, false, cond, eqb, Option, None, Some, List, [], ◌∷◌, ◌++◌, get_or, refl, sym, ap, subst, ◌∙◌, arith}
use Rattle.std.proofs.lemmas.Bool.Decides.{nat_tests}
use Rattle.std.proofs.lemmas.Cmp.{nat_eq_equiv}
use Rattle.std.proofs.lemmas.Grind.{common_steps}
use Rattle.std.proofs.lemmas.List.Elements.{All-push}
use Rattle.std.proofs.lemmas.Map.Keys.{IsDistinct-push}
use Rattle.std.specs.List.{IsDistinct}
use Rattle.std.specs.Option.{is_some}
use Rattle.sim_game.specs.declared.Side.{Side}
use Rattle.sim_game.specs.Model.{GameModel}
use Rattle.plan_book.specs.Books.{ArePlaces, best_row, row_of}
use Rattle.plan_book.specs.Gathered.{AreTaken, IsFoundRow}
use Rattle.plan_book.specs.Sheets.{row_at, IsReached}
use Rattle.plan_book.specs.declared.Entry.{Entry}
use Rattle.plan_book.specs.declared.SheetRow.{SheetRow}
use Rattle.plan_book.proofs.BestLemmas.{best_keyed}
use Rattle.plan_book.proofs.FoundLemmas.{row_listed}
use Rattle.plan_book.proofs.LookupLemmas.{row_keys}
use Rattle.plan_book.proofs.WalkLemmas.{entry_here, row_here}

-- a row more, of a key that has none
pub row_pushed : (rows : List SheetRow) (r : SheetRow) (key q : ℕ) → r.key ≡ key → is_some (row_at rows key) ≡ false → row_at (rows ++ r ∷ []) q ≡ cond (eqb key q) (Some r) (row_at rows q)
row_pushed [] r key q is none = rw is refl
row_pushed (x ∷ rows) r key q is none = grind (arith, common_steps, nat_tests, row_pushed rows r key q is)

keys_pushed : (rows : List SheetRow) (r : SheetRow) → row_keys (rows ++ r ∷ []) ≡ row_keys rows ++ r.key ∷ []
keys_pushed [] r = refl
keys_pushed (x ∷ rows) r = ap (λ ks. x.key ∷ ks) (keys_pushed rows r)

left_more : (here : Bool) (r : SheetRow) (old : Option SheetRow) (place : Option ℕ) → cond here None (cond (is_some old) None place) ≡ cond (is_some (cond here (Some r) old)) None place
left_more true r old place = refl
left_more false r old place = refl

place_left : (taken : Bool) (old place : Option ℕ) (i : ℕ) → old ≡ cond taken None place → old ≡ Some i → (taken ≡ false) × (place ≡ Some i)
place_left true old place i is at = absurd (cc)
place_left false old place i is at = (refl, sym is ∙ at)

-- none is taken
pub all_left : {S : Type 0} (m : GameModel S) (side : Side) (entries : List Entry) (places : ℕ → Option ℕ) → ArePlaces side entries places → AreTaken m side entries places []
unfolding IsDistinct
all_left m side entries places are = record { places = places; are = are; others = λ key. refl; each = λ k d h. absurd (omega arith); distinct = tt }

module _ {S : Type 0} (m : GameModel S) (side : Side) (entries : List Entry) (left : ℕ → Option ℕ) (rows : List SheetRow) (taken : AreTaken m side entries left rows)
    (s : S) (i : ℕ) (e : Entry) (is : left (m.key s) ≡ Some i) (item : e ≡ get_or entries i e) where
  found : (is_some (row_at rows (m.key s)) ≡ false) × (taken.places (m.key s) ≡ Some i)
  found = place_left _ (left (m.key s)) (taken.places (m.key s)) i (taken.others (m.key s)) is

  pub left_row : best_row side entries (m.key s) ≡ Some (row_of e)
  left_row = row_here side entries (m.key s) e (entry_here side entries taken.places (m.key s) i e taken.are found.1 item)

  pub row_more : (q : ℕ) → row_at (rows ++ row_of e ∷ []) q ≡ cond (eqb (m.key s) q) (Some (row_of e)) (row_at rows q)
  row_more q = row_pushed rows (row_of e) (m.key s) q (best_keyed side entries (m.key s) (row_of e) left_row) found.0

  -- the entry at a place that is left is taken
  pub taken_more : (now : ℕ → Option ℕ) → IsReached m side (best_row side entries) s → ((q : ℕ) → now q ≡ cond (eqb (m.key s) q) None (left q)) → AreTaken m side entries now (rows ++ row_of e ∷ [])
  taken_more now r new =
      let keyed : e.key ≡ m.key s = best_keyed side entries (m.key s) (row_of e) left_row in
      record {
        places = taken.places;
        are = taken.are;
        others = λ q. new q ∙ ap (λ (o : Option ℕ). cond (eqb (m.key s) q) None o) (taken.others q) ∙ left_more (eqb (m.key s) q) (row_of e) (row_at rows q) (taken.places q)
            ∙ ap (λ (o : Option SheetRow). cond (is_some o) None (taken.places q)) (sym (row_more q));
        each = All-push (IsFoundRow m side entries) rows (row_of e) taken.each (s, r, sym keyed, subst (λ (k : ℕ). best_row side entries k ≡ Some (row_of e)) (sym keyed) left_row);
        distinct = rw (keys_pushed rows (row_of e)) (IsDistinct-push nat_eq_equiv (row_keys rows) e.key taken.distinct (rw keyed (sym (row_listed rows (m.key s)) ∙ found.0)));
      }
