-- Marks of rows: what they tell stays true while keys are learnt, marks are noted and rows are passed.
use Rattle.std.proofs.Common.{◌≡◌, ◌≢◌, ◌⊎◌, inl, ⊎_elim, ℕ, ◌+◌, ◌-◌, ◌<◌, ◌≤◌, List, [], ◌∷◌, ◌++◌, replicate, slice_index, slice_set, refl, sym, ap, ◌∙◌, subst, arith}
use Rattle.std.proofs.lemmas.Bool.{cases_lt}
use Rattle.std.proofs.lemmas.List.{get_or-replicate, get_or_past, length-replicate}
use Rattle.sim_game.specs.Model.{GameModel}
use Rattle.shared_board.specs.Words.{row_after}
use Rattle.shared_board.specs.Rule.{Has}
use Rattle.shared_board.specs.Plays.{IsApart, IsLearnt}
use Rattle.shared_board.specs.Known.{IsKnownRow}
use Rattle.shared_board.specs.Marks.{mark_of, AreMarks}
use Rattle.shared_board.specs.declared.view.View.{View}
use Rattle.shared_board.proofs.ListLemmas.{has_right, set_either}
use Rattle.shared_board.proofs.ClaimLemmas.{SoFar}

blank : (rows row : ℕ) → slice_index (replicate rows 0) row ≡ 0
blank rows row = ⊎_elim (λ (lt : row < rows). get_or-replicate rows row 0 0 lt)
    (λ (ge : rows ≤ row). get_or_past (replicate rows 0) row 0 (omega (arith, length-replicate {A = ℕ} rows 0))) (cases_lt row rows)

-- there were no marks, and each row has the mark 0, or all is as it was
pub marks_room : (keys : List (ℕ × ℕ)) (old new : List ℕ) (rows : ℕ) → (new ≡ old) ⊎ ((old ≡ []) × (new ≡ replicate rows 0)) → AreMarks keys old → AreMarks keys new
marks_room keys old new rows made known = ⊎_elim (λ (same : new ≡ old). subst (AreMarks keys) (sym same) known)
    (λ (is : (old ≡ []) × (new ≡ replicate rows 0)). record { tell = λ row full. absurd (full (ap (λ (z : List ℕ). slice_index z row) is.1 ∙ blank rows row)) }) made

-- no less is known
pub marks_more : (ks old new : List (ℕ × ℕ)) (marks : List ℕ) → new ≡ ks ++ old → IsApart new → AreMarks old marks → AreMarks new marks
marks_more ks old new marks is apart known = record {
  tell = λ row full. let t = known.tell row full in
      (t.0, record { has = subst (Has (row, t.0)) (sym is) (has_right (row, t.0) ks old t.1.has); apart = apart }, t.2);
}

-- the mark of a key is noted at its row
pub marks_noted : (keys : List (ℕ × ℕ)) (old new : List ℕ) (row key : ℕ) → IsKnownRow keys key row → new ≡ slice_set old row (mark_of key) → AreMarks keys old → AreMarks keys new
marks_noted keys old new row key here is known = subst (AreMarks keys) (sym is) (record {
  tell = λ j. set_either old row (mark_of key) j 0 (λ (mark : ℕ). mark ≢ 0 → (k : ℕ) × IsKnownRow keys k j × (mark_of k ≡ mark))
      (λ e _. (key, subst (IsKnownRow keys key) e here, refl)) (known.tell j);
})

module _ {S G : Type 0} (model : G → GameModel S) where
  -- the view learnt the key of a row, and its mark is noted
  pub marks_learnt : (n k i key : ℕ) (new next : View G) (marks noted : List ℕ) → IsLearnt model new next i k n → IsKnownRow next.keys key i → noted ≡ slice_set marks i (mark_of key)
      → AreMarks new.keys marks → AreMarks next.keys noted
  marks_learnt n k i key new next marks noted l here is known = marks_noted next.keys marks noted i key here is
      (marks_more ((i, l.key) ∷ []) new.keys next.keys marks (ap (λ (v : View G). v.keys) l.known) here.apart known)

  -- the key that a taken row told
  pub told_row : (n k i : ℕ) (new next : View G) → IsLearnt model new next i k n → n ≢ 0 → Has (i, n - 1) next.keys
  told_row n k i new next l full = let old = l.is_old full in let is : n - 1 ≡ l.key = omega arith in
      subst (λ (v : View G). Has (i, n - 1) v.keys) (sym l.known) (inl (λ c. (i, is c)))

  -- a row that is marked with another mark is passed
  pub passes_marked : (rows key tried i : ℕ) (old new : View G) (marks : List ℕ) → SoFar model rows key tried old new → i ≡ row_after rows key tried → AreMarks new.keys marks
      → slice_index marks i ≢ 0 → slice_index marks i ≢ mark_of key → SoFar model rows key (tried + 1) old new
  passes_marked rows key tried i old new marks so at known full other = let t = known.tell i full in record {
    more = (so.more.0, so.more.1, omega (arith, so.more.2));
    named = so.named;
    inside = so.inside;
    apart = λ _. t.1.apart;
    passed = λ u h. ⊎_elim (λ (lt : u < tried). so.passed u lt)
        (λ (ge : tried ≤ u). let same : u ≡ tried = omega arith in let here : row_after rows key u ≡ i = ap (row_after rows key) same ∙ sym at in
        (t.0, subst (λ (z : ℕ). Has (z, t.0) new.keys) (sym here) t.1.has, λ e. other (sym t.2 ∙ ap mark_of e))) (cases_lt u tried);
  }
