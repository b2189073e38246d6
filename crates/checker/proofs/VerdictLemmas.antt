-- A report has one verdict.
use Rattle.std.proofs.Common.{◌≡◌, ℕ, ◌+◌, ◌*◌, ◌<◌, ℤ, pos, Some, zero, suc, cond, List, [], ◌∷◌, length, get_or, slice_get, inl, inr, sym, ap, subst, ◌∙◌, arith, take, refl, w64, SFits, to_z, of_z}
use Rattle.std.proofs.lemmas.Bool.{cases_lt}
use Rattle.std.proofs.lemmas.Int.{to_z-of_z}
use Rattle.std.proofs.lemmas.List.{get_or-take, length-take}
use Rattle.std.proofs.lemmas.List.Elements.{All-get_or}
use Rattle.sim_game.specs.declared.Side.{Side}
use Rattle.sim_game.specs.declared.Side.TheVariants.{One, Two}
use Rattle.sim_game.specs.Model.{GameModel, IsGame}
use Rattle.sim_game.specs.Sides.{other_side, IsNoTighter}
use Rattle.sim_game.specs.Resolution.{IsLeastGap, payoff_range}
use Rattle.sim_game.proofs.SideLemmas.{tighter_not}
use Rattle.plan_book.specs.declared.Sheet.{Sheet}
use Rattle.plan_book.specs.declared.SheetRow.{SheetRow}
use Rattle.plan_book.specs.Sheets.{row_at, IsLawfulRow, IsLawful}
use Rattle.plan_book.proofs.SheetLemmas.{reached_reachable}
use Rattle.certificate.specs.declared.report.Report.{Report}
use Rattle.checker.specs.declared.verdict.Why.{Why}
use Rattle.checker.specs.declared.verdict.Why.TheVariants.{Weights, Bound, Idle, Root, Outside, OutcomeWrong, ResolutionWrong}
use Rattle.checker.specs.declared.verdict.Verdict.{Verdict}
use Rattle.checker.specs.declared.verdict.Verdict.TheVariants.{Accepted, Refused}
use Rattle.checker.specs.Faults.{IsInside, IsUsed, HasWholeWeights, worth_of, need_of, IsRowFault, IsFirstFault, IsReplyFault, IsFirstReply}
use Rattle.checker.specs.Verdicts.{IsRight, IsResolutionFor, IsNumberFault, IsFirstWhy, IsVerdict}

pub same_number : (x y : ℤ) → SFits w64 x → SFits w64 y → of_z w64 x ≡ of_z w64 y → x ≡ y
same_number x y p q e = sym (to_z-of_z w64 x p) ∙ ap (to_z w64) e ∙ to_z-of_z w64 y q

-- ---- a row of a lawful sheet has no fault
stands_item : (xs : List SheetRow) (i : ℕ) (r : SheetRow) → slice_get xs i ≡ Some r → (i < length xs) × (get_or xs i r ≡ r)
stands_item [] i r e = absurd (cc)
stands_item (x ∷ xs) zero r e = (omega arith, (let it : x ≡ r = cc in it))
stands_item (x ∷ xs) (suc i) r e = let rest = stands_item xs i r e in (omega (arith, rest.0), rest.1)

module _ {S : Type 0} (m : GameModel S) (game : IsGame m) (sheet : Sheet) (r : SheetRow) (lawful : IsLawfulRow m sheet.side sheet.total sheet.rows r) where
  same_state : (s : S) → IsUsed m sheet r.key s → lawful.state ≡ s
  same_state s used =
      game.same_key lawful.state s (reached_reachable m sheet.side (row_at sheet.rows) lawful.state lawful.reached)
      (reached_reachable m sheet.side (row_at sheet.rows) s used.reached) (lawful.is_key ∙ sym used.is_key)

  whole_here : (s : S) → IsUsed m sheet r.key s → HasWholeWeights m sheet r s
  whole_here s used = subst (HasWholeWeights m sheet r) (same_state s used) (record { one_each = lawful.step.one_each; sums = lawful.step.sums })

  inside_here : (s : S) → IsUsed m sheet r.key s → IsInside m r s
  inside_here s used = subst (IsInside m r) (same_state s used) (record { low = lawful.low; high = lawful.high })

  reply_here : (s : S) (q : ℕ) → IsUsed m sheet r.key s → q < m.moves (other_side sheet.side) s → IsNoTighter sheet.side (need_of sheet r) (worth_of m sheet r.weights s q)
  reply_here s q used p =
      let same = same_state s used in
      subst (λ (x : S). IsNoTighter sheet.side (need_of sheet r) (worth_of m sheet r.weights x q)) same
      (lawful.step.proves q (subst (λ (x : S). q < m.moves (other_side sheet.side) x) (sym same) p))

  no_row_fault : (w : Why) → IsRowFault m sheet r w → ⊥
  no_row_fault (Idle side key) h = h.2 lawful.state (record { reached = lawful.reached; goes_on = lawful.step.goes_on; is_key = lawful.is_key })
  no_row_fault (Weights side key) h = h.2.2 (whole_here h.0 h.1)
  no_row_fault (Outside side key) h = h.2.3 (inside_here h.0 h.1)
  no_row_fault (Bound side key reply amount need) h = tighter_not sheet.side _ _ h.2.2.2.fails (reply_here h.0 reply h.1 h.2.2.2.in_range)
  no_row_fault (Root side) h = h.2
  no_row_fault OutcomeWrong h = h.2
  no_row_fault (ResolutionWrong want) h = h.2

no_fault : {S : Type 0} (m : GameModel S) → IsGame m → (sheet : Sheet) (w : Why) → IsLawful m sheet → IsFirstFault m sheet w → ⊥
no_fault m game sheet w lawful h =
    let it = stands_item sheet.rows h.place h.row h.stands in
    no_row_fault m game sheet h.row
    (subst (IsLawfulRow m sheet.side sheet.total sheet.rows) it.1 (All-get_or (IsLawfulRow m sheet.side sheet.total sheet.rows) sheet.rows h.place h.row it.0 lawful.rows)) w h.fault

-- ---- a sheet has one first fault
module _ {S : Type 0} (m : GameModel S) (game : IsGame m) (sheet : Sheet) (r : SheetRow) where
  used_once : (s t : S) → IsUsed m sheet r.key s → IsUsed m sheet r.key t → s ≡ t
  used_once s t p q = game.same_key s t (reached_reachable m sheet.side (row_at sheet.rows) s p.reached) (reached_reachable m sheet.side (row_at sheet.rows) t q.reached) (p.is_key ∙ sym q.is_key)

  whole_too : (s t : S) → IsUsed m sheet r.key s → IsUsed m sheet r.key t → HasWholeWeights m sheet r s → HasWholeWeights m sheet r t
  whole_too s t p q h = subst (HasWholeWeights m sheet r) (used_once s t p q) h

  inside_too : (s t : S) → IsUsed m sheet r.key s → IsUsed m sheet r.key t → IsInside m r s → IsInside m r t
  inside_too s t p q h = subst (IsInside m r) (used_once s t p q) h

  reply_once : (s : S) (x y : ℕ) → IsFirstReply m sheet r s x → IsFirstReply m sheet r s y → x ≡ y
  reply_once s x y p q = elim (cases_lt x y) [
    | inl before ↦ absurd (tighter_not sheet.side _ _ p.fails (q.first x before))
    | inr other ↦ elim (cases_lt y x) [
      | inl after ↦ absurd (tighter_not sheet.side _ _ q.fails (p.first y after))
      | inr last ↦ omega arith
    ]
  ]

  bound_once : (s t : S) → s ≡ t → (side1 side2 : Side) (key1 key2 reply1 reply2 : ℕ) (amount1 amount2 need1 need2 : ℤ)
      → IsReplyFault m sheet r s (Bound side1 key1 reply1 amount1 need1) → IsReplyFault m sheet r t (Bound side2 key2 reply2 amount2 need2)
      → Bound side1 key1 reply1 amount1 need1 ≡ Bound side2 key2 reply2 amount2 need2
  bound_once s t e side1 side2 key1 key2 reply1 reply2 amount1 amount2 need1 need2 h1 h2 =
      let first : IsFirstReply m sheet r t reply1 = subst (λ (x : S). IsFirstReply m sheet r x reply1) e h1.2 in
      let same : reply1 ≡ reply2 = reply_once t reply1 reply2 first h2.2 in
      let amount : amount1 ≡ worth_of m sheet r.weights t reply1 = h1.3 ∙ ap (λ (x : S). worth_of m sheet r.weights x reply1) e in
      rw (h1.0, h1.1, amount, h1.4, h2.0, h2.1, h2.3, h2.4, same) refl

  row_fault_once : (v w : Why) → IsRowFault m sheet r v → IsRowFault m sheet r w → v ≡ w
  row_fault_once v (Root side2) h1 h2 = absurd h2.2
  row_fault_once v OutcomeWrong h1 h2 = absurd h2.2
  row_fault_once v (ResolutionWrong want2) h1 h2 = absurd h2.2
  row_fault_once (Idle side1 key1) (Idle side2 key2) h1 h2 = rw (h1.0, h1.1, h2.0, h2.1) refl
  row_fault_once (Idle side1 key1) (Weights side2 key2) h1 h2 = absurd (h1.2 h2.0 h2.1)
  row_fault_once (Idle side1 key1) (Outside side2 key2) h1 h2 = absurd (h1.2 h2.0 h2.1)
  row_fault_once (Idle side1 key1) (Bound side2 key2 reply2 amount2 need2) h1 h2 = absurd (h1.2 h2.0 h2.1)
  row_fault_once (Weights side1 key1) (Idle side2 key2) h1 h2 = absurd (h2.2 h1.0 h1.1)
  row_fault_once (Weights side1 key1) (Weights side2 key2) h1 h2 = rw (h1.2.0, h1.2.1, h2.2.0, h2.2.1) refl
  row_fault_once (Weights side1 key1) (Outside side2 key2) h1 h2 = absurd (h1.2.2 (whole_too h2.0 h1.0 h2.1 h1.1 h2.2.2))
  row_fault_once (Weights side1 key1) (Bound side2 key2 reply2 amount2 need2) h1 h2 = absurd (h1.2.2 (whole_too h2.0 h1.0 h2.1 h1.1 h2.2.0))
  row_fault_once (Outside side1 key1) (Idle side2 key2) h1 h2 = absurd (h2.2 h1.0 h1.1)
  row_fault_once (Outside side1 key1) (Weights side2 key2) h1 h2 = absurd (h2.2.2 (whole_too h1.0 h2.0 h1.1 h2.1 h1.2.2))
  row_fault_once (Outside side1 key1) (Outside side2 key2) h1 h2 = rw (h1.2.0, h1.2.1, h2.2.0, h2.2.1) refl
  row_fault_once (Outside side1 key1) (Bound side2 key2 reply2 amount2 need2) h1 h2 = absurd (h1.2.3 (inside_too h2.0 h1.0 h2.1 h1.1 h2.2.1))
  row_fault_once (Bound side1 key1 reply1 amount1 need1) (Idle side2 key2) h1 h2 = absurd (h2.2 h1.0 h1.1)
  row_fault_once (Bound side1 key1 reply1 amount1 need1) (Weights side2 key2) h1 h2 = absurd (h2.2.2 (whole_too h1.0 h2.0 h1.1 h2.1 h1.2.0))
  row_fault_once (Bound side1 key1 reply1 amount1 need1) (Outside side2 key2) h1 h2 = absurd (h2.2.3 (inside_too h1.0 h2.0 h1.1 h2.1 h1.2.1))
  row_fault_once (Bound side1 key1 reply1 amount1 need1) (Bound side2 key2 reply2 amount2 need2) h1 h2 =
      bound_once h1.0 h2.0 (used_once h1.0 h2.0 h1.1 h2.1) side1 side2 key1 key2 reply1 reply2 amount1 amount2 need1 need2 h1.2.2 h2.2.2
  row_fault_once (Root side1) w h1 h2 = absurd h1.2
  row_fault_once OutcomeWrong w h1 h2 = absurd h1.2
  row_fault_once (ResolutionWrong want1) w h1 h2 = absurd h1.2

module _ {S : Type 0} (m : GameModel S) (game : IsGame m) (sheet : Sheet) where
  -- no fault stands before the first one
  earlier : (v w : Why) → (p : IsFirstFault m sheet v) (q : IsFirstFault m sheet w) → p.place < q.place → ⊥
  earlier v w p q h =
      let it = stands_item sheet.rows p.place p.row p.stands in
      let within : p.place < length (take q.place sheet.rows) = rw length-take (omega (arith, it.0)) in
      let same : get_or (take q.place sheet.rows) p.place p.row ≡ p.row = get_or-take q.place sheet.rows p.place p.row h ∙ it.1 in
      no_row_fault m game sheet p.row
      (subst (IsLawfulRow m sheet.side sheet.total sheet.rows) same (All-get_or (IsLawfulRow m sheet.side sheet.total sheet.rows) (take q.place sheet.rows) p.place p.row within q.before)) v p.fault

  first_fault_once : (v w : Why) → IsFirstFault m sheet v → IsFirstFault m sheet w → v ≡ w
  first_fault_once v w p q = elim (cases_lt p.place q.place) [
    | inl before ↦ absurd (earlier v w p q before)
    | inr other ↦ elim (cases_lt q.place p.place) [
      | inl after ↦ absurd (earlier w v q p after)
      | inr last ↦
          let same : p.place ≡ q.place = omega arith in
          let item : Some p.row ≡ Some q.row = sym p.stands ∙ ap (slice_get sheet.rows) same ∙ q.stands in
          let row : p.row ≡ q.row = cc in
          row_fault_once m game sheet q.row v w (subst (λ (x : SheetRow). IsRowFault m sheet x v) row p.fault) q.fault
    ]
  ]

-- ---- beside the sheets
gap_once : (width range weight a b : ℕ) → IsLeastGap width range weight a → IsLeastGap width range weight b → a ≡ b
gap_once width range weight a b p q = let low = p.least b q.enough in let high = q.least a p.enough in omega (arith, low, high)

module _ {S : Type 0} (m : GameModel S) (r : Report) where
  resolution_once : (x y : ℤ) → IsResolutionFor m r x → IsResolutionFor m r y → x ≡ y
  resolution_once x y p q =
      let same : p.2.gap ≡ q.2.gap = gap_once m.width (payoff_range m) r.weight p.2.gap q.2.gap p.2.is_gap q.2.is_gap in
      let n : p.0 ≡ q.0 = p.2.sums ∙ ap (λ (g : ℕ). m.rank m.root * (g + 1 + cond m.chance_free 0 1)) same ∙ sym q.2.sums in
      p.1 ∙ ap pos n ∙ sym q.1

  no_number_fault : IsRight m r → (w : Why) → IsNumberFault m r w → ⊥
  no_number_fault right (Root One) h = h right.numbers.lower
  no_number_fault right (Root Two) h = h.1 right.numbers.upper
  no_number_fault right (ResolutionWrong want) h = h.3 (resolution_once r.resolution want right.numbers.resolution h.2)
  no_number_fault right OutcomeWrong h = h.3 right.numbers.outcome
  no_number_fault right (Idle side key) h = h
  no_number_fault right (Weights side key) h = h
  no_number_fault right (Outside side key) h = h
  no_number_fault right (Bound side key reply amount need) h = h

  number_fault_once : (v w : Why) → IsNumberFault m r v → IsNumberFault m r w → v ≡ w
  number_fault_once v (Idle side2 key2) h1 h2 = absurd h2
  number_fault_once v (Weights side2 key2) h1 h2 = absurd h2
  number_fault_once v (Outside side2 key2) h1 h2 = absurd h2
  number_fault_once v (Bound side2 key2 reply2 amount2 need2) h1 h2 = absurd h2
  number_fault_once (Root One) (Root One) h1 h2 = refl
  number_fault_once (Root One) (Root Two) h1 h2 = absurd (h1 h2.0)
  number_fault_once (Root One) (ResolutionWrong want2) h1 h2 = absurd (h1 h2.0)
  number_fault_once (Root One) OutcomeWrong h1 h2 = absurd (h1 h2.0)
  number_fault_once (Root Two) (Root One) h1 h2 = absurd (h2 h1.0)
  number_fault_once (Root Two) (Root Two) h1 h2 = refl
  number_fault_once (Root Two) (ResolutionWrong want2) h1 h2 = absurd (h1.1 h2.1)
  number_fault_once (Root Two) OutcomeWrong h1 h2 = absurd (h1.1 h2.1)
  number_fault_once (ResolutionWrong want1) (Root One) h1 h2 = absurd (h2 h1.0)
  number_fault_once (ResolutionWrong want1) (Root Two) h1 h2 = absurd (h2.1 h1.1)
  number_fault_once (ResolutionWrong want1) (ResolutionWrong want2) h1 h2 = ap ResolutionWrong (resolution_once want1 want2 h1.2 h2.2)
  number_fault_once (ResolutionWrong want1) OutcomeWrong h1 h2 = absurd (h1.3 (resolution_once r.resolution want1 h2.2 h1.2))
  number_fault_once OutcomeWrong (Root One) h1 h2 = absurd (h2 h1.0)
  number_fault_once OutcomeWrong (Root Two) h1 h2 = absurd (h2.1 h1.1)
  number_fault_once OutcomeWrong (ResolutionWrong want2) h1 h2 = absurd (h2.3 (resolution_once r.resolution want2 h1.2 h2.2))
  number_fault_once OutcomeWrong OutcomeWrong h1 h2 = refl
  number_fault_once (Idle side1 key1) w h1 h2 = absurd h1
  number_fault_once (Weights side1 key1) w h1 h2 = absurd h1
  number_fault_once (Outside side1 key1) w h1 h2 = absurd h1
  number_fault_once (Bound side1 key1 reply1 amount1 need1) w h1 h2 = absurd h1

-- ---- the whole report
module _ {S : Type 0} (m : GameModel S) (game : IsGame m) (r : Report) where
  right_or_wrong : (w : Why) → IsRight m r → IsFirstWhy m r w → ⊥
  right_or_wrong w right why = elim why [
    | inl one ↦ no_fault m game r.one w right.one one
    | inr rest ↦ elim rest [ inl two ↦ no_fault m game r.two w right.two two.1 | inr last ↦ no_number_fault m r right w last.2 ]
  ]

  first_why_once : (v w : Why) → IsFirstWhy m r v → IsFirstWhy m r w → v ≡ w
  first_why_once v w p q = elim p [
    | inl one ↦ elim q [
      | inl other ↦ first_fault_once m game r.one v w one other
      | inr rest ↦ elim rest [ inl two ↦ absurd (no_fault m game r.one v two.0 one) | inr last ↦ absurd (no_fault m game r.one v last.0 one) ]
    ]
    | inr rest ↦ elim rest [
      | inl two ↦ elim q [
        | inl one ↦ absurd (no_fault m game r.one w two.0 one)
        | inr others ↦ elim others [ inl other ↦ first_fault_once m game r.two v w two.1 other.1 | inr last ↦ absurd (no_fault m game r.two v last.1 two.1) ]
      ]
      | inr last ↦ elim q [
        | inl one ↦ absurd (no_fault m game r.one w last.0 one)
        | inr others ↦ elim others [ inl two ↦ absurd (no_fault m game r.two w last.1 two.1) | inr other ↦ number_fault_once m r v w last.2 other.2 ]
      ]
    ]
  ]

  pub verdict_once : (v w : Verdict) → IsVerdict m r v → IsVerdict m r w → v ≡ w
  verdict_once Accepted Accepted p q = refl
  verdict_once Accepted (Refused w) p q = absurd (right_or_wrong w p q)
  verdict_once (Refused v) Accepted p q = absurd (right_or_wrong v q p)
  verdict_once (Refused v) (Refused w) p q = ap Refused (first_why_once v w p q)
