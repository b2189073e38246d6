-- Serial bounds and the bounds of a lawful sheet are backed.
use Rattle.std.proofs.Common.{◌≡◌, ℕ, zero, suc, ◌<◌, ◌≤◌, ◌-◌, ℤ, Option, None, Some, inl, inr, refl, sym, ◌∙◌, arith}
use Rattle.std.proofs.lemmas.Bool.{cases_eq, cases_lt}
use Rattle.sim_game.specs.declared.Side.{Side}
use Rattle.sim_game.specs.Model.{GameModel, IsGame, Reachable}
use Rattle.sim_game.proofs.ReachLemmas.{reachable_turn}
use Rattle.plan_book.specs.declared.Sheet.{Sheet}
use Rattle.plan_book.specs.declared.SheetRow.{SheetRow}
use Rattle.plan_book.specs.Backed.{IsBacked, by_range, by_end, by_step}
use Rattle.plan_book.specs.Plans.{one_move}
use Rattle.plan_book.specs.Serial.{best_upto, serial_within, serial_bound}
use Rattle.plan_book.specs.Sheets.{row_at, bound_or, bound_at, IsLawful}
use Rattle.sim_game.specs.Sides.{other_side, IsNoTighter, state_bound, end_bound, turn_of, child_of, over_turns}
use Rattle.plan_book.specs.Steps.{IsStep, cell}
use Rattle.plan_book.proofs.BackedLemmas.{backed_turn}
use Rattle.plan_book.proofs.ExpectedLemmas.{one_move_fits, one_move_sum, is_same, is_other}
use Rattle.plan_book.proofs.SheetLemmas.{row_step}
use Rattle.sim_game.proofs.SideLemmas.{looser_refl, looser_trans, looser_times, looser_left, looser_right, flip_side, better_cases, better_left, better_right, side_turn}

-- ---- the best of numbers
-- the best is one of the numbers
pub best_reached : (side : Side) (last : ℕ) (f : ℕ → ℤ) → (i : ℕ) × (i ≤ last) × (best_upto side last f ≡ f i)
best_reached side zero f = (0, omega arith, refl)
best_reached side (suc last) f = elim (better_cases side (best_upto side last f) (f (suc last))) [
  | inl e ↦ let before = best_reached side last f in (before.0, omega (arith, before.1), e ∙ before.2)
  | inr e ↦ (suc last, omega arith, e)
]

-- and each number is no tighter than it
pub best_bounds : (side : Side) (last : ℕ) (f : ℕ → ℤ) (i : ℕ) → i ≤ last → IsNoTighter side (f i) (best_upto side last f)
best_bounds side zero f i h = let e : i ≡ 0 = omega arith in rw e (looser_refl side (f 0))
best_bounds side (suc last) f i h = elim (cases_lt i (suc last)) [
  | inl earlier ↦ looser_trans side _ _ _ (best_bounds side last f i (omega arith)) (better_left side _ _)
  | inr latest ↦ let e : i ≡ suc last = omega arith in rw e (better_right side _ _)
]

-- ---- pure steps
-- one move proves a bound that is no tighter than its mean against each reply
pub pure_step : {S : Type 0} (m : GameModel S) (side : Side) (s : S) (total place : ℕ) (numbers : ℕ → ℕ → ℕ → ℤ) (bound : ℤ) → 1 ≤ m.rank s → 1 ≤ total → place < m.moves side s
    → ((reply : ℕ) → reply < m.moves (other_side side) s → IsNoTighter side bound (cell m side s numbers place reply))
    → IsStep m side s total (one_move total (m.moves side s) place) numbers bound
pure_step m side s total place numbers bound goes some p h =
    let fit = one_move_fits total (m.moves side s) place p in
    record {
      goes_on = goes;
      one_each = fit.one_each;
      sums = fit.sums;
      some = some;
      proves = λ reply q. looser_right side _ _ _ (sym (one_move_sum total (m.moves side s) place (λ own. cell m side s numbers own reply) p)) (looser_times side total _ _ (h reply q));
    }

-- ---- serial bounds
module _ {S : Type 0} (m : GameModel S) (game : IsGame m) (side : Side) where
  serial_step : (turns : ℕ) (s : S) → Reachable m s → 1 ≤ m.rank s
      → ((s' : S) → Reachable m s' → m.rank s' < m.rank s → IsBacked m side s' (serial_within m side turns s'))
      → IsBacked m side s (best_upto side (m.moves side s - 1) (λ own. best_upto (other_side side) (m.moves (other_side side) s - 1) (λ reply.
      cell m side s (over_turns m side s (λ t. serial_within m side turns t)) own reply)))
  serial_step turns s r goes below =
      let numbers : ℕ → ℕ → ℕ → ℤ = over_turns m side s (λ t. serial_within m side turns t) in
      let against : ℕ → ℤ = λ own. best_upto (other_side side) (m.moves (other_side side) s - 1) (cell m side s numbers own) in
      let best = best_reached side (m.moves side s - 1) against in
      let moves = game.other_moves side s r goes in
      by_step s _ 1 (one_move 1 (m.moves side s) best.0) numbers
      (pure_step m side s 1 best.0 numbers _ goes (omega arith) (omega (arith, best.1)) (λ reply q.
      looser_left side _ _ _ (sym best.2) (flip_side side _ _ (best_bounds (other_side side) (m.moves (other_side side) s - 1) (cell m side s numbers best.0) reply (omega arith)))))
      (λ own reply d p q u w.
      let turn = side_turn m side s own reply d p q u in
      backed_turn m side s own reply d _ (below (child_of m side s own reply d) (reachable_turn m s (turn_of side own reply d) r turn) (game.rank_falls s (turn_of side own reply d) r turn)))

  serial_backed_within : (turns : ℕ) (s : S) → Reachable m s → m.rank s ≤ turns → IsBacked m side s (serial_within m side turns s)
  serial_backed_within zero s r h = by_end s _ (omega arith) (looser_refl side (end_bound m s))
  serial_backed_within (suc turns) s r h = elim (cases_eq (m.rank s) 0) [
    | inl stop ↦ rw (is_same (m.rank s) 0 stop) (by_end s _ stop (looser_refl side (end_bound m s)))
    | inr on ↦ rw (is_other (m.rank s) 0 on) (serial_step turns s r (omega arith) (λ s' r' lower. serial_backed_within turns s' r' (omega arith)))
  ]

  pub serial_backed : (s : S) → Reachable m s → IsBacked m side s (serial_bound m side s)
  serial_backed s r = serial_backed_within (m.rank s) s r (omega arith)

-- ---- the bounds of a lawful sheet
module _ {S : Type 0} (m : GameModel S) (game : IsGame m) (sheet : Sheet) (lawful : IsLawful m sheet) where
  bound_backed_within : (turns : ℕ) (s : S) → Reachable m s → m.rank s ≤ turns → (found_row : Option SheetRow)
      → row_at sheet.rows (m.key s) ≡ found_row → IsBacked m sheet.side s (bound_or m sheet.side s found_row)
  bound_backed_within turns s r h None e = elim (cases_eq (m.rank s) 0) [
    | inl stop ↦ rw (is_same (m.rank s) 0 stop) (by_end s _ stop (looser_refl sheet.side (end_bound m s)))
    | inr on ↦ rw (is_other (m.rank s) 0 on) (by_range s _ (looser_refl sheet.side (state_bound m sheet.side s)))
  ]
  bound_backed_within zero s r h (Some row) e = absurd (omega (arith, (row_step m game sheet lawful s row r e).goes_on))
  bound_backed_within (suc turns) s r h (Some row) e =
      by_step s row.bound sheet.total row.weights _ (row_step m game sheet lawful s row r e) (λ own reply d p q u w.
      let turn = side_turn m sheet.side s own reply d p q u in
      let lower = game.rank_falls s (turn_of sheet.side own reply d) r turn in
      backed_turn m sheet.side s own reply d _
      (bound_backed_within turns (child_of m sheet.side s own reply d) (reachable_turn m s (turn_of sheet.side own reply d) r turn) (omega arith)
      (row_at sheet.rows (m.key (child_of m sheet.side s own reply d))) refl))

  pub bound_backed : (s : S) → Reachable m s → IsBacked m sheet.side s (bound_at m sheet.side sheet.rows s)
  bound_backed s r = bound_backed_within (m.rank s) s r (omega arith) (row_at sheet.rows (m.key s)) refl
