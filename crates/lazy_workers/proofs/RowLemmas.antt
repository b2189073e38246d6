-- That a board of more rows than the game has states does as well as one of still more.
use Rattle.std.proofs.Common.{◌≡◌, ◌≢◌, inl, inr, ℕ, zero, suc, ◌+◌, ◌*◌, ◌<◌, ◌≤◌, ℤ, pos, Some, List, [], ◌∷◌, length, All, refl, sym, ap, ◌∙◌, arith}
use Rattle.std.specs.List.{AllByRecursion}
use Rattle.std.proofs.Math.Nat.{mul-le-mul_left}
use Rattle.std.proofs.lemmas.Bool.{cases_lt}
use Rattle.std.proofs.lemmas.List.Elements.{All-weaker, recursion_from_All}
use Rattle.sim_game.specs.Model.{GameModel, HasAtMost, Reachable}
use Rattle.sim_game.proofs.StateLemmas.{more_states}
use Rattle.shared_board.specs.Rule.{Has}
use Rattle.shared_board.specs.Closing.{IsDistinct}
use Rattle.shared_board.specs.declared.close.Kept.{Kept}
use Rattle.fields.specs.declared.ask.Ask.{Ask}
use Rattle.matrix_game.specs.Budget.{Budget}
use Rattle.lazy_workers.specs.declared.budgets.Begun.{Begun}
use Rattle.lazy_workers.specs.Keeping.{HasLimit, oracle_turns, AreBudgets, IsKeptState, AreOwed}
use Rattle.lazy_workers.specs.Searched.{IsFar, HasRoom, TooFewAfter, AnswersToo}

module _ {S : Type 0} (m : GameModel S) where
  abbrev AreStates : List Kept → Type 0
  AreStates kept = AllByRecursion (IsKeptState m) kept

  -- the state of a row, by its number among the rows
  abbrev state_at : (kept : List Kept) → AreStates kept → ℕ → S
  state_at [] each i = m.root
  state_at (x ∷ kept) each zero = each.0.named.state
  state_at (x ∷ kept) each (suc i) = state_at kept each.1 i

  reached_at : (kept : List Kept) (each : AreStates kept) (i : ℕ) → i < length kept → Reachable m (state_at kept each i)
  reached_at [] each i l = absurd (omega (arith, l))
  reached_at (x ∷ kept) each zero l = each.0.named.reachable
  reached_at (x ∷ kept) each (suc i) l = reached_at kept each.1 i (omega (arith, l))

  row_at : (kept : List Kept) (each : AreStates kept) (i : ℕ) → i < length kept → (x : Kept) × Has x kept × (m.key (state_at kept each i) ≡ x.key)
  row_at [] each i l = absurd (omega (arith, l))
  row_at (x ∷ kept) each zero l = (x, inl refl, each.0.named.is_key)
  row_at (x ∷ kept) each (suc i) l = let it = row_at kept each.1 i (omega (arith, l)) in (it.0, inr it.1, it.2)

  differ_at : (kept : List Kept) (each : AreStates kept) → IsDistinct kept → (i j : ℕ) → i < j → j < length kept → state_at kept each i ≢ state_at kept each j
  differ_at [] each apart i j l h e = omega (arith, h)
  differ_at (x ∷ kept) each apart i zero l h e = omega (arith, l)
  differ_at (x ∷ kept) each apart zero (suc j) l h e =
      let it = row_at kept each.1 j (omega (arith, h)) in
      apart.0 it.0 it.1 (sym each.0.named.is_key ∙ ap m.key e ∙ it.2)
  differ_at (x ∷ kept) each apart (suc i) (suc j) l h e = differ_at kept each.1 apart.1 i j (omega (arith, l)) (omega (arith, h)) e

  module _ (limit : ℕ) (states : HasAtMost m limit) where
    kept_few : (kept : List Kept) → IsDistinct kept → All (IsKeptState m) kept → length kept ≤ limit
    kept_few kept apart each =
        let all = recursion_from_All (IsKeptState m) kept each in
        states.few (length kept) (state_at kept all) (reached_at kept all) (differ_at kept all apart)

    module _ (ask : Ask) (rows : ℕ) (some : limit < rows) (fewer : rows ≤ ask.rows) where
      abbrev pub enough : Ask
      enough = record ask { rows = rows }

      far_too : (gap : ℤ) → IsFar m ask gap → IsFar m enough gap
      far_too gap far = record { asked = far.asked; resolution = far.resolution }

      too_few : (before : ℕ) → TooFewAfter before m enough → TooFewAfter before m ask
      too_few before few n most inside = elim (cases_lt limit n) [
        | inl more ↦
            let less = few limit states (omega arith) in
            let wider : oracle_turns m ask.stages * (limit + m.rank m.root + 1) ≤ oracle_turns m ask.stages * (n + m.rank m.root + 1) =
            mul-le-mul_left (oracle_turns m ask.stages) (omega arith) in omega (arith, less, wider)
        | inr less ↦ few n most (omega arith)
      ]

      owed_too : (before : ℕ) (n : ℤ) (kept : List Kept) → AreOwed m enough before n kept → AreOwed m ask before n kept
      owed_too before n kept owed =
          record { met = owed.met; are_met = owed.are_met; finished = owed.finished; are_finished = owed.are_finished; each = owed.each; few = owed.few }

      pub fewer_rows_answer_too : AnswersToo m enough ask
      fewer_rows_answer_too before entries kept turns was_full x =
          let room : HasRoom m enough = more_states m limit rows states (omega (arith, some)) in
          let few = kept_few kept x.rows.distinct x.rows.each in
          record {
            closed = x.closed;
            held = record {
              key_at = x.held.key_at;
              held = All-weaker (λ e. (row : ℕ) × (row < rows) × (x.held.key_at row ≡ Some e.key)) (λ e. (row : ℕ) × (row < ask.rows) × (x.held.key_at row ≡ Some e.key))
                  (λ e it. (it.0, omega (arith, it.1, fewer), it.2)) entries x.held.held;
            };
            rows = record { none = x.rows.none; few = omega (arith, few, some, fewer); distinct = x.rows.distinct; each = x.rows.each };
            entered = x.entered;
            best = x.best;
            workers = x.workers;
            found = record {
              within = All-weaker (HasLimit enough before.may_stop) (HasLimit ask before.may_stop)
                  (λ t h. record { may = h.may; no_more = h.no_more; whole = h.whole; spent = h.spent }) turns x.found.within;
              full = λ met. absurd ((x.found.full met).1 room);
              rowed = x.found.rowed;
              all_spent = λ left far. x.found.all_spent left (far_too _ far);
              due = λ left far all one.
                  let due = x.found.due left (far_too _ far) all one in
                  (too_few before.spent due.0, λ n resolution free. owed_too before.spent (pos n) kept (due.1 n resolution (omega (arith, few, some))));
              pure = λ _ visits. x.found.pure room visits;
              at_once = λ _ visits. x.found.at_once room visits;
            };
            alone = x.alone;
          }

-- budgets that are good for what is asked are so for what is asked of another number of rows
pub budgets_for : (ask other : Ask) → other.workers ≡ ask.workers → other.turns ≡ ask.turns → (before : Begun) (turns : List Budget)
    → AreBudgets ask before turns → AreBudgets other before turns
budgets_for ask other workers same before turns budgets = record {
  count = budgets.count ∙ sym workers;
  each = All-weaker (HasLimit ask before.may_stop) (HasLimit other before.may_stop)
      (λ t h. record { may = h.may; no_more = omega (arith, h.no_more, same); whole = λ no. h.whole no ∙ sym same; spent = h.spent }) turns budgets.each;
  begun = budgets.begun;
}
