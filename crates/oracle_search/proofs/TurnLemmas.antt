-- The turns of a search with regret matching, one part after another.
use Rattle.std.proofs.Common.{◌≡◌, ◌⊎◌, inl, inr, ⊎_elim, ℕ, ◌+◌, ◌-◌, ◌*◌, ◌≤◌, Bool, true, false, List, [], ◌∷◌, length, refl, sym, ap, ◌∙◌, arith}
use Rattle.std.proofs.lemmas.List.{length-append}
use Rattle.std.proofs.Math.Nat.{mul-le-mul_left}
use Rattle.sim_game.specs.Model.{GameModel}
use Rattle.matrix_game.specs.Budget.{Budget, left_of}
use Rattle.oracle_search.specs.Finished.{FinishedView}
use Rattle.oracle_search.specs.Searches.{IsWorkedBelow, TakesTurns, TakesAtMost, HasTurn}
use Rattle.oracle_search.specs.Workers.{WorkerView, WorkView, with_key}

pub not_before : (a b : Bool) → (a ≡ true → b ≡ true) → b ≡ false → a ≡ false
not_before false b f e = refl
not_before true b f e = let wrong : true ≡ false = sym (f refl) ∙ e in absurd (cc)

-- at most so many turns besides those of finished states, less those to spare; or none is left, and there were no more than for the most states
pub record TakesWithin (each spare turns most : ℕ) (old new : WorkerView) : Type 0 where
  pub unless_full : new.finished.was_full ≡ false → (new.turns.spent + each * length old.finished.keys + spare ≤ old.turns.spent + each * length new.finished.keys + turns)
      ⊎ ((left_of new.turns ≡ 0) × TakesTurns each most old new)

module _ {each most : ℕ} {u v : WorkerView} where
  within_of : {states : ℕ} → TakesAtMost each states most u v → TakesWithin each 0 (each * states) most u v
  within_of {states} p =
      record { unless_full = λ not. ⊎_elim (λ (a : TakesTurns each states u v). inl (omega arith)) (λ (b : (left_of v.turns ≡ 0) × TakesTurns each most u v). inr b) (p.unless_full not) }

  pub at_most : {spare turns : ℕ} (states more : ℕ) → turns ≤ each * states + spare → most ≤ more → TakesWithin each spare turns most u v → TakesAtMost each states more u v
  at_most {spare} {turns} states more few wide p = record {
    unless_full = λ not. ⊎_elim
        (λ (a : v.turns.spent + each * length u.finished.keys + spare ≤ u.turns.spent + each * length v.finished.keys + turns). inl (omega arith))
        (λ (b : (left_of v.turns ≡ 0) × TakesTurns each most u v). let b1 = b.1 in let more_each : each * most ≤ each * more = mul-le-mul_left each wide in inr (b.0, omega arith)) (p.unless_full not);
  }

pub taken_by : {each states most : ℕ} {u v : WorkerView} → v.turns.spent ≡ u.turns.spent → v.finished.keys ≡ u.finished.keys → TakesAtMost each states most u v
taken_by {each} turns keys = record { unless_full = λ not. let same = ap (λ (l : List ℕ). each * length l) keys in inl (omega arith) }

-- turns are counted alike where a part took none
pub taken_from : {each states most : ℕ} {u v w : WorkerView} → v.turns.spent ≡ u.turns.spent → v.finished.keys ≡ u.finished.keys → TakesAtMost each states most v w → TakesAtMost each states most u w
taken_from {each} {states} {most} {u} {v} {w} turns keys p = record {
  unless_full = λ not. let same = ap (λ (l : List ℕ). each * length l) keys in ⊎_elim
      (λ (a : TakesTurns each states v w). inl (omega arith))
      (λ (b : (left_of w.turns ≡ 0) × TakesTurns each most v w). let b1 = b.1 in inr (b.0, omega arith)) (p.unless_full not);
}

-- at a full board, and where no turn is left
pub taken_full : {each states most : ℕ} {u w : WorkerView} → w.finished.was_full ≡ true → TakesAtMost each states most u w
taken_full full = record { unless_full = λ not. let wrong : false ≡ true = sym not ∙ full in absurd (cc) }

pub taken_spent : {each states most : ℕ} {u w : WorkerView} → left_of w.turns ≡ 0 → TakesAtMost each most most u w → TakesAtMost each states most u w
taken_spent {each} {states} {most} {u} {w} none p = record {
  unless_full = λ not. inr (
    none,
    ⊎_elim (λ (a : TakesTurns each most u w). a) (λ (b : (left_of w.turns ≡ 0) × TakesTurns each most u w). b.1) (p.unless_full not),
  );
}

-- a finished state, whose key was added
pub taken_added : {each most : ℕ} {u w new : WorkerView} (key : ℕ) → new ≡ with_key w key → TakesAtMost each 1 most u w → TakesAtMost each 0 most u new
taken_added {each} {most} {u} {w} {new} key is p = record {
  unless_full = λ not.
      let turns : new.turns ≡ w.turns = ap (λ (x : WorkerView). x.turns) is in
      let spent = ap (λ (t : Budget). t.spent) turns in
      let limit = ap (λ (t : Budget). t.limit) turns in
      let count : each * length new.finished.keys ≡ each * (length w.finished.keys + 1) =
      ap (λ (n : ℕ). each * n) (ap (λ (x : WorkerView). length x.finished.keys) is ∙ length-append w.finished.keys (key ∷ [])) in
      ⊎_elim
      (λ (a : TakesTurns each 1 u w). inl (omega arith))
      (λ (b : (left_of w.turns ≡ 0) × TakesTurns each most u w). let b0 = b.0 in let b1 = b.1 in inr (omega arith, omega arith))
      (p.unless_full (sym (ap (λ (x : WorkerView). x.finished.was_full) is) ∙ not));
}

-- a turn
pub within_turn : {each spare turns all most : ℕ} {u v w : WorkerView} → turns + 1 ≤ all → TakesWithin each spare turns most u v → HasTurn v.turns w.turns → w.finished ≡ v.finished
    → TakesWithin each spare all most u w
within_turn {each = each} {spare} {turns} {most = most} {u = u} {v = v} {w = w} more p turn same = record {
  unless_full = λ not.
      let spent : w.turns.spent ≡ v.turns.spent + 1 = ap (λ (t : Budget). t.spent) turn.1 in let left = turn.0 in
      let keys : each * length w.finished.keys ≡ each * length v.finished.keys = ap (λ (f : FinishedView). each * length f.keys) same in
      ⊎_elim
      (λ (a : v.turns.spent + each * length u.finished.keys + spare ≤ u.turns.spent + each * length v.finished.keys + turns). inl (omega arith))
      (λ (a : (left_of v.turns ≡ 0) × TakesTurns each most u v). let none = a.0 in absurd (omega arith))
      (p.unless_full (sym (ap (λ (f : FinishedView). f.was_full) same) ∙ not));
}

-- more states
pub more_turns : (each few many : ℕ) (u w : WorkerView) → few ≤ many → TakesTurns each few u w → TakesTurns each many u w
more_turns each few many u w less taken = let more : each * few ≤ each * many = mul-le-mul_left each less in omega arith

-- a restricted game of two moves
pub begun_within : {each count most : ℕ} {u : WorkerView} → count ≡ 2 → TakesWithin each 2 count most u u
begun_within two = record { unless_full = λ not. inl (omega arith) }

-- the last turn of a restricted game
pub last_turn : {each count most : ℕ} {u v w : WorkerView} → count ≤ each + 1 → TakesWithin each 2 count most u v → HasTurn v.turns w.turns → w.finished ≡ v.finished → TakesAtMost each 1 most u w
last_turn {each} {count} {most} few p turn same = at_most {spare = 2} {turns = count + 1} 1 most (omega arith) (omega arith) (within_turn (omega arith) p turn same)

spare_turns : (each count most : ℕ) → count ≤ each + 1 → 1 ≤ most → count + each * (most - 1) ≤ each * most + 2
spare_turns each count most few some = let is : most ≡ (most - 1) + 1 = omega arith in let more = ap (λ (n : ℕ). each * n) is in omega arith

module _ {S G N : Type 0} {m : GameModel S} {s : S} {limit : ℕ} {v w : WorkView G N} (worked : IsWorkedBelow m s limit v w) where
  pub within_then : {each spare turns all most states below : ℕ} {u : WorkerView} → turns + each * states ≤ all → turns + each * below ≤ each * most + spare
      → TakesWithin each spare turns most u v.worker
      → TakesAtMost each states below v.worker w.worker → TakesWithin each spare all most u w.worker
  within_then {each = each} {spare} {turns} {most = most} {states = states} {below = below} {u = u} more few p q = record {
    unless_full = λ not.
        let count = length-append v.finished.keys worked.finished.added.more in
        let keys : each * length w.finished.keys ≡ each * (length v.finished.keys + length worked.finished.added.more) =
        ap (λ (n : ℕ). each * n) (ap (λ (l : List ℕ). length l) worked.finished.added.joins ∙ count) in
        let left : left_of v.turns ≡ 0 → left_of w.turns ≡ 0 = λ e. let same = worked.turns.none e in let no_more = worked.turns.limit.no_more in omega arith in
        ⊎_elim
        (λ (a : v.turns.spent + each * length u.finished.keys + spare ≤ u.turns.spent + each * length v.finished.keys + turns). ⊎_elim
        (λ (b : TakesTurns each states v.worker w.worker). inl (omega arith))
        (λ (b : (left_of w.turns ≡ 0) × TakesTurns each below v.worker w.worker). let b1 = b.1 in inr (b.0, omega arith))
        (q.unless_full not))
        (λ (a : (left_of v.turns ≡ 0) × TakesTurns each most u v.worker). let a1 = a.1 in let same = worked.turns.none a.0 in inr (left a.0, omega arith))
        (p.unless_full (not_before v.finished.was_full w.finished.was_full worked.finished.full not));
  }

  pub taken_after : {each most states below : ℕ} {u : WorkerView} → below ≤ most → TakesAtMost each 0 most u v.worker → TakesAtMost each states below v.worker w.worker
      → TakesAtMost each states most u w.worker
  taken_after {each} {most} {states} {below} few p q = let less : each * below ≤ each * most = mul-le-mul_left each few in
      at_most states most (omega arith) (omega arith) (within_then {all = each * states} (omega arith) (omega arith) (within_of p) q)

  -- a restricted game with one turn to spare for each move that may still be added, where the states after its moves stopped
  pub stopped_within : {each count most : ℕ} {u : WorkerView} → count ≤ each + 1 → 1 ≤ most → TakesWithin each 2 count most u v.worker
      → TakesAtMost each (most - 1) (most - 1) v.worker w.worker → TakesAtMost each most most u w.worker
  stopped_within {each} {count} {most} few some p q = let spare = spare_turns each count most few some in
      at_most {spare = 2} {turns = each * most + 2} most most (omega arith) (omega arith) (within_then {all = each * most + 2} spare spare p q)

  -- and where these were all done
  pub passed_within : {each count most : ℕ} {u : WorkerView} → count ≤ each + 1 → 1 ≤ most → TakesWithin each 2 count most u v.worker
      → TakesAtMost each 0 (most - 1) v.worker w.worker → TakesWithin each 2 count most u w.worker
  passed_within {each} {count} {most} few some p q = within_then {all = count} (omega arith) (spare_turns each count most few some) p q
