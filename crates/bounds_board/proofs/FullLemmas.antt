-- A full board has fewer rows than the game has states.
use Rattle.std.proofs.Common.{◌≡◌, ◌≢◌, ⊎_elim, ℕ, ◌+◌, ◌<◌, ◌≤◌, Some, refl, sym, ap, subst, ◌∙◌, arith}
use Rattle.std.proofs.lemmas.Bool.{cases_lt}
use Rattle.sim_game.specs.Model.{GameModel, HasAtMost}
use Rattle.bounds_board.specs.Views.{BoardView, IsLater, IsInnerKey, IsFull, WasFull}

module _ {S G N : Type 0} (m : GameModel S) (v : BoardView G N) (asked : ℕ) (full : IsFull m v asked) where
  -- the key of a row, and the asked one behind the rows
  known : (i : ℕ) → (key : ℕ) × IsInnerKey m key × (i < v.rows → v.key_at i ≡ Some key) × (v.rows ≤ i → key ≡ asked) × (i < v.rows → key ≢ asked)
  known i = ⊎_elim
      (λ (l : i < v.rows). let o = full.others i l in (o.0, o.2, (λ _. o.1), (λ g. absurd (omega arith)), λ _. o.3))
      (λ (g : v.rows ≤ i). (asked, full.inner, (λ l. absurd (omega arith)), (λ _. refl), λ l. absurd (omega arith)))
      (cases_lt i v.rows)

  state : ℕ → S
  state i = (known i).1.state

  apart : (i j : ℕ) → i < j → j < v.rows + 1 → (known i).0 ≢ (known j).0
  apart i j l h e = ⊎_elim
      (λ (inside : j < v.rows).
      let here : v.key_at i ≡ Some (known j).0 = subst (λ (k : ℕ). v.key_at i ≡ Some k) e ((known i).2 (omega arith)) in
      let same : i ≡ j = full.apart i j (known j).0 (omega arith) inside here ((known j).2 inside) in
      absurd (omega arith))
      (λ (last : v.rows ≤ j). (known i).4 (omega arith) (e ∙ (known j).3 last))
      (cases_lt j v.rows)

  pub rows_too_few : (most : ℕ) → HasAtMost m most → v.rows < most
  unfolding known state
  rows_too_few most has = omega (
    arith,
    has.few (v.rows + 1) state (λ i _. (known i).1.reachable)
        (λ i j l h e. apart i j l h (sym (known i).1.is_key ∙ ap m.key e ∙ (known j).1.is_key)),
  )

-- what was known of the rows stays known
is_full_later : {S G N : Type 0} (m : GameModel S) (v w : BoardView G N) (asked : ℕ) → IsLater v w → IsFull m v asked → IsFull m w asked
is_full_later m v w asked later full = record {
  inner = full.inner;
  others = λ row l. let o = full.others row (subst (λ (n : ℕ). row < n) later.rows l) in (o.0, later.keys row o.0 o.1, o.2, o.3);
  apart = λ row other key l h is_row is_other.
      let l' = subst (λ (n : ℕ). row < n) later.rows l in let h' = subst (λ (n : ℕ). other < n) later.rows h in
      let o = full.others row l' in let p = full.others other h' in
      let a = later.keys row o.0 o.1 in let b = later.keys other p.0 p.1 in
      let same : o.0 ≡ key = cc in let same' : p.0 ≡ key = cc in
      full.apart row other key l' h' (subst (λ (k : ℕ). v.key_at row ≡ Some k) same o.1) (subst (λ (k : ℕ). v.key_at other ≡ Some k) same' p.1);
}

pub full_later : {S G N : Type 0} (m : GameModel S) (v w : BoardView G N) (IsAsked : S → Type 0) → IsLater v w → WasFull m v IsAsked → WasFull m w IsAsked
full_later m v w IsAsked later was = record { state = was.state; is_asked = was.is_asked; full = is_full_later m v w (m.key was.state) later was.full }

-- a state asked for in the one sense is asked for in the other
pub full_weaker : {S G N : Type 0} (m : GameModel S) (v : BoardView G N) (P Q : S → Type 0) → ((t : S) → P t → Q t) → WasFull m v P → WasFull m v Q
full_weaker m v P Q weaker was = record { state = was.state; is_asked = weaker was.state was.is_asked; full = was.full }
