-- Matrices whose cells all differ by one number.
use Rattle.std.specs.Prelude.{◌≡◌, ◌↔◌, ℕ, List, map, ℤ, ◌+ℤ◌}
use Rattle.matrix_game.specs.Grid.{Grid, IsShaped, IsSaddle}
use Rattle.matrix_game.specs.Rounds.{regrets_before, rounds, best_mixture, reply_counts, IsStage}

-- the number k added to every cell
abbrev pub shifted : ℤ → Grid → Grid
shifted k m = record { rows = m.rows; cols = m.cols; cells = map (λ z. z +ℤ k) m.cells }

-- the same regrets, rounds and answers, with a total weight of w
pub record IsAlike (w : ℕ) (m n : Grid) : Type 0 where
  pub regrets : (t : ℕ) → regrets_before n w t ≡ regrets_before m w t
  pub in_rounds : rounds n w ≡ rounds m w
  pub best : best_mixture n (rounds n w) ≡ best_mixture m (rounds m w)
  pub counts : reply_counts n (rounds n w) ≡ reply_counts m (rounds m w)
  pub saddles : (a b : ℕ) → IsSaddle n a b ↔ IsSaddle m a b
  pub stages : (p v : List ℕ) → IsStage n w p v ↔ IsStage m w p v

-- the shift law
abbrev pub ShiftLaw : Type 0
ShiftLaw = (k : ℤ) (w : ℕ) (m : Grid) → IsShaped m → IsAlike w m (shifted k m)
