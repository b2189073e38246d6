-- Matrix games: the cells, what weights pay, and saddles.
use Rattle.std.specs.Prelude.{◌≡◌, ℕ, zero, suc, ◌+◌, ◌*◌, ◌<◌, ◌≤◌, List, length, slice_index, slice_index_or, ℤ, pos, neg_ℤ, ◌+ℤ◌, ◌*ℤ◌, ◌≤ℤ◌, int_lt, unsigned_abs, if◌then◌else◌}
use Rattle.sums.specs.declared.TheConstants.{MOST_BOUND, MOST_MOVES}
use Rattle.sums.specs.Sums.{sum_below}

-- the payoffs of a game to player one, row by row
pub record Grid : Type 0 where
  pub rows : ℕ
  pub cols : ℕ
  pub cells : List ℤ

-- what player one gets in row a and column b
abbrev pub cell_at : Grid → ℕ → ℕ → ℤ
cell_at m a b = slice_index_or m.cells (a * m.cols + b) (pos 0)

-- what the weights p of the rows pay in column b
abbrev pub column_sum : Grid → List ℕ → ℕ → ℤ
column_sum m p b = sum_below m.rows (λ a. pos (slice_index p a) *ℤ cell_at m a b)

-- what the weights v of the columns pay in row a
abbrev pub row_sum : Grid → List ℕ → ℕ → ℤ
row_sum m v a = sum_below m.cols (λ b. pos (slice_index v b) *ℤ cell_at m a b)

-- the place of the lesser of f i and f j, i where they are equal
abbrev pub lesser_at : (ℕ → ℤ) → ℕ → ℕ → ℕ
lesser_at f i j = if int_lt (f j) (f i) then j else i

-- the first place below n at which f is least
abbrev pub first_least : ℕ → (ℕ → ℤ) → ℕ
first_least zero f = 0
first_least (suc n) f = lesser_at f (first_least n f) n

-- the first place below n at which f is greatest
abbrev pub first_greatest : ℕ → (ℕ → ℤ) → ℕ
first_greatest n f = first_least n (λ i. neg_ℤ (f i))

-- the first column in which the weights p of the rows pay least
abbrev pub best_reply : Grid → List ℕ → ℕ
best_reply m p = first_least m.cols (column_sum m p)

-- the least that the weights p of the rows pay in a column
abbrev pub row_floor : Grid → List ℕ → ℤ
row_floor m p = column_sum m p (best_reply m p)

-- the greatest that the weights v of the columns pay in a row
abbrev pub col_ceiling : Grid → List ℕ → ℤ
col_ceiling m v = row_sum m v (first_greatest m.rows (row_sum m v))

-- a cell that is least in its row and greatest in its column
pub record IsSaddle (m : Grid) (a b : ℕ) : Type 0 where
  pub row_in : a < m.rows
  pub col_in : b < m.cols
  pub least_in_row : (c : ℕ) → c < m.cols → cell_at m a b ≤ℤ cell_at m a c
  pub greatest_in_col : (c : ℕ) → c < m.rows → cell_at m c b ≤ℤ cell_at m a b

-- the first saddle, row by row
pub record IsFirstSaddle (m : Grid) (a b : ℕ) : Type 0 where
  pub saddle : IsSaddle m a b
  pub first : (c d : ℕ) → IsSaddle m c d → a * m.cols + b ≤ c * m.cols + d

-- at least one row and one column, and each cell is there
pub record IsShaped (m : Grid) : Type 0 where
  pub some_row : 1 ≤ m.rows
  pub some_col : 1 ≤ m.cols
  pub all_cells : length m.cells ≡ m.rows * m.cols

-- a shape that a matrix may have, with n cells
pub record HasGoodShape (rows cols n : ℕ) : Type 0 where
  pub some_row : 1 ≤ rows
  pub few_rows : rows ≤ MOST_MOVES
  pub some_col : 1 ≤ cols
  pub few_cols : cols ≤ MOST_MOVES
  pub all_cells : n ≡ rows * cols

-- a cell that a matrix may have
abbrev pub IsSmallCell : ℤ → Type 0
IsSmallCell z = unsigned_abs z ≤ MOST_BOUND

-- the first cell that a matrix may not have
pub record IsFirstLarge (cells : List ℤ) (place : ℕ) : Type 0 where
  pub place_in : place < length cells
  pub large : MOST_BOUND < unsigned_abs (slice_index_or cells place (pos 0))
  pub first : (i : ℕ) → i < place → IsSmallCell (slice_index_or cells i (pos 0))

-- within the sizes that a matrix may have
pub record IsMatrix (m : Grid) : Type 0 where
  pub shaped : IsShaped m
  pub few_rows : m.rows ≤ MOST_MOVES
  pub few_cols : m.cols ≤ MOST_MOVES
  pub small_cells : (i : ℕ) → i < length m.cells → IsSmallCell (slice_index_or m.cells i (pos 0))

-- no two cells differ by more than d
abbrev pub IsSpread : Grid → ℕ → Type 0
IsSpread m d = (i j : ℕ) → i < length m.cells → j < length m.cells → slice_index_or m.cells i (pos 0) ≤ℤ (slice_index_or m.cells j (pos 0) +ℤ pos d)

-- the regrets of w rounds, each gained with the weight w, together stay below the limit, by a bound on what two cells differ by
pub record HasRegretRoom (m : Grid) (w limit : ℕ) : Type 0 where
  pub spread : ℕ
  pub is_spread : IsSpread m spread
  pub fits : m.rows * (w * (w * spread)) < limit
