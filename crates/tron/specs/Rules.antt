-- The rules of Tron, on the grid, the taken cells and both heads.
use Rattle.std.specs.Prelude.{◌≡◌, ◌↔◌, ℕ, ◌+◌, ◌-◌, ◌*◌, ◌/◌, ◌%◌, ◌^◌, ℤ, pos, neg_ℤ, Bool, true, not, ◌||◌, ◌&&◌, nat_lt, ◌==◌, if◌then◌else◌, List, [], ◌∷◌, length, filter, slice_index_or}
use Rattle.sim_game.specs.declared.Side.{Side}
use Rattle.sim_game.specs.declared.Side.TheVariants.{One, Two}
use Rattle.sim_game.specs.Model.{GameModel, Turn, IsEnd, Reachable, after_turn, whole_chance}
use Rattle.sums.specs.Sums.{count_below}
use Rattle.tron.specs.declared.Direction.{Direction}
use Rattle.tron.specs.declared.Direction.TheVariants.{North, East, South, West}
use Rattle.tron.specs.declared.Setting.{Setting}
use Rattle.tron.specs.declared.State.{State}
use Rattle.tron.specs.Cells.{is_taken, with_cell, is_listed, add_cell, each_once, AreDistinct, IsSetOf}
use Rattle.tron.specs.Position.{named_cells, IsSettingOf}

-- ---- the rules
-- what the rules look at: the grid, a test that tells which cells are taken, and the heads
pub record Arena : Type 0 where
  pub height : ℕ
  pub width : ℕ
  pub taken : ℕ → Bool
  pub one : ℕ
  pub two : ℕ

abbrev pub head_of : Side → Arena → ℕ
head_of One r = r.one
head_of Two r = r.two

-- whether the grid goes on from a cell in a direction; cells are numbered row by row from the north-west corner
abbrev pub goes_on : ℕ → ℕ → ℕ → Direction → Bool
goes_on height width cell North = nat_lt 0 (cell / width)
goes_on height width cell East = nat_lt (cell % width + 1) width
goes_on height width cell South = nat_lt (cell / width + 1) height
goes_on height width cell West = nat_lt 0 (cell % width)

-- the neighbour of a cell in a direction
abbrev pub neighbour : ℕ → ℕ → Direction → ℕ
neighbour width cell North = cell - width
neighbour width cell East = cell + 1
neighbour width cell South = cell + width
neighbour width cell West = cell - 1

-- there is a neighbour in this direction, and it is free
abbrev pub is_open : Arena → ℕ → Direction → Bool
is_open r cell direction = goes_on r.height r.width cell direction && not (r.taken (neighbour r.width cell direction))

-- the directions of the free neighbours of a cell, in their order
abbrev pub open_directions : Arena → ℕ → List Direction
open_directions r cell = filter (is_open r cell) (North ∷ East ∷ South ∷ West ∷ [])

abbrev pub directions_of : Arena → Side → List Direction
directions_of r side = open_directions r (head_of side r)

-- the head of the side has no free neighbour
abbrev pub is_shut : Arena → Side → Bool
is_shut r side = length (directions_of r side) == 0

-- both heads are on one cell, or a head has no free neighbour
abbrev pub is_over : Arena → Bool
is_over r = (r.one == r.two) || (is_shut r One || is_shut r Two)

-- where a side may go; nowhere at an end
abbrev pub ways_of : Arena → Side → List Direction
ways_of r side = if is_over r then [] else directions_of r side

-- the cell that a side enters by its move of this number
abbrev pub entered : Arena → Side → ℕ → ℕ
entered r side move = neighbour r.width (head_of side r) (slice_index_or (ways_of r side) move North)

-- the cases of an end, in their order
abbrev pub tron_payoff : Arena → ℤ
tron_payoff r =
    if r.one == r.two then pos 0 else
    if is_shut r One && is_shut r Two then pos 0 else
    if is_shut r One then neg_ℤ (pos 1) else
    pos 1

abbrev pub free_cells : Arena → ℕ
free_cells r = count_below (r.height * r.width) (λ cell. if r.taken cell then 0 else 1)

abbrev pub tron_rank : Arena → ℕ
tron_rank r = if is_over r then 0 else (free_cells r + 1) / 2

-- the sum of 2 ^ cell over the taken cells, and the heads, in 36, 6 and 6 bits
abbrev pub tron_key : Arena → ℕ
tron_key r = (count_below 36 (λ cell. if r.taken cell then 2 ^ cell else 0) * 2 ^ 6 + r.one) * 2 ^ 6 + r.two

abbrev pub number_of : Direction → ℕ
number_of North = 0
number_of East = 1
number_of South = 2
number_of West = 3

-- ---- the record: the taken cells, each once, and both heads
pub record Trails : Type 0 where
  pub taken : List ℕ
  pub one : ℕ
  pub two : ℕ

abbrev pub arena_of_trails : Setting → Trails → Arena
arena_of_trails g t = record { height = g.height; width = g.width; taken = is_listed t.taken; one = t.one; two = t.two }

-- the walls and both heads are taken
abbrev pub first_trails : List ℕ → ℕ → ℕ → Trails
first_trails walls one two = record { taken = each_once (named_cells walls one two); one = one; two = two }

-- both heads move, and the cells that they enter are taken too
abbrev pub with_heads : Trails → ℕ → ℕ → Trails
with_heads t one two = record { taken = add_cell (add_cell t.taken one) two; one = one; two = two }

abbrev pub after_moves : Setting → Trails → ℕ → ℕ → Trails
after_moves g t one two = with_heads t (entered (arena_of_trails g t) One one) (entered (arena_of_trails g t) Two two)

-- ---- the game
abbrev pub arena_of : Setting → State → Arena
arena_of g s = record { height = g.height; width = g.width; taken = is_taken s.taken; one = s.one; two = s.two }

abbrev pub tron_root : Setting → State
tron_root g = record { taken = g.taken; one = g.one; two = g.two }

-- both heads move, and their bits are set too
abbrev pub moved : State → ℕ → ℕ → State
moved s one two = record { taken = with_cell (with_cell s.taken one) two; one = one; two = two }

abbrev pub tron_game : Setting → GameModel State
tron_game g = record {
  root = tron_root g;
  moves = λ side s. length (ways_of (arena_of g s) side);
  draws = λ s one two. 1;
  chance = λ s one two draw. whole_chance;
  drawn = λ s one two draw. moved s (entered (arena_of g s) One one) (entered (arena_of g s) Two two);
  payoff = λ s. tron_payoff (arena_of g s);
  reward = λ s one two draw. pos 0;
  least = λ s. neg_ℤ (pos 1);
  most = λ s. pos 1;
  rank = λ s. tron_rank (arena_of g s);
  key = λ s. tron_key (arena_of g s);
  label = λ side s i. number_of (slice_index_or (ways_of (arena_of g s) side) i North);
  low = neg_ℤ (pos 1);
  high = pos 1;
  width = 4;
  chance_free = true;
}

-- the state stands for these trails
pub record StandsFor (s : State) (t : Trails) : Type 0 where
  pub taken : IsSetOf t.taken s.taken
  pub distinct : AreDistinct t.taken
  pub one : s.one ≡ t.one
  pub two : s.two ≡ t.two

-- each call answers by the rules on the trails that a state stands for
pub record KeepsRules (g : Setting) : Type 0 where
  pub root : (walls : List ℕ) (one two : ℕ) → IsSettingOf g.height g.width walls one two g → StandsFor (tron_game g).root (first_trails walls one two)
  pub follows : (s : State) (turn : Turn) (t : Trails) → StandsFor s t
      → StandsFor (after_turn (tron_game g) s turn) (after_moves g t turn.one turn.two)
  -- each pair of moves has one draw, of the whole weight
  pub draws : (s : State) (one two : ℕ) → (tron_game g).draws s one two ≡ 1
  pub chance : (s : State) (one two draw : ℕ) → (tron_game g).chance s one two draw ≡ whole_chance
  pub moves : (side : Side) (s : State) (t : Trails) → StandsFor s t → (tron_game g).moves side s ≡ length (ways_of (arena_of_trails g t) side)
  pub label : (side : Side) (s : State) (t : Trails) (i : ℕ) → StandsFor s t → (tron_game g).label side s i ≡ number_of (slice_index_or (ways_of (arena_of_trails g t) side) i North)
  pub ends : (s : State) (t : Trails) → Reachable (tron_game g) s → StandsFor s t → IsEnd (tron_game g) s ↔ (is_over (arena_of_trails g t) ≡ true)
  pub payoff : (s : State) (t : Trails) → StandsFor s t → (tron_game g).payoff s ≡ tron_payoff (arena_of_trails g t)
  -- all is paid at the end
  pub reward : (s : State) (one two draw : ℕ) → (tron_game g).reward s one two draw ≡ pos 0
  pub rank : (s : State) (t : Trails) → StandsFor s t → (tron_game g).rank s ≡ tron_rank (arena_of_trails g t)
  pub key : (s : State) (t : Trails) → StandsFor s t → (tron_game g).key s ≡ tron_key (arena_of_trails g t)
  pub low : (tron_game g).low ≡ neg_ℤ (pos 1)
  pub high : (tron_game g).high ≡ pos 1
  pub width : (tron_game g).width ≡ 4
  pub chance_free : (tron_game g).chance_free ≡ true
  -- each reachable state stands for some trails
  pub stands : (walls : List ℕ) (one two : ℕ) → IsSettingOf g.height g.width walls one two g → (s : State) → Reachable (tron_game g) s → (t : Trails) × StandsFor s t
  -- states with equal keys stand for the same trails
  pub same_trails : (s other : State) (t : Trails) → Reachable (tron_game g) s → Reachable (tron_game g) other
      → (tron_game g).key s ≡ (tron_game g).key other → StandsFor s t → StandsFor other t
