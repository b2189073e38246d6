-- The rules of Tron make a game.
use Rattle.std.proofs.Common.{◌≡◌, ℕ, ◌+◌, ◌*◌, ◌/◌, ◌%◌, ◌^◌, ◌<◌, ◌≤◌, ◌≢◌, pos, neg_ℤ, ◌≤ℤ◌, Bool, true, false, not, ◌||◌, ◌&&◌, cond, eqb, List, [], ◌∷◌, length, get_or, refl, ap, sym, ◌∙◌, arith}
use Rattle.std.proofs.lemmas.Bool.{and_parts, eqb-false, ltb-true, not-true, or_parts}
use Rattle.std.proofs.lemmas.Int.{ints}
use Rattle.std.proofs.lemmas.List.Elements.{All-get_or, filter_passes}
use Rattle.std.proofs.lemmas.List.Sums.{count_by-le-length, length-filter}
use Rattle.std.proofs.lemmas.Nat.{div_below, mod_below, mul-add-lt, ones-le}
use Rattle.std.proofs.Math.Nat.{mul-le-mul}
use Rattle.std.proofs.Math.Pow.{pow_mono}
use Rattle.std.specs.Int.{bit_at}
use Rattle.std.specs.Int.Count.{ones}
use Rattle.sim_game.specs.declared.Side.{Side}
use Rattle.sim_game.specs.declared.Side.TheVariants.{One, Two}
use Rattle.sim_game.specs.Model.{Turn, IsTurn, Reachable, IsGame, after_turn}
use Rattle.sim_game.proofs.ReachLemmas.{reachable_induction}
use Rattle.tron.specs.declared.Direction.{Direction}
use Rattle.tron.specs.declared.Direction.TheVariants.{North, East, South, West}
use Rattle.tron.specs.declared.Setting.{Setting}
use Rattle.tron.specs.declared.State.{State}
use Rattle.state_key.proofs.SetLemmas.{bit_clear, bit_other, ones_with, with_below}
use Rattle.tron.specs.Cells.{with_cell}
use Rattle.tron.specs.laws.Cells.{free_and_taken, bits_sum}
use Rattle.tron.specs.Position.{IsGrid, IsPosition}
use Rattle.tron.specs.Rules.{Arena, head_of, goes_on, neighbour, is_open, open_directions, directions_of, is_shut, is_over, ways_of, entered, free_cells, tron_rank, tron_key, arena_of, tron_game}

-- ---- the grid
pub few_cells : (height width : ℕ) → IsGrid height width → height * width ≤ 36
few_cells height width grid = omega (arith, mul-le-mul grid.height_high grid.width_high)

-- the neighbour is on the grid
pub within : (height width cell : ℕ) (direction : Direction) → 1 ≤ width → cell < height * width → goes_on height width cell direction ≡ true → neighbour width cell direction < height * width
within height width cell North p h there = omega arith
within height width cell East p h there =
    let row : cell / width < height = div_below cell width height p h in
    omega (arith, mul-add-lt (cell / width) width (cell % width + 1) height row (ltb-true _ _ there))
within height width cell South p h there =
    omega (arith, mul-add-lt (cell / width + 1) width (cell % width) height (ltb-true _ _ there) (mod_below cell width p))
within height width cell West p h there = omega arith

-- ---- directions
pub few_directions : (r : Arena) (cell : ℕ) → length (open_directions r cell) ≤ 4
few_directions r cell =
    let all = North ∷ East ∷ South ∷ West ∷ [] in
    omega (arith, length-filter (is_open r cell) all, count_by-le-length (is_open r cell) all)

-- what holds of a free neighbour
pub record IsFreeNeighbour (r : Arena) (cell : ℕ) (direction : Direction) : Type 0 where
  pub there : goes_on r.height r.width cell direction ≡ true
  pub free : r.taken (neighbour r.width cell direction) ≡ false

pub direction_free : (r : Arena) (cell i : ℕ) → i < length (open_directions r cell) → IsFreeNeighbour r cell (get_or (open_directions r cell) i North)
direction_free r cell i h =
    let d = get_or (open_directions r cell) i North in
    let opened : is_open r cell d ≡ true =
    All-get_or (λ (e : Direction). is_open r cell e ≡ true) (open_directions r cell) i North h (filter_passes (is_open r cell) (North ∷ East ∷ South ∷ West ∷ [])) in
    let both = and_parts (goes_on r.height r.width cell d) (not (r.taken (neighbour r.width cell d))) opened in
    record { there = both.0; free = not-true (r.taken (neighbour r.width cell d)) both.1 }

-- ---- ends
ways_open : (over : Bool) (xs : List Direction) (i : ℕ) → i < length (cond over [] xs) → over ≡ false
ways_open true xs i h = absurd (omega arith)
ways_open false xs i h = refl

ways_few : (over : Bool) (xs : List Direction) (top : ℕ) → length xs ≤ top → length (cond over [] xs) ≤ top
ways_few true xs top h = omega arith
ways_few false xs top h = h

-- where the game goes on
record GoesOn (r : Arena) : Type 0 where
  apart : r.one ≢ r.two
  some : (side : Side) → 1 ≤ length (directions_of r side)

positive : (n : ℕ) → eqb n 0 ≡ false → 1 ≤ n
positive n h = let differ = eqb-false n 0 h in omega arith

both_sides : (r : Arena) → is_shut r One ≡ false → is_shut r Two ≡ false → (side : Side) → 1 ≤ length (directions_of r side)
both_sides r one two One = positive (length (open_directions r r.one)) one
both_sides r one two Two = positive (length (open_directions r r.two)) two

not_over : (r : Arena) → is_over r ≡ false → GoesOn r
not_over r h =
    let first = or_parts (eqb r.one r.two) (is_shut r One || is_shut r Two) h in
    let shut = or_parts (is_shut r One) (is_shut r Two) first.1 in
    record { apart = eqb-false r.one r.two first.0; some = both_sides r shut.0 shut.1 }

cond_below : (over : Bool) (x top : ℕ) → 0 < top → (over ≡ false → x < top) → cond over 0 x < top
cond_below true x top p h = p
cond_below false x top p h = h refl

over_at_zero : (over : Bool) (x : ℕ) → (over ≡ false → 1 ≤ x) → cond over 0 x ≡ 0 → over ≡ true
over_at_zero true x h e = refl
over_at_zero false x h e = absurd (omega (arith, h refl))

open_at_rank : (over : Bool) (x : ℕ) → 1 ≤ cond over 0 x → over ≡ false
open_at_rank true x h = absurd (omega arith)
open_at_rank false x h = refl

payoff_small : (a b c : Bool) → (neg_ℤ (pos 1) ≤ℤ cond a (pos 0) (cond b (pos 0) (cond c (neg_ℤ (pos 1)) (pos 1)))) × (cond a (pos 0) (cond b (pos 0) (cond c (neg_ℤ (pos 1)) (pos 1))) ≤ℤ pos 1)
payoff_small true b c = (omega (arith, ints), omega (arith, ints))
payoff_small false true c = (omega (arith, ints), omega (arith, ints))
payoff_small false false true = (omega (arith, ints), omega (arith, ints))
payoff_small false false false = (omega (arith, ints), omega (arith, ints))

-- ---- states
-- what holds of each reachable state
pub record IsTronSound (g : Setting) (s : State) : Type 0 where
  pub one_on_grid : s.one < g.height * g.width
  pub two_on_grid : s.two < g.height * g.width
  pub taken_on_grid : s.taken < 2 ^ (g.height * g.width)

pub same_tron_state : (s t : State) → s.taken ≡ t.taken → s.one ≡ t.one → s.two ≡ t.two → s ≡ t
same_tron_state s t p q r = λ i. record { taken = p i; one = q i; two = r i }

-- what holds of the cell that a side enters
pub record IsCellEntered (g : Setting) (s : State) (cell : ℕ) : Type 0 where
  pub on_grid : cell < g.height * g.width
  pub free : bit_at s.taken cell ≡ 0

-- two cells are taken
two_more : (taken one two : ℕ) → one ≢ two → bit_at taken one ≡ 0 → bit_at taken two ≡ 0 → ones (with_cell (with_cell taken one) two) ≡ ones taken + 2
two_more taken one two differ free_one free_two =
    let still : bit_at (with_cell taken one) two ≡ 0 = bit_other taken one two (λ e. differ (sym e)) ∙ free_two in
    omega (arith, ones_with taken one free_one, ones_with (with_cell taken one) two still)

turn_open : (g : Setting) (side : Side) (s : State) (i : ℕ) → i < length (ways_of (arena_of g s) side) → is_over (arena_of g s) ≡ false
turn_open g side s i h = ways_open (is_over (arena_of g s)) (directions_of (arena_of g s) side) i h

open_ways : (g : Setting) (side : Side) (s : State) → is_over (arena_of g s) ≡ false → ways_of (arena_of g s) side ≡ directions_of (arena_of g s) side
open_ways g side s h = ap (λ (b : Bool). cond b [] (directions_of (arena_of g s) side)) h

pub direction_place : (g : Setting) (side : Side) (s : State) (i : ℕ) → i < length (ways_of (arena_of g s) side) → i < length (directions_of (arena_of g s) side)
direction_place g side s i h = rw (open_ways g side s (turn_open g side s i h)) at h

pub direction_at : (g : Setting) (side : Side) (s : State) (i : ℕ) → i < length (ways_of (arena_of g s) side)
    → get_or (ways_of (arena_of g s) side) i North ≡ get_or (directions_of (arena_of g s) side) i North
direction_at g side s i h = ap (λ (xs : List Direction). get_or xs i North) (open_ways g side s (turn_open g side s i h))

module _ (g : Setting) (p : IsPosition g) where
  abbrev cells : ℕ
  cells = g.height * g.width

  pub cells_high : cells ≤ 36
  cells_high = few_cells g.height g.width p.grid

  pub head_within : (side : Side) (s : State) → IsTronSound g s → head_of side (arena_of g s) < cells
  head_within One s here = here.one_on_grid
  head_within Two s here = here.two_on_grid

  pub taken_small : (s : State) → IsTronSound g s → s.taken < 2 ^ 36
  taken_small s here = omega (arith, here.taken_on_grid, pow_mono cells_high)

  pub tron_key_is : (s : State) → IsTronSound g s → tron_key (arena_of g s) ≡ (s.taken * 2 ^ 6 + s.one) * 2 ^ 6 + s.two
  tron_key_is s here = omega (arith, bits_sum 36 s.taken (taken_small s here))

  pub free_is : (s : State) → IsTronSound g s → free_cells (arena_of g s) + ones s.taken ≡ cells
  free_is s here = free_and_taken cells s.taken here.taken_on_grid

  direction_entered : (side : Side) (s : State) (i : ℕ) → IsTronSound g s → i < length (directions_of (arena_of g s) side)
      → IsCellEntered g s (neighbour g.width (head_of side (arena_of g s)) (get_or (directions_of (arena_of g s) side) i North))
  direction_entered side s i here h =
      let head = head_of side (arena_of g s) in
      let d : Direction = get_or (open_directions (arena_of g s) head) i North in
      let free = direction_free (arena_of g s) head i h in
      record {
        on_grid = within g.height g.width head d p.grid.width_low (head_within side s here) free.there;
        free = bit_clear s.taken (neighbour g.width head d) free.free;
      }

  -- a move enters a free cell of the grid
  pub cell_entered : (side : Side) (s : State) (i : ℕ) → IsTronSound g s → i < length (ways_of (arena_of g s) side) → IsCellEntered g s (entered (arena_of g s) side i)
  cell_entered side s i here h =
      rw (open_ways g side s (turn_open g side s i h)) (direction_entered side s i here (direction_place g side s i h))

  rank_open : (s : State) → IsTronSound g s → is_over (arena_of g s) ≡ false → 1 ≤ (free_cells (arena_of g s) + 1) / 2
  rank_open s here now =
      let enters = direction_entered One s 0 here ((not_over (arena_of g s) now).some One) in
      let cell = neighbour g.width s.one (get_or (open_directions (arena_of g s) s.one) 0 North) in
      omega (arith, free_is s here, ones-le cells (with_cell s.taken cell) (with_below cells s.taken cell enters.on_grid here.taken_on_grid), ones_with s.taken cell enters.free)

  sound_root : IsTronSound g (tron_game g).root
  sound_root = record {
    one_on_grid = p.one_on_grid;
    two_on_grid = p.two_on_grid;
    taken_on_grid = p.taken_on_grid;
  }

  pub tron_sound_turn : (s : State) (t : Turn) → IsTronSound g s → IsTurn (tron_game g) s t → IsTronSound g (after_turn (tron_game g) s t)
  tron_sound_turn s t here turn =
      let one = cell_entered One s t.one here turn.one_below in
      let two = cell_entered Two s t.two here turn.two_below in
      record {
        one_on_grid = one.on_grid;
        two_on_grid = two.on_grid;
        taken_on_grid = with_below cells _ _ two.on_grid (with_below cells s.taken _ one.on_grid here.taken_on_grid);
      }

  pub tron_sound : (s : State) → Reachable (tron_game g) s → IsTronSound g s
  tron_sound = reachable_induction (tron_game g) (IsTronSound g) sound_root (λ s t _ here turn. tron_sound_turn s t here turn)

  -- the fields of the key
  pub cells_in_bits : (s : State) → Reachable (tron_game g) s → (s.taken < 2 ^ 36) × (s.one < 36) × (s.two < 36)
  cells_in_bits s r = let here = tron_sound s r in (taken_small s here, omega (arith, here.one_on_grid, cells_high), omega (arith, here.two_on_grid, cells_high))

  rank_falls : (s : State) (t : Turn) → IsTronSound g s → IsTurn (tron_game g) s t → tron_rank (arena_of g (after_turn (tron_game g) s t)) < tron_rank (arena_of g s)
  rank_falls s t here turn =
      let now = turn_open g One s t.one turn.one_below in
      let next : State = after_turn (tron_game g) s t in
      let top = (free_cells (arena_of g s) + 1) / 2 in
      let rank : tron_rank (arena_of g s) ≡ top = ap (λ (b : Bool). cond b 0 top) now in
      let lower : is_over (arena_of g next) ≡ false → (free_cells (arena_of g next) + 1) / 2 < top = λ then.
      let more = two_more s.taken next.one next.two (not_over (arena_of g next) then).apart (cell_entered One s t.one here turn.one_below).free (cell_entered Two s t.two here turn.two_below).free in
      omega (arith, free_is s here, free_is next (tron_sound_turn s t here turn), more) in
      rw rank (cond_below (is_over (arena_of g next)) ((free_cells (arena_of g next) + 1) / 2) top (rank_open s here now) lower)

  pub rank_over : (s : State) → IsTronSound g s → tron_rank (arena_of g s) ≡ 0 → is_over (arena_of g s) ≡ true
  rank_over s here h = over_at_zero (is_over (arena_of g s)) ((free_cells (arena_of g s) + 1) / 2) (rank_open s here) h

  end_moves : (side : Side) (s : State) → IsTronSound g s → tron_rank (arena_of g s) ≡ 0 → length (ways_of (arena_of g s) side) ≡ 0
  end_moves side s here h = rw (rank_over s here h) refl

  some_moves : (side : Side) (s : State) → 1 ≤ tron_rank (arena_of g s) → 1 ≤ length (ways_of (arena_of g s) side)
  some_moves side s h =
      let now = open_at_rank (is_over (arena_of g s)) ((free_cells (arena_of g s) + 1) / 2) h in
      rw (open_ways g side s now) ((not_over (arena_of g s) now).some side)

  rank_high : (s : State) → IsTronSound g s → tron_rank (arena_of g s) ≤ 31
  rank_high s here = omega (arith, cond_below (is_over (arena_of g s)) ((free_cells (arena_of g s) + 1) / 2) 32 (omega arith) (λ _. omega (arith, free_is s here, cells_high)))

  equal_keys : (s t : State) → IsTronSound g s → IsTronSound g t → tron_key (arena_of g s) ≡ tron_key (arena_of g t) → s ≡ t
  equal_keys s t here there e =
      let same : (s.taken * 2 ^ 6 + s.one) * 2 ^ 6 + s.two ≡ (t.taken * 2 ^ 6 + t.one) * 2 ^ 6 + t.two = sym (tron_key_is s here) ∙ e ∙ tron_key_is t there in
      let a = here.one_on_grid in let b = here.two_on_grid in let c = there.one_on_grid in let d = there.two_on_grid in
      same_tron_state s t (omega (arith, same, cells_high)) (omega (arith, same, cells_high)) (omega (arith, same, cells_high))

  pub tron_is_game : IsGame (tron_game g)
  tron_is_game = record {
    width_low = omega arith;
    width_high = omega arith;
    low_least = omega (arith, ints);
    low_high = omega (arith, ints);
    high_most = omega (arith, ints);
    end_moves = λ side s r h. end_moves side s (tron_sound s r) h;
    other_moves = λ side s r h. some_moves side s h;
    moves_high = λ side s r. ways_few (is_over (arena_of g s)) (directions_of (arena_of g s) side) 4 (few_directions (arena_of g s) (head_of side (arena_of g s)));
    rank_high = λ s r. omega (arith, rank_high s (tron_sound s r));
    rank_falls = λ s t r turn. rank_falls s t (tron_sound s r) turn;
    least_low = λ s r. omega (arith, ints);
    most_high = λ s r. omega (arith, ints);
    payoff_low = λ s r h. (payoff_small (eqb s.one s.two) (is_shut (arena_of g s) One && is_shut (arena_of g s) Two) (is_shut (arena_of g s) One)).0;
    payoff_high = λ s r h. (payoff_small (eqb s.one s.two) (is_shut (arena_of g s) One && is_shut (arena_of g s) Two) (is_shut (arena_of g s) One)).1;
    reward_low = λ s t r turn. omega (arith, ints);
    reward_high = λ s t r turn. omega (arith, ints);
    same_key = λ s t r r' e. equal_keys s t (tron_sound s r) (tron_sound t r') e;
    key_high = λ s r. omega (arith, tron_key_is s (tron_sound s r), cells_in_bits s r);
    draws_low = λ s a b r h h'. omega arith;
    draws_high = λ s a b r h h'. omega arith;
    chance_low = λ s t r h. omega arith;
    chance_sum = λ s a b r h h'. refl;
    one_draw = λ s a b h r h' h''. refl;
  }
