-- The steps of a search.
use Rattle.std.proofs.Common.{◌≡◌, ◌⊎◌, inl, inr, ⊎_elim, ℕ, ◌+◌, ◌<◌, ◌≤◌, ◌-◌, ◌*◌, ℤ, pos, ◌+ℤ◌, ◌-ℤ◌, unsigned_abs, cond, eqb, refl, sym, subst, ◌∙◌, arith}
use Rattle.std.proofs.lemmas.Bool.{cases_lt}
use Rattle.sim_game.specs.declared.Side.{Side}
use Rattle.sim_game.specs.declared.TheConstants.{MOST_TURNS}
use Rattle.sim_game.specs.Model.{GameModel, IsGame, IsTurn, IsEnd, Reachable}
use Rattle.sim_game.specs.Sides.{other_side, IsNoTighter, opening_bound, state_bound, end_bound, turn_of, draws_of, child_of, better, IsTighter, turn_reward, after_reward}
use Rattle.plan_book.specs.Steps.{cell}
use Rattle.plan_book.specs.Serial.{serial_bound}
use Rattle.plan_book.proofs.ExpectedLemmas.{is_same, is_other}
use Rattle.sim_game.proofs.SideLemmas.{better_cases, better_left, better_right, looser_refl, looser_trans, looser_left, looser_right, looser_both, tighter_or}
use Rattle.sim_game.proofs.SideLemmas.{tighter_not, tighter_is, tighter_than, least_tighter, above_better, worse_left, worse_right, below_worse, worse_is}
use Rattle.sim_game.proofs.SideLemmas.{better_is, better_least, flip_side, looser_add, looser_more, add_less, opening_state, opening_range, end_range, state_range}
use Rattle.sim_game.proofs.RewardLemmas.{small_between, reward_small}
use Rattle.std.proofs.lemmas.Int.{ints}
use Rattle.std.proofs.lemmas.Bool.{cases_eq}
use Rattle.sim_game.specs.declared.Side.TheVariants.{One, Two}
use Rattle.bounds_board.specs.Views.{BoardView, IsLater, IsSeenNumber, known_bound, by_end, by_range}
use Rattle.bounds_board.proofs.KnownLemmas.{range_known, known_number, known_later}
use Rattle.serial_ab.specs.Values.{turn_value, pair_value, move_value}
use Rattle.serial_ab.specs.Searches.{IsWindow, IsNear, IsInStateRange, IsFound, IsMoveFound, IsPairFound, IsGoodNumber, IsReplied}
use Rattle.serial_ab.proofs.KeptLemmas.{good_later}
use Rattle.serial_ab.proofs.ValueLemmas.{serial_end, serial_from, serial_to, pair_range, turn_from, turn_to, cell_one, cell_same, cell_mono, move_below, pair_above, moves_all, replies_all}

-- what is known after the first own moves
pub record MovesSoFar {S G N : Type 0} (m : GameModel S) (side : Side) (s : S) (worse good : ℤ) (owns : ℕ) (value : ℤ) (v : BoardView G N) : Type 0 where
  pub wide : IsTighter side good value
  pub proven : IsTighter side value worse → IsNoTighter side value (serial_bound m side s)
  pub seen : IsTighter side value worse → IsNoTighter side value (known_bound m v side s)
  pub reached : (own : ℕ) → own < owns → IsNoTighter side (move_value m side s own) value
  pub near : IsNear m s value
  pub low : 1 ≤ owns → IsNoTighter side (state_bound m side s) value
  pub high : IsNoTighter side value (state_bound m (other_side side) s)
  pub opened : IsNoTighter side (opening_bound m side) (v.seen side (m.key s))

-- what is known after the first replies to an own move
pub record RepliesSoFar {S G N : Type 0} (m : GameModel S) (side : Side) (s : S) (own : ℕ) (floor good : ℤ) (replies : ℕ) (least : ℤ) (v : BoardView G N) : Type 0 where
  pub wide : IsTighter side least floor
  pub replied : IsReplied m side s own replies v least
  pub reached : IsTighter side good least → IsNoTighter side (move_value m side s own) least
  pub near : IsNear m s least
  pub low : IsNoTighter side (state_bound m side s) least
  pub high : 1 ≤ replies → IsNoTighter side least (state_bound m (other_side side) s)

-- ---- how far numbers are from 0
pub near_better : {S : Type 0} (m : GameModel S) (s : S) (side : Side) (x y : ℤ) → IsNear m s x → IsNear m s y → IsNear m s (better side x y)
near_better m s side x y p q = ⊎_elim (λ (e : better side x y ≡ x). subst (IsNear m s) (sym e) p) (λ (e : better side x y ≡ y). subst (IsNear m s) (sym e) q) (better_cases side x y)

pub near_between : {S : Type 0} (m : GameModel S) (game : IsGame m) (s : S) (x : ℤ) → Reachable m s → IsNoTighter One (opening_bound m One) x → IsNoTighter Two (opening_bound m Two) x → IsNear m s x
near_between m game s x r p q = omega (arith, ints, game.low_least, game.high_most, game.rank_high s r)

pub near_range : {S : Type 0} (m : GameModel S) (game : IsGame m) (side : Side) (s : S) (x : ℤ) → Reachable m s → IsInStateRange m side s x → IsNear m s x
near_range m game One s x r range = near_between m game s x r (looser_trans One _ _ _ (opening_state m One s game r) range.low) (looser_trans Two _ _ _ (opening_state m Two s game r) range.high)
near_range m game Two s x r range = near_between m game s x r (looser_trans One _ _ _ (opening_state m One s game r) range.high) (looser_trans Two _ _ _ (opening_state m Two s game r) range.low)

pub range_small : {S : Type 0} (m : GameModel S) (game : IsGame m) (side : Side) (s : S) (x : ℤ) → Reachable m s → IsInStateRange m side s x → unsigned_abs x ≤ 4000000000
range_small m game One s x r range = small_between m game x (looser_trans One _ _ _ (opening_state m One s game r) range.low) (looser_trans Two _ _ _ (opening_state m Two s game r) range.high)
range_small m game Two s x r range = small_between m game x (looser_trans One _ _ _ (opening_state m One s game r) range.high) (looser_trans Two _ _ _ (opening_state m Two s game r) range.low)

-- what is left of a number without a turn's reward
pub near_turn : {S : Type 0} (m : GameModel S) (game : IsGame m) (side : Side) (s : S) (own reply draw : ℕ) (x : ℤ) → Reachable m s → IsTurn m s (turn_of side own reply draw)
    → IsNear m s x → IsNear m (child_of m side s own reply draw) (x -ℤ turn_reward m side s own reply draw)
near_turn m game side s own reply draw x r turn near =
    apart x (turn_reward m side s own reply draw) (m.rank s) (m.rank (child_of m side s own reply draw)) near (reward_small m game side s own reply draw r turn)
    (game.rank_falls s (turn_of side own reply draw) r turn) (game.rank_high s r)
  where
    apart : (x c : ℤ) (n k : ℕ) → unsigned_abs x ≤ 8000000000 * (1 + MOST_TURNS - n) → unsigned_abs c ≤ 8000000000 → k < n → n ≤ MOST_TURNS → unsigned_abs (x -ℤ c) ≤ 8000000000 * (1 + MOST_TURNS - k)
    apart x c n k p q l h = omega (arith, ints)

pub move_window : {S : Type 0} (m : GameModel S) (side : Side) (s : S) (worse good value : ℤ) → IsWindow m side s worse good → IsTighter side good value → IsNear m s value
    → IsWindow m side s (better side value worse) good
move_window m side s worse good value window wide near = record {
  from = near_better m s side value worse near window.from;
  to = window.to;
  wide = above_better side good value worse wide window.wide;
  differ = window.differ;
}

-- a number that is at least as tight as the window's worse end came from the first moves, or from this one
new_value : (side : Side) (worse value x : ℤ) → IsTighter side (better side value x) worse
    → (IsTighter side value worse × (better side value x ≡ value)) ⊎ (IsTighter side x (better side value worse) × (better side value x ≡ x))
new_value side worse value x t = ⊎_elim
    (λ (more : IsTighter side x (better side value worse)).
    let higher : IsNoTighter side value x = looser_trans side _ _ _ (better_left side value worse) (tighter_is side x (better side value worse) more) in
    inr (
      more,
      ⊎_elim (λ (e : better side value x ≡ value). e ∙ looser_both side value x higher (looser_right side _ _ _ e (better_right side value x)))
          (λ (e : better side value x ≡ x). e) (better_cases side value x),
    ))
    (λ (less : IsNoTighter side x (better side value worse)). ⊎_elim
    (λ (e : better side value x ≡ value). inl (subst (λ (z : ℤ). IsTighter side z worse) e t, e))
    (λ (e : better side value x ≡ x). let above : IsTighter side x worse = subst (λ (z : ℤ). IsTighter side z worse) e t in ⊎_elim
    (λ (f : better side value worse ≡ value). let below : IsNoTighter side x value = looser_right side _ _ _ f less in
    inl (least_tighter side value x worse below above, better_is side value x below))
    (λ (f : better side value worse ≡ worse). absurd (tighter_not side x worse above (looser_right side _ _ _ f less)))
    (better_cases side value worse))
    (better_cases side value x))
    (tighter_or side x (better side value worse))

-- the window over the range of payoffs
pub whole_window : {S : Type 0} (m : GameModel S) (game : IsGame m) (side : Side) (s : S) → Reachable m s → IsTighter side (opening_bound m (other_side side)) (opening_bound m side)
    → IsWindow m side s (opening_bound m side) (opening_bound m (other_side side))
whole_window m game side s r differ = record { from = near side; to = near (other_side side); wide = differ; differ = differ } where
  near : (of : Side) → IsNear m s (opening_bound m of)
  near One = near_between m game s _ r (looser_refl One (opening_bound m One)) (opening_range m Two game)
  near Two = near_between m game s _ r (opening_range m One game) (looser_refl Two (opening_bound m Two))

pub pair_window : {S : Type 0} (m : GameModel S) (side : Side) (s : S) (floor good least : ℤ) → IsWindow m side s floor good → IsTighter side least floor → IsNear m s least
    → IsWindow m side s floor (better (other_side side) good least)
pair_window m side s floor good least window wide near = record {
  from = window.from;
  to = near_better m s (other_side side) good least window.to near;
  wide = below_worse side good least floor window.wide wide;
  differ = window.differ;
}

-- the window at the state that follows a turn
pub turn_window : {S : Type 0} (m : GameModel S) (game : IsGame m) (side : Side) (s : S) (own reply draw : ℕ) (floor good : ℤ) → Reachable m s → IsTurn m s (turn_of side own reply draw)
    → IsWindow m side s floor good
    → IsWindow m side (child_of m side s own reply draw) (floor -ℤ turn_reward m side s own reply draw) (good -ℤ turn_reward m side s own reply draw)
turn_window m game side s own reply draw floor good r turn window = record {
  from = near_turn m game side s own reply draw floor r turn window.from;
  to = near_turn m game side s own reply draw good r turn window.to;
  wide = tighter_both side (turn_reward m side s own reply draw) good floor window.wide;
  differ = window.differ;
} where
  tighter_both : (side : Side) (c x y : ℤ) → IsTighter side x y → IsTighter side (x -ℤ c) (y -ℤ c)
  tighter_both One c x y h = omega (arith, ints)
  tighter_both Two c x y h = omega (arith, ints)

tighter_less : (side : Side) (c x y : ℤ) → IsTighter side (c +ℤ x) y → IsTighter side x (y -ℤ c)
tighter_less One c x y h = omega (arith, ints)
tighter_less Two c x y h = omega (arith, ints)

less_tighter : (side : Side) (c x y : ℤ) → IsTighter side y (c +ℤ x) → IsTighter side (y -ℤ c) x
less_tighter One c x y h = omega (arith, ints)
less_tighter Two c x y h = omega (arith, ints)

-- what no number of two is looser than
above_worse : (side : Side) (a b c : ℤ) → IsNoTighter side c a → IsNoTighter side c b → IsNoTighter side c (better (other_side side) a b)
above_worse side a b c p q = ⊎_elim (λ (e : better (other_side side) a b ≡ a). looser_right side c _ _ (sym e) p)
    (λ (e : better (other_side side) a b ≡ b). looser_right side c _ _ (sym e) q) (better_cases (other_side side) a b)

-- of a state that is no end, a number above the window's worse end is known
pub found_seen : {S G N : Type 0} (m : GameModel S) (side : Side) (s : S) {worse good : ℤ} (v : BoardView G N) (x : ℤ) → 1 ≤ m.rank s → IsFound m side s worse good v x
    → IsTighter side x worse
    → IsNoTighter side x (known_bound m v side s)
found_seen m side s v x goes found t = found.seen goes t

-- so an entry may rest on it
found_number : {S G N : Type 0} (m : GameModel S) (side : Side) (s : S) (worse good : ℤ) (v : BoardView G N) (x : ℤ)
    → IsFound m side s worse good v x → IsTighter side x worse → IsSeenNumber m v side s x
found_number m side s worse good v x found t =
    ⊎_elim (λ (e : m.rank s ≡ 0). by_end e (found.at_end e)) (λ (n : ¬ (m.rank s ≡ 0)). known_number m v side s x (found.seen (omega arith) t))
    (cases_eq (m.rank s) 0)

module _ {S G N : Type 0} (m : GameModel S) (game : IsGame m) (side : Side) (s : S) where
  -- ---- an end
  pub found_end : (worse better : ℤ) (v : BoardView G N) → Reachable m s → IsEnd m s → IsFound m side s worse better v (end_bound m s)
  found_end worse better v r stop = record {
    proven = λ _. looser_right side _ _ _ (sym (serial_end m game side s stop)) (looser_refl side (end_bound m s));
    at_end = λ _. refl;
    seen = λ goes t. absurd (omega arith);
    reached = λ _. looser_left side _ _ _ (sym (serial_end m game side s stop)) (looser_refl side (end_bound m s));
    range = record { low = end_range m side s game r stop; high = flip_side side _ _ (end_range m (other_side side) s game r stop) };
    opened = λ goes. absurd (omega arith);
  }

  module _ (r : Reachable m s) (goes : 1 ≤ m.rank s) where
    -- ---- the moves of a state
    pub moves_start : (worse good : ℤ) (v : BoardView G N) → IsWindow m side s worse good → IsNoTighter side (opening_bound m side) (v.seen side (m.key s))
        → MovesSoFar m side s worse good 0 (better (other_side side) (state_bound m side s) worse) v
    moves_start worse good v window opened = let below = worse_right side (state_bound m side s) worse in record {
      wide = tighter_than side good worse _ window.wide below;
      proven = λ t. absurd (tighter_not side _ worse t below);
      seen = λ t. absurd (tighter_not side _ worse t below);
      reached = λ own h. absurd (omega arith);
      near = near_better m s (other_side side) _ worse (near_range m game side s _ r (record { low = looser_refl side (state_bound m side s); high = state_range m side s game r })) window.from;
      low = λ some. absurd (omega arith);
      high = looser_trans side _ _ _ (worse_left side (state_bound m side s) worse) (state_range m side s game r);
      opened = opened;
    }

    module _ (worse good : ℤ) (own : ℕ) (at : own < m.moves side s) (value x : ℤ) (u v : BoardView G N) (later : IsLater u v)
        (so_far : MovesSoFar m side s worse good own value u) (found : IsMoveFound m side s own (better side value worse) good v x) where
      value_proven : IsTighter side (better side value x) worse → IsNoTighter side (better side value x) (serial_bound m side s)
      value_proven t = ⊎_elim
          (λ (h : IsTighter side value worse × (better side value x ≡ value)). looser_left side _ _ _ (sym h.1) (so_far.proven h.0))
          (λ (h : IsTighter side x (better side value worse) × (better side value x ≡ x)). looser_left side _ _ _ (sym h.1)
          (looser_trans side _ _ _ (found.proven h.0) (move_below m game side s own r goes at)))
          (new_value side worse value x t)

      value_seen : IsTighter side (better side value x) worse → IsNoTighter side (better side value x) (known_bound m v side s)
      value_seen t = ⊎_elim
          (λ (h : IsTighter side value worse × (better side value x ≡ value)). looser_left side _ _ _ (sym h.1)
          (looser_trans side _ _ _ (so_far.seen h.0) (known_later m u v side s later)))
          (λ (h : IsTighter side x (better side value worse) × (better side value x ≡ x)). looser_left side _ _ _ (sym h.1) (found.seen h.0))
          (new_value side worse value x t)

      value_range : IsInStateRange m side s (better side value x)
      value_range = record {
        low = looser_trans side _ _ _ found.range.low (better_right side value x);
        high = better_least side value x _ so_far.high found.range.high;
      }

      -- the value has reached the window's better end
      pub moves_stop : IsNoTighter side good (better side value x) → IsFound m side s worse good v (better side value x)
      moves_stop high = record {
        proven = value_proven;
        at_end = λ e. absurd (omega arith);
        seen = λ _ t. value_seen t;
        reached = λ t. absurd (tighter_not side good (better side value x) t high);
        range = value_range;
        opened = λ _. looser_trans side _ _ _ so_far.opened (later.seen side (m.key s));
      }

      pub moves_more : IsTighter side good (better side value x) → MovesSoFar m side s worse good (own + 1) (better side value x) v
      moves_more wide = record {
        wide = wide;
        proven = value_proven;
        seen = value_seen;
        reached = λ j h. ⊎_elim
            (λ (lt : j < own). looser_trans side _ _ _ (so_far.reached j lt) (better_left side value x))
            (λ (ge : own ≤ j). let same : own ≡ j = omega arith in subst (λ (i : ℕ). IsNoTighter side (move_value m side s i) (better side value x)) same
            (looser_trans side _ _ _ (found.reached (tighter_than side good (better side value x) x wide (better_right side value x))) (better_right side value x)))
            (cases_lt j own);
        near = near_range m game side s _ r value_range;
        low = λ _. value_range.low;
        high = value_range.high;
        opened = looser_trans side _ _ _ so_far.opened (later.seen side (m.key s));
      }

    pub moves_end : (worse good value : ℤ) (v : BoardView G N) → MovesSoFar m side s worse good (m.moves side s) value v → IsFound m side s worse good v value
    moves_end worse good value v so_far = record {
      proven = so_far.proven;
      at_end = λ e. absurd (omega arith);
      seen = λ _ t. so_far.seen t;
      reached = λ _. moves_all m game side s value r goes so_far.reached;
      range = record { low = so_far.low (game.other_moves side s r goes); high = so_far.high };
      opened = λ _. so_far.opened;
    }

    -- ---- the replies to an own move
    module _ (own : ℕ) (at : own < m.moves side s) where
      pub replies_start : (floor good : ℤ) (v : BoardView G N) → IsWindow m side s floor good
          → RepliesSoFar m side s own floor good 0 (better side (state_bound m (other_side side) s) good) v
      replies_start floor good v window = let top = better_left side (state_bound m (other_side side) s) good in record {
        wide = least_tighter side _ good floor (better_right side (state_bound m (other_side side) s) good) window.wide;
        replied = record { numbers = λ _ _. pos 0; good = λ reply d h. absurd (omega arith); proven = λ reply h. absurd (omega arith) };
        reached = λ _. let some = game.other_moves (other_side side) s r goes in
            looser_trans side _ _ _ (pair_above m game side s own 0 some (omega arith)) (looser_trans side _ _ _ (pair_range m game side s own 0 r at (omega arith)).high top);
        near = near_better m s side _ good (near_range m game side s _ r (record { low = state_range m side s game r; high = looser_refl side (state_bound m (other_side side) s) })) window.to;
        low = looser_trans side _ _ _ (state_range m side s game r) top;
        high = λ some. absurd (omega arith);
      }

      module _ (floor good : ℤ) (reply : ℕ) (against : reply < m.moves (other_side side) s) (least x : ℤ) (u v : BoardView G N) (later : IsLater u v)
          (so_far : RepliesSoFar m side s own floor good reply least u)
          (found : IsPairFound m side s own reply floor (better (other_side side) good least) v x) where
        -- the least number so far bounds the move where it is below the window's better end
        least_reached : IsTighter side good (better (other_side side) least x) → IsNoTighter side (move_value m side s own) (better (other_side side) least x)
        least_reached t = ⊎_elim
            (λ (less : IsTighter side least x).
            let is : better (other_side side) least x ≡ x = worse_is side least x (tighter_is side least x less) in
            let below : IsTighter side (better (other_side side) good least) x = below_worse side good least x (subst (λ (z : ℤ). IsTighter side good z) is t) less in
            looser_right side _ _ _ (sym is) (looser_trans side _ _ _ (pair_above m game side s own reply (omega arith) against) (found.reached below)))
            (λ (more : IsNoTighter side least x).
            let is : better (other_side side) least x ≡ least = looser_both side _ _ (worse_left side least x) (above_worse side least x least (looser_refl side least) more) in
            looser_right side _ _ _ (sym is) (so_far.reached (subst (λ (z : ℤ). IsTighter side good z) is t)))
            (tighter_or side least x)

        least_range : IsInStateRange m side s (better (other_side side) least x)
        least_range = record {
          low = above_worse side least x _ so_far.low found.range.low;
          high = looser_trans side _ _ _ (worse_right side least x) found.range.high;
        }

        -- the move is left
        pub replies_stop : IsNoTighter side (better (other_side side) least x) floor → IsMoveFound m side s own floor good v (better (other_side side) least x)
        replies_stop low = record {
          proven = λ t. absurd (tighter_not side _ floor t low);
          seen = λ t. absurd (tighter_not side _ floor t low);
          reached = least_reached;
          range = least_range;
        }

        abbrev numbers_after : ℕ → ℕ → ℤ
        numbers_after i d = cond (eqb i reply) (found.numbers d) (so_far.replied.numbers i d)

        earlier : (i d : ℕ) → i < reply → numbers_after i d ≡ so_far.replied.numbers i d
        earlier i d h = rw (is_other i reply (λ e. omega arith)) refl

        latest : (d : ℕ) → numbers_after reply d ≡ found.numbers d
        latest d = rw (is_same reply reply refl) refl

        pub replies_more : IsTighter side (better (other_side side) least x) floor → RepliesSoFar m side s own floor good (reply + 1) (better (other_side side) least x) v
        replies_more wide =
            let tight : IsTighter side x floor = least_tighter side x (better (other_side side) least x) floor (worse_right side least x) wide in record {
              wide = wide;
              reached = least_reached;
              near = near_range m game side s _ r least_range;
              low = least_range.low;
              high = λ _. least_range.high;
              replied = record {
                numbers = numbers_after;
                good = λ i d h w. ⊎_elim
                    (λ (lt : i < reply). subst (λ (z : ℤ). after_reward m side s own i d (IsGoodNumber m side v) z) (sym (earlier i d lt))
                    (good_later later (so_far.replied.good i d lt w)))
                    (λ (ge : reply ≤ i). let same : reply ≡ i = omega arith in
                    subst (λ (k : ℕ). (d' : ℕ) → d' < draws_of m side s own k → after_reward m side s own k d' (IsGoodNumber m side v) (numbers_after k d')) same
                    (λ d' w'. subst (λ (z : ℤ). after_reward m side s own reply d' (IsGoodNumber m side v) z) (sym (latest d')) (found.good tight d' w')) d w)
                    (cases_lt i reply);
                proven = λ i h. ⊎_elim
                    (λ (lt : i < reply). looser_trans side _ _ _ (worse_left side least x) (looser_right side least _ _
                    (cell_same m side s (λ _ a b. so_far.replied.numbers a b) (λ _ a b. numbers_after a b) own i (λ d _. sym (earlier i d lt))) (so_far.replied.proven i lt)))
                    (λ (ge : reply ≤ i). let same : reply ≡ i = omega arith in
                    subst (λ (k : ℕ). IsNoTighter side (better (other_side side) least x) (cell m side s (λ _ a b. numbers_after a b) own k)) same
                    (looser_trans side _ _ _ (worse_right side least x) (looser_right side x _ _
                    (cell_same m side s (λ _ _ b. found.numbers b) (λ _ a b. numbers_after a b) own reply (λ d _. sym (latest d))) (found.proven tight))))
                    (cases_lt i reply);
              };
            }

      -- all replies were tried and the step was posted
      pub replies_end : (floor good least : ℤ) (u v : BoardView G N) → RepliesSoFar m side s own floor good (m.moves (other_side side) s) least u
          → IsNoTighter side least (known_bound m v side s) → IsMoveFound m side s own floor good v least
      replies_end floor good least u v so_far seen = record {
        proven = λ _. replies_all m game side s own least (game.other_moves (other_side side) s r goes) (λ reply q. looser_trans side _ _ _ (so_far.replied.proven reply q)
            (cell_mono m side s (λ _ a b. so_far.replied.numbers a b) (turn_value m side s) own reply
            (λ d w. looser_more side (turn_reward m side s own reply d) _ _ (so_far.replied.good reply d q w).proven)));
        seen = λ _. seen;
        reached = so_far.reached;
        range = record { low = so_far.low; high = so_far.high (game.other_moves (other_side side) s r goes) };
      }

      -- ---- a reply with one draw
      module _ (reply : ℕ) (against : reply < m.moves (other_side side) s) where
        module _ (floor ceiling : ℤ) (v : BoardView G N) (x : ℤ) (one : draws_of m side s own reply ≡ 1) where
          abbrev pay : ℤ
          pay = turn_reward m side s own reply 0

          alone : 0 < draws_of m side s own reply
          alone = omega arith

          pub pair_one : IsFound m side (child_of m side s own reply 0) (floor -ℤ pay) (ceiling -ℤ pay) v x → IsPairFound m side s own reply floor ceiling v (pay +ℤ x)
          pair_one found = record {
            numbers = λ _. pay +ℤ x;
            good = λ t d w. let first : 0 ≡ d = omega arith in subst (λ (i : ℕ). after_reward m side s own reply i (IsGoodNumber m side v) (pay +ℤ x)) first
                (subst (IsGoodNumber m side v (child_of m side s own reply 0)) (sym (add_less pay x))
                (record { proven = found.proven (tighter_less side pay x floor t); seen = found_number m side _ _ _ v x found (tighter_less side pay x floor t) }));
            proven = λ t. looser_right side (pay +ℤ x) _ _ (sym (cell_one m game side s (λ _ _ d. pay +ℤ x) own reply r at against one)) (looser_refl side (pay +ℤ x));
            reached = λ t. looser_left side _ _ _ (sym (cell_one m game side s (turn_value m side s) own reply r at against one))
                (looser_add side pay _ x (found.reached (less_tighter side pay x ceiling t)));
            range = record {
              low = turn_from m game side s own reply 0 r at against alone x found.range.low;
              high = turn_to m game side s own reply 0 r at against alone x found.range.high;
            };
          }

        -- ---- a reply with several draws
        pub pair_several : (floor ceiling : ℤ) (v : BoardView G N)
            → ((d : ℕ) → d < draws_of m side s own reply → after_reward m side s own reply d (IsGoodNumber m side v) (turn_value m side s own reply d))
            → IsPairFound m side s own reply floor ceiling v (pair_value m side s own reply)
        pair_several floor ceiling v good = record {
          numbers = λ d. turn_value m side s own reply d;
          good = λ _. good;
          proven = λ _. looser_refl side (pair_value m side s own reply);
          reached = λ _. looser_refl side (pair_value m side s own reply);
          range = pair_range m game side s own reply r at against;
        }

  -- ---- the whole range
  -- over the whole range the number is the serial bound, and known
  pub whole_range : (v : BoardView G N) (x : ℤ) → Reachable m s → IsFound m side s (opening_bound m side) (opening_bound m (other_side side)) v x
      → IsTighter side (opening_bound m (other_side side)) (opening_bound m side)
      → (x ≡ serial_bound m side s) × IsGoodNumber m side v s x
  whole_range v x r found range = let low = serial_from m game side s r in ⊎_elim
      (λ (t : IsTighter side x (opening_bound m side)).
      let proven = found.proven t in
      let upper : IsNoTighter side (serial_bound m side s) x = ⊎_elim (λ (b : IsTighter side (opening_bound m (other_side side)) x). found.reached b)
      (λ (b : IsNoTighter side (opening_bound m (other_side side)) x). looser_trans side _ _ _ (serial_to m game side s r) b)
      (tighter_or side (opening_bound m (other_side side)) x) in
      (looser_both side x _ proven upper, record { proven = proven; seen = found_number m side s _ _ v x found t }))
      (λ (t : IsNoTighter side x (opening_bound m side)).
      let upper = found.reached (tighter_than side _ (opening_bound m side) x range t) in
      let lower : IsNoTighter side x (serial_bound m side s) = looser_trans side _ _ _ t low in
      (looser_both side x _ lower upper, record { proven = lower; seen = by_range (looser_trans side _ _ _ t (opening_state m side s game r)) }))
      (tighter_or side x (opening_bound m side))

  pub whole_seen : (v : BoardView G N) (x : ℤ) → Reachable m s → 1 ≤ m.rank s → IsFound m side s (opening_bound m side) (opening_bound m (other_side side)) v x
      → IsTighter side (opening_bound m (other_side side)) (opening_bound m side)
      → IsNoTighter side (serial_bound m side s) (known_bound m v side s)
  whole_seen v x r goes found range = looser_left side _ _ _ (whole_range v x r found range).0 (⊎_elim
      (λ (t : IsTighter side x (opening_bound m side)). found.seen goes t)
      (λ (t : IsNoTighter side x (opening_bound m side)). looser_trans side _ _ _ t (looser_trans side _ _ _ (opening_state m side s game r) (range_known m v side s)))
      (tighter_or side x (opening_bound m side)))
