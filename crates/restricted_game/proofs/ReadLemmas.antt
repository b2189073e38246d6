-- Numbers that were read at a state: at an end, at a row, and as the views go on.
use Rattle.std.proofs.Common.{◌≡◌, ⊎_elim, inl, inr, ◌⊎◌, ℕ, zero, suc, ◌<◌, ◌≤◌, ℤ, ◌+ℤ◌, ◌-ℤ◌, ◌≤ℤ◌, unsigned_abs, List, refl, sym, ap, subst, ◌∙◌, arith}
use Rattle.sim_game.specs.declared.Side.{Side}
use Rattle.sim_game.specs.declared.Side.TheVariants.{One, Two}
use Rattle.sim_game.specs.Model.{GameModel, IsGame, IsTurn, IsEnd, Reachable, LeadsTo}
use Rattle.sim_game.specs.Sides.{other_side, IsNoTighter, state_bound, end_bound, turn_of, turn_reward, after_reward}
use Rattle.sim_game.proofs.SideLemmas.{looser_refl, looser_left, looser_right, looser_trans, looser_add, looser_more, less_add, add_less, flip_side, opening_state, end_range, turn_range}
use Rattle.sim_game.proofs.ReachLemmas.{leads_none, leads_turn, reachable_turn}
use Rattle.sim_game.proofs.RewardLemmas.{small_between}
use Rattle.plan_book.specs.Backed.{IsBacked, by_end}
use Rattle.plan_book.proofs.BackedLemmas.{backed_within}
use Rattle.bounds_board.specs.declared.bounds.Enclosure.{Enclosure}
use Rattle.bounds_board.specs.Views.{BoardView, IsLater, IsSeenNumber, IsEnclosure, by_end as end_number, bound_in, known_bound}
use Rattle.bounds_board.proofs.KnownLemmas.{range_known, known_number, known_later}
use Rattle.restricted_game.specs.Children.{IsRowOf}
use Rattle.restricted_game.specs.Numbers.{IsClaimed, IsReadNumber, AreRead, AreTurnRead, IsReadChild}
use Rattle.restricted_game.specs.Sizes.{IsSmallEnclosure}

-- the payoff of an end, as a number of either side
end_number_read : {S G N : Type 0} (m : GameModel S) (v : BoardView G N) (s : S) (x : ℤ) (side : Side) → IsGame m → Reachable m s → IsEnd m s → x ≡ end_bound m s → IsReadNumber m v v side s x
end_number_read m v s x side game r e h = record {
  backed = by_end s x e (looser_left side _ _ _ (sym h) (looser_refl side (end_bound m s)));
  low = looser_right side _ _ _ (sym h) (end_range m side s game r e);
  high = looser_left side _ _ _ (sym h) (flip_side side _ _ (end_range m (other_side side) s game r e));
  at_end = λ _. h;
  claimed = λ g. absurd (omega arith);
  no_looser = λ g. absurd (omega arith);
  no_tighter = λ g. absurd (omega arith);
}

pub end_read : {S G N : Type 0} (m : GameModel S) (v : BoardView G N) (s : S) (x : ℤ) → IsGame m → Reachable m s → IsEnd m s → x ≡ end_bound m s → AreRead m v v s (record { lower = x; upper = x })
end_read m v s x game r e h = record { number = both } where
  both : (side : Side) → IsReadNumber m v v side s (bound_in side (record { lower = x; upper = x }))
  both One = end_number_read m v s x One game r e h
  both Two = end_number_read m v s x Two game r e h

claimed_later : {G N : Type 0} (u v : BoardView G N) (key : ℕ) → IsLater u v → IsClaimed u key → IsClaimed v key
claimed_later u v key later claimed = record { row = claimed.row; holds = later.keys claimed.row key claimed.holds }

-- what is known of a state that has a row
pub row_read : {S G N : Type 0} (m : GameModel S) → IsGame m → (u v : BoardView G N) (t : S) → Reachable m t → (row : ℕ) (e : Enclosure) → IsLater u v → IsRowOf m u t row
    → IsEnclosure m e.lower e.upper t → ((side : Side) → bound_in side e ≡ known_bound m v side t) → AreRead m u v t e
row_read m game u v t r row e later is enclosed known = record { number = λ side. number side (bound_in side e) (backed side) (known side) } where
  backed : (side : Side) → IsBacked m side t (bound_in side e)
  backed One = enclosed.lower_backed
  backed Two = enclosed.upper_backed

  number : (side : Side) (x : ℤ) → IsBacked m side t x → x ≡ known_bound m v side t → IsReadNumber m u v side t x
  number side x backed at = record {
    backed = backed;
    low = looser_right side _ _ _ (sym at) (range_known m v side t);
    high = backed_within m game side t x r backed;
    at_end = λ h. absurd (let g = is.goes_on in omega arith);
    claimed = λ _. record { row = row; holds = later.keys row (m.key t) is.holds };
    no_looser = λ _. looser_right side _ _ _ (sym at) (known_later m u v side t later);
    no_tighter = λ _. looser_left side _ _ _ (sym at) (looser_refl side (known_bound m v side t));
  }

-- what is read is no further from 0 than a payoff
pub read_small : {S G N : Type 0} (m : GameModel S) (u v : BoardView G N) (s : S) (e : Enclosure) → IsGame m → Reachable m s → AreRead m u v s e → IsSmallEnclosure e
read_small m u v s e game r read = record { lower = small e.lower (read.number One).low (read.number One).high; upper = small e.upper (read.number Two).high (read.number Two).low } where
  small : (x : ℤ) → state_bound m One s ≤ℤ x → x ≤ℤ state_bound m Two s → unsigned_abs x ≤ 4000000000
  small x p q = small_between m game x (looser_trans One _ _ _ (opening_state m One s game r) p) (looser_trans Two _ _ _ (opening_state m Two s game r) q)

-- ---- numbers of turns
-- a number of a turn lies between the bounds of the state
pub turn_low : {S G N : Type 0} (m : GameModel S) (u v : BoardView G N) (of side : Side) (s : S) (own reply draw : ℕ) (x : ℤ) → IsGame m → Reachable m s → IsTurn m s (turn_of of own reply draw)
    → after_reward m of s own reply draw (IsReadNumber m u v side) x → IsNoTighter side (state_bound m side s) x
turn_low m u v of side s own reply draw x game r turn read =
    let pay : ℤ = turn_reward m of s own reply draw in
    looser_trans side _ _ _ (turn_range m side of s own reply draw game r turn)
    (looser_right side _ _ _ (less_add pay x) (looser_add side pay _ (x -ℤ pay) read.low))

pub turn_high : {S G N : Type 0} (m : GameModel S) (u v : BoardView G N) (of side : Side) (s : S) (own reply draw : ℕ) (x : ℤ) → IsGame m → Reachable m s → IsTurn m s (turn_of of own reply draw)
    → after_reward m of s own reply draw (IsReadNumber m u v side) x → IsNoTighter side x (state_bound m (other_side side) s)
turn_high m u v of side s own reply draw x game r turn read =
    looser_trans side _ _ _ (looser_more side (turn_reward m of s own reply draw) x _ read.high) (flip_side side _ _ (turn_range m (other_side side) of s own reply draw game r turn))

-- so both are no further from 0 than a payoff
pub turn_small : {S G N : Type 0} (m : GameModel S) (u v : BoardView G N) (s : S) (one two draw : ℕ) (e : Enclosure) → IsGame m → Reachable m s → IsTurn m s (turn_of One one two draw)
    → AreTurnRead m u v s one two draw e → IsSmallEnclosure e
turn_small m u v s one two draw e game r turn read = record {
  lower = small e.lower (turn_low m u v One One s one two draw e.lower game r turn (read.number One)) (turn_high m u v One One s one two draw e.lower game r turn (read.number One));
  upper = small e.upper (turn_high m u v One Two s one two draw e.upper game r turn (read.number Two)) (turn_low m u v One Two s one two draw e.upper game r turn (read.number Two));
} where
  small : (x : ℤ) → state_bound m One s ≤ℤ x → x ≤ℤ state_bound m Two s → unsigned_abs x ≤ 4000000000
  small x p q = small_between m game x (looser_trans One _ _ _ (opening_state m One s game r) p) (looser_trans Two _ _ _ (opening_state m Two s game r) q)

-- what was read at the state that follows, with the turn's reward
pub turn_read : {S G N : Type 0} (m : GameModel S) (u v : BoardView G N) (s : S) (one two draw : ℕ) (e f : Enclosure) → AreRead m u v (m.drawn s one two draw) e
    → ((side : Side) → bound_in side f ≡ turn_reward m One s one two draw +ℤ bound_in side e) → AreTurnRead m u v s one two draw f
turn_read m u v s one two draw e f read is = record {
  number = λ side. subst (IsReadNumber m u v side (m.drawn s one two draw))
      (sym (ap (λ (x : ℤ). x -ℤ turn_reward m One s one two draw) (is side) ∙ add_less (turn_reward m One s one two draw) (bound_in side e))) (read.number side);
}

-- what was read between two views was read between an earlier and a later one
pub number_between : {S G N : Type 0} (m : GameModel S) (t u v w : BoardView G N) (side : Side) (s : S) (x : ℤ) → IsLater t u → IsLater v w → IsReadNumber m u v side s x → IsReadNumber m t w side s x
number_between m t u v w side s x earlier later r = record {
  backed = r.backed;
  low = r.low;
  high = r.high;
  at_end = r.at_end;
  claimed = λ g. claimed_later v w (m.key s) later (r.claimed g);
  no_looser = λ g. looser_trans side _ _ _ (known_later m t u side s earlier) (r.no_looser g);
  no_tighter = λ g. looser_trans side _ _ _ (r.no_tighter g) (known_later m v w side s later);
}

pub read_between : {S G N : Type 0} (m : GameModel S) (t u v w : BoardView G N) (s : S) (e : Enclosure) → IsLater t u → IsLater v w → AreRead m u v s e → AreRead m t w s e
read_between m t u v w s e earlier later r = record { number = λ side. number_between m t u v w side s (bound_in side e) earlier later (r.number side) }

pub turn_between : {S G N : Type 0} (m : GameModel S) (t u v w : BoardView G N) (s : S) (one two draw : ℕ) (e : Enclosure) → IsLater t u → IsLater v w
    → AreTurnRead m u v s one two draw e → AreTurnRead m t w s one two draw e
turn_between m t u v w s one two draw e earlier later r = record { number = λ side. number_between m t u v w side _ _ earlier later (r.number side) }

pub cases_rank : (n : ℕ) → (n ≡ 0) ⊎ (1 ≤ n)
cases_rank zero = inl refl
cases_rank (suc n) = inr (omega arith)

-- an entry may rest on it
pub number_seen : {S G N : Type 0} (m : GameModel S) (u v : BoardView G N) (side : Side) (s : S) (x : ℤ) → IsReadNumber m u v side s x → IsSeenNumber m v side s x
number_seen m u v side s x r =
    ⊎_elim (λ (e : m.rank s ≡ 0). end_number e (r.at_end e)) (λ (g : 1 ≤ m.rank s). known_number m v side s x (r.no_tighter g)) (cases_rank (m.rank s))

-- a state leads to each child that is read
pub read_child_leads : {S : Type 0} (m : GameModel S) (s : S) (rows cols : List ℕ) (t : S) → IsReadChild m s rows cols t → LeadsTo m s t
read_child_leads m s rows cols t child =
    subst (LeadsTo m s) child.drawn.leads
    (leads_turn m s (record { one = child.one; two = child.two; draw = child.drawn.draw }) _
    (record { one_below = child.one_below; two_below = child.two_below; draw_below = child.drawn.draw_below }) (leads_none m _))

pub child_reachable : {S : Type 0} (m : GameModel S) (s : S) (one two draw : ℕ) (t : S) → t ≡ m.drawn s one two draw → Reachable m s
    → one < m.moves One s → two < m.moves Two s → draw < m.draws s one two → Reachable m t
child_reachable m s one two draw t e r p q l =
    subst (Reachable m) (sym e) (reachable_turn m s (record { one = one; two = two; draw = draw }) r (record { one_below = p; two_below = q; draw_below = l }))
