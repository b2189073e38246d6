-- The rules of pursuit and evasion make a game.
use Rattle.std.proofs.Common.{◌≡◌, ℕ, zero, suc, ◌+◌, ◌-◌, ◌*◌, ◌^◌, ◌<◌, ◌≤◌, max, pos, neg_ℤ, ◌≤ℤ◌, Bool, true, false, ◌||◌, cond, eqb, ltb, List, [], length, get_or, refl, ap, sym, ◌∙◌, inl, inr, arith, add-one}
use Rattle.std.proofs.lemmas.Bool.{cases_lt, cond_both, eq-eqb, eqb-false, ltb-false, ne_eqb, or_parts}
use Rattle.std.proofs.lemmas.Int.{ints}
use Rattle.std.proofs.lemmas.List.FromFn.{get_or-range_with_len, length-range_with_len}
use Rattle.std.proofs.lemmas.List.Elements.{All-filter, All-from_get_or, All-get_or}
use Rattle.std.proofs.lemmas.Nat.{mul-add-lt, ones-le}
use Rattle.std.specs.Int.{bit_at}
use Rattle.std.specs.Int.Count.{ones}
use Rattle.std.specs.List.{All, filter, range_with_len}
use Rattle.sim_game.specs.declared.Side.{Side}
use Rattle.sim_game.specs.declared.Side.TheVariants.{One, Two}
use Rattle.sim_game.specs.declared.TheConstants.{MOST_TURNS}
use Rattle.sums.specs.declared.TheConstants.{MOST_MOVES}
use Rattle.sim_game.specs.Model.{Turn, IsTurn, Reachable, IsGame, after_turn}
use Rattle.sim_game.specs.Numbers.{IsNumbering, digits_apart, numbered_by_key}
use Rattle.sim_game.proofs.ReachLemmas.{reachable_induction}
use Rattle.pursuit.specs.declared.Setting.{Setting}
use Rattle.pursuit.specs.declared.State.{State}
use Rattle.state_key.specs.Sets.{is_in, with_number, members}
use Rattle.state_key.proofs.SetLemmas.{bit_clear, filter_agrees, in_with, members_count, ones_with, with_below}
use Rattle.pursuit.specs.Position.{IsPosition}
use Rattle.pursuit.specs.Rules.{Graph, degree, greatest_below, width_of, reach, node_of, is_chase_over, ways, pursuit_rank, key_bits, graph_from, graph_of, pursuit_game, pursuit_numbering}

-- ---- sets and lists of nodes
-- the nodes of a set that passes a test, below the number of nodes
listed : (n set : ℕ) (p : ℕ → Bool) → ((node : ℕ) → is_in set node ≡ p node) → members n 0 set ≡ filter p (range_with_len 0 n)
unfolding members
listed n set p h = filter_agrees (λ node. eqb (bit_at set (node - 0)) 1) p n 0 (λ node l u. let e : node - 0 ≡ node = omega arith in ap (λ (i : ℕ). eqb (bit_at set i) 1) e ∙ h node)

pub neighbours_listed : (n : ℕ) (sets : List ℕ) (node : ℕ) → members n 0 (get_or sets node 0) ≡ filter ((graph_from n sets).joined node) (range_with_len 0 n)
neighbours_listed n sets node = listed n (get_or sets node 0) ((graph_from n sets).joined node) (λ other. refl)

pub degree_is : (n : ℕ) (sets : List ℕ) (node : ℕ) → get_or sets node 0 < 2 ^ n → degree (graph_from n sets) node ≡ ones (get_or sets node 0)
degree_is n sets node small = sym (ap length (neighbours_listed n sets node)) ∙ members_count n 0 (get_or sets node 0) small

pub reach_listed : (n : ℕ) (sets : List ℕ) (node : ℕ) → members n 0 (with_number (get_or sets node 0) node) ≡ reach (graph_from n sets) node
reach_listed n sets node = listed n (with_number (get_or sets node 0) node) (λ other. is_in (get_or sets node 0) other || eqb node other) (λ other. in_with (get_or sets node 0) node other)

pub greatest_above : (n : ℕ) (f : ℕ → ℕ) (i : ℕ) → i < n → f i ≤ greatest_below n f
greatest_above zero f i h = absurd (omega arith)
greatest_above (suc n) f i h = elim (cases_lt i n) [
  | inl earlier ↦ omega (arith, greatest_above n f i earlier)
  | inr last ↦ let e : i ≡ n = omega arith in rw e (omega arith)
]

pub greatest_more : (n : ℕ) (f : ℕ → ℕ) → greatest_below (n + 1) f ≡ max (greatest_below n f) (f n)
greatest_more n f = ap (λ (k : ℕ). greatest_below k f) (add-one n)

greatest_high : (n top : ℕ) (f : ℕ → ℕ) → ((i : ℕ) → i < n → f i ≤ top) → greatest_below n f ≤ top
greatest_high zero top f h = omega arith
greatest_high (suc n) top f h = omega (arith, h n (omega arith), greatest_high n top f (λ i l. h i (omega arith)))

in_range : (r : Graph) (node i : ℕ) → i < length (reach r node) → get_or (reach r node) i 0 < r.nodes
in_range r node i h =
    let p : ℕ → Bool = λ other. r.joined node other || eqb node other in
    let all : All (λ other. other < r.nodes) (range_with_len 0 r.nodes) = All-from_get_or (λ other. other < r.nodes) (range_with_len 0 r.nodes) 0
    (λ k l. let e = get_or-range_with_len 0 r.nodes k 0 (omega (arith, length-range_with_len 0 r.nodes)) in omega (arith, length-range_with_len 0 r.nodes)) in
    All-get_or (λ other. other < r.nodes) (reach r node) i 0 h (All-filter p (λ other. other < r.nodes) (range_with_len 0 r.nodes) all)

-- ---- ends
ways_open : (over : Bool) (xs : List ℕ) (i : ℕ) → i < length (cond over [] xs) → over ≡ false
ways_open true xs i h = absurd (omega arith)
ways_open false xs i h = refl

ways_few : (over : Bool) (xs : List ℕ) (top : ℕ) → length xs ≤ top → length (cond over [] xs) ≤ top
ways_few true xs top h = omega arith
ways_few false xs top h = h

over_at_end : (caught : Bool) (rounds : ℕ) → cond caught 0 rounds ≡ 0 → (caught || eqb rounds 0) ≡ true
over_at_end true rounds h = refl
over_at_end false rounds h = eq-eqb rounds 0 h

pub chase_not_over : (caught : Bool) (rounds : ℕ) → 1 ≤ cond caught 0 rounds → (caught || eqb rounds 0) ≡ false
chase_not_over true rounds h = absurd (omega arith)
chase_not_over false rounds h = ne_eqb rounds 0 (λ none. absurd (omega arith))

pub rank_now : (caught : Bool) (rounds : ℕ) → (caught || eqb rounds 0) ≡ false → (cond caught 0 rounds ≡ rounds) × (1 ≤ rounds)
rank_now true rounds h = absurd (cc)
rank_now false rounds h = let apart = eqb-false rounds 0 h in (refl, omega arith)

pub rank_below : (caught : Bool) (rounds top : ℕ) → rounds ≤ top → cond caught 0 rounds ≤ top
rank_below true rounds top h = omega arith
rank_below false rounds top h = h

payoff_small : (caught : Bool) → (neg_ℤ (pos 1) ≤ℤ cond caught (pos 1) (neg_ℤ (pos 1))) × (cond caught (pos 1) (neg_ℤ (pos 1)) ≤ℤ pos 1)
payoff_small true = (omega (arith, ints), omega (arith, ints))
payoff_small false = (omega (arith, ints), omega (arith, ints))

-- ---- where the game goes on
module _ (r : Graph) (side : Side) (s : State) where
  pub open_ways : is_chase_over s ≡ false → ways r side s ≡ reach r (node_of side s)
  open_ways h = ap (λ (b : Bool). cond b [] (reach r (node_of side s))) h

  pub chase_open : (i : ℕ) → i < length (ways r side s) → is_chase_over s ≡ false
  chase_open i h = ways_open (is_chase_over s) (reach r (node_of side s)) i h

  pub reach_place : (i : ℕ) → i < length (ways r side s) → i < length (reach r (node_of side s))
  reach_place i h = rw (open_ways (chase_open i h)) at h

  pub reach_at : (i : ℕ) → i < length (ways r side s) → get_or (ways r side s) i 0 ≡ get_or (reach r (node_of side s)) i 0
  reach_at i h = ap (λ (xs : List ℕ). get_or xs i 0) (open_ways (chase_open i h))

-- ---- states
-- what holds of each reachable state
pub record IsPursuitSound (g : Setting) (s : State) : Type 0 where
  pub one_below : s.one < g.nodes
  pub two_below : s.two < g.nodes
  pub rounds_high : s.rounds ≤ g.rounds

abbrev bit_of : Bool → ℕ
bit_of b = cond b 1 0

same_bit : (a b : Bool) → bit_of a ≡ bit_of b → a ≡ b
same_bit true true e = refl
same_bit false false e = refl
same_bit true false e = absurd (let one : 1 ≡ 0 = e in omega arith)
same_bit false true e = absurd (let one : 0 ≡ 1 = e in omega arith)

pub bit_small : (b : Bool) → cond b 1 0 ≤ 1
bit_small true = omega arith
bit_small false = omega arith

same_state : (s t : State) → s.one ≡ t.one → s.two ≡ t.two → s.rounds ≡ t.rounds → s.caught ≡ t.caught → s ≡ t
same_state s t p q r u = λ i. record { one = p i; two = q i; rounds = r i; caught = u i }

-- ---- keys
-- the nodes and the rounds of the position fit the fields of its keys
fields_below : (g : Setting) → IsPosition g → (g.nodes ≤ 2 ^ key_bits g.nodes g.rounds) × (g.rounds < 2 ^ key_bits g.nodes g.rounds)
fields_below g p = cond_both (ltb 32 g.nodes || ltb 31 g.rounds) 6 5 (λ (bits : ℕ). (g.nodes ≤ 2 ^ bits) × (g.rounds < 2 ^ bits))
    (λ _. (omega (arith, p.nodes_high), omega (arith, p.rounds_high)))
    (λ narrow. let both = or_parts (ltb 32 g.nodes) _ narrow in (omega (arith, ltb-false 32 g.nodes both.0), omega (arith, ltb-false 31 g.rounds both.1)))

-- how many keys there are
room_of : (nodes rounds : ℕ) → 2 ^ key_bits nodes rounds * (2 ^ key_bits nodes rounds * (2 ^ key_bits nodes rounds * 2)) ≡ 2 ^ (3 * key_bits nodes rounds + 1)
room_of nodes rounds = cond_both (ltb 32 nodes || ltb 31 rounds) 6 5 (λ (bits : ℕ). 2 ^ bits * (2 ^ bits * (2 ^ bits * 2)) ≡ 2 ^ (3 * bits + 1)) (λ _. refl) (λ _. refl)

few_keys : (nodes rounds : ℕ) → 2 ^ (3 * key_bits nodes rounds + 1) ≤ 524288
few_keys nodes rounds = cond_both (ltb 32 nodes || ltb 31 rounds) 6 5 (λ (bits : ℕ). 2 ^ (3 * bits + 1) ≤ 524288) (λ _. omega arith) (λ _. omega arith)

module _ (g : Setting) (p : IsPosition g) where
  pub node_below : (side : Side) (s : State) → IsPursuitSound g s → node_of side s < g.nodes
  node_below One s here = here.one_below
  node_below Two s here = here.two_below

  pub set_small : (node : ℕ) → node < g.nodes → with_number (get_or g.neighbours node 0) node < 2 ^ g.nodes
  set_small node h = with_below g.nodes (get_or g.neighbours node 0) node h (p.within node)

  -- a node reaches one node more than it has neighbours
  pub reach_count : (node : ℕ) → node < g.nodes → length (reach (graph_of g) node) ≡ degree (graph_of g) node + 1
  reach_count node h =
      sym (ap length (reach_listed g.nodes g.neighbours node)) ∙ members_count g.nodes 0 (with_number (get_or g.neighbours node 0) node) (set_small node h)
      ∙ ones_with (get_or g.neighbours node 0) node (bit_clear (get_or g.neighbours node 0) node (p.no_loop node)) ∙ ap (λ (n : ℕ). n + 1) (sym (degree_is g.nodes g.neighbours node (p.within node)))

  few_ways : (side : Side) (s : State) → IsPursuitSound g s → length (reach (graph_of g) (node_of side s)) ≤ width_of (graph_of g)
  few_ways side s here =
      let node = node_of side s in
      let below = node_below side s here in
      omega (arith, reach_count node below, greatest_above g.nodes (degree (graph_of g)) node below)

  width_high : width_of (graph_of g) ≤ MOST_MOVES
  width_high =
      let each : (node : ℕ) → node < g.nodes → degree (graph_of g) node ≤ 63 = λ node h.
      let most = ones-le g.nodes (with_number (get_or g.neighbours node 0) node) (set_small node h) in
      omega (
        arith,
        ones_with (get_or g.neighbours node 0) node
            (bit_clear (get_or g.neighbours node 0) node (p.no_loop node)),
        degree_is g.nodes g.neighbours node (p.within node),
        most,
        p.nodes_high,
      ) in
      omega (arith, greatest_high g.nodes 63 (degree (graph_of g)) each)

  sound_root : IsPursuitSound g (pursuit_game g).root
  sound_root = record { one_below = p.one_below; two_below = p.two_below; rounds_high = omega arith }

  pub pursuit_sound_turn : (s : State) (t : Turn) → IsPursuitSound g s → IsTurn (pursuit_game g) s t → IsPursuitSound g (after_turn (pursuit_game g) s t)
  pursuit_sound_turn s t here turn = record {
    one_below = rw (reach_at (graph_of g) One s t.one turn.one_below) (in_range (graph_of g) s.one t.one (reach_place (graph_of g) One s t.one turn.one_below));
    two_below = rw (reach_at (graph_of g) Two s t.two turn.two_below) (in_range (graph_of g) s.two t.two (reach_place (graph_of g) Two s t.two turn.two_below));
    rounds_high = omega (arith, here.rounds_high);
  }

  pub pursuit_sound : (s : State) → Reachable (pursuit_game g) s → IsPursuitSound g s
  pursuit_sound = reachable_induction (pursuit_game g) (IsPursuitSound g) sound_root (λ s t _ here turn. pursuit_sound_turn s t here turn)

  rank_falls : (s : State) (t : Turn) → IsTurn (pursuit_game g) s t → pursuit_rank (after_turn (pursuit_game g) s t) < pursuit_rank s
  rank_falls s t turn =
      let now = rank_now s.caught s.rounds (chase_open (graph_of g) One s t.one turn.one_below) in
      let next : State = after_turn (pursuit_game g) s t in
      omega (arith, now.0, now.1, rank_below next.caught next.rounds (s.rounds - 1) (omega arith))

  end_moves : (side : Side) (s : State) → pursuit_rank s ≡ 0 → length (ways (graph_of g) side s) ≡ 0
  end_moves side s h = rw (over_at_end s.caught s.rounds h) refl

  some_moves : (side : Side) (s : State) → IsPursuitSound g s → 1 ≤ pursuit_rank s → 1 ≤ length (ways (graph_of g) side s)
  some_moves side s here h =
      rw (open_ways (graph_of g) side s (chase_not_over s.caught s.rounds h)) (omega (arith, reach_count (node_of side s) (node_below side s here)))

  -- the fields of the key
  pub record HasChaseFields (s : State) : Type 0 where
    pub rounds : s.rounds < 2 ^ key_bits g.nodes g.rounds
    pub one : s.one < 2 ^ key_bits g.nodes g.rounds
    pub two : s.two < 2 ^ key_bits g.nodes g.rounds

  pub chase_fields : (s : State) → Reachable (pursuit_game g) s → HasChaseFields s
  chase_fields s r =
      let here = pursuit_sound s r in
      let room = fields_below g p in
      record { rounds = omega (arith, here.rounds_high, room.1); one = omega (arith, here.one_below, room.0); two = omega (arith, here.two_below, room.0) }

  equal_keys : (s t : State) → Reachable (pursuit_game g) s → Reachable (pursuit_game g) t → (pursuit_game g).key s ≡ (pursuit_game g).key t → s ≡ t
  equal_keys s t r r' e =
      let here = chase_fields s r in
      let there = chase_fields t r' in
      let room = 2 ^ key_bits g.nodes g.rounds in
      let outer = digits_apart room _ _ _ _ here.two there.two e in
      let inner = digits_apart room _ _ _ _ here.one there.one outer.0 in
      let front = digits_apart room _ _ _ _ here.rounds there.rounds inner.0 in
      same_state s t inner.1 outer.1 front.1 (same_bit s.caught t.caught front.0)

  pub key_below : (s : State) → Reachable (pursuit_game g) s → (pursuit_game g).key s < 2 ^ (3 * key_bits g.nodes g.rounds + 1)
  key_below s r =
      let here = chase_fields s r in
      let bits = key_bits g.nodes g.rounds in
      let caught : bit_of s.caught < 2 = omega (arith, bit_small s.caught) in
      let first = mul-add-lt (bit_of s.caught) (2 ^ bits) s.rounds 2 caught here.rounds in
      let second = mul-add-lt (bit_of s.caught * 2 ^ bits + s.rounds) (2 ^ bits) s.one (2 ^ bits * 2) first here.one in
      let whole = mul-add-lt ((bit_of s.caught * 2 ^ bits + s.rounds) * 2 ^ bits + s.one) (2 ^ bits) s.two (2 ^ bits * (2 ^ bits * 2)) second here.two in
      omega (arith, whole, room_of g.nodes g.rounds)

  pub pursuit_is_game : IsGame (pursuit_game g)
  pursuit_is_game = record {
    width_low = omega arith;
    width_high = width_high;
    low_least = omega (arith, ints);
    low_high = omega (arith, ints);
    high_most = omega (arith, ints);
    end_moves = λ side s r h. end_moves side s h;
    other_moves = λ side s r h. some_moves side s (pursuit_sound s r) h;
    moves_high = λ side s r. ways_few (is_chase_over s) (reach (graph_of g) (node_of side s)) (width_of (graph_of g)) (few_ways side s (pursuit_sound s r));
    rank_high = λ s r. omega (arith, rank_below s.caught s.rounds MOST_TURNS (omega (arith, (pursuit_sound s r).rounds_high, p.rounds_high)));
    rank_falls = λ s t r turn. rank_falls s t turn;
    least_low = λ s r. omega (arith, ints);
    most_high = λ s r. omega (arith, ints);
    payoff_low = λ s r h. (payoff_small s.caught).0;
    payoff_high = λ s r h. (payoff_small s.caught).1;
    reward_low = λ s t r turn. omega (arith, ints);
    reward_high = λ s t r turn. omega (arith, ints);
    same_key = equal_keys;
    key_high = λ s r. omega (arith, key_below s r, few_keys g.nodes g.rounds);
    draws_low = λ s a b r h h'. omega arith;
    draws_high = λ s a b r h h'. omega arith;
    chance_low = λ s t r h. omega arith;
    chance_sum = λ s a b r h h'. refl;
    one_draw = λ s a b h r h' h''. refl;
  }

  pub pursuit_numbered : IsNumbering (pursuit_game g) (pursuit_numbering g)
  pursuit_numbered = numbered_by_key (pursuit_game g) pursuit_is_game (2 ^ (3 * key_bits g.nodes g.rounds + 1)) key_below
