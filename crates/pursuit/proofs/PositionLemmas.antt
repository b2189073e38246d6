-- Edges that keep the rules, and the position that they make.
use Rattle.std.proofs.Common.{◌≡◌, ℕ, ◌+◌, ◌*◌, ◌/◌, ◌<◌, ◌≤◌, ◌^◌, Bool, true, false, ◌||◌, ◌&&◌, eqb, leb, List, length, get_or, set, take, replicate, Some, None, position, refl, sym, ap, ◌∙◌, inl, inr, arith}
use Rattle.std.proofs.lemmas.Bool.{cases_eq, cases_lt, eq-eqb, le-ltb, leb-false, lt-ltb, ne_eqb}
use Rattle.std.proofs.lemmas.Bool.Decides.{nat_tests}
use Rattle.std.proofs.lemmas.List.{get_or-replicate, get_or-set_other, get_or-set_same, take_all, length-replicate}
use Rattle.std.proofs.Math.Bool.{or-false, or_assoc}
use Rattle.std.proofs.Math.ListN.{get_or-eq_default}
use Rattle.std.proofs.lemmas.Nat.Bits.{bit_at-zero}
use Rattle.std.proofs.lemmas.List.Elements.{All-from_get_or}
use Rattle.std.proofs.lemmas.List.Folds.{list_any_more, list_any_none}
use Rattle.std.proofs.lemmas.List.FromFn.{get_or-range_with_len, length-range_with_len}
use Rattle.std.proofs.lemmas.List.Sums.{fails_before_first, position_or_len_is}
use Rattle.std.proofs.lemmas.Grind.{same_number_lists}
use Rattle.std.specs.List.{All, list_any, position_or_len, range_with_len}
use Rattle.pursuit.specs.declared.Setting.{Setting}
use Rattle.pursuit.specs.declared.TheConstants.{MOST_NODES}
use Rattle.pursuit.specs.Edges.{edge_numbers, first_node, is_joined, is_joined_in, joins, second_node}
use Rattle.state_key.specs.Sets.{is_in, with_number}
use Rattle.state_key.proofs.SetLemmas.{below_bits, bit_clear, in_with, same_set}
use Rattle.pursuit.specs.Position.{first_loop, IsSettingOf}
use Rattle.pursuit.specs.Rules.{graph_of, graph_of_edges}

-- ---- the first place of a range at which a test passes
in_range : (n i : ℕ) → i < n → get_or (range_with_len 0 n) i 0 ≡ i
in_range n i h = omega (arith, get_or-range_with_len 0 n i 0 h)

first_passing : (p : ℕ → Bool) (n i : ℕ) → ((k : ℕ) → k < i → p k ≡ false) → i ≤ n → (i < n → p i ≡ true) → position_or_len p (range_with_len 0 n) ≡ i
first_passing p n i before l there =
    let count = length-range_with_len 0 n in
    position_or_len_is p (range_with_len 0 n) i 0 (omega (arith, count)) (λ k h. ap p (in_range n k (omega arith)) ∙ before k h)
    (λ h. ap p (in_range n i (omega (arith, count))) ∙ there (omega (arith, count)))

pub passing_at : (p : ℕ → Bool) (n i : ℕ) → ((k : ℕ) → k < i → p k ≡ false) → i < n → p i ≡ true → position p (range_with_len 0 n) ≡ Some i
passing_at p n i before l there = rw (first_passing p n i before (omega arith) (λ _. there), length-range_with_len 0 n, lt-ltb i n l) refl

pub none_passing : (p : ℕ → Bool) (n : ℕ) → ((k : ℕ) → k < n → p k ≡ false) → position p (range_with_len 0 n) ≡ None
none_passing p n before = rw (first_passing p n n before (omega arith) (λ h. absurd (omega arith)), length-range_with_len 0 n, le-ltb n n (omega arith)) refl

none_fails : (p : ℕ → Bool) (xs : List ℕ) (i : ℕ) → position p xs ≡ None → i < length xs → p (get_or xs i 0) ≡ false
none_fails p xs i none l = elim (cases_lt (position_or_len p xs) (length xs)) [
  | inl found ↦ absurd (let e = rw (lt-ltb (position_or_len p xs) (length xs) found) at none in cc)
  | inr past ↦ fails_before_first p xs i 0 (omega arith)
]

-- ---- edges
pub node_small : (nodes : ℕ) (edges : List ℕ) (i : ℕ) → position (λ node. leb nodes node) edges ≡ None → i < length edges → get_or edges i 0 < nodes
node_small nodes edges i none l = leb-false nodes (get_or edges i 0) (none_fails (λ node. leb nodes node) edges i none l)

pub nodes_small : (nodes : ℕ) (edges : List ℕ) → nodes ≤ MOST_NODES → position (λ node. leb nodes node) edges ≡ None → All (λ node. node < MOST_NODES) edges
nodes_small nodes edges high none = All-from_get_or (λ node. node < MOST_NODES) edges 0 (λ i l. omega (arith, node_small nodes edges i none l))

none_joins : (edges : List ℕ) (a b : ℕ) → ((edge : ℕ) → edge < length edges / 2 → joins edges a b edge ≡ false) → is_joined edges a b ≡ false
none_joins edges a b h =
    let n = length edges / 2 in
    list_any_none (joins edges a b) (edge_numbers edges) (All-from_get_or (λ edge. joins edges a b edge ≡ false) (edge_numbers edges) 0
    (λ i l. let below : i < n = omega (arith, length-range_with_len 0 n) in ap (joins edges a b) (in_range n i below) ∙ h i below))

self_apart : (first second a : ℕ) → eqb first second ≡ false → ((eqb first a && eqb second a) || (eqb second a && eqb first a)) ≡ false
self_apart first second a h = grind (arith, nat_tests)

joins_past : (first second a b : ℕ) → first < b → second < b → ((eqb first a && eqb second b) || (eqb second a && eqb first b)) ≡ false
joins_past first second a b p q = grind (arith, nat_tests)

-- no edge joins a node with itself
pub no_loop : (edges : List ℕ) (a : ℕ) → first_loop edges ≡ None → is_joined edges a a ≡ false
no_loop edges a none = none_joins edges a a (λ edge l.
    let n = length edges / 2 in
    let apart = none_fails (λ e. eqb (first_node edges e) (second_node edges e)) (edge_numbers edges) edge none (omega (arith, length-range_with_len 0 n)) in
    self_apart (first_node edges edge) (second_node edges edge) a (rw (in_range n edge l) at apart))

-- nor with a number that is no node
pub none_past : (nodes : ℕ) (edges : List ℕ) (a b : ℕ) → position (λ node. leb nodes node) edges ≡ None → nodes ≤ b → is_joined edges a b ≡ false
none_past nodes edges a b none h = none_joins edges a b (λ edge l.
    joins_past (first_node edges edge) (second_node edges edge) a b
    (omega (arith, node_small nodes edges (2 * edge) none (omega arith))) (omega (arith, node_small nodes edges (2 * edge + 1) none (omega arith))))

-- ---- the sets of neighbours
pub arc_added : (sets : List ℕ) (from to a b : ℕ) → from < length sets
    → is_joined_in (set sets from (with_number (get_or sets from 0) to)) a b ≡ (is_joined_in sets a b || (eqb from a && eqb to b))
arc_added sets from to a b h = elim (cases_eq a from) [
  | inl same ↦
      let there : eqb from from ≡ true = eq-eqb from from refl in
      rw (same, there, get_or-set_same sets from (with_number (get_or sets from 0) to) 0 h) (in_with (get_or sets from 0) to b)
  | inr differ ↦
      rw (ne_eqb from a (λ e. differ (sym e)), get_or-set_other sets from a (with_number (get_or sets from 0) to) 0 differ) (sym (or-false (is_joined_in sets a b)))
]

-- so many edges are in the sets
pub record IsGathered (edges : List ℕ) (count : ℕ) (sets : List ℕ) : Type 0 where
  pub rows : length sets ≡ MOST_NODES
  pub joined : (a b : ℕ) → is_joined_in sets a b ≡ list_any (joins edges a b) (take count (edge_numbers edges))

none_in : (n a zero_set : ℕ) → get_or (replicate n zero_set) a zero_set ≡ zero_set
none_in n a zero_set = elim (cases_lt a n) [
  | inl l ↦ get_or-replicate n a zero_set zero_set l
  | inr past ↦ get_or-eq_default (replicate n zero_set) zero_set (omega (arith, length-replicate n zero_set))
]

pub gathered_none : (edges : List ℕ) → IsGathered edges 0 (replicate MOST_NODES 0)
gathered_none edges = record { rows = refl; joined = λ a b. ap (λ (set : ℕ). is_in set b) (none_in MOST_NODES a 0) ∙ ap (λ (bit : ℕ). eqb bit 1) (bit_at-zero b) }

pub gathered_more : (edges : List ℕ) (count : ℕ) (sets arcs more : List ℕ) → count < length edges / 2 → length more ≡ MOST_NODES → IsGathered edges count sets
    → ((a b : ℕ) → is_joined_in arcs a b ≡ (is_joined_in sets a b || (eqb (first_node edges count) a && eqb (second_node edges count) b)))
    → ((a b : ℕ) → is_joined_in more a b ≡ (is_joined_in arcs a b || (eqb (second_node edges count) a && eqb (first_node edges count) b)))
    → IsGathered edges (count + 1) more
gathered_more edges count sets arcs more l rows before one two = record {
  rows = rows;
  joined = λ a b.
      let there = eqb (first_node edges count) a && eqb (second_node edges count) b in
      let back = eqb (second_node edges count) a && eqb (first_node edges count) b in
      let n = length edges / 2 in
      let last = rw (in_range n count l) at (list_any_more (joins edges a b) (edge_numbers edges) count 0 (omega (arith, length-range_with_len 0 n))) in
      two a b ∙ ap (λ (x : Bool). x || back) (one a b ∙ ap (λ (x : Bool). x || there) (before.joined a b))
      ∙ or_assoc (list_any (joins edges a b) (take count (edge_numbers edges))) there back ∙ sym last;
}

pub gathered_all : (edges : List ℕ) (count : ℕ) (sets : List ℕ) → length edges / 2 ≤ count → IsGathered edges count sets → (a b : ℕ) → is_joined_in sets a b ≡ is_joined edges a b
gathered_all edges count sets l g a b =
    g.joined a b ∙ ap (list_any (joins edges a b)) (take_all count (edge_numbers edges) (omega (arith, length-range_with_len 0 (length edges / 2))))

-- ---- the position
pub sets_within : (nodes : ℕ) (edges sets : List ℕ) → position (λ node. leb nodes node) edges ≡ None
    → ((a b : ℕ) → is_joined_in sets a b ≡ is_joined edges a b) → (node : ℕ) → get_or sets node 0 < 2 ^ nodes
sets_within nodes edges sets none joined node =
    below_bits nodes (get_or sets node 0) (λ i l. bit_clear (get_or sets node 0) i (joined node i ∙ none_past nodes edges node i none l))

-- the rules look at the same graph
pub same_graph : (g : Setting) (edges : List ℕ) → ((a b : ℕ) → is_joined_in g.neighbours a b ≡ is_joined edges a b) → graph_of g ≡ graph_of_edges g.nodes edges
same_graph g edges joined = λ i. record { nodes = g.nodes; joined = λ a b. joined a b i }

pub one_setting : (nodes : ℕ) (edges : List ℕ) (one two rounds : ℕ) (g h : Setting) → IsSettingOf nodes edges one two rounds g → IsSettingOf nodes edges one two rounds h → g ≡ h
one_setting nodes edges one two rounds g h p q =
    let sets = same_number_lists g.neighbours h.neighbours (p.sets ∙ sym q.sets) (λ a l. same_set (get_or g.neighbours a 0) (get_or h.neighbours a 0) (λ b. p.joined a b ∙ sym (q.joined a b))) in
    λ i. record { nodes = (p.nodes_is ∙ sym q.nodes_is) i; neighbours = sets i; one = (p.one_is ∙ sym q.one_is) i; two = (p.two_is ∙ sym q.two_is) i; rounds = (p.rounds_is ∙ sym q.rounds_is) i }
