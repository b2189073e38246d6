-- Positions within narrow and wide limits: which rules they keep, and how wide their games are.
use Rattle.std.proofs.Common.{◌≡◌, ℕ, zero, suc, ◌+◌, ◌-◌, ◌*◌, ◌/◌, ◌%◌, ◌<◌, ◌≤◌, max, ℤ, pos, ◌≤ℤ◌, int_le, unsigned_abs, Bool, true, false, not, ◌||◌, cond, eqb, ltb, leb, List, [], ◌∷◌, length, get_or, Option, None, Some, option_map, is_some, refl, ap, subst, ◌∙◌, inl, inr, arith}
use Rattle.std.proofs.lemmas.Bool.{and_from, and_parts, cases_lt, le-leb, le-ltb, leb-true, lt-ltb, ltb-false, or_parts}
use Rattle.std.proofs.lemmas.Int.{ints}
use Rattle.std.proofs.lemmas.List.Elements.{All-get_or}
use Rattle.std.proofs.Math.ListN.{get_or-eq_default}
use Rattle.std.proofs.lemmas.List.FromFn.{length-range_with_len}
use Rattle.std.proofs.lemmas.List.Sums.{length-filter, count_by-le-length}
use Rattle.std.proofs.Math.Nat.{mul-le-mul}
use Rattle.std.specs.Option.{option_or}
use Rattle.std.specs.List.{list_all, filter, range_with_len}
use Rattle.sim_game.specs.declared.Limits.{Limits}
use Rattle.sim_game.specs.declared.Limits.TheVariants.{Narrow, Wide}
use Rattle.sim_game.specs.declared.Side.{Side}
use Rattle.sim_game.specs.declared.Side.TheVariants.{One, Two}
use Rattle.sim_game.specs.Resolution.{IsFineWeight}
use Rattle.goofspiel.specs.laws.Cards.{few_cards}
use Rattle.oshi_zumo.specs.declared.Setting.{Setting as BoutSetting}
use Rattle.oshi_zumo.specs.declared.OshiError.TheVariants.{SizeRange, CoinRange, LeastRange}
use Rattle.oshi_zumo.specs.Position as oshi_zumo
use Rattle.pursuit.specs.declared.Setting.{Setting as ChaseSetting}
use Rattle.pursuit.specs.declared.PursuitError.TheVariants.{NodesRange, RoundsRange}
use Rattle.pursuit.specs.Position as pursuit
use Rattle.pursuit.specs.Rules.{degree, greatest_below, graph_of, graph_of_edges, width_of}
use Rattle.pursuit.specs.laws.Game.{reach_count}
use Rattle.pursuit.proofs.PositionLemmas.{same_graph}
use Rattle.table.specs.laws.Below.{greatest_at, none_at, none_below, or_none}
use Rattle.table.specs.Below.{first_below}
use Rattle.table.specs.declared.TableError.{TableError}
use Rattle.table.specs.declared.TableError.TheVariants as table_errors
use Rattle.table.specs.Faults as table
use Rattle.table.specs.Lists.{Lists, cells_of, count_in, lists_from, place_at, state_count, table_moves, table_rank, table_value, table_width}
use Rattle.table.proofs.PositionLemmas.{fault_wider, width_kept}
use Rattle.table.proofs.RuleLemmas.{kept}
use Rattle.fields.specs.declared.positions.PositionText.{PositionText}
use Rattle.fields.specs.declared.positions.PositionText.TheVariants as texts
use Rattle.fields.specs.Numbers.{Between}
use Rattle.fields.specs.Positions.{are_narrow_moves, are_narrow_turns, fits_narrow, is_small, is_narrow}
use Rattle.fields.specs.Ranges.{IsPositionInRange}
use Rattle.position.specs.declared.games.InputError.{InputError}
use Rattle.position.specs.declared.games.InputError.TheVariants as errors
use Rattle.position.specs.declared.games.AnyGame.{AnyGame}
use Rattle.position.specs.declared.games.AnyGame.TheVariants.{Goofspiel, OshiZumo, Tron, GoofspielDrawn, Pursuit, Table}
use Rattle.position.specs.Games.{fault_of, text_width, weight_fault, IsFineTotal, IsFineFor, IsGameOf, any_width, model_of}
use Rattle.position.specs.HasGame.{HasGame}
use Rattle.position.proofs.GameLemmas.{is_game}

-- ---- rules that are kept
unmapped : {A B : Type 0} (f : A → B) (o : Option A) → option_map f o ≡ None → o ≡ None
unmapped f None e = refl
unmapped f (Some x) e = absurd cc

mapped : {A B : Type 0} (f : A → B) (o : Option A) → o ≡ None → option_map f o ≡ None
mapped f None e = refl
mapped f (Some x) e = absurd cc

-- a rule that is kept, and those behind it
kept_first : {T : Type 0} (broken : Bool) (fault : T) (rest : Option T) → cond broken (Some fault) rest ≡ None → (broken ≡ false) × (rest ≡ None)
kept_first true fault rest e = absurd cc
kept_first false fault rest e = (refl, e)

keep_first : {T : Type 0} (broken : Bool) (fault : T) (rest : Option T) → broken ≡ false → rest ≡ None → cond broken (Some fault) rest ≡ None
keep_first true fault rest b e = absurd cc
keep_first false fault rest b e = e

neither : (a b : Bool) → a ≡ false → b ≡ false → (a || b) ≡ false
neither a b p q = rw (p, q) refl

both_none : {T : Type 0} (first rest : Option T) → first ≡ None → rest ≡ None → option_or first rest ≡ None
both_none None rest e h = h
both_none (Some x) rest e h = absurd cc

-- ---- Oshi-Zumo
record HasFewCoins (g : BoutSetting) (most : ℕ) : Type 0 where
  one : g.one ≤ most
  two : g.two ≤ most
  least_low : 1 ≤ g.least
  least : g.least ≤ most

least_some : (n : ℕ) → eqb n 0 ≡ false → 1 ≤ n
least_some zero e = absurd cc
least_some (suc n) e = omega arith

few_coins : (limits : Limits) (g : BoutSetting) → oshi_zumo.first_fault limits g ≡ None → HasFewCoins g (oshi_zumo.most_coins limits)
few_coins limits g e =
    let most = oshi_zumo.most_coins limits in
    let size = kept_first (ltb 8 g.size) SizeRange _ e in
    let coins = kept_first (ltb most g.one || ltb most g.two) CoinRange _ size.1 in
    let least = kept_first (eqb g.least 0 || ltb most g.least) LeastRange _ coins.1 in
    let each = or_parts (ltb most g.one) (ltb most g.two) coins.0 in
    let bid = or_parts (eqb g.least 0) (ltb most g.least) least.0 in
    record { one = ltb-false most g.one each.0; two = ltb-false most g.two each.1; least_low = least_some g.least bid.0; least = ltb-false most g.least bid.1 }

keeps_coins : (limits other : Limits) (g : BoutSetting) → HasFewCoins g (oshi_zumo.most_coins other) → oshi_zumo.first_fault limits g ≡ None → oshi_zumo.first_fault other g ≡ None
keeps_coins limits other g few e =
    let most = oshi_zumo.most_coins limits in
    let size = kept_first (ltb 8 g.size) SizeRange _ e in
    let coins = kept_first (ltb most g.one || ltb most g.two) CoinRange _ size.1 in
    let least = kept_first (eqb g.least 0 || ltb most g.least) LeastRange _ coins.1 in
    let bid = or_parts (eqb g.least 0) (ltb most g.least) least.0 in
    keep_first _ SizeRange _ size.0 (keep_first _ CoinRange _ (neither _ _ (le-ltb _ g.one few.one) (le-ltb _ g.two few.two))
    (keep_first _ LeastRange _ (neither _ _ bid.0 (le-ltb _ g.least few.least)) least.1))

-- ---- pursuit
few_nodes : (limits : Limits) (nodes : ℕ) (edges : List ℕ) (one two rounds : ℕ) → pursuit.first_fault limits nodes edges one two rounds ≡ None
    → (1 ≤ nodes) × (nodes ≤ pursuit.most_nodes limits) × (rounds ≤ pursuit.most_rounds limits)
few_nodes limits nodes edges one two rounds e =
    let count = or_none (pursuit.nodes_range limits nodes) _ e in
    let odd = or_none (pursuit.edge_odd edges) _ count.1 in
    let range = or_none (pursuit.edge_range nodes edges) _ odd.1 in
    let loop = or_none (pursuit.edge_loop edges) _ range.1 in
    let place = or_none (pursuit.place_range nodes one two) _ loop.1 in
    let last = or_none (pursuit.rounds_range limits rounds) _ place.1 in
    let there = or_parts (eqb nodes 0) (ltb (pursuit.most_nodes limits) nodes) (kept_first _ NodesRange _ count.0).0 in
    (least_some nodes there.0, ltb-false (pursuit.most_nodes limits) nodes there.1, ltb-false (pursuit.most_rounds limits) rounds (kept_first _ RoundsRange _ last.0).0)

keeps_nodes : (limits other : Limits) (nodes : ℕ) (edges : List ℕ) (one two rounds : ℕ) → nodes ≤ pursuit.most_nodes other → rounds ≤ pursuit.most_rounds other
    → pursuit.first_fault limits nodes edges one two rounds ≡ None → pursuit.first_fault other nodes edges one two rounds ≡ None
keeps_nodes limits other nodes edges one two rounds few short e =
    let count = or_none (pursuit.nodes_range limits nodes) _ e in
    let odd = or_none (pursuit.edge_odd edges) _ count.1 in
    let range = or_none (pursuit.edge_range nodes edges) _ odd.1 in
    let loop = or_none (pursuit.edge_loop edges) _ range.1 in
    let place = or_none (pursuit.place_range nodes one two) _ loop.1 in
    let there = or_parts (eqb nodes 0) (ltb (pursuit.most_nodes limits) nodes) (kept_first _ NodesRange _ count.0).0 in
    both_none _ _ (keep_first _ NodesRange _ (neither _ _ there.0 (le-ltb _ nodes few)) refl)
    (both_none _ _ odd.0 (both_none _ _ range.0 (both_none _ _ loop.0 (both_none _ _ place.0
    (both_none _ _ (keep_first _ RoundsRange _ (le-ltb _ rounds short) refl) refl)))))

-- a game has no more moves of a side than nodes
greatest_few : (n most : ℕ) (f : ℕ → ℕ) → ((i : ℕ) → i < n → f i ≤ most) → greatest_below n f ≤ most
greatest_few zero most f each = omega arith
greatest_few (suc n) most f each = omega (arith, greatest_few n most f (λ i below. each i (omega (arith, below))), each n (omega arith))

few_reached : (p : ℕ → Bool) (n : ℕ) → length (filter p (range_with_len 0 n)) ≤ n
few_reached p n = omega (arith, length-filter p (range_with_len 0 n), count_by-le-length p (range_with_len 0 n), length-range_with_len 0 n)

chase_width : (g : ChaseSetting) → pursuit.IsPosition g → width_of (graph_of g) ≤ g.nodes
chase_width g p =
    let each : (node : ℕ) → node < g.nodes → degree (graph_of g) node ≤ g.nodes - 1 = λ node below.
    omega (arith, reach_count g p node below, few_reached (λ other. (graph_of g).joined node other || eqb node other) g.nodes) in
    omega (arith, greatest_few g.nodes (g.nodes - 1) (degree (graph_of g)) each, p.nodes_low)

-- ---- tables
list_all_each : {X : Type 0} (p : X → Bool) (xs : List X) (d : X) → ((i : ℕ) → i < length xs → p (get_or xs i d) ≡ true) → list_all p xs ≡ true
list_all_each p [] d each = refl
list_all_each p (x ∷ xs) d each = rw (each 0 (omega arith), list_all_each p xs d (λ i below. each (suc i) (omega (arith, below)))) refl

each_of_all : {X : Type 0} (p : X → Bool) (xs : List X) (d : X) (i : ℕ) → list_all p xs ≡ true → i < length xs → p (get_or xs i d) ≡ true
each_of_all p [] d i all below = absurd (omega (arith, below))
each_of_all p (x ∷ xs) d zero all below = (and_parts (p x) (list_all p xs) all).0
each_of_all p (x ∷ xs) d (suc i) all below = each_of_all p xs d i (and_parts (p x) (list_all p xs) all).1 (omega (arith, below))

record HasFewMoves (l : Lists) (limits : Limits) : Type 0 where
  turns : (s : ℕ) → s < state_count l → table_rank l s ≤ table.most_table_turns limits
  moves : (side : Side) (s : ℕ) → s < state_count l → table_moves l side s ≤ table.most_table_moves limits

-- a rule that is kept wherever another is
kept_too : {T : Type 0} (n : ℕ) (test other : ℕ → Bool) (error : ℕ → T) → ((s : ℕ) → s < n → test s ≡ true → other s ≡ true)
    → first_below n (λ s. cond (test s) None (Some (error s))) ≡ None → first_below n (λ s. cond (other s) None (Some (error s))) ≡ None
kept_too n test other error h none = none_below n (λ s. cond (other s) None (Some (error s)))
    (λ s here. let e = h s here (kept (test s) (error s) (none_at n (λ s. cond (test s) None (Some (error s))) s none here)) in rw e refl)

or_else : (end test other : Bool) → (test ≡ true → other ≡ true) → (end || test) ≡ true → (end || other) ≡ true
or_else true test other h e = refl
or_else false test other h e = h e

moves_kept : (limits other : Limits) (m : ℕ) → m ≤ table.most_table_moves other → table.are_moves limits m ≡ true → table.are_moves other m ≡ true
moves_kept limits other m few h = and_from _ _ (and_parts (leb 1 m) (leb m (table.most_table_moves limits)) h).0 (le-leb m _ few)

rank_kept : (limits other : Limits) (l : Lists) (s : ℕ) → table_rank l s ≤ table.most_table_turns other → table.is_rank limits l s ≡ true → table.is_rank other l s ≡ true
rank_kept limits other l s few h = and_from _ _ (le-leb (table_rank l s) _ few) (and_parts (leb (table_rank l s) (table.most_table_turns limits)) _ h).1

-- each rule as it reads with its test and its error
abbrev state_rule : Lists → (ℕ → Bool) → (ℕ → TableError) → Option TableError
state_rule l test error = first_below (state_count l) (λ s. cond (test s) None (Some (error s)))

abbrev cell_rule : Lists → (ℕ → ℕ → Bool) → (ℕ → ℕ → ℕ → TableError) → Option TableError
cell_rule l test error = first_below (state_count l) (λ s. first_below (cells_of l s) (λ k.
    cond (test s (place_at l s k)) None (Some (error s (k / table_moves l Two s) (k % table_moves l Two s)))))

abbrev rows_rule : Limits → Lists → Option TableError
rows_rule limits l = state_rule l (λ s. eqb (table_rank l s) 0 || table.are_moves limits (table_moves l One s)) table_errors.RowsRange

abbrev cells_rule : Limits → Lists → Option TableError
cells_rule limits l = state_rule l (λ s. eqb (table_rank l s) 0 || table.are_moves limits (table_moves l Two s)) table_errors.CellsRange

record AreKept (limits : Limits) (l : Lists) : Type 0 where
  fits : table.lists_fault l ≡ None
  some : table.count_fault l ≡ None
  payoffs : state_rule l (λ s. not (eqb (table_rank l s) 0) || table.is_payoff (table_value l s)) table_errors.PayoffRange ≡ None
  rows : rows_rule limits l ≡ None
  cells : cells_rule limits l ≡ None
  draws : cell_rule l (λ s place. table.are_few_draws l place) table_errors.DrawsRange ≡ None
  weights : cell_rule l (λ s place. table.are_weights l place) table_errors.Weights ≡ None
  order : cell_rule l (λ s place. table.leads_on l s place) table_errors.Order ≡ None
  turns : state_rule l (table.is_rank limits l) table_errors.Turns ≡ None

all_kept : (limits : Limits) (l : Lists) → table.shape_fault limits l ≡ None → AreKept limits l
all_kept limits l none =
    let fits = or_none (table.lists_fault l) _ none in
    let some = or_none (table.count_fault l) _ fits.1 in
    let payoffs = or_none (state_rule l (λ s. not (eqb (table_rank l s) 0) || table.is_payoff (table_value l s)) table_errors.PayoffRange) _ some.1 in
    let rows = or_none (rows_rule limits l) _ payoffs.1 in
    let columns = or_none (cells_rule limits l) _ rows.1 in
    let draws = or_none (cell_rule l (λ s place. table.are_few_draws l place) table_errors.DrawsRange) _ columns.1 in
    let weights = or_none (cell_rule l (λ s place. table.are_weights l place) table_errors.Weights) _ draws.1 in
    let order = or_none (cell_rule l (λ s place. table.leads_on l s place) table_errors.Order) _ weights.1 in
    let turns = or_none (state_rule l (table.is_rank limits l) table_errors.Turns) _ order.1 in
    record { fits = fits.0; some = some.0; payoffs = payoffs.0; rows = rows.0; cells = columns.0; draws = draws.0; weights = weights.0; order = order.0; turns = turns.0 }

none_broken : (limits : Limits) (l : Lists) → AreKept limits l → table.shape_fault limits l ≡ None
none_broken limits l all =
    both_none _ _ all.fits (both_none _ _ all.some (both_none _ _ all.payoffs (both_none _ _ all.rows (both_none _ _ all.cells
    (both_none _ _ all.draws (both_none _ _ all.weights (both_none _ _ all.order (both_none _ _ all.turns refl))))))))

keeps_moves : (limits other : Limits) (l : Lists) → HasFewMoves l other → table.first_fault limits l ≡ None → table.first_fault other l ≡ None
keeps_moves limits other l few none =
    let whole = or_none (table.shape_fault limits l) (table.total_fault l) none in
    let all = all_kept limits l whole.0 in
    let end : ℕ → Bool = λ s. eqb (table_rank l s) 0 in
    let rows = kept_too (state_count l) (λ s. end s || table.are_moves limits (table_moves l One s)) (λ s. end s || table.are_moves other (table_moves l One s)) table_errors.RowsRange
    (λ s here. or_else (end s) _ _ (moves_kept limits other (table_moves l One s) (few.moves One s here))) all.rows in
    let cells = kept_too (state_count l) (λ s. end s || table.are_moves limits (table_moves l Two s)) (λ s. end s || table.are_moves other (table_moves l Two s)) table_errors.CellsRange
    (λ s here. or_else (end s) _ _ (moves_kept limits other (table_moves l Two s) (few.moves Two s here))) all.cells in
    let turns = kept_too (state_count l) (table.is_rank limits l) (table.is_rank other l) table_errors.Turns (λ s here. rank_kept limits other l s (few.turns s here)) all.turns in
    both_none (table.shape_fault other l) (table.total_fault l) (none_broken other l (record {
      fits = all.fits;
      some = all.some;
      payoffs = all.payoffs;
      rows = rows;
      cells = cells;
      draws = all.draws;
      weights = all.weights;
      order = all.order;
      turns = turns;
    })) whole.1

few_moves_kept : (limits : Limits) (l : Lists) → table.first_fault limits l ≡ None
    → ((s : ℕ) → s < state_count l → table_rank l s ≤ table.most_table_turns limits) × ((i : ℕ) → i < length l.moves → count_in l.moves i ≤ table.most_table_moves limits)
few_moves_kept limits l none =
    let all = all_kept limits l (or_none (table.shape_fault limits l) (table.total_fault l) none).0 in (
      λ s here.
          let one = kept (table.is_rank limits l s) (table_errors.Turns s) (none_at (state_count l) (λ s. cond (table.is_rank limits l s) None (Some (table_errors.Turns s))) s all.turns here) in
          leb-true (table_rank l s) (table.most_table_turns limits) (and_parts (leb (table_rank l s) (table.most_table_turns limits)) _ one).0,
      λ i below. omega (arith, greatest_at (length l.moves) (count_in l.moves) i below, width_kept limits l none),
    )

-- ---- any game
not_above : (z : ℤ) (most : ℕ) → unsigned_abs z ≤ most → int_le z (pos most) ≡ true
not_above z most few = grind (arith, ints)

abs_at_most : (z : ℤ) (most : ℕ) → pos 0 ≤ℤ z → int_le z (pos most) ≡ true → unsigned_abs z ≤ most
abs_at_most z most low high = grind (arith, ints)

-- within any limits no rule is broken that is kept within others, if the position is small enough for these
pub wide_too : (limits : Limits) (text : PositionText) → fault_of limits text ≡ None → fault_of Wide text ≡ None
wide_too Narrow (texts.OshiZumo size one two least place) e =
    let g = oshi_zumo.setting_of size one two least place in
    let kept = unmapped errors.OshiZumo (oshi_zumo.first_fault Narrow g) e in
    let few = few_coins Narrow g kept in
    mapped errors.OshiZumo _ (keeps_coins Narrow Wide g (record {
      one = omega (arith, few.one);
      two = omega (arith, few.two);
      least_low = few.least_low;
      least = omega (arith, few.least);
    }) kept)
wide_too Narrow (texts.Pursuit nodes edges one two rounds) e =
    let kept = unmapped errors.Pursuit (pursuit.first_fault Narrow nodes edges one two rounds) e in
    let few = few_nodes Narrow nodes edges one two rounds kept in
    mapped errors.Pursuit _ (keeps_nodes Narrow Wide nodes edges one two rounds (omega (arith, few.1)) (omega (arith, few.2)) kept)
wide_too Narrow (texts.Table ranks moves values cells draws rewards) e =
    let l = lists_from ranks moves values cells draws rewards in
    mapped errors.Table (table.first_fault Wide l) (fault_wider Narrow l (unmapped errors.Table (table.first_fault Narrow l) e))
wide_too limits text e = e

-- a position that the narrow rules accept is small
pub accepted_small : (text : PositionText) → fault_of Narrow text ≡ None → is_small text ≡ true
accepted_small (texts.OshiZumo size one two least place) e =
    let g = oshi_zumo.setting_of size one two least place in
    let few = few_coins Narrow g (unmapped errors.OshiZumo (oshi_zumo.first_fault Narrow g) e) in
    and_from _ _ (le-leb one 31 few.one) (and_from _ _ (le-leb two 31 few.two) (le-leb least 31 few.least))
accepted_small (texts.Pursuit nodes edges one two rounds) e =
    let few = few_nodes Narrow nodes edges one two rounds (unmapped errors.Pursuit (pursuit.first_fault Narrow nodes edges one two rounds) e) in
    and_from _ _ (le-leb nodes 32 few.1) (le-leb rounds 31 few.2)
accepted_small (texts.Table ranks moves values cells draws rewards) e =
    let l = lists_from ranks moves values cells draws rewards in
    let few = few_moves_kept Narrow l (unmapped errors.Table (table.first_fault Narrow l) e) in
    and_from _ _ (list_all_each are_narrow_turns ranks (pos 0) (λ i below. not_above (get_or ranks i (pos 0)) 31 (few.0 i below)))
    (list_all_each are_narrow_moves moves (pos 0) (λ i below. not_above (get_or moves i (pos 0)) 32 (few.1 i below)))
accepted_small text e = refl

beyond : (xs : List ℤ) (i most : ℕ) → (i < length xs → unsigned_abs (get_or xs i (pos 0)) ≤ most) → unsigned_abs (get_or xs i (pos 0)) ≤ most
beyond xs i most few = elim (cases_lt i (length xs)) [
  | inl below ↦ few below
  | inr past ↦ let none : get_or xs i (pos 0) ≡ pos 0 = get_or-eq_default xs (pos 0) past in rw none (omega arith)
]

-- a small position that the wide rules accept is accepted by the narrow ones
pub small_accepted : (text : PositionText) → IsPositionInRange text → is_small text ≡ true → fault_of Wide text ≡ None → fault_of Narrow text ≡ None
small_accepted (texts.OshiZumo size one two least place) fits small e =
    let g = oshi_zumo.setting_of size one two least place in
    let kept = unmapped errors.OshiZumo (oshi_zumo.first_fault Wide g) e in
    let a = and_parts (leb one 31) _ small in
    let b = and_parts (leb two 31) (leb least 31) a.1 in
    mapped errors.OshiZumo _ (keeps_coins Wide Narrow g (record {
      one = leb-true one 31 a.0;
      two = leb-true two 31 b.0;
      least_low = (few_coins Wide g kept).least_low;
      least = leb-true least 31 b.1;
    }) kept)
small_accepted (texts.Pursuit nodes edges one two rounds) fits small e =
    let a = and_parts (leb nodes 32) (leb rounds 31) small in
    let kept = unmapped errors.Pursuit (pursuit.first_fault Wide nodes edges one two rounds) e in
    mapped errors.Pursuit _ (keeps_nodes Wide Narrow nodes edges one two rounds (leb-true nodes 32 a.0) (leb-true rounds 31 a.1) kept)
small_accepted (texts.Table ranks moves values cells draws rewards) fits small e =
    let l = lists_from ranks moves values cells draws rewards in
    let a = and_parts (list_all are_narrow_turns ranks) (list_all are_narrow_moves moves) small in
    let turns : (i : ℕ) → i < length ranks → unsigned_abs (get_or ranks i (pos 0)) ≤ 31 = λ i below.
    abs_at_most (get_or ranks i (pos 0)) 31 (All-get_or (Between (pos 0) (pos 16777216)) ranks i (pos 0) below fits.0.within).0 (each_of_all are_narrow_turns ranks (pos 0) i a.0 below) in
    let count : (i : ℕ) → unsigned_abs (get_or moves i (pos 0)) ≤ 32 = λ i. beyond moves i 32 (λ below.
    abs_at_most (get_or moves i (pos 0)) 32 (All-get_or (Between (pos 0) (pos 255)) moves i (pos 0) below fits.1.0.within).0 (each_of_all are_narrow_moves moves (pos 0) i a.1 below)) in
    let each : (side : Side) (s : ℕ) → table_moves l side s ≤ 32 = λ side s. elim side as (λ side. table_moves l side s ≤ 32) [ One ↦ count (2 * s) | Two ↦ count (2 * s + 1) ] in
    mapped errors.Table (table.first_fault Narrow l) (keeps_moves Wide Narrow l (record { turns = turns; moves = λ side s here. each side s }) (unmapped errors.Table (table.first_fault Wide l) e))
small_accepted text fits small e = e

-- ---- widths
-- the width that the text tells is that of the game, and it is at most 32 where the narrow rules accept the position
widths : (text : PositionText) (g : AnyGame) → IsGameOf text g → (any_width g ≡ text_width text) × (fault_of Narrow text ≡ None → any_width g ≤ 32)
widths (texts.Goofspiel one two prizes score pay) (Goofspiel g) p =
    (ap (λ (xs : List ℕ). max 1 (length xs)) p.one_is, λ e. omega (arith, few_cards g.setting.one p.one_small))
widths (texts.OshiZumo size one two least place) (OshiZumo g) p =
    let s = oshi_zumo.setting_of size one two least place in
    let is : any_width (OshiZumo g) ≡ text_width (texts.OshiZumo size one two least place) = ap (λ (s : BoutSetting). max 1 (max (s.one + 1 - s.least) (s.two + 1 - s.least))) p in
    (is, λ e. let few = few_coins Narrow s (unmapped errors.OshiZumo (oshi_zumo.first_fault Narrow s) e) in omega (arith, is, few.one, few.two, few.least_low))
widths (texts.Tron height width walls one two) (Tron g) p = (refl, λ e. omega arith)
widths (texts.GoofspielDrawn one two prizes score pay) (GoofspielDrawn g) p =
    (ap (λ (xs : List ℕ). max 1 (length xs)) p.one_is, λ e. omega (arith, few_cards g.setting.one p.one_small))
widths (texts.Pursuit nodes edges one two rounds) (Pursuit g) p = (
  ap width_of (same_graph g.setting edges p.joined) ∙ ap (λ (n : ℕ). width_of (graph_of_edges n edges)) p.nodes_is,
  λ e.
      let few = few_nodes Narrow nodes edges one two rounds (unmapped errors.Pursuit (pursuit.first_fault Narrow nodes edges one two rounds) e) in
      omega (arith, chase_width g.setting g.valid, p.nodes_is, few.1),
)
widths (texts.Table ranks moves values cells draws rewards) (Table g) p =
    let l = lists_from ranks moves values cells draws rewards in
    (ap table_width p, λ e. omega (arith, ap table_width p, width_kept Narrow l (unmapped errors.Table (table.first_fault Narrow l) e)))
widths text g p = absurd p

pub game_width : (text : PositionText) (g : AnyGame) → IsGameOf text g → any_width g ≡ text_width text
game_width text g p = (widths text g p).0

pub narrow_width : (text : PositionText) (g : AnyGame) → IsGameOf text g → fault_of Narrow text ≡ None → any_width g ≤ 32
narrow_width text g p = (widths text g p).1

-- any game is narrow enough for a report
pub width_is : (g : AnyGame) → (model_of g).width ≡ any_width g
width_is (Goofspiel g) = refl
width_is g = refl

no_fault : (fault : Option InputError) → is_some fault ≡ false → fault ≡ None
no_fault None e = refl
no_fault (Some x) e = absurd cc

-- a position within the narrow limits is one of a narrow game
pub narrow_game : (text : PositionText) (g : AnyGame) → HasGame text → IsGameOf text g → is_narrow text ≡ true → (model_of g).width ≤ 32
narrow_game text g has is narrow =
    let small = (and_parts (fits_narrow text) (is_small text) narrow).1 in
    let width = narrow_width text g is (small_accepted text has.in_range small (no_fault (fault_of Wide text) has.builds)) in
    omega (arith, width_is g, width)

-- ---- weights
square : (w n : ℕ) → w ≤ n → w * w ≤ n * n
square w n few = mul-le-mul few few

-- an accepted weight is fine enough
fine_width : (limits : Limits) (w weight : ℕ) → w ≤ 64 → (limits ≡ Narrow → w ≤ 32) → 8192 ≤ weight → weight_fault limits w weight ≡ None → 8 * (w * w) ≤ weight
fine_width Narrow w weight few narrow least e = omega (arith, square w 32 (narrow refl), least)
fine_width Wide w weight few narrow least e = elim (cases_lt 32 w) [
  | inr small ↦ omega (arith, square w 32 small, least)
  | inl large ↦ elim (cases_lt weight 32768) [
    | inr heavy ↦ omega (arith, square w 64 few, heavy)
    | inl light ↦ let coarse : weight_fault Wide w weight ≡ Some errors.Weight = rw (lt-ltb 32 w large, lt-ltb weight 32768 light) refl in absurd (cc (coarse, e))
  ]
]

pub fine_of : (limits : Limits) (text : PositionText) (g : AnyGame) (weight : ℕ) → IsGameOf text g → fault_of limits text ≡ None → 8192 ≤ weight
    → weight_fault limits (text_width text) weight ≡ None → IsFineTotal text weight
fine_of limits text g weight p none least e =
    let is = game_width text g p in
    fine_width limits (text_width text) weight (omega (arith, (is_game g).width_high, width_is g, is))
    (λ narrow. omega (arith, is, narrow_width text g p (subst (λ (limits : Limits). fault_of limits text ≡ None) narrow none))) least e

pub fine_game : (text : PositionText) (g : AnyGame) (weight : ℕ) → IsGameOf text g → IsFineTotal text weight → IsFineFor g weight
fine_game text g weight p fine = let is = game_width text g p in rw is fine

pub built_of : (limits : Limits) (text : PositionText) → IsPositionInRange text → fault_of limits text ≡ None → HasGame text
built_of limits text fits none = let wide = wide_too limits text none in record { in_range = fits; builds = rw wide refl }

pub fine_model : (g : AnyGame) (weight : ℕ) → IsFineFor g weight → IsFineWeight (model_of g) weight
fine_model g weight fine = rw (width_is g) fine
