-- Ranks, from the last state to the first.
use Rattle.std.proofs.Common.{◌≡◌, ℕ, ℤ, pos, negsuc, zero, suc, ◌+◌, ◌-◌, ◌<◌, ◌≤◌, max, List, [], ◌∷◌, ◌++◌, map, length, get_or, set, drop, replicate, refl, ap, sym, ◌∙◌, subst, arith, add-one, leb, inl, inr, All, unsigned_abs, Bool, true, false, cond, not}
use Rattle.std.specs.List.{flat_map, fold}
use Rattle.std.proofs.lemmas.Bool.{cond_both, cases_lt, le-leb, lt-leb}
use Rattle.std.proofs.lemmas.Grind.{flat_map-append}
use Rattle.std.proofs.lemmas.List.{map-append, length-map, length-replicate, get_or-replicate, get_or_append_left, get_or-append_right, get_or_past, replicate_more, set_at, drop_more, drop_all, append-nil, append_assoc, length-drop}
use Rattle.std.proofs.lemmas.List.Concat.{flat_map_single}
use Rattle.std.proofs.lemmas.List.Elements.{All-nil, All-cons, All-weaker, All-append, All-map, All-replicate}
use Rattle.std.proofs.lemmas.List.Folds.{flat_map-map}
use Rattle.serde_json.specs.View.{view}
use Rattle.serde_json.specs.declared.value.Value.{Value}
use Rattle.table.specs.declared.nested.TheConstants.{MOST_STATES}
use Rattle.table.specs.Nested.{CellForm, Draws, StateForm, End, Rows, kept_cells, kept_draws, draws_of_form, draw_told, draws_told, reward_told, rewards_told, greatest_in, named_by, rank_behind, rank_told, ranks_told, lists_of_states}
use Rattle.table_text.specs.States.{draw_form_of, cell_form_of, row_form_of, state_form_of, are_unpaid, rank_in, rank_among, AreListsOf, table_text_of}
use Rattle.table_text.specs.declared.lists.Lists.{Lists}
use Rattle.fields.specs.declared.positions.PositionText.TheVariants as texts
use Rattle.table_text.proofs.StateCounts.{map-map}

-- ---- how great ranks are
pub greatest_low : (most : ℕ) (rank : ℤ → ℕ) (zs : List ℤ) → ((z : ℤ) → rank z ≤ most) → greatest_in (map rank zs) ≤ most
greatest_low most rank [] low = omega arith
greatest_low most rank (z ∷ zs) low = omega (arith, low z, greatest_low most rank zs low)

behind_low : (most s : ℕ) (behind : List ℕ) → All (λ r. r ≤ most) behind → (z : ℤ) → rank_behind s behind z ≤ most
behind_low most s behind low (negsuc n) = omega arith
behind_low most s behind low (pos n) =
    cond_both (leb n s) 0 (get_or behind (n - suc s) 0) (λ (r : ℕ). r ≤ most) (λ _. omega arith)
    (λ _. elim (cases_lt (n - suc s) (length behind)) [
      | inl here ↦ low (n - suc s) 0 here
      | inr past ↦ rw (get_or_past behind (n - suc s) 0 past) (omega arith)
    ])

rank_low : (most s : ℕ) (behind : List ℕ) (form : StateForm) → All (λ r. r ≤ most) behind → rank_told s behind form ≤ suc most
rank_low most s behind (End payoff) low = omega arith
rank_low most s behind (Rows rows) low = omega (arith, greatest_low most (rank_behind s behind) (flat_map named_by (kept_cells (Rows rows))) (behind_low most s behind low))

pub ranks_low : (s : ℕ) (forms : List StateForm) → All (λ r. r ≤ length forms) (ranks_told s forms)
ranks_low s [] = All-nil (λ r. r ≤ 0)
ranks_low s (form ∷ forms) =
    let behind = ranks_told (suc s) forms in
    let low = ranks_low (suc s) forms in
    All-cons (λ r. r ≤ suc (length forms)) (rank_told s behind form) behind (rank_low (length forms) s behind form low)
    (All-weaker (λ r. r ≤ length forms) (λ r. r ≤ suc (length forms)) (λ r h. omega arith) behind low)

-- ---- the greatest
greatest_append : (xs ys : List ℕ) → greatest_in (xs ++ ys) ≡ max (greatest_in xs) (greatest_in ys)
greatest_append [] ys = omega arith
greatest_append (x ∷ xs) ys = omega (arith, greatest_append xs ys)

-- the greatest of parts, one by one
pub greatest_of_parts : {X : Type 0} (part : X → List ℤ) (rank : ℤ → ℕ) (here : X → ℕ) → ((x : X) → here x ≡ greatest_in (map rank (part x))) → (best : ℕ) (xs : List X)
    → fold (λ n x. max n (here x)) best xs ≡ max best (greatest_in (map rank (flat_map part xs)))
greatest_of_parts part rank here is best [] = omega arith
greatest_of_parts part rank here is best (x ∷ xs) =
    let parts = ap greatest_in (map-append rank (part x) (flat_map part xs)) ∙ greatest_append (map rank (part x)) (map rank (flat_map part xs)) in
    greatest_of_parts part rank here is (max best (here x)) xs ∙ omega (arith, parts, is x)

max_zero : (n : ℕ) → max 0 n ≡ n
max_zero n = omega arith

pub greatest_draw : (ranks : List ℤ) (vs : List Value) → fold (λ n v. max n (rank_in ranks (get_or (draw_form_of (view v)) 0 (pos 0)))) 0 vs
    ≡ greatest_in (map (rank_in ranks) (named_by (Draws (map (λ v. draw_form_of (view v)) vs))))
greatest_draw ranks vs =
    greatest_of_parts (λ (v : Value). get_or (draw_form_of (view v)) 0 (pos 0) ∷ []) (rank_in ranks) (λ v. rank_in ranks (get_or (draw_form_of (view v)) 0 (pos 0))) (λ v. omega arith) 0 vs
    ∙ max_zero _ ∙ ap (λ (zs : List ℤ). greatest_in (map (rank_in ranks) zs)) (flat_map_single (λ (v : Value). get_or (draw_form_of (view v)) 0 (pos 0)) vs
    ∙ sym (map-map (λ (draw : List ℤ). get_or draw 0 (pos 0)) (λ (v : Value). draw_form_of (view v)) vs))

pub greatest_cell : (ranks : List ℤ) (vs : List Value) → fold (λ n v. max n (greatest_in (map (rank_in ranks) (named_by (cell_form_of (view v)))))) 0 vs
    ≡ greatest_in (map (rank_in ranks) (flat_map named_by (map (λ v. cell_form_of (view v)) vs)))
greatest_cell ranks vs =
    greatest_of_parts (λ (v : Value). named_by (cell_form_of (view v))) (rank_in ranks) (λ v. greatest_in (map (rank_in ranks) (named_by (cell_form_of (view v))))) (λ v. refl) 0 vs
    ∙ max_zero _ ∙ ap (λ (zs : List ℤ). greatest_in (map (rank_in ranks) zs)) (sym (flat_map-map named_by (λ (v : Value). cell_form_of (view v)) vs))

flat_twice : {X : Type 0} (cells : X → List CellForm) (xs : List X) → flat_map (λ x. flat_map named_by (cells x)) xs ≡ flat_map named_by (flat_map cells xs)
flat_twice cells [] = refl
flat_twice cells (x ∷ xs) = ap (λ (zs : List ℤ). flat_map named_by (cells x) ++ zs) (flat_twice cells xs) ∙ sym (flat_map-append named_by (cells x) (flat_map cells xs))

pub greatest_row : (ranks : List ℤ) (vs : List Value) → fold (λ n v. max n (greatest_in (map (rank_in ranks) (flat_map named_by (row_form_of (view v)))))) 0 vs
    ≡ greatest_in (map (rank_in ranks) (flat_map named_by (flat_map (λ v. row_form_of (view v)) vs)))
greatest_row ranks vs =
    greatest_of_parts (λ (v : Value). flat_map named_by (row_form_of (view v))) (rank_in ranks) (λ v. greatest_in (map (rank_in ranks) (flat_map named_by (row_form_of (view v))))) (λ v. refl) 0 vs
    ∙ max_zero _ ∙ ap (λ (zs : List ℤ). greatest_in (map (rank_in ranks) zs)) (flat_twice (λ (v : Value). row_form_of (view v)) vs)

-- ---- one rank
pub rank_at_place : (ranks : List ℤ) (z : ℤ) (n : ℕ) → z ≡ pos n → unsigned_abs (get_or ranks n (pos 0)) ≡ rank_in ranks z
rank_at_place ranks z n is = rw is refl

pub no_rank_at : (ranks : List ℤ) (z : ℤ) (n : ℕ) → z ≡ pos n → length ranks ≤ n → 0 ≡ rank_in ranks z
no_rank_at ranks z n is past = rw (is, get_or_past ranks n (pos 0) past) refl

-- the ranks of the states before this one are 0
abbrev pub ranks_from : ℕ → List ℕ → List ℤ
ranks_from s behind = replicate s (pos 0) ++ map pos behind

read_number : (behind : List ℕ) (n : ℕ) → unsigned_abs (get_or (map pos behind) n (pos 0)) ≡ get_or behind n 0
read_number [] n = refl
read_number (r ∷ behind) zero = refl
read_number (r ∷ behind) (suc n) = read_number behind n

zeros_split : (s : ℕ) → replicate (suc s) (pos 0) ≡ replicate s (pos 0) ++ pos 0 ∷ []
zeros_split s = sym (replicate_more s (pos 0) ∙ ap (λ (n : ℕ). replicate n (pos 0)) (add-one s))

-- the ranks behind s, read in the whole list
read_behind : (s : ℕ) (behind : List ℕ) (z : ℤ) → rank_in (ranks_from (suc s) behind) z ≡ rank_behind s behind z
read_behind s behind (negsuc n) = refl
read_behind s behind (pos n) = elim (cases_lt s n) [
  | inl after ↦
      let zeros = length-replicate (suc s) (pos 0) in
      let later : suc s ≤ n = omega arith in
      rw (lt-leb n s after)
      (ap (λ (z : ℤ). unsigned_abs z) (get_or-append_right (replicate (suc s) (pos 0)) (map pos behind) (suc s) n (pos 0) zeros later) ∙ read_number behind (n - suc s))
  | inr before ↦
      let zeros = length-replicate (suc s) (pos 0) in
      let here : n < length (replicate (suc s) (pos 0)) = omega (arith, zeros) in
      rw (le-leb n s before)
      (ap (λ (z : ℤ). unsigned_abs z) (get_or_append_left (replicate (suc s) (pos 0)) (map pos behind) (pos 0) n here ∙ get_or-replicate (suc s) n (pos 0) (pos 0) (omega arith)))
]

same_map : {A B : Type 0} (f g : A → B) (xs : List A) → ((x : A) → f x ≡ g x) → map f xs ≡ map g xs
same_map f g [] h = refl
same_map {A} {B} f g (x ∷ xs) h = ap (λ (y : B). y ∷ map f xs) (h x) ∙ ap (λ (ys : List B). g x ∷ ys) (same_map f g xs h)

pub rank_is : (s : ℕ) (behind : List ℕ) (form : StateForm) → rank_among (ranks_from (suc s) behind) form ≡ rank_told s behind form
rank_is s behind (End payoff) = refl
rank_is s behind (Rows rows) = ap (λ (ns : List ℕ). suc (greatest_in ns))
    (same_map (rank_in (ranks_from (suc s) behind)) (rank_behind s behind) (flat_map named_by (kept_cells (Rows rows))) (read_behind s behind))

-- ---- the loop
-- the ranks of the states from this one on are told, and those before are 0
pub record AreRanksFrom (s : ℕ) (vs : List Value) (ranks : List ℤ) : Type 0 where
  pub within : s ≤ length vs
  pub told : ranks ≡ ranks_from s (ranks_told s (map (λ v. state_form_of (view v)) (drop s vs)))

zeros_are : {X : Type 0} (xs : List X) → map (λ _. pos 0) xs ≡ replicate (length xs) (pos 0)
zeros_are [] = refl
zeros_are (x ∷ xs) = ap (λ (zs : List ℤ). pos 0 ∷ zs) (zeros_are xs)

pub ranks_none : (vs : List Value) (ranks : List ℤ) → ranks ≡ map (λ _. pos 0) vs → AreRanksFrom (length vs) vs ranks
ranks_none vs ranks is = record {
  within = omega arith;
  told = is ∙ zeros_are vs
      ∙ sym (ap (λ (rest : List Value). ranks_from (length vs) (ranks_told (length vs) (map (λ v. state_form_of (view v)) rest))) (drop_all (length vs) vs (omega arith))
      ∙ append-nil (replicate (length vs) (pos 0)));
}

pub ranks_done : (vs : List Value) (ranks : List ℤ) (s : ℕ) → s ≡ 0 → AreRanksFrom s vs ranks → ranks ≡ map pos (ranks_told 0 (map (λ v. state_form_of (view v)) vs))
ranks_done vs ranks s none h = subst (λ (n : ℕ). ranks ≡ ranks_from n (ranks_told n (map (λ v. state_form_of (view v)) (drop n vs)))) none h.told

numbers_low : (most : ℕ) (zs : List ℤ) → All (λ z. unsigned_abs z ≤ most) zs → (z : ℤ) → rank_in zs z ≤ most
numbers_low most zs low (negsuc n) = omega arith
numbers_low most zs low (pos n) = elim (cases_lt n (length zs)) [
  | inl here ↦ low n (pos 0) here
  | inr past ↦ rw (get_or_past zs n (pos 0) past) (omega arith)
]

-- each rank is at most the number of states
pub all_low : (s : ℕ) (vs : List Value) (ranks : List ℤ) → AreRanksFrom s vs ranks → length vs ≤ MOST_STATES → (z : ℤ) → rank_in ranks z ≤ MOST_STATES
all_low s vs ranks h few =
    let rest = map (λ (v : Value). state_form_of (view v)) (drop s vs) in
    let low = All-weaker (λ r. r ≤ length rest) (λ r. r ≤ MOST_STATES) (λ r k. omega (arith, length-map (drop s vs) (λ (v : Value). state_form_of (view v)), length-drop s vs)) (ranks_told s rest)
    (ranks_low s rest) in
    numbers_low MOST_STATES ranks
    (subst (All (λ z. unsigned_abs z ≤ MOST_STATES)) (sym h.told)
    (All-append (λ z. unsigned_abs z ≤ MOST_STATES) (replicate s (pos 0)) (map pos (ranks_told s rest)) (All-replicate (λ z. unsigned_abs z ≤ MOST_STATES) s (pos 0) (omega arith))
    (All-map (λ z. unsigned_abs z ≤ MOST_STATES) pos (ranks_told s rest) low)))

-- one state before
pub ranks_more : (s left : ℕ) (vs : List Value) (v : Value) (ranks : List ℤ) (rank : ℕ) → left ≡ s + 1 → s < length vs → v ≡ get_or vs s v → AreRanksFrom left vs ranks
    → rank ≡ rank_among ranks (state_form_of (view v)) → AreRanksFrom s vs (set ranks s (pos rank))
ranks_more s left vs v ranks rank step below is h rank_is_among =
    let next : left ≡ suc s = omega arith in
    let rest = map (λ (w : Value). state_form_of (view w)) (drop (suc s) vs) in
    let behind = ranks_told (suc s) rest in
    let told : ranks ≡ ranks_from (suc s) behind = subst (λ (n : ℕ). ranks ≡ ranks_from n (ranks_told n (map (λ (w : Value). state_form_of (view w)) (drop n vs)))) next h.told in
    let here = rank_is_among ∙ ap (λ (zs : List ℤ). rank_among zs (state_form_of (view v))) told ∙ rank_is s behind (state_form_of (view v)) in
    let states : drop s vs ≡ v ∷ drop (suc s) vs = drop_more vs s v below ∙ ap (λ (w : Value). w ∷ drop (s + 1) vs) (sym is) ∙ ap (λ (n : ℕ). v ∷ drop n vs) (add-one s) in
    record {
      within = omega arith;
      told = ap (λ (zs : List ℤ). set zs s (pos rank)) (told ∙ ap (λ (zs : List ℤ). zs ++ map pos behind) (zeros_split s) ∙ append_assoc (replicate s (pos 0)) (pos 0 ∷ []) (map pos behind))
          ∙ set_at (replicate s (pos 0)) (pos 0) (map pos behind) (pos rank) s (length-replicate s (pos 0))
          ∙ ap (λ (n : ℕ). replicate s (pos 0) ++ pos n ∷ map pos behind) here
          ∙ sym (ap (λ (rest : List Value). ranks_from s (ranks_told s (map (λ w. state_form_of (view w)) rest))) states);
    }

-- ---- the text
flat_draws : (cells : List CellForm) → flat_map draw_told (flat_map draws_of_form cells) ≡ flat_map draws_told cells
flat_draws [] = refl
flat_draws (cell ∷ cells) =
    flat_map-append draw_told (draws_of_form cell) (flat_map draws_of_form cells) ∙ ap (λ (zs : List ℤ). draws_told cell ++ zs) (flat_draws cells)

-- the rewards are left out where no draw tells one
rewards_are : (forms : List StateForm) (rewards : List ℤ) (unpaid : Bool) → rewards ≡ map reward_told (kept_draws forms) → unpaid ≡ are_unpaid (kept_draws forms)
    → cond unpaid [] rewards ≡ rewards_told forms
rewards_are forms rewards unpaid are none = rw (are, none)
    (elim (are_unpaid (kept_draws forms)) as (λ b. cond b [] (map reward_told (kept_draws forms)) ≡ cond (not b) (map reward_told (kept_draws forms)) []) [
      | true ↦ refl
      | false ↦ refl
    ])

pub table_is : (forms : List StateForm) (lists : Lists) (ranks rewards : List ℤ) → AreListsOf forms lists → ranks ≡ map pos (ranks_told 0 forms)
    → rewards ≡ cond lists.cells.draws.unpaid [] lists.cells.draws.rewards.items
    → texts.Table ranks lists.moves.items lists.values.items lists.cells.numbers.items lists.cells.draws.numbers.items rewards ≡ table_text_of (lists_of_states forms)
table_is forms lists ranks rewards are told rest =
    let draws = are.draws.numbers ∙ flat_draws (flat_map kept_cells forms) in
    let paid = rest ∙ rewards_are forms lists.cells.draws.rewards.items lists.cells.draws.unpaid are.draws.rewards are.draws.unpaid in
    λ i. texts.Table (told i) (are.moves i) (are.values i) (are.cells i) (draws i) (paid i)
