-- Plans that put all weight on one move.
use Rattle.std.proofs.Common.{◌≡◌, ◌⊎◌, inl, inr, ⊎_elim, ℕ, zero, suc, ◌+◌, ◌<◌, ◌≤◌, List, [], ◌∷◌, length, sum, replicate, get_or, slice_index, refl, sym, ap, subst, ◌∙◌, arith}
use Rattle.std.specs.List.{Contains}
use Rattle.std.proofs.lemmas.Bool.{cases_lt}
use Rattle.std.proofs.lemmas.List.Sums.{sum_by-cons}
use Rattle.std.proofs.lemmas.List.Elements.{All-nil, All-cons, All-contains}
use Rattle.sim_game.specs.declared.Side.{Side}
use Rattle.sim_game.specs.declared.Side.TheVariants.{One, Two}
use Rattle.sim_game.specs.Model.{GameModel, IsGame, Reachable}
use Rattle.sim_game.specs.Sides.{other_side, move_of_one, draws_of, after_reward}
use Rattle.plan_book.specs.declared.Entry.{Entry}
use Rattle.plan_book.specs.Books.{Grows}
use Rattle.plan_book.specs.Entries.{IsLawfulEntry, IsPureEntry}
use Rattle.plan_book.specs.Plans.{one_move}
use Rattle.bounds_board.specs.Views.{BoardView, IsLater, IsPostable}
use Rattle.restricted_game.specs.declared.plans.SidePlan.{SidePlan}
use Rattle.restricted_game.specs.declared.table.StageCells.{StageCells}
use Rattle.restricted_game.specs.declared.table.StageTable.{StageTable}
use Rattle.restricted_game.specs.declared.table.StageNumbers.{StageNumbers}
use Rattle.restricted_game.specs.Held.{HeldMoves, AreMoves}
use Rattle.restricted_game.specs.Numbers.{IsReadNumber, IsWanted}
use Rattle.restricted_game.specs.Runs.{IsPlan}
use Rattle.restricted_game.specs.Stages.{AreStageNumbers, WereStageNumbers}
use Rattle.restricted_game.specs.Tables.{HasShape, AreCells, IsAlone, IsCellPlan, numbers_in, side_entry}
use Rattle.restricted_game.proofs.HeldLemmas.{one_move as one_move_held}
use Rattle.restricted_game.proofs.PlanLemmas.{own_count, cell_plan_is, spread_total}
use Rattle.restricted_game.proofs.PostLemmas.{grows_weaker, postable_lawful}
use Rattle.restricted_game.proofs.StepLemmas.{plan_postable}
use Rattle.restricted_game.proofs.TableLemmas.{one_read, two_read}

-- ---- lists with one weight
all_zero : (xs : List ℕ) → ((i : ℕ) → get_or xs i 0 ≡ 0) → (xs ≡ replicate (length xs) 0) × (sum xs ≡ 0)
all_zero [] zeros = (refl, refl)
all_zero (x ∷ xs) zeros =
    let rest = all_zero xs (λ i. zeros (suc i)) in
    let first : x ≡ 0 = zeros 0 in
    let all : sum (x ∷ xs) ≡ x + sum xs = sum_by-cons (λ (n : ℕ). n) x xs in
    (subst (λ (n : ℕ). n ∷ xs ≡ 0 ∷ replicate (length xs) 0) (sym first) (ap (λ (l : List ℕ). 0 ∷ l) rest.0), omega (arith, all, first, rest.1))

one_weight : (xs : List ℕ) (place : ℕ) → place < length xs → ((i : ℕ) → (i ≡ place → ⊥) → get_or xs i 0 ≡ 0) → xs ≡ one_move (sum xs) (length xs) place
one_weight [] place h zeros = absurd (omega arith)
one_weight (x ∷ xs) zero h zeros =
    let rest = all_zero xs (λ i. zeros (suc i) (λ e. absurd (omega arith))) in
    let all : sum (x ∷ xs) ≡ x = sum_by-cons (λ (n : ℕ). n) x xs ∙ omega (arith, rest.1) in
    subst (λ (n : ℕ). x ∷ xs ≡ n ∷ replicate (length xs) 0) (sym all) (ap (λ (l : List ℕ). x ∷ l) rest.0)
one_weight (x ∷ xs) (suc place) h zeros =
    let first : x ≡ 0 = zeros 0 (λ e. absurd (omega arith)) in
    let rest = one_weight xs place (omega arith) (λ i n. zeros (suc i) (λ e. n (omega arith))) in
    let all : sum (x ∷ xs) ≡ sum xs = sum_by-cons (λ (n : ℕ). n) x xs ∙ omega (arith, first) in
    subst (λ (n : ℕ). x ∷ xs ≡ 0 ∷ one_move n (length xs) place) (sym all)
    (subst (λ (n : ℕ). n ∷ xs ≡ 0 ∷ one_move (sum xs) (length xs) place) (sym first) (ap (λ (l : List ℕ). 0 ∷ l) rest))

-- ---- the move of a plan
contains_one : (x y : ℕ) → Contains (x ∷ []) y → y ≡ x
contains_one x y has = All-contains (λ (z : ℕ). z ≡ x) (x ∷ []) y (All-cons (λ (z : ℕ). z ≡ x) x [] refl (All-nil (λ (z : ℕ). z ≡ x))) has

module _ {S G N : Type 0} (m : GameModel S) (game : IsGame m) (s : S) (reach : Reachable m s) (goes_on : 1 ≤ m.rank s) (u v : BoardView G N) (later : IsLater u v)
    (side : Side) (total : ℕ) (is_total : total ≡ u.total) (low : 8192 ≤ total) (own others : List ℕ) (table : StageTable) (plan : SidePlan)
    (alone : IsAlone m side s total own others table plan) where
  alone_total : sum plan.weights.items ≡ total
  alone_total = spread_total (m.moves side s) total (alone.place ∷ []) (total ∷ []) plan.weights.items alone.planned.spread (omega arith)

  alone_one : alone.place < m.moves side s → plan.weights.items ≡ one_move total (length plan.weights.items) alone.place
  alone_one within =
      let each = alone.planned.spread.each in
      subst (λ (n : ℕ). plan.weights.items ≡ one_move n (length plan.weights.items) alone.place) alone_total
      (one_weight plan.weights.items alone.place (omega arith)
      (λ i other. ⊎_elim
      (λ (some : 0 < slice_index plan.weights.items i). absurd (other (contains_one alone.place i (alone.planned.spread.elsewhere i some))))
      (λ (none : slice_index plan.weights.items i ≤ 0). omega (arith, none))
      (cases_lt 0 (slice_index plan.weights.items i))))

  module _ (read : (move other draw : ℕ) → move < m.moves side s → other < m.moves (other_side side) s → IsWanted own others move other → draw < draws_of m side s move other
      → after_reward m side s move other draw (IsReadNumber m u v side) (numbers_in side table move other draw)) where
    -- what it proves may be posted
    pub alone_postable : IsPostable m v (side_entry m side s plan)
    alone_postable = plan_postable m game s reach goes_on u v side u.total (omega (arith, is_total, low)) (alone.place ∷ []) others (u.total ∷ []) (omega arith)
        (numbers_in side table) plan.weights.items plan.bound plan.fresh
        (subst (λ (n : ℕ). IsPlan m side s n (alone.place ∷ []) others (n ∷ []) (numbers_in side table) plan.weights.items plan.bound plan.fresh) is_total alone.planned)
        (λ move other draw p q wanted t. read move other draw p q (⊎_elim
        (λ (a : Contains (alone.place ∷ []) move). inl (subst (Contains own) (sym (contains_one alone.place move a)) alone.held))
        (λ (b : Contains others other). inr b) wanted) t) later.total

    alone_entry : AreMoves (m.moves side s) own → IsPureEntry m u.total (side_entry m side s plan)
    alone_entry moves = let within = All-contains (λ (move : ℕ). move < m.moves side s) own alone.place moves.within alone.held in record {
      lawful = subst (λ (n : ℕ). IsLawfulEntry m n (side_entry m side s plan)) later.total (postable_lawful m v (side_entry m side s plan) alone_postable);
      place = alone.place;
      pure = subst (λ (n : ℕ). plan.weights.items ≡ one_move n (length plan.weights.items) alone.place) is_total (alone_one within);
    }

-- ---- plans over cells
module _ {S : Type 0} (m : GameModel S) (side : Side) (s : S) (table : StageTable) (cells : StageCells) (shape : HasShape m s table) (are : AreCells m side s table cells) where
  -- the moves of the side, by its cells
  pub own_moves : (own : List ℕ) → AreMoves (m.moves side s) own → AreMoves (move_of_one side cells.height cells.width) own
  own_moves own moves = subst (λ (n : ℕ). AreMoves n own) (sym (rw (are.height, are.width, shape.height, shape.width) (own_count m side s))) moves

  pub one_of_own : (own : List ℕ) (place : ℕ) → AreMoves (m.moves side s) own → Contains own place → AreMoves (move_of_one side cells.height cells.width) (place ∷ [])
  one_of_own own place moves held = own_moves (place ∷ []) (one_move_held (m.moves side s) place (All-contains (λ (move : ℕ). move < m.moves side s) own place moves.within held))

  pub alone_is : (total : ℕ) (own others : List ℕ) (place : ℕ) (plan : SidePlan) → Contains own place → IsCellPlan side total cells (place ∷ []) others (total ∷ []) plan
      → IsAlone m side s total own others table plan
  alone_is total own others place plan held planned =
      record { place = place; held = held; planned = cell_plan_is m side s table cells total (place ∷ []) others (total ∷ []) plan shape are planned }

-- ---- both sides, over numbers that were read
module _ {S G N : Type 0} (m : GameModel S) (game : IsGame m) (s : S) (reach : Reachable m s) (goes_on : 1 ≤ m.rank s) (v : BoardView G N) (h : HeldMoves)
    (numbers : StageNumbers) (were : WereStageNumbers m v s h numbers) (total : ℕ) (is_total : total ≡ v.total) (low : 8192 ≤ total)
    (row col : ℕ) (has_row : Contains h.rows row) (has_col : Contains h.cols col) (one two : SidePlan)
    (one_planned : IsCellPlan One total numbers.lows (row ∷ []) h.cols (total ∷ []) one) (two_planned : IsCellPlan Two total numbers.highs (col ∷ []) h.rows (total ∷ []) two) where
  abbrev are : AreStageNumbers m were.since v s h numbers
  are = were.are

  one_alone : IsAlone m One s total h.rows h.cols numbers.table one
  one_alone = alone_is m One s numbers.table numbers.lows are.cells.shape are.cells.lows total h.rows h.cols row one has_row one_planned

  two_alone : IsAlone m Two s total h.cols h.rows numbers.table two
  two_alone = alone_is m Two s numbers.table numbers.highs are.cells.shape are.cells.highs total h.cols h.rows col two has_col two_planned

  pub one_alone_postable : IsPostable m v (side_entry m One s one)
  one_alone_postable = alone_postable m game s reach goes_on were.since v are.later One total (is_total ∙ are.later.total) low h.rows h.cols numbers.table one one_alone
      (one_read m were.since v s h.rows h.cols numbers.table are.filled)

  pub two_alone_postable : IsPostable m v (side_entry m Two s two)
  two_alone_postable = alone_postable m game s reach goes_on were.since v are.later Two total (is_total ∙ are.later.total) low h.cols h.rows numbers.table two two_alone
      (two_read m were.since v s h.rows h.cols numbers.table are.filled)

  -- posts of these alone
  pub alone_posted : (before after : List Entry) → AreMoves (m.moves One s) h.rows → AreMoves (m.moves Two s) h.cols
      → Grows (λ (e : Entry). e ≡ side_entry m One s one ⊎ e ≡ side_entry m Two s two) before after → Grows (IsPureEntry m v.total) before after
  alone_posted before after held_rows held_cols posted =
      let first = alone_entry m game s reach goes_on were.since v are.later One total (is_total ∙ are.later.total) low h.rows h.cols numbers.table one one_alone
      (one_read m were.since v s h.rows h.cols numbers.table are.filled) held_rows in
      let second = alone_entry m game s reach goes_on were.since v are.later Two total (is_total ∙ are.later.total) low h.cols h.rows numbers.table two two_alone
      (two_read m were.since v s h.rows h.cols numbers.table are.filled) held_cols in
      subst (λ (n : ℕ). Grows (IsPureEntry m n) before after) (sym are.later.total)
      (grows_weaker (λ (e : Entry). e ≡ side_entry m One s one ⊎ e ≡ side_entry m Two s two) (IsPureEntry m were.since.total) before after
      (λ e is. ⊎_elim
      (λ (a : e ≡ side_entry m One s one). subst (IsPureEntry m were.since.total) (sym a) first)
      (λ (b : e ≡ side_entry m Two s two). subst (IsPureEntry m were.since.total) (sym b) second) is) posted)
