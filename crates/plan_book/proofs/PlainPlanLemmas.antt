-- Plans, payoff sums and guarantees in games in which each pair of moves has one draw.
use Rattle.std.proofs.Common.{◌≡◌, ℕ, zero, suc, ◌*◌, ◌^◌, ◌<◌, Bool, true, false, ◌&&◌, cond, eqb, ℤ, pos, ◌+ℤ◌, ◌*ℤ◌, Option, None, Some, option_map, List, [], ◌∷◌, ◌++◌, length, sum, map, get_or, inl, inr, refl, sym, ap, ◌∙◌, arith}
use Rattle.std.specs.Prelude.{IsTrue}
use Rattle.std.specs.List.{filter_map, cons_option}
use Rattle.std.proofs.Math.Nat.{pow-succ', pow-zero, one-le-pow}
use Rattle.std.proofs.lemmas.Bool.{cases_eq}
use Rattle.std.proofs.lemmas.Int.{ints}
use Rattle.std.proofs.lemmas.List.{map-append}
use Rattle.std.proofs.lemmas.Nat.{mul-pow}
use Rattle.sums.specs.Sums.{sum_below}
use Rattle.sums.proofs.IntegerLemmas.{times_times, times_add}
use Rattle.sums.proofs.SumLemmas.{sum_same, sum_times}
use Rattle.sim_game.specs.declared.Side.{Side}
use Rattle.sim_game.specs.declared.Side.TheVariants.{One, Two}
use Rattle.sim_game.specs.Model.{GameModel, Turn, IsGame, Reachable, bound_scale, whole_chance}
use Rattle.sim_game.specs.Sides.{IsNoTighter}
use Rattle.sim_game.proofs.ReachLemmas.{reachable_root}
use Rattle.sim_game.proofs.SideLemmas.{looser_times, looser_cancel, looser_left, looser_right}
use Rattle.plan_book.specs.ChanceFree.{HasPlainPlans}
use Rattle.plan_book.specs.Expected.{whole, expected, plan_of_one, plan_of_two}
use Rattle.plan_book.specs.PlainGames.{next_state, plain_reward}
use Rattle.plan_book.specs.PlainPlans.{Moves, PlainPlace, OfKey, OfMoves, PlainRow, PlainPlan, same_moves, plain_row_weights, plain_weights, plain_sum, plain_sum_of, first_draws, moves_of, plain_row, without_draws, drawn_place, with_draws}
use Rattle.plan_book.specs.Plans.{Place, PlanRow, Plan, AtKey, AtHistory, same_history, is_place, row_weights, weights_at}
use Rattle.plan_book.proofs.ExpectedLemmas.{is_same, is_other}
use Rattle.plan_book.proofs.GuaranteeLemmas.{stakes_are}
use Rattle.plan_book.proofs.PlainStateLemmas.{sum_one, one_draw, whole_draw, next_reachable}
use Rattle.plan_book.proofs.TreeSums.{times_swap}

-- ---- rows without draws
abbrev matches : Option (List Moves) → List Moves → Bool
matches None k = false
matches (Some j) k = same_moves j k

no_match : (first : Bool) (t : Moves) (o : Option (List Moves)) → false ≡ matches (cond first (option_map (λ j. t ∷ j) o) None) []
no_match true t None = refl
no_match true t (Some j) = refl
no_match false t o = refl

tests : (a b d x : Bool) → ((a && (b && d)) && x) ≡ cond d ((a && b) && x) false
tests true true true x = refl
tests true true false x = refl
tests true false true x = refl
tests true false false x = refl
tests false b true x = refl
tests false b false x = refl

none_of : (a : Bool) → false ≡ (a && false)
none_of true = refl
none_of false = refl

matches_more : (d : Bool) (t u : Moves) (k : List Moves) (o : Option (List Moves))
    → cond d ((eqb t.one u.one && eqb t.two u.two) && matches o k) false ≡ matches (cond d (option_map (λ j. t ∷ j) o) None) (u ∷ k)
matches_more true t u k None = sym (none_of (eqb t.one u.one && eqb t.two u.two))
matches_more true t u k (Some j) = refl
matches_more false t u k o = refl

history_kept : (h : List Turn) (k : List Moves) → same_history h (first_draws k) ≡ matches (moves_of h) k
history_kept [] [] = refl
history_kept [] (u ∷ k) = refl
history_kept (t ∷ h) [] = no_match (eqb t.draw 0) (record { one = t.one; two = t.two }) (moves_of h)
history_kept (t ∷ h) (u ∷ k) =
    ap (λ (x : Bool). (eqb t.one u.one && (eqb t.two u.two && eqb t.draw 0)) && x) (history_kept h k)
    ∙ tests (eqb t.one u.one) (eqb t.two u.two) (eqb t.draw 0) (matches (moves_of h) k)
    ∙ matches_more (eqb t.draw 0) (record { one = t.one; two = t.two }) u k (moves_of h)

module _ (key : ℕ) (k : List Moves) (count total : ℕ) where
  abbrev fits : List ℕ → Bool
  fits weights = eqb (length weights) count && eqb (sum weights) total

  history_plays : (o : Option (List Moves)) (same : Bool) (weights rest : List ℕ) (rows : List PlainRow) → same ≡ matches o k → rest ≡ plain_row_weights rows key k count total
      → cond (same && fits weights) weights rest ≡ plain_row_weights (cons_option (option_map (λ place. record { place = place; weights = weights }) (option_map OfMoves o)) rows) key k count total
  history_plays None same weights rest rows e h = ap (λ (b : Bool). cond (b && fits weights) weights rest) e ∙ h
  history_plays (Some j) same weights rest rows e h = ap (λ (b : Bool). cond (b && fits weights) weights rest) e ∙ ap (λ (ws : List ℕ). cond (same_moves j k && fits weights) weights ws) h

  row_plays : (place : Place) (weights rest : List ℕ) (rows : List PlainRow) → rest ≡ plain_row_weights rows key k count total
      → cond (is_place place key (first_draws k) && fits weights) weights rest ≡ plain_row_weights (cons_option (plain_row (record { place = place; weights = weights })) rows) key k count total
  row_plays (AtKey j) weights rest rows h = ap (λ (ws : List ℕ). cond (eqb j key && fits weights) weights ws) h
  row_plays (AtHistory j) weights rest rows h = history_plays (moves_of j) (same_history j (first_draws k)) weights rest rows (history_kept j k) h

  rows_play : (rows : List PlanRow) → row_weights rows key (first_draws k) count total ≡ plain_row_weights (filter_map plain_row rows) key k count total
  rows_play [] = refl
  rows_play (r ∷ rows) = row_plays r.place r.weights _ (filter_map plain_row rows) (rows_play rows)

-- ---- plain plans are plans without draws
moves_back : (k : List Moves) → moves_of (first_draws k) ≡ Some k
moves_back [] = refl
moves_back (t ∷ k) = ap (option_map (λ j. t ∷ j)) (moves_back k)

row_back : (place : PlainPlace) (weights : List ℕ) → plain_row (record { place = drawn_place place; weights = weights }) ≡ Some (record { place = place; weights = weights })
row_back (OfKey k) weights = refl
row_back (OfMoves h) weights = ap (λ (o : Option (List Moves)). option_map (λ place. record { place = place; weights = weights }) (option_map OfMoves o)) (moves_back h)

rows_back : (rows : List PlainRow) → filter_map plain_row (map (λ r. record { place = drawn_place r.place; weights = r.weights }) rows) ≡ rows
rows_back [] = refl
rows_back (r ∷ rows) =
    ap (λ (o : Option PlainRow). cons_option o (filter_map plain_row (map (λ x. record { place = drawn_place x.place; weights = x.weights }) rows))) (row_back r.place r.weights)
    ∙ ap (λ (xs : List PlainRow). r ∷ xs) (rows_back rows)

plan_back : (plan : PlainPlan) → without_draws (with_draws plan) ≡ plan
plan_back plan = ap (λ (rows : List PlainRow). record { total = plan.total; rows = rows }) (rows_back plan.rows)

-- ---- payoff sums
one_times : (x : ℤ) → x ≡ pos 1 *ℤ x
one_times x = omega (arith, ints)

sum_pairs : (k n j : ℕ) (f g : ℕ → ℕ → ℤ) → ((a b : ℕ) → a < n → b < j → f a b ≡ pos k *ℤ g a b) → sum_below n (λ a. sum_below j (f a)) ≡ pos k *ℤ sum_below n (λ a. sum_below j (g a))
sum_pairs k n j f g h = sum_same n _ _ (λ a p. sum_same j _ _ (λ b q. h a b p q) ∙ sum_times j k (g a)) ∙ sum_times n k (λ a. sum_below j (g a))

regroup : (w v c k : ℕ) (x : ℤ) → pos (w * v * c) *ℤ (pos k *ℤ x) ≡ pos (c * k) *ℤ (pos (w * v) *ℤ x)
regroup w v c k x = times_times (w * v * c) k x ∙ ap (λ (n : ℕ). pos n *ℤ x) (omega arith) ∙ sym (times_times (c * k) (w * v) x)

-- a power of the stakes, apart from that of the chances
power_apart : (stake c n : ℕ) (x : ℤ) → pos ((stake * c) ^ n) *ℤ x ≡ pos (c ^ n) *ℤ (pos (stake ^ n) *ℤ x)
power_apart stake c n x = ap (λ (k : ℕ). pos k *ℤ x) (mul-pow stake c n) ∙ sym (times_times (stake ^ n) (c ^ n) x) ∙ times_swap (stake ^ n) (c ^ n) x

module _ {S : Type 0} (m : GameModel S) (game : IsGame m) (free : IsTrue m.chance_free) where
  plays : (side : Side) (plan : Plan) (s : S) (k : List Moves) → weights_at m side plan s (first_draws k) ≡ plain_weights m side (without_draws plan) s k
  plays side plan s k = rows_play (m.key s) k (m.moves side s) plan.total plan.rows

  module _ (one two : Plan) where
    abbrev plain : ℕ → S → List Moves → ℤ
    plain turns s k = plain_sum m (without_draws one) (without_draws two) turns s k

    -- a turn's reward, with what follows it
    abbrev plain_turn : ℕ → S → List Moves → ℕ → ℕ → ℤ
    plain_turn turns s k a b = pos ((one.total * two.total) ^ turns) *ℤ plain_reward m s a b +ℤ plain turns (next_state m s a b) (k ++ record { one = a; two = b } ∷ [])

    paid_is : (c turns : ℕ) (s : S) (k : List Moves) (a b : ℕ) → c ≡ whole_chance
        → expected m one two turns (next_state m s a b) (first_draws (k ++ record { one = a; two = b } ∷ [])) ≡ pos (c ^ turns)
        *ℤ plain turns (next_state m s a b) (k ++ record { one = a; two = b } ∷ [])
        → pos (whole one two ^ turns) *ℤ plain_reward m s a b +ℤ expected m one two turns (next_state m s a b) (first_draws (k ++ record { one = a; two = b } ∷ []))
        ≡ pos (c ^ turns) *ℤ plain_turn turns s k a b
    paid_is c turns s k a b is below =
        let next : List Moves = k ++ record { one = a; two = b } ∷ [] in
        let pay : ℤ = plain_reward m s a b in
        ap (λ (x : ℤ). pos (whole one two ^ turns) *ℤ pay +ℤ x) below
        ∙ ap (λ (x : ℤ). x +ℤ pos (c ^ turns) *ℤ plain turns (next_state m s a b) next)
        (ap (λ (x : ℕ). pos ((one.total * two.total * x) ^ turns) *ℤ pay) (sym is) ∙ power_apart (one.total * two.total) c turns pay)
        ∙ sym (times_add (c ^ turns) (pos ((one.total * two.total) ^ turns) *ℤ pay) (plain turns (next_state m s a b) next))

    turn_is : (c turns : ℕ) (s : S) (k : List Moves) (a b : ℕ) → Reachable m s → a < m.moves One s → b < m.moves Two s → c ≡ whole_chance
        → expected m one two turns (next_state m s a b) (first_draws (k ++ record { one = a; two = b } ∷ [])) ≡ pos (c ^ turns)
        *ℤ plain turns (next_state m s a b) (k ++ record { one = a; two = b } ∷ [])
        → sum_below (m.draws s a b) (λ d. pos (get_or (weights_at m One one s (first_draws k)) a 0 * get_or (weights_at m Two two s (first_draws k)) b 0 * m.chance s a b d)
        *ℤ (pos (whole one two ^ turns) *ℤ m.reward s a b d +ℤ expected m one two turns (m.drawn s a b d) (first_draws k ++ record { one = a; two = b; draw = d } ∷ [])))
        ≡ pos (c ^ suc turns) *ℤ (pos (get_or (plain_weights m One (without_draws one) s k) a 0 * get_or (plain_weights m Two (without_draws two) s k) b 0)
        *ℤ plain_turn turns s k a b)
    turn_is c turns s k a b r p q is below =
        let w : ℕ = get_or (weights_at m One one s (first_draws k)) a 0 in
        let v : ℕ = get_or (weights_at m Two two s (first_draws k)) b 0 in
        let paid : List Turn → ℤ = λ h. pos (whole one two ^ turns) *ℤ plain_reward m s a b +ℤ expected m one two turns (next_state m s a b) h in
        sum_one (m.draws s a b) _ (one_draw m game free One s a b r p q)
        ∙ ap (λ (x : ℕ). pos (w * v * x) *ℤ paid (first_draws k ++ record { one = a; two = b; draw = 0 } ∷ []))
        (whole_draw m game free One s a b r p q ∙ sym is)
        ∙ ap (λ (h : List Turn). pos (w * v * c) *ℤ paid h) (sym (map-append _ k (record { one = a; two = b } ∷ [])))
        ∙ ap (λ (x : ℤ). pos (w * v * c) *ℤ x) (paid_is c turns s k a b is below)
        ∙ regroup w v c (c ^ turns) (plain_turn turns s k a b)
        ∙ ap (λ (x : ℕ). pos x *ℤ (pos (w * v) *ℤ plain_turn turns s k a b)) (sym (pow-succ' c turns))
        ∙ ap (λ (ws : List ℕ). pos (c ^ suc turns) *ℤ (pos (get_or ws a 0 * v) *ℤ plain_turn turns s k a b)) (plays One one s k)
        ∙ ap (λ (ws : List ℕ). pos (c ^ suc turns) *ℤ (pos (get_or (plain_weights m One (without_draws one) s k) a 0 * get_or ws b 0) *ℤ plain_turn turns s k a b)) (plays Two two s k)

    sums : (c turns : ℕ) (s : S) (k : List Moves) → c ≡ whole_chance → Reachable m s → expected m one two turns s (first_draws k) ≡ pos (c ^ turns) *ℤ plain turns s k
    sums c zero s k is r = rw (pow-zero c) (one_times (m.payoff s))
    sums c (suc turns) s k is r = elim (cases_eq (m.rank s) 0) [
      | inl stop ↦ rw (is_same (m.rank s) 0 stop)
          (ap (λ (x : ℕ). pos ((one.total * two.total * x) ^ suc turns) *ℤ m.payoff s) (sym is) ∙ power_apart (one.total * two.total) c (suc turns) (m.payoff s))
      | inr on ↦ rw (is_other (m.rank s) 0 on)
          (sum_pairs (c ^ suc turns) (m.moves One s) (m.moves Two s) _ _ (λ a b p q.
          turn_is c turns s k a b r p q is (sums c turns (next_state m s a b) _ is (next_reachable m game free One s a b r p q))))
    ]

  -- ---- guarantees
  module _ (c : ℕ) (is : c ≡ whole_chance) (side : Side) (own reply : Plan) where
    abbrev n : ℕ
    n = m.rank m.root

    left_is : (bound : ℤ) → pos (whole (plan_of_one side own reply) (plan_of_two side own reply) ^ n) *ℤ bound ≡ pos (c ^ n) *ℤ (pos ((own.total * reply.total) ^ n) *ℤ bound)
    left_is bound =
        ap (λ (k : ℕ). pos (k ^ n) *ℤ bound) (stakes_are side own reply)
        ∙ ap (λ (x : ℕ). pos ((own.total * reply.total * x) ^ n) *ℤ bound) (sym is)
        ∙ power_apart (own.total * reply.total) c n bound

    sum_is : (x : Side) → expected m (plan_of_one x own reply) (plan_of_two x own reply) n m.root [] ≡ pos (c ^ n) *ℤ plain_sum_of m x (without_draws own) (without_draws reply) n m.root []
    sum_is One = sums own reply c n m.root [] is (reachable_root m)
    sum_is Two = sums reply own c n m.root [] is (reachable_root m)

    right_is : pos bound_scale *ℤ expected m (plan_of_one side own reply) (plan_of_two side own reply) n m.root []
        ≡ pos (c ^ n) *ℤ (pos bound_scale *ℤ plain_sum_of m side (without_draws own) (without_draws reply) n m.root [])
    right_is = ap (λ (x : ℤ). pos bound_scale *ℤ x) (sum_is side) ∙ times_swap bound_scale (c ^ n) _

    to_plain : (bound : ℤ) → IsNoTighter side (pos (whole (plan_of_one side own reply) (plan_of_two side own reply) ^ n) *ℤ bound)
        (pos bound_scale *ℤ expected m (plan_of_one side own reply) (plan_of_two side own reply) n m.root [])
        → IsNoTighter side (pos ((own.total * reply.total) ^ n) *ℤ bound) (pos bound_scale *ℤ plain_sum_of m side (without_draws own) (without_draws reply) n m.root [])
    to_plain bound h = looser_cancel side (c ^ n) _ _ (one-le-pow n c (omega (arith, is))) (looser_left side _ _ _ (left_is bound) (looser_right side _ _ _ right_is h))

    from_plain : (bound : ℤ) → IsNoTighter side (pos ((own.total * reply.total) ^ n) *ℤ bound) (pos bound_scale *ℤ plain_sum_of m side (without_draws own) (without_draws reply) n m.root [])
        → IsNoTighter side (pos (whole (plan_of_one side own reply) (plan_of_two side own reply) ^ n) *ℤ bound)
        (pos bound_scale *ℤ expected m (plan_of_one side own reply) (plan_of_two side own reply) n m.root [])
    from_plain bound h = looser_left side _ _ _ (sym (left_is bound)) (looser_right side _ _ _ (sym right_is) (looser_times side (c ^ n) _ _ h))

  pub plain_plans : (c : ℕ) → c ≡ whole_chance → HasPlainPlans m
  plain_plans c is = record {
    each = plan_back;
    plays = plays;
    sums = λ one two turns s k r. sums one two c turns s k is r ∙ ap (λ (x : ℕ). pos (x ^ turns) *ℤ plain one two turns s k) is;
    guarantees = λ side plan bound. (
      λ g. record {
        some = g.some;
        against = λ reply some. rw (← plan_back reply) (to_plain c is side plan (with_draws reply) bound (g.against (with_draws reply) some));
      },
      λ g. record { some = g.some; against = λ reply some. from_plain c is side plan reply bound (g.against (without_draws reply) some) },
    );
  }
