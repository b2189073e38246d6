-- More rounds never make One's serial bound worse.
use Rattle.std.proofs.Common.{◌≡◌, ℕ, zero, suc, ◌-◌, ◌≤◌, ℤ, pos, neg_ℤ, ◌+ℤ◌, ◌*ℤ◌, ◌≤ℤ◌, Bool, true, false, cond, List, length, get_or, refl, sym, ap, subst, ◌∙◌, inl, inr, arith}
use Rattle.std.proofs.lemmas.Bool.{cases_Bool, cases_eq, eq-eqb, ne_eqb}
use Rattle.std.proofs.lemmas.Int.{ints, clamps}
use Rattle.sums.proofs.IntegerLemmas.{int_le_refl}
use Rattle.sim_game.specs.declared.Side.{Side}
use Rattle.sim_game.specs.declared.Side.TheVariants.{One, Two}
use Rattle.sim_game.specs.Sides.{better, end_bound, child_of, over_turns}
use Rattle.plan_book.specs.Serial.{best_upto, serial_within, serial_bound}
use Rattle.plan_book.specs.Steps.{cell}
use Rattle.plan_book.proofs.StepLemmas.{cell_mono, rounded_tightest}
use Rattle.pursuit.specs.declared.Setting.{Setting}
use Rattle.pursuit.specs.declared.State.{State}
use Rattle.pursuit.specs.laws.Game.{chase_not_over, open_ways, rank_below, rank_now}
use Rattle.pursuit.specs.Rules.{Graph, after_round, pursuit_root, game_from, graph_from, graph_of, node_of, pursuit_game, pursuit_rank, reach, ways, HasMoreRounds, IsLongerChase}

-- ---- the best of numbers
better_mono : (side : Side) (x y z w : ℤ) → x ≤ℤ z → y ≤ℤ w → better side x y ≤ℤ better side z w
better_mono One x y z w p q = omega (arith, ints, clamps)
better_mono Two x y z w p q = omega (arith, ints, clamps)

upto_mono : (side : Side) (last : ℕ) (f g : ℕ → ℤ) → ((i : ℕ) → f i ≤ℤ g i) → best_upto side last f ≤ℤ best_upto side last g
upto_mono side zero f g h = h 0
upto_mono side (suc last) f g h = better_mono side _ _ _ _ (upto_mono side last f g h) (h (suc last))

better_least : (side : Side) (x y low : ℤ) → low ≤ℤ x → low ≤ℤ y → low ≤ℤ better side x y
better_least One x y low p q = omega (arith, ints, clamps)
better_least Two x y low p q = omega (arith, ints, clamps)

upto_least : (side : Side) (last : ℕ) (f : ℕ → ℤ) (low : ℤ) → ((i : ℕ) → low ≤ℤ f i) → low ≤ℤ best_upto side last f
upto_least side zero f low h = h 0
upto_least side (suc last) f low h = better_least side _ _ low (upto_least side last f low h) (h (suc last))

-- ---- states that differ in rounds
abbrev least : ℤ
least = neg_ℤ (pos 1000000)

end_least : (caught : Bool) → least ≤ℤ (pos 1000000 *ℤ cond caught (pos 1) (neg_ℤ (pos 1)))
end_least true = omega (arith, ints)
end_least false = omega (arith, ints)

rank_more : (caught : Bool) (few many : ℕ) → few ≤ many → cond caught 0 few ≤ cond caught 0 many
rank_more true few many h = omega arith
rank_more false few many h = h

more_rank : (s t : State) → HasMoreRounds s t → pursuit_rank s ≤ pursuit_rank t
more_rank s t more = subst (λ (b : Bool). pursuit_rank s ≤ cond b 0 t.rounds) more.caught (rank_more s.caught s.rounds t.rounds more.rounds)

same_node : (side : Side) (s t : State) → HasMoreRounds s t → node_of side s ≡ node_of side t
same_node One s t more = more.one
same_node Two s t more = more.two

more_after : (s t : State) (one two : ℕ) → HasMoreRounds s t → HasMoreRounds (after_round s one two) (after_round t one two)
more_after s t one two more = record {
  one = refl;
  two = refl;
  caught = rw (more.one, more.two) refl;
  rounds = let rounds = more.rounds in omega arith;
}

no_reward : (x y : ℤ) → x ≤ℤ y → (pos 1000000 *ℤ pos 0 +ℤ x) ≤ℤ (pos 1000000 *ℤ pos 0 +ℤ y)
no_reward x y h = omega (arith, ints)

-- ---- serial bounds on one graph
module _ (r : Graph) where
  abbrev within : State → ℕ → State → ℤ
  within first turns s = serial_within (game_from r first) One turns s

  -- the best against the best reply, of so many moves
  abbrev stepped : State → ℕ → State → ℕ → ℕ → ℤ
  stepped first turns s one two =
      best_upto One one (λ own. best_upto Two two (λ reply. cell (game_from r first) One s (over_turns (game_from r first) One s (within first turns)) own reply))

  within_end : (first : State) (turns : ℕ) (s : State) → pursuit_rank s ≡ 0 → within first turns s ≡ end_bound (game_from r first) s
  within_end first zero s h = refl
  within_end first (suc turns) s h = rw (eq-eqb (pursuit_rank s) 0 h) refl

  within_step : (first : State) (turns : ℕ) (s : State) → 1 ≤ pursuit_rank s → within first (suc turns) s ≡ stepped first turns s (length (ways r One s) - 1) (length (ways r Two s) - 1)
  within_step first turns s h = rw (ne_eqb (pursuit_rank s) 0 (λ none. absurd (omega arith))) refl

  cell_least : (first s : State) (numbers : ℕ → ℕ → ℕ → ℤ) (own reply : ℕ) → least ≤ℤ numbers own reply 0 → least ≤ℤ cell (game_from r first) One s numbers own reply
  cell_least first s numbers own reply h = rounded_tightest One _ least (omega (arith, ints))

  within_least : (first : State) (turns : ℕ) (s : State) → least ≤ℤ within first turns s
  within_least first zero s = end_least s.caught
  within_least first (suc turns) s = elim (cases_eq (pursuit_rank s) 0) [
    | inl stop ↦ rw (within_end first (suc turns) s stop) (end_least s.caught)
    | inr on ↦ rw (within_step first turns s (omega arith))
        (upto_least One (length (ways r One s) - 1) _ least (λ own. upto_least Two (length (ways r Two s) - 1) _ least (λ reply.
        cell_least first s (over_turns (game_from r first) One s (within first turns)) own reply
        (omega (arith, ints, within_least first turns (child_of (game_from r first) One s own reply 0))))))
  ]

  same_ways : (side : Side) (s t : State) → HasMoreRounds s t → 1 ≤ pursuit_rank s → ways r side s ≡ ways r side t
  same_ways side s t more h =
      open_ways r side s (chase_not_over s.caught s.rounds h) ∙ ap (reach r) (same_node side s t more)
      ∙ sym (open_ways r side t (chase_not_over t.caught t.rounds (omega (arith, more_rank s t more))))

  more_child : (first last s t : State) (own reply draw : ℕ) → HasMoreRounds s t → 1 ≤ pursuit_rank s
      → HasMoreRounds (child_of (game_from r first) One s own reply draw) (child_of (game_from r last) One t own reply draw)
  more_child first last s t own reply draw more h =
      let goes : List ℕ → List ℕ → State = λ xs ys. after_round t (get_or xs own 0) (get_or ys reply 0) in
      let e : goes (ways r One s) (ways r Two s) ≡ goes (ways r One t) (ways r Two t) =
      ap (λ (xs : List ℕ). goes xs (ways r Two s)) (same_ways One s t more h) ∙ ap (goes (ways r One t)) (same_ways Two s t more h) in
      subst (HasMoreRounds (child_of (game_from r first) One s own reply draw)) e (more_after s t (get_or (ways r One s) own 0) (get_or (ways r Two s) reply 0) more)

  -- at an end, or where the other has no rounds left
  more_end : (first last : State) (n k : ℕ) (s t : State) → HasMoreRounds s t → pursuit_rank s ≡ 0 → within first n s ≤ℤ within last k t
  more_end first last n k s t more h = elim (cases_Bool s.caught) [
    | inl caught ↦
        let there : t.caught ≡ true = sym more.caught ∙ caught in
        let none : pursuit_rank t ≡ 0 = rw there refl in
        rw (within_end first n s h, within_end last k t none, caught, there) (int_le_refl _)
    | inr free ↦ rw (within_end first n s h, free) (within_least last k t)
  ]

  child_rank : (first s : State) (own reply draw n : ℕ) → 1 ≤ pursuit_rank s → pursuit_rank s ≤ suc n → pursuit_rank (child_of (game_from r first) One s own reply draw) ≤ n
  child_rank first s own reply draw n h l =
      let next : State = child_of (game_from r first) One s own reply draw in
      rank_below next.caught next.rounds n (omega (arith, (rank_now s.caught s.rounds (chase_not_over s.caught s.rounds h)).0))

  pub more_within : (first last : State) (n k : ℕ) (s t : State) → HasMoreRounds s t → pursuit_rank s ≤ n → pursuit_rank t ≤ k → within first n s ≤ℤ within last k t
  more_within first last zero k s t more p q = more_end first last zero k s t more (omega arith)
  more_within first last (suc n) zero s t more p q = more_end first last (suc n) zero s t more (omega (arith, more_rank s t more))
  more_within first last (suc n) (suc k) s t more p q = elim (cases_eq (pursuit_rank s) 0) [
    | inl stop ↦ more_end first last (suc n) (suc k) s t more stop
    | inr on ↦
        let some : 1 ≤ pursuit_rank s = omega arith in
        let also : 1 ≤ pursuit_rank t = omega (arith, more_rank s t more) in
        let one = length (ways r One s) - 1 in
        let two = length (ways r Two s) - 1 in
        let counts : stepped last k t (length (ways r One t) - 1) (length (ways r Two t) - 1) ≡ stepped last k t one two =
        sym (ap (λ (ys : List ℕ). stepped last k t one (length ys - 1)) (same_ways Two s t more some)
        ∙ ap (λ (xs : List ℕ). stepped last k t (length xs - 1) (length (ways r Two t) - 1)) (same_ways One s t more some)) in
        let later : within last (suc k) t ≡ stepped last k t one two = within_step last k t also ∙ counts in
        rw (within_step first n s some, later)
        (upto_mono One one _ _ (λ own. upto_mono Two two _ _ (λ reply.
        cell_mono (game_from r first) One s (over_turns (game_from r first) One s (within first n)) (over_turns (game_from r last) One t (within last k)) own reply
        (λ d u. no_reward _ _ (more_within first last n k _ _ (more_child first last s t own reply d more some) (child_rank first s own reply d n some p) (child_rank last t own reply d k also q))))))
  ]

  pub more_bound : (first last s t : State) → HasMoreRounds s t → serial_bound (game_from r first) One s ≤ℤ serial_bound (game_from r last) One t
  more_bound first last s t more = more_within first last (pursuit_rank s) (pursuit_rank t) s t more (omega arith) (omega arith)

pub longer_bound : (few many : Setting) → IsLongerChase few many → serial_bound (pursuit_game few) One (pursuit_root few) ≤ℤ serial_bound (pursuit_game many) One (pursuit_root many)
longer_bound few many longer =
    let graph : graph_of few ≡ graph_of many = ap (λ (n : ℕ). graph_from n few.neighbours) longer.nodes ∙ ap (graph_from many.nodes) longer.neighbours in
    let more : HasMoreRounds (pursuit_root few) (pursuit_root many) = record { one = longer.one; two = longer.two; caught = rw (longer.one, longer.two) refl; rounds = longer.rounds } in
    subst (λ (r : Graph). serial_bound (pursuit_game few) One (pursuit_root few) ≤ℤ serial_bound (game_from r (pursuit_root many)) One (pursuit_root many)) graph
    (more_bound (graph_of few) (pursuit_root few) (pursuit_root many) (pursuit_root few) (pursuit_root many) more)
