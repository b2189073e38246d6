-- Goofspiel whose prizes are paid when they are won has the serial bounds of that which pays the score at an end.
use Rattle.std.proofs.Common.{◌≡◌, ℕ, zero, suc, ◌-◌, ◌<◌, ◌≤◌, ℤ, pos, ◌+ℤ◌, ◌-ℤ◌, ◌*ℤ◌, Bool, true, false, cond, nat_eq, refl, ap, ap₂, ◌∙◌, arith}
use Rattle.std.proofs.lemmas.Int.{ints, clamps}
use Rattle.sums.specs.Sums.{sum_below, count_below}
use Rattle.sums.specs.Quotients.{floor_quotient, ceiling_quotient}
use Rattle.sums.proofs.IntegerLemmas.{times_floor, floor_greatest, times_ceiling, ceiling_least, times_add}
use Rattle.sums.proofs.SumLemmas.{sum_same, sum_add, sum_weights}
use Rattle.sim_game.specs.declared.Side.{Side}
use Rattle.sim_game.specs.declared.Side.TheVariants.{One, Two}
use Rattle.sim_game.specs.Model.{GameModel, IsGame, Reachable, bound_scale, whole_chance}
use Rattle.sim_game.specs.Sides.{other_side, better, end_bound, move_of_one, move_of_two, turn_of, draws_of, chance_of, child_of, over_turns}
use Rattle.sim_game.proofs.ReachLemmas.{reachable_root, reachable_turn}
use Rattle.sim_game.proofs.SideLemmas.{side_turn}
use Rattle.plan_book.specs.Serial.{best_upto, serial_within, serial_bound}
use Rattle.plan_book.specs.Steps.{rounded, cell}
use Rattle.goofspiel.specs.declared.Pay.{Pay}
use Rattle.goofspiel.specs.declared.Pay.TheVariants.{Margin, Prizes}
use Rattle.goofspiel.specs.declared.Setting.{Setting}
use Rattle.goofspiel.specs.laws.Drawn.{drawn_is_game}
use Rattle.goofspiel.specs.DrawnRules.{drawn_game}
use Rattle.goofspiel.specs.laws.Game.{goofspiel_is_game}
use Rattle.goofspiel.specs.Position.{IsPosition}
use Rattle.goofspiel.specs.Rules.{goofspiel_game}
use Rattle.goofspiel.specs.SameTree.{with_pay, HasSameSerialBounds}
use Rattle.goofspiel.proofs.TreeLemmas.{IsAlike, HasSameHands, HasSameDeal, known_alike, drawn_alike}

-- ---- numbers that are higher by a constant
better_shift : (side : Side) (c x y : ℤ) → better side (c +ℤ x) (c +ℤ y) ≡ c +ℤ better side x y
better_shift One c x y = omega (arith, ints, clamps)
better_shift Two c x y = omega (arith, ints, clamps)

best_shift : (side : Side) (last : ℕ) (f g : ℕ → ℤ) (c : ℤ) → ((i : ℕ) → i ≤ last → f i ≡ c +ℤ g i) → best_upto side last f ≡ c +ℤ best_upto side last g
best_shift side zero f g c h = h 0 (omega arith)
best_shift side (suc last) f g c h =
    ap₂ (better side) (best_shift side last f g c (λ i l. h i (omega (arith, l)))) (h (suc last) (omega arith)) ∙ better_shift side c (best_upto side last g) (g (suc last))

rounded_shift : (side : Side) (c x : ℤ) → rounded side (pos whole_chance *ℤ c +ℤ x) ≡ c +ℤ rounded side x
rounded_shift One c x =
    let y = pos whole_chance *ℤ c +ℤ x in
    let a = times_floor whole_chance x (omega arith) in
    let b = times_floor whole_chance y (omega arith) in
    let up = floor_greatest whole_chance y (c +ℤ floor_quotient whole_chance x) (omega arith) (omega (arith, ints, a)) in
    let down = floor_greatest whole_chance x (floor_quotient whole_chance y -ℤ c) (omega arith) (omega (arith, ints, b)) in
    omega (arith, ints, up, down)
rounded_shift Two c x =
    let y = pos whole_chance *ℤ c +ℤ x in
    let a = times_ceiling whole_chance x (omega arith) in
    let b = times_ceiling whole_chance y (omega arith) in
    let up = ceiling_least whole_chance y (c +ℤ ceiling_quotient whole_chance x) (omega arith) (omega (arith, ints, a)) in
    let down = ceiling_least whole_chance x (ceiling_quotient whole_chance y -ℤ c) (omega arith) (omega (arith, ints, b)) in
    omega (arith, ints, up, down)

cond_shift : (b : Bool) (c x y x' y' : ℤ) → x ≡ c +ℤ x' → (b ≡ false → y ≡ c +ℤ y') → cond b x y ≡ c +ℤ cond b x' y'
cond_shift true c x y x' y' p q = p
cond_shift false c x y x' y' p q = q refl

some_rank : (k : ℕ) → nat_eq k 0 ≡ false → 1 ≤ k
some_rank zero e = absurd (cc)
some_rank (suc k) e = omega arith

module _ {S T : Type 0} (m : GameModel S) (n : GameModel T) (alike : S → T → ℤ → Type 0) (same : IsAlike m n alike) (game : IsGame n) where
  whole_sum : (side : Side) (t : T) (own reply : ℕ) → Reachable n t → own < n.moves side t → reply < n.moves (other_side side) t
      → count_below (draws_of n side t own reply) (chance_of n side t own reply) ≡ whole_chance
  whole_sum One t own reply r p q = game.chance_sum t own reply r p q
  whole_sum Two t own reply r p q = game.chance_sum t reply own r q p

  cell_shift : (side : Side) (s : S) (t : T) (more c : ℤ) (own reply : ℕ) (f g : ℕ → ℕ → ℕ → ℤ) → alike s t more → Reachable n t
      → own < n.moves side t → reply < n.moves (other_side side) t → ((d : ℕ) → d < draws_of n side t own reply → f own reply d ≡ c +ℤ g own reply d)
      → cell m side s f own reply ≡ c +ℤ cell n side t g own reply
  cell_shift side s t more c own reply f g r reached p q h =
      let one = move_of_one side own reply in
      let two = move_of_two side own reply in
      let weight = λ (d : ℕ). n.chance t one two d in
      let rest = sum_below (n.draws t one two) (λ d. pos (weight d) *ℤ g own reply d) in
      let draws = ap (λ (k : ℕ). sum_below k (λ d. pos (m.chance s one two d) *ℤ f own reply d)) (same.draws s t more r one two) in
      let parts = sum_same (n.draws t one two) (λ d. pos (m.chance s one two d) *ℤ f own reply d) (λ d. pos (weight d) *ℤ c +ℤ pos (weight d) *ℤ g own reply d)
      (λ d l. ap₂ (λ (k : ℕ) (x : ℤ). pos k *ℤ x) (same.chance s t more r one two d) (h d l) ∙ times_add (weight d) c (g own reply d)) in
      let whole = sum_weights (n.draws t one two) weight c ∙ ap (λ (k : ℕ). pos k *ℤ c) (whole_sum side t own reply reached p q) in
      let sum = draws ∙ parts ∙ sum_add (n.draws t one two) (λ d. pos (weight d) *ℤ c) (λ d. pos (weight d) *ℤ g own reply d) ∙ ap (λ (x : ℤ). x +ℤ rest) whole in
      ap (rounded side) sum ∙ rounded_shift side c rest

  pub serial_alike : (side : Side) (turns : ℕ) (s : S) (t : T) (more : ℤ) → alike s t more → Reachable n t
      → serial_within m side turns s ≡ pos bound_scale *ℤ more +ℤ serial_within n side turns t
  serial_alike side zero s t more r reached = let pay = same.payoff s t more r in omega (arith, ints, pay)
  serial_alike side (suc turns) s t more r reached =
      let c = pos bound_scale *ℤ more in
      let f : ℕ → ℕ → ℕ → ℤ = over_turns m side s (λ u. serial_within m side turns u) in
      let g : ℕ → ℕ → ℕ → ℤ = over_turns n side t (λ u. serial_within n side turns u) in
      ap (λ (k : ℕ). cond (nat_eq k 0) (end_bound m s)
      (best_upto side (m.moves side s - 1) (λ own. best_upto (other_side side) (m.moves (other_side side) s - 1) (λ reply. cell m side s f own reply)))) (same.rank s t more r)
      ∙ cond_shift (nat_eq (n.rank t) 0) c _ _ _ _ (let pay = same.payoff s t more r in omega (arith, ints, pay)) (λ on.
      let goes = some_rank (n.rank t) on in
      let some = game.other_moves side t reached goes in
      let others = game.other_moves (other_side side) t reached goes in
      ap (λ (k : ℕ). best_upto side (k - 1) (λ own. best_upto (other_side side) (m.moves (other_side side) s - 1) (λ reply. cell m side s f own reply))) (same.moves s t more r side)
      ∙ best_shift side (n.moves side t - 1) _ (λ own. best_upto (other_side side) (n.moves (other_side side) t - 1) (λ reply. cell n side t g own reply)) c (λ own l.
      ap (λ (k : ℕ). best_upto (other_side side) (k - 1) (λ reply. cell m side s f own reply)) (same.moves s t more r (other_side side))
      ∙ best_shift (other_side side) (n.moves (other_side side) t - 1) _ (λ reply. cell n side t g own reply) c (λ reply l'.
      let p : own < n.moves side t = omega (arith, l, some) in
      let q : reply < n.moves (other_side side) t = omega (arith, l', others) in
      cell_shift side s t more c own reply f g r reached p q (λ d u.
      let next = serial_alike side turns (child_of m side s own reply d) (child_of n side t own reply d) _ (same.turn s t more r (turn_of side own reply d))
      (reachable_turn n t (turn_of side own reply d) reached (side_turn n side t own reply d p q u)) in
      omega (arith, ints, next)))))

  pub serial_same : (side : Side) → serial_bound m side m.root ≡ serial_bound n side n.root
  serial_same side =
      let start = same.root in
      let e = serial_alike side (n.rank n.root) m.root n.root (pos 0) start (reachable_root n) in
      ap (λ (k : ℕ). serial_within m side k m.root) (same.rank m.root n.root (pos 0) start) ∙ omega (arith, ints, e)

-- ---- both games
other_pay : (pay : Pay) (g : Setting) → IsPosition g → IsPosition (with_pay pay g)
other_pay pay g p = record {
  one_small = p.one_small;
  two_small = p.two_small;
  one_count = p.one_count;
  two_count = p.two_count;
  prize_count = p.prize_count;
  prize_high = p.prize_high;
  score_small = p.score_small;
}

pub known_serial : (g : Setting) → IsPosition g → HasSameSerialBounds (goofspiel_game (with_pay Margin g)) (goofspiel_game (with_pay Prizes g))
known_serial g p = serial_same (goofspiel_game (with_pay Margin g)) (goofspiel_game (with_pay Prizes g)) HasSameHands (known_alike g) (goofspiel_is_game (with_pay Prizes g) (other_pay Prizes g p))

pub drawn_serial : (g : Setting) → IsPosition g → HasSameSerialBounds (drawn_game (with_pay Margin g)) (drawn_game (with_pay Prizes g))
drawn_serial g p = serial_same (drawn_game (with_pay Margin g)) (drawn_game (with_pay Prizes g)) HasSameDeal (drawn_alike g) (drawn_is_game (with_pay Prizes g) (other_pay Prizes g p))
