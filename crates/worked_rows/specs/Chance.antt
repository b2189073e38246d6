-- A game of one turn with one move a side and three draws.
use Rattle.std.proofs.Common.{◌≡◌, ℕ, ◌≤◌, ℤ, pos, ◌≤ℤ◌, true, false, nat_eq, if◌then◌else◌, refl, sym, ap, ◌∙◌, arith}
use Rattle.std.proofs.lemmas.Int.{ints}
use Rattle.sim_game.specs.Model.{GameModel, IsGame}
use Rattle.worked_rows.specs.declared.chance.Place.{Place}
use Rattle.worked_rows.specs.declared.chance.Place.TheVariants.{Root, First, Second, Third}

-- how many turns are left, which is also how many moves each side has
abbrev pub left : Place → ℕ
left Root = 1
left First = 0
left Second = 0
left Third = 0

abbrev pub pays : Place → ℤ
pays Root = pos 0
pays First = pos 1
pays Second = pos 0
pays Third = pos 0

abbrev pub number : Place → ℕ
number Root = 0
number First = 1
number Second = 2
number Third = 3

abbrev pub place_after : ℕ → Place
place_after draw = if nat_eq draw 0 then First else if nat_eq draw 1 then Second else Third

abbrev pub one_in_three : GameModel Place
one_in_three = record {
  root = Root;
  moves = λ side s. left s;
  draws = λ s one two. 3;
  chance = λ s one two draw. 120120;
  drawn = λ s one two draw. place_after draw;
  payoff = pays;
  reward = λ s one two draw. pos 0;
  least = λ s. pos 0;
  most = λ s. pos 1;
  rank = left;
  key = number;
  label = λ side s i. 0;
  low = pos 0;
  high = pos 1;
  width = 1;
  chance_free = false;
}

-- ---- its laws
few_left : (s : Place) → left s ≤ 1
few_left Root = omega arith
few_left First = omega arith
few_left Second = omega arith
few_left Third = omega arith

none_left : (draw : ℕ) → left (place_after draw) ≡ 0
none_left draw = elim (nat_eq draw 0) as (λ b. left (if b then First else if nat_eq draw 1 then Second else Third) ≡ 0) [
  | true ↦ refl
  | false ↦ elim (nat_eq draw 1) as (λ b. left (if b then Second else Third) ≡ 0) [
    | true ↦ refl
    | false ↦ refl
  ]
]

pays_low : (s : Place) → pos 0 ≤ℤ pays s
pays_low Root = omega (arith, ints)
pays_low First = omega (arith, ints)
pays_low Second = omega (arith, ints)
pays_low Third = omega (arith, ints)

pays_high : (s : Place) → pays s ≤ℤ pos 1
pays_high Root = omega (arith, ints)
pays_high First = omega (arith, ints)
pays_high Second = omega (arith, ints)
pays_high Third = omega (arith, ints)

abbrev place_of : ℕ → Place
place_of n = if nat_eq n 0 then Root else if nat_eq n 1 then First else if nat_eq n 2 then Second else Third

number_back : (s : Place) → place_of (number s) ≡ s
number_back Root = refl
number_back First = refl
number_back Second = refl
number_back Third = refl

small_number : (s : Place) → number s ≤ 3
small_number Root = omega arith
small_number First = omega arith
small_number Second = omega arith
small_number Third = omega arith

pub one_in_three_is_game : IsGame one_in_three
one_in_three_is_game = record {
  width_low = omega arith;
  width_high = omega arith;
  low_least = omega (arith, ints);
  low_high = omega (arith, ints);
  high_most = omega (arith, ints);
  end_moves = λ side s r h. h;
  other_moves = λ side s r h. h;
  moves_high = λ side s r. few_left s;
  rank_high = λ s r. omega (arith, few_left s);
  rank_falls = λ s t r turn. omega (arith, none_left t.draw, turn.one_below);
  least_low = λ s r. omega (arith, ints);
  most_high = λ s r. omega (arith, ints);
  payoff_low = λ s r h. pays_low s;
  payoff_high = λ s r h. pays_high s;
  reward_low = λ s t r turn. omega (arith, ints);
  reward_high = λ s t r turn. omega (arith, ints);
  same_key = λ s t r r' e. sym (number_back s) ∙ ap place_of e ∙ number_back t;
  key_high = λ s r. omega (arith, small_number s);
  draws_low = λ s a b r h h'. omega arith;
  draws_high = λ s a b r h h'. omega arith;
  chance_low = λ s t r h. omega arith;
  chance_sum = λ s a b r h h'. refl;
  one_draw = λ s a b h r h' h''. absurd (cc);
}
