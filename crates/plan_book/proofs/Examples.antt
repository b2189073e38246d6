-- The definitions on small games, computed.
use Rattle.std.proofs.Common.{◌≡◌, ℕ, zero, suc, ◌+◌, ◌*◌, ℤ, pos, neg_ℤ, true, false, List, [], ◌∷◌, Some, refl}
use Rattle.sim_game.specs.declared.Side.TheVariants.{One, Two}
use Rattle.sim_game.specs.Model.{GameModel}
use Rattle.plan_book.specs.declared.Entry.{Entry}
use Rattle.plan_book.specs.Books.{best_row}
use Rattle.plan_book.specs.Expected.{expected, whole}
use Rattle.plan_book.specs.Plans.{Plan, AtKey, AtHistory, weights_at}
use Rattle.plan_book.specs.PlainBounds.{plain_value}
use Rattle.plan_book.specs.PlainGames.{plain_size}
use Rattle.plan_book.specs.PlainPlans.{OfMoves, plain_sum, without_draws}
use Rattle.plan_book.specs.Serial.{serial_bound, tree_size}
use Rattle.plan_book.specs.Sheets.{bound_at}
use Rattle.sim_game.specs.Sides.{over_turns}
use Rattle.plan_book.specs.Steps.{worth}

-- ---- one stage with payoffs -1, 0 / 0, -1
abbrev at_root : ℕ → ℕ → ℕ
at_root at zero = at
at_root at (suc s) = 0

abbrev stage_payoff : ℕ → ℤ
stage_payoff zero = pos 0
stage_payoff (suc zero) = neg_ℤ (pos 1)
stage_payoff (suc (suc zero)) = pos 0
stage_payoff (suc (suc (suc zero))) = pos 0
stage_payoff (suc (suc (suc (suc s)))) = neg_ℤ (pos 1)

abbrev stage : GameModel ℕ
stage = record {
  root = 0;
  moves = λ side s. at_root 2 s;
  draws = λ s a b. 1;
  chance = λ s a b d. 360360;
  drawn = λ s a b d. 1 + 2 * a + b;
  payoff = stage_payoff;
  reward = λ s a b d. pos 0;
  least = λ s. neg_ℤ (pos 1);
  most = λ s. pos 0;
  rank = at_root 1;
  key = λ s. s;
  label = λ side s i. i;
  low = neg_ℤ (pos 1);
  high = pos 0;
  width = 2;
  chance_free = true;
}

abbrev even : Plan
even = record { total = 2; rows = record { place = AtKey 0; weights = 1 ∷ 1 ∷ [] } ∷ [] }

-- a plan with no row for the state plays the first move
abbrev first : Plan
first = record { total = 3; rows = record { place = AtKey 7; weights = 1 ∷ 2 ∷ [] } ∷ record { place = AtHistory []; weights = 1 ∷ 1 ∷ [] } ∷ [] }

first_weights : weights_at stage One first 0 [] ≡ 3 ∷ 0 ∷ []
first_weights = refl

-- -1 and 0, each two times
even_expected : expected stage even even 1 0 [] ≡ neg_ℤ (pos (2 * 360360))
even_expected = refl

even_whole : whole even even ≡ 4 * 360360
even_whole = refl

mixed_expected : expected stage first even 1 0 [] ≡ neg_ℤ (pos (3 * 360360))
mixed_expected = refl

-- one more turn than the rank counts the end's payoff times the whole once more
longer_expected : expected stage even even 2 0 [] ≡ neg_ℤ (pos (2 * 360360 * (4 * 360360)))
longer_expected = refl

serial_one : serial_bound stage One 0 ≡ neg_ℤ (pos 1000000)
serial_one = refl

serial_two : serial_bound stage Two 0 ≡ pos 0
serial_two = refl

stage_size : tree_size stage 0 ≡ 5
stage_size = refl

even_worth : worth stage One 0 (1 ∷ 1 ∷ []) (over_turns stage One 0 (bound_at stage One [])) 0 ≡ neg_ℤ (pos 1000000)
even_worth = refl

abbrev wheel_payoff : ℕ → ℤ
wheel_payoff zero = pos 0
wheel_payoff (suc zero) = pos 1
wheel_payoff (suc (suc s)) = pos 0

-- ---- one pair of moves with three draws, of payoffs 1, 0 and 0
abbrev wheel : GameModel ℕ
wheel = record {
  root = 0;
  moves = λ side s. at_root 1 s;
  draws = λ s a b. 3;
  chance = λ s a b d. 120120;
  drawn = λ s a b d. 1 + d;
  payoff = wheel_payoff;
  reward = λ s a b d. pos 0;
  least = λ s. pos 0;
  most = λ s. pos 1;
  rank = at_root 1;
  key = λ s. s;
  label = λ side s i. i;
  low = pos 0;
  high = pos 1;
  width = 1;
  chance_free = false;
}

-- a lower bound is rounded down, and an upper bound up
wheel_one : serial_bound wheel One 0 ≡ pos 333333
wheel_one = refl

wheel_two : serial_bound wheel Two 0 ≡ pos 333334
wheel_two = refl

wheel_expected : expected wheel even first 1 0 [] ≡ pos (2 * 3 * 120120)
wheel_expected = refl

wheel_size : tree_size wheel 0 ≡ 4
wheel_size = refl

-- ---- two turns with one move a side, which pay 2 and -1, and an end that pays 3
abbrev by_turn : {X : Type 0} → X → X → X → ℕ → X
by_turn x y z zero = x
by_turn x y z (suc zero) = y
by_turn x y z (suc (suc s)) = z

abbrev tolls : GameModel ℕ
tolls = record {
  root = 0;
  moves = λ side s. by_turn 1 1 0 s;
  draws = λ s a b. 1;
  chance = λ s a b d. 360360;
  drawn = λ s a b d. 1 + s;
  payoff = λ s. pos 3;
  reward = λ s a b d. by_turn (pos 2) (neg_ℤ (pos 1)) (pos 0) s;
  least = by_turn (pos 4) (pos 2) (pos 3);
  most = by_turn (pos 4) (pos 2) (pos 3);
  rank = by_turn 2 1 0;
  key = λ s. s;
  label = λ side s i. i;
  low = pos 2;
  high = pos 4;
  width = 1;
  chance_free = true;
}

tolls_expected : expected tolls even first 2 0 [] ≡ pos (4 * (2 * 3 * 360360 * (2 * 3 * 360360)))
tolls_expected = refl

plain_tolls : plain_sum tolls (without_draws even) (without_draws first) 2 0 [] ≡ pos (4 * (6 * 6))
plain_tolls = refl

tolls_serial : serial_bound tolls Two 0 ≡ pos 4000000
tolls_serial = refl

tolls_value : plain_value tolls One 0 ≡ pos 4
tolls_value = refl

-- ---- the stage without draws
-- a row for a history in which another draw was made is dropped
abbrev late : Plan
late =
    record {
      total = 2;
      rows = record {
        place =
            AtHistory (record { one = 0; two = 0; draw = 1 } ∷ []);
        weights = 2 ∷ [];
      } ∷ record { place = AtHistory (record { one = 0; two = 1; draw = 0 } ∷ []); weights = 1 ∷ 1 ∷ [] } ∷ [];
    }

late_without : without_draws late ≡ record { total = 2; rows = record { place = OfMoves (record { one = 0; two = 1 } ∷ []); weights = 1 ∷ 1 ∷ [] } ∷ [] }
late_without = refl

plain_stage : plain_sum stage (without_draws first) (without_draws even) 1 0 [] ≡ neg_ℤ (pos 3)
plain_stage = refl

plain_one : plain_value stage One 0 ≡ neg_ℤ (pos 1)
plain_one = refl

plain_nodes : plain_size stage 0 ≡ 5
plain_nodes = refl

-- ---- entries
abbrev entry : ℤ → List ℕ → Entry
entry bound weights = record { key = 0; side = One; bound = bound; weights = weights }

-- the first of the tightest bound
best_first : best_row One (entry (pos 1) (1 ∷ 0 ∷ []) ∷ entry (pos 2) (2 ∷ 0 ∷ []) ∷ entry (pos 2) (3 ∷ 0 ∷ []) ∷ entry (pos 1) (4 ∷ 0 ∷ []) ∷ []) 0
    ≡ Some (record { key = 0; bound = pos 2; weights = 2 ∷ 0 ∷ [] })
best_first = refl
