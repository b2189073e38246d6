-- A row of three cells with the heads at its ends, a row of four with the heads side by side, and first faults, computed by hand.
use Rattle.std.proofs.Common.{◌≡◌, true, [], ◌∷◌, pos, neg_ℤ, None, Some, refl}
use Rattle.sim_game.specs.declared.Side.TheVariants.{One, Two}
use Rattle.tron.specs.declared.Direction.TheVariants.{North, East, South, West}
use Rattle.tron.specs.declared.Setting.{Setting}
use Rattle.tron.specs.declared.TronError.TheVariants.{GridRange, CellRange, HeadInWall, HeadsMeet}
use Rattle.tron.specs.Position.{first_fault}
use Rattle.tron.specs.Rules.{Arena, arena_of_trails, first_trails, after_moves, is_over, tron_key, open_directions, tron_payoff, tron_rank, ways_of}

abbrev row_of_three : Setting
row_of_three = record { height = 1; width = 3; taken = 5; one = 0; two = 2 }

abbrev apart : Arena
apart = arena_of_trails row_of_three (first_trails [] 0 2)

key_apart : tron_key apart ≡ 20482
key_apart = refl

rank_apart : tron_rank apart ≡ 1
rank_apart = refl

way_of_one : ways_of apart One ≡ East ∷ []
way_of_one = refl

way_of_two : ways_of apart Two ≡ West ∷ []
way_of_two = refl

heads_in_the_middle : after_moves row_of_three (first_trails [] 0 2) 0 0 ≡ record { taken = 0 ∷ 2 ∷ 1 ∷ []; one = 1; two = 1 }
heads_in_the_middle = refl

tied_in_the_middle : tron_payoff (arena_of_trails row_of_three (record { taken = 0 ∷ 2 ∷ 1 ∷ []; one = 1; two = 1 })) ≡ pos 0
tied_in_the_middle = refl

abbrev side_by_side : Arena
side_by_side = arena_of_trails (record { height = 1; width = 4; taken = 3; one = 0; two = 1 }) (first_trails [] 0 1)

one_is_shut : tron_payoff side_by_side ≡ neg_ℤ (pos 1)
one_is_shut = refl

shut_is_over : is_over side_by_side ≡ true
shut_is_over = refl

order_of_directions : open_directions (arena_of_trails (record { height = 3; width = 3; taken = 17; one = 4; two = 0 }) (first_trails [] 4 0)) 4 ≡ North ∷ East ∷ South ∷ West ∷ []
order_of_directions = refl

walls_count_once : first_trails (5 ∷ 5 ∷ []) 0 2 ≡ record { taken = 5 ∷ 0 ∷ 2 ∷ []; one = 0; two = 2 }
walls_count_once = refl

grid_first : first_fault 7 1 (1 ∷ 9 ∷ []) 0 0 ≡ Some GridRange
grid_first = refl

wall_before_heads : first_fault 3 3 (1 ∷ 9 ∷ []) 9 9 ≡ Some (CellRange 1)
wall_before_heads = refl

head_of_two_is_last : first_fault 4 3 (1 ∷ 9 ∷ []) 0 12 ≡ Some (CellRange 3)
head_of_two_is_last = refl

walls_before_meeting : first_fault 4 3 (1 ∷ 9 ∷ []) 9 9 ≡ Some HeadInWall
walls_before_meeting = refl

meeting_last : first_fault 4 3 (1 ∷ 9 ∷ []) 2 2 ≡ Some HeadsMeet
meeting_last = refl

no_fault : first_fault 4 3 (1 ∷ 9 ∷ []) 2 3 ≡ None
no_fault = refl
