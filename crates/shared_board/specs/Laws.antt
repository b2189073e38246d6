-- The kinds of step.
use Rattle.std.specs.Prelude.{◌≡◌, ◌≢◌, ℕ, suc, ◌<◌, true, List, [], ◌∷◌, ◌++◌, slice_set}
use mathlib.Core.Option.{some}
use lib.ListN.{get_elem?}
use Rattle.atomic_table.specs.Table.{State}
use Rattle.sim_game.specs.declared.Side.{Side}
use Rattle.sim_game.specs.Model.{GameModel}
use Rattle.shared_board.specs.Words.{key_word, bound_word, key_in_row, bound_in_row, tighter}
use Rattle.shared_board.specs.Rule.{IsConsistent, spent_view}
use Rattle.shared_board.specs.Plays.{knowing, reading, posting, issuing, issued_view, joined, MayClaim, MayPost}
use Rattle.shared_board.specs.declared.view.View.{View}

module _ {S G : Type 0} (m : GameModel S) (rows : ℕ) where
  abbrev At : State (Unit {0}) (View G) → ℕ → View G → Type 0
  At s id v = get_elem? s.views id ≡ some v

  -- the state with these words and these views
  abbrev after : State (Unit {0}) (View G) → List ℕ → List (View G) → State (Unit {0}) (View G)
  after s words views = record { words = words; homes = s.homes; views = views }

  -- s becomes the second state by one step of one seat. A load or exchange that leaves the word leaves the words
  pub data IsBoardStep : State (Unit {0}) (View G) → State (Unit {0}) (View G) → Type 0 where
    claims : (s : State (Unit {0}) (View G)) (id i k t : ℕ) (v : View G) → At s id v → MayClaim m rows v i k t
        → key_in_row s.words i ≡ 0
        → IsBoardStep s (after s (slice_set s.words (key_word i) (suc k)) (slice_set s.views id (knowing v i k)))
    -- a load of a free row, which tells nothing
    looks : (s : State (Unit {0}) (View G)) (id i k t : ℕ) (v : View G) → At s id v → MayClaim m rows v i k t
        → key_in_row s.words i ≡ 0
        → IsBoardStep s (after s s.words (slice_set s.views id v))
    finds : (s : State (Unit {0}) (View G)) (id i k t found : ℕ) (v : View G) → At s id v → MayClaim m rows v i k t
        → key_in_row s.words i ≡ suc found
        → IsBoardStep s (after s s.words (slice_set s.views id (knowing v i found)))
    -- a raise where the side is One, a cut where it is Two
    posts : (s : State (Unit {0}) (View G)) (id i x : ℕ) (side : Side) (v : View G) → At s id v
        → MayPost m rows side v i x
        → IsBoardStep s (after s (slice_set s.words (bound_word side i) (tighter side (bound_in_row s.words side i) x))
        (slice_set s.views id (posting side v i x (bound_in_row s.words side i))))
    reads : (s : State (Unit {0}) (View G)) (id i : ℕ) (side : Side) (v : View G) → At s id v → i < rows
        → IsBoardStep s (after s s.words (slice_set s.views id (reading side v i (bound_in_row s.words side i))))
    splits : (s : State (Unit {0}) (View G)) (id : ℕ) (v : View G) → At s id v → v.lead ≡ true → v.issued < 65535
        → IsBoardStep s (after s s.words (slice_set s.views id (issuing v) ++ issued_view v ∷ []))
    joins : (s : State (Unit {0}) (View G)) (id other : ℕ) (v w : View G) → At s id v → other ≢ id → At s other w
        → v.tickets ≢ [] → w.tickets ≢ []
        → IsBoardStep s (after s s.words (slice_set (slice_set s.views id (joined v w)) other spent_view))

  -- each step keeps the rule
  abbrev pub EachStepKeeps : G → Type 0
  EachStepKeeps g = (s t : State (Unit {0}) (View G)) → IsConsistent m g rows s → IsBoardStep s t
      → IsConsistent m g rows t
