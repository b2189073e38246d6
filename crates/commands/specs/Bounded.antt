-- What is answered to the bytes of a position whose serial bounds are asked for.
use Rattle.std.specs.Prelude.{◌≡◌, ℕ, ◌≤◌, List, [], ◌∷◌, ◌++◌, codes, Ok, Err}
use Rattle.std.specs.Fmt.{signed_decimal}
use Rattle.sim_game.specs.declared.Side.{Side}
use Rattle.sim_game.specs.declared.Side.TheVariants.{One, Two}
use Rattle.sim_game.specs.Model.{GameModel, HasAtMost}
use Rattle.plan_book.specs.Serial.{serial_bound, tree_size}
use Rattle.serial_ab.specs.Counts.{VisitsView, spent_on}
use Rattle.serial_ab.specs.declared.roots.RootEnd.{RootEnd}
use Rattle.serial_ab.specs.declared.roots.RootEnd.TheVariants.{Found, Cut, Full}
use Rattle.serial_ab.specs.Roots.{IsRootEnd}
use Rattle.fields.specs.declared.ask.Ask.{Ask}
use Rattle.position.specs.declared.games.InputError.{InputError}
use Rattle.position.specs.Position.{TaskText, position_of}
use Rattle.position.specs.Games.{OfGame}
use Rattle.text.specs.Texts.{side_word}
use Rattle.commands.specs.Texts.{input_text}

-- ---- the status and the text of how two searches ended
abbrev pub bounds_status : RootEnd → ℕ
bounds_status (Found lower upper) = 0
bounds_status (Cut side) = 4
bounds_status Full = 5

abbrev pub bounds_text : RootEnd → List ℕ
bounds_text (Found lower upper) =
    codes "lower " ++ (signed_decimal lower ++ (codes "\nupper " ++ (signed_decimal upper ++ 10 ∷ [])))
bounds_text (Cut side) = codes "visits spent " ++ (side_word side ++ 10 ∷ [])
bounds_text Full = codes "board full\n"

-- ---- answers
-- none of the visits that are asked for was made
abbrev pub unspent : Ask → VisitsView
unspent ask = record { limit = ask.visits; one = 0; two = 0 }

-- the searches of the root ended so, with the rows and visits that are asked for
pub record IsSearchedRoot {S : Type 0} (m : GameModel S) (ask : Ask) (end : RootEnd) : Type 0 where
  -- the visits made
  pub spent : VisitsView
  pub limit : spent.limit ≡ ask.visits
  pub within : (side : Side) → spent_on side spent ≤ ask.visits
  pub ends : IsRootEnd m ask.rows (unspent ask) spent end
  -- with a row for each state and a visit for each node of the tree
  pub whole : HasAtMost m ask.rows → tree_size m m.root ≤ ask.visits
      → end ≡ Found (serial_bound m One m.root) (serial_bound m Two m.root)

-- the status and the text that bounds answers to the bytes of a position
pub data IsBounded (bytes : List ℕ) : ℕ → List ℕ → Type 0 where
  refused : (e : InputError) → position_of bytes ≡ Err e → IsBounded bytes 2 (input_text e)
  searched : (task : TaskText) (end : RootEnd) → position_of bytes ≡ Ok task
      → OfGame task.text (λ S m. IsSearchedRoot m task.ask end) → IsBounded bytes (bounds_status end) (bounds_text end)
