-- What holds of a plain board, and what callers see of it.
use Rattle.std.specs.Prelude.{◌≡◌, ℕ, ◌≤◌, List, All, Contains, slice_get}
use Rattle.sums.specs.declared.TheConstants.{LEAST_WEIGHT, MOST_WEIGHT}
use Rattle.sim_game.specs.declared.Side.{Side}
use Rattle.sim_game.specs.Model.{GameModel}
use Rattle.sim_game.specs.Resolution.{IsFineWeight}
use Rattle.plan_book.specs.declared.Entry.{Entry}
use Rattle.plan_book.specs.Books.{best_posted, IsClosed}
use Rattle.bounds_board.specs.declared.slots.Slot.{Slot}
use Rattle.bounds_board.specs.Slots.{keys_of, slot_bound, IsHashTable}
use Rattle.bounds_board.specs.Views.{BoardView, IsInnerKey}

pub record IsPlain {S : Type 0} (m : GameModel S) (heads : List ℕ) (slots : List Slot) (total : ℕ) (entries : List Entry) : Type 0 where
  pub total_low : LEAST_WEIGHT ≤ total
  pub total_fine : IsFineWeight m total
  pub total_high : total ≤ MOST_WEIGHT
  pub table : IsHashTable heads (keys_of slots)
  pub inner : All (IsInnerKey m) (keys_of slots)
  pub bounds : All (λ slot. (side : Side) → slot_bound slot side ≡ best_posted m entries side slot.key) slots
  pub held : All (λ e. Contains (keys_of slots) e.key) entries
  pub closed : IsClosed m total entries

-- a plain board as callers see it
pub record PlainValue (G : Type 0) : Type 0 where
  pub game : G
  pub rows : ℕ
  -- the keys of the claimed rows, in order of claim
  pub keys : List ℕ
  pub total : ℕ
  pub entries : List Entry

-- what a plain board knows: the bounds seen are the best ones posted
abbrev pub plain_view : {S G : Type 0} → (G → GameModel S) → PlainValue G → BoardView G (Unit {0})
plain_view model b = record {
  name = tt;
  game = b.game;
  total = b.total;
  rows = b.rows;
  key_at = slice_get b.keys;
  seen = best_posted (model b.game) b.entries;
  entries = b.entries;
}
