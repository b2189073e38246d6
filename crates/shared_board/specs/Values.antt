-- What a contract sees of a board, of a pass and of a desk.
use Rattle.std.specs.Prelude.{◌≡◌, ℕ, Bool, List, [], ◌∷◌, ◌++◌, Some}
use Rattle.atomic_table.specs.Seated.{TableId}
use Rattle.sim_game.specs.Model.{GameModel}
use Rattle.plan_book.specs.declared.Entry.{Entry}
use Rattle.bounds_board.specs.Views.{BoardView}
use Rattle.shared_board.specs.Passes.{known_key, seen_by}
use Rattle.shared_board.specs.declared.view.View.{View}

pub record BoardValue (G : Type 0) : Type 0 where
  pub name : TableId
  pub game : G
  pub rows : ℕ
  pub total : ℕ

pub record PassValue (G : Type 0) : Type 0 where
  pub name : TableId
  pub view : View G
  pub total : ℕ
  pub entries : List Entry

-- the pass is of this board
pub record IsPassOf {G : Type 0} (b : BoardValue G) (p : PassValue G) : Type 0 where
  pub name : p.name ≡ b.name
  pub game : p.view.game ≡ Some b.game
  pub total : p.total ≡ b.total

pub record DeskValue (G : Type 0) : Type 0 where
  pub board : BoardValue G
  pub pass : PassValue G

-- the desk with another view
abbrev pub viewing : {G : Type 0} → DeskValue G → View G → DeskValue G
viewing d v = record d { pass = record d.pass { view = v } }

-- the desk with another view and one entry more
abbrev pub entering : {G : Type 0} → DeskValue G → View G → Entry → DeskValue G
entering d v e = record d { pass = record d.pass { view = v; entries = d.pass.entries ++ e ∷ [] } }

-- what no call of a desk changes: the table, and the tickets of its pass
pub record DeskName : Type 0 where
  pub table : TableId
  pub lead : Bool
  pub issued : ℕ
  pub tickets : List ℕ

-- a desk as a search sees it
abbrev pub desk_view : {S G : Type 0} → (G → GameModel S) → DeskValue G → BoardView G DeskName
desk_view model d = record {
  name = record {
    table = d.pass.name;
    lead = d.pass.view.lead;
    issued = d.pass.view.issued;
    tickets =
        d.pass.view.tickets;
  };
  game = d.board.game;
  total = d.board.total;
  rows = d.board.rows;
  key_at = known_key d.pass.view.keys;
  seen = seen_by (model d.board.game) d.pass.view;
  entries = d.pass.entries;
}
