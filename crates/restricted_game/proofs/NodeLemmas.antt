-- A state on a board, as the views go on, and what is kept of the board from one moment to another.
use Rattle.std.proofs.Common.{◌≡◌, ℕ, ◌∙◌}
use Rattle.sim_game.specs.Model.{GameModel}
use Rattle.plan_book.specs.Entries.{IsLawfulEntry}
use Rattle.bounds_board.specs.Views.{BoardView, IsLater}
use Rattle.bounds_board.proofs.ViewLemmas.{later_trans}
use Rattle.restricted_game.specs.Children.{KeptRows}
use Rattle.restricted_game.specs.Nodes.{IsAtNode, IsBetter, HasOnlyRead}
use Rattle.restricted_game.proofs.PostLemmas.{lawful_after, grows_none}

pub node_later : {S G N : Type 0} (m : GameModel S) (g : G) (u v : BoardView G N) (s : S) (row : ℕ) → IsLater u v → IsAtNode m g u s row → IsAtNode m g v s row
node_later m g u v s row later here = record {
  game = later.game ∙ here.game;
  reachable = here.reachable;
  goes_on = here.goes_on;
  holds = later.keys row (m.key s) here.holds;
}

module _ {S G N : Type 0} (m : GameModel S) where
  pub better_trans : (u v w : BoardView G N) → IsBetter m u v → IsBetter m v w → IsBetter m u w
  better_trans u v w p q = record { later = later_trans u v w p.later q.later; posted = lawful_after m u v w p.later p.posted q.posted }

  -- nothing was posted
  pub better_read : (u v : BoardView G N) → IsLater u v → v.entries ≡ u.entries → IsBetter m u v
  better_read u v later quiet = record { later = later; posted = grows_none (IsLawfulEntry m u.total) u.entries v.entries quiet }

pub only_read_after : {S G N : Type 0} (m : GameModel S) (s : S) (u v w : BoardView G N) (old new : KeptRows) → HasOnlyRead m u v s old → HasOnlyRead m v w s new → HasOnlyRead m u w s new
only_read_after m s u v w old new p q = record { later = later_trans u v w p.later q.later; entries = q.entries ∙ p.entries; children = q.children }
