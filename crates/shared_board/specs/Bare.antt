-- A pass without what its type says of it.
use Rattle.sim_game.specs.Model.{GameModel}
use Rattle.shared_board.specs.Values.{PassValue}
use Rattle.shared_board.specs.Passes.{IsPass}
use Rattle.shared_board.specs.declared.pass.BarePass.{BarePass}

abbrev pub pass_of : {G : Type 0} → BarePass G → PassValue G
pass_of b = record { name = b.seat.table_id; view = b.seat.me.0; total = b.book.total; entries = b.book.entries }

-- what a pass's type says of it
abbrev pub IsSoundPass : {S G : Type 0} → (G → GameModel S) → BarePass G → Type 0
IsSoundPass model b = IsPass model b.seat.table_id.words b.seat.me.0 b.seat.me.1 b.book.total b.book.entries b.lead
    b.issued b.held
