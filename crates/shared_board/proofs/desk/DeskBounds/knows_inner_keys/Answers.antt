use Rattle.std.proofs.Common.{rules, ◌≡◌, Some, sym, subst}
use Rattle.shared_board.specs.Rule.{Has}
use Rattle.shared_board.specs.declared.view.View.{View}
use Rattle.shared_board.proofs.SeenLemmas.{has_key_of}
use Rattle.shared_board.proofs.desk.DeskBounds.knows_inner_keys.Goals as goal

pub returns : goal.returns
returns g c row key e = let game = c.args.self.now.board.game in let now = c.args.self.now.pass.view in
    let view : c.pass.inside.bare.seat.me.0 ≡ now = search rules in let is : c.pass.inside.bare.seat.me.0.game ≡ Some game = search rules in
    (c.pass.invariant.told game is).named row key (subst (λ (v : View g.row.G.Denot). Has (row, key) v.keys) (sym view) (has_key_of now.keys row key e))
