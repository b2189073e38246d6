use Rattle.std.proofs.lemmas.Result.{on_ok_weaker}
use Rattle.bounds_board.proofs.ViewLemmas.{later_same}
use Rattle.shared_board.specs.Values.{desk_view}
use Rattle.shared_board.proofs.SeenLemmas.{has_key_of}
use Rattle.shared_board.proofs.DeskLemmas.{either_way, post_later, post_seen}
use Rattle.shared_board.proofs.desk.DeskBounds.post.Goals as goal

pub post_entry-requires-clause-known : goal.post_entry-requires-clause-known
post_entry-requires-clause-known g c = has_key_of c.args.self.now.pass.view.keys c.args.row c.args.e.key c.requires.row

pub returns-clause-later : goal.returns-clause-later
returns-clause-later g c = let did = c.post_entry.ensures in
    either_way c.post_entry.result _ _ _ (post_later g.G.Game.model c.args.self.now c.post_entry.new.self c.args.row c.args.e)
    (λ same. later_same (desk_view g.G.Game.model c.args.self.now) (desk_view g.G.Game.model c.post_entry.new.self) (λ k. desk_view g.G.Game.model (same k))) did.ok did.err

pub returns-clause-seen : goal.returns-clause-seen
returns-clause-seen g c = let did = c.post_entry.ensures in
    on_ok_weaker c.post_entry.result (λ n. post_seen g.G.Game.model c.args.self.now c.post_entry.new.self c.args.row c.args.e n (g.met.G.Game.lawful c.args.self.now.board.game) _ _
    c.requires.entry c.requires.row) did.ok
