use Rattle.std.proofs.Common.{rules, ◌≡◌, ◌≤◌, Some, None, sym, subst, ◌∙◌}
use Rattle.std.proofs.lemmas.List.{get_or_read}
use Rattle.restricted_game.specs.Children.{IsRowOf, AreChildRows}
use Rattle.restricted_game.proofs.ChildLemmas.{child_rows_later, child_rows_more, place_in}
use Rattle.restricted_game.proofs.ReadLemmas.{child_reachable}
use Rattle.restricted_game.proofs.children.ChildRows.claim.Goals as goal

pub returns-in-Some-clause-row : goal.returns-in-Some-clause-row
returns-in-Some-clause-row g c =
    let are = subst (AreChildRows (g.G.Game.model c.args.g) (g.B.Bounds.view c.args.board.now) c.args.s) (sym c.self.view_is) c.requires.children in
    let inside = place_in _ c.args.s c.requires.reachable _ are.places c.args.one c.args.two c.args.draw c.requires.one c.requires.two c.requires.draw in
    let some : c.index.result.now ≡ Some c.in-Some.row = search rules in
    are.each c.args.one c.args.two c.args.draw c.in-Some.row c.requires.one c.requires.two c.requires.draw (sym (get_or_read c.self.inside.rows.items _ _ inside c.index.ensures None) ∙ some)

pub rank-requires : goal.rank-requires
rank-requires g c = child_reachable _ c.args.s c.args.one c.args.two c.args.draw _ c.drawn-child.ensures c.requires.reachable c.requires.one c.requires.two c.requires.draw

pub key-requires : goal.key-requires
key-requires g c = child_reachable _ c.args.s c.args.one c.args.two c.args.draw _ c.drawn-child.ensures c.requires.reachable c.requires.one c.requires.two c.requires.draw

pub claim-requires : goal.claim-requires
claim-requires g c =
    let reach = child_reachable _ c.args.s c.args.one c.args.two c.args.draw _ c.drawn-child.ensures c.requires.reachable c.requires.one c.requires.two c.requires.draw in
    let goes_on : 1 ≤ (g.G.Game.model c.args.g).rank c.drawn-child.result = search rules in
    rw c.requires.game record { state = c.drawn-child.result; reachable = reach; goes_on = goes_on; is_key = sym c.key.ensures }

pub returns-in-Ok-clause-board : goal.returns-in-Ok-clause-board
returns-in-Ok-clause-board g c =
    let m = g.G.Game.model c.args.g in
    let are = subst (AreChildRows m (g.B.Bounds.view c.args.board.now) c.args.s) (sym c.self.view_is) c.requires.children in
    let goes_on : 1 ≤ (g.G.Game.model c.args.g).rank c.drawn-child.result = search rules in
    let is : IsRowOf m (g.B.Bounds.view c.claim.new.self) c.drawn-child.result c.in-Ok.row =
    record { goes_on = goes_on; holds = rw c.key.ensures at c.in-Ok.ensures.ok; opened = rw (c.requires.game, c.key.ensures) at c.in-Ok.ensures.opened } in
    record {
      later = c.claim.ensures.later;
      entries = c.claim.ensures.entries;
      children = child_rows_more m c.args.s c.requires.reachable _ are.places c.args.one c.args.two c.args.draw c.requires.one c.requires.two c.requires.draw _ _ c.in-Ok.row are
          c.claim.ensures.later (subst (λ t. IsRowOf m (g.B.Bounds.view c.claim.new.self) t c.in-Ok.row) c.drawn-child.ensures is);
    }

pub returns-in-Err-clause-board : goal.returns-in-Err-clause-board
returns-in-Err-clause-board g c = record {
  later = c.claim.ensures.later;
  entries = c.claim.ensures.entries;
  children = child_rows_later (g.G.Game.model c.args.g) _ _ c.args.s _ c.claim.ensures.later c.requires.children;
}
