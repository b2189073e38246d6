use Rattle.std.proofs.Common.{rules, ◌<◌, ◌≤◌, ℤ, unsigned_abs, length, w64, SFits, sym, ap, subst, ◌∙◌, arith}
use Rattle.std.proofs.lemmas.Int.{to_z-of_z}
use Rattle.std.proofs.lemmas.List.{get_or_read}
use Rattle.bounds_board.specs.Views.{bound_in}
use Rattle.restricted_game.specs.Tables.{draw_index}
use Rattle.restricted_game.proofs.PlaceLemmas.{place_within}
use Rattle.restricted_game.proofs.CellLemmas.{bound_small}
use Rattle.restricted_game.proofs.table.StageTable.number.Goals as goal

pub returns-clause-value : goal.returns-clause-value
returns-clause-value c =
    let t = c.args.self.now in
    let f : SFits w64 c.of.result = search rules in
    let inside : draw_index c.args.self.now.width c.args.self.now.stride c.args.one c.args.two c.args.draw < length c.args.self.now.enclosures.items =
    omega (arith, place_within t.height t.width t.stride c.args.one c.args.two c.args.draw c.requires.one c.requires.two c.requires.draw, t.room, t.enclosures.ok.0) in
    to_z-of_z w64 c.of.result f ∙ c.of.ensures ∙ ap (bound_in c.args.side) (get_or_read t.enclosures.items _ _ inside c.index.ensures _)

pub returns-clause-small : goal.returns-clause-small
returns-clause-small c =
    subst (λ (z : ℤ). unsigned_abs z ≤ 4000000000) (sym (returns-clause-value c))
    (bound_small c.args.side c.args.self.now c.args.one c.args.two c.args.draw c.requires.one c.requires.two c.requires.draw)
