use Rattle.std.proofs.Common.{rules, w64, SFits, ◌∙◌}
use Rattle.std.proofs.lemmas.Int.{to_z-of_z}
use Rattle.lazy_workers.proofs.FoundLemmas.{is_found}
use Rattle.lazy_workers.proofs.summary.found_in.Goals as goal

pub returns : goal.returns
returns g c =
    let m = g.G.Game.model c.args.g in
    let game = g.met.G.Game.lawful c.args.g in
    let lower_fits : SFits w64 c.bound_of-lower.result = search rules in
    let upper_fits : SFits w64 c.bound_of-upper.result = search rules in
    let resolution_fits : SFits w64 c.resolution-resolution.result = search rules in
    let lower = to_z-of_z w64 c.bound_of-lower.result lower_fits in
    let upper = to_z-of_z w64 c.bound_of-upper.result upper_fits in
    let resolution = to_z-of_z w64 c.resolution-resolution.result resolution_fits in
    let is = c.resolution-resolution.ensures.is in
    is_found m game c.args.ask.now c.args.begun c.requires.ask c.args.gathered.book.entries _ c.requires.searched c.in_ok-one.ensures.side c.in_ok-two.ensures.side
    (c.in_ok-one.ensures.total ∙ c.requires.total) (c.in_ok-two.ensures.total ∙ c.requires.total)
    c.in_ok-one.ensures.lawful c.in_ok-two.ensures.lawful c.in_ok-one.ensures.best c.in_ok-two.ensures.best
    (lower ∙ rw c.root.ensures at c.bound_of-lower.ensures) (upper ∙ rw c.root-2.ensures at c.bound_of-upper.ensures)
    (is.0, resolution ∙ is.1, is.2) (rw resolution c.resolution-resolution.ensures.most)
