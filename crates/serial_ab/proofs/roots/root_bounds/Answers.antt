use Rattle.std.proofs.Common.{rules, w64, SFits, of_z, ◌≡◌, ◌≤◌, ◌∙◌, sym, ap}
use Rattle.std.proofs.lemmas.Int.{to_z-of_z}
use Rattle.sim_game.specs.declared.Side.TheVariants.{One, Two}
use Rattle.sim_game.specs.Sides.{state_bound}
use Rattle.serial_ab.proofs.RootLemmas.{one_word, equal_bounds, root_searched}
use Rattle.serial_ab.proofs.roots.root_bounds.Goals as goal

pub returns-then-low-state_bound-clause-ends : goal.returns-then-low-state_bound-clause-ends
returns-then-low-state_bound-clause-ends g c =
    let m = g.G.Game.model c.args.g in
    let game = g.met.G.Game.lawful c.args.g in
    let fits : SFits w64 c.state_bound-low.result = search rules in
    let high_fits : SFits w64 c.state_bound.result = search rules in
    let same = one_word c.state_bound-low.result c.state_bound.result fits high_fits c.if-low-state_bound.true in
    let low : c.state_bound-low.result ≡ state_bound m One m.root = c.state_bound-low.ensures ∙ ap (state_bound m One) c.root-2.ensures in
    let high : c.state_bound.result ≡ state_bound m Two m.root = c.state_bound.ensures ∙ ap (state_bound m Two) c.root-3.ensures in
    let equal : state_bound m One m.root ≡ state_bound m Two m.root = sym low ∙ same ∙ high in
    rw (to_z-of_z w64 c.state_bound-low.result fits, low) (equal_bounds m game One c.args.visits.now equal, equal_bounds m game Two c.args.visits.now equal)

pub search_both-requires-clause-searched : goal.search_both-requires-clause-searched
search_both-requires-clause-searched g c =
    let m = g.G.Game.model c.args.g in
    let goes_on : 1 ≤ m.rank m.root = search rules in
    let low : c.state_bound-low.result ≡ state_bound m One m.root = c.state_bound-low.ensures ∙ ap (state_bound m One) c.root-2.ensures in
    let high : c.state_bound.result ≡ state_bound m Two m.root = c.state_bound.ensures ∙ ap (state_bound m Two) c.root-3.ensures in
    root_searched m (g.met.G.Game.lawful c.args.g) goes_on (λ e. c.if-low-state_bound.false (ap (of_z w64) (low ∙ e ∙ sym high)))
