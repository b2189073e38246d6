use Rattle.std.proofs.Common.{rules, ◌≡◌, List, sym, subst, ◌∙◌}
use Rattle.plan_book.specs.Books.{IsClosed, book_bound}
use Rattle.matrix_game.specs.Budget.{Budget}
use Rattle.shared_board.specs.Closing.{AreKeptRows}
use Rattle.lazy_workers.specs.Searched.{IsSearched}
use Rattle.lazy_workers.proofs.JoinLemmas.{none_forgotten}
use Rattle.lazy_workers.proofs.KeptLemmas.{joined_searched, root_tighter}
use Rattle.lazy_workers.proofs.workers.gather.Goals as goal

pub join_all-requires-clause-lead : goal.join_all-requires-clause-lead
join_all-requires-clause-lead g c = record { ours = c.requires.ours; leads = c.requires.lead.leads; none = c.requires.entries }

pub returns-in-Ok-clause-searched : goal.returns-in-Ok-clause-searched
returns-in-Ok-clause-searched g c =
    let m = g.G.Game.model c.args.g in
    let ask = c.args.ask.now in
    let lead = c.join_all.new.lead in
    let entries = c.in-Ok.closed.book.entries in
    let turns = c.join_all.new.turns.items in
    let total : lead.total ≡ ask.weight = c.in_ok-was_full.ensures.ours.total ∙ c.requires.board.total in
    let closed : IsClosed m ask.weight entries = rw (c.in-Ok.ensures.entries) (rw (c.requires.board.game, total) at c.in-Ok.ensures.closed) in
    let kept : AreKeptRows m ask.rows lead.view entries c.in-Ok.closed.kept = rw (c.in-Ok.ensures.entries) (rw (c.requires.board.game, c.requires.board.rows) at c.in-Ok.ensures.kept) in
    subst (λ (l : List Budget). IsSearched m ask c.args.begun entries c.in-Ok.closed.kept l c.in_ok-was_full.was_full) (sym c.from_vec.ensures)
    (joined_searched m (g.met.G.Game.lawful c.args.g) ask c.args.begun lead.view entries c.in-Ok.closed.kept kept closed c.requires.board.goes_on turns
    c.in_ok-was_full.was_full c.in_ok-was_full.ensures.joined (search rules) (λ none. rw c.in-Ok.ensures.entries (c.in_ok-was_full.ensures.alone none)))

pub returns-in-Ok-clause-tight : goal.returns-in-Ok-clause-tight
returns-in-Ok-clause-tight g c =
    let m = g.G.Game.model c.args.g in
    let ask = c.args.ask.now in
    let lead = c.join_all.new.lead in
    let entries = c.in-Ok.closed.book.entries in
    let total : lead.total ≡ ask.weight = c.in_ok-was_full.ensures.ours.total ∙ c.requires.board.total in
    let closed : IsClosed m ask.weight entries = rw (c.in-Ok.ensures.entries) (rw (c.requires.board.game, total) at c.in-Ok.ensures.closed) in
    let kept : AreKeptRows m ask.rows lead.view entries c.in-Ok.closed.kept = rw (c.in-Ok.ensures.entries) (rw (c.requires.board.game, c.requires.board.rows) at c.in-Ok.ensures.kept) in
    none_forgotten g.G.Game.model c.args.g lead.view (λ side. book_bound m entries side m.root)
    (root_tighter m (g.met.G.Game.lawful c.args.g) ask c.args.begun lead.view entries c.in-Ok.closed.kept kept closed c.requires.board.goes_on) c.args.found.items c.in_ok-was_full.ensures.tight
