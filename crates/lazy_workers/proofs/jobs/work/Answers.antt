use Rattle.std.proofs.Common.{⊎_elim, inl, inr, true, false, All, Some, ◌≡◌, ◌≤◌, [], ◌∷◌, w64, SFits, sym, ap, subst, ◌∙◌, arith}
use Rattle.std.proofs.lemmas.Int.{ints, to_z-of_z}
use Rattle.sim_game.proofs.SideLemmas.{looser_refl}
use Rattle.plan_book.specs.Entries.{IsPureEntry}
use Rattle.shared_board.specs.Passes.{seen_by, known_key}
use Rattle.shared_board.proofs.SeenLemmas.{has_key_of}
use Rattle.shared_board.specs.Values.{IsPassOf, desk_view}
use Rattle.shared_board.specs.Bare.{pass_of}
use Rattle.matrix_game.specs.Solvers.{solver_of}
use Rattle.fields.specs.declared.ask.StageMethod.TheVariants.{Regret, Linear}
use Rattle.oracle_search.specs.Workers.{at_start, at_work, is_linear}
use Rattle.oracle_search.specs.Searches.{IsWorked}
use Rattle.oracle_search.proofs.WorkLemmas.{kept_none}
use Rattle.oracle_search.specs.declared.ends.SearchEnd.TheVariants.{Full}
use Rattle.lazy_workers.specs.Keeping.{HasLimit}
use Rattle.lazy_workers.specs.Workers.{HaveFound, HasView, rows_of}
use Rattle.lazy_workers.proofs.WorkerLemmas.{AreTaken, of_limits, found, pure_alone}
use Rattle.lazy_workers.proofs.JoinLemmas.{seen_later, pass_later}
use Rattle.lazy_workers.proofs.jobs.work.Goals as goal

pub search-requires-clause-kept : goal.search-requires-clause-kept
search-requires-clause-kept g c =
    kept_none (g.G.Game.model c.args.g) (desk_view g.G.Game.model c.new-desk.result) c.new-state.result
    (ap (λ w. w.finished.keys) c.new-state.ensures) (ap (λ w. w.searches.stored) c.new-state.ensures)

pub returns : goal.returns
returns g c =
    let model = g.G.Game.model in
    let m = g.G.Game.model c.args.g in
    let ask = c.args.ask.now in
    let start = at_start (desk_view model c.new-desk.result) c.new-state.result in
    let last = at_work (desk_view model c.search.new.board) c.search.new.worker in
    let worked : IsWorked m m.root start last = rw c.root.ensures at c.search.ensures.worked in
    let fits : SFits w64 ask.gap = omega (arith, ints, c.requires.board.asked.gap.0, c.requires.board.asked.gap.1) in
    let gap = to_z-of_z w64 ask.gap fits in
    let pure = rw (c.root.ensures, gap) at c.in_ok-end.ensures.pure in
    let rowed = rw c.root.ensures at c.in_ok-end.ensures.rowed in
    let total : last.board.total ≡ ask.weight = worked.board.later.total ∙ ap (λ b. b.total) c.new-desk.ensures.board ∙ c.requires.board.total in
    let none = ap (λ w. record w.finished { was_full = false }) c.new-state.ensures in
    let turns = ap (λ w. w.turns) c.new-state.ensures in
    let limit = subst (HasLimit ask c.args.begun.may_stop) (sym turns) c.requires.job.limit in
    let begun = subst (λ t. t.spent ≤ c.args.begun.spent) (sym turns) c.requires.job.begun in
    let inside = subst (λ t. t.spent ≤ t.limit) (sym turns) c.requires.job.limit.spent in
    let rows = worked.board.later.rows ∙ ap (λ b. b.rows) c.new-desk.ensures.board ∙ c.requires.board.rows in
    let weight : 1 ≤ ask.weight = omega (arith, c.requires.board.asked.weight.0) in
    let ended = rw (c.root.ensures, gap) at c.in_ok-end.ensures.ended in
    let linear : c.new-state.result.linear ≡ is_linear (solver_of c.limits_for.result.stages) = ap (λ w. w.linear) c.new-state.ensures in
    let takes : AreTaken m ask c.in_ok-end.end start last = ⊎_elim
    (λ (a : (ask.stages ≡ Regret) × (is_linear (solver_of c.limits_for.result.stages) ≡ false)). inl (a.0, ended.turns (linear ∙ a.1)))
    (λ (b : (ask.stages ≡ Linear) × (is_linear (solver_of c.limits_for.result.stages) ≡ true)). inr (b.0, ended.owed (linear ∙ b.1)))
    (of_limits ask.workers ask.stages c.limits_for.result c.limits_for.ensures.few c.limits_for.ensures.many) in
    let of_worker = found m (g.met.G.Game.lawful c.args.g) ask c.args.begun start last c.in_ok-end.end rows total weight c.requires.board.goes_on none limit begun inside worked ended.ends takes
    (ap (λ w. w.visits) c.new-state.ensures ∙ c.new-visits.ensures) (λ visits quiet. pure.tight visits quiet c.requires.board.goes_on) (rowed c.requires.board.goes_on) pure.at_once in
    let desk = c.search.new.board in
    let game_is : desk.board.game ≡ c.args.g = worked.board.later.game ∙ ap (λ x. x.game) c.new-desk.ensures.board ∙ c.requires.board.game in
    let to : pass_of c.into_bare.result ≡ desk.pass = c.into_bare.ensures.same ∙ c.into_pass.ensures.pass in
    let at_game : HaveFound m ask c.args.begun (seen_by m desk.pass.view) (λ row key. known_key desk.pass.view.keys row ≡ Some key) (c.in_ok-end.end ≡ Full) (c.into_turns.result ∷ []) =
    subst (λ x. HaveFound m ask c.args.begun (seen_by (model x) desk.pass.view) (λ row key. known_key desk.pass.view.keys row ≡ Some key) (c.in_ok-end.end ≡ Full) (c.into_turns.result ∷ [])) game_is
    (subst (λ t. HaveFound m ask c.args.begun last.board.seen (λ row key. last.board.key_at row ≡ Some key) (c.in_ok-end.end ≡ Full) (t ∷ [])) (sym c.into_turns.ensures) of_worker) in
    let from = c.new-desk.ensures.pass ∙ c.from_bare.ensures in
    let ours : IsPassOf c.args.board.now (pass_of c.into_bare.result) = record {
      name = ap (λ p. p.name) to ∙ ap (λ n. n.table) worked.board.later.name ∙ ap (λ p. p.name) from ∙ c.requires.job.pass.ours.name;
      game = ap (λ p. p.view.game) c.into_bare.ensures.same ∙ c.into_pass.ensures.ours.game ∙ ap Some (game_is ∙ sym c.requires.board.game);
      total = ap (λ p. p.total) c.into_bare.ensures.same ∙ c.into_pass.ensures.ours.total ∙ total ∙ sym c.requires.board.total;
    } in
    let entries : start.board.entries ≡ [] = ap (λ p. p.entries) from ∙ c.requires.job.none in
    let alone = pure_alone m (g.met.G.Game.lawful c.args.g) ask c.args.begun start last c.in_ok-end.end rows total weight c.requires.board.goes_on none limit begun inside worked
    ended.ends takes entries in
    record {
      alone = λ unspent. subst (λ p. All (IsPureEntry m ask.weight) p.entries) (sym to) (alone (ap (λ t. t.spent) (sym c.into_turns.ensures) ∙ unspent));
      pass = pass_later model c.args.g c.args.board.now ask c.args.begun c.args.job.pass c.into_bare.result c.new-desk.result desk from to
          worked.board.later.name c.into_bare.ensures.sound ours c.requires.job.pass;
      found = subst (λ p. HasView m ask c.args.begun p.view (c.in_ok-end.end ≡ Full) (c.into_turns.result ∷ [])) (sym to)
          (seen_later m ask c.args.begun (seen_by m desk.pass.view) (seen_by m desk.pass.view) (λ row key. known_key desk.pass.view.keys row ≡ Some key)
          (rows_of desk.pass.view) (λ side key. looser_refl side (seen_by m desk.pass.view side key)) (has_key_of desk.pass.view.keys)
          (c.in_ok-end.end ≡ Full) (c.into_turns.result ∷ []) at_game);
    }
