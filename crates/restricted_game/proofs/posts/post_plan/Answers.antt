use Rattle.std.proofs.Common.{◌≡◌, rules, List, ◌∷◌, [], ◌++◌, w64, SFits, sym, ap, subst, ◌∙◌}
use Rattle.std.proofs.lemmas.Int.{to_z-of_z}
use Rattle.sim_game.proofs.SideLemmas.{looser_right, looser_trans, tighter_than}
use Rattle.sim_game.specs.Sides.{IsNoTighter}
use Rattle.plan_book.specs.declared.Entry.{Entry}
use Rattle.plan_book.specs.Entries.{IsLawfulEntry}
use Rattle.bounds_board.specs.Views.{BoardView, IsPostable}
use Rattle.bounds_board.proofs.KnownLemmas.{seen_known}
use Rattle.bounds_board.proofs.ViewLemmas.{later_trans}
use Rattle.restricted_game.specs.Runs.{posts}
use Rattle.restricted_game.specs.Tables.{side_entry}
use Rattle.restricted_game.proofs.NodeLemmas.{better_read}
use Rattle.restricted_game.proofs.PostLemmas.{postable_later, postable_lawful, grows_none, grows_one}
use Rattle.restricted_game.proofs.posts.post_plan.Goals as goal

pub returns-then-not-is_tighter-clause-known : goal.returns-then-not-is_tighter-clause-known
returns-then-not-is_tighter-clause-known g c =
    let b : SFits w64 c.args.plan.bound = search rules in
    let k : SFits w64 c.of-known.result = search rules in
    let known = c.of-known.ensures ∙ c.known_bounds.ensures.known c.args.side in
    looser_right c.args.side _ _ _ known (rw (to_z-of_z w64 c.args.plan.bound b, to_z-of_z w64 c.of-known.result k) at c.if-not-is_tighter.ensures)

pub post-requires-clause-row : goal.post-requires-clause-row
post-requires-clause-row g c = rw c.entry_of.ensures (c.known_bounds.ensures.later.keys c.args.node.row _ c.requires.here.holds)

pub post-requires-clause-entry : goal.post-requires-clause-entry
post-requires-clause-entry g c =
    let m = g.G.Game.model c.args.g in
    rw (c.known_bounds.ensures.later.game ∙ c.requires.here.game)
    (subst (IsPostable m (g.B.Bounds.view c.known_bounds.new.board)) (sym c.entry_of.ensures) (postable_later m _ _ _ c.known_bounds.ensures.later c.requires.entry))

pub returns-then-not-is_tighter-clause-better : goal.returns-then-not-is_tighter-clause-better
returns-then-not-is_tighter-clause-better g c = better_read (g.G.Game.model c.args.g) _ _ c.known_bounds.ensures.later c.known_bounds.ensures.entries

pub returns-in-Ok-clause-better : goal.returns-in-Ok-clause-better
returns-in-Ok-clause-better g c =
    let m = g.G.Game.model c.args.g in
    let u = g.B.Bounds.view c.args.board.now in
    record {
      later = later_trans _ _ _ c.known_bounds.ensures.later c.post.ensures.later;
      posted = grows_one (IsLawfulEntry m u.total) _ _ c.entry_of.result (subst (IsLawfulEntry m u.total) (sym c.entry_of.ensures) (postable_lawful m u _ c.requires.entry))
          (c.in-Ok.ensures.ok ∙ ap (λ (l : List Entry). l ++ c.entry_of.result ∷ []) c.known_bounds.ensures.entries);
    }

pub returns-in-Ok-clause-posted : goal.returns-in-Ok-clause-posted
returns-in-Ok-clause-posted g c =
    let m = g.G.Game.model c.args.g in
    let s = c.args.node.state in
    let b : SFits w64 c.args.plan.bound = search rules in
    let k : SFits w64 c.of-known.result = search rules in
    let known = c.of-known.ensures ∙ c.known_bounds.ensures.known c.args.side in
    let tight = rw (to_z-of_z w64 c.args.plan.bound b, to_z-of_z w64 c.of-known.result k) at c.if-not-is_tighter.ensures in
    posts (tighter_than c.args.side _ _ _ tight (looser_right c.args.side _ _ _ (sym known)
    (looser_trans c.args.side _ _ _ (c.known_bounds.ensures.later.seen c.args.side (m.key s)) (seen_known m (g.B.Bounds.view c.known_bounds.new.board) c.args.side s))))
    (rw c.entry_of.ensures at (c.in-Ok.ensures.ok ∙ ap (λ (l : List Entry). l ++ c.entry_of.result ∷ []) c.known_bounds.ensures.entries))

pub returns-in-Ok-clause-only : goal.returns-in-Ok-clause-only
returns-in-Ok-clause-only g c =
    let m = g.G.Game.model c.args.g in
    grows_one (λ (e : Entry). e ≡ side_entry m c.args.side c.args.node.state c.args.plan) _ _ c.entry_of.result c.entry_of.ensures
    (c.in-Ok.ensures.ok ∙ ap (λ (l : List Entry). l ++ c.entry_of.result ∷ []) c.known_bounds.ensures.entries)

pub returns-in-Ok-clause-known : goal.returns-in-Ok-clause-known
returns-in-Ok-clause-known g c =
    let m = g.G.Game.model c.args.g in
    let s = c.args.node.state in
    let w = g.B.Bounds.view c.post.new.self in
    let seen : IsNoTighter c.args.side c.args.plan.bound (w.seen c.args.side (m.key s)) =
    subst (λ (e : Entry). IsNoTighter e.side e.bound (w.seen e.side e.key)) c.entry_of.ensures c.in-Ok.ensures.seen in
    looser_trans c.args.side _ _ _ seen (seen_known m w c.args.side s)

pub returns-in-Err-clause-better : goal.returns-in-Err-clause-better
returns-in-Err-clause-better g c = better_read (g.G.Game.model c.args.g) _ _ (later_trans _ _ _ c.known_bounds.ensures.later c.post.ensures.later)
    (ap (λ (v : BoardView _ _). v.entries) c.in-Err.ensures.err ∙ c.known_bounds.ensures.entries)

pub returns-in-Err-clause-only : goal.returns-in-Err-clause-only
returns-in-Err-clause-only g c = grows_none _ _ _ (ap (λ (v : BoardView _ _). v.entries) c.in-Err.ensures.err ∙ c.known_bounds.ensures.entries)
