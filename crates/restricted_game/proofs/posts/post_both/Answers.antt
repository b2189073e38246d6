use Rattle.std.proofs.Common.{◌≡◌, ◌⊎◌, inl, inr}
use Rattle.sim_game.specs.declared.Side.TheVariants.{One, Two}
use Rattle.sim_game.proofs.SideLemmas.{looser_trans}
use Rattle.bounds_board.proofs.KnownLemmas.{known_later}
use Rattle.plan_book.specs.declared.Entry.{Entry}
use Rattle.restricted_game.specs.Tables.{side_entry}
use Rattle.restricted_game.proofs.NodeLemmas.{node_later, better_trans}
use Rattle.restricted_game.proofs.PostLemmas.{grows_after, grows_weaker, postable_later, posted_earlier}
use Rattle.restricted_game.proofs.posts.post_both.Goals as goal

pub post_plan-requires-2-clause-entry : goal.post_plan-requires-2-clause-entry
post_plan-requires-2-clause-entry g c = postable_later (g.G.Game.model c.args.g) _ _ _ c.post_plan.ensures.better.later c.requires.two

pub returns-in_err-post_plan-2-clause-better : goal.returns-in_err-post_plan-2-clause-better
returns-in_err-post_plan-2-clause-better g c = better_trans (g.G.Game.model c.args.g) _ _ _ c.post_plan.ensures.better c.post_plan-2.ensures.better

pub returns-clause-better : goal.returns-clause-better
returns-clause-better g c = better_trans (g.G.Game.model c.args.g) _ _ _ c.post_plan.ensures.better c.post_plan-2.ensures.better

pub returns-clause-posted : goal.returns-clause-posted
returns-clause-posted g c =
    let m = g.G.Game.model c.args.g in
    record {
      between = (g.B.Bounds.view c.post_plan.new.board).entries;
      one_posted = c.in_ok-post_plan.ensures.posted;
      two_posted = posted_earlier _ _ _ _ _ c.post_plan.ensures.better.later c.in_ok-post_plan-2.ensures.posted;
      one_known = looser_trans One _ _ _ c.in_ok-post_plan.ensures.known
          (known_later m (g.B.Bounds.view c.post_plan.new.board) (g.B.Bounds.view c.post_plan-2.new.board) One c.args.node.state c.post_plan-2.ensures.better.later);
      two_known = c.in_ok-post_plan-2.ensures.known;
    }

pub returns-in_err-post_plan-clause-only : goal.returns-in_err-post_plan-clause-only
returns-in_err-post_plan-clause-only g c =
    let m = g.G.Game.model c.args.g in
    let one = side_entry m One c.args.node.state c.args.plans.one in
    let two = side_entry m Two c.args.node.state c.args.plans.two in
    grows_weaker (λ (e : Entry). e ≡ one) (λ (e : Entry). e ≡ one ⊎ e ≡ two) _ _ (λ e is. inl is) c.post_plan.ensures.only

pub returns-in_err-post_plan-2-clause-only : goal.returns-in_err-post_plan-2-clause-only
returns-in_err-post_plan-2-clause-only g c =
    let m = g.G.Game.model c.args.g in
    let one = side_entry m One c.args.node.state c.args.plans.one in
    let two = side_entry m Two c.args.node.state c.args.plans.two in
    grows_after (λ (e : Entry). e ≡ one ⊎ e ≡ two) _ _ _
    (grows_weaker (λ (e : Entry). e ≡ one) (λ (e : Entry). e ≡ one ⊎ e ≡ two) _ _ (λ e is. inl is) c.post_plan.ensures.only)
    (grows_weaker (λ (e : Entry). e ≡ two) (λ (e : Entry). e ≡ one ⊎ e ≡ two) _ _ (λ e is. inr is) c.post_plan-2.ensures.only)

pub returns-clause-only : goal.returns-clause-only
returns-clause-only g c =
    let m = g.G.Game.model c.args.g in
    let one = side_entry m One c.args.node.state c.args.plans.one in
    let two = side_entry m Two c.args.node.state c.args.plans.two in
    grows_after (λ (e : Entry). e ≡ one ⊎ e ≡ two) _ _ _
    (grows_weaker (λ (e : Entry). e ≡ one) (λ (e : Entry). e ≡ one ⊎ e ≡ two) _ _ (λ e is. inl is) c.post_plan.ensures.only)
    (grows_weaker (λ (e : Entry). e ≡ two) (λ (e : Entry). e ≡ one ⊎ e ≡ two) _ _ (λ e is. inr is) c.post_plan-2.ensures.only)

pub post_plan-requires-2-clause-here : goal.post_plan-requires-2-clause-here
post_plan-requires-2-clause-here g c = node_later _ _ _ _ _ _ c.post_plan.ensures.better.later c.requires.here
