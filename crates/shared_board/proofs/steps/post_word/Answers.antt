use Rattle.std.proofs.Common.{ℕ, refl, sym, ap, ◌∙◌, subst, arith}
use Rattle.sim_game.specs.declared.Side.{Side}
use Rattle.sim_game.specs.declared.Side.TheVariants.{One, Two}
use Rattle.shared_board.specs.Plays.{MayPost}
use Rattle.shared_board.proofs.BoundLemmas.{posts}
use Rattle.shared_board.proofs.steps.post_word.Goals as goal

pub fetch_max-requires : goal.fetch_max-requires
fetch_max-requires g c = let size = c.requires.board in let key = c.args.words.now.key in let l = c.requires.post.inside in
    let may = subst (λ (y : ℕ × Side). MayPost (g.G.Game.model key.0) y.0 y.1 c.args.seat.now.me.0 c.args.row c.args.bound) (λ k. (sym size.0 k, c.in-One.is k)) c.requires.post in (
      c.requires.seat.0,
      omega arith,
      posts g.G.Game.model key.0 key.1 (g.met.G.Game.lawful key.0) c.args.words.now.table_id.slots c.args.seat.now.id c.args.seat.now.me One
          c.args.row c.args.bound may,
    )

pub fetch_min-requires : goal.fetch_min-requires
fetch_min-requires g c = let size = c.requires.board in let key = c.args.words.now.key in let l = c.requires.post.inside in
    let may = subst (λ (y : ℕ × Side). MayPost (g.G.Game.model key.0) y.0 y.1 c.args.seat.now.me.0 c.args.row c.args.bound) (λ k. (sym size.0 k, c.in-Two.is k)) c.requires.post in (
      c.requires.seat.0,
      omega arith,
      posts g.G.Game.model key.0 key.1 (g.met.G.Game.lawful key.0) c.args.words.now.table_id.slots c.args.seat.now.id c.args.seat.now.me Two
          c.args.row c.args.bound may,
    )

pub returns-in-One : goal.returns-in-One
returns-in-One g c = let did = c.fetch_max.ensures in let here = did.2.2 c.args.row refl in record {
  seat = ((did.0 ∙ c.requires.seat.0, (λ e. c.requires.seat.1 (sym (ap (λ v. v.tickets) here.0) ∙ e)), did.2.0 ∙ c.requires.seat.2), did.1);
  view = rw c.in-One.is (c.fetch_max.result, here.0, here.1);
}

pub returns-in-Two : goal.returns-in-Two
returns-in-Two g c = let did = c.fetch_min.ensures in let here = did.2.2 c.args.row refl in record {
  seat = ((did.0 ∙ c.requires.seat.0, (λ e. c.requires.seat.1 (sym (ap (λ v. v.tickets) here.0) ∙ e)), did.2.0 ∙ c.requires.seat.2), did.1);
  view = rw c.in-Two.is (c.fetch_min.result, here.0, here.1);
}
