use Rattle.std.proofs.Common.{refl, sym, ap, ◌∙◌, subst, arith}
use Rattle.sim_game.specs.declared.Side.TheVariants.{One, Two}
use Rattle.shared_board.specs.Plays.{IsApart}
use Rattle.shared_board.specs.declared.view.View.{View}
use Rattle.shared_board.proofs.BoundLemmas.{reads}
use Rattle.shared_board.proofs.steps.load_word.Goals as goal

pub load-requires : goal.load-requires
load-requires g c = let size = c.requires.board in let l = c.requires.row in let key = c.args.words.now.key in (
  c.requires.seat.0,
  omega arith,
  reads g.G.Game.model key.0 key.1 (g.met.G.Game.lawful key.0) c.args.words.now.table_id.slots c.args.seat.now.id c.args.seat.now.me One
      c.args.row c.requires.seat.1 (omega arith),
)

pub returns-in-One : goal.returns-in-One
returns-in-One g c = let did = c.load.ensures in let here = did.2.2 c.args.row refl in record {
  seat = ((did.0 ∙ c.requires.seat.0, (λ e. c.requires.seat.1 (sym (ap (λ v. v.tickets) here.0) ∙ e)), did.2.0 ∙ c.requires.seat.2), did.1);
  view = rw c.in-One.is here.0;
  apart = subst (λ (v : View g.row.G.Denot). IsApart v.keys) here.0 did.2.1;
  told = rw c.in-One.is here.1;
}

pub load-requires-in-Two : goal.load-requires-in-Two
load-requires-in-Two g c = let size = c.requires.board in let l = c.requires.row in let key = c.args.words.now.key in (
  c.requires.seat.0,
  omega arith,
  reads g.G.Game.model key.0 key.1 (g.met.G.Game.lawful key.0) c.args.words.now.table_id.slots c.args.seat.now.id c.args.seat.now.me Two
      c.args.row c.requires.seat.1 (omega arith),
)

pub returns-in-Two : goal.returns-in-Two
returns-in-Two g c = let did = c.load-in-Two.ensures in let here = did.2.2 c.args.row refl in record {
  seat = ((did.0 ∙ c.requires.seat.0, (λ e. c.requires.seat.1 (sym (ap (λ v. v.tickets) here.0) ∙ e)), did.2.0 ∙ c.requires.seat.2), did.1);
  view = rw c.in-Two.is here.0;
  apart = subst (λ (v : View g.row.G.Denot). IsApart v.keys) here.0 did.2.1;
  told = rw c.in-Two.is here.1;
}
