-- Views that know more and more.
use Rattle.std.proofs.Common.{◌≡◌, ℤ, refl, sym, ◌∙◌, subst}
use Rattle.sim_game.specs.declared.Side.{Side}
use Rattle.sim_game.specs.Model.{GameModel}
use Rattle.sim_game.proofs.SideLemmas.{looser_refl, looser_trans}
use Rattle.bounds_board.specs.Views.{BoardView, IsLater, IsSeenNumber, by_end, by_range, by_seen}

pub later_refl : {G N : Type 0} (v : BoardView G N) → IsLater v v
later_refl v = record {
  name = refl;
  game = refl;
  total = refl;
  rows = refl;
  keys = λ row key e. e;
  seen = λ side key. looser_refl side (v.seen side key);
}

pub later_trans : {G N : Type 0} (u v w : BoardView G N) → IsLater u v → IsLater v w → IsLater u w
later_trans u v w p q = record {
  name = q.name ∙ p.name;
  game = q.game ∙ p.game;
  total = q.total ∙ p.total;
  rows = q.rows ∙ p.rows;
  keys = λ row key e. q.keys row key (p.keys row key e);
  seen = λ side key. looser_trans side (u.seen side key) (v.seen side key) (w.seen side key) (p.seen side key) (q.seen side key);
}

pub later_same : {G N : Type 0} (v w : BoardView G N) → w ≡ v → IsLater v w
later_same v w e = subst (λ (z : BoardView _ _). IsLater v z) (sym e) (later_refl v)

-- a number that was seen stays one
pub seen_later : {S G N : Type 0} (m : GameModel S) (v w : BoardView G N) (side : Side) (s : S) (x : ℤ) → IsLater v w → IsSeenNumber m v side s x → IsSeenNumber m w side s x
seen_later m v w side s x l (by_end e h) = by_end e h
seen_later m v w side s x l (by_range h) = by_range h
seen_later m v w side s x l (by_seen h) = by_seen (looser_trans side x (v.seen side (m.key s)) (w.seen side (m.key s)) h (l.seen side (m.key s)))
