use Rattle.std.proofs.Common.{rules, ◌≡◌, ℕ, ◌||◌, ◌++◌, sym, ap, ◌∙◌, subst, arith}
use Rattle.std.proofs.lemmas.Bool.{or_left}
use Rattle.shared_board.specs.Passes.{IsPass, KnowsNoLess}
use Rattle.shared_board.proofs.SeatLemmas.{keeps_join}
use Rattle.sim_game.specs.declared.Side.{Side}
use Rattle.shared_board.specs.declared.view.View.{View}
use Rattle.shared_board.proofs.PassLemmas.{pass_joined, long_both, knows_left, knows_right}
use Rattle.shared_board.proofs.board.Board.join.Goals as goal
use Rattle.shared_board.proofs.board.Board.join.Goals.{then-pass, else-pass}

pub join_seat-requires : goal.join_seat-requires
join_seat-requires g c = let key = c.self.inside.words.shared.key in let b = c.self.invariant in (
  search rules,
  search rules,
  search rules,
  omega arith,
  keeps_join (g.G.Game.model key.0) key.0 key.1 c.pass.inside.bare.seat.id c.other.inside.bare.seat.id
      c.pass.inside.bare.seat.me.0 c.other.inside.bare.seat.me.0 c.pass.invariant.holder c.other.invariant.holder,
)

pub invariant_of-pass-2 : goal.invariant_of-pass-2
invariant_of-pass-2 g c = let mine = c.pass.inside.bare in let theirs = c.other.inside.bare in
    let same : theirs.seat.table_id ≡ mine.seat.table_id = search rules in
    let game : mine.seat.me.0.game ≡ theirs.seat.me.0.game = search rules in
    let total : c.join.new.self.total ≡ mine.book.total = search rules in
    let total' : theirs.book.total ≡ mine.book.total = search rules in
    let entries : c.join.new.self.entries ≡ mine.book.entries ++ theirs.book.entries = search rules in
    let leads : c.if-pass.pass ≡ (mine.lead || theirs.lead) = elim c.if-pass.branch [
      | then-pass w ↦ w.pass-is ∙ (w.if-pass.true ∙ sym (or_left mine.lead theirs.lead w.if-pass.true))
      | else-pass w ↦ w.pass-is
          ∙ sym (ap (λ l. l || theirs.lead) w.if-pass.false)
    ] in
    let q = subst (λ (z : ℕ × ℕ). IsPass g.G.Game.model z.0 theirs.seat.me.0 theirs.seat.me.1 z.1 theirs.book.entries theirs.lead theirs.issued theirs.held)
    (λ k. ((same k).words, total' k)) c.other.invariant in
    subst (λ (z : ℕ). IsPass g.G.Game.model c.join_seat.new.seat.table_id.words c.join_seat.new.seat.me.0 c.join_seat.new.seat.me.1 z c.join.new.self.entries c.if-pass.pass
    c.max-pass-inside.result c.saturating_add-pass-inside.result) (sym total)
    (pass_joined g.G.Game.model _ _ _ _ _ _ _ _ _ _ _ _ _ _ _ _ _ _ _ _ c.pass.invariant q game c.join_seat.ensures.2 (ap (λ z. z.words) c.join_seat.ensures.0) entries leads
    c.max-pass-inside.ensures c.saturating_add-pass-inside.ensures)

pub returns-clause-mine : goal.returns-clause-mine
returns-clause-mine g c = let mine = c.pass.inside.bare in let theirs = c.other.inside.bare in let m = g.G.Game.model c.args.self.now.game in
    let same : theirs.seat.table_id ≡ mine.seat.table_id = search rules in
    let long = λ (side : Side). long_both g.G.Game.model _ _ _ _ _ _ _ _ _ _ _ _ _ _ _ _ c.pass.invariant c.other.invariant (ap (λ z. z.words) (sym same)) side in
    let view : mine.seat.me.0 ≡ c.args.pass.now.view = search rules in
    subst (λ (y : View g.row.G.Denot × View g.row.G.Denot). KnowsNoLess m y.0 y.1) (λ k. (view k, (sym c.join_seat.ensures.2 k).0))
    (knows_left m mine.seat.me.0 theirs.seat.me.0 long)

pub returns-clause-theirs : goal.returns-clause-theirs
returns-clause-theirs g c = let mine = c.pass.inside.bare in let theirs = c.other.inside.bare in let m = g.G.Game.model c.args.self.now.game in
    let same : theirs.seat.table_id ≡ mine.seat.table_id = search rules in
    let long = λ (side : Side). long_both g.G.Game.model _ _ _ _ _ _ _ _ _ _ _ _ _ _ _ _ c.pass.invariant c.other.invariant (ap (λ z. z.words) (sym same)) side in
    let view : theirs.seat.me.0 ≡ c.args.other.view = search rules in
    subst (λ (y : View g.row.G.Denot × View g.row.G.Denot). KnowsNoLess m y.0 y.1) (λ k. (view k, (sym c.join_seat.ensures.2 k).0))
    (knows_right m mine.seat.me.0 theirs.seat.me.0 long)
