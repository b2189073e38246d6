use Rattle.std.proofs.Common.{rules, ◌≡◌, ℕ, ◌≤◌, sym, ap, ◌∙◌, subst, arith, List, length, Some, true}
use Rattle.plan_book.specs.declared.Entry.{Entry}
use Rattle.plan_book.specs.Books.{IsClosed}
use Rattle.shared_board.specs.Words.{bound_in_row}
use Rattle.shared_board.specs.Closing.{kept_rows, AreKeptRows}
use Rattle.shared_board.specs.declared.view.View.{View}
use Rattle.shared_board.specs.declared.close.Kept.{Kept}
use Rattle.shared_board.proofs.CloseLemmas.{closes, book_closed, just_whole}
use Rattle.shared_board.proofs.BoundLemmas.{word_in_range}
use Rattle.shared_board.proofs.PassLemmas.{word_small}
use Rattle.shared_board.proofs.board.Board.close.Goals as goal

pub keep_rows-requires-clause-bounds : goal.keep_rows-requires-clause-bounds
keep_rows-requires-clause-bounds g c side i l = let did = c.close_with-closed.ensures.values.2 in let key = c.self.inside.words.shared.key in
    let laws = g.met.G.Game.lawful key.0 in
    let rows : key.1 ≡ c.self.inside.rows = ap (λ k. k.1) c.self.invariant.0 in
    let small = word_small (g.G.Game.model key.0) laws (bound_in_row did.0.words side i)
    (word_in_range (g.G.Game.model key.0) key.0 key.1 laws did.0 did.1.0 side i (omega arith)) in
    subst (λ (ws : List ℕ). bound_in_row ws side i ≤ 8000000000) did.2 small

pub returns : goal.returns
returns g c = let did = c.close_with-closed.ensures.values.2 in let key = c.self.inside.words.shared.key in let p = c.pass.invariant in let seat = c.pass.inside.bare.seat in
    let v = seat.me.0 in let book = c.pass.inside.bare.book in
    let laws = g.met.G.Game.lawful key.0 in let m = g.G.Game.model key.0 in
    let lead : v.lead ≡ true = search rules in let d = p.issues in let h = p.holds in let few = p.few in let enough = c.if-pass.false in let whole : v.issued ≤ length v.tickets =
    omega arith in
    let game : key.0 ≡ c.args.self.game = search rules in let rows : key.1 ≡ c.args.self.rows = search rules in let inner : key.1 ≡ c.self.inside.rows = search rules in
    let view : v ≡ c.args.pass.view = search rules in let total : book.total ≡ c.args.pass.total = search rules in let entries : book.entries ≡ c.args.pass.entries =
    search rules in
    let is : v.game ≡ Some key.0 = search rules in let told = p.told key.0 is in
    let kept : kept_rows did.0.words key.1 ≡ c.keep_rows.new.kept.items = (λ k. kept_rows (did.2 k) (inner k)) ∙ sym c.keep_rows.ensures in record {
      whole = subst (λ (u : View g.row.G.Denot). length u.tickets ≡ u.issued) view
          (just_whole m laws key.0 key.1 did.0 did.1.0 seat.id v did.1.1 lead whole book.total book.entries told);
      total = search rules;
      entries = search rules;
      closed = subst (λ (y : g.row.G.Denot × ℕ × List Entry). IsClosed (g.G.Game.model y.0) y.1 y.2) (λ k. (game k, total k, entries k))
          (book_closed m laws key.0 key.1 did.0 did.1.0 seat.id v did.1.1 lead whole book.total book.entries told);
      kept = rw c.from_vec.ensures
          (subst (λ (y : g.row.G.Denot × ℕ × View g.row.G.Denot × List Entry × List Kept). AreKeptRows (g.G.Game.model y.0) y.1 y.2 y.3 y.4)
          (λ k. (game k, rows k, view k, entries k, kept k)) (closes m laws key.0 key.1 did.0 did.1.0 seat.id v did.1.1 lead whole book.total book.entries told));
      err = tt;
    }
