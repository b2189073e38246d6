use Rattle.std.proofs.Common.{rules, ◌≡◌, ℕ, [], ◌∷◌, ◌++◌, refl, sym, ap, ◌∙◌, subst, arith, Some, length}
use Rattle.plan_book.specs.Entries.{IsEntry}
use Rattle.plan_book.proofs.BookLemmas.{few_weights}
use Rattle.shared_board.specs.Rule.{Has, seen, seen_at}
use Rattle.shared_board.specs.Words.{word_of, IsLooser}
use Rattle.shared_board.specs.Plays.{MayPost, posting, AllNamed}
use Rattle.shared_board.specs.Passes.{IsPass, IsKnown}
use Rattle.shared_board.specs.declared.view.View.{View}
use Rattle.shared_board.proofs.ClaimLemmas.{game_is}
use Rattle.shared_board.proofs.DeskLemmas.{known_entry}
use Rattle.shared_board.proofs.PassLemmas.{pass_posted, entry_small, entry_in_range, entry_proved}
use Rattle.shared_board.proofs.desk.Desk.post_entry.Goals as goal

pub word_of_bound-bound-requires-clause-low : goal.word_of_bound-bound-requires-clause-low
word_of_bound-bound-requires-clause-low g c = let game = c.args.self.now.board.game in
    (entry_small (g.G.Game.model game) (g.met.G.Game.lawful game) c.args.e _ _ c.requires.lawful).0

pub word_of_bound-bound-requires-clause-high : goal.word_of_bound-bound-requires-clause-high
word_of_bound-bound-requires-clause-high g c = let game = c.args.self.now.board.game in
    (entry_small (g.G.Game.model game) (g.met.G.Game.lawful game) c.args.e _ _ c.requires.lawful).1

pub post_word-requires-clause-post : goal.post_word-requires-clause-post
post_word-requires-clause-post g c = let seat = c.pass.inside.bare.seat in let e = c.args.e in let game = c.args.self.now.board.game in let m = g.G.Game.model game in let laws =
    g.met.G.Game.lawful game in
    let view : seat.me.0 ≡ c.args.self.now.pass.view = search rules in let key : game ≡ c.board.inside.words.shared.key.0 = search rules in
    let bound : word_of e.bound ≡ c.word_of_bound-bound.result = search rules in
    let known = subst (λ (v : View g.row.G.Denot). Has (c.args.row, e.key) v.keys) (sym view) c.requires.known in let x = c.pass.invariant.inside c.args.row e.key known in
    let same : seat.table_id ≡ c.board.inside.words.shared.table_id = search rules in let words = ap (λ z. z.words) same ∙ c.board.invariant.1 in
    let here : c.place.result ≡ c.args.row = c.place.ensures in
    subst (λ (y : g.row.G.Denot × ℕ × ℕ). MayPost (g.G.Game.model y.0) c.board.inside.rows e.side seat.me.0 y.1 y.2) (λ k. (key k, sym here k, bound k)) (record {
      holder = c.pass.invariant.holder;
      inside = omega arith;
      key = e.key;
      known = known;
      in_range = entry_in_range m laws e _ _ c.requires.lawful;
      proved = entry_proved m laws e _ _ c.requires.lawful;
    })

pub push-requires-clause-few : goal.push-requires-clause-few
push-requires-clause-few g c = few_weights _ (g.met.G.Game.lawful c.args.self.now.board.game) _ _ c.args.e c.requires.lawful

pub invariant_of-pass-2 : goal.invariant_of-pass-2
invariant_of-pass-2 g c = let seat = c.pass.inside.bare.seat in let book = c.pass.inside.bare.book in let e = c.args.e in let desk = c.args.self.now in let game =
    desk.board.game in let m = g.G.Game.model in let did = c.post_word.ensures in
    let view : seat.me.0 ≡ desk.pass.view = search rules in let is : seat.me.0.game ≡ Some game = search rules in let same : seat.table_id ≡ c.board.inside.words.shared.table_id =
    search rules in
    let total : c.push.new.self.total ≡ book.total = search rules in let whole : desk.board.total ≡ book.total = search rules in
    let entries : c.push.new.self.entries ≡ book.entries ++ e ∷ [] = search rules in
    let bound : c.word_of_bound-bound.result ≡ word_of e.bound = search rules in let here : c.place.result ≡ c.args.row = c.place.ensures in
    let there = subst (λ (y : ℕ × View g.row.G.Denot). Has (y.0, e.key) y.1.keys) (λ k. (sym here k, sym view k)) c.requires.known in
    let named = subst (λ (v : View g.row.G.Denot). AllNamed (m game) v.keys) view (c.pass.invariant.told game is).named in
    let lawful = known_entry (m game) (g.met.G.Game.lawful game) desk.pass.view named _ e (λ side key. refl) c.requires.lawful in
    let now : c.post_word.new.seat.me.0 ≡ posting e.side seat.me.0 c.place.result (word_of e.bound) did.view.0 =
    did.view.1 ∙ ap (λ (y : ℕ). posting e.side seat.me.0 c.place.result y did.view.0) bound in
    subst (λ (t : ℕ). IsPass m c.post_word.new.seat.table_id.words c.post_word.new.seat.me.0 c.post_word.new.seat.me.1 t c.push.new.self.entries c.pass.inside.bare.lead
    c.pass.inside.bare.issued c.pass.inside.bare.held) (sym total)
    (pass_posted m _ _ _ _ _ _ _ _ _ _ c.post_word.new.seat.me c.board.inside.rows c.place.result did.view.0 e c.pass.invariant now did.seat.0.2
    (ap (λ z. z.words) (did.seat.0.0 ∙ sym same)) (ap (λ z. z.words) same ∙ c.board.invariant.1) did.view.2 entries there
    (λ h other. subst (λ (y : g.row.G.Denot × ℕ × View g.row.G.Denot). IsEntry (m y.0) y.1 (IsKnown (m y.0) y.2) e) (λ k. (game_is game h (sym is ∙ other) k, whole k, sym view k))
    lawful))

pub returns-clause-ok : goal.returns-clause-ok
returns-clause-ok g c = let seat = c.pass.inside.bare.seat in let e = c.args.e in let desk = c.args.self.now in let game = desk.board.game in let m = g.G.Game.model in let did =
    c.post_word.ensures in
    let view : seat.me.0 ≡ desk.pass.view = search rules in let is : seat.me.0.game ≡ Some game = search rules in let rows : c.board.inside.rows ≡ desk.board.rows = search rules in
    let known = subst (λ (v : View g.row.G.Denot). Has (c.args.row, e.key) v.keys) (sym view) c.requires.known in let x = c.pass.invariant.inside c.args.row e.key known in let y =
    c.pass.invariant.shaped e.side in
    let same : seat.table_id ≡ c.board.inside.words.shared.table_id = search rules in let words = ap (λ z. z.words) same ∙ c.board.invariant.1 in
    let long : length (seen e.side seat.me.0) ≡ desk.board.rows = omega arith in
    let bound : c.word_of_bound-bound.result ≡ word_of e.bound = search rules in let here : c.place.result ≡ c.args.row = c.place.ensures in
    let now : c.post_word.new.seat.me.0 ≡ posting e.side desk.pass.view c.args.row (word_of e.bound) did.view.0 =
    did.view.1 ∙ (λ k. posting e.side (view k) (here k) (bound k) did.view.0) in
    let total : c.push.new.self.total ≡ desk.pass.total = search rules in let entries : c.push.new.self.entries ≡ desk.pass.entries ++ e ∷ [] = search rules in
    let name : c.post_word.new.seat.table_id ≡ desk.pass.name = search rules in let board : c.self.inside.board.now ≡ desk.board = search rules in (
      did.view.0,
      (λ k. record { board = board k; pass = record { name = name k; view = now k; total = total k; entries = entries k } }),
      subst (λ (y : View g.row.G.Denot × ℕ). IsLooser e.side (seen_at (m game) e.side y.0 y.1) did.view.0) (λ k. (view k, here k)) (did.view.2 game is).no_looser,
      omega arith,
      subst (λ (v : View g.row.G.Denot). length (seen e.side v) ≡ desk.board.rows) view long,
    )
