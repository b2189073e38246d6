use Rattle.std.proofs.Common.{rules, ◌≡◌, ℕ, sym, ap, ◌∙◌, subst, arith, Some, length, ℤ, w64, to_z, of_z}
use Rattle.std.proofs.lemmas.Int.{ints}
use Rattle.sim_game.specs.declared.Side.TheVariants.{One, Two}
use Rattle.shared_board.specs.Rule.{Has, seen}
use Rattle.shared_board.specs.Words.{as_bound}
use Rattle.shared_board.specs.Plays.{IsBound}
use Rattle.shared_board.specs.Passes.{IsBoundAnswer}
use Rattle.shared_board.specs.declared.view.View.{View}
use Rattle.shared_board.proofs.PassLemmas.{pass_reading, answers}
use Rattle.shared_board.proofs.desk.Desk.read_row.Goals as goal

pub load_word-lower-requires-clause-row : goal.load_word-lower-requires-clause-row
load_word-lower-requires-clause-row g c = let seat = c.pass.inside.bare.seat in let view : seat.me.0 ≡ c.args.self.now.pass.view = search rules in
    let same : seat.table_id ≡ c.board.inside.words.shared.table_id = search rules in
    let x = c.pass.invariant.inside c.args.row c.requires.0 (subst (λ (v : View g.row.G.Denot). Has (c.args.row, c.requires.0) v.keys) (sym view) c.requires.1) in
    let words = ap (λ z. z.words) same ∙ c.board.invariant.1 in let here : c.place-place.result ≡ c.args.row = c.place-place.ensures in omega arith

pub load_word-upper-requires-clause-row : goal.load_word-upper-requires-clause-row
load_word-upper-requires-clause-row g c = let seat = c.pass.inside.bare.seat in let view : seat.me.0 ≡ c.args.self.now.pass.view = search rules in
    let same : seat.table_id ≡ c.board.inside.words.shared.table_id = search rules in
    let x = c.pass.invariant.inside c.args.row c.requires.0 (subst (λ (v : View g.row.G.Denot). Has (c.args.row, c.requires.0) v.keys) (sym view) c.requires.1) in
    let words = ap (λ z. z.words) same ∙ c.board.invariant.1 in let here : c.place-place.result ≡ c.args.row = c.place-place.ensures in omega arith

pub invariant_of-pass : goal.invariant_of-pass
invariant_of-pass g c = let seat = c.pass.inside.bare.seat in let view : seat.me.0 ≡ c.args.self.now.pass.view = search rules in
    let same : seat.table_id ≡ c.board.inside.words.shared.table_id = search rules in
    let there = subst (λ (y : ℕ × View g.row.G.Denot). Has (y.0, c.requires.0) y.1.keys) (λ k. (sym c.place-place.ensures k, sym view k)) c.requires.1 in let a =
    c.load_word-lower.ensures in let b = c.load_word-upper.ensures in
    let mid : c.load_word-lower.new.seat.table_id.words ≡ seat.table_id.words = ap (λ z. z.words) (a.seat.0.0 ∙ sym same) in let words = ap (λ z. z.words) same
    ∙ c.board.invariant.1 in
    let first = pass_reading g.G.Game.model _ _ _ _ _ _ _ _ _ c.load_word-lower.new.seat.me _ _ _ _ c.requires.0 there c.pass.invariant a.view a.seat.0.2 mid words a.told in
    let still = subst (λ (v : View g.row.G.Denot). Has (c.place-place.result, c.requires.0) v.keys) (sym a.view) there in
    pass_reading g.G.Game.model _ _ _ _ _ _ _ _ _ c.load_word-upper.new.seat.me _ _ _ _ c.requires.0 still first b.view b.seat.0.2 (ap (λ z. z.words) (b.seat.0.0 ∙ sym a.seat.0.0))
    (mid ∙ words) b.told

pub returns : goal.returns
returns g c = let seat = c.pass.inside.bare.seat in let game = c.args.self.now.board.game in let laws = g.met.G.Game.lawful game in let step = c.load_word-lower.ensures.view in
    let view : seat.me.0 ≡ c.args.self.now.pass.view = search rules in let is : seat.me.0.game ≡ Some game = search rules in let here : c.place-place.result ≡ c.args.row =
    c.place-place.ensures in
    let low = c.load_word-lower.ensures.told game is in
    let up = subst (λ (v : View g.row.G.Denot). IsBound g.G.Game.model Two v c.place-place.result c.load_word-upper.result game) step
    (c.load_word-upper.ensures.told game (ap (λ v. v.game) step ∙ is)) in
    let e = c.bound_of_word.ensures in let f = c.bound_of_word.type_inv in let e' = c.bound_of_word-2.ensures in let f' = c.bound_of_word-2.type_inv in
    let lower : as_bound c.load_word-lower.result ≡ to_z w64 (of_z w64 c.bound_of_word.result) = omega (arith, ints) in
    let upper : as_bound c.load_word-upper.result ≡ to_z w64 (of_z w64 c.bound_of_word-2.result) = omega (arith, ints) in
    let known = subst (λ (v : View g.row.G.Denot). Has (c.args.row, c.requires.0) v.keys) (sym view) c.requires.1 in let x =
    c.pass.invariant.inside c.args.row c.requires.0 known in
    let rows : c.board.inside.rows ≡ c.args.self.now.board.rows = search rules in let same : seat.table_id ≡ c.board.inside.words.shared.table_id = search rules in
    let words = ap (λ z. z.words) same ∙ c.board.invariant.1 in record {
      view = search rules;
      lower = subst (λ (y : View g.row.G.Denot × ℕ × ℤ). IsBoundAnswer (g.G.Game.model game) One y.0 y.1 y.2) (λ k. (view k, here k, lower k))
          (answers (g.G.Game.model game) laws One seat.me.0 c.place-place.result _ low.no_looser low.in_range low.proved);
      upper = subst (λ (y : View g.row.G.Denot × ℕ × ℤ). IsBoundAnswer (g.G.Game.model game) Two y.0 y.1 y.2) (λ k. (view k, here k, upper k))
          (answers (g.G.Game.model game) laws Two seat.me.0 c.place-place.result _ up.no_looser up.in_range up.proved);
      shaped = λ side. let y = c.pass.invariant.shaped side in let long : length (seen side seat.me.0) ≡ c.args.self.now.board.rows = omega arith in
          (omega arith, subst (λ (v : View g.row.G.Denot). length (seen side v) ≡ c.args.self.now.board.rows) view long);
      apart = search rules;
    }
