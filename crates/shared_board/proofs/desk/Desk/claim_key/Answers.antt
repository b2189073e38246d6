use Rattle.std.proofs.Common.{rules, ◌≡◌, ℕ, ◌+◌, ◌*◌, ◌<◌, [], refl, sym, ap, ◌∙◌, subst, arith, Some}
use Rattle.std.proofs.lemmas.List.Elements.{All-contains}
use Rattle.shared_board.specs.Rule.{Has}
use Rattle.shared_board.specs.Passes.{IsUnseen}
use Rattle.shared_board.specs.Known.{IsKnownRow, IsPlace, AreKnown}
use Rattle.shared_board.specs.declared.known.Place.{Place}
use Rattle.shared_board.specs.declared.view.View.{View}
use Rattle.shared_board.proofs.PassLemmas.{pass_claimed}
use Rattle.shared_board.proofs.DeskLemmas.{known_more, known_kept}
use Rattle.shared_board.proofs.desk.Desk.claim_key.Goals as goal

pub returns-in-Some : goal.returns-in-Some
returns-in-Some g c =
    let keys : c.self.inside.pass.view.keys ≡ c.args.self.now.pass.view.keys = ap (λ d. d.pass.view.keys) c.self.view_is in
    let x : Place = record { key = c.args.key; row_plus_one = c.in-Some.row + 1 } in
    let row = subst (λ ks. IsKnownRow ks c.args.key c.in-Some.row) keys
    ((All-contains (IsPlace c.self.inside.pass.view.keys) c.self.inside.known.places.items x c.self.invariant.1 c.in-Some.ensures).taken c.in-Some.row refl) in
    record { view = ([], refl, omega arith); ok = rw c.new.ensures row.has; apart = row.apart; err = tt }

pub invariant_of-self : goal.invariant_of-self
invariant_of-self g c =
    let did = c.claim_row.ensures in let found : ℕ = c.in-Some-claim_row.row in let x : Place = record { key = c.args.key; row_plus_one = found + 1 } in
    let keys = c.claim_row.new.seat.me.0.keys in
    let here : IsPlace keys x = record {
      taken = λ row e. subst (IsKnownRow keys c.args.key) (omega arith) (record { has = c.in-Some-claim_row.ensures.some.1; apart = did.keys.apart });
    } in
    let before = subst (λ ks. AreKnown ks c.self.inside.known.places.items) (sym (ap (λ p. p.view.keys) c.pass.view_is)) c.self.invariant.1 in (
      search rules,
      known_kept keys c.self.inside.known.places.items c.keep.new.self.places.items x c.keep.ensures here
          (known_more did.keys.more.0 c.pass.inside.bare.seat.me.0.keys c.claim_row.new.seat.me.0.keys c.self.inside.known.places.items (ap (λ v. v.keys) did.keys.more.1) did.keys.apart before),
      did.marks,
    )

pub invariant_of-self-in-None : goal.invariant_of-self-in-None
invariant_of-self-in-None g c =
    let did = c.claim_row.ensures in
    let before = subst (λ ks. AreKnown ks c.self.inside.known.places.items) (sym (ap (λ p. p.view.keys) c.pass.view_is)) c.self.invariant.1 in (
      search rules,
      known_more did.keys.more.0 c.pass.inside.bare.seat.me.0.keys c.claim_row.new.seat.me.0.keys c.self.inside.known.places.items (ap (λ v. v.keys) did.keys.more.1) did.keys.apart
          before,
      did.marks,
    )

pub invariant_of-pass : goal.invariant_of-pass
invariant_of-pass g c = let did = c.claim_row.ensures in let board = c.board.invariant in let p = c.pass.invariant in
    let same : c.pass.inside.bare.seat.table_id ≡ c.board.inside.words.shared.table_id = search rules in
    let words : c.pass.inside.bare.seat.table_id.words ≡ 3 * c.board.inside.rows + 1 = ap (λ z. z.words) same ∙ board.1 in
    let now : c.claim_row.new.seat.table_id.words ≡ c.pass.inside.bare.seat.table_id.words = ap (λ z. z.words) did.seat.0.0 ∙ sym (ap (λ z. z.words) same) in
    let within : (i k : ℕ) → Has (i, k) c.pass.inside.bare.seat.me.0.keys → i < c.board.inside.rows = λ i k h. (let x = p.inside i k h in omega arith) in
    pass_claimed g.G.Game.model _ _ _ _ _ _ _ _ _ _ did.keys.more.0 p did.keys.more.1 did.seat.0.2 now did.keys.named (λ i k h. (let x = did.keys.inside within i k h in omega arith))

pub returns-in-None-clause-err : goal.returns-in-None-clause-err
returns-in-None-clause-err g c =
    let game = c.args.self.now.board.game in let is : c.pass.inside.bare.seat.me.0.game ≡ Some game = search rules in
    let view : c.pass.inside.bare.seat.me.0 ≡ c.args.self.now.pass.view = search rules in
    let told = c.pass.invariant.told game is in let rows : c.board.inside.rows ≡ c.args.self.now.board.rows = search rules in (
      λ i l. c.in-None.ensures.none i (omega arith),
      c.claim_row.ensures.keys.named game is told.named,
      λ side i. subst (λ (v : View g.row.G.Denot). IsUnseen (g.G.Game.model game) v side i) view (told.unseen side i),
    )
