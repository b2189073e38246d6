use Rattle.std.proofs.Common.{rules, ◌≡◌, ℕ, List, Some, eqb, cond, false, length, sym, ap, subst, ◌∙◌}
use Rattle.std.specs.Option.{is_some}
use Rattle.induction.specs.Keys.{IsFreeSlot, first_slot, key_place}
use Rattle.induction.proofs.KeyLemmas.{indexed_more, new_place, place_more}
use Rattle.induction.proofs.keys.KeyTable.add.Goals as goal

pub invariant_of-self-in-Some : goal.invariant_of-self-in-Some
invariant_of-self-in-Some c =
    let keys : List ℕ = c.self.inside.keys.items in
    let slots : List ℕ = c.self.inside.slots.items in
    let new : is_some (key_place keys c.args.key) ≡ false =
    subst (λ (ks : List ℕ). is_some (key_place ks c.args.key) ≡ false) (sym (c.self.view_is ∙ c.make_room.ensures.same)) c.requires.new in
    let long : c.len.result ≡ length keys = search rules in
    let free : IsFreeSlot (length slots) slots (first_slot (length slots) c.self.inside.shift c.args.key) c.in-Some.slot = rw c.deref.ensures.value at c.in-Some.ensures.free in
    rw (long, c.in_ok-push-in-Some.ensures.items)
    (indexed_more slots c.self.inside.shift keys c.args.key c.in-Some.slot c.self.invariant new (rw c.deref.ensures.value at c.in-Some.ensures.some) free)

pub returns-in_ok-push-in-Some-clause-places : goal.returns-in_ok-push-in-Some-clause-places
returns-in_ok-push-in-Some-clause-places c =
    let keys : List ℕ = c.self.inside.keys.items in
    let same : keys ≡ c.args.self.now = c.self.view_is ∙ c.make_room.ensures.same in
    let new : is_some (key_place keys c.args.key) ≡ false = subst (λ (ks : List ℕ). is_some (key_place ks c.args.key) ≡ false) (sym same) c.requires.new in
    λ other. ap (λ (ks : List ℕ). key_place ks other) c.in_ok-push-in-Some.ensures.items ∙ place_more keys c.args.key (new_place keys c.args.key new) other
    ∙ ap (λ (ks : List ℕ). cond (eqb c.args.key other) (Some (length ks)) (key_place ks other)) same
