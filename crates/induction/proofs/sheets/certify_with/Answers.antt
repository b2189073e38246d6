use Rattle.std.proofs.Common.{rules, ◌≡◌, ◌+◌, ◌≤◌, List, [], ◌∷◌, ◌++◌, reverse, w64, SFits, length, refl, sym, ap, subst, ◌∙◌, length-append, arith}
use Rattle.std.proofs.lemmas.Int.{to_z-of_z}
use Rattle.std.proofs.lemmas.List.{length_push, length-reverse}
use Rattle.std.proofs.lemmas.List.Sorted.{IsNonDecreasingBy-from_sort_by_key}
use Rattle.sim_game.specs.Model.{Reachable}
use Rattle.plan_book.specs.declared.SheetRow.{SheetRow}
use Rattle.induction.specs.Places.{place_word}
use Rattle.induction.specs.Certified.{IsBestOf}
use Rattle.induction.proofs.BoundLemmas.{within_small}
use Rattle.induction.proofs.CertifyLemmas.{AreLeft, ordered, all_left, open_left, taken_last, reachable_last, no_word_last, best_last, left_then, lawful_sheet, best_sheet, same_weights, as_many}
use Rattle.induction.proofs.sheets.certify_with.Given.{Over}
use Rattle.induction.proofs.sheets.certify_with.Goals as goal
use Rattle.induction.proofs.sheets.certify_with.Goals.{In_default, In_ok-new, In_ok-push, After-unwrap_or-bound}

-- before the first of them
first : (g : Over) (c : In_ok-new g) → AreLeft (g.G.Game.model c.args.g) (g.G.Game.numbering c.args.g).place c.args.side c.args.total c.args.states.items c.reverse.new.self.items [] c.new.result.items
    (place_word c.in_ok-new.field-0)
first g c =
    let m = g.G.Game.model c.args.g in let words = place_word c.in_ok-new.field-0 in
    subst (λ (rows : List SheetRow). AreLeft m (g.G.Game.numbering c.args.g).place c.args.side c.args.total c.args.states.items c.reverse.new.self.items [] rows words) (sym c.new.ensures.items)
    (all_left m (g.G.Game.numbering c.args.g).place c.args.side c.args.total c.args.states.items c.sort_unstable_by_key.new.self.items c.reverse.new.self.items words
    (ordered m c.args.side c.args.total c.args.states.items _ c.requires.planned c.sort_unstable_by_key.ensures.permutation
    (IsNonDecreasingBy-from_sort_by_key (λ p. p.rank) _ c.sort_unstable_by_key.ensures.sorted (λ a r q k. search rules)))
    c.reverse.ensures.items c.in_ok-new.ensures)

pub refill-requires-clause-ready : goal.refill-requires-clause-ready
refill-requires-clause-ready g c =
    let start = first g (goal.at.refill-requires-clause-ready g c).In_ok-new in
    rw c.deref.ensures.value (open_left (g.G.Game.model c.args.g) c.args.side c.args.total c.args.states.items start.done c.reverse.new.self.items start.order)

pub loop-planned-init : goal.loop-planned-init
loop-planned-init g c =
    let start = first g (goal.at.loop-planned-init g c).In_ok-new in
    record {
      left = record {
        done = start.done;
        order = start.order;
        certified = start.certified;
        next = rw c.deref.ensures.value at c.in_ok-refill.ensures.next;
      };
      any = rw c.deref.ensures.value at c.in_ok-refill.ensures.any;
    }

-- the bound is the last one
taken : (g : Over) (c : After-unwrap_or-bound g) → c.loop-planned.found.items ≡ c.pop-in-Some.new.self.items ++ c.unwrap_or-bound.result ∷ []
taken g c =
    let popped : length c.loop-planned.states.items ≡ length c.pop.new.self.items + 1 = ap length c.in-Some.ensures.items ∙ length_push c.pop.new.self.items c.in-Some.planned in
    let any = c.loop-planned.invariant.any (omega (arith, popped)) in
    taken_last c.loop-planned.found.items c.pop-in-Some.new.self.items c.pop-in-Some.result c.unwrap_or-bound.result c.pop-in-Some.ensures.items
    (c.pop-in-Some.ensures.variant.1 (omega (arith, any))) c.unwrap_or-bound.ensures

reachable : (g : Over) (c : After-unwrap_or-bound g) → Reachable (g.G.Game.model c.args.g) c.in-Some.planned.state
reachable g c = reachable_last (g.G.Game.model c.args.g) (g.met.G.Game.lawful c.args.g) (g.G.Game.numbering c.args.g) (g.met.G.Game.numbered c.args.g) c.args.side c.args.total c.args.states.items
    c.loop-planned.states.items c.pop.new.self.items c.loop-planned.found.items c.pop-in-Some.new.self.items c.in-Some.planned c.unwrap_or-bound.result c.loop-planned.made.rows.items
    (place_word c.loop-planned.made.bounds) c.loop-planned.invariant.left c.in-Some.ensures.items

best : (g : Over) (c : After-unwrap_or-bound g) → IsBestOf (g.G.Game.model c.args.g) c.args.side c.args.total c.loop-planned.made.rows.items c.in-Some.planned c.unwrap_or-bound.result
best g c = best_last (g.G.Game.model c.args.g) (g.met.G.Game.lawful c.args.g) (g.G.Game.numbering c.args.g) (g.met.G.Game.numbered c.args.g) c.args.side c.args.total c.args.states.items
    c.loop-planned.states.items c.pop.new.self.items c.loop-planned.found.items c.pop-in-Some.new.self.items c.in-Some.planned c.unwrap_or-bound.result c.loop-planned.made.rows.items
    (place_word c.loop-planned.made.bounds) c.loop-planned.invariant.left c.in-Some.ensures.items (taken g c)

pub place-requires : goal.place-requires
place-requires g c = reachable g (goal.at.place-requires g c).After-unwrap_or-bound

pub word_of-requires : goal.word_of-requires
word_of-requires g c =
    let here = (goal.at.word_of-requires g c).After-unwrap_or-bound in
    let fits : SFits w64 c.unwrap_or-bound.result = search rules in
    rw (to_z-of_z w64 c.unwrap_or-bound.result fits)
    (within_small (g.G.Game.model c.args.g) (g.met.G.Game.lawful c.args.g) c.in-Some.planned.state c.unwrap_or-bound.result (reachable g here) (best g here).ranged)

pub put-requires-clause-new : goal.put-requires-clause-new
put-requires-clause-new g c =
    ap (place_word c.loop-planned.made.bounds) c.place.ensures
    ∙ no_word_last (g.G.Game.model c.args.g) (g.met.G.Game.lawful c.args.g) (g.G.Game.numbering c.args.g) (g.met.G.Game.numbered c.args.g) c.args.side c.args.total c.args.states.items
    c.loop-planned.states.items c.pop.new.self.items c.loop-planned.found.items c.pop-in-Some.new.self.items c.in-Some.planned c.unwrap_or-bound.result c.loop-planned.made.rows.items
    (place_word c.loop-planned.made.bounds) c.loop-planned.invariant.left c.in-Some.ensures.items

-- with the row of the state
then : (g : Over) (c : In_ok-push g) → c.loop-planned.found.items ≡ c.pop-in-Some.new.self.items ++ c.unwrap_or-bound.result ∷ []
    → AreLeft (g.G.Game.model c.args.g) (g.G.Game.numbering c.args.g).place c.args.side c.args.total c.args.states.items
    c.pop.new.self.items c.pop-in-Some.new.self.items c.push.new.self.items (place_word c.put.new.self)
then g c last =
    let m = g.G.Game.model c.args.g in
    let bound = c.unwrap_or-bound.result in
    let fits : SFits w64 bound = search rules in
    let row : SheetRow = record { key = c.in-Some.planned.key; bound = bound; weights = c.in-Some.planned.weights } in
    let pushed : c.push.new.self.items ≡ c.loop-planned.made.rows.items ++ row ∷ [] = rw (to_z-of_z w64 bound fits) at c.in_ok-push.ensures.items in
    subst (λ (rows : List SheetRow). AreLeft m (g.G.Game.numbering c.args.g).place c.args.side c.args.total c.args.states.items c.pop.new.self.items c.pop-in-Some.new.self.items rows
    (place_word c.put.new.self)) (sym pushed)
    (left_then m (g.met.G.Game.lawful c.args.g) (g.G.Game.numbering c.args.g) (g.met.G.Game.numbered c.args.g) c.args.side c.args.total c.args.states.items
    c.loop-planned.states.items c.pop.new.self.items c.loop-planned.found.items c.pop-in-Some.new.self.items c.in-Some.planned bound c.loop-planned.made.rows.items
    (place_word c.loop-planned.made.bounds) c.loop-planned.invariant.left c.in-Some.ensures.items last row (place_word c.put.new.self) c.word_of.result refl refl refl
    (rw (to_z-of_z w64 bound fits) at c.word_of.ensures.is) (λ q. rw c.place.ensures at (c.in_ok-put.ensures q)))

pub refill-requires-in-Some-clause-placed : goal.refill-requires-in-Some-clause-placed
refill-requires-in-Some-clause-placed g c =
    let after = goal.at.refill-requires-in-Some-clause-placed g c in (then g after.In_ok-push (taken g after.After-unwrap_or-bound)).certified.placed

pub refill-requires-in-Some-clause-ready : goal.refill-requires-in-Some-clause-ready
refill-requires-in-Some-clause-ready g c =
    let after = goal.at.refill-requires-in-Some-clause-ready g c in
    let now = then g after.In_ok-push (taken g after.After-unwrap_or-bound) in
    rw c.deref-in-Some.ensures.value (open_left (g.G.Game.model c.args.g) c.args.side c.args.total c.args.states.items now.done c.pop.new.self.items now.order)

pub refill-requires-in-Some-clause-next : goal.refill-requires-in-Some-clause-next
refill-requires-in-Some-clause-next g c =
    let after = goal.at.refill-requires-in-Some-clause-next g c in rw c.deref-in-Some.ensures.value (then g after.In_ok-push (taken g after.After-unwrap_or-bound)).next

pub loop-planned-preserved : goal.loop-planned-preserved
loop-planned-preserved g c =
    let after = goal.at.loop-planned-preserved g c in
    let now = then g after.In_ok-push (taken g after.After-unwrap_or-bound) in
    record {
      left = record {
        done = now.done;
        order = now.order;
        certified = now.certified;
        next = rw c.deref-in-Some.ensures.value at c.in_ok-refill-2.ensures.next;
      };
      any = rw c.deref-in-Some.ensures.value at c.in_ok-refill-2.ensures.any;
    }

-- none is left
ended : (g : Over) (c : In_default g) → length (c.loop-planned.invariant.left.done ++ reverse c.loop-planned.states.items) ≤ length c.loop-planned.invariant.left.done
ended g c =
    let none = c.in_default.ensures.cases.0 in
    let back = length-reverse c.loop-planned.states.items in
    rw length-append (omega (arith, none, back))

pub returns-clause-as_many : goal.returns-clause-as_many
returns-clause-as_many g c =
    let at = c.loop-planned in
    let left = at.invariant.left in
    ap length c.from_vec.ensures ∙ as_many (g.G.Game.model c.args.g) (g.met.G.Game.lawful c.args.g) c.args.side c.args.total c.args.states.items _ left.order (length left.done) at.made.rows.items
    c.sort_unstable_by_key-2.new.self.items (g.G.Game.numbering c.args.g).place (place_word at.made.bounds) left.certified (ended g (goal.at.returns-clause-as_many g c).In_default)
    c.sort_unstable_by_key-2.ensures.permutation (IsNonDecreasingBy-from_sort_by_key (λ r. r.key) _ c.sort_unstable_by_key-2.ensures.sorted (λ a r q k. search rules))

pub returns-clause-weights : goal.returns-clause-weights
returns-clause-weights g c =
    let at = c.loop-planned in
    let left = at.invariant.left in
    λ key. rw c.from_vec.ensures (sym (same_weights
    (g.G.Game.model c.args.g) (g.met.G.Game.lawful c.args.g) c.args.side c.args.total c.args.states.items _ left.order (length left.done) at.made.rows.items
    c.sort_unstable_by_key-2.new.self.items (g.G.Game.numbering c.args.g).place (place_word at.made.bounds) left.certified (ended g (goal.at.returns-clause-weights g c).In_default)
    c.sort_unstable_by_key-2.ensures.permutation (IsNonDecreasingBy-from_sort_by_key (λ r. r.key) _ c.sort_unstable_by_key-2.ensures.sorted (λ a r q k. search rules)) key))

pub returns-clause-lawful : goal.returns-clause-lawful
returns-clause-lawful g c =
    let at = c.loop-planned in
    let left = at.invariant.left in
    lawful_sheet (g.G.Game.model c.args.g) (g.met.G.Game.lawful c.args.g) c.args.side c.args.total c.args.states.items _ left.order (length left.done) at.made.rows.items
    c.sort_unstable_by_key-2.new.self.items (g.G.Game.numbering c.args.g).place (place_word at.made.bounds) left.certified (ended g (goal.at.returns-clause-lawful g c).In_default)
    c.sort_unstable_by_key-2.ensures.permutation (IsNonDecreasingBy-from_sort_by_key (λ r. r.key) _ c.sort_unstable_by_key-2.ensures.sorted (λ a r q k. search rules)) _ refl refl c.from_vec.ensures

pub returns-clause-best : goal.returns-clause-best
returns-clause-best g c =
    let at = c.loop-planned in
    let left = at.invariant.left in
    best_sheet (g.G.Game.model c.args.g) (g.met.G.Game.lawful c.args.g) c.args.side c.args.total c.args.states.items _ left.order (length left.done) at.made.rows.items
    c.sort_unstable_by_key-2.new.self.items (g.G.Game.numbering c.args.g).place (place_word at.made.bounds) left.certified (ended g (goal.at.returns-clause-best g c).In_default)
    c.sort_unstable_by_key-2.ensures.permutation (IsNonDecreasingBy-from_sort_by_key (λ r. r.key) _ c.sort_unstable_by_key-2.ensures.sorted (λ a r q k. search rules)) _ refl refl c.from_vec.ensures
