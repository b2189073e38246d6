use Rattle.std.proofs.Common.{rules, arith, ℕ, ◌≡◌, ◌<◌, Option, Some, List, [], ◌∷◌, ◌++◌, nat_eq, refl, sym, ap, ◌∙◌}
use Rattle.std.specs.HashMap.{get}
use Rattle.plan_book.specs.declared.SheetRow.{SheetRow}
use Rattle.plan_book.specs.Children.{children_of}
use Rattle.plan_book.specs.Books.{best_row, row_of}
use Rattle.plan_book.specs.Records.{entry_of}
use Rattle.plan_book.specs.Sheets.{row_at}
use Rattle.plan_book.proofs.SheetLemmas.{reached_reachable}
use Rattle.plan_book.proofs.TakenLemmas.{left_row, row_more, taken_more}
use Rattle.plan_book.proofs.WalkLemmas.{walk_start, walk_more, walk_done, item_below}
use Rattle.plan_book.proofs.gather.+gather.Goals as goal

pub key-requires : goal.key-requires
key-requires g t c = reached_reachable _ c.args.side (best_row c.args.side c.args.book.now.entries) c.args.s c.requires.reached

pub children-requires : goal.children-requires
children-requires g t c = reached_reachable _ c.args.side (best_row c.args.side c.args.book.now.entries) c.args.s c.requires.reached

pub loop-child-init : goal.loop-child-init
loop-child-init g t c =
    let m = g.G.Game.model c.args.g in
    let rows = c.args.rows.now.items in
    let left : ℕ → Option ℕ = get nat_eq c.args.left.now in
    let e = entry_of c.entry_at-e.result in
    let place : left (m.key c.args.s) ≡ Some c.in-Some.place = ap left (sym c.key.ensures) ∙ sym c.in-Some.ensures.value in
    let pushed : c.push.new.self.items ≡ rows ++ row_of e ∷ [] = c.in_ok-push.ensures.items ∙ ap (λ (r : SheetRow). rows ++ r ∷ []) c.in_ok-row_of.ensures in
    record {
      walking = walk_start m c.args.side (best_row c.args.side c.args.book.now.entries) c.args.s c.deref-child-items.result.now (row_of e) (row_at rows) (row_at c.push.new.self.items)
          (λ q. ap (λ (xs : List SheetRow). row_at xs q) pushed ∙ row_more m c.args.side c.args.book.now.entries left rows c.requires.taken c.args.s c.in-Some.place e place c.entry_at-e.ensures q);
      taken = rw pushed (taken_more m c.args.side c.args.book.now.entries left rows c.requires.taken c.args.s c.in-Some.place e place c.entry_at-e.ensures
          (get nat_eq c.remove.new.self) c.requires.reached (λ q. rw (← c.key.ensures) (c.remove.ensures.updates.0 q)));
    }

pub gather-requires : goal.gather-requires
gather-requires g t c =
    let m = g.G.Game.model c.args.g in
    let entries = c.args.book.now.entries in
    let e = entry_of c.entry_at-e.result in
    let place : get nat_eq c.args.left.now (m.key c.args.s) ≡ Some c.in-Some.place = ap (λ (k : ℕ). get nat_eq c.args.left.now k) (sym c.key.ensures) ∙ sym c.in-Some.ensures.value in
    let row = left_row m c.args.side entries (get nat_eq c.args.left.now) c.args.rows.now.items c.requires.taken c.args.s c.in-Some.place e place c.entry_at-e.ensures in
    let items : c.deref-child-items.result.now ≡ children_of m c.args.side e.weights c.args.s = c.deref-child-items.ensures.value ∙ c.in_ok-below.ensures in
    let below = item_below m (g.met.G.Game.lawful c.args.g) c.args.side (best_row c.args.side entries) c.args.s e.weights (row_of e) c.loop-child.child-index c.child-item.result
    c.requires.reached row refl (rw (← items) c.loop-child-test.true) (rw (← items) c.child-item.is) in
    let lower : (g.G.Game.model c.args.g).rank c.child-item.result < t = omega (arith, below.lower, c.decreases) in
    let reached = below.reached in
    let taken = c.loop-child.invariant.taken in
    search rules

pub loop-child-preserved : goal.loop-child-preserved
loop-child-preserved g t c = record {
  walking = walk_more (g.G.Game.model c.args.g) c.args.side (best_row c.args.side c.args.book.now.entries) c.args.s c.deref-child-items.result.now c.loop-child.child-index c.child-item.result
      (row_at c.args.rows.now.items) (row_at c.loop-child.rows.items) (row_at c.gather.new.rows.items) c.loop-child-test.true c.child-item.is c.loop-child.invariant.walking
      c.in_ok-gather.ensures.gathered;
  taken = c.in_ok-gather.ensures.taken;
}

pub returns : goal.returns
returns g t c =
    let m = g.G.Game.model c.args.g in
    let entries = c.args.book.now.entries in
    let e = entry_of c.entry_at-e.result in
    let place : get nat_eq c.args.left.now (m.key c.args.s) ≡ Some c.in-Some.place = ap (λ (k : ℕ). get nat_eq c.args.left.now k) (sym c.key.ensures) ∙ sym c.in-Some.ensures.value in
    let row = left_row m c.args.side entries (get nat_eq c.args.left.now) c.args.rows.now.items c.requires.taken c.args.s c.in-Some.place e place c.entry_at-e.ensures in
    let items : c.deref-child-items.result.now ≡ children_of m c.args.side e.weights c.args.s = c.deref-child-items.ensures.value ∙ c.in_ok-below.ensures in
    record {
      taken = c.loop-child.invariant.taken;
      gathered = walk_done m c.args.side (best_row c.args.side entries) c.args.s e.weights
          (row_of e) c.deref-child-items.result.now c.loop-child.child-index (row_at c.args.rows.now.items) (row_at c.loop-child.rows.items)
          (g.met.G.Game.lawful c.args.g) c.requires.reached row refl items (omega arith) c.loop-child.invariant.walking;
    }
