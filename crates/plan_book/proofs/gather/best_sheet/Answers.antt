use Rattle.std.proofs.Common.{List, [], nat_eq, rules, subst}
use Rattle.std.proofs.lemmas.List.Sorted.{IsNonDecreasingBy-from_sort_by_key}
use Rattle.std.specs.HashMap.{get}
use Rattle.plan_book.specs.declared.SheetRow.{SheetRow}
use Rattle.plan_book.specs.Books.{best_row}
use Rattle.plan_book.specs.Gathered.{IsGathered}
use Rattle.plan_book.specs.Sheets.{row_at}
use Rattle.plan_book.proofs.BestLemmas.{reached_root}
use Rattle.plan_book.proofs.FoundLemmas.{found_sheet}
use Rattle.plan_book.proofs.TakenLemmas.{all_left}
use Rattle.plan_book.proofs.gather.best_sheet.Goals as goal

pub gather-requires : goal.gather-requires
gather-requires g c = record {
  reached = rw c.root.ensures (reached_root _ c.args.side (best_row c.args.side c.args.book.now.entries));
  taken = rw c.new-rows.ensures.items (all_left _ c.args.side c.args.book.now.entries (get nat_eq c.in_ok-left.left) c.in_ok-left.ensures);
}

pub returns-clause-best : goal.returns-clause-best
returns-clause-best g c =
    let m = g.G.Game.model c.args.g in
    let side = c.args.side in
    let entries = c.args.book.now.entries in
    let found = c.gather.new.rows.items in
    let from_root : IsGathered m side (best_row side entries) m.root (row_at c.new-rows.result.items) (row_at found) =
    subst (λ (s : g.row.G-State.Denot). IsGathered m side (best_row side entries) s (row_at c.new-rows.result.items) (row_at found)) c.root.ensures c.in_ok-gather.ensures.gathered in
    let walk : IsGathered m side (best_row side entries) m.root (row_at []) (row_at found) =
    subst (λ (xs : List SheetRow). IsGathered m side (best_row side entries) m.root (row_at xs) (row_at found)) c.new-rows.ensures.items from_root in
    rw c.from_vec.ensures (found_sheet m side entries (get nat_eq c.gather.new.left) found c.sort_unstable_by_key.new.self.items c.in_ok-gather.ensures.taken walk
    c.sort_unstable_by_key.ensures.permutation (IsNonDecreasingBy-from_sort_by_key (λ r. r.key) _ c.sort_unstable_by_key.ensures.sorted (λ a r q k. search rules)))
