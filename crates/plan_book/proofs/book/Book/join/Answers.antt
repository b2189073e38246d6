use Rattle.std.proofs.Common.{rules, ◌≡◌, ℕ, ◌++◌, length, map, subst, sym, ap, ◌∙◌}
use Rattle.plan_book.specs.Books.{BookView}
use Rattle.plan_book.specs.Records.{record_behind, AreRecords}
use Rattle.plan_book.proofs.RecordLemmas.{joined, joined_records}
use Rattle.plan_book.proofs.book.Book.join.Goals as goal

pub invariant_of-self-2 : goal.invariant_of-self-2
invariant_of-self-2 c =
    let mine = c.self.inside in let other = c.other.inside in
    let longer : c.extend_from_slice.new.self.items ≡ mine.weights.items ++ other.weights.items = search rules in
    let start : c.len-start.result ≡ length mine.weights.items = search rules in
    let more : c.append_records.new.records.items ≡ mine.records.items ++ map (record_behind (length mine.weights.items)) other.records.items = search rules in
    let total : other.total ≡ mine.total = ap (λ (v : BookView). v.total) c.other.view_is ∙ c.requires ∙ sym (ap (λ (v : BookView). v.total) c.self.view_is) in
    rw (longer, more) (joined_records mine.total mine.weights.items mine.records.items c.self.invariant other.weights.items other.records.items
    (subst (λ (n : ℕ). AreRecords n other.weights.items other.records.items) total c.other.invariant))

pub returns-clause-ok : goal.returns-clause-ok
returns-clause-ok c =
    let mine = c.self.inside in let other = c.other.inside in
    let longer : c.extend_from_slice.new.self.items ≡ mine.weights.items ++ other.weights.items = search rules in
    let start : c.len-start.result ≡ length mine.weights.items = search rules in
    let more : c.append_records.new.records.items ≡ mine.records.items ++ map (record_behind (length mine.weights.items)) other.records.items = search rules in
    rw (longer, more) (joined mine.total mine.weights.items mine.records.items c.self.invariant other.weights.items other.records.items)
    ∙ (λ k. (c.self.view_is k).entries ++ (c.other.view_is k).entries)
