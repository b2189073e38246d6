use Rattle.std.proofs.Common.{rules, ◌≡◌, [], ◌∷◌, ◌++◌, length, sum, sym, ap, ◌∙◌}
use Rattle.plan_book.specs.Books.{BookView}
use Rattle.plan_book.proofs.RecordLemmas.{last_record, pushed, pushed_records}
use Rattle.plan_book.proofs.book.Book.push.Goals as goal

pub invariant_of-self : goal.invariant_of-self
invariant_of-self c =
    let e = c.args.e in let weights = c.self.inside.weights.items in let records = c.self.inside.records.items in
    let start : c.len.result ≡ length weights = search rules in
    let longer : c.extend_from_slice.new.self.items ≡ weights ++ e.weights = search rules in
    let more : c.push_reserved.new.self.items ≡ records ++ last_record weights e ∷ [] = search rules in
    let adds : sum e.weights ≡ c.self.inside.total = c.requires.weights ∙ sym (ap (λ (v : BookView). v.total) c.self.view_is) in
    rw (longer, more) (pushed_records c.self.inside.total weights records c.self.invariant e adds)

pub returns-clause-entries : goal.returns-clause-entries
returns-clause-entries c =
    let e = c.args.e in let weights = c.self.inside.weights.items in let records = c.self.inside.records.items in
    let start : c.len.result ≡ length weights = search rules in
    let longer : c.extend_from_slice.new.self.items ≡ weights ++ e.weights = search rules in
    let more : c.push_reserved.new.self.items ≡ records ++ last_record weights e ∷ [] = search rules in
    rw (longer, more) (pushed c.self.inside.total weights records c.self.invariant e) ∙ ap (λ (v : BookView). v.entries ++ e ∷ []) c.self.view_is
