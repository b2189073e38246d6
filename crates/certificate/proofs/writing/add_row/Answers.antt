use Rattle.std.proofs.Common.{List, ℕ, ◌∷◌, ◌++◌, decimal, ap}
use Rattle.std.specs.Fmt.{signed_decimal}
use Rattle.std.proofs.lemmas.Result.{on_ok_weaker}
use Rattle.text.proofs.TextLemmas.{then, as_text, line_text-numbers}
use Rattle.certificate.proofs.writing.add_row.Goals as goal

pub returns : goal.returns
returns c =
    let rest = line_text-numbers decimal (signed_decimal c.args.row.now.bound) c.args.row.now.weights in
    let each = rw c.as_slice.ensures at c.in_ok-each.ensures in
    on_ok_weaker c.word.result
    (λ added. as_text (ap (λ (t : List ℕ). decimal c.args.row.now.key ++ (32 ∷ t)) rest) (then c.in_ok-number.ensures (then c.in_ok-next.ensures (then each added)))) c.word.ensures
