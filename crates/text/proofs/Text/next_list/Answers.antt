use Rattle.std.proofs.Common.{◌-◌, ◌∷◌, ℕ, List, length, drop, arith, ap, take_all, length-drop}
use Rattle.std.proofs.lemmas.Result.{on_ok_weaker}
use Rattle.text.proofs.TextLemmas.{then, as_text, list_text-some}
use Rattle.text.proofs.Text.next_list.Goals as goal

pub returns-in_ok-next-in-len1-up : goal.returns-in_ok-next-in-len1-up
returns-in_ok-next-in-len1-up c =
    let ns = c.args.ns.now in
    let others = take_all (length ns - 1) (drop 1 ns) (omega (arith, length-drop 1 ns)) in
    on_ok_weaker c.each.result (λ added. as_text (ap (λ (t : List ℕ). 32 ∷ t) (list_text-some ns c.in-len1-up.len_at_least)) (then c.in_ok-next-in-len1-up.ensures added)) (rw others at c.each.ensures)
