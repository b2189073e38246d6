use Rattle.std.proofs.Common.{◌-◌, ◌∷◌, ℕ, List, length, drop, arith, ap, take_all, length-drop}
use Rattle.std.proofs.lemmas.Result.{on_ok_weaker}
use Rattle.text.proofs.TextLemmas.{then, as_text}
use Rattle.certificate.proofs.PositionLaws.{numbers_written}
use Rattle.certificate.proofs.positions.add_numbers.Goals as goal

pub returns-in_ok-next-in-len1-up : goal.returns-in_ok-next-in-len1-up
returns-in_ok-next-in-len1-up c =
    let zs = c.args.zs.now in
    let others = take_all (length zs - 1) (drop 1 zs) (omega (arith, length-drop 1 zs)) in
    let all = numbers_written zs c.in-len1-up.len_at_least in
    on_ok_weaker c.each.result (λ added. as_text (ap (λ (t : List ℕ). 32 ∷ t) all) (then c.in_ok-next-in-len1-up.ensures added)) (rw others at c.each.ensures)
