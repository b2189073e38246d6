use Rattle.std.proofs.Common.{◌≡◌, inl, inr, ◌+◌, ◌%◌, ◌<◌, length, ap, subst, ◌∙◌, arith, mod-lt}
use Rattle.std.proofs.lemmas.Bool.{cases_lt}
use Rattle.bounds_board.specs.Slots.{home, keys_of, IsOther, head_after}
use Rattle.bounds_board.proofs.PlainLemmas.{row_met, row_goes_on}
use Rattle.bounds_board.proofs.TableLemmas.{head_other}
use Rattle.bounds_board.proofs.slots.probe.Goals as goal

pub loop-tried-preserved : goal.loop-tried-preserved
loop-tried-preserved c =
    let heads = c.args.heads.now in let slots = c.args.slots.now in let key = c.args.key in let head = c.loop-tried.head in let tried = c.loop-tried._tried in
    let inv = c.loop-tried.invariant in
    let inside : head < length heads = rw inv.here (mod-lt (home (length heads) key % length heads + tried) (omega arith)) in
    let other = head_other heads slots key head _ c.if-named-eq0.false (c.requires.named head 0 inside) c.if-slots-row.false in
    record {
      here = c.row_behind-head.ensures ∙ row_goes_on (length heads) (home (length heads) key) tried head inv.here;
      passed = λ t l. elim (cases_lt t tried) [
        | inl before ↦ inv.passed t before
        | inr not ↦ let now : tried ≡ t = omega arith in subst (IsOther heads (keys_of slots) key) (inv.here ∙ ap (head_after (length heads) key) now) other
      ];
    }

pub returns : goal.returns
returns c = λ head l.
    let u = row_met (length c.args.heads.now) (home (length c.args.heads.now) c.args.key) head l in
    subst (IsOther c.args.heads.now (keys_of c.args.slots.now) c.args.key) u.2 (c.loop-tried.invariant.passed u.0 (omega arith))
