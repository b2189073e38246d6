use Rattle.std.proofs.Common.{All, ap, arith}
use Rattle.std.proofs.lemmas.List.Elements.{All-set}
use Rattle.induction.specs.Listed.{GoesOn}
use Rattle.induction.proofs.ListedLemmas.{all_same, all_more}
use Rattle.induction.proofs.values.halves_of.Goals as goal
use Rattle.induction.proofs.values.halves_of.Goals.{then-half-len+in_ok-push-2, else-half-len}

pub loop-s-preserved : goal.loop-s-preserved
loop-s-preserved g c =
    let P = GoesOn (g.G.Game.model c.args.g) in
    elim c.if-half-len.branch [
      | then-half-len+in_ok-push-2 w ↦
          let old = w.index_mut.result.now.items in
          let here : All P old = all_same P old _ (ap (λ half. half.items) w.index_mut.ensures.value)
          (c.loop-s.invariant _ _ (omega (arith, w.if-half-len.true, c.len.ensures, c.loop-s.halves.ok))) in
          let more : All P w.push-then-half-len.new.self.items = all_more P old w.push-then-half-len.new.self.items c.s-item.result _
          w.in_ok-push-2.ensures.items c.s-item.is here (c.requires _ _ c.loop-s-test.true) in
          rw w.halves-is (All-set (λ half. All P half.items) c.loop-s.halves.items _ _ more c.loop-s.invariant)
      | else-half-len w ↦ rw w.halves-is c.loop-s.invariant
    ]
