use Rattle.std.proofs.Common.{◌≡◌, ◌-◌, length, arith, take, drop, ap, ◌∙◌}
use Rattle.std.proofs.Math.Seq.{take-add}
use Rattle.std.proofs.lemmas.List.{take_all, length-drop}
use Rattle.std.proofs.KnownBytes.{Appends-trans}
use Rattle.devices.proofs.sink.write_all.Goals as goal

pub loop-at-preserved : goal.loop-at-preserved
loop-at-preserved g c =
    let rest = drop c.loop-at.at c.args.bytes.now in
    let whole : take (length c.args.bytes.now - c.loop-at.at) rest ≡ rest = take_all _ rest (omega (arith, length-drop c.loop-at.at c.args.bytes.now)) in
    record {
      within = omega (arith, c.in_ok-at.ensures.bound, ap length whole, length-drop c.loop-at.at c.args.bytes.now);
      front = rw take-add (Appends-trans _ _ _ (take c.loop-at.at c.args.bytes.now) (take c.in_ok-at.field-0 rest) c.loop-at.invariant.front (rw whole at c.in_ok-at.ensures.bytes));
      calm = c.in_ok-at.ensures.calm ∙ c.loop-at.invariant.calm;
    }
