use Rattle.std.proofs.Common.{◌++◌, take, flat_map}
use Rattle.text.specs.Texts.{Adds}
use Rattle.text.proofs.Text.each.Given as goal

abbrev pub invariant-loop-n : goal.invariant-loop-n
invariant-loop-n g l = Adds l.initial.self l.self (flat_map (λ n. l.before ++ g.I.Integer.text n) (take l.n-index l.ns))
