use Rattle.std.proofs.Common.{◌≡◌, ◌≤◌, ◌-◌, vec_len}
use Rattle.std.specs.Io.KnownBytes.{Consumes}
use Rattle.devices.specs.Taken.{limit_for}
use Rattle.devices.proofs.source.read_within.Given as goal

abbrev pub invariant-pieces : goal.invariant-pieces
invariant-pieces g l = record {
  within : vec_len l.bytes ≤ limit_for l.most l.head l.with_head l.bytes.items;
  front : Consumes (g.S.Source.state l.initial.source).left (g.S.Source.state l.source).left l.bytes.items;
  calm : (g.S.Source.state l.source).faults ≡ (g.S.Source.state l.initial.source).faults;
}

abbrev pub decreases-pieces : goal.decreases-pieces
decreases-pieces g l = l.with_head - vec_len l.bytes
