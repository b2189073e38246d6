use Rattle.std.proofs.Common.{◌≡◌, ◌+◌, ◌-◌, ◌≤◌, ◌++◌, length, take, ap, ◌∙◌, arith}
use Rattle.std.proofs.lemmas.List.{length-take, length-take-le}
use Rattle.std.proofs.KnownBytes.{Consumes-trans}
use Rattle.devices.specs.Taken.{limit_for}
use Rattle.devices.proofs.LimitLemmas.{one_more, still_within}
use Rattle.devices.proofs.source.read_within.Goals as goal

pub returns-then-n-room-clause-too_long : goal.returns-then-n-room-clause-too_long
returns-then-n-room-clause-too_long g c = λ _.
    let last = take c.in_ok-n.n c.read.new.into in
    let size : length last ≡ c.in_ok-n.n = length-take-le c.in_ok-n.n c.read.new.into c.in_ok-n.ensures.bound in
    let limit : c.limit_for.result ≡ limit_for c.args.most c.args.head.now c.args.with_head c.pieces.bytes.items =
    c.limit_for.ensures ∙ ap (limit_for c.args.most c.args.head.now c.args.with_head) c.deref.ensures.value in (
      c.pieces.bytes.items ++ last,
      Consumes-trans _ _ _ c.pieces.bytes.items last c.pieces.invariant.front c.in_ok-n.ensures.bytes.0,
      one_more c.args.most c.args.with_head c.args.head.now c.requires.short c.requires.wide c.pieces.bytes.items last
          (λ l. omega (arith, size, length-take c.next_size-size.result c.pieces.piece, c.in_ok-n.ensures.bound, c.read.auto.into, c.next_size-size.ensures.head (omega (arith, l))))
          (λ l.
          let few : c.next_size-size.result ≤ (c.limit_for.result - c.len.result) + 1 = c.next_size-size.ensures.room (omega (arith, l)) in
          omega (arith, size, few, length-take c.next_size-size.result c.pieces.piece, c.in_ok-n.ensures.bound, c.read.auto.into, limit))
          (omega (arith, c.pieces.invariant.within)) (omega (arith, size, limit, c.if-n-room.true)),
    )

pub returns-in_err-extend_from_slice-clause-others : goal.returns-in_err-extend_from_slice-clause-others
returns-in_err-extend_from_slice-clause-others g c = λ _.
    let last = take c.in_ok-n.n c.read.new.into in
    let size : length last ≡ c.in_ok-n.n = length-take-le c.in_ok-n.n c.read.new.into c.in_ok-n.ensures.bound in
    let limit : c.limit_for.result ≡ limit_for c.args.most c.args.head.now c.args.with_head c.pieces.bytes.items =
    c.limit_for.ensures ∙ ap (limit_for c.args.most c.args.head.now c.args.with_head) c.deref.ensures.value in (
      c.pieces.bytes.items ++ last,
      Consumes-trans _ _ _ c.pieces.bytes.items last c.pieces.invariant.front c.in_ok-n.ensures.bytes.0,
      still_within c.args.most c.args.with_head c.args.head.now c.requires.short c.requires.wide c.pieces.bytes.items last
          (λ l. omega (arith, size, length-take c.next_size-size.result c.pieces.piece, c.in_ok-n.ensures.bound, c.read.auto.into, c.next_size-size.ensures.head (omega (arith, l))))
          (λ l.
          let few : c.next_size-size.result ≤ (c.limit_for.result - c.len.result) + 1 = c.next_size-size.ensures.room (omega (arith, l)) in
          omega (arith, size, few, length-take c.next_size-size.result c.pieces.piece, c.in_ok-n.ensures.bound, c.read.auto.into, limit))
          (omega (arith, c.pieces.invariant.within)) (omega (arith, size, limit, c.if-n-room.false)),
    )
