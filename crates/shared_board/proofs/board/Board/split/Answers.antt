use Rattle.std.proofs.Common.{rules, ◌≡◌, true, ap, arith}
use Rattle.shared_board.proofs.SeatLemmas.{keeps_split}
use Rattle.shared_board.proofs.PassLemmas.{pass_issuing, pass_issued}
use Rattle.shared_board.proofs.board.Board.split.Goals as goal

pub split_seat-seat-requires : goal.split_seat-seat-requires
split_seat-seat-requires g c = let key = c.self.inside.words.shared.key in let p = c.pass.invariant in let b = c.self.invariant in let d = p.issues in let room =
    c.if-pass-ge-MOST_TICKETS.false in
    let lead : c.pass.inside.bare.seat.me.0.lead ≡ true = search rules in
    (search rules, omega arith, keeps_split (g.G.Game.model key.0) key.0 key.1 c.pass.inside.bare.seat.id c.pass.inside.bare.seat.me.0 lead (omega arith))

pub invariant_of-result : goal.invariant_of-result
invariant_of-result g c = pass_issued g.G.Game.model _ _ _ _ _ _ _ _ _ _ _ _ c.pass.invariant (search rules) (search rules) (ap (λ z. z.words) c.split_seat-seat.ensures.3)

pub invariant_of-pass : goal.invariant_of-pass
invariant_of-pass g c = pass_issuing g.G.Game.model _ _ _ _ _ _ _ _ _ _ c.pass.invariant (let room = c.if-pass-ge-MOST_TICKETS.false in omega arith) (search rules)
    (ap (λ z. z.words) c.split_seat-seat.ensures.0)
