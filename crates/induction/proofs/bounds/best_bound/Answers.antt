use Rattle.std.proofs.Common.{rules, ◌≡◌, ◌≤◌, ℕ, ℤ, w64, SFits, to_z, arith, subst, ap, ◌∙◌}
use Rattle.std.proofs.lemmas.Int.{to_z-of_z}
use Rattle.sim_game.specs.Sides.{other_side}
use Rattle.plan_book.specs.Steps.{worth}
use Rattle.induction.specs.Certified.{turn_numbers}
use Rattle.induction.specs.Places.{place_word}
use Rattle.induction.proofs.BoundLemmas.{IsLeast, least_taken, least_kept, best_step}
use Rattle.induction.proofs.bounds.best_bound.Goals as goal
use Rattle.induction.proofs.bounds.best_bound.Goals.{then-is_tighter, else-is_tighter}

pub loop-reply-preserved : goal.loop-reply-preserved
loop-reply-preserved g c =
    let f : ℕ → ℤ = worth (g.G.Game.model c.args.g) c.args.side c.args.s c.args.weights.now (turn_numbers (g.G.Game.model c.args.g) c.args.side c.args.rows.now c.args.s) in
    let fits : SFits w64 c.worth-sum.result = search rules in
    elim c.if-is_tighter.branch [
      | then-is_tighter w ↦
          let new : to_z w64 c.if-is_tighter.least-bits ≡ c.worth-sum.result = w.least-is ∙ to_z-of_z w64 c.worth-sum.result fits in
          record {
            least = rw new (least_taken c.args.side f c.loop-reply.reply (to_z w64 c.loop-reply.least-bits) c.worth-sum.result c.loop-reply.invariant.least c.worth-sum.ensures.value
                (rw (to_z-of_z w64 c.worth-sum.result fits) at w.if-is_tighter.ensures));
            small = rw new c.worth-sum.ensures.small;
          }
      | else-is_tighter w ↦ record {
        least = rw w.least-is (least_kept c.args.side f c.loop-reply.reply (to_z w64 c.loop-reply.least-bits) c.worth-sum.result c.loop-reply.invariant.least c.worth-sum.ensures.value
            (rw (to_z-of_z w64 c.worth-sum.result fits) at w.if-is_tighter.ensures));
        small = rw w.least-is c.loop-reply.invariant.small;
      }
    ]

pub returns : goal.returns
returns g c =
    let m = g.G.Game.model c.args.g in
    let game = g.met.G.Game.lawful c.args.g in
    let side = c.args.side in
    let f : ℕ → ℤ = worth m side c.args.s c.args.weights.now (turn_numbers m side c.args.rows.now c.args.s) in
    let fits : SFits w64 c.quotient.result = search rules in
    let least : ℤ = to_z w64 c.loop-reply.least-bits in
    let replies : c.moves-reply-end.result ≡ m.moves (other_side side) c.args.s = c.moves-reply-end.ensures ∙ ap (λ x. m.moves x c.args.s) c.other.ensures in
    let some : 1 ≤ m.moves (other_side side) c.args.s = game.other_moves (other_side side) c.args.s c.requires.reachable c.requires.goes_on in
    let all : c.loop-reply.reply ≡ m.moves (other_side side) c.args.s =
    (let upto = c.loop-reply.auto.reply-end (omega (arith, some, replies)) in let end = c.loop-reply-test.false in omega (arith, upto, end, replies)) in
    let is : IsLeast side f (m.moves (other_side side) c.args.s) least = subst (λ (n : ℕ). IsLeast side f n least) all c.loop-reply.invariant.least in
    rw (to_z-of_z w64 c.quotient.result fits)
    (best_step m game side c.args.s c.args.total c.args.weights.now c.args.rows.now c.requires.reachable c.requires.goes_on c.requires.some c.requires.whole
    (g.G.Game.numbering c.args.g).place (place_word c.args.bounds.now) c.requires.placed
    least c.quotient.result is c.quotient.ensures)
