use Rattle.std.proofs.Common.{arith, ℕ, w32, ap, sym, ◌∙◌}
use Rattle.std.proofs.lemmas.Int.{to_z-of_z}
use Rattle.goofspiel.specs.declared.Pay.{Pay}
use Rattle.goofspiel.specs.laws.Drawn.{drawn_sound, hands_small, place_small, drawn_prize_is, prize_at}
use Rattle.goofspiel.specs.Rules.{deal_of, paid, won_by}
use Rattle.goofspiel.proofs.drawn.GoofspielDrawnGame.reward.Goals as goal

pub bounds-self-s : goal.bounds-self-s
bounds-self-s c = place_small c.args.self.now.setting c.args.self.now.valid c.args.s (drawn_sound c.args.self.now.setting c.args.self.now.valid c.args.s c.requires.reachable)

pub won_by-requires-clause-small : goal.won_by-requires-clause-small
won_by-requires-clause-small c = hands_small c.args.self.now.setting c.args.self.now.valid c.args.s (drawn_sound c.args.self.now.setting c.args.self.now.valid c.args.s c.requires.reachable)

pub returns-in-Prizes : goal.returns-in-Prizes
returns-in-Prizes c =
    let g = c.args.self.now.setting in
    let s = c.args.s in
    let here = drawn_sound g c.args.self.now.valid s c.requires.reachable in
    let prize = drawn_prize_is g c.args.self.now.valid s here (let some = c.requires.one in omega (arith, some)) in
    to_z-of_z w32 c.won_by.result (record { sfits = c.won_by.type_inv }) ∙ c.won_by.ensures ∙ ap (λ (n : ℕ). won_by n (deal_of s.hands) c.args.a c.args.b) prize
    ∙ ap (λ (pay : Pay). paid pay (won_by (prize_at g s.place) (deal_of s.hands) c.args.a c.args.b)) (sym c.in-Prizes.is)
