use Rattle.std.proofs.Common.{arith, ℕ, ◌-◌, get_or, ap, ◌∙◌}
use Rattle.goofspiel.specs.laws.Deals.{few_prizes}
use Rattle.goofspiel.specs.laws.Game.{goofspiel_sound, prize_is}
use Rattle.goofspiel.proofs.Goofspiel.prize.Goals as goal

pub overflow_sub-gone : goal.overflow_sub-gone
overflow_sub-gone c = omega (arith, c.rank.ensures, (goofspiel_sound c.args.self.now.setting c.args.self.now.valid c.args.s c.requires.reachable).few)

pub bounds-self-gone : goal.bounds-self-gone
bounds-self-gone c = omega (arith, c.rank.ensures, c.requires.some, few_prizes c.args.self.now.setting c.args.self.now.valid)

pub returns : goal.returns
returns c =
    let g = c.args.self.now.setting in
    ap (λ (n : ℕ). get_or g.prizes (g.count - n) 0) c.rank.ensures
    ∙ prize_is g c.args.self.now.valid c.args.s (goofspiel_sound g c.args.self.now.valid c.args.s c.requires.reachable) c.requires.some
