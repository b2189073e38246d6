use Rattle.std.proofs.Common.{arith, ◌≡◌, ℕ, ◌-◌, ◌+◌, ◌≤◌, List, length, take, drop, sum, ap, sym, ◌∙◌}
use Rattle.std.proofs.lemmas.List.{drop-take}
use Rattle.goofspiel.specs.Cards.{cards}
use Rattle.goofspiel.specs.laws.Game.{goofspiel_sound}
use Rattle.goofspiel.specs.Position.{prizes_of}
use Rattle.goofspiel.proofs.Goofspiel.prizes_left.Goals as goal

pub overflow_sub-gone : goal.overflow_sub-gone
overflow_sub-gone c = omega (arith, c.rank.ensures, (goofspiel_sound c.args.self.now.setting c.args.self.now.valid c.args.s c.requires).few)

-- the last prizes of the list, in the array
last_prizes : (count gone : ℕ) (array : List ℕ) → gone ≤ count → take (count - gone) (drop gone array) ≡ drop gone (take count array)
last_prizes count gone array l =
    let all : gone + (count - gone) ≡ count = omega (arith, l) in
    sym (drop-take gone (count - gone) array) ∙ ap (λ (n : ℕ). drop gone (take n array)) all

pub returns-clause-is : goal.returns-clause-is
returns-clause-is c =
    let g = c.args.self.now.setting in
    let few = (goofspiel_sound g c.args.self.now.valid c.args.s c.requires).few in
    let from : g.count - c.rank.result ≡ length (prizes_of g) - length (cards c.args.s.one) = omega (arith, c.rank.ensures, c.args.self.now.valid.prize_count) in
    c.prize_sum.ensures.is ∙ ap sum (last_prizes g.count (g.count - c.rank.result) g.prizes (omega arith)) ∙ ap (λ (n : ℕ). sum (drop n (prizes_of g))) from
