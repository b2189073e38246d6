use Rattle.std.proofs.Common.{rules, ◌≡◌, ◌+◌, ◌≤◌, Ok, Err, sym, ap, subst, arith}
use Rattle.sim_game.specs.declared.Side.TheVariants.{One, Two}
use Rattle.matrix_game.specs.Budget.{Budget, left_of}
use Rattle.induction.specs.Induced.{AreBothSheets, HasPlanned, IsOwnSheet}
use Rattle.induction.proofs.BothLemmas.{HasCounted, after, both_within, counted, made_at_once, own, planned_at_once, side_stopped}
use Rattle.induction.proofs.induced.both_of.Given.{Over}
use Rattle.induction.proofs.induced.both_of.Goals as goal
use Rattle.induction.proofs.induced.both_of.Goals.{After-split}

pub split-requires : goal.split-requires
split-requires g c =
    let m = g.G.Game.model c.args.g in let total = c.args.terms.total in let rows = c.args.terms.rows in
    let one = counted m total rows One (own m total rows c.args.turns) c.args.one.1 c.args.one.0 c.requires.one in
    let two = counted m total rows Two (own m total rows c.args.turns) c.args.two.1 c.args.two.0 c.requires.two in
    let within = both_within m total rows c.args.turns c.args.one.1 c.args.two.1 one two c.spent.ensures.within c.spent-2.ensures.within c.requires.enough in
    search rules

-- what was planned at for each side
one_counted : (g : Over) (c : After-split g) → HasCounted (g.G.Game.model c.args.g) (own (g.G.Game.model c.args.g) c.args.terms.total c.args.terms.rows c.args.turns) c.args.one.1
one_counted g c = counted (g.G.Game.model c.args.g) c.args.terms.total c.args.terms.rows One _ c.args.one.1 c.args.one.0 c.requires.one

two_counted : (g : Over) (c : After-split g) → HasCounted (g.G.Game.model c.args.g) (own (g.G.Game.model c.args.g) c.args.terms.total c.args.terms.rows c.args.turns) c.args.two.1
two_counted g c = counted (g.G.Game.model c.args.g) c.args.terms.total c.args.terms.rows Two _ c.args.two.1 c.args.two.0 c.requires.two

fits : (g : Over) (c : After-split g) → c.args.one.1.spent + c.args.two.1.spent ≤ left_of c.args.turns
fits g c = both_within (g.G.Game.model c.args.g) c.args.terms.total c.args.terms.rows c.args.turns c.args.one.1 c.args.two.1 (one_counted g c) (two_counted g c)
    c.spent.ensures.within c.spent-2.ensures.within c.requires.enough

-- the turns of both spent
split_as : (g : Over) (c : After-split g) → c.split.new.self ≡ after (g.G.Game.model c.args.g) c.args.terms.total c.args.terms.rows c.args.turns (c.args.one.1.spent + c.args.two.1.spent)
split_as g c = search rules

planned_as : (g : Over) (c : After-split g) → HasPlanned (g.G.Game.model c.args.g) c.args.turns c.split.new.self
planned_as g c = subst (HasPlanned (g.G.Game.model c.args.g) c.args.turns) (sym (split_as g c))
    (planned_at_once (g.G.Game.model c.args.g) c.args.terms.total c.args.terms.rows c.args.turns c.args.one.1 c.args.two.1 (one_counted g c) (two_counted g c))

inside : (g : Over) (c : After-split g) → c.split.new.self.spent ≤ c.split.new.self.limit
inside g c = subst (λ (t : Budget). t.spent ≤ t.limit) (sym (split_as g c)) (let few = fits g c in let enough = c.requires.enough in omega (arith, few, enough))

pub returns-in-Err : goal.returns-in-Err
returns-in-Err g c =
    let m = g.G.Game.model c.args.g in let total = c.args.terms.total in let rows = c.args.terms.rows in
    let before = (goal.at.returns-in-Err g c).After-split in
    let end : IsOwnSheet m One total (own m total rows c.args.turns) c.args.one.1 (Err c.in-Err.e) = rw c.in-Err.is at c.requires.one in
    side_stopped m total rows c.args.turns c.args.one.1 c.split.new.self c.of_side-why.new.turns c.in-Err.e c.of_side-why.result (planned_as g before)
    (ap (λ (t : Budget). t.may_stop) (split_as g before)) (inside g before) end.err c.of_side-why.ensures.whole c.of_side-why.ensures.stopped

pub returns-in-Err-two : goal.returns-in-Err-two
returns-in-Err-two g c =
    let m = g.G.Game.model c.args.g in let total = c.args.terms.total in let rows = c.args.terms.rows in
    let before = (goal.at.returns-in-Err-two g c).After-split in
    let end : IsOwnSheet m Two total (own m total rows c.args.turns) c.args.two.1 (Err c.in-Err-two.e) = rw c.in-Err-two.is at c.requires.two in
    side_stopped m total rows c.args.turns c.args.two.1 c.split.new.self c.of_side-why-in-Err-two.new.turns c.in-Err-two.e c.of_side-why-in-Err-two.result (planned_as g before)
    (ap (λ (t : Budget). t.may_stop) (split_as g before)) (inside g before) end.err c.of_side-why-in-Err-two.ensures.whole c.of_side-why-in-Err-two.ensures.stopped

pub returns : goal.returns
returns g c =
    let m = g.G.Game.model c.args.g in let total = c.args.terms.total in let rows = c.args.terms.rows in
    let one : IsOwnSheet m One total (own m total rows c.args.turns) c.args.one.1 (Ok c.in-Ok.one) = rw c.in-Ok.is at c.requires.one in
    let two : IsOwnSheet m Two total (own m total rows c.args.turns) c.args.two.1 (Ok c.in-Ok-two.two) = rw c.in-Ok-two.is at c.requires.two in
    subst (λ (b : Budget). AreBothSheets m total rows c.args.turns b (Ok (c.in-Ok.one, c.in-Ok-two.two))) (sym (split_as g (goal.at.returns g c).After-split))
    (made_at_once m total rows c.args.turns c.args.one.1 c.args.two.1 c.in-Ok.one c.in-Ok-two.two one two)
