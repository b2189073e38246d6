use Rattle.std.proofs.Common.{rules, ◌≡◌, ◌⊎◌, ⊎_elim, ◌-ℤ◌, ◌≤ℤ◌, w64, SFits, refl, sym, ap, subst, arith}
use Rattle.std.proofs.lemmas.Int.{ints, to_z-of_z}
use Rattle.lazy_workers.specs.Findings.{IsFoundGame}
use Rattle.lazy_workers.specs.declared.budgets.Begun.{Begun}
use Rattle.lazy_workers.specs.Keeping.{AreBudgets}
use Rattle.game_search.specs.Steps.{found_with, whole_budget}
use Rattle.game_search.proofs.StepLemmas.{pure_one, pure_two, proposed_found, proposed_left}
use Rattle.game_search.proofs.induced.proposed.Goals as goal

pub better_plans-plans-requires-clause-pure : goal.better_plans-plans-requires-clause-pure
better_plans-plans-requires-clause-pure g c =
    let m = g.G.Game.model c.args.g in let ask = c.args.ask.now in let x = c.args.pure in let turns = c.args.turns in
    let lower_fits : SFits w64 x.lower = search rules in
    let upper_fits : SFits w64 x.upper = search rules in
    rw (to_z-of_z w64 x.lower lower_fits, to_z-of_z w64 x.upper upper_fits) (record { one = pure_one m ask turns.may_stop x c.requires.pure; two = pure_two m ask turns.may_stop x c.requires.pure })

pub better_plans-plans-requires-clause-sheets : goal.better_plans-plans-requires-clause-sheets
better_plans-plans-requires-clause-sheets g c = c.requires.solved.sheets

pub begun-requires-clause-few : goal.begun-requires-clause-few
begun-requires-clause-few g c = c.requires.solved.spent.same.no_more

pub begun-requires-clause-whole : goal.begun-requires-clause-whole
begun-requires-clause-whole g c = c.requires.solved.spent.same.whole

pub returns-then-is_enough : goal.returns-then-is_enough
returns-then-is_enough g c =
    let m = g.G.Game.model c.args.g in let ask = c.args.ask.now in let x = c.args.pure in
    let plans = c.better_plans-plans.result in let turns = c.args.turns in let b = c.in_ok-budgets in
    let one_fits : SFits w64 plans.one.bound = search rules in
    let two_fits : SFits w64 plans.two.bound = search rules in
    let asked_fits : SFits w64 ask.gap = search rules in
    let resolution_fits : SFits w64 x.resolution = search rules in
    let near : ((plans.two.bound -ℤ plans.one.bound) ≤ℤ ask.gap) ⊎ ((plans.two.bound -ℤ plans.one.bound) ≤ℤ x.resolution) =
    rw (to_z-of_z w64 plans.one.bound one_fits, to_z-of_z w64 plans.two.bound two_fits, to_z-of_z w64 ask.gap asked_fits, to_z-of_z w64 x.resolution resolution_fits)
    at (c.is_enough.ensures c.if-is_enough.true) in
    let is : c.found_of.result ≡ found_with plans x.resolution b.budgets.turns.items = rw (to_z-of_z w64 x.resolution resolution_fits) at c.found_of.ensures in
    subst (IsFoundGame m ask turns.may_stop) (sym is)
    (proposed_found m ask turns.may_stop x c.requires.pure plans turns.spent b.budgets.turns.items turns c.requires.far c.better_plans-plans.ensures b.ensures.budgets
    b.ensures.first refl (λ wide. let asked = wide.asked in let above = wide.resolution in
    ⊎_elim (λ it. absurd (omega (arith, ints, it, asked))) (λ it. absurd (omega (arith, ints, it, above))) near))

pub returns : goal.returns
returns g c =
    let m = g.G.Game.model c.args.g in let ask = c.args.ask.now in let x = c.args.pure in let plans = c.better_plans-plans.result in
    let turns = c.args.turns in let b = c.in_ok-budgets in (
      proposed_left m ask turns.may_stop x c.requires.pure plans turns.spent b.budgets.begun.spent (whole_budget ask turns.may_stop) turns c.requires.far c.better_plans-plans.ensures
          c.requires.solved.spent refl (ap (λ (z : Begun). z.spent) b.ensures.begun),
      subst (λ (z : Begun). AreBudgets ask z b.budgets.turns.items) (sym b.ensures.begun) b.ensures.budgets,
      ap (λ (z : Begun). z.may_stop) b.ensures.begun,
    )
