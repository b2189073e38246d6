use Rattle.std.proofs.Common.{rules, ◌≡◌, ◌⊎◌, ⊎_elim, All, w64, SFits, sym, subst}
use Rattle.std.proofs.lemmas.Int.{to_z-of_z}
use Rattle.sim_game.specs.declared.Side.TheVariants.{One, Two}
use Rattle.sim_game.specs.Sides.{IsNoTighter}
use Rattle.sim_game.proofs.SideLemmas.{looser_refl}
use Rattle.lazy_workers.specs.Findings.{IsFoundPlan, IsIdle}
use Rattle.game_search.specs.declared.plan.Plan.{Plan}
use Rattle.game_search.proofs.StepLemmas.{bettered_found, left_plan}
use Rattle.game_search.proofs.search.bettered.Goals as goal

pub returns-then-is_idle : goal.returns-then-is_idle
returns-then-is_idle g c =
    let x = c.args.found in
    bettered_found (g.G.Game.model c.args.g) c.args.ask.now c.args.plans c.args.begun x (record { sheet = x.one; bound = x.lower }) (record { sheet = x.two; bound = x.upper })
    c.requires.search c.requires.left c.requires.found c.requires.found.game.one c.requires.found.game.two (looser_refl One x.lower) (looser_refl Two x.upper)

pub returns : goal.returns
returns g c =
    let m = g.G.Game.model c.args.g in let ask = c.args.ask.now in let may_stop = c.args.begun.may_stop in let x = c.args.found in
    let one = c.better-one.result in let two = c.better-two.result in
    let one_fits : SFits w64 one.bound = search rules in
    let two_fits : SFits w64 two.bound = search rules in
    let resolution_fits : SFits w64 x.resolution = search rules in
    let busy : IsIdle m ask x → ⊥ = subst (λ turns. All (λ t. t.spent ≡ 0) turns → ⊥) c.as_slice.ensures c.if-is_idle.ensures in
    let lower_fits : SFits w64 x.lower = search rules in
    let upper_fits : SFits w64 x.upper = search rules in
    let either_one : (one ≡ c.args.plans.one) ⊎ (one ≡ record { sheet = x.one; bound = x.lower }) = rw (to_z-of_z w64 x.lower lower_fits) at c.better-one.ensures.either in
    let either_two : (two ≡ c.args.plans.two) ⊎ (two ≡ record { sheet = x.two; bound = x.upper }) = rw (to_z-of_z w64 x.upper upper_fits) at c.better-two.ensures.either in
    let low : IsNoTighter One x.lower one.bound = rw (to_z-of_z w64 x.lower lower_fits) at c.better-one.ensures.others in
    let high : IsNoTighter Two x.upper two.bound = rw (to_z-of_z w64 x.upper upper_fits) at c.better-two.ensures.others in
    let is_one : IsFoundPlan m ask may_stop (IsIdle m ask x) One one.sheet one.bound = ⊎_elim
    (λ same. subst (λ (p : Plan). IsFoundPlan m ask may_stop (IsIdle m ask x) One p.sheet p.bound) (sym same) (left_plan m ask may_stop x One c.args.plans.one busy c.requires.left.plans_are.one))
    (λ other. subst (λ (p : Plan). IsFoundPlan m ask may_stop (IsIdle m ask x) One p.sheet p.bound) (sym other) c.requires.found.game.one)
    either_one in
    let is_two : IsFoundPlan m ask may_stop (IsIdle m ask x) Two two.sheet two.bound = ⊎_elim
    (λ same. subst (λ (p : Plan). IsFoundPlan m ask may_stop (IsIdle m ask x) Two p.sheet p.bound) (sym same) (left_plan m ask may_stop x Two c.args.plans.two busy c.requires.left.plans_are.two))
    (λ other. subst (λ (p : Plan). IsFoundPlan m ask may_stop (IsIdle m ask x) Two p.sheet p.bound) (sym other) c.requires.found.game.two)
    either_two in
    rw (to_z-of_z w64 one.bound one_fits, to_z-of_z w64 two.bound two_fits, to_z-of_z w64 x.resolution resolution_fits)
    (bettered_found m ask c.args.plans c.args.begun x one two c.requires.search c.requires.left c.requires.found is_one is_two low high)
