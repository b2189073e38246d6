use Rattle.std.proofs.Common.{rules, ◌≡◌, ◌⊎◌, ⊎_elim, w64, SFits, sym, subst, arith}
use Rattle.std.proofs.lemmas.Int.{to_z-of_z}
use Rattle.sim_game.specs.Sides.{IsNoTighter}
use Rattle.lazy_workers.specs.Findings.{IsFoundPlan}
use Rattle.game_search.specs.declared.plan.Plan.{Plan}
use Rattle.game_search.proofs.PlanLemmas.{plan_for, sheet_plan}
use Rattle.game_search.proofs.induced.chosen.Goals as goal

pub returns : goal.returns
returns g c =
    let m = g.G.Game.model c.args.g in let ask = c.args.ask.now in let side = c.args.side in
    let turns = c.args.turns.now in let held = c.args.held in let sheet = c.args.sheet in
    let fits : SFits w64 c.args.bound = search rules in
    let either : (c.better.result ≡ held) ⊎ (c.better.result ≡ record { sheet = sheet; bound = c.args.bound }) =
    rw (to_z-of_z w64 c.args.bound fits) at c.better.ensures.either in
    ⊎_elim
    (λ same. subst (λ (p : Plan). IsFoundPlan m ask turns.may_stop (turns.spent ≡ 0) side p.sheet p.bound) (sym same)
    (plan_for m ask turns.may_stop (Unit {0}) (turns.spent ≡ 0) side held.sheet held.bound (λ _. tt) c.requires.held))
    (λ other. subst (λ (p : Plan). IsFoundPlan m ask turns.may_stop (turns.spent ≡ 0) side p.sheet p.bound) (sym other)
    (sheet_plan m (g.met.G.Game.lawful c.args.g) ask turns.may_stop side turns.spent held sheet c.args.bound c.requires.ask c.requires.held c.requires.sheet c.requires.bound
    (λ none. omega (arith, none)) (omega arith) (subst (λ (p : Plan). IsNoTighter side held.bound p.bound) other c.better.ensures.own)))
    either
