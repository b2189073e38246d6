use Rattle.std.proofs.Common.{◌≡◌, ◌∙◌, length, refl, sym, subst}
use Rattle.position.specs.Games.{model_of}
use Rattle.dosolve_c.specs.Calls.{put_over}
use Rattle.dosolve_c.specs.Plans.{IsUnread}
use Rattle.dosolve_c.specs.Seeds.{AreGamesTold}
use Rattle.dosolve_c.proofs.SeedLemmas.{front_of_seeds}
use Rattle.dosolve_c.proofs.seeds.dosolve_games.Goals as goal

pub returns-then-not-can_play : goal.returns-then-not-can_play
returns-then-not-can_play c = AreGamesTold.no_match (sym c.can_play.ensures ∙ c.if-not-can_play.true) refl

pub returns-in-Ok-accept : goal.returns-in-Ok-accept
returns-in-Ok-accept c =
    let r = c.in-Ok.found.report in let told = c.in-Ok-accept.told.items in
    let played = front_of_seeds (model_of c.game.result) r c.args.games (length c.args.results.now) c.min-count.result c.args.seeds.now told c.min-count.ensures c.in-Ok-accept.ensures in
    AreGamesTold.played r told (sym c.can_play.ensures ∙ c.if-not-can_play.false) c.in-Ok.ensures (c.game.result, c.game.ensures, played)
    (subst (λ t. c.put.new.output ≡ put_over t c.args.results.now) c.deref.ensures.value c.put.ensures)

pub returns-in-Ok : goal.returns-in-Ok
returns-in-Ok c = AreGamesTold.fault 8 (sym c.can_play.ensures ∙ c.if-not-can_play.false) IsUnread.no_memory refl

pub returns : goal.returns
returns c = AreGamesTold.fault c.in-Err.status (sym c.can_play.ensures ∙ c.if-not-can_play.false) c.in-Err.ensures refl
