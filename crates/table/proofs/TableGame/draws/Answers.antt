use Rattle.table.specs.Setting.{lists_of}
use Rattle.table.specs.laws.Game.{are_draws, sound}
use Rattle.table.specs.Lists.{draws_at}
use Rattle.table.specs.Rules.{place_of}
use Rattle.table.proofs.DrawLemmas.{same_count}
use Rattle.table.proofs.TableGame.draws.Goals as goal

pub draw_count-requires : goal.draw_count-requires
draw_count-requires c =
    let l = lists_of c.args.self.now.setting in
    let valid = c.args.self.now.valid in
    let here = sound l valid c.args.s c.requires.reachable in (
      draws_at l (place_of l c.args.s.number c.args.a c.args.b),
      are_draws l valid c.args.s.number c.args.a c.args.b c.in-Draws.first here c.requires.one c.requires.two c.in-Draws.ensures,
    )

pub returns-in-Draws : goal.returns-in-Draws
returns-in-Draws c =
    let l = lists_of c.args.self.now.setting in
    let valid = c.args.self.now.valid in
    let here = sound l valid c.args.s c.requires.reachable in
    same_count l c.in-Draws.first c.draw_count.result (draws_at l (place_of l c.args.s.number c.args.a c.args.b)) c.draw_count.ensures
    (are_draws l valid c.args.s.number c.args.a c.args.b c.in-Draws.first here c.requires.one c.requires.two c.in-Draws.ensures)
