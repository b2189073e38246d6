use Rattle.std.proofs.Common.{rules, ◌<◌, w64, SFits, ◌∙◌}
use Rattle.std.proofs.lemmas.Int.{to_z-of_z}
use Rattle.sim_game.specs.declared.Side.TheVariants.{One}
use Rattle.sim_game.specs.Model.{Reachable}
use Rattle.sim_game.proofs.SideLemmas.{side_turn}
use Rattle.bounds_board.proofs.ViewLemmas.{later_refl, later_trans}
use Rattle.restricted_game.specs.Numbers.{IsWanted}
use Rattle.restricted_game.proofs.ChildLemmas.{child_rows_later}
use Rattle.restricted_game.proofs.ReadLemmas.{child_reachable, read_between, turn_read, turn_small}
use Rattle.sim_game.proofs.RewardLemmas.{reward_small}
use Rattle.restricted_game.proofs.reading.read_child.Goals as goal

pub read_state-read-requires : goal.read_state-read-requires
read_state-read-requires g c =
    let inside : c.args.at.draw < (g.G.Game.model c.args.g).draws c.args.s c.args.at.one c.args.at.two = search rules in
    let reach : Reachable (g.G.Game.model c.args.g) c.drawn.result =
    child_reachable _ c.args.s c.args.at.one c.args.at.two c.args.at.draw _ c.drawn.ensures c.requires.here.reachable c.requires.one c.requires.two inside in
    search rules

pub with_reward-requires-clause-reward : goal.with_reward-requires-clause-reward
with_reward-requires-clause-reward g c =
    let m = g.G.Game.model c.args.g in
    let f : SFits w64 c.turn_reward.result = search rules in
    let inside : c.args.at.draw < m.draws c.args.s c.args.at.one c.args.at.two = search rules in
    rw (to_z-of_z w64 c.turn_reward.result f, c.turn_reward.ensures)
    (reward_small m (g.met.G.Game.lawful c.args.g) One c.args.s c.args.at.one c.args.at.two c.args.at.draw c.requires.here.reachable
    (side_turn m One c.args.s c.args.at.one c.args.at.two c.args.at.draw c.requires.one c.requires.two inside))

pub returns-in-Ok-clause-board : goal.returns-in-Ok-clause-board
returns-in-Ok-clause-board g c = record {
  later = later_trans _ _ _ c.claim.ensures.board.later c.read_state-read.ensures.later;
  entries = c.read_state-read.ensures.entries ∙ c.claim.ensures.board.entries;
  children = child_rows_later (g.G.Game.model c.args.g) _ _ c.args.s _ c.read_state-read.ensures.later c.claim.ensures.board.children;
}

pub returns-in-Ok-clause-read : goal.returns-in-Ok-clause-read
returns-in-Ok-clause-read g c wanted inside =
    let m = g.G.Game.model c.args.g in
    let f : SFits w64 c.turn_reward.result = search rules in
    let paid = rw (to_z-of_z w64 c.turn_reward.result f, c.turn_reward.ensures) at c.with_reward.ensures in
    let read = rw c.drawn.ensures at c.read_state-read.ensures.read in
    turn_read m (g.B.Bounds.view c.args.board.now) (g.B.Bounds.view c.read_state-read.new.board) c.args.s c.args.at.one c.args.at.two c.args.at.draw c.read_state-read.result
    c.with_reward.result (read_between m _ _ _ _ _ _ c.claim.ensures.board.later (later_refl _) read) paid

pub returns-in-Ok-clause-small : goal.returns-in-Ok-clause-small
returns-in-Ok-clause-small g c =
    let m = g.G.Game.model c.args.g in
    let inside : c.args.at.draw < m.draws c.args.s c.args.at.one c.args.at.two = search rules in
    let wanted : IsWanted c.args.rows.now c.args.cols.now c.args.at.one c.args.at.two = search rules in
    turn_small m _ _ c.args.s c.args.at.one c.args.at.two c.args.at.draw c.with_reward.result (g.met.G.Game.lawful c.args.g) c.requires.here.reachable
    (side_turn m One c.args.s c.args.at.one c.args.at.two c.args.at.draw c.requires.one c.requires.two inside) (returns-in-Ok-clause-read g c wanted inside)
