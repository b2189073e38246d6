use Rattle.std.proofs.Common.{arith, ◌≡◌, slice_index, false, refl}
use Rattle.std.proofs.lemmas.Int.{ints}
use Rattle.sim_game.specs.declared.Side.TheVariants.{One, Two}
use Rattle.oshi_zumo.specs.Rules.{bids, is_bout_over}
use Rattle.oshi_zumo.specs.laws.Game.{oshi_zumo_sound, same_oshi_zumo_state, open_bids, moves_open}
use Rattle.oshi_zumo.proofs.OshiZumoGame.next.Goals as goal

pub returns : goal.returns
returns c =
    let g = c.args.self.now.setting in
    let over : is_bout_over g c.args.s ≡ false = moves_open _ _ _ c.requires.one in
    let one : c.bid-one.result ≡ slice_index (bids g One c.args.s) c.args.a = rw (open_bids g One c.args.s over) c.bid-one.ensures.is in
    let two : c.bid-two.result ≡ slice_index (bids g Two c.args.s) c.args.b = rw (open_bids g Two c.args.s over) c.bid-two.ensures.is in
    rw (← one, ← two, ← c.push.ensures.is)
    (same_oshi_zumo_state _ _ (omega (arith, ints, (oshi_zumo_sound g c.args.self.now.valid c.args.s c.requires.reachable).near, c.push.ensures.small, c.args.self.now.valid.size_high)) refl refl)
