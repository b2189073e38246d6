use Rattle.table.specs.Setting.{lists_of}
use Rattle.table.specs.laws.Game.{is_cell, sound}
use Rattle.table.proofs.TableGame.next.Goals as goal

pub drawn-requires-clause-draw : goal.drawn-requires-clause-draw
drawn-requires-clause-draw c =
    let l = lists_of c.args.self.now.setting in
    let valid = c.args.self.now.valid in
    (is_cell l valid c.args.s.number c.args.a c.args.b (sound l valid c.args.s c.requires.reachable) c.requires.one c.requires.two).draws_low
