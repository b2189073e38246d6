use Rattle.std.proofs.Common.{◌≡◌, replicate, rules}
use Rattle.matrix_game.proofs.Stages.{written-weighted}
use Rattle.matrix_game.proofs.floats.write_pure.Goals as goal

pub returns : goal.returns
returns c =
    let zeros : c.resize.new.self.items ≡ replicate c.args.count 0 = search rules in
    written-weighted c.args.count c.args.place c.args.total c.resize.new.self.items c.requires zeros
