use Rattle.std.proofs.Common.{◌≡◌, replicate, rules}
use Rattle.matrix_game.proofs.Stages.{all_on_written}
use Rattle.matrix_game.proofs.stage.all_on.Goals as goal

pub returns : goal.returns
returns c =
    let zeros : c.in_ok-weights.weights.items ≡ replicate c.args.len 0 = search rules in
    all_on_written c.args.len c.args.at c.args.weight c.in_ok-weights.weights.items c.requires zeros
