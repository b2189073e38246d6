use Rattle.matrix_game.proofs.MemoryLemmas.{kept-after}
use Rattle.matrix_game.proofs.memory.StageMemory.keep.Goals as goal

pub invariant_of-self-in-Some-2 : goal.invariant_of-self-in-Some-2
invariant_of-self-in-Some-2 c =
    kept-after c.self.inside.limit c.put.result c.in-Some.stages c.put.new.self c.args.key c.args.solution c.put.ensures.entries c.put.ensures.err c.in-Some.ensures c.requires
