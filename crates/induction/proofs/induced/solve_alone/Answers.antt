use Rattle.induction.proofs.induced.solve_alone.Goals as goal

pub solve_by-requires-clause-both : goal.solve_by-requires-clause-both
solve_by-requires-clause-both g c = record {
  may_make = λ known turns. (c.requires.some, c.requires.light);
  makes = λ known turns result post. post.1;
}
