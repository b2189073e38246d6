use Rattle.commands.proofs.solve.search_with.Goals as goal

pub returns-in-Ok-search_task-clause-found : goal.returns-in-Ok-search_task-clause-found
returns-in-Ok-search_task-clause-found g c = record {
  task = record { text = c.in-Ok.task.text; ask = c.in-Ok.task.ask };
  is_task = c.in-Ok.ensures.exact;
  asked = c.in-Ok.ensures.ask;
  solution = c.in-Ok-search_task.ensures.found;
}
