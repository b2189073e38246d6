use Rattle.std.proofs.lemmas.Result.{IfOk-weaker}
use Rattle.lazy_workers.proofs.workers.search_alone.Goals as goal

pub returns-clause-searched : goal.returns-clause-searched
returns-clause-searched g c = IfOk-weaker c.gather.result _ _ (λ x. c.with_rows_for-enough.ensures.same c.args.budgets.begun x.book.entries x.kept x.turns x.was_full) c.gather.ensures.searched

pub split_all-requires-clause-turns : goal.split_all-requires-clause-turns
split_all-requires-clause-turns g c = c.with_rows_for-enough.ensures.turns c.args.budgets.begun c.args.budgets.turns.items c.requires.turns
