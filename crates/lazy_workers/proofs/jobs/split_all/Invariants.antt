use Rattle.std.proofs.Common.{◌≡◌, ◌≤◌, ◌+◌, length, All}
use Rattle.shared_board.specs.Values.{IsPassOf}
use Rattle.lazy_workers.specs.Keeping.{HasLimit}
use Rattle.lazy_workers.specs.Workers.{IsLead, IsJob}
use Rattle.lazy_workers.proofs.jobs.split_all.Given as goal

abbrev pub invariant-loop-behind : goal.invariant-loop-behind
invariant-loop-behind g l =
    (IsPassOf l.board l.lead × IsLead l.lead.view (1 + l.behind) 1) × (l.lead.entries ≡ l.initial.lead.entries) × (length l.jobs.items ≡ l.behind)
    × All (IsJob g.G.Game.model l.board l.ask l.fn.budgets.begun) l.jobs.items × (length l.turns.items + l.behind ≡ l.ask.workers)
    × All (HasLimit l.ask l.fn.budgets.begun.may_stop) l.turns.items × All (λ t. t.spent ≤ l.fn.budgets.begun.spent) l.turns.items
