-- The ranks of a table's states count the turns of the longest ways.
use Rattle.std.specs.Prelude.{◌≡◌, ℕ, ◌+◌, ◌<◌, ◌≤◌, Some}
use Rattle.sim_game.specs.declared.Limits.{Limits}
use Rattle.table.specs.declared.TableError.{TableError}
use Rattle.table.specs.declared.TableError.TheVariants.{Turns}
use Rattle.table.specs.declared.rules.Rule.TheVariants as rules
use Rattle.table.specs.Faults.{most_table_turns, rule_fault}
use Rattle.table.specs.Lists.{Lists, next_rank, state_count, table_rank}

pub record HaveLongestWays (l : Lists) : Type 0 where
  -- the rank of a state that is no end is 1 more than the greatest of those that its cells name
  pub longest : (s : ℕ) → s < state_count l → 1 ≤ table_rank l s → table_rank l s ≡ next_rank l s + 1
  -- so the rule of turns is broken only where the longest way takes more than the limits allow
  pub refused : (limits : Limits) (fault : TableError) → rule_fault (rules.Turns limits) l ≡ Some fault
      → (s : ℕ) × (fault ≡ Turns s) × (most_table_turns limits < table_rank l s)
