-- What a transposition table tells.
use Rattle.std.specs.Prelude.{◌≡◌, ◌&&◌, ℕ, Bool, List, Option, Some, nat_eq}
use Rattle.std.specs.Ordering.{int_eq}
use Rattle.std.specs.Map.{lookup}
use denote.Enum.Bare.{sameb}
use Rattle.sim_game.specs.contracts.Side.{the_type}
use Rattle.serial_ab.specs.declared.transpositions.Query.{Query}
use Rattle.serial_ab.specs.declared.transpositions.Memo.{Memo}

-- how many searches a table may hold, and those that it holds
pub record TableView : Type 0 where
  pub limit : ℕ
  pub stored : List (Query × Memo)

-- whether both ask for the same search
abbrev pub same_query : Query → Query → Bool
same_query p q = nat_eq p.key q.key && (sameb the_type p.side q.side &&
    (int_eq p.worse q.worse && int_eq p.better q.better))

-- what the search of the query found
abbrev pub told : List (Query × Memo) → Query → Option Memo
told table query = lookup (same_query query) table

abbrev pub Tells : List (Query × Memo) → Query → Memo → Type 0
Tells table query memo = told table query ≡ Some memo
