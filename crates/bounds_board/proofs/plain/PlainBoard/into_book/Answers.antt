use Rattle.std.proofs.Common.{◌≤◌, All, Contains, length, nat_eq, subst}
use Rattle.std.specs.List.{IsDistinct}
use Rattle.bounds_board.specs.Plain.{PlainValue}
use Rattle.bounds_board.proofs.TableLemmas.{few_keys, distinct_keys}
use Rattle.bounds_board.proofs.plain.PlainBoard.into_book.Goals as goal

pub returns-clause-held : goal.returns-clause-held
returns-clause-held g c = subst (λ (v : PlainValue _). All (λ e. Contains v.keys e.key) c.self.inside.book.entries) c.self.view_is c.self.invariant.0.held

pub returns-clause-few : goal.returns-clause-few
returns-clause-few g c = subst (λ (v : PlainValue _). length v.keys ≤ v.rows) c.self.view_is (few_keys c.self.inside.heads.items _ c.self.invariant.0.table)

pub returns-clause-apart : goal.returns-clause-apart
returns-clause-apart g c = subst (λ (v : PlainValue _). IsDistinct nat_eq v.keys) c.self.view_is (distinct_keys c.self.inside.heads.items _ c.self.invariant.0.table)
