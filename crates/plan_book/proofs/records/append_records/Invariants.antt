use Rattle.std.proofs.Common.{◌≡◌, ◌+◌, ◌≤◌, ◌++◌, length, map, take, vec_len, vec_capacity}
use Rattle.plan_book.specs.Records.{record_behind}
use Rattle.plan_book.proofs.records.append_records.Given as goal

abbrev pub invariant-loop-record : goal.invariant-loop-record
invariant-loop-record l = record {
  items : l.records.items ≡ l.initial.records.items ++ map (record_behind l.start) (take l.record-index l.more);
  room : vec_len l.records + length l.more ≤ vec_capacity l.records + l.record-index;
}
