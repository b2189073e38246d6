-- Records: the entries of a book, whose weights stand in one list.
use Rattle.std.specs.Prelude.{◌≡◌, ℕ, ◌+◌, ◌/◌, ◌≤◌, min, List, length, map, sum, All, slice_range}
use Rattle.sums.specs.declared.TheConstants.{MOST_MOVES}
use Rattle.plan_book.specs.declared.Entry.{Entry}
use Rattle.plan_book.specs.declared.records.EntryRecord.{EntryRecord}
use Rattle.plan_book.specs.declared.records.EntryRef.{EntryRef}

-- the entry of a record
abbrev pub entry_in : List ℕ → EntryRecord → Entry
entry_in weights r = record { key = r.key; side = r.side; bound = r.bound; weights = slice_range weights r.start (r.start + r.count) }

abbrev pub entries_of : List ℕ → List EntryRecord → List Entry
entries_of weights records = map (entry_in weights) records

-- how many entries so much room for records and for weights is enough for, whatever moves they have
abbrev pub room_of : ℕ → ℕ → ℕ
room_of records weights = min records (weights / MOST_MOVES)

-- each record's weights stand in the list, and sum to the total
pub record AreRecords (total : ℕ) (weights : List ℕ) (records : List EntryRecord) : Type 0 where
  pub within : All (λ r. r.start + r.count ≤ length weights) records
  pub sums : All (λ e. sum e.weights ≡ total) (entries_of weights records)

-- the record whose weights stand so many places later
abbrev pub record_behind : ℕ → EntryRecord → EntryRecord
record_behind start r = record r { start = start + r.start }

abbrev pub entry_of : EntryRef → Entry
entry_of e = record { key = e.key; side = e.side; bound = e.bound; weights = e.weights.now }
