-- The entries of records when lists of weights and of records grow.
use Rattle.std.proofs.Common.{◌≡◌, ℕ, ◌+◌, ◌-◌, ◌≤◌, List, [], ◌∷◌, ◌++◌, length, map, take, drop, sum, slice_range, All, refl, arith, length-append}
use Rattle.std.proofs.Math.Seq.{take-length, drop-append_seam, drop-append-add}
use Rattle.std.proofs.lemmas.List.{take-append-le, drop-append-le, length-drop, map-append}
use Rattle.std.proofs.lemmas.List.Elements.{All-head, All-tail, All-append, All-map, All-push, All-weaker}
use Rattle.plan_book.specs.declared.Entry.{Entry}
use Rattle.plan_book.specs.declared.records.EntryRecord.{EntryRecord}
use Rattle.plan_book.specs.Records.{entry_in, entries_of, record_behind, AreRecords}

-- a part of a list is one of a longer list
part_left : (xs ys : List ℕ) (a n : ℕ) → a + n ≤ length xs → slice_range (xs ++ ys) a (a + n) ≡ slice_range xs a (a + n)
part_left xs ys a n h =
    let size : length (drop a xs) ≡ length xs - a = length-drop a xs in
    rw (drop-append-le a xs ys (omega arith)) (take-append-le (a + n - a) (drop a xs) ys (omega (arith, size)))

part_right : (xs ys : List ℕ) (a n : ℕ) → slice_range (xs ++ ys) (length xs + a) (length xs + a + n) ≡ slice_range ys a (a + n)
part_right xs ys a n =
    let many : length xs + a + n - (length xs + a) ≡ a + n - a = omega arith in
    rw (drop-append-add xs ys a, many) refl

last_part : (xs ys : List ℕ) → slice_range (xs ++ ys) (length xs) (length xs + length ys) ≡ ys
last_part xs ys =
    let many : length xs + length ys - length xs ≡ length ys = omega arith in
    rw (drop-append_seam xs ys, many) (take-length ys)

abbrev pub IsWithin : List ℕ → EntryRecord → Type 0
IsWithin weights r = r.start + r.count ≤ length weights

-- more weights change no entry
entries_kept : (weights more : List ℕ) (records : List EntryRecord) → All (IsWithin weights) records → entries_of (weights ++ more) records ≡ entries_of weights records
entries_kept weights more [] within = refl
entries_kept weights more (r ∷ records) within =
    let here : r.start + r.count ≤ length weights = All-head (IsWithin weights) r records within in
    let part = part_left weights more r.start r.count here in
    let kept = entries_kept weights more records (All-tail (IsWithin weights) r records within) in
    rw (part, kept) refl

entries_moved : (weights more : List ℕ) (records : List EntryRecord) → entries_of (weights ++ more) (map (record_behind (length weights)) records) ≡ entries_of more records
entries_moved weights more [] = refl
entries_moved weights more (r ∷ records) = rw (part_right weights more r.start r.count, entries_moved weights more records) refl

within_more : (weights more : List ℕ) (records : List EntryRecord) → All (IsWithin weights) records → All (IsWithin (weights ++ more)) records
within_more weights more records within = All-weaker (IsWithin weights) (IsWithin (weights ++ more)) (λ r h. rw length-append (omega arith)) records within

-- the record of an entry whose weights are appended
abbrev pub last_record : List ℕ → Entry → EntryRecord
last_record weights e = record { key = e.key; bound = e.bound; start = length weights; count = length e.weights; side = e.side }

module _ (total : ℕ) (weights : List ℕ) (records : List EntryRecord) (old : AreRecords total weights records) where
  -- one more entry
  module _ (e : Entry) where
    pub pushed : entries_of (weights ++ e.weights) (records ++ last_record weights e ∷ []) ≡ entries_of weights records ++ e ∷ []
    pushed = rw (map-append (entry_in (weights ++ e.weights)) records (last_record weights e ∷ []), entries_kept weights e.weights records old.within, last_part weights e.weights) refl

    pub pushed_records : sum e.weights ≡ total → AreRecords total (weights ++ e.weights) (records ++ last_record weights e ∷ [])
    pushed_records adds =
        let inside : length weights + length e.weights ≤ length (weights ++ e.weights) = rw length-append (omega arith) in
        record {
          within = All-push (IsWithin (weights ++ e.weights)) records (last_record weights e) (within_more weights e.weights records old.within) inside;
          sums = rw pushed (All-push (λ (e : Entry). sum e.weights ≡ total) (entries_of weights records) e old.sums adds);
        }

  -- the entries of another list, behind
  module _ (more : List ℕ) (others : List EntryRecord) where
    pub joined : entries_of (weights ++ more) (records ++ map (record_behind (length weights)) others) ≡ entries_of weights records ++ entries_of more others
    joined = rw (map-append (entry_in (weights ++ more)) records (map (record_behind (length weights)) others), entries_kept weights more records old.within, entries_moved weights more others) refl

    pub joined_records : AreRecords total more others → AreRecords total (weights ++ more) (records ++ map (record_behind (length weights)) others)
    joined_records new =
        let moved_within : All (λ (r : EntryRecord). IsWithin (weights ++ more) (record_behind (length weights) r)) others =
        All-weaker (IsWithin more) (λ (r : EntryRecord). IsWithin (weights ++ more) (record_behind (length weights) r)) (λ r h. rw length-append (omega arith)) others new.within in
        record {
          within = All-append (IsWithin (weights ++ more)) records (map (record_behind (length weights)) others) (within_more weights more records old.within)
              (All-map (IsWithin (weights ++ more)) (record_behind (length weights)) others moved_within);
          sums = rw joined (All-append (λ (e : Entry). sum e.weights ≡ total) (entries_of weights records) (entries_of more others) old.sums new.sums);
        }
