-- What one part of a search after another keeps.
use Rattle.std.proofs.Common.{◌≡◌, ⊎_elim, Bool, ℕ, zero, suc, ◌+◌, ◌<◌, ◌≤◌, ℤ, Result, Ok, Err, OnOk, List, [], ◌++◌, refl, sym, ap, subst, ◌∙◌, append_assoc, append-nil, arith}
use Rattle.std.proofs.lemmas.Bool.{cases_lt}
use Rattle.sums.specs.Sums.{count_below}
use Rattle.std.proofs.lemmas.List.Elements.{All-append, All-nil}
use Rattle.sim_game.specs.declared.Side.{Side}
use Rattle.sim_game.specs.Model.{GameModel}
use Rattle.plan_book.specs.declared.Entry.{Entry}
use Rattle.plan_book.specs.Books.{Grows}
use Rattle.plan_book.specs.Entries.{IsPureEntry}
use Rattle.bounds_board.specs.Views.{BoardView, IsLater}
use Rattle.bounds_board.proofs.ViewLemmas.{later_refl, later_trans, seen_later}
use Rattle.serial_ab.specs.declared.stop.SerialStop.{SerialStop}
use Rattle.serial_ab.specs.declared.stop.SerialStop.TheVariants.{Cut, Full, NoMemory}
use Rattle.serial_ab.specs.Counts.{VisitsView, Counts, WasCut}
use Rattle.serial_ab.specs.Searches.{IsSerialKept, IsGoodNumber, Stops, EndsWith}
use Rattle.serial_ab.proofs.CountLemmas.{counts_none, counts_after, cut_after}

pub grows_none : (P : Entry → Type 0) (xs ys : List Entry) → ys ≡ xs → Grows P xs ys
grows_none P xs ys e = record { more = []; joins = e ∙ sym (append-nil xs); each = All-nil P }

pub grows_after : (P : Entry → Type 0) (xs ys zs : List Entry) → Grows P xs ys → Grows P ys zs → Grows P xs zs
grows_after P xs ys zs p q = record {
  more = p.more ++ q.more;
  joins = q.joins ∙ ap (λ (l : List Entry). l ++ q.more) p.joins ∙ append_assoc xs p.more q.more;
  each = All-append P p.more q.more p.each q.each;
}

pub count_front : (f : ℕ → ℕ) (k n : ℕ) → k ≤ n → count_below k f ≤ count_below n f
count_front f k zero h = let same : k ≡ 0 = omega arith in rw same (omega arith)
count_front f k (suc n) h = ⊎_elim
    (λ (lt : k < suc n). omega (arith, count_front f k n (omega arith)))
    (λ (ge : suc n ≤ k). let same : k ≡ suc n = omega arith in rw same (omega arith))
    (cases_lt k (suc n))

pub count_part : (f : ℕ → ℕ) (i n : ℕ) → i < n → count_below i f + f i ≤ count_below n f
count_part f i n h = count_front f (suc i) n (omega arith)

module _ {S G N : Type 0} {m : GameModel S} {side : Side} where
  pub kept_none : {n : ℕ} {v : BoardView G N} {x : VisitsView} → IsSerialKept m side n v v x x
  kept_none {v = v} = record { later = later_refl v; posted = grows_none (IsPureEntry m v.total) v.entries v.entries refl; visits = counts_none }

  pub kept_after : {a b c : ℕ} {u v w : BoardView G N} {x y z : VisitsView} → IsSerialKept m side a u v x y → IsSerialKept m side b v w y z → a + b ≤ c
      → IsSerialKept m side c u w x z
  kept_after {u = u} {v = v} {w = w} p q h = record {
    later = later_trans u v w p.later q.later;
    posted = grows_after (IsPureEntry m u.total) u.entries v.entries w.entries p.posted (subst (λ (t : ℕ). Grows (IsPureEntry m t) v.entries w.entries) p.later.total q.posted);
    visits = counts_after p.visits q.visits h;
  }

  -- a part that counts nothing
  pub kept_posted : {n : ℕ} {u v : BoardView G N} {x : VisitsView} → IsLater u v → Grows (IsPureEntry m u.total) u.entries v.entries → IsSerialKept m side n u v x x
  kept_posted later posted = record { later = later; posted = posted; visits = counts_none }

  -- and posts nothing
  pub kept_quiet : {n : ℕ} {u v : BoardView G N} {x : VisitsView} → IsLater u v → v.entries ≡ u.entries → IsSerialKept m side n u v x x
  kept_quiet later same = kept_posted later (grows_none _ _ _ same)

  pub kept_counted : {n : ℕ} {u : BoardView G N} {x y : VisitsView} → Counts side n x y → IsSerialKept m side n u u x y
  kept_counted {u = u} counts = record { later = later_refl u; posted = grows_none _ _ _ refl; visits = counts }

  pub good_later : {u v : BoardView G N} {s : S} {x : ℤ} → IsLater u v → IsGoodNumber m side u s x → IsGoodNumber m side v s x
  good_later later good = record { proven = good.proven; seen = seen_later m _ _ side _ _ later good.seen }

  -- ---- the parts of a loop
  module _ {u v : BoardView G N} {x y z : VisitsView} (f : ℕ → ℕ) (i n : ℕ) (before : IsSerialKept m side (count_below i f) u v x y) where
    pub part_kept : {w : BoardView G N} → i < n → IsSerialKept m side (f i) v w y z → IsSerialKept m side (count_below n f) u w x z
    part_kept l q = kept_after before q (count_part f i n l)

    pub part_more : {w : BoardView G N} → IsSerialKept m side (f i) v w y z → IsSerialKept m side (count_below (i + 1) f) u w x z
    part_more q = kept_after before q (count_part f i (i + 1) (omega arith))

    pub part_cut : {may_stop : Bool} → i < n → WasCut may_stop side (f i) y z → WasCut may_stop side (count_below n f) x z
    part_cut l q = cut_after before.visits (count_part f i n l) q

-- where a part stops, the whole stops
pub stops_below : {C C' : Type 0} (L L' : Type 0) (stop : SerialStop) → (C → C') → (L → L') → Stops C L stop → Stops C' L' stop
stops_below L L' Cut c l h = c h
stops_below L L' Full c l h = l h
stops_below L L' NoMemory c l h = h

pub stops_more : {C C' : Type 0} (L : Type 0) (stop : SerialStop) → (C → C') → Stops C L stop → Stops C' L stop
stops_more L stop c h = stops_below L L stop c (λ l. l) h

pub ends_more : (F : ℤ → Type 0) {C C' : Type 0} (L : Type 0) (r : Result ℤ SerialStop) → (C → C') → EndsWith F C L r → EndsWith F C' L r
ends_more F L (Ok x) c h = h
ends_more F L (Err stop) c h = stops_more L stop c h

pub ok_more : {P Q : Type 0} (r : Result ℤ SerialStop) → (P → Q) → OnOk r P → OnOk r Q
ok_more (Ok x) f h = f h
ok_more (Err stop) f h = h
