-- What holds of a plain board: its reads, and how a claim and a post keep it.
use Rattle.std.proofs.Common.{◌≡◌, ◌⊎◌, inl, inr, ⊎_elim, ℕ, ◌+◌, ◌-◌, ◌%◌, ◌<◌, ◌≤◌, ℤ, Some, false, cond, eqb, List, [], ◌∷◌, ◌++◌, length, get_or, set, slice_get, Contains, w64, SFits, refl, sym, ap, ◌∙◌, subst, arith, mod-lt, mod-eq_of_lt}
use Rattle.std.proofs.Math.Nat.{add-mod_right, mod-add-mod}
use mir.Val.{to_z, of_z}
use Rattle.std.proofs.lemmas.Int.{ints, to_z-of_z}
use Rattle.std.proofs.lemmas.Bool.{cases_lt, cases_eq}
use Rattle.std.proofs.lemmas.List.{get_or-set_same, get_or-set_other, get_or-map, length-set, length-map, map-set, map_push, set-get_or}
use Rattle.std.proofs.lemmas.List.Elements.{All-push, All-weaker, Contains-append_left}
use Rattle.std.proofs.lemmas.Option.{slice_get-get_or, slice_get_within, get_or_from_slice_get, same_Some}
use Rattle.sim_game.specs.declared.Side.{Side}
use Rattle.sim_game.specs.declared.Side.TheVariants.{One, Two}
use Rattle.sim_game.specs.Model.{GameModel, IsGame, IsEnd, Reachable}
use Rattle.plan_book.specs.declared.Entry.{Entry}
use Rattle.sim_game.specs.Sides.{IsNoTighter, opening_bound, state_bound, other_side, end_bound, draws_of, child_of, turn_of, better}
use Rattle.plan_book.specs.Books.{same_side, best_posted, book_bound, IsBooked, IsClosed}
use Rattle.plan_book.specs.Entries.{IsEntry}
use Rattle.sim_game.proofs.SideLemmas.{looser_refl, looser_trans, looser_left, looser_right, better_left, better_right, better_least, side_turn, opening_state, end_range}
use Rattle.sim_game.proofs.ReachLemmas.{reachable_turn}
use Rattle.bounds_board.specs.declared.slots.Slot.{Slot}
use Rattle.bounds_board.specs.Slots.{keys_of, slot_bound, IsOther, IsFree, IsMet}
use Rattle.bounds_board.specs.Plain.{IsPlain, plain_view}
use Rattle.bounds_board.specs.Views.{BoardView, IsLater, IsInnerKey, IsFull, IsEnclosure, IsSeenNumber, by_end, by_range, by_seen}
use Rattle.plan_book.proofs.BookLemmas.{best_backed, best_range, best_push, best_grows, best_has, entry_range, eqb_self, eqb_other, cond_and, cond_and_false}
use Rattle.bounds_board.proofs.TableLemmas.{few_keys, key_before, key_pushed, row_inside, row_key, full_others, room, no_row, table_claims}

-- each row is tried, from any number's remainder on
pub row_met : (rows k i : ℕ) → i < rows → (u : ℕ) × (u < rows) × ((k % rows + u) % rows ≡ i)
row_met rows k i l = let h : ℕ = k % rows in let low : h < rows = mod-lt k (omega arith) in ⊎_elim
    (λ (lt : i < h). (i + rows - h, omega arith, let sum : h + (i + rows - h) ≡ i + rows = omega arith in ap (λ (z : ℕ). z % rows) sum ∙ (add-mod_right i rows ∙ mod-eq_of_lt l)))
    (λ (ge : h ≤ i). (i - h, omega arith, let sum : h + (i - h) ≡ i = omega arith in ap (λ (z : ℕ). z % rows) sum ∙ mod-eq_of_lt l)) (cases_lt i h)

-- the rows that are tried one after another
pub row_goes_on : (rows k tried row : ℕ) → row ≡ (k % rows + tried) % rows → (row + 1) % rows ≡ (k % rows + (tried + 1)) % rows
row_goes_on rows k tried row is = ap (λ (z : ℕ). (z + 1) % rows) is ∙ mod-add-mod (k % rows + tried) rows 1 ∙ ap (λ (z : ℕ). z % rows) (omega arith)

module _ {S : Type 0} (m : GameModel S) (game : IsGame m) where
  -- bounds in the range of payoffs fit
  pub range_fits : (x : ℤ) → IsNoTighter One (opening_bound m One) x → IsNoTighter Two (opening_bound m Two) x → SFits w64 x
  range_fits x low high = let a = game.low_least in let b = game.high_most in let c = game.low_high in omega (arith, ints)

  -- what a read of a row gives
  module _ (heads : List ℕ) (slots : List Slot) (total : ℕ) (entries : List Entry) (plain : IsPlain m heads slots total entries) (row : ℕ) (s : S) (slot : Slot)
      (r : Reachable m s) (has : slice_get (keys_of slots) row ≡ Some (m.key s)) (is : slot ≡ get_or slots row slot) where
    range : (side other : Side) → IsNoTighter other (opening_bound m other) (best_posted m entries side (m.key s))
    range side other = best_range m total (IsBooked m entries) entries side other (m.key s) game plain.closed

    read_bound : (side : Side) → to_z w64 (of_z w64 (slot_bound slot side)) ≡ best_posted m entries side (m.key s)
    read_bound side =
        let inside = row_inside slots row (m.key s) has in
        let own : (get_or slots row slot).key ≡ m.key s = same_Some _ _ (sym (row_key slots row slot inside) ∙ has) in
        let same : slot_bound slot side ≡ best_posted m entries side (m.key s) = ap (λ (z : Slot). slot_bound z side) is ∙ plain.bounds row slot inside side ∙ ap (best_posted m entries side) own in
        ap (λ (z : ℤ). to_z w64 (of_z w64 z)) same ∙ to_z-of_z w64 (best_posted m entries side (m.key s)) (range_fits (best_posted m entries side (m.key s)) (range side One) (range side Two))

    pub read_enclosure : IsEnclosure m (to_z w64 (of_z w64 slot.lower)) (to_z w64 (of_z w64 slot.upper)) s
    read_enclosure =
        let best : IsEnclosure m (best_posted m entries One (m.key s)) (best_posted m entries Two (m.key s)) s = record {
          lower_backed = best_backed m total (IsBooked m entries) entries One s game r plain.closed;
          upper_backed = best_backed m total (IsBooked m entries) entries Two s game r plain.closed;
          lower_low = range One One;
          lower_high = range One Two;
          upper_low = range Two One;
          upper_high = range Two Two;
        } in
        subst (λ (z : ℤ). IsEnclosure m z (to_z w64 (of_z w64 slot.upper)) s) (sym (read_bound One))
        (subst (λ (z : ℤ). IsEnclosure m (best_posted m entries One (m.key s)) z s) (sym (read_bound Two)) best)

-- a claim that finds no free head
pub claim_full : {S G : Type 0} (model : G → GameModel S) (g : G) (heads : List ℕ) (slots : List Slot) (total : ℕ) (entries : List Entry)
    (plain : IsPlain (model g) heads slots total entries) (key : ℕ)
    → IsInnerKey (model g) key → ((head : ℕ) → head < length heads → IsOther heads (keys_of slots) key head)
    → IsFull (model g) (plain_view model (record { game = g; rows = length heads; keys = keys_of slots; total = total; entries = entries })) key
claim_full model g heads slots total entries plain key inner others = record {
  inner = inner;
  others = λ row l.
      let o = full_others heads (keys_of slots) plain.table key others row l in
      (o.0, o.1, subst (IsInnerKey (model g)) (get_or_from_slice_get (keys_of slots) row o.0 o.0 o.1) (plain.inner row o.0 (slice_get_within (keys_of slots) row o.0 o.1)), o.2);
  apart = λ row other k l h p q. plain.table.apart row other k p q;
}

pub few_rows : {S : Type 0} (m : GameModel S) (heads : List ℕ) (slots : List Slot) (total : ℕ) (entries : List Entry) → IsPlain m heads slots total entries → length slots ≤ 16777216
few_rows m heads slots total entries plain = omega (arith, few_keys heads (keys_of slots) plain.table, plain.table.rows_high, length-map slots (λ (s : Slot). s.key))

pub claim_later : {S G : Type 0} (model : G → GameModel S) (g : G) (heads : List ℕ) (slots : List Slot) (total : ℕ) (entries : List Entry) (head named : ℕ) (new : Slot)
    → IsLater (plain_view model (record { game = g; rows = length heads; keys = keys_of slots; total = total; entries = entries }))
    (plain_view model (record { game = g; rows = length (set heads head named); keys = keys_of (slots ++ new ∷ []); total = total; entries = entries }))
claim_later model g heads slots total entries head named new = record {
  name = refl;
  game = refl;
  total = refl;
  rows = length-set heads head named;
  keys = λ row k e. rw (map_push (λ (s : Slot). s.key) slots new) (key_before (keys_of slots) new.key row k e);
  seen = λ side k. looser_refl side (best_posted (model g) entries side k);
}

-- a claim takes a free head, and a new row
module _ {S : Type 0} (m : GameModel S) (heads : List ℕ) (slots : List Slot) (total : ℕ) (entries : List Entry) (plain : IsPlain m heads slots total entries)
    (key head : ℕ) (free : IsFree heads (keys_of slots) key head) where
  pub claim_room : length slots < length heads
  claim_room = omega (arith, room heads (keys_of slots) plain.table key head free, length-map slots (λ (s : Slot). s.key))

  -- no row had the key, so no entry has it
  no_entry : (side : Side) → best_posted m entries side key ≡ opening_bound m side
  no_entry side = best_has m entries side key (λ x. x ≡ opening_bound m side) refl
      (All-weaker (λ e. Contains (keys_of slots) e.key) (λ e. e.side ≡ side → e.key ≡ key → e.bound ≡ opening_bound m side)
      (λ e h a k. absurd (no_row heads (keys_of slots) plain.table key head free h.0 (slice_get-get_or (keys_of slots) h.0 e.key h.1 ∙ ap Some (h.2 ∙ k)))) entries plain.held)

  bounds_new : (lower upper : ℤ) → lower ≡ opening_bound m One → upper ≡ opening_bound m Two → (side : Side)
      → slot_bound (record { key = key; lower = lower; upper = upper }) side ≡ best_posted m entries side key
  bounds_new lower upper is_lower is_upper One = is_lower ∙ sym (no_entry One)
  bounds_new lower upper is_lower is_upper Two = is_upper ∙ sym (no_entry Two)

  pub claim_keeps : (lower upper : ℤ) → lower ≡ opening_bound m One → upper ≡ opening_bound m Two → IsInnerKey m key
      → IsPlain m (set heads head (length slots + 1)) (slots ++ record { key = key; lower = lower; upper = upper } ∷ []) total entries
  claim_keeps lower upper is_lower is_upper inner =
      let new : Slot = record { key = key; lower = lower; upper = upper } in
      let keys : keys_of (slots ++ new ∷ []) ≡ keys_of slots ++ key ∷ [] = map_push (λ (s : Slot). s.key) slots new in record {
        total_low = plain.total_low;
        total_fine = plain.total_fine;
        total_high = plain.total_high;
        table = rw (keys, ← length-map slots (λ (s : Slot). s.key)) (table_claims heads (keys_of slots) plain.table key head free);
        inner = rw keys (All-push (IsInnerKey m) (keys_of slots) key plain.inner inner);
        bounds = All-push (λ slot. (side : Side) → slot_bound slot side ≡ best_posted m entries side slot.key) slots new plain.bounds (bounds_new lower upper is_lower is_upper);
        held = rw keys (All-weaker (λ e. Contains (keys_of slots) e.key) (λ e. Contains (keys_of slots ++ key ∷ []) e.key)
            (λ e h. Contains-append_left (keys_of slots) (key ∷ []) e.key h) entries plain.held);
        closed = plain.closed;
      }

  -- and no other row has the key
  pub claim_alone : (lower upper : ℤ) (other : ℕ) → slice_get (keys_of (slots ++ record { key = key; lower = lower; upper = upper } ∷ [])) other ≡ Some key → other ≡ length slots
  claim_alone lower upper other e =
      let new : Slot = record { key = key; lower = lower; upper = upper } in
      let keys : keys_of (slots ++ new ∷ []) ≡ keys_of slots ++ key ∷ [] = map_push (λ (s : Slot). s.key) slots new in
      (table_claims heads (keys_of slots) plain.table key head free).apart other (length slots) key (subst (λ (k : List ℕ). slice_get k other ≡ Some key) keys e)
      (subst (λ (k : List ℕ). slice_get k (length slots) ≡ Some key) keys (key_pushed slots new))

-- a number that was seen is no tighter than what the book has
module _ {S : Type 0} (m : GameModel S) (game : IsGame m) (total : ℕ) (entries : List Entry) (each : IsClosed m total entries) where
  end_or_not : (s : S) → IsEnd m s ⊎ (1 ≤ m.rank s)
  end_or_not s = ⊎_elim (λ (l : m.rank s < 1). inl (omega arith)) (λ (h : 1 ≤ m.rank s). inr h) (cases_lt (m.rank s) 1)

  -- no entry is at an end
  end_opening : (side : Side) (s : S) → Reachable m s → IsEnd m s → best_posted m entries side (m.key s) ≡ opening_bound m side
  end_opening side s r e = best_has m entries side (m.key s) (λ x. x ≡ opening_bound m side) refl
      (All-weaker (IsEntry m total (IsBooked m entries)) (λ f. f.side ≡ side → f.key ≡ m.key s → f.bound ≡ opening_bound m side)
      (λ f lawful a k. let same : lawful.state ≡ s = game.same_key lawful.state s lawful.reachable r (lawful.is_key ∙ k) in
      let on : 1 ≤ m.rank lawful.state = lawful.step.goes_on in
      let at : m.rank lawful.state ≡ m.rank s = ap m.rank same in absurd (omega arith)) entries each)

  at_end_is : (es : List Entry) (side : Side) (s : S) → IsEnd m s → book_bound m es side s ≡ end_bound m s
  at_end_is es side s e = rw e refl

  at_inner_is : (es : List Entry) (side : Side) (s : S) → 1 ≤ m.rank s → book_bound m es side s ≡ better side (best_posted m es side (m.key s)) (state_bound m side s)
  at_inner_is es side s h = let test : eqb (m.rank s) 0 ≡ false = eqb_other (m.rank s) 0 (λ e. omega arith) in rw test refl

  range_booked : (es : List Entry) (side : Side) (s : S) → Reachable m s → IsNoTighter side (state_bound m side s) (book_bound m es side s)
  range_booked es side s r = ⊎_elim
      (λ (e : IsEnd m s). looser_right side (state_bound m side s) _ _ (sym (at_end_is es side s e)) (end_range m side s game r e))
      (λ (h : 1 ≤ m.rank s). looser_right side (state_bound m side s) _ _ (sym (at_inner_is es side s h)) (better_right side (best_posted m es side (m.key s)) (state_bound m side s)))
      (end_or_not s)

  pub booked_grows : (e : Entry) (side : Side) (s : S) (x : ℤ) → IsBooked m entries side s x → IsBooked m (entries ++ e ∷ []) side s x
  booked_grows e side s x h = ⊎_elim
      (λ (z : IsEnd m s). looser_right side x _ _ (at_end_is entries side s z ∙ sym (at_end_is (entries ++ e ∷ []) side s z)) h)
      (λ (z : 1 ≤ m.rank s). looser_right side x _ _ (sym (at_inner_is (entries ++ e ∷ []) side s z))
      (looser_trans side x (better side (best_posted m entries side (m.key s)) (state_bound m side s)) (better side (best_posted m (entries ++ e ∷ []) side (m.key s)) (state_bound m side s))
      (looser_right side x _ _ (at_inner_is entries side s z) h)
      (better_least side _ _ _ (looser_trans side _ _ _ (best_grows m entries e side (m.key s)) (better_left side _ (state_bound m side s))) (better_right side _ _))))
      (end_or_not s)

  pub seen_booked : {G N : Type 0} (v : BoardView G N) → ((side : Side) (key : ℕ) → v.seen side key ≡ best_posted m entries side key)
      → (side : Side) (s : S) (x : ℤ) → Reachable m s → IsSeenNumber m v side s x → IsBooked m entries side s x
  seen_booked v is side s x r (by_end e h) = looser_right side x _ _ (sym (at_end_is entries side s e)) (looser_left side (end_bound m s) x (end_bound m s) (sym h) (looser_refl side (end_bound m s)))
  seen_booked v is side s x r (by_range h) = looser_trans side x (state_bound m side s) _ h (range_booked entries side s r)
  seen_booked v is side s x r (by_seen h) =
      let best : IsNoTighter side x (best_posted m entries side (m.key s)) = looser_right side x _ _ (is side (m.key s)) h in ⊎_elim
      (λ (e : IsEnd m s). looser_trans side x (opening_bound m side) (book_bound m entries side s) (looser_right side x _ _ (end_opening side s r e) best)
      (looser_trans side _ _ _ (opening_state m side s game r) (range_booked entries side s r)))
      (λ (e : 1 ≤ m.rank s). looser_right side x _ _ (sym (at_inner_is entries side s e)) (looser_trans side _ _ _ best (better_left side _ (state_bound m side s))))
      (end_or_not s)

-- a child of a reachable state is reachable
pub child_reachable : {S : Type 0} (m : GameModel S) (side : Side) (s : S) (own reply draw : ℕ) → Reachable m s → own < m.moves side s
    → reply < m.moves (other_side side) s → draw < draws_of m side s own reply → Reachable m (child_of m side s own reply draw)
child_reachable m One s own reply draw r p q d = reachable_turn m s (turn_of One own reply draw) r (side_turn m One s own reply draw p q d)
child_reachable m Two s own reply draw r p q d = reachable_turn m s (turn_of Two own reply draw) r (side_turn m Two s own reply draw p q d)

pub entry_weaker : {S : Type 0} (m : GameModel S) (total : ℕ) (P Q : Side → S → ℤ → Type 0) (e : Entry)
    → ((s : S) (x : ℤ) → Reachable m s → P e.side s x → Q e.side s x) → IsEntry m total P e → IsEntry m total Q e
entry_weaker m total P Q e f h = record {
  state = h.state;
  reachable = h.reachable;
  is_key = h.is_key;
  low = h.low;
  high = h.high;
  numbers = h.numbers;
  step = h.step;
  backed = h.backed;
  known = λ own reply draw p q d w. f _ _ (child_reachable m e.side h.state own reply draw h.reachable p q d) (h.known own reply draw p q d w);
}

-- a post leaves the keys as they are
pub post_keys : (slots : List Slot) (row : ℕ) (old new : Slot) → row < length slots → old ≡ get_or slots row old → new.key ≡ old.key → keys_of (set slots row new) ≡ keys_of slots
post_keys slots row old new l is same =
    let key : Slot → ℕ = λ s. s.key in map-set key slots row new ∙ ap (set (keys_of slots) row) (same ∙ ap key is ∙ sym (get_or-map key slots row old 0 l)) ∙ set-get_or (keys_of slots) row 0

pub post_later : {S G : Type 0} (model : G → GameModel S) (g : G) (rows : ℕ) (keys : List ℕ) (total : ℕ) (entries : List Entry) (e : Entry)
    → IsLater (plain_view model (record { game = g; rows = rows; keys = keys; total = total; entries = entries }))
    (plain_view model (record { game = g; rows = rows; keys = keys; total = total; entries = entries ++ e ∷ [] }))
post_later model g rows keys total entries e = record {
  name = refl;
  game = refl;
  total = refl;
  rows = refl;
  keys = λ row k h. h;
  seen = λ side k. best_grows (model g) entries e side k;
}

-- a post keeps what holds of the board
module _ {S : Type 0} (m : GameModel S) (game : IsGame m) (heads : List ℕ) (slots : List Slot) (total : ℕ) (entries : List Entry) (plain : IsPlain m heads slots total entries)
    (row : ℕ) (e : Entry) (at_row : slice_get (keys_of slots) row ≡ Some e.key) (old new : Slot) (is_old : old ≡ get_or slots row old) (met : IsMet e.side e.bound old new) where
  inside : row < length slots
  inside = row_inside slots row e.key at_row

  same_key : new.key ≡ (get_or slots row old).key
  same_key = met.key ∙ ap (λ (s : Slot). s.key) is_old

  keys_stay : keys_of (set slots row new) ≡ keys_of slots
  keys_stay = post_keys slots row old new inside is_old met.key

  bounds_there : (side : Side) → slot_bound new side ≡ best_posted m (entries ++ e ∷ []) side new.key
  bounds_there side =
      let own : new.key ≡ e.key = same_key ∙ same_Some _ _ (sym (row_key slots row old inside) ∙ at_row) in
      let before : slot_bound old side ≡ best_posted m entries side new.key =
      ap (λ (z : Slot). slot_bound z side) is_old ∙ plain.bounds row old inside side ∙ ap (best_posted m entries side) (sym same_key) in
      met.bounds side
      ∙ ap (λ (z : ℤ). cond (same_side e.side side) (better side e.bound z) z) before
      ∙ sym (cond_and (same_side e.side side) (eqb e.key new.key) _ _ (rw own (eqb_self e.key)))
      ∙ sym (best_push m entries e side new.key)

  bounds_elsewhere : (other : ℕ) (d : Slot) → other < length slots → (other ≡ row → ⊥) → (side : Side)
      → slot_bound (get_or slots other d) side ≡ best_posted m (entries ++ e ∷ []) side (get_or slots other d).key
  bounds_elsewhere other d l n side =
      let slot : Slot = get_or slots other d in
      let apart : e.key ≡ slot.key → ⊥ = λ same. n (plain.table.apart other row e.key (row_key slots other d l ∙ ap Some (sym same)) at_row) in
      plain.bounds other d l side ∙ sym (best_push m entries e side slot.key ∙ cond_and_false (same_side e.side side) (eqb e.key slot.key) _ _ (eqb_other e.key slot.key apart))

  pub post_keeps : {G N : Type 0} (v : BoardView G N) → ((side : Side) (key : ℕ) → v.seen side key ≡ best_posted m entries side key) → IsEntry m total (IsSeenNumber m v) e
      → IsPlain m heads (set slots row new) total (entries ++ e ∷ [])
  post_keeps v is lawful = record {
    total_low = plain.total_low;
    total_fine = plain.total_fine;
    total_high = plain.total_high;
    table = rw keys_stay plain.table;
    inner = rw keys_stay plain.inner;
    bounds = λ other d l side. elim (cases_eq other row) [
      | inl same ↦ rw (same, get_or-set_same slots row new d inside) (bounds_there side)
      | inr n ↦ rw (get_or-set_other slots row other new d n) (bounds_elsewhere other d (rw length-set at l) n side)
    ];
    held = rw keys_stay (All-push (λ f. Contains (keys_of slots) f.key) entries e plain.held
        (row, slice_get_within (keys_of slots) row e.key at_row, get_or_from_slice_get (keys_of slots) row e.key e.key at_row));
    closed = All-push (IsEntry m total (IsBooked m (entries ++ e ∷ []))) entries e
        (All-weaker (IsEntry m total (IsBooked m entries)) (IsEntry m total (IsBooked m (entries ++ e ∷ [])))
        (λ f h. entry_weaker m total (IsBooked m entries) (IsBooked m (entries ++ e ∷ [])) f (λ s x r b. booked_grows m game total entries plain.closed e f.side s x b) h) entries plain.closed)
        (entry_weaker m total (IsSeenNumber m v) (IsBooked m (entries ++ e ∷ [])) e
        (λ s x r h. booked_grows m game total entries plain.closed e e.side s x (seen_booked m game total entries plain.closed v is e.side s x r h)) lawful);
  }

-- an opening bound fits, so it comes back as it was handed over
pub opening_returned : {S : Type 0} (m : GameModel S) (side : Side) (x : ℤ) → IsGame m → x ≡ opening_bound m side → to_z w64 (of_z w64 x) ≡ opening_bound m side
opening_returned m One x game e = let a = game.low_least in let b = game.high_most in let c = game.low_high in omega (arith, ints)
opening_returned m Two x game e = let a = game.low_least in let b = game.high_most in let c = game.low_high in omega (arith, ints)

pub bound_returned : {S : Type 0} (m : GameModel S) (game : IsGame m) (total : ℕ) (Known : Side → S → ℤ → Type 0) (e : Entry) (old new : Slot) → IsEntry m total Known e
    → IsMet e.side (to_z w64 (of_z w64 e.bound)) old new → IsMet e.side e.bound old new
bound_returned m game total Known e old new lawful met =
    let fits = range_fits m game e.bound (entry_range m game total Known One e lawful) (entry_range m game total Known Two e lawful) in
    subst (λ (z : ℤ). IsMet e.side z old new) (to_z-of_z w64 e.bound fits) met
