-- What one part of a search after another leaves on the board.
use Rattle.std.proofs.Common.{◌≡◌, ◌⊎◌, inl, inr, ⊎_elim, ℕ, Option, Some, None, IfSome, ℤ, pos, ◌+ℤ◌, ◌-ℤ◌, ◌≤ℤ◌, ◌<ℤ◌, true, IsTrue, List, w64, SFits, to_z, of_z, refl, ap, subst, sym, ◌∙◌, arith}
use Rattle.std.specs.Int.Signed.{le_z, le_z_yes}
use Rattle.std.proofs.lemmas.Int.{ints, to_z-of_z}
use Rattle.std.proofs.lemmas.List.Elements.{All-weaker}
use Rattle.sim_game.specs.declared.Side.{Side}
use Rattle.sim_game.specs.declared.Side.TheVariants.{One, Two}
use Rattle.sim_game.specs.Model.{GameModel, IsGame, Reachable}
use Rattle.sim_game.specs.Sides.{opening_bound}
use Rattle.plan_book.specs.declared.Entry.{Entry}
use Rattle.plan_book.specs.Entries.{IsLawfulEntry, IsPureEntry}
use Rattle.plan_book.specs.Books.{Grows}
use Rattle.plan_book.specs.Serial.{serial_bound}
use Rattle.plan_book.proofs.BackedLemmas.{backed_meet}
use Rattle.plan_book.proofs.SerialLemmas.{serial_backed}
use Rattle.bounds_board.specs.declared.bounds.Enclosure.{Enclosure}
use Rattle.bounds_board.specs.Views.{BoardView, IsEnclosure, known_bound, bound_in}
use Rattle.bounds_board.proofs.PlainLemmas.{range_fits}
use Rattle.serial_ab.specs.Counts.{VisitsView}
use Rattle.serial_ab.specs.Searches.{IsSerialKept}
use Rattle.serial_ab.specs.Ends.{IsValue}
use Rattle.serial_ab.specs.declared.windowed.SerialEnd.{SerialEnd}
use Rattle.serial_ab.specs.declared.windowed.SerialEnd.TheVariants.{Exact, AtLeast, AtMost, Cut}
use Rattle.serial_ab.proofs.ValueLemmas.{serial_from, serial_to}
use Rattle.restricted_game.specs.Nodes.{IsBetter}
use Rattle.oracle_search.specs.Finished.{IsWithin}
use Rattle.oracle_search.specs.Searches.{IsPureTight, IsAhead, number_in, IsFoundBelow, IsFoundAbove}

pub grows_weaker : (P Q : Entry → Type 0) (xs ys : List Entry) → ((e : Entry) → P e → Q e) → Grows P xs ys → Grows Q xs ys
grows_weaker P Q xs ys f p = record { more = p.more; joins = p.joins; each = All-weaker P Q f p.more p.each }

-- a serial search
pub better_serial : {S G N : Type 0} (m : GameModel S) (side : Side) (most : ℕ) (u v : BoardView G N) (x y : VisitsView) → IsSerialKept m side most u v x y → IsBetter m u v
better_serial m side most u v x y kept = record {
  later = kept.later;
  posted = grows_weaker (IsPureEntry m u.total) (IsLawfulEntry m u.total) u.entries v.entries (λ e p. p.lawful) kept.posted;
}

-- ---- what is known of a state
module _ {S G N : Type 0} (m : GameModel S) (game : IsGame m) (s : S) (v : BoardView G N) (e : Enclosure) (both : IsEnclosure m e.lower e.upper s)
    (known : (side : Side) → bound_in side e ≡ known_bound m v side s) where
  -- bounds that are one word
  pub met_known : of_z w64 e.lower ≡ of_z w64 e.upper → known_bound m v One s ≡ known_bound m v Two s
  met_known met =
      let same : e.lower ≡ e.upper = sym (to_z-of_z w64 e.lower (range_fits m game e.lower both.lower_low both.lower_high)) ∙ ap (to_z w64) met
      ∙ to_z-of_z w64 e.upper (range_fits m game e.upper both.upper_low both.upper_high) in
      sym (known One) ∙ same ∙ known Two

  pub enclosure_known : IsEnclosure m (known_bound m v One s) (known_bound m v Two s) s
  enclosure_known = subst (λ (x : ℤ). IsEnclosure m x (known_bound m v Two s) s) (known One) (subst (λ (x : ℤ). IsEnclosure m e.lower x s) (known Two) both)

  -- the difference of the bounds
  pub gap_known : to_z w64 (of_z w64 (to_z w64 (of_z w64 e.upper) -ℤ to_z w64 (of_z w64 e.lower))) ≡ known_bound m v Two s -ℤ known_bound m v One s
  gap_known =
      let a = game.low_least in let b = game.high_most in
      let c = both.lower_low in let d = both.lower_high in let f = both.upper_low in let h = both.upper_high in
      let fits : SFits w64 (e.upper -ℤ e.lower) = omega (arith, ints) in
      let one : e.lower ≡ known_bound m v One s = known One in
      let two : e.upper ≡ known_bound m v Two s = known Two in
      rw (
        to_z-of_z w64 e.lower (range_fits m game e.lower both.lower_low both.lower_high),
        to_z-of_z w64 e.upper (range_fits m game e.upper both.upper_low both.upper_high),
        to_z-of_z w64 (e.upper -ℤ e.lower) fits,
        two,
        one,
      ) refl

-- where both bounds are one number, each is as tight as pure plans can make it
pub serial_met : {S G N : Type 0} (m : GameModel S) (game : IsGame m) (s : S) (v : BoardView G N) → Reachable m s
    → IsEnclosure m (known_bound m v One s) (known_bound m v Two s) s → known_bound m v One s ≡ known_bound m v Two s → IsPureTight m s v
serial_met m game s v r both same One =
    subst (λ (x : ℤ). serial_bound m One s ≤ℤ x) (sym same) (backed_meet m game s (serial_bound m One s) (known_bound m v Two s) r (serial_backed m game One s r) both.upper_backed)
serial_met m game s v r both same Two =
    subst (λ (x : ℤ). x ≤ℤ serial_bound m Two s) same (backed_meet m game s (known_bound m v One s) (serial_bound m Two s) r both.lower_backed (serial_backed m game Two s r))

-- a gap read as none
pub gap_closed : {S G N : Type 0} (m : GameModel S) (game : IsGame m) (s : S) (v : BoardView G N) (gap : ℤ) → IsEnclosure m (known_bound m v One s) (known_bound m v Two s) s
    → gap ≡ known_bound m v Two s -ℤ known_bound m v One s → of_z w64 gap ≡ 0 → known_bound m v One s ≡ known_bound m v Two s
gap_closed m game s v gap both is none = closed (known_bound m v One s) (known_bound m v Two s) both is where
  closed : (low high : ℤ) → IsEnclosure m low high s → gap ≡ high -ℤ low → low ≡ high
  closed low high both is =
      let a = game.low_least in let b = game.high_most in
      let c = both.lower_low in let d = both.lower_high in let e = both.upper_low in let f = both.upper_high in
      let fits : SFits w64 gap = rw is (omega (arith, ints)) in
      let zero : gap ≡ pos 0 = sym (to_z-of_z w64 gap fits) ∙ ap (to_z w64) none in
      omega (arith, ints)

-- bounds that meet are within each target
pub within_met : (low high target : ℤ) → low ≡ high → pos 0 ≤ℤ target → high ≤ℤ (low +ℤ target)
within_met low high target met some = omega (arith, ints)

-- a gap read as at most none
pub gap_within : {S G N : Type 0} (m : GameModel S) (game : IsGame m) (s : S) (v : BoardView G N) (gap goal : ℤ) → IsEnclosure m (known_bound m v One s) (known_bound m v Two s) s
    → gap ≡ known_bound m v Two s -ℤ known_bound m v One s → SFits w64 goal → IsTrue (le_z (to_z w64 (of_z w64 gap)) (to_z w64 (of_z w64 goal))) → IsWithin m v s goal
gap_within m game s v gap goal both is small enough = within (known_bound m v One s) (known_bound m v Two s) both is where
  within : (low high : ℤ) → IsEnclosure m low high s → gap ≡ high -ℤ low → high ≤ℤ (low +ℤ goal)
  within low high both is =
      let a = game.low_least in let b = game.high_most in
      let c = both.lower_low in let d = both.lower_high in let e = both.upper_low in let f = both.upper_high in
      let fits : SFits w64 gap = rw is (omega (arith, ints)) in
      let test : le_z gap goal ≡ true = sym (ap (λ (x : ℤ). le_z x goal) (to_z-of_z w64 gap fits)) ∙ sym (ap (le_z (to_z w64 (of_z w64 gap))) (to_z-of_z w64 goal small)) ∙ enough in
      let low : gap ≤ℤ goal = le_z_yes {a = gap} {b = goal} (rw test tt) in
      omega (arith, ints)

pub serial_closed : {S G N : Type 0} (m : GameModel S) (game : IsGame m) (s : S) (v : BoardView G N) (gap : ℤ) → Reachable m s → IsEnclosure m (known_bound m v One s) (known_bound m v Two s) s
    → gap ≡ known_bound m v Two s -ℤ known_bound m v One s → of_z w64 gap ≡ 0 → IsPureTight m s v
serial_closed m game s v gap r both is none = serial_met m game s v r both (gap_closed m game s v gap both is none)

-- ---- the numbers that serial searches found
pub found_below : (o : Option ℤ) (bound x : ℤ) → IfSome o (λ n. n ≡ x) → IsFoundBelow o bound → x <ℤ bound
found_below None bound x is below = absurd below
found_below (Some n) bound x is below = subst (λ (k : ℤ). k <ℤ bound) is below

pub found_above : (o : Option ℤ) (bound x : ℤ) → IfSome o (λ n. n ≡ x) → IsFoundAbove o bound → bound <ℤ x
found_above None bound x is above = absurd above
found_above (Some n) bound x is above = subst (λ (k : ℤ). bound <ℤ k) is above

-- bounds that are tighter than a number found are tighter than pure plans make them
pub ahead_known : {S G N : Type 0} (m : GameModel S) (s : S) (v : BoardView G N) (e : Enclosure) (one two : Option ℤ) → ((side : Side) → bound_in side e ≡ known_bound m v side s)
    → IfSome one (λ n. n ≡ serial_bound m One s) → IfSome two (λ n. n ≡ serial_bound m Two s) → IsFoundBelow one e.lower ⊎ IsFoundAbove two e.upper → IsAhead m s v
ahead_known m s v e one two known is_one is_two found = ⊎_elim
    (λ (a : IsFoundBelow one e.lower). inl (subst (λ (x : ℤ). serial_bound m One s <ℤ x) (known One) (found_below one e.lower (serial_bound m One s) is_one a)))
    (λ (b : IsFoundAbove two e.upper). inr (subst (λ (x : ℤ). x <ℤ serial_bound m Two s) (known Two) (found_above two e.upper (serial_bound m Two s) is_two b)))
    found

-- over the whole range of payoffs each number is the serial bound
serial_range : {S : Type 0} (m : GameModel S) (game : IsGame m) (side : Side) (s : S) → Reachable m s → (opening_bound m One ≤ℤ serial_bound m side s) × (serial_bound m side s ≤ℤ opening_bound m Two)
serial_range m game One s r = (serial_from m game One s r, serial_to m game One s r)
serial_range m game Two s r = (serial_to m game Two s r, serial_from m game Two s r)

pub found_number : {S : Type 0} (m : GameModel S) (game : IsGame m) (side : Side) (s : S) → Reachable m s → (end : SerialEnd)
    → IsValue (opening_bound m One) (opening_bound m Two) (serial_bound m side s) end
    → IfSome (number_in end) (λ x. x ≡ serial_bound m side s)
found_number m game side s r (Exact x) is = is.0
found_number m game side s r (AtLeast x) is = let range = serial_range m game side s r in let high = range.1 in let from = is.0 in let to = is.1 in omega (arith, ints)
found_number m game side s r (AtMost x) is = let range = serial_range m game side s r in let low = range.0 in let from = is.0 in let to = is.1 in omega (arith, ints)
found_number m game side s r Cut is = tt
