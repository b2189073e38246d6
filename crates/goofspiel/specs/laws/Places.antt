-- No two states of the games have one place.
use Rattle.std.proofs.Common.{◌≡◌, ℕ, zero, suc, ◌+◌, ◌-◌, ◌*◌, ◌<◌, ◌≤◌, ◌^◌, max, pos, ◌-ℤ◌, Bool, true, false, cond, eqb, List, [], ◌∷◌, length, take, sum, refl, sym, ap, subst, ◌∙◌, arith}
use Rattle.std.proofs.lemmas.Bool.{eqb-true, eq-eqb}
use Rattle.std.proofs.lemmas.Int.{ints}
use Rattle.std.proofs.lemmas.List.FromFn.{length-range_with_len}
use Rattle.std.proofs.lemmas.Nat.{mul-add-lt}
use Rattle.std.specs.Int.RustNames.{unsigned_abs}
use Rattle.std.specs.List.{remove}
use Rattle.sim_game.specs.Model.{Reachable, after_turn}
use Rattle.sim_game.proofs.ReachLemmas.{reachable_induction}
use Rattle.sim_game.specs.Numbers.{IsNumbering, digits_apart, numbered_by_classes}
use Rattle.goofspiel.specs.declared.drawn.DrawnState.{DrawnState}
use Rattle.goofspiel.specs.declared.Setting.{Setting}
use Rattle.goofspiel.specs.declared.State.{State}
use Rattle.goofspiel.specs.Cards.{cards, packed, packed_from, places}
use Rattle.goofspiel.specs.laws.Cards.{cards_packed, set_packed, card_bid}
use Rattle.goofspiel.specs.Counts.{choose}
use Rattle.goofspiel.specs.Deals.{gone, spread, IsDealt}
use Rattle.goofspiel.specs.laws.Deals.{spread_more, same_goofspiel_state}
use Rattle.goofspiel.specs.laws.Drawn.{IsDrawnSound, root_undrawn, drawn_sound, drawn_out, same_drawn_state}
use Rattle.goofspiel.specs.DrawnRules.{drawn_game}
use Rattle.goofspiel.specs.laws.Game.{goofspiel_sound}
use Rattle.goofspiel.specs.Places.{is_part, HasParts, IsPartOf, part_number, deals, hands, deal_number, deals_with, goofspiel_numbering, drawn_far, later, sets, drawn_deals_with, drawn_number, drawn_numbering}
use Rattle.goofspiel.specs.Position.{prizes_of, IsPosition}
use Rattle.goofspiel.specs.Rules.{goofspiel_game}

-- ---- parts of a list, numbered
number_below : (all xs : List ℕ) → IsPartOf all xs → part_number all xs < choose (length all) (length xs)
number_below [] [] part = omega arith
number_below [] (x ∷ xs) part = absurd (cc)
number_below (y ∷ all) [] part = omega arith
number_below (y ∷ all) (x ∷ xs) part = step (eqb x y) (number_below all xs) (number_below all (x ∷ xs)) part where
  step : (b : Bool) → (IsPartOf all xs → part_number all xs < choose (length all) (length xs)) → (IsPartOf all (x ∷ xs) → part_number all (x ∷ xs) < choose (length all) (suc (length xs)))
      → cond b (is_part all xs) (is_part all (x ∷ xs)) ≡ true
      → cond b (choose (length all) (suc (length xs)) + part_number all xs) (part_number all (x ∷ xs)) < choose (length all) (length xs) + choose (length all) (suc (length xs))
  step true taken left part = let low = taken part in omega (arith, low)
  step false taken left part = let low = left part in omega (arith, low)

same_part : (all xs ys : List ℕ) → IsPartOf all xs → IsPartOf all ys → length xs ≡ length ys → part_number all xs ≡ part_number all ys → xs ≡ ys
same_part [] [] [] p q long e = refl
same_part [] [] (y ∷ ys) p q long e = absurd (cc)
same_part [] (x ∷ xs) ys p q long e = absurd (cc)
same_part (z ∷ all) [] [] p q long e = refl
same_part (z ∷ all) [] (y ∷ ys) p q long e = absurd (omega (arith, long))
same_part (z ∷ all) (x ∷ xs) [] p q long e = absurd (omega (arith, long))
same_part (z ∷ all) (x ∷ xs) (y ∷ ys) p q long e = step (eqb x z) (eqb y z) refl refl (same_part all xs ys) (same_part all (x ∷ xs) (y ∷ ys)) p q e where
  same_choice : choose (length all) (suc (length xs)) ≡ choose (length all) (suc (length ys))
  same_choice = ap (λ (k : ℕ). choose (length all) k) long

  step : (a b : Bool) → eqb x z ≡ a → eqb y z ≡ b
      → (IsPartOf all xs → IsPartOf all ys → length xs ≡ length ys → part_number all xs ≡ part_number all ys → xs ≡ ys)
      → (IsPartOf all (x ∷ xs) → IsPartOf all (y ∷ ys) → suc (length xs) ≡ suc (length ys) → part_number all (x ∷ xs) ≡ part_number all (y ∷ ys) → x ∷ xs ≡ y ∷ ys)
      → cond a (is_part all xs) (is_part all (x ∷ xs)) ≡ true → cond b (is_part all ys) (is_part all (y ∷ ys)) ≡ true
      → cond a (choose (length all) (suc (length xs)) + part_number all xs) (part_number all (x ∷ xs)) ≡ cond b (choose (length all) (suc (length ys)) + part_number all ys) (part_number all (y ∷ ys))
      → x ∷ xs ≡ y ∷ ys
  step true true at_x at_y taken left p q e =
      let tails = taken p q (omega (arith, long)) (omega (arith, long, e, same_choice)) in
      ap (λ (v : ℕ). v ∷ xs) (eqb-true x z at_x ∙ sym (eqb-true y z at_y)) ∙ ap (λ (vs : List ℕ). y ∷ vs) tails
  step true false at_x at_y taken left p q e = absurd (let low = number_below all (y ∷ ys) q in omega (arith, low, e, same_choice))
  step false true at_x at_y taken left p q e = absurd (let low = number_below all (x ∷ xs) p in omega (arith, low, e, same_choice))
  step false false at_x at_y taken left p q e = left p q long e

pub part_tail : (all : List ℕ) (x : ℕ) (xs : List ℕ) → IsPartOf all (x ∷ xs) → IsPartOf all xs
part_tail [] x xs part = absurd (cc)
part_tail (y ∷ all) x [] part = refl
part_tail (y ∷ all) x (z ∷ zs) part = more (eqb z y) (part_tail all z zs) (rest (eqb x y) (part_tail all x (z ∷ zs)) part) where
  rest : (b : Bool) → (IsPartOf all (x ∷ z ∷ zs) → IsPartOf all (z ∷ zs)) → cond b (is_part all (z ∷ zs)) (is_part all (x ∷ z ∷ zs)) ≡ true → IsPartOf all (z ∷ zs)
  rest true shorter part = part
  rest false shorter part = shorter part

  more : (b : Bool) → (IsPartOf all (z ∷ zs) → IsPartOf all zs) → IsPartOf all (z ∷ zs) → cond b (is_part all zs) (is_part all (z ∷ zs)) ≡ true
  more true shorter part = shorter part
  more false shorter part = part

part_remove : (all xs : List ℕ) (i : ℕ) → IsPartOf all xs → IsPartOf all (remove xs i)
part_remove [] [] zero part = refl
part_remove [] [] (suc i) part = refl
part_remove [] (x ∷ xs) i part = absurd (cc)
part_remove (y ∷ all) [] zero part = refl
part_remove (y ∷ all) [] (suc i) part = refl
part_remove (y ∷ all) (x ∷ xs) zero part = part_tail (y ∷ all) x xs part
part_remove (y ∷ all) (x ∷ xs) (suc i) part = step (eqb x y) (part_remove all xs i) (part_remove all (x ∷ xs) (suc i)) part where
  step : (b : Bool) → (IsPartOf all xs → IsPartOf all (remove xs i)) → (IsPartOf all (x ∷ xs) → IsPartOf all (x ∷ remove xs i))
      → cond b (is_part all xs) (is_part all (x ∷ xs)) ≡ true → cond b (is_part all (remove xs i)) (is_part all (x ∷ remove xs i)) ≡ true
  step true taken left part = taken part
  step false taken left part = left part

part_itself : (xs : List ℕ) → IsPartOf xs xs
part_itself [] = refl
part_itself (x ∷ xs) = rw (eq-eqb x x refl) (part_itself xs)

-- ---- hands and scores
module _ (g : Setting) (p : IsPosition g) where
  one_below : (s : State) → IsPartOf (cards g.one) (cards s.one) → part_number (cards g.one) (cards s.one) < hands g (length (cards s.one))
  one_below s part = subst (λ (n : ℕ). part_number (cards g.one) (cards s.one) < choose n (length (cards s.one))) p.one_count (number_below (cards g.one) (cards s.one) part)

  two_below : (s : State) → length (cards s.one) ≡ length (cards s.two) → IsPartOf (cards g.two) (cards s.two) → part_number (cards g.two) (cards s.two) < hands g (length (cards s.one))
  two_below s same part =
      subst (λ (n : ℕ). part_number (cards g.two) (cards s.two) < choose n (length (cards s.one))) p.two_count
      (subst (λ (k : ℕ). part_number (cards g.two) (cards s.two) < choose (length (cards g.two)) k) (sym same) (number_below (cards g.two) (cards s.two) part))

  score_below : (spent : ℕ) (s : State) → IsDealt g spent s → unsigned_abs (s.score -ℤ (g.score -ℤ pos (spread g.pay spent))) < 2 * spread g.pay spent + 1
  score_below spent s here = omega (arith, ints, here.near.low, here.near.high)

  pub deal_below : (spent : ℕ) (s : State) → IsDealt g spent s → HasParts g s → deal_number g (spread g.pay spent) s < deals (hands g (length (cards s.one))) (spread g.pay spent)
  deal_below spent s here parts =
      let w = hands g (length (cards s.one)) in
      mul-add-lt (part_number (cards g.one) (cards s.one) * w + part_number (cards g.two) (cards s.two)) (2 * spread g.pay spent + 1)
      (unsigned_abs (s.score -ℤ (g.score -ℤ pos (spread g.pay spent)))) (w * w)
      (mul-add-lt (part_number (cards g.one) (cards s.one)) w (part_number (cards g.two) (cards s.two)) w (one_below s parts.one) (two_below s here.same_count parts.two))
      (score_below spent s here)

  same_score : (spent : ℕ) (s t : State) → IsDealt g spent s → IsDealt g spent t
      → unsigned_abs (s.score -ℤ (g.score -ℤ pos (spread g.pay spent))) ≡ unsigned_abs (t.score -ℤ (g.score -ℤ pos (spread g.pay spent))) → s.score ≡ t.score
  same_score spent s t here there e = omega (arith, ints, here.near.low, there.near.low, e)

  same_hand : (all hand other : ℕ) → hand < 2 ^ 13 → other < 2 ^ 13 → IsPartOf (cards all) (cards hand) → IsPartOf (cards all) (cards other)
      → length (cards hand) ≡ length (cards other) → part_number (cards all) (cards hand) ≡ part_number (cards all) (cards other) → hand ≡ other
  same_hand all hand other h h' part part' long e =
      sym (cards_packed hand h) ∙ ap (packed) (same_part (cards all) (cards hand) (cards other) part part' long e) ∙ cards_packed other h'

  deals_apart : (spent : ℕ) (s t : State) → IsDealt g spent s → IsDealt g spent t → HasParts g s → HasParts g t → length (cards s.one) ≡ length (cards t.one)
      → deal_number g (spread g.pay spent) s ≡ deal_number g (spread g.pay spent) t → s ≡ t
  deals_apart spent s t here there parts parts' long e =
      let w = hands g (length (cards s.one)) in
      let width : w ≡ hands g (length (cards t.one)) = ap (hands g) long in
      let again : deal_number g (spread g.pay spent) t
      ≡ (part_number (cards g.one) (cards t.one) * w + part_number (cards g.two) (cards t.two)) * (2 * spread g.pay spent + 1)
      + unsigned_abs (t.score -ℤ (g.score -ℤ pos (spread g.pay spent))) = rw width refl in
      let outer = digits_apart (2 * spread g.pay spent + 1) _ _ _ _ (score_below spent s here) (score_below spent t there) (e ∙ again) in
      let inner = digits_apart w _ _ _ _ (two_below s here.same_count parts.two) (rw width (two_below t there.same_count parts'.two)) outer.0 in
      same_goofspiel_state s t (same_hand g.one s.one t.one here.one_small there.one_small parts.one parts'.one long inner.0)
      (same_hand g.two s.two t.two here.two_small there.two_small parts.two parts'.two (omega (arith, long, here.same_count, there.same_count)) inner.1)
      (same_score spent s t here there outer.1)

  parts_root : HasParts g (goofspiel_game g).root
  parts_root = record { one = part_itself (cards g.one); two = part_itself (cards g.two) }

  -- both cards are gone
  parts_bid : (spent one two : ℕ) (s t : State) → IsDealt g spent s → HasParts g s → cards t.one ≡ remove (cards s.one) one → cards t.two ≡ remove (cards s.two) two → HasParts g t
  parts_bid spent one two s t here parts first second = record {
    one = subst (IsPartOf (cards g.one)) (sym first) (part_remove (cards g.one) (cards s.one) one parts.one);
    two = subst (IsPartOf (cards g.two)) (sym second) (part_remove (cards g.two) (cards s.two) two parts.two);
  }

  pub parts : (s : State) → Reachable (goofspiel_game g) s → HasParts g s
  parts = reachable_induction (goofspiel_game g) (HasParts g) parts_root (λ s t r here turn.
      let dealt = goofspiel_sound g p s r in
      parts_bid (gone g s) t.one t.two s (after_turn (goofspiel_game g) s t) dealt here (card_bid s.one t.one dealt.one_small turn.one_below).again
      (card_bid s.two t.two dealt.two_small turn.two_below).again)

  -- ---- the game with known prizes
  pub goofspiel_numbered : IsNumbering (goofspiel_game g) (goofspiel_numbering g)
  goofspiel_numbered = numbered_by_classes (goofspiel_game g) (g.count + 1) (λ s. length (cards s.one)) (λ s. deal_number g (spread g.pay (gone g s)) s) (deals_with g)
      (λ s r. omega (arith, (goofspiel_sound g p s r).few))
      (λ s r. deal_below (gone g s) s (goofspiel_sound g p s r) (parts s r))
      (λ s t r r' long e.
      let same : gone g s ≡ gone g t = ap (λ (n : ℕ). sum (take (g.count - n) (prizes_of g))) long in
      deals_apart (gone g s) s t (goofspiel_sound g p s r) (subst (λ (n : ℕ). IsDealt g n t) (sym same) (goofspiel_sound g p t r')) (parts s r) (parts t r') long
      (e ∙ ap (λ (n : ℕ). deal_number g (spread g.pay n) t) (sym same)))

  -- ---- the game with drawn prizes
  pub record HasDrawnParts (s : DrawnState) : Type 0 where
    pub hands : HasParts g s.hands
    pub undrawn : IsPartOf (later g) (places s.undrawn)

  pub drawn_parts : (s : DrawnState) → Reachable (drawn_game g) s → HasDrawnParts s
  drawn_parts = reachable_induction (drawn_game g) HasDrawnParts
      (record { hands = parts_root; undrawn = subst (IsPartOf (later g)) (sym (root_undrawn g p)) (part_itself (later g)) })
      (λ s t r here turn.
      let sound = drawn_sound g p s r in
      record {
        hands = parts_bid sound.spent t.one t.two s.hands (after_turn (drawn_game g) s t).hands sound.hands here.hands
            (card_bid s.hands.one t.one sound.hands.one_small turn.one_below).again (card_bid s.hands.two t.two sound.hands.two_small turn.two_below).again;
        undrawn =
            subst (IsPartOf (later g)) (sym (drawn_out s.undrawn t.draw sound.undrawn_small turn.draw_below).again)
            (part_remove (later g) (places s.undrawn) t.draw here.undrawn);
      })

  dealt_wider : (few many : ℕ) (s : State) → few ≤ many → IsDealt g few s → IsDealt g many s
  dealt_wider few many s more here = record {
    one_small = here.one_small;
    two_small = here.two_small;
    same_count = here.same_count;
    few = here.few;
    near = let wider = spread_more g.pay few many more in record { low = omega (arith, ints, wider, here.near.low); high = omega (arith, ints, wider, here.near.high) };
  }

  pub dealt : (s : DrawnState) → IsDrawnSound g s → IsDealt g (sum (prizes_of g)) s.hands
  dealt s here = dealt_wider here.spent (sum (prizes_of g)) s.hands here.spent_high here.hands

  pub set_below : (s : DrawnState) → IsDrawnSound g s → IsPartOf (later g) (places s.undrawn) → part_number (later g) (places s.undrawn) < sets g (length (cards s.hands.one))
  set_below s here part =
      subst (λ (n : ℕ). part_number (later g) (places s.undrawn) < choose n (length (cards s.hands.one) - 1)) (length-range_with_len 1 (g.count - 1))
      (subst (λ (k : ℕ). part_number (later g) (places s.undrawn) < choose (length (later g)) k) here.left (number_below (later g) (places s.undrawn) part))

  pub drawn_below : (s : DrawnState) → Reachable (drawn_game g) s → drawn_number g s < drawn_deals_with g (length (cards s.hands.one))
  drawn_below s r =
      let here = drawn_sound g p s r in
      let parts = drawn_parts s r in
      let left = length (cards s.hands.one) in
      mul-add-lt (deal_number g (drawn_far g) s.hands * sets g left + part_number (later g) (places s.undrawn)) (max 1 g.count) s.place (sets g left * deals (hands g left) (drawn_far g))
      (mul-add-lt (deal_number g (drawn_far g) s.hands) (sets g left) (part_number (later g) (places s.undrawn)) (deals (hands g left) (drawn_far g))
      (deal_below (sum (prizes_of g)) s.hands (dealt s here) parts.hands) (set_below s here parts.undrawn))
      here.place_below

  drawn_apart : (s t : DrawnState) → Reachable (drawn_game g) s → Reachable (drawn_game g) t → length (cards s.hands.one) ≡ length (cards t.hands.one)
      → drawn_number g s ≡ drawn_number g t → s ≡ t
  drawn_apart s t r r' long e =
      let here = drawn_sound g p s r in
      let there = drawn_sound g p t r' in
      let parts = drawn_parts s r in
      let parts' = drawn_parts t r' in
      let w = sets g (length (cards s.hands.one)) in
      let width : w ≡ sets g (length (cards t.hands.one)) = ap (sets g) long in
      let again : drawn_number g t ≡ (deal_number g (drawn_far g) t.hands * w + part_number (later g) (places t.undrawn)) * max 1 g.count + t.place = rw width refl in
      let outer = digits_apart (max 1 g.count) _ _ _ _ here.place_below there.place_below (e ∙ again) in
      let inner = digits_apart w _ _ _ _ (set_below s here parts.undrawn) (rw width (set_below t there parts'.undrawn)) outer.0 in
      let same : places s.undrawn ≡ places t.undrawn =
      same_part (later g) (places s.undrawn) (places t.undrawn) parts.undrawn parts'.undrawn (omega (arith, here.left, there.left, long)) inner.1 in
      same_drawn_state s t (deals_apart (sum (prizes_of g)) s.hands t.hands (dealt s here) (dealt t there) parts.hands parts'.hands long inner.0)
      (sym (set_packed 0 s.undrawn here.undrawn_small) ∙ ap (packed_from 0) same ∙ set_packed 0 t.undrawn there.undrawn_small) outer.1

  pub drawn_numbered : IsNumbering (drawn_game g) (drawn_numbering g)
  drawn_numbered = numbered_by_classes (drawn_game g) (g.count + 1) (λ s. length (cards s.hands.one)) (drawn_number g) (drawn_deals_with g)
      (λ s r. omega (arith, (drawn_sound g p s r).hands.few)) drawn_below drawn_apart
