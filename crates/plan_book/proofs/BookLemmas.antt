-- The best bounds of a list of entries.
use Rattle.std.proofs.Common.{◌≡◌, ◌≢◌, ⊎_elim, ℕ, ℤ, Bool, true, false, ◌&&◌, cond, eqb, Option, None, Some, List, [], ◌∷◌, ◌++◌, All, fold, length, ◌≤◌, refl, sym, ap, ◌∙◌, subst, arith}
use Rattle.std.proofs.lemmas.Int.{ints, clamps}
use Rattle.std.proofs.lemmas.Bool.{eqb-true}
use Rattle.std.proofs.lemmas.Bool.Decides.{nat_tests}
use Rattle.std.specs.List.{AllByRecursion}
use Rattle.std.proofs.lemmas.List.Elements.{All-head, All-tail, All-weaker}
use Rattle.sums.specs.declared.TheConstants.{MOST_MOVES}
use Rattle.sim_game.specs.declared.Side.{Side}
use Rattle.sim_game.specs.declared.Side.TheVariants.{One, Two}
use Rattle.sim_game.specs.Model.{GameModel, IsGame, Reachable}
use Rattle.sim_game.specs.Sides.{IsNoTighter, better, opening_bound, state_bound}
use Rattle.sim_game.proofs.SideLemmas.{looser_refl, looser_trans, looser_right, better_left, better_right, better_swap, better_cases, better_is, better_other, opening_range, opening_state}
use Rattle.plan_book.specs.declared.Entry.{Entry}
use Rattle.plan_book.specs.Backed.{IsBacked, by_range, by_step}
use Rattle.plan_book.specs.Entries.{IsEntry}
use Rattle.plan_book.specs.Books.{same_side, best_posted, is_tighter, beats, better_entry, best_entry}

-- ---- one more entry
cond_swap : (a b : Bool) (side : Side) (x y z : ℤ)
    → cond a (better side x (cond b (better side y z) z)) (cond b (better side y z) z) ≡ cond b (better side y (cond a (better side x z) z)) (cond a (better side x z) z)
cond_swap true true side x y z = better_swap side x y z
cond_swap true false side x y z = refl
cond_swap false true side x y z = refl
cond_swap false false side x y z = refl

pub best_push : {S : Type 0} (m : GameModel S) (es : List Entry) (e : Entry) (side : Side) (key : ℕ)
    → best_posted m (es ++ e ∷ []) side key ≡ cond (same_side e.side side && eqb e.key key) (better side e.bound (best_posted m es side key)) (best_posted m es side key)
best_push m [] e side key = refl
best_push m (f ∷ es) e side key =
    ap (λ (z : ℤ). cond (same_side f.side side && eqb f.key key) (better side f.bound z) z) (best_push m es e side key)
    ∙ cond_swap (same_side f.side side && eqb f.key key) (same_side e.side side && eqb e.key key) side f.bound e.bound (best_posted m es side key)

cond_better : (b : Bool) (side : Side) (x z : ℤ) → IsNoTighter side z (cond b (better side x z) z)
cond_better true side x z = better_right side x z
cond_better false side x z = looser_refl side z

pub best_grows : {S : Type 0} (m : GameModel S) (es : List Entry) (e : Entry) (side : Side) (key : ℕ) → IsNoTighter side (best_posted m es side key) (best_posted m (es ++ e ∷ []) side key)
best_grows m es e side key = looser_right side _ _ _ (sym (best_push m es e side key)) (cond_better (same_side e.side side && eqb e.key key) side e.bound (best_posted m es side key))

pub same_side_self : (side : Side) → same_side side side ≡ true
same_side_self One = refl
same_side_self Two = refl

pub eqb_self : (k : ℕ) → eqb k k ≡ true
eqb_self k = grind (arith, nat_tests)

both_true : (a b : Bool) → a ≡ true → b ≡ true → (a && b) ≡ true
both_true a b p q = rw (p, q) refl

-- what was posted last
pub best_last : {S : Type 0} (m : GameModel S) (es : List Entry) (e : Entry) → IsNoTighter e.side e.bound (best_posted m (es ++ e ∷ []) e.side e.key)
best_last m es e =
    looser_right e.side _ _ _
    (sym (best_push m es e e.side e.key
    ∙ ap (λ (b : Bool). cond b (better e.side e.bound (best_posted m es e.side e.key)) (best_posted m es e.side e.key)) (both_true _ _ (same_side_self e.side) (eqb_self e.key))))
    (better_left e.side e.bound (best_posted m es e.side e.key))

pub best_opening : {S : Type 0} (m : GameModel S) (es : List Entry) (side : Side) (key : ℕ) → IsNoTighter side (opening_bound m side) (best_posted m es side key)
best_opening m [] side key = looser_refl side (opening_bound m side)
best_opening m (e ∷ es) side key = looser_trans side _ _ _ (best_opening m es side key) (cond_better (same_side e.side side && eqb e.key key) side e.bound (best_posted m es side key))

pub same_side_true : (a b : Side) → same_side a b ≡ true → a ≡ b
same_side_true One One e = refl
same_side_true One Two e = cc
same_side_true Two One e = cc
same_side_true Two Two e = refl

pub and_left : (a b : Bool) → (a && b) ≡ true → a ≡ true
and_left true b e = refl
and_left false b e = e

pub and_right : (a b : Bool) → (a && b) ≡ true → b ≡ true
and_right true b e = e
and_right false b e = cc

cond_best : (b : Bool) (side : Side) (x z : ℤ) (P : ℤ → Type 0) → (b ≡ true → P x) → P z → P (cond b (better side x z) z)
cond_best true side x z P p q = ⊎_elim (λ (e : better side x z ≡ x). subst P (sym e) (p refl)) (λ (e : better side x z ≡ z). subst P (sym e) q) (better_cases side x z)
cond_best false side x z P p q = q

-- what the opening bound and each entry's bound have
pub best_has : {S : Type 0} (m : GameModel S) (es : List Entry) (side : Side) (key : ℕ) (P : ℤ → Type 0) → P (opening_bound m side)
    → All (λ e. e.side ≡ side → e.key ≡ key → P e.bound) es → P (best_posted m es side key)
best_has m [] side key P start each = start
best_has m (e ∷ es) side key P start each =
    cond_best (same_side e.side side && eqb e.key key) side e.bound (best_posted m es side key) P
    (λ h. All-head (λ x. x.side ≡ side → x.key ≡ key → P x.bound) e es each (same_side_true e.side side (and_left _ _ h)) (eqb-true e.key key (and_right (same_side e.side side) _ h)))
    (best_has m es side key P start (All-tail (λ x. x.side ≡ side → x.key ≡ key → P x.bound) e es each))

-- a bound of a lawful entry is backed
pub entry_backed : {S : Type 0} (m : GameModel S) (total : ℕ) (Known : Side → S → ℤ → Type 0) (e : Entry) (s : S) → IsGame m
    → IsEntry m total Known e → Reachable m s → e.key ≡ m.key s → IsBacked m e.side s e.bound
entry_backed m total Known e s game lawful r k =
    let same : lawful.state ≡ s = game.same_key lawful.state s lawful.reachable r (lawful.is_key ∙ k) in
    subst (λ (z : _). IsBacked m e.side z e.bound) same (by_step lawful.state e.bound total e.weights lawful.numbers lawful.step lawful.backed)

pub best_backed : {S : Type 0} (m : GameModel S) (total : ℕ) (Known : Side → S → ℤ → Type 0) (es : List Entry) (side : Side) (s : S) → IsGame m → Reachable m s → All (IsEntry m total Known) es
    → IsBacked m side s (best_posted m es side (m.key s))
best_backed m total Known es side s game r each =
    best_has m es side (m.key s) (IsBacked m side s) (by_range s (opening_bound m side) (opening_state m side s game r))
    (All-weaker (IsEntry m total Known) (λ e. e.side ≡ side → e.key ≡ m.key s → IsBacked m side s e.bound)
    (λ e lawful a k. subst (λ (z : Side). IsBacked m z s e.bound) a (entry_backed m total Known e s game lawful r k)) es each)

-- the bound of an entry lies in the range of its state, and so in that of payoffs
pub entry_in_state : {S : Type 0} (m : GameModel S) (total : ℕ) (Known : Side → S → ℤ → Type 0) (of : Side) (e : Entry) (entry : IsEntry m total Known e)
    → IsNoTighter of (state_bound m of entry.state) e.bound
entry_in_state m total Known One e entry = entry.low
entry_in_state m total Known Two e entry = entry.high

pub entry_range : {S : Type 0} (m : GameModel S) → IsGame m → (total : ℕ) (Known : Side → S → ℤ → Type 0) (of : Side) (e : Entry)
    → IsEntry m total Known e → IsNoTighter of (opening_bound m of) e.bound
entry_range m game total Known of e entry = looser_trans of _ _ _ (opening_state m of entry.state game entry.reachable) (entry_in_state m total Known of e entry)

pub best_range : {S : Type 0} (m : GameModel S) (total : ℕ) (Known : Side → S → ℤ → Type 0) (es : List Entry) (side of : Side) (key : ℕ) → IsGame m → All (IsEntry m total Known) es
    → IsNoTighter of (opening_bound m of) (best_posted m es side key)
best_range m total Known es side of key game each =
    best_has m es side key (λ x. IsNoTighter of (opening_bound m of) x) (opening_in of side)
    (All-weaker (IsEntry m total Known) (λ e. e.side ≡ side → e.key ≡ key → IsNoTighter of (opening_bound m of) e.bound) (λ e lawful a k. entry_in of e lawful) es each) where
      opening_in : (of side : Side) → IsNoTighter of (opening_bound m of) (opening_bound m side)
      opening_in One One = looser_refl One (opening_bound m One)
      opening_in One Two = opening_range m One game
      opening_in Two One = opening_range m Two game
      opening_in Two Two = looser_refl Two (opening_bound m Two)

      entry_in : (of : Side) (e : Entry) → IsEntry m total Known e → IsNoTighter of (opening_bound m of) e.bound
      entry_in of e lawful = entry_range m game total Known of e lawful

-- an entry has no more weights than a side may have moves
pub few_weights : {S : Type 0} (m : GameModel S) → IsGame m → (total : ℕ) (Known : Side → S → ℤ → Type 0) (e : Entry) → IsEntry m total Known e → length e.weights ≤ MOST_MOVES
few_weights m game total Known e entry = omega (arith, entry.step.one_each, game.moves_high e.side entry.state entry.reachable, game.width_high)

pub eqb_other : (k l : ℕ) → k ≢ l → eqb k l ≡ false
eqb_other k l n = grind (arith, nat_tests)

-- a test with a second part that is known
pub cond_and : {A : Type 0} (a b : Bool) (x y : A) → b ≡ true → cond (a && b) x y ≡ cond a x y
cond_and true b x y e = rw e refl
cond_and false b x y e = refl

pub cond_and_false : {A : Type 0} (a b : Bool) (x y : A) → b ≡ false → cond (a && b) x y ≡ y
cond_and_false true b x y e = rw e refl
cond_and_false false b x y e = refl

-- ---- the best entry has the best bound
-- a kept entry as a bound
abbrev pub bound_kept : {S : Type 0} → GameModel S → Side → Option Entry → ℤ
bound_kept m side None = opening_bound m side
bound_kept m side (Some e) = e.bound

tighter_bound : (side : Side) (x y : ℤ) → cond (is_tighter side x y) x y ≡ better side x y
tighter_bound One x y = refl
tighter_bound Two x y = grind (arith, ints, clamps)

bound_after : {S : Type 0} (m : GameModel S) (side : Side) (here : Bool) (e : Entry) (kept : Option Entry) → (here ≡ true → IsNoTighter side (opening_bound m side) e.bound)
    → bound_kept m side (cond (here && beats side e kept) (Some e) kept) ≡ cond here (better side e.bound (bound_kept m side kept)) (bound_kept m side kept)
bound_after m side false e kept low = refl
bound_after m side true e None low = sym (better_is side e.bound (opening_bound m side) (low refl))
bound_after m side true e (Some f) low = pushed (is_tighter side e.bound f.bound) ∙ tighter_bound side e.bound f.bound
  where
    pushed : (b : Bool) → bound_kept m side (cond b (Some e) (Some f)) ≡ cond b e.bound f.bound
    pushed true = refl
    pushed false = refl

and_assoc : (a b c : Bool) → (a && (b && c)) ≡ ((a && b) && c)
and_assoc true b c = refl
and_assoc false b c = refl

better_regroup : (side : Side) (x y z : ℤ) → better side (better side x y) z ≡ better side y (better side x z)
better_regroup One x y z = omega (arith, ints, clamps)
better_regroup Two x y z = omega (arith, ints, clamps)

step_kept : (side : Side) (here : Bool) (x y z : ℤ) → better side (cond here (better side x y) y) z ≡ better side y (cond here (better side x z) z)
step_kept side true x y z = better_regroup side x y z
step_kept side false x y z = refl

-- the bounds that entries of the side have
abbrev pub IsRanged : {S : Type 0} → GameModel S → Side → Entry → Type 0
IsRanged m side e = e.side ≡ side → IsNoTighter side (opening_bound m side) e.bound

module _ {S : Type 0} (m : GameModel S) (side : Side) (key : ℕ) where
  kept_more : (kept : Option Entry) (e : Entry) → IsRanged m side e
      → bound_kept m side (better_entry side key kept e) ≡ cond (same_side e.side side && eqb e.key key) (better side e.bound (bound_kept m side kept)) (bound_kept m side kept)
  kept_more kept e low =
      ap (λ (b : Bool). bound_kept m side (cond b (Some e) kept)) (and_assoc (same_side e.side side) (eqb e.key key) (beats side e kept))
      ∙ bound_after m side (same_side e.side side && eqb e.key key) e kept (λ h. low (same_side_true e.side side (and_left _ _ h)))

  kept_fold : (es : List Entry) (kept : Option Entry) → IsNoTighter side (opening_bound m side) (bound_kept m side kept) → AllByRecursion (IsRanged m side) es
      → bound_kept m side (fold (better_entry side key) kept es) ≡ better side (bound_kept m side kept) (best_posted m es side key)
  kept_fold [] kept low all = sym (better_is side (bound_kept m side kept) (opening_bound m side) low)
  kept_fold (e ∷ es) kept low all =
      let more = kept_more kept e all.0 in
      let low' : IsNoTighter side (opening_bound m side) (bound_kept m side (better_entry side key kept e)) =
      looser_right side _ _ _ (sym more) (looser_trans side _ _ _ low (cond_better (same_side e.side side && eqb e.key key) side e.bound (bound_kept m side kept))) in
      kept_fold es (better_entry side key kept e) low' all.1
      ∙ ap (λ (x : ℤ). better side x (best_posted m es side key)) more
      ∙ step_kept side (same_side e.side side && eqb e.key key) e.bound (bound_kept m side kept) (best_posted m es side key)

  -- the best entry has the best bound
  pub best_kept : (es : List Entry) → AllByRecursion (IsRanged m side) es → bound_kept m side (best_entry side es key) ≡ best_posted m es side key
  best_kept es all =
      kept_fold es None (looser_refl side (opening_bound m side)) all
      ∙ better_other side (opening_bound m side) (best_posted m es side key) (best_opening m es side key)
