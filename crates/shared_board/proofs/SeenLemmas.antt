-- What a view has seen at a key.
use Rattle.std.proofs.Common.{◌≡◌, inl, inr, ⊎_elim, ℕ, ℤ, Bool, true, false, cond, eqb, None, Some, List, [], ◌∷◌, All, refl, sym, ap, ◌∙◌, subst, arith}
use Rattle.std.proofs.lemmas.Int.{ints}
use Rattle.std.proofs.lemmas.Bool.{eqb-true}
use Rattle.std.proofs.lemmas.List.Elements.{All-weaker}
use Rattle.sim_game.specs.declared.Side.{Side}
use Rattle.sim_game.specs.declared.Side.TheVariants.{One, Two}
use Rattle.sim_game.specs.Model.{GameModel}
use Rattle.sim_game.specs.Sides.{IsNoTighter, better, opening_bound, state_bound, end_bound}
use Rattle.sim_game.proofs.SideLemmas.{looser_refl, looser_trans, looser_both, better_left, better_right, better_least}
use Rattle.plan_book.specs.declared.Entry.{Entry}
use Rattle.plan_book.specs.Entries.{IsEntry}
use Rattle.plan_book.proofs.BookLemmas.{eqb_self}
use Rattle.bounds_board.proofs.PlainLemmas.{entry_weaker}
use Rattle.shared_board.specs.Words.{IsLooser, as_bound}
use Rattle.shared_board.specs.Rule.{Has, seen_at}
use Rattle.shared_board.specs.Plays.{IsApart}
use Rattle.shared_board.specs.Passes.{known_key, seen_in, seen_by, known_by, IsKnown}
use Rattle.shared_board.specs.declared.view.View.{View}

pub looser_bound : (side : Side) (a b : ℕ) → IsLooser side a b → IsNoTighter side (as_bound a) (as_bound b)
looser_bound One a b h = omega (arith, ints)
looser_bound Two a b h = omega (arith, ints)

-- ---- the key of a row
pub key_of_has : (ks : List (ℕ × ℕ)) (row key : ℕ) → ((l : ℕ) → Has (row, l) ks → l ≡ key) → Has (row, key) ks → known_key ks row ≡ Some key
key_of_has [] row key one h = absurd h
key_of_has (p ∷ ps) row key one h = elim (eqb p.0 row) as (λ b. eqb p.0 row ≡ b → cond b (Some p.1) (known_key ps row) ≡ Some key) [
  | true ↦ λ e. ap Some (one p.1 (inl (λ c. (sym (eqb-true p.0 row e) c, p.1))))
  | false ↦ λ e. key_of_has ps row key (λ l t. one l (inr t)) (⊎_elim
      (λ (here : (row, key) ≡ p). let same : eqb p.0 row ≡ true = ap (λ (q : ℕ × ℕ). eqb q.0 row) (sym here) ∙ eqb_self row in let no : false ≡ true = sym e ∙ same in cc)
      (λ (there : Has (row, key) ps). there) h)
] refl

pub has_key_of : (ks : List (ℕ × ℕ)) (row key : ℕ) → known_key ks row ≡ Some key → Has (row, key) ks
has_key_of [] row key e = cc
has_key_of (p ∷ ps) row key e = elim (eqb p.0 row) as (λ b. eqb p.0 row ≡ b → cond b (Some p.1) (known_key ps row) ≡ Some key → Has (row, key) (p ∷ ps)) [
  | true ↦ λ t e. let same : p.1 ≡ key = cc in inl (λ c. (sym (eqb-true p.0 row t) c, sym same c))
  | false ↦ λ _ e. inr (has_key_of ps row key e)
] refl e

pub key_of_none : (ks : List (ℕ × ℕ)) (row : ℕ) → ((key : ℕ) → Has (row, key) ks → ⊥) → known_key ks row ≡ None
key_of_none ks row none = elim (known_key ks row) as (λ o. known_key ks row ≡ o → o ≡ None) [ None ↦ λ _. refl | Some key ↦ λ e. absurd (none key (has_key_of ks row key e)) ] refl

-- ---- the bounds at a key
pub cond_better : (b : Bool) (side : Side) (x z : ℤ) → IsNoTighter side z (cond b (better side x z) z)
cond_better true side x z = better_right side x z
cond_better false side x z = looser_refl side z

pub cond_first : (b : Bool) (side : Side) (x z : ℤ) → b ≡ true → IsNoTighter side x (cond b (better side x z) z)
cond_first true side x z e = better_left side x z
cond_first false side x z e = cc

cond_least : (b : Bool) (side : Side) (x z most : ℤ) → (b ≡ true → IsNoTighter side x most) → IsNoTighter side z most → IsNoTighter side (cond b (better side x z) z) most
cond_least true side x z most p q = better_least side x z most (p refl) q
cond_least false side x z most p q = q

-- the better of two, after the first became no looser
pub better_more : (side : Side) (x y z : ℤ) → IsNoTighter side x y → IsNoTighter side (better side x z) (better side y z)
better_more side x y z h = better_least side x z _ (looser_trans side x y _ h (better_left side y z)) (better_right side y z)

pub known_then : (b : Bool) (side : Side) (x e y z : ℤ) → IsNoTighter side y z → IsNoTighter side x (cond b e y) → IsNoTighter side x (cond b e z)
known_then true side x e y z l h = h
known_then false side x e y z l h = looser_trans side x y z h l

module _ {S G : Type 0} (m : GameModel S) where
  pub seen_opening : (side : Side) (v : View G) (ks : List (ℕ × ℕ)) (key : ℕ) → IsNoTighter side (opening_bound m side) (seen_in m side v ks key)
  seen_opening side v [] key = looser_refl side (opening_bound m side)
  seen_opening side v (p ∷ ps) key =
      looser_trans side (opening_bound m side) (seen_in m side v ps key) (seen_in m side v (p ∷ ps) key) (seen_opening side v ps key)
      (cond_better (eqb p.1 key) side (as_bound (seen_at m side v p.0)) (seen_in m side v ps key))

  pub seen_has : (side : Side) (v : View G) (ks : List (ℕ × ℕ)) (i key : ℕ) → Has (i, key) ks → IsNoTighter side (as_bound (seen_at m side v i)) (seen_in m side v ks key)
  seen_has side v [] i key h = absurd h
  seen_has side v (p ∷ ps) i key h = ⊎_elim
      (λ (here : (i, key) ≡ p). subst (λ (q : ℕ × ℕ). IsNoTighter side (as_bound (seen_at m side v i)) (seen_in m side v (q ∷ ps) key)) here
      (cond_first (eqb key key) side (as_bound (seen_at m side v i)) (seen_in m side v ps key) (eqb_self key)))
      (λ (there : Has (i, key) ps). looser_trans side (as_bound (seen_at m side v i)) (seen_in m side v ps key) (seen_in m side v (p ∷ ps) key) (seen_has side v ps i key there)
      (cond_better (eqb p.1 key) side (as_bound (seen_at m side v p.0)) (seen_in m side v ps key))) h

  pub seen_most : (side : Side) (v : View G) (ks : List (ℕ × ℕ)) (key : ℕ) (most : ℤ) → IsNoTighter side (opening_bound m side) most
      → ((i : ℕ) → Has (i, key) ks → IsNoTighter side (as_bound (seen_at m side v i)) most) → IsNoTighter side (seen_in m side v ks key) most
  seen_most side v [] key most start each = start
  seen_most side v (p ∷ ps) key most start each = cond_least (eqb p.1 key) side (as_bound (seen_at m side v p.0)) (seen_in m side v ps key) most
      (λ e. each p.0 (inl (λ c. (p.0, sym (eqb-true p.1 key e) c)))) (seen_most side v ps key most start (λ i h. each i (inr h)))

  -- a view that knows and has seen as much
  pub seen_grows : (v w : View G) (side : Side) (key : ℕ) → ((p : ℕ × ℕ) → Has p v.keys → Has p w.keys) → ((i : ℕ) → IsLooser side (seen_at m side v i) (seen_at m side w i))
      → IsNoTighter side (seen_by m v side key) (seen_by m w side key)
  seen_grows v w side key keys sees = seen_most side v v.keys key (seen_by m w side key) (seen_opening side w w.keys key)
      (λ i h. looser_trans side (as_bound (seen_at m side v i)) (as_bound (seen_at m side w i)) (seen_by m w side key)
      (looser_bound side (seen_at m side v i) (seen_at m side w i) (sees i)) (seen_has side w w.keys i key (keys (i, key) h)))

  -- what was seen in the one row of a key
  pub seen_one : (v : View G) (side : Side) (i key : ℕ) → IsApart v.keys → Has (i, key) v.keys → IsNoTighter side (opening_bound m side) (as_bound (seen_at m side v i))
      → as_bound (seen_at m side v i) ≡ seen_by m v side key
  seen_one v side i key apart h low = looser_both side (as_bound (seen_at m side v i)) (seen_by m v side key) (seen_has side v v.keys i key h)
      (seen_most side v v.keys key (as_bound (seen_at m side v i)) low
      (λ j t. subst (λ (z : ℕ). IsNoTighter side (as_bound (seen_at m side v z)) (as_bound (seen_at m side v i))) (apart.one_row i j key h t)
      (looser_refl side (as_bound (seen_at m side v i)))))

  -- what is known at a state, after no less was seen
  pub known_grows : (v w : View G) (side : Side) (s : S) → IsNoTighter side (seen_by m v side (m.key s)) (seen_by m w side (m.key s))
      → IsNoTighter side (known_by m v side s) (known_by m w side s)
  known_grows v w side s more = better_more side _ _ (state_bound m side s) more

  pub lawful_grows : (v w : View G) (total : ℕ) (e : Entry) → ((p : ℕ × ℕ) → Has p v.keys → Has p w.keys)
      → ((side : Side) (i : ℕ) → IsLooser side (seen_at m side v i) (seen_at m side w i)) → IsEntry m total (IsKnown m v) e → IsEntry m total (IsKnown m w) e
  lawful_grows v w total e keys sees h = entry_weaker m total (IsKnown m v) (IsKnown m w) e
      (λ s x r k. known_then (eqb (m.rank s) 0) e.side x (end_bound m s) (known_by m v e.side s) (known_by m w e.side s)
      (known_grows v w e.side s (seen_grows v w e.side (m.key s) keys (sees e.side))) k) h

  pub each_grows : (v w : View G) (total : ℕ) (es : List Entry) → ((p : ℕ × ℕ) → Has p v.keys → Has p w.keys)
      → ((side : Side) (i : ℕ) → IsLooser side (seen_at m side v i) (seen_at m side w i)) → All (IsEntry m total (IsKnown m v)) es → All (IsEntry m total (IsKnown m w)) es
  each_grows v w total es keys sees all = All-weaker (IsEntry m total (IsKnown m v)) (IsEntry m total (IsKnown m w)) (λ e h. lawful_grows v w total e keys sees h) es all
