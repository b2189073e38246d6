-- Places of keys: each is free, was there before, or has what was put.
use Rattle.std.proofs.Common.{◌≡◌, ℕ, ◌<◌, List, [], ◌∷◌, inl, inr, ⊎_elim, sym, ap, ◌∙◌, subst, refl, arith, length, get_or, All, Contains, slice_set, length-set}
use Rattle.std.proofs.lemmas.List.Elements.{All-set, All-weaker, Contains-append_right, Contains-get_or}
use Rattle.shared_board.specs.Known.{IsFreeOrIn}
use Rattle.shared_board.specs.declared.known.Place.{Place}

-- one of the old is put again
pub places_again : (old mid new : List Place) (at : ℕ) (x : Place) → Contains old x → All (IsFreeOrIn old) mid → new ≡ slice_set mid at x → All (IsFreeOrIn old) new
places_again old mid new at x here among is = subst (All (IsFreeOrIn old)) (sym is) (All-set (IsFreeOrIn old) mid at x (inr here) among)

-- a table that takes in the old places, so far
abbrev pub AreWider : List Place → List Place → Type 0
AreWider old new = (0 < length new) × All (IsFreeOrIn old) new

pub wider_put : (old seen mid new : List Place) (i at : ℕ) (d : Place) → seen ≡ old → i < length seen → AreWider old mid → new ≡ slice_set mid at (get_or seen i d) → AreWider old new
wider_put old seen mid new i at d same inside wider is = let long = ap length is ∙ length-set mid at (get_or seen i d) in (
  omega (arith, wider.0),
  places_again old mid new at (get_or seen i d) (subst (λ (z : List Place). Contains z (get_or seen i d)) same (Contains-get_or seen i d inside)) wider.1 is,
)

-- what may be in them is more
pub places_more : (old new : List Place) (x : Place) → All (IsFreeOrIn old) new → All (IsFreeOrIn (x ∷ old)) new
places_more old new x = All-weaker (IsFreeOrIn old) (IsFreeOrIn (x ∷ old)) more new where
  more : (place : Place) → IsFreeOrIn old place → IsFreeOrIn (x ∷ old) place
  more place = ⊎_elim (λ free. inl free) (λ stood. inr (Contains-append_right (x ∷ []) old place stood))

-- another than the old is put
pub places_put : (old mid new : List Place) (at : ℕ) (x : Place) → All (IsFreeOrIn old) mid → new ≡ slice_set mid at x → All (IsFreeOrIn (x ∷ old)) new
places_put old mid new at x among is = places_again (x ∷ old) mid new at x (0, omega arith, refl) (places_more old mid x among) is
