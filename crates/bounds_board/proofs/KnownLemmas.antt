-- What is known of a state.
use Rattle.std.proofs.Common.{◌≡◌, ⊎_elim, ℤ, sym, subst, ap, ◌∙◌}
use Rattle.sim_game.specs.declared.Side.{Side}
use Rattle.sim_game.specs.declared.Side.TheVariants.{One, Two}
use Rattle.sim_game.specs.Model.{GameModel, IsGame, Reachable}
use Rattle.sim_game.specs.Sides.{IsNoTighter, better, opening_bound, state_bound}
use Rattle.sim_game.proofs.SideLemmas.{looser_refl, looser_right, looser_trans, better_cases, better_least, better_left, better_right, opening_state, state_range}
use Rattle.plan_book.specs.Backed.{IsBacked, by_range}
use Rattle.bounds_board.specs.declared.bounds.Enclosure.{Enclosure}
use Rattle.bounds_board.specs.Views.{BoardView, IsLater, IsSeenNumber, IsRead, IsEnclosure, known_bound, bound_in, by_range as range_number, by_seen}

-- a better number leaves a better one
pub better_more : (side : Side) (x y z : ℤ) → IsNoTighter side x y → IsNoTighter side (better side x z) (better side y z)
better_more side x y z p = better_least side x z (better side y z) (looser_trans side x y (better side y z) p (better_left side y z)) (better_right side y z)

-- what holds of both holds of the better
pub better_has : (side : Side) (P : ℤ → Type 0) (x y : ℤ) → P x → P y → P (better side x y)
better_has side P x y p q = ⊎_elim (λ (e : better side x y ≡ x). subst P (sym e) p) (λ (e : better side x y ≡ y). subst P (sym e) q) (better_cases side x y)

module _ {S G N : Type 0} (m : GameModel S) (v : BoardView G N) (side : Side) (s : S) where
  -- no less is known than was seen, and than holds of every value
  pub seen_known : IsNoTighter side (v.seen side (m.key s)) (known_bound m v side s)
  seen_known = better_left side (v.seen side (m.key s)) (state_bound m side s)

  pub range_known : IsNoTighter side (state_bound m side s) (known_bound m v side s)
  range_known = better_right side (v.seen side (m.key s)) (state_bound m side s)

  -- what is no tighter than what is known may carry an entry
  pub known_number : (x : ℤ) → IsNoTighter side x (known_bound m v side s) → IsSeenNumber m v side s x
  known_number x p = ⊎_elim
      (λ (e : known_bound m v side s ≡ v.seen side (m.key s)). by_seen (looser_right side x _ _ e p))
      (λ (e : known_bound m v side s ≡ state_bound m side s). range_number (looser_right side x _ _ e p))
      (better_cases side (v.seen side (m.key s)) (state_bound m side s))

-- a later view knows no less
pub known_later : {S G N : Type 0} (m : GameModel S) (v w : BoardView G N) (side : Side) (s : S) → IsLater v w → IsNoTighter side (known_bound m v side s) (known_bound m w side s)
known_later m v w side s l = better_more side _ _ (state_bound m side s) (l.seen side (m.key s))

-- a state's bounds lie in the range of payoffs
pub state_in : {S : Type 0} (m : GameModel S) (side of : Side) (s : S) → IsGame m → Reachable m s → IsNoTighter of (opening_bound m of) (state_bound m side s)
state_in m One One s game r = opening_state m One s game r
state_in m One Two s game r = looser_trans Two _ _ _ (opening_state m Two s game r) (state_range m Two s game r)
state_in m Two One s game r = looser_trans One _ _ _ (opening_state m One s game r) (state_range m One s game r)
state_in m Two Two s game r = opening_state m Two s game r

-- the better of bounds that were read and those of every value of the state
module _ {S : Type 0} (m : GameModel S) (s : S) (e f : Enclosure) (best : (side : Side) → bound_in side f ≡ better side (bound_in side e) (state_bound m side s)) where
  lower_is : f.lower ≡ better One e.lower (state_bound m One s)
  lower_is = best One

  upper_is : f.upper ≡ better Two e.upper (state_bound m Two s)
  upper_is = best Two

  pub known_read : {G N : Type 0} (v : BoardView G N) → IsRead v e.lower e.upper (m.key s) → (side : Side) → bound_in side f ≡ known_bound m v side s
  known_read v read One = lower_is ∙ ap (λ (x : ℤ). better One x (state_bound m One s)) read.lower_seen
  known_read v read Two = upper_is ∙ ap (λ (x : ℤ). better Two x (state_bound m Two s)) read.upper_seen

  pub known_enclosed : IsGame m → Reachable m s → IsEnclosure m e.lower e.upper s → IsEnclosure m f.lower f.upper s
  known_enclosed game r both =
      subst (λ (x : ℤ). IsEnclosure m x f.upper s) (sym lower_is) (subst (λ (x : ℤ). IsEnclosure m (better One e.lower (state_bound m One s)) x s) (sym upper_is) (record {
        lower_backed = better_has One (IsBacked m One s) e.lower (state_bound m One s) both.lower_backed (by_range s _ (looser_refl One _));
        upper_backed = better_has Two (IsBacked m Two s) e.upper (state_bound m Two s) both.upper_backed (by_range s _ (looser_refl Two _));
        lower_low = better_has One (IsNoTighter One (opening_bound m One)) e.lower (state_bound m One s) both.lower_low (state_in m One One s game r);
        lower_high = better_has One (IsNoTighter Two (opening_bound m Two)) e.lower (state_bound m One s) both.lower_high (state_in m One Two s game r);
        upper_low = better_has Two (IsNoTighter One (opening_bound m One)) e.upper (state_bound m Two s) both.upper_low (state_in m Two One s game r);
        upper_high = better_has Two (IsNoTighter Two (opening_bound m Two)) e.upper (state_bound m Two s) both.upper_high (state_in m Two Two s game r);
      }))
