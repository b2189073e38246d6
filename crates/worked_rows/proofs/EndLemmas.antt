-- The entry of a lower bound at a state that the one move of each side and its one draw lead to an end, for nothing.
use Rattle.std.proofs.Common.{◌≡◌, ℕ, zero, suc, ◌<◌, ◌≤◌, ℤ, pos, ◌-ℤ◌, ◌*ℤ◌, ◌≤ℤ◌, [], ◌∷◌, refl, sym, subst, arith}
use Rattle.std.proofs.lemmas.Int.{ints}
use Rattle.sim_game.specs.declared.Side.TheVariants.{One, Two}
use Rattle.sim_game.specs.Model.{GameModel, IsGame, IsEnd, Reachable, bound_scale}
use Rattle.sim_game.specs.Sides.{IsNoTighter, state_bound, end_bound, draws_of, after_reward}
use Rattle.sim_game.proofs.SideLemmas.{looser_refl, looser_right}
use Rattle.plan_book.specs.Entries.{IsEntry}
use Rattle.plan_book.specs.Plans.{one_move}
use Rattle.plan_book.specs.Steps.{cell}
use Rattle.bounds_board.specs.Views.{BoardView, IsSeenNumber, by_end}
use Rattle.bounds_board.proofs.ViewLemmas.{later_refl}
use Rattle.serial_ab.specs.Searches.{IsGoodNumber, IsReplied}
use Rattle.serial_ab.proofs.EntryLemmas.{pure_entry}
use Rattle.serial_ab.proofs.ValueLemmas.{serial_end, cell_one}

module _ {S G N : Type 0} (m : GameModel S) (game : IsGame m) (v : BoardView G N) (s : S) (r : Reachable m s) (goes : 1 ≤ m.rank s) (one : m.moves One s ≡ 1) (two : m.moves Two s ≡ 1)
    (draw : m.draws s 0 0 ≡ 1) (free : m.reward s 0 0 0 ≡ pos 0) (end : IsEnd m (m.drawn s 0 0 0)) where
  abbrev payoff : ℤ
  payoff = end_bound m (m.drawn s 0 0 0)

  less_none : (x y : ℤ) → y ≡ pos 0 → x -ℤ pos bound_scale *ℤ y ≡ x
  less_none x y none = omega (arith, ints, none)

  good : (reply d : ℕ) → reply < m.moves Two s → d < draws_of m One s 0 reply → after_reward m One s 0 reply d (IsGoodNumber m One v) payoff
  good zero zero p q = subst (IsGoodNumber m One v (m.drawn s 0 0 0)) (sym (less_none payoff (m.reward s 0 0 0) free)) (record {
    proven = looser_right One _ _ _ (sym (serial_end m game One (m.drawn s 0 0 0) end)) (looser_refl One payoff);
    seen = by_end end refl;
  })
  good zero (suc d) p q = absurd (omega (arith, draw))
  good (suc reply) d p q = absurd (omega (arith, two))

  proven : (bound : ℤ) → bound ≤ℤ payoff → (reply : ℕ) → reply < m.moves Two s → IsNoTighter One bound (cell m One s (λ _ _ _. payoff) 0 reply)
  proven bound high zero p = looser_right One _ _ _ (sym (cell_one m game One s (λ _ _ _. payoff) 0 0 r (omega (arith, one)) p draw)) high
  proven bound high (suc reply) p = absurd (omega (arith, two))

  pub end_entry : (bound : ℤ) (total : ℕ) → state_bound m One s ≤ℤ bound → bound ≤ℤ payoff → 1 ≤ total
      → IsEntry m total (IsSeenNumber m v) (record { key = m.key s; side = One; bound = bound; weights = total ∷ [] })
  end_entry bound total low high some =
      let replied : IsReplied m One s 0 (m.moves Two s) v bound = record { numbers = λ _ _. payoff; good = good; proven = proven bound high } in
      subst (λ n. IsEntry m total (IsSeenNumber m v) (record { key = m.key s; side = One; bound = bound; weights = one_move total n 0 })) one
      (pure_entry m game One s r goes 0 (omega (arith, one)) v v (later_refl v) bound low replied total some)
