-- The entry of a step by one move.
use Rattle.std.proofs.Common.{◌≡◌, ◌≢◌, ⊎_elim, ℕ, zero, suc, ◌<◌, ◌≤◌, ℤ, get_or, replicate, refl, sym, ap, subst, arith}
use Rattle.std.proofs.lemmas.Bool.{cases_eq}
use Rattle.sim_game.specs.declared.Side.{Side}
use Rattle.sim_game.specs.declared.Side.TheVariants.{One, Two}
use Rattle.sim_game.specs.Model.{GameModel, IsGame, Reachable}
use Rattle.plan_book.specs.declared.Entry.{Entry}
use Rattle.sim_game.specs.Sides.{other_side, IsNoTighter, state_bound, draws_of, child_of, turn_reward, after_reward}
use Rattle.plan_book.specs.Backed.{IsBacked, by_range, by_end, by_step}
use Rattle.plan_book.specs.Plans.{one_move}
use Rattle.plan_book.specs.Entries.{IsEntry, IsPureEntry}
use Rattle.plan_book.proofs.BackedLemmas.{mean_within}
use Rattle.plan_book.proofs.ExpectedLemmas.{one_move_fits}
use Rattle.plan_book.proofs.SerialLemmas.{pure_step, serial_backed}
use Rattle.sim_game.proofs.SideLemmas.{looser_trans, looser_times, looser_more}
use Rattle.bounds_board.specs.Views.{BoardView, IsLater, IsSeenNumber}
use Rattle.bounds_board.proofs.ViewLemmas.{seen_later}
use Rattle.serial_ab.specs.Searches.{IsReplied}
use Rattle.serial_ab.proofs.ValueLemmas.{turn_value_high, child_is}

-- a backed bound stays backed where it says less
pub backed_looser : {S : Type 0} (m : GameModel S) (side : Side) (s : S) (x y : ℤ) → IsBacked m side s x → IsNoTighter side y x → IsBacked m side s y
backed_looser m side s x y (by_range s' x' h) l = by_range s y (looser_trans side _ _ _ l h)
backed_looser m side s x y (by_end s' x' e h) l = by_end s y e (looser_trans side _ _ _ l h)
backed_looser m side s x y (by_step s' x' total weights numbers step children) l =
    by_step s y total weights numbers (record {
      goes_on = step.goes_on;
      one_each = step.one_each;
      sums = step.sums;
      some = step.some;
      proves = λ reply q. looser_trans side _ _ _ (looser_times side total y x l) (step.proves reply q);
    }) children

no_weight : (n i : ℕ) → get_or {A = ℕ} (replicate n 0) i 0 ≡ 0
no_weight zero zero = refl
no_weight zero (suc i) = refl
no_weight (suc n) zero = refl
no_weight (suc n) (suc i) = no_weight n i

one_move_other : (total count place i : ℕ) → i ≢ place → get_or (one_move total count place) i 0 ≡ 0
one_move_other total zero place zero n = refl
one_move_other total zero place (suc i) n = refl
one_move_other total (suc count) zero zero n = absurd (n refl)
one_move_other total (suc count) zero (suc i) n = no_weight count i
one_move_other total (suc count) (suc place) zero n = refl
one_move_other total (suc count) (suc place) (suc i) n = one_move_other total count place i (λ e. n (ap suc e))

pub in_range : {S : Type 0} (m : GameModel S) (s : S) (of : Side) (x : ℤ) → IsNoTighter of (state_bound m of s) x → IsNoTighter of x (state_bound m (other_side of) s)
    → IsNoTighter One (state_bound m One s) x × IsNoTighter Two (state_bound m Two s) x
in_range m s One x p q = (p, q)
in_range m s Two x p q = (q, p)

module _ {S G N : Type 0} (m : GameModel S) (game : IsGame m) (side : Side) (s : S) (r : Reachable m s) (goes : 1 ≤ m.rank s) (own : ℕ) (at : own < m.moves side s)
    (u v : BoardView G N) (later : IsLater u v) (bound : ℤ) (low : IsNoTighter side (state_bound m side s) bound)
    (replied : IsReplied m side s own (m.moves (other_side side) s) u bound)
    (total : ℕ) (some : 1 ≤ total) where
  positive : (o : ℕ) → 1 ≤ get_or (one_move total (m.moves side s) own) o 0 → own ≡ o
  positive o w = ⊎_elim (λ (e : o ≡ own). sym e) (λ (n : o ≢ own). let none = one_move_other total (m.moves side s) own o n in absurd (omega arith)) (cases_eq o own)

  bound_high : IsNoTighter side bound (state_bound m (other_side side) s)
  bound_high = let others = game.other_moves (other_side side) s r goes in
      looser_trans side _ _ _ (replied.proven 0 (omega arith))
      (mean_within m game side s (λ _ a b. replied.numbers a b) own 0 (state_bound m (other_side side) s) r at (omega arith) (λ d w.
      looser_trans side _ _ _ (looser_more side (turn_reward m side s own 0 d) _ _ (replied.good 0 d (omega arith) w).proven)
      (turn_value_high m game side s own 0 d r at (omega arith) w)))

  pub pure_entry : IsEntry m total (IsSeenNumber m v) (record { key = m.key s; side = side; bound = bound; weights = one_move total (m.moves side s) own })
  pure_entry = let range = in_range m s side bound low bound_high in record {
    state = s;
    reachable = r;
    is_key = refl;
    low = range.0;
    high = range.1;
    numbers = λ _ a b. replied.numbers a b;
    step = pure_step m side s total own (λ _ a b. replied.numbers a b) bound goes some at replied.proven;
    backed = λ o a d p q t w. subst (λ (k : ℕ). (c : ℕ) → c < draws_of m side s k a → after_reward m side s k a c (IsBacked m side) (replied.numbers a c)) (positive o w)
        (λ c t'. backed_looser m side _ _ _ (serial_backed m game side (child_of m side s own a c) (child_is m game side s own a c r at q t')) (replied.good a c q t').proven) d t;
    known = λ o a d p q t w. subst (λ (k : ℕ). (c : ℕ) → c < draws_of m side s k a → after_reward m side s k a c (IsSeenNumber m v side) (replied.numbers a c)) (positive o w)
        (λ c t'. seen_later m u v side _ _ later (replied.good a c q t').seen) d t;
  }

  pub is_pure : (e : Entry) → e ≡ record { key = m.key s; side = side; bound = bound; weights = one_move total (m.moves side s) own } → IsPureEntry m total e
  is_pure e h = subst (IsPureEntry m total) (sym h) (record {
    lawful = record {
      state = pure_entry.state;
      reachable = pure_entry.reachable;
      is_key = pure_entry.is_key;
      low = pure_entry.low;
      high = pure_entry.high;
      numbers = pure_entry.numbers;
      step = pure_entry.step;
      backed = pure_entry.backed;
      known = λ _ _ _ _ _ _ _. tt;
    };
    place = own;
    pure = ap (λ (n : ℕ). one_move total n own) (sym ((one_move_fits total (m.moves side s) own at).one_each));
  })
