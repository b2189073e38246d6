-- The serial bounds of a root, by what two searches over the whole range found.
use Rattle.std.proofs.Common.{◌≡◌, ◌≢◌, ⊎_elim, Result, Ok, Err, OnOk, false, ℕ, ◌+◌, ◌≤◌, ℤ, ◌≤ℤ◌, ◌<ℤ◌, w64, SFits, to_z, of_z, refl, sym, ap, ◌∙◌, arith}
use Rattle.std.proofs.lemmas.Int.{ints, to_z-of_z}
use Rattle.sim_game.specs.declared.Side.{Side}
use Rattle.sim_game.specs.declared.Side.TheVariants.{One, Two}
use Rattle.sim_game.specs.Model.{GameModel, IsGame, Reachable, LeadsTo, HasAtMost}
use Rattle.sim_game.specs.Sides.{other_side, opening_bound, state_bound, IsTighter}
use Rattle.sim_game.proofs.SideLemmas.{looser_both, tighter_or, opening_state, state_range}
use Rattle.sim_game.proofs.ReachLemmas.{reachable_root}
use Rattle.plan_book.specs.Serial.{serial_bound, tree_size}
use Rattle.bounds_board.specs.Views.{BoardView, WasFull}
use Rattle.bounds_board.proofs.FullLemmas.{rows_too_few}
use Rattle.serial_ab.specs.Counts.{VisitsView, Counts, IsCut, WasCut, spent_on, left_on}
use Rattle.serial_ab.specs.Roots.{IsSearchable, IsRootValue}
use Rattle.serial_ab.specs.Searches.{EndsWith, IsFound}
use Rattle.serial_ab.specs.declared.stop.SerialStop.{SerialStop}
use Rattle.serial_ab.specs.declared.stop.SerialStop.TheVariants.{Cut, Full, NoMemory}
use Rattle.serial_ab.proofs.EndLemmas.{apart}
use Rattle.serial_ab.proofs.SearchLemmas.{whole_range}
use Rattle.serial_ab.proofs.ValueLemmas.{serial_low, serial_high}

module _ {S : Type 0} (m : GameModel S) (game : IsGame m) (s : S) (r : Reachable m s) where
  most : (side : Side) → serial_bound m side s ≤ℤ state_bound m Two s
  most One = serial_high m game One s r
  most Two = serial_low m game Two s r

  least : (side : Side) → state_bound m One s ≤ℤ serial_bound m side s
  least One = serial_low m game One s r
  least Two = serial_high m game Two s r

  -- where all that can be got is one number
  pub value_alone : (side : Side) → state_bound m One s ≡ state_bound m Two s → state_bound m One s ≡ serial_bound m side s
  value_alone side e = looser_both One _ _ (least side) (rw e (most side))

pub whole_wide : {S : Type 0} (m : GameModel S) (game : IsGame m) (side : Side) → IsSearchable m → IsTighter side (opening_bound m (other_side side)) (opening_bound m side)
whole_wide m game side searched = of side where
  wide : opening_bound m One <ℤ opening_bound m Two
  wide = apart _ _ _ _ (opening_state m One m.root game (reachable_root m)) searched.wide (opening_state m Two m.root game (reachable_root m))

  of : (side : Side) → IsTighter side (opening_bound m (other_side side)) (opening_bound m side)
  of One = wide
  of Two = wide

-- a root whose bounds differ is searched
pub root_searched : {S : Type 0} (m : GameModel S) (game : IsGame m) → 1 ≤ m.rank m.root → (state_bound m One m.root ≡ state_bound m Two m.root → ⊥) → IsSearchable m
root_searched m game goes_on differ = record {
  goes_on = goes_on;
  wide = ⊎_elim
      (λ (h : state_bound m One m.root <ℤ state_bound m Two m.root). h)
      (λ (h : state_bound m Two m.root ≤ℤ state_bound m One m.root). absurd (differ (looser_both One _ _ (state_range m One m.root game (reachable_root m)) h)))
      (tighter_or One (state_bound m Two m.root) (state_bound m One m.root));
}

-- a search that was not cut had a visit left
had_left : (side : Side) (v : VisitsView) (r : Result ℤ SerialStop) → r ≢ Err Cut → (left_on side v ≡ 0 → r ≡ Err Cut) → 1 ≤ left_on side v
had_left side v r not none = let some : ¬ (left_on side v ≡ 0) = λ e. not (none e) in omega arith

-- how a search of the root over the whole range ends
pub root_ends : {S G N : Type 0} (m : GameModel S) (game : IsGame m) (side : Side) (v : BoardView G N) (old new : VisitsView) (r : Result ℤ SerialStop) → IsSearchable m
    → (left_on side old ≡ 0 → r ≡ Err Cut) → OnOk r (spent_on side old + 2 ≤ spent_on side new)
    → EndsWith (IsFound m side m.root (opening_bound m side) (opening_bound m (other_side side)) v) (WasCut false side (tree_size m m.root) old new)
    (WasFull m v (LeadsTo m m.root)) r
    → EndsWith (IsRootValue m side old new) (IsCut side (tree_size m m.root) old new) (1 ≤ left_on side old × WasFull m v (LeadsTo m m.root)) r
root_ends m game side v old new (Ok x) searched none entered found = record {
  value = (whole_range m game side m.root v x (reachable_root m) found (whole_wide m game side searched)).0;
  had_left = λ _. had_left side old (Ok x) (λ e. cc) none;
  entered = λ _. entered;
}
root_ends m game side v old new (Err Cut) searched none entered cut = cut refl
root_ends m game side v old new (Err Full) searched none entered full = (had_left side old (Err Full) (λ e. cc) none, full)
root_ends m game side v old new (Err NoMemory) searched none entered h = h

-- equal words are equal numbers
pub one_word : (x y : ℤ) → SFits w64 x → SFits w64 y → of_z w64 x ≡ of_z w64 y → x ≡ y
one_word x y f g e = sym (to_z-of_z w64 x f) ∙ ap (to_z w64) e ∙ to_z-of_z w64 y g

pub equal_bounds : {S : Type 0} (m : GameModel S) (game : IsGame m) (side : Side) (v : VisitsView) → state_bound m One m.root ≡ state_bound m Two m.root
    → IsRootValue m side v v (state_bound m One m.root)
equal_bounds m game side v e = record {
  value = value_alone m game m.root (reachable_root m) side e;
  had_left = λ open_game. let wide = open_game.wide in absurd (omega (arith, ints));
  entered = λ open_game. let wide = open_game.wide in absurd (omega (arith, ints));
}

-- visits of the other side change nothing
pub cut_before : (side : Side) (need most : ℕ) (old mid new : VisitsView) → Counts (other_side side) most old mid → IsCut side need mid new → IsCut side need old new
cut_before One need most old mid new counts cut = record {
  none_left = cut.none_left;
  too_few = let l = counts.limit in let o = counts.other in let f = cut.too_few in
      rw (sym l, sym o) f;
}
cut_before Two need most old mid new counts cut = record {
  none_left = cut.none_left;
  too_few = let l = counts.limit in let o = counts.other in let f = cut.too_few in
      rw (sym l, sym o) f;
}

-- a full board had no row for each state
pub no_room : {S G N : Type 0} (m : GameModel S) (v : BoardView G N) (IsAsked : S → Type 0) (rows : ℕ) → v.rows ≡ rows → WasFull m v IsAsked → HasAtMost m rows → ⊥
no_room m v IsAsked rows is was has = let few = rows_too_few m v (m.key was.state) was.full rows has in omega (arith, few, is)
