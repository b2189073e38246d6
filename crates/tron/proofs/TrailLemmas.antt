-- A state and the trails that it stands for.
use Rattle.std.proofs.Common.{◌≡◌, ◌≢◌, ℕ, ◌<◌, Bool, true, false, ◌||◌, eqb, List, [], ◌∷◌, fold, refl, sym, ap, subst, ◌∙◌, inl, inr, arith}
use Rattle.std.proofs.Math.Bool.{or_assoc}
use Rattle.std.proofs.lemmas.Bool.{both_ways, cases_eq, cases_Bool, eq-eqb, ne_eqb}
use Rattle.std.proofs.lemmas.List.Folds.{list_any_at}
use Rattle.std.proofs.lemmas.List.Quantifiers.{all_pairs_push}
use Rattle.sim_game.specs.declared.Side.TheVariants.{One, Two}
use Rattle.tron.specs.declared.Setting.{Setting}
use Rattle.tron.specs.declared.State.{State}
use Rattle.tron.specs.Cells.{with_cell, is_listed, add_cell, AreDistinct, IsSetOf}
use Rattle.state_key.proofs.SetLemmas.{in_with, or_last}
use Rattle.tron.specs.laws.Cells.{listed_push}
use Rattle.tron.specs.Position.{named_cells, IsSettingOf}
use Rattle.tron.specs.Rules.{Arena, Trails, arena_of, arena_of_trails, entered, tron_root, first_trails, with_heads, after_moves, moved, StandsFor}

-- ---- one cell more, where it is new
listed_add : (cells : List ℕ) (cell other : ℕ) → is_listed (add_cell cells cell) other ≡ (is_listed cells other || eqb cell other)
listed_add cells cell other = elim (cases_Bool (is_listed cells cell)) [
  | inl there ↦ rw there (sym (elim (cases_eq cell other) [
    | inl same ↦ let listed : is_listed cells other ≡ true = subst (λ (c : ℕ). is_listed cells c ≡ true) same there in rw listed refl
    | inr differ ↦ or_last (is_listed cells other) _ (ne_eqb cell other differ)
  ]))
  | inr new ↦ rw new (listed_push cells cell other)
]

distinct_add : (cells : List ℕ) (cell : ℕ) → AreDistinct cells → AreDistinct (add_cell cells cell)
distinct_add cells cell d = elim (cases_Bool (is_listed cells cell)) [
  | inl there ↦ rw there d
  | inr new ↦ rw new (all_pairs_push (λ one other. one ≢ other) cells cell d
      (λ k e l same. both_ways (is_listed cells cell) new (list_any_at (λ other. eqb other cell) cells k e l (eq-eqb _ cell same))))
]

set_add : (cells : List ℕ) (taken cell : ℕ) → IsSetOf cells taken → IsSetOf (add_cell cells cell) (with_cell taken cell)
set_add cells taken cell s = record { same = λ other. in_with taken cell other ∙ ap (λ (b : Bool). b || eqb cell other) (s.same other) ∙ sym (listed_add cells cell other) }

-- ---- each cell once
listed_each : (start cells : List ℕ) (other : ℕ) → is_listed (fold add_cell start cells) other ≡ (is_listed start other || is_listed cells other)
listed_each start [] other = sym (or_last (is_listed start other) false refl)
listed_each start (cell ∷ cells) other =
    listed_each (add_cell start cell) cells other ∙ ap (λ (b : Bool). b || is_listed cells other) (listed_add start cell other)
    ∙ or_assoc (is_listed start other) (eqb cell other) (is_listed cells other)

distinct_each : (start cells : List ℕ) → AreDistinct start → AreDistinct (fold add_cell start cells)
distinct_each start [] d = d
distinct_each start (cell ∷ cells) d = distinct_each (add_cell start cell) cells (distinct_add start cell d)

pub stands_first : (g : Setting) (walls : List ℕ) (one two : ℕ) → IsSettingOf g.height g.width walls one two g → StandsFor (tron_root g) (first_trails walls one two)
stands_first g walls one two is = record {
  taken = record { same = λ cell. is.taken_is.same cell ∙ sym (listed_each [] (named_cells walls one two) cell) };
  distinct = distinct_each [] (named_cells walls one two) (λ i j d less below. absurd (let none : j < 0 = below in omega arith));
  one = is.one_is;
  two = is.two_is;
}

-- ---- the rules look at the same arena
pub same_arena : (g : Setting) (s : State) (t : Trails) → StandsFor s t → arena_of g s ≡ arena_of_trails g t
same_arena g s t stands = λ i. record { height = g.height; width = g.width; taken = λ cell. stands.taken.same cell i; one = stands.one i; two = stands.two i }

stands_moved : (s : State) (t : Trails) (one two : ℕ) → StandsFor s t → StandsFor (moved s one two) (with_heads t one two)
stands_moved s t one two stands = record {
  taken = set_add (add_cell t.taken one) (with_cell s.taken one) two (set_add t.taken s.taken one stands.taken);
  distinct = distinct_add (add_cell t.taken one) two (distinct_add t.taken one stands.distinct);
  one = refl;
  two = refl;
}

pub stands_after : (g : Setting) (s : State) (t : Trails) (a b : ℕ) → StandsFor s t → StandsFor (moved s (entered (arena_of g s) One a) (entered (arena_of g s) Two b)) (after_moves g t a b)
stands_after g s t a b stands =
    let one = entered (arena_of g s) One a in
    let two = entered (arena_of g s) Two b in
    subst (λ (r : Arena). StandsFor (moved s one two) (with_heads t (entered r One a) (entered r Two b))) (same_arena g s t stands) (stands_moved s t one two stands)
