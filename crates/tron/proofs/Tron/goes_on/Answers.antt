use Rattle.std.proofs.Common.{◌≡◌, ℕ, ◌+◌, ◌*◌, ◌/◌, ◌%◌, ◌≤◌, not, eqb, ltb, sym, ap, ◌∙◌, inl, inr, arith}
use Rattle.std.proofs.Math.Nat.{mul-le-mul_right}
use Rattle.std.proofs.lemmas.Bool.{cases_lt, eq-eqb, le-ltb, lt-ltb, ne_eqb}
use Rattle.std.proofs.lemmas.Nat.{div-add-mod', mod-mul-add, mod_below, mul-add-lt}
use Rattle.tron.specs.laws.Game.{few_cells}
use Rattle.tron.proofs.Tron.goes_on.Goals as goal

-- the next cell is in the western column exactly where the row ends
east_test : (width cell : ℕ) → 1 ≤ width → not (eqb ((cell + 1) % width) 0) ≡ ltb (cell % width + 1) width
east_test width cell p =
    let split = div-add-mod' cell width in
    elim (cases_lt (cell % width + 1) width) [
      | inl more ↦
          let e : cell + 1 ≡ cell / width * width + (cell % width + 1) = omega arith in
          let column : (cell + 1) % width ≡ cell % width + 1 = ap (λ (n : ℕ). n % width) e ∙ mod-mul-add (cell / width) width (cell % width + 1) more in
          ap not (ne_eqb _ 0 (λ none. absurd (omega arith))) ∙ sym (lt-ltb _ _ more)
      | inr last ↦
          let ends : cell % width + 1 ≡ width = omega (arith, mod_below cell width p) in
          let e : cell + 1 ≡ (cell / width + 1) * width + 0 = omega arith in
          let column : (cell + 1) % width ≡ 0 = ap (λ (n : ℕ). n % width) e ∙ mod-mul-add (cell / width + 1) width 0 (omega arith) in
          ap not (eq-eqb _ 0 column) ∙ sym (le-ltb _ _ last)
    ]

-- a row lies below exactly where a whole row of cells does
south_test : (height width cell : ℕ) → 1 ≤ width → ltb (cell + width) (height * width) ≡ ltb (cell / width + 1) height
south_test height width cell p =
    let split = div-add-mod' cell width in
    elim (cases_lt (cell / width + 1) height) [
      | inl more ↦ lt-ltb _ _ (omega (arith, mul-add-lt (cell / width + 1) width (cell % width) height more (mod_below cell width p))) ∙ sym (lt-ltb _ _ more)
      | inr last ↦ le-ltb _ _ (omega (arith, mul-le-mul_right width last)) ∙ sym (le-ltb _ _ last)
    ]

pub returns-in-East : goal.returns-in-East
returns-in-East c =
    let column = c.is_taken.ensures ∙ c.western_column.ensures (c.args.cell + 1) (omega (arith, few_cells c.args.self.now.setting.height c.args.self.now.setting.width c.args.self.now.valid.grid)) in
    rw c.in-East.is (ap not column ∙ east_test c.args.self.now.setting.width c.args.cell c.args.self.now.valid.grid.width_low)

pub returns-in-South : goal.returns-in-South
returns-in-South c =
    rw (c.in-South.is, c.cell_count.ensures.is) (south_test c.args.self.now.setting.height c.args.self.now.setting.width c.args.cell c.args.self.now.valid.grid.width_low)
