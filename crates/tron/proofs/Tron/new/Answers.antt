use Rattle.std.proofs.Common.{arith, ℕ, ◌≡◌, refl, sym, subst, ap, ◌∙◌}
use Rattle.tron.specs.Cells.{with_cell, IsSetOf}
use Rattle.tron.specs.Position.{named_cells, IsGrid}
use Rattle.tron.proofs.PositionLemmas.{with_heads, position_of, no_fault}
use Rattle.tron.proofs.Tron.new.Goals as goal

pub invariant_of-result : goal.invariant_of-result
invariant_of-result c =
    let grid : IsGrid c.args.height c.args.width = record { height_low = omega arith; height_high = omega arith; width_low = omega arith; width_high = omega arith } in
    let is : c.with_cell-taken.result ≡ with_cell (with_cell c.set_of-walled.result c.args.one) c.args.two =
    c.with_cell-taken.ensures ∙ ap (λ (taken : ℕ). with_cell taken c.args.two) c.with_cell.ensures in
    let below = rw c.cell_count.ensures.is at c.in_ok-check_cells.ensures in
    record {
      valid = position_of _ c.args.walls.now grid below.1 below.2 below.3
          (subst (IsSetOf (named_cells c.args.walls.now c.args.one c.args.two)) (sym is) (with_heads c.args.walls.now c.args.one c.args.two c.set_of-walled.result c.set_of-walled.ensures));
    }

pub returns : goal.returns
returns c =
    let grid : IsGrid c.args.height c.args.width = record { height_low = omega arith; height_high = omega arith; width_low = omega arith; width_high = omega arith } in
    let is : c.with_cell-taken.result ≡ with_cell (with_cell c.set_of-walled.result c.args.one) c.args.two =
    c.with_cell-taken.ensures ∙ ap (λ (taken : ℕ). with_cell taken c.args.two) c.with_cell.ensures in
    let walls = c.args.walls.now in (
      no_fault c.args.height c.args.width walls c.args.one c.args.two grid (rw c.cell_count.ensures.is at c.in_ok-check_cells.ensures).0
          (sym (c.set_of-walled.ensures.same c.args.one) ∙ sym c.is_taken.ensures ∙ c.if-is_taken.false)
          (sym (c.set_of-walled.ensures.same c.args.two) ∙ sym c.is_taken-else-is_taken.ensures ∙ c.if-is_taken-2.false) c.if-one-two.false,
      record {
        height_is = refl;
        width_is = refl;
        one_is = refl;
        two_is = refl;
        taken_is = subst (IsSetOf (named_cells walls c.args.one c.args.two)) (sym is) (with_heads walls c.args.one c.args.two c.set_of-walled.result c.set_of-walled.ensures);
      },
    )
