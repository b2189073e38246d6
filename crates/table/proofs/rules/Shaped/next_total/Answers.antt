use Rattle.std.proofs.Common.{◌≡◌, ℕ, ◌+◌, ◌<◌, ◌∙◌, ap, sym, subst, rules, w32, SFits, arith}
use Rattle.std.proofs.lemmas.Int.{to_z-of_z}
use Rattle.sim_game.specs.Sides.{other_side, better}
use Rattle.table.specs.laws.Game.{place_within}
use Rattle.table.specs.Lists.{cells_of, place_at}
use Rattle.table.specs.Position.{IsTableCell}
use Rattle.table.specs.Setting.{lists_of}
use Rattle.table.specs.laws.Totals.{cells_some}
use Rattle.table.specs.Totals.{cell_total, total_in}
use Rattle.table.proofs.TotalLemmas.{worst_more}
use Rattle.table.proofs.rules.Shaped.next_total.Goals as goal

pub cell_total-worst-requires-clause-cell : goal.cell_total-worst-requires-clause-cell
cell_total-worst-requires-clause-cell c =
    let l = lists_of c.args.self.now.setting in
    let p = c.args.self.now.valid in
    let is : c.cells_of-count.result.1 ≡ place_at (lists_of c.args.self.now.setting) c.args.s 0 = search rules in
    (c.args.s, subst (IsTableCell l c.args.s) (sym is) (p.cells c.args.s 0 c.requires.here c.requires.inner (omega (arith, cells_some l p c.args.s c.requires.here c.requires.inner))))

pub cell_total-worst-requires-clause-place : goal.cell_total-worst-requires-clause-place
cell_total-worst-requires-clause-place c =
    let l = lists_of c.args.self.now.setting in
    let p = c.args.self.now.valid in
    let is : c.cells_of-count.result.1 ≡ place_at (lists_of c.args.self.now.setting) c.args.s 0 = search rules in
    omega (arith, is, place_within l c.args.s 0 p.fits c.requires.here c.requires.inner (omega (arith, cells_some l p c.args.s c.requires.here c.requires.inner)))

pub loop-k-init : goal.loop-k-init
loop-k-init c =
    let l = lists_of c.args.self.now.setting in
    let is : c.cells_of-count.result.1 ≡ place_at (lists_of c.args.self.now.setting) c.args.s 0 = search rules in
    let fits : SFits w32 c.cell_total-worst.result = record { sfits = c.cell_total-worst.type_inv } in (
      omega arith,
      cells_some l c.args.self.now.valid c.args.s c.requires.here c.requires.inner,
      to_z-of_z w32 c.cell_total-worst.result fits ∙ c.cell_total-worst.ensures ∙ ap (cell_total l c.args.side (total_in c.args.totals.now c.args.side)) is,
    )

pub overflow_add-first : goal.overflow_add-first
overflow_add-first c =
    let l = lists_of c.args.self.now.setting in
    let is : c.cells_of-count.result.1 ≡ place_at (lists_of c.args.self.now.setting) c.args.s 0 = search rules in
    let below : c.loop-k.k < cells_of (lists_of c.args.self.now.setting) c.args.s = search rules in
    omega (arith, is, place_within l c.args.s c.loop-k.k c.args.self.now.valid.fits c.requires.here c.requires.inner below, c.args.self.now.setting.few_cells)

pub cell_total-total-requires-clause-cell : goal.cell_total-total-requires-clause-cell
cell_total-total-requires-clause-cell c =
    let l = lists_of c.args.self.now.setting in
    let is : c.cells_of-count.result.1 ≡ place_at (lists_of c.args.self.now.setting) c.args.s 0 = search rules in
    let below : c.loop-k.k < cells_of (lists_of c.args.self.now.setting) c.args.s = search rules in
    let e : c.cells_of-count.result.1 + c.loop-k.k ≡ place_at (lists_of c.args.self.now.setting) c.args.s c.loop-k.k = omega (arith, is) in
    (c.args.s, subst (IsTableCell l c.args.s) (sym e) (c.args.self.now.valid.cells c.args.s c.loop-k.k c.requires.here c.requires.inner below))

pub cell_total-total-requires-clause-place : goal.cell_total-total-requires-clause-place
cell_total-total-requires-clause-place c =
    let l = lists_of c.args.self.now.setting in
    let is : c.cells_of-count.result.1 ≡ place_at (lists_of c.args.self.now.setting) c.args.s 0 = search rules in
    let below : c.loop-k.k < cells_of (lists_of c.args.self.now.setting) c.args.s = search rules in
    omega (arith, is, place_within l c.args.s c.loop-k.k c.args.self.now.valid.fits c.requires.here c.requires.inner below)

pub loop-k-preserved : goal.loop-k-preserved
loop-k-preserved c =
    let l = lists_of c.args.self.now.setting in
    let f = total_in c.args.totals.now c.args.side in
    let is : c.cells_of-count.result.1 ≡ place_at (lists_of c.args.self.now.setting) c.args.s 0 = search rules in
    let below : c.loop-k.k < cells_of (lists_of c.args.self.now.setting) c.args.s = search rules in
    let place : c.cells_of-count.result.1 + c.loop-k.k ≡ place_at (lists_of c.args.self.now.setting) c.args.s c.loop-k.k = omega (arith, is) in
    let fits : SFits w32 c.worse-worst.result = record { sfits = c.worse-worst.type_inv } in
    let e : c.worse-worst.result ≡ better (other_side c.args.side) c.loop-k.worst c.cell_total-total.result = search rules in (
      omega arith,
      omega (arith, below),
      to_z-of_z w32 c.worse-worst.result fits
          ∙ worst_more c.args.side c.loop-k.k (λ (k : ℕ). cell_total l c.args.side f (place_at l c.args.s k)) c.loop-k.worst c.cell_total-total.result c.worse-worst.result
          c.loop-k.invariant.0 (sym c.loop-k.worst-is ∙ c.loop-k.invariant.2) (c.cell_total-total.ensures ∙ ap (cell_total l c.args.side f) place) e,
    )
