use Rattle.std.proofs.Common.{arith, ◌≡◌, ◌-◌, ℕ, ◌+◌, ◌/◌, Bool, false, cond, ap, sym, ◌∙◌}
use Rattle.std.specs.Int.Count.{ones}
use Rattle.tron.specs.Rules.{arena_of, free_cells, is_over}
use Rattle.tron.specs.laws.Game.{tron_sound, free_is}
use Rattle.tron.proofs.TronGame.rank.Goals as goal

pub overflow_sub-result : goal.overflow_sub-result
overflow_sub-result c =
    omega (arith, free_is c.args.self.now.setting c.args.self.now.valid c.args.s (tron_sound c.args.self.now.setting c.args.self.now.valid c.args.s c.requires), c.cell_count-cells.ensures.is)

pub returns-else-is_over : goal.returns-else-is_over
returns-else-is_over c =
    let g = c.args.self.now.setting in
    let p = c.args.self.now.valid in
    let free : c.cell_count-cells.result - ones c.args.s.taken ≡ free_cells (arena_of g c.args.s) =
    omega (arith, free_is g p c.args.s (tron_sound g p c.args.s c.requires), c.cell_count-cells.ensures.is) in
    let now : is_over (arena_of g c.args.s) ≡ false = sym c.is_over.ensures ∙ c.if-is_over.false in
    ap (λ (n : ℕ). (n + 1) / 2) free ∙ sym (ap (λ (b : Bool). cond b 0 ((free_cells (arena_of g c.args.s) + 1) / 2)) now)
