use Rattle.std.proofs.Common.{◌≡◌, arith, map, pos, ◌+ℤ◌, ap, ℕ, List}
use Rattle.std.proofs.lemmas.List.{length-map, map-set}
use Rattle.matrix_game.specs.Grid.{Grid}
use Rattle.matrix_game.specs.Rounds.{positive_part, regret_of, raised_regret}
use Rattle.matrix_game.proofs.Lists.{none_made, made_more, made-le, all_made}
use Rattle.matrix_game.proofs.cells.Matrix.raise.Goals as goal

pub loop-row-init : goal.loop-row-init
loop-row-init g c =
    let q : List ℕ = map g.R.Regret.number c.args.regrets.now in
    none_made (raised_regret c.args.self.now c.args.weight q c.args.reply.col c.args.reply.paid) q (g.R.Regret.number c.none-all.result) c.none-all.ensures

pub raised-regret-requires-clause-room : goal.raised-regret-requires-clause-room
raised-regret-requires-clause-room g c =
    let number = g.R.Regret.number in
    let q : List ℕ = map number c.args.regrets.now in
    let row = c.loop-row.row in
    let rows = ap (λ (m : Grid). m.rows) c.self.view_is in
    let f = raised_regret c.args.self.now c.args.weight q c.args.reply.col c.args.reply.paid in
    let same = ap (λ x. positive_part (pos x +ℤ regret_of c.args.self.now c.args.weight c.args.reply.col c.args.reply.paid row)) (c.loop-row.invariant.others row (omega arith)) in
    omega (arith, same, made-le f q (map number c.loop-row.regrets) row (number c.loop-row.all) c.args.self.now.rows (omega arith) c.loop-row.invariant, c.requires.room)

pub plus-all-requires : goal.plus-all-requires
plus-all-requires g c =
    let number = g.R.Regret.number in
    let q : List ℕ = map number c.args.regrets.now in
    let row = c.loop-row.row in
    let rows = ap (λ (m : Grid). m.rows) c.self.view_is in
    let f = raised_regret c.args.self.now c.args.weight q c.args.reply.col c.args.reply.paid in
    let same = ap (λ x. positive_part (pos x +ℤ regret_of c.args.self.now c.args.weight c.args.reply.col c.args.reply.paid row)) (c.loop-row.invariant.others row (omega arith)) in
    omega (arith, same, c.raised-regret.ensures, made-le f q (map number c.loop-row.regrets) row (number c.loop-row.all) c.args.self.now.rows (omega arith) c.loop-row.invariant, c.requires.room)

pub loop-row-preserved : goal.loop-row-preserved
loop-row-preserved g c =
    let number = g.R.Regret.number in
    let q : List ℕ = map number c.args.regrets.now in
    let row = c.loop-row.row in
    let rows = ap (λ (m : Grid). m.rows) c.self.view_is in
    let f = raised_regret c.args.self.now c.args.weight q c.args.reply.col c.args.reply.paid in
    let same = ap (λ x. positive_part (pos x +ℤ regret_of c.args.self.now c.args.weight c.args.reply.col c.args.reply.paid row)) (c.loop-row.invariant.others row (omega arith)) in
    made_more f q (map number c.loop-row.regrets) _ row (number c.loop-row.all) (number c.plus-all.result) (number c.raised-regret.result) (omega (arith, length-map c.loop-row.regrets number))
    (map-set number c.loop-row.regrets row c.raised-regret.result) (omega (arith, same, c.raised-regret.ensures)) c.plus-all.ensures c.loop-row.invariant

pub returns-clause-regrets : goal.returns-clause-regrets
returns-clause-regrets g c =
    let number = g.R.Regret.number in
    let q : List ℕ = map number c.args.regrets.now in
    let rows = ap (λ (m : Grid). m.rows) c.self.view_is in
    let f = raised_regret c.args.self.now c.args.weight q c.args.reply.col c.args.reply.paid in
    let end : c.loop-row.row ≡ c.args.self.now.rows = omega arith in
    (all_made f q (map number c.loop-row.regrets) c.loop-row.row (number c.loop-row.all) c.args.self.now.rows (omega (arith, length-map c.loop-row.regrets number)) end c.loop-row.invariant).0

pub returns-clause-all : goal.returns-clause-all
returns-clause-all g c =
    let number = g.R.Regret.number in
    let q : List ℕ = map number c.args.regrets.now in
    let rows = ap (λ (m : Grid). m.rows) c.self.view_is in
    let f = raised_regret c.args.self.now c.args.weight q c.args.reply.col c.args.reply.paid in
    let end : c.loop-row.row ≡ c.args.self.now.rows = omega arith in
    (all_made f q (map number c.loop-row.regrets) c.loop-row.row (number c.loop-row.all) c.args.self.now.rows (omega (arith, length-map c.loop-row.regrets number)) end c.loop-row.invariant).1
