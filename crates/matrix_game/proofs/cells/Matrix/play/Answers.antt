use Rattle.std.proofs.Common.{◌≡◌, ◌≤◌, ◌+◌, ◌⊎◌, ◌<ℤ◌, ◌≤ℤ◌, All, FitsSigned, ℕ, List, get_or, length, sum, map, subst, arith, ◌∙◌, sym, refl, ap, inl, inr, to_z, w64, pos}
use Rattle.std.proofs.lemmas.Int.{ints, to_z-of_z}
use Rattle.std.proofs.Math.ListN.{set}
use Rattle.matrix_game.specs.Grid.{IsMatrix, first_greatest}
use Rattle.matrix_game.specs.Rounds.{raised_regrets}
use Rattle.matrix_game.proofs.Loop.{IsRound, round_is, before_first, regrets-room, mixture-light, mixture-sum, counts-room, round_takes, round_keeps, same_before, floor_before, best_mixture_is, reply_counts_are}
use Rattle.matrix_game.proofs.Gap.{count_of}
use Rattle.matrix_game.proofs.Mixtures.{length-mixture_of}
use Rattle.matrix_game.proofs.Law.{length-regrets_before, mixture_before, reply_before}
use Rattle.matrix_game.proofs.cells.Matrix.play.Goals as goal
use Rattle.matrix_game.proofs.cells.Matrix.play.Goals.{then-round-eq0, then-round-eq0-via-then-round-eq0, then-round-eq0-via-else-round-eq0+then-low-reply, else-round-eq0+else-low-reply}

pub loop-round-init : goal.loop-round-init
loop-round-init g c =
    before_first c.args.self.now c.args.weight (map g.R.Regret.number c.args.regrets.now)
    (g.R.Regret.number c.none-all.result) c.args.counts.now c.args.best.now (pos 0) c.requires.regrets c.none-all.ensures c.requires.counts c.requires.best

pub mix-requires-clause-room : goal.mix-requires-clause-room
mix-requires-clause-room g c =
    let matrix : IsMatrix c.args.self.now = subst IsMatrix c.self.view_is c.self.invariant in
    let room = regrets-room c.args.self.now c.args.weight c.loop-round.round g.R.Regret.limit matrix.shaped c.requires.room (omega arith) in
    omega (arith, room, c.loop-round.invariant.all_is, ap sum c.loop-round.invariant.regrets_are)

pub reply-reply-requires-clause-light : goal.reply-reply-requires-clause-light
reply-reply-requires-clause-light g c =
    let matrix : IsMatrix c.args.self.now = subst IsMatrix c.self.view_is c.self.invariant in
    let m = c.args.self.now in
    let q : List ℕ = map g.R.Regret.number c.loop-round.regrets in
    let each : length q ≡ m.rows = ap length c.loop-round.invariant.regrets_are ∙ length-regrets_before m c.args.weight c.loop-round.round in
    subst (λ p. All (λ x. x ≤ 1048576) p) (sym c.mix.ensures) (mixture-light m.rows c.args.weight q each (omega (arith, matrix.shaped.some_row)) c.requires.light)

pub reply-reply-requires-clause-weights : goal.reply-reply-requires-clause-weights
reply-reply-requires-clause-weights g c =
    let matrix : IsMatrix c.args.self.now = subst IsMatrix c.self.view_is c.self.invariant in
    let m = c.args.self.now in
    let q : List ℕ = map g.R.Regret.number c.loop-round.regrets in
    let each : length q ≡ m.rows = ap length c.loop-round.invariant.regrets_are ∙ length-regrets_before m c.args.weight c.loop-round.round in
    record {
      each = ap length c.mix.ensures ∙ length-mixture_of c.args.weight q ∙ each;
      all = ap sum c.mix.ensures ∙ mixture-sum m.rows c.args.weight q each (omega (arith, matrix.shaped.some_row));
    }

pub overflow_add-counts : goal.overflow_add-counts
overflow_add-counts g c =
    let room = counts-room c.args.self.now c.args.weight c.loop-round.round c.reply-reply.result.col (map g.R.Regret.number c.loop-round.regrets)
    (g.R.Regret.number c.loop-round.all) c.loop-round.counts c.loop-round.best (to_z w64 c.loop-round.low-bits) c.loop-round.invariant c.reply-reply.ensures.col_in in
    omega (arith, room)

pub raise-all-requires-clause-held : goal.raise-all-requires-clause-held
raise-all-requires-clause-held g c =
    let matrix : IsMatrix c.args.self.now = subst IsMatrix c.self.view_is c.self.invariant in
    let room = regrets-room c.args.self.now c.args.weight c.loop-round.round g.R.Regret.limit matrix.shaped c.requires.room (omega arith) in
    omega (arith, room, ap sum c.loop-round.invariant.regrets_are)

pub raise-all-requires-clause-room : goal.raise-all-requires-clause-room
raise-all-requires-clause-room g c =
    let m = c.args.self.now in
    let w = c.args.weight in
    let t = c.loop-round.round in
    let q : List ℕ = map g.R.Regret.number c.loop-round.regrets in
    let matrix : IsMatrix m = subst IsMatrix c.self.view_is c.self.invariant in
    let next = raised_regrets m w q c.reply-reply.result.col c.reply-reply.result.paid in
    let round : IsRound m w t q next c.mix.new.p c.reply-reply.result.col c.reply-reply.result.paid =
    round_is m w t q next c.mix.new.p c.reply-reply.result.col c.reply-reply.result.paid c.loop-round.invariant.regrets_are c.mix.ensures c.reply-reply.ensures.col c.reply-reply.ensures.paid refl in
    omega (arith, ap sum round.regrets_are, regrets-room m w (t + 1) g.R.Regret.limit matrix.shaped c.requires.room (omega arith))

pub loop-round-preserved : goal.loop-round-preserved
loop-round-preserved g c =
    let m = c.args.self.now in
    let w = c.args.weight in
    let t = c.loop-round.round in
    let q : List ℕ = map g.R.Regret.number c.loop-round.regrets in
    let all = g.R.Regret.number c.loop-round.all in
    let next : List ℕ = map g.R.Regret.number c.raise-all.new.regrets in
    let next_all = g.R.Regret.number c.raise-all.result in
    let matrix : IsMatrix m = subst IsMatrix c.self.view_is c.self.invariant in
    let reply = c.reply-reply.result.col in
    let paid = c.reply-reply.result.paid in
    let low = to_z w64 c.loop-round.low-bits in
    let fits : FitsSigned w64 paid = omega (arith, ints) in
    let paid_read = to_z-of_z w64 paid fits in
    let counts = set c.loop-round.counts reply (get_or c.loop-round.counts reply 0 + 1) in
    let round : IsRound m w t q next c.mix.new.p reply paid =
    round_is m w t q next c.mix.new.p reply paid c.loop-round.invariant.regrets_are c.mix.ensures c.reply-reply.ensures.col c.reply-reply.ensures.paid c.raise-all.ensures.regrets in
    elim c.if-round-eq0.branch [
      | then-round-eq0 v ↦
          let better : (t ≡ 0) ⊎ (low <ℤ paid) =
          elim v.then-round-eq0.branch [
            | then-round-eq0-via-then-round-eq0 u ↦ inl (omega (arith, u.if-round-eq0.true))
            | then-round-eq0-via-else-round-eq0+then-low-reply u ↦ inr (let h = u.if-low-reply.true in omega (arith, ints))
          ] in
          same_before m w (t + 1) next next_all counts c.mix.new.p c.if-round-eq0.best paid (to_z w64 c.if-round-eq0.low-bits) (v.best-is ∙ v.copy_from_slice.ensures.after) (v.low-is ∙ paid_read)
          (round_takes m w t q all c.loop-round.counts c.loop-round.best next next_all c.mix.new.p low paid reply matrix.shaped c.loop-round.invariant round c.raise-all.ensures.all better)
      | else-round-eq0+else-low-reply v ↦
          let worse : paid ≤ℤ low = let h = v.if-low-reply.false in omega (arith, ints) in
          same_before m w (t + 1) next next_all counts c.loop-round.best c.if-round-eq0.best low (to_z w64 c.if-round-eq0.low-bits) v.best-is v.low-is
          (round_keeps m w t q all c.loop-round.counts c.loop-round.best next next_all c.mix.new.p low paid reply matrix.shaped c.loop-round.invariant round c.raise-all.ensures.all
          (let h = v.if-round-eq0.false in omega arith) worse)
    ]

pub returns-clause-best : goal.returns-clause-best
returns-clause-best g c =
    let m = c.args.self.now in
    let w = c.args.weight in
    let end : c.loop-round.round ≡ w = omega arith in
    c.loop-round.invariant.best_is (omega arith) ∙ ap (λ t. mixture_before m w (first_greatest t (floor_before m w))) end ∙ sym (best_mixture_is m w (omega arith))

pub returns-clause-counts : goal.returns-clause-counts
returns-clause-counts g c =
    let m = c.args.self.now in
    let w = c.args.weight in
    let end : c.loop-round.round ≡ w = omega arith in
    reply_counts_are m w c.loop-round.counts c.loop-round.invariant.counts_each (λ b h. c.loop-round.invariant.counts_are b h ∙ ap (λ t. count_of t (reply_before m w) b) end)
