use Rattle.std.proofs.Common.{rules, true, Err, Some, ◌≡◌, ◌-◌, ◌<◌, ◌≤◌, ℕ, w64, ℤ, pos, ◌+ℤ◌, ◌-ℤ◌, ◌*ℤ◌, to_z, of_z, SFits, refl, sym, ap, subst, ◌∙◌, arith}
use Rattle.std.proofs.lemmas.Int.{ints, to_z-of_z}
use Rattle.sums.specs.Sums.{sum_below, count_below}
use Rattle.sim_game.specs.Model.{IsTurn, Reachable, LeadsTo}
use Rattle.sim_game.specs.Sides.{other_side, opening_bound, turn_of, draws_of, child_of, chance_of, better, turn_reward, after_reward}
use Rattle.sim_game.proofs.RewardLemmas.{reward_small}
use Rattle.sim_game.proofs.SideLemmas.{add_less, side_turn}
use Rattle.plan_book.specs.Serial.{tree_size}
use Rattle.plan_book.specs.Steps.{rounded}
use Rattle.bounds_board.specs.Views.{WasFull}
use Rattle.serial_ab.specs.Counts.{WasCut}
use Rattle.serial_ab.specs.Transpositions.{AreRemembered}
use Rattle.serial_ab.specs.Values.{turn_value, pair_value, pair_nodes, move_nodes, inner_nodes}
use Rattle.serial_ab.specs.Searches.{IsSerialKept, IsWindow, IsReplied, IsFound, IsMoveFound, IsPairFound, IsGoodNumber}
use Rattle.serial_ab.proofs.CountLemmas.{counts_none, counts_after, cut_after}
use Rattle.serial_ab.proofs.DrawLemmas.{product_fits, added_fits, added_is, good_more, sum_low}
use Rattle.serial_ab.proofs.KeptLemmas.{kept_none, kept_after, kept_counted, kept_quiet, kept_posted, part_kept, part_more, part_cut, stops_below, stops_more, ends_more, ok_more}
use Rattle.serial_ab.proofs.SearchLemmas.{MovesSoFar, RepliesSoFar, moves_start, move_window, pair_window, moves_stop, moves_more, moves_end, replies_start}
use Rattle.serial_ab.proofs.SearchLemmas.{replies_stop, replies_more, replies_end, pair_one, pair_several, whole_window, whole_range, turn_window, range_small, found_end}
use Rattle.serial_ab.proofs.TableLemmas.{remembered_later, remembered_more, recall_ends, cut_more}
use Rattle.serial_ab.proofs.ValueLemmas.{tree_moves, child_is, child_lower, some_draws, full_below}
use Rattle.serial_ab.proofs.search.+serial.Given as given
use Rattle.serial_ab.proofs.search.+serial.Goals as goal
use Rattle.serial_ab.proofs.search.+serial.Goals.{search_draws-After-drawn-child, search_draws-After-turn_reward, search_draws-After-chance, search_move-After-is_tighter}
use Rattle.serial_ab.proofs.search.+serial.Goals.{search_moves-After-is_tighter, search_pair-After-drawn-child, search_pair-After-turn_reward-reward, search_inner-After-recall}

-- ---- the draws of a pair of moves
-- the draw and its state
drawn : (g : given.Over) (t : ℕ) (c : search_draws-After-drawn-child g t) → let m = g.G.Game.model c.args.task.now.game in
    (c.loop-d.d < draws_of m c.args.task.now.side c.args.s c.args.own c.args.reply)
    × (c.drawn-child.result ≡ child_of m c.args.task.now.side c.args.s c.args.own c.args.reply c.loop-d.d)
drawn g t c = (rw (← c.requires.draws) c.loop-d-test.true, rw (c.move_of_one-one.ensures, c.move_of_two-two.ensures) at c.drawn-child.ensures)

-- the turn by the draw
turn_by : (g : given.Over) (t : ℕ) (c : search_draws-After-drawn-child g t) → let m = g.G.Game.model c.args.task.now.game in
    IsTurn m c.args.s (turn_of c.args.task.now.side c.args.own c.args.reply c.loop-d.d)
turn_by g t c =
    side_turn (g.G.Game.model c.args.task.now.game) c.args.task.now.side c.args.s c.args.own c.args.reply c.loop-d.d c.requires.own_move c.requires.reply (drawn g t c).0

-- what was found at the state that follows
below : (g : given.Over) (t : ℕ) (c : search_draws-After-turn_reward g t) → let m = g.G.Game.model c.args.task.now.game in let child =
    child_of m c.args.task.now.side c.args.s c.args.own c.args.reply c.loop-d.d in
    IsFound m c.args.task.now.side child (opening_bound m c.args.task.now.side) (opening_bound m (other_side c.args.task.now.side)) (g.B.Bounds.view c.search_state.new.board) c.in_ok-found.found
    × (c.turn_reward.result ≡ turn_reward m c.args.task.now.side c.args.s c.args.own c.args.reply c.loop-d.d)
    × Reachable m child
below g t c =
    let m = g.G.Game.model c.args.task.now.game in
    let d = drawn g t (goal.at.search_draws-After-turn_reward g t c).After-drawn-child in
    let fo : SFits w64 c.opening_bound.result = search rules in
    let fp : SFits w64 c.opening_bound-2.result = search rules in (
      rw (to_z-of_z w64 c.opening_bound.result fo, to_z-of_z w64 c.opening_bound-2.result fp, c.opening_bound.ensures, c.opening_bound-2.ensures, c.other.ensures, d.1)
          at c.in_ok-found.ensures.ends.ends,
      rw (c.move_of_one-one.ensures, c.move_of_two-two.ensures) at c.turn_reward.ensures,
      child_is m (g.met.G.Game.lawful c.args.task.now.game) c.args.task.now.side c.args.s c.args.own c.args.reply c.loop-d.d c.requires.here.reachable
          c.requires.own_move c.requires.reply d.0,
    )

-- the chance of the draw and the number of its turn
number : (g : given.Over) (t : ℕ) (c : search_draws-After-chance g t) → let m = g.G.Game.model c.args.task.now.game in
    (c.loop-d.d < draws_of m c.args.task.now.side c.args.s c.args.own c.args.reply)
    × (c.chance.result ≡ chance_of m c.args.task.now.side c.args.s c.args.own c.args.reply c.loop-d.d)
    × (c.with_reward-number.result ≡ turn_value m c.args.task.now.side c.args.s c.args.own c.args.reply c.loop-d.d)
    × after_reward m c.args.task.now.side c.args.s c.args.own c.args.reply c.loop-d.d (IsGoodNumber m c.args.task.now.side (g.B.Bounds.view c.search_state.new.board)) c.with_reward-number.result
number g t c =
    let m = g.G.Game.model c.args.task.now.game in
    let at : c.loop-d.d < draws_of m c.args.task.now.side c.args.s c.args.own c.args.reply = rw (← c.requires.draws) c.loop-d-test.true in
    let child = child_of m c.args.task.now.side c.args.s c.args.own c.args.reply c.loop-d.d in
    let v = g.B.Bounds.view c.search_state.new.board in
    let b = below g t (goal.at.search_draws-After-chance g t c).After-turn_reward in
    let fr : SFits w64 c.turn_reward.result = search rules in
    let fx : SFits w64 c.in_ok-found.found = search rules in
    let pay : ℤ = turn_reward m c.args.task.now.side c.args.s c.args.own c.args.reply c.loop-d.d in
    let sum : c.with_reward-number.result ≡ pay +ℤ c.in_ok-found.found = rw (to_z-of_z w64 c.turn_reward.result fr, to_z-of_z w64 c.in_ok-found.found fx, b.1) at c.with_reward-number.ensures in
    let is = whole_range m (g.met.G.Game.lawful c.args.task.now.game) c.args.task.now.side child v c.in_ok-found.found b.2 b.0 c.requires.wide in (
      at,
      rw (c.move_of_one-one.ensures, c.move_of_two-two.ensures) at c.chance.ensures,
      sum ∙ ap (λ (x : ℤ). pay +ℤ x) is.0,
      subst (IsGoodNumber m c.args.task.now.side v child) (sym (ap (λ (x : ℤ). x -ℤ pay) sum ∙ add_less pay c.in_ok-found.found)) is.1,
    )

pub search_draws-with_reward-number-requires : goal.search_draws-with_reward-number-requires
search_draws-with_reward-number-requires g t c =
    let m = g.G.Game.model c.args.task.now.game in
    let game = g.met.G.Game.lawful c.args.task.now.game in
    let here = goal.at.search_draws-with_reward-number-requires g t c in
    let b = below g t here.After-turn_reward in
    let fr : SFits w64 c.turn_reward.result = search rules in
    let fx : SFits w64 c.in_ok-found.found = search rules in
    rw (to_z-of_z w64 c.turn_reward.result fr, to_z-of_z w64 c.in_ok-found.found fx, b.1) (record {
      reward = reward_small m game c.args.task.now.side c.args.s c.args.own c.args.reply c.loop-d.d c.requires.here.reachable (turn_by g t here.After-drawn-child);
      found = range_small m game c.args.task.now.side _ c.in_ok-found.found b.2 b.0.range;
    })

pub search_draws-loop-d-init : goal.search_draws-loop-d-init
search_draws-loop-d-init g t c = record {
  kept = kept_none;
  same_limit = refl;
  remembered = c.requires.here.remembered;
  below = λ some. absurd (omega arith);
  summed = refl;
  good = λ d h. absurd (omega arith);
}

pub search_draws-search_state-requires : goal.search_draws-search_state-requires
search_draws-search_state-requires g t c =
    let m = g.G.Game.model c.args.task.now.game in
    let game = g.met.G.Game.lawful c.args.task.now.game in
    let d = drawn g t (goal.at.search_draws-search_state-requires g t c).After-drawn-child in
    let fo : SFits w64 c.opening_bound.result = search rules in
    let fp : SFits w64 c.opening_bound-2.result = search rules in
    let reach : Reachable m c.drawn-child.result = rw d.1 (child_is m game c.args.task.now.side c.args.s c.args.own c.args.reply c.loop-d.d c.requires.here.reachable c.requires.own_move
    c.requires.reply d.0) in
    let lower : m.rank c.drawn-child.result < m.rank c.args.s =
    rw d.1 (child_lower m game c.args.task.now.side c.args.s c.args.own c.args.reply c.loop-d.d c.requires.here.reachable c.requires.own_move c.requires.reply d.0) in
    let window : IsWindow m c.args.task.now.side c.drawn-child.result (to_z w64 (of_z w64 c.opening_bound.result)) (to_z w64 (of_z w64 c.opening_bound-2.result)) =
    rw (to_z-of_z w64 c.opening_bound.result fo, to_z-of_z w64 c.opening_bound-2.result fp, c.opening_bound.ensures, c.opening_bound-2.ensures, c.other.ensures)
    (whole_window m game c.args.task.now.side c.drawn-child.result reach c.requires.wide) in
    search rules

pub search_draws-chance-requires-clause-one : goal.search_draws-chance-requires-clause-one
search_draws-chance-requires-clause-one g t c =
    let turn = turn_by g t (goal.at.search_draws-chance-requires-clause-one g t c).After-drawn-child in
    rw c.move_of_one-one.ensures turn.one_below

pub search_draws-chance-requires-clause-two : goal.search_draws-chance-requires-clause-two
search_draws-chance-requires-clause-two g t c =
    let turn = turn_by g t (goal.at.search_draws-chance-requires-clause-two g t c).After-drawn-child in
    rw c.move_of_two-two.ensures turn.two_below

pub search_draws-overflow_mul-sum : goal.search_draws-overflow_mul-sum
search_draws-overflow_mul-sum g t c =
    let n = number g t (goal.at.search_draws-overflow_mul-sum g t c).After-chance in
    product_fits (g.G.Game.model c.args.task.now.game) (g.met.G.Game.lawful c.args.task.now.game) c.args.task.now.side c.args.s c.args.own c.args.reply c.requires.here.reachable
    c.requires.own_move c.requires.reply c.loop-d.d n.0 c.chance.result n.1 c.with_reward-number.result n.2

pub search_draws-overflow_add-sum : goal.search_draws-overflow_add-sum
search_draws-overflow_add-sum g t c =
    let n = number g t (goal.at.search_draws-overflow_add-sum g t c).After-chance in
    added_fits (g.G.Game.model c.args.task.now.game) (g.met.G.Game.lawful c.args.task.now.game) c.args.task.now.side c.args.s c.args.own c.args.reply c.requires.here.reachable
    c.requires.own_move c.requires.reply c.loop-d.d n.0 c.chance.result n.1 c.with_reward-number.result n.2 (to_z w64 c.loop-d.sum-bits) c.loop-d.invariant.summed

pub search_draws-returns-in_err-found : goal.search_draws-returns-in_err-found
search_draws-returns-in_err-found g t c =
    let m = g.G.Game.model c.args.task.now.game in
    let d = drawn g t (goal.at.search_draws-returns-in_err-found g t c).After-drawn-child in
    let nodes = λ (d : ℕ). tree_size m (child_of m c.args.task.now.side c.args.s c.args.own c.args.reply d) in
    let stopped : c.from_residual.result ≡ Err c.in_err-found.field-0.0 = search rules in
    λ floor ceiling. record {
      kept = part_kept nodes c.loop-d.d (draws_of m c.args.task.now.side c.args.s c.args.own c.args.reply) c.loop-d.invariant.kept d.0 (rw d.1 at c.search_state.ensures.ends.kept);
      same_limit = c.search_state.ensures.ends.same_limit ∙ c.loop-d.invariant.same_limit;
      remembered = c.search_state.ensures.ends.remembered;
      ends = rw stopped (stops_below (WasFull m (g.B.Bounds.view c.search_state.new.board) (LeadsTo m c.drawn-child.result))
          (WasFull m (g.B.Bounds.view c.search_state.new.board) (LeadsTo m c.args.s)) c.in_err-found.field-0.0
          (λ (cut : WasCut c.args.task.now.may_stop c.args.task.now.side (tree_size m c.drawn-child.result) c.loop-d.worker.visits c.search_state.new.worker.visits).
          part_cut nodes c.loop-d.d (draws_of m c.args.task.now.side c.args.s c.args.own c.args.reply) c.loop-d.invariant.kept d.0 (rw d.1 at cut))
          (λ (full : WasFull m (g.B.Bounds.view c.search_state.new.board) (LeadsTo m c.drawn-child.result)). full_below m (g.met.G.Game.lawful c.args.task.now.game)
          (g.B.Bounds.view c.search_state.new.board) c.args.task.now.side c.args.s c.args.own c.args.reply c.loop-d.d c.requires.own_move c.requires.reply d.0 (rw d.1 at full))
          c.in_err-found.ensures.ends.ends);
      below = search rules;
    }

pub search_draws-loop-d-preserved : goal.search_draws-loop-d-preserved
search_draws-loop-d-preserved g t c =
    let m = g.G.Game.model c.args.task.now.game in
    let game = g.met.G.Game.lawful c.args.task.now.game in
    let here = goal.at.search_draws-loop-d-preserved g t c in
    let d = drawn g t here.After-drawn-child in
    let n = number g t here.After-chance in
    record {
      below = λ _. let so_far = c.loop-d.invariant.kept.visits.rises in let now = c.in_ok-found.ensures.ends.below in omega (arith, so_far, now);
      kept = part_more (λ d. tree_size m (child_of m c.args.task.now.side c.args.s c.args.own c.args.reply d)) c.loop-d.d
          (draws_of m c.args.task.now.side c.args.s c.args.own c.args.reply) c.loop-d.invariant.kept (rw d.1 at c.search_state.ensures.ends.kept);
      same_limit = c.search_state.ensures.ends.same_limit ∙ c.loop-d.invariant.same_limit;
      remembered = c.search_state.ensures.ends.remembered;
      summed = added_is m game c.args.task.now.side c.args.s c.args.own c.args.reply c.requires.here.reachable c.requires.own_move c.requires.reply c.loop-d.d n.0 c.chance.result n.1
          c.with_reward-number.result n.2 (to_z w64 c.loop-d.sum-bits) c.loop-d.invariant.summed;
      good = good_more m game c.args.task.now.side c.args.s c.args.own c.args.reply c.requires.here.reachable c.requires.own_move c.requires.reply c.loop-d.d n.0 c.chance.result n.1
          c.with_reward-number.result n.2 (g.B.Bounds.view c.loop-d.board) (g.B.Bounds.view c.search_state.new.board) c.search_state.ensures.ends.kept.later c.loop-d.invariant.good n.3;
    }

pub search_draws-quotient-requires-clause-negatable : goal.search_draws-quotient-requires-clause-negatable
search_draws-quotient-requires-clause-negatable g t c =
    let m = g.G.Game.model c.args.task.now.game in
    let all : c.loop-d.d ≡ draws_of m c.args.task.now.side c.args.s c.args.own c.args.reply = omega (arith, c.requires.draws, c.loop-d-test.false, c.loop-d.auto.d-end) in
    let low = sum_low m (g.met.G.Game.lawful c.args.task.now.game) c.args.task.now.side c.args.s c.args.own c.args.reply c.requires.here.reachable c.requires.own_move c.requires.reply
    c.loop-d.d (omega arith) in
    rw c.loop-d.invariant.summed (omega (arith, ints))

pub search_draws-returns : goal.search_draws-returns
search_draws-returns g t c =
    let m = g.G.Game.model c.args.task.now.game in
    let game = g.met.G.Game.lawful c.args.task.now.game in
    let all : c.loop-d.d ≡ draws_of m c.args.task.now.side c.args.s c.args.own c.args.reply = omega (arith, c.requires.draws, c.loop-d-test.false, c.loop-d.auto.d-end) in
    let fm : SFits w64 c.quotient.result = search rules in
    let summed = c.loop-d.invariant.summed in
    let is : c.quotient.result ≡ pair_value m c.args.task.now.side c.args.s c.args.own c.args.reply =
    c.quotient.ensures ∙ ap (rounded c.args.task.now.side) (summed
    ∙ ap (λ (n : ℕ). sum_below n (λ d. pos (chance_of m c.args.task.now.side c.args.s c.args.own c.args.reply d) *ℤ turn_value m c.args.task.now.side
    c.args.s c.args.own c.args.reply d)) all) in
    let some = some_draws m game c.args.task.now.side c.args.s c.args.own c.args.reply c.requires.here.reachable c.requires.own_move c.requires.reply in
    λ floor ceiling. record {
      kept = subst (λ (n : ℕ). IsSerialKept m c.args.task.now.side (count_below n (λ d. tree_size m (child_of m c.args.task.now.side c.args.s c.args.own c.args.reply d)))
          (g.B.Bounds.view c.args.board.now) (g.B.Bounds.view c.loop-d.board) c.args.worker.now.visits c.loop-d.worker.visits) all c.loop-d.invariant.kept;
      same_limit = c.loop-d.invariant.same_limit;
      remembered = c.loop-d.invariant.remembered;
      ends = rw (to_z-of_z w64 c.quotient.result fm, is) (pair_several m game c.args.task.now.side c.args.s c.requires.here.reachable c.requires.here.goes_on c.args.own c.requires.own_move
          c.args.reply c.requires.reply floor ceiling (g.B.Bounds.view c.loop-d.board) (λ d h. c.loop-d.invariant.good d (omega arith)));
      below = c.loop-d.invariant.below (omega (arith, some, all));
    }

-- ---- the replies to an own move
-- the number of the reply, and the least so far with it
replied : (g : given.Over) (t : ℕ) (c : search_move-After-is_tighter g t) → let m = g.G.Game.model c.args.task.now.game in
    RepliesSoFar m c.args.task.now.side c.args.s c.args.own c.args.window.worse c.args.window.better c.loop-reply.reply (to_z w64 c.loop-reply.least-bits)
    (g.B.Bounds.view c.loop-reply.board)
    × IsPairFound m c.args.task.now.side c.args.s c.args.own c.loop-reply.reply c.args.window.worse
    (better (other_side c.args.task.now.side) c.args.window.better (to_z w64 c.loop-reply.least-bits)) (g.B.Bounds.view c.search_pair.new.board) c.in_ok-found.found
    × (to_z w64 (of_z w64 c.better-least.result) ≡ better (other_side c.args.task.now.side) (to_z w64 c.loop-reply.least-bits) c.in_ok-found.found)
replied g t c =
    let ff : SFits w64 c.args.window.worse = search rules in
    let fb : SFits w64 c.args.window.better = search rules in
    let fc : SFits w64 c.better.result = search rules in
    let fl : SFits w64 c.better-least.result = search rules in
    let fx : SFits w64 c.in_ok-found.found = search rules in
    let ceiling = rw c.other-in-loop-reply.ensures at (simp to_z-of_z at c.better.ensures) in (
      c.loop-reply.invariant.so_far,
      rw (to_z-of_z w64 c.args.window.worse ff, to_z-of_z w64 c.better.result fc, ceiling) at c.in_ok-found.ensures.ends,
      to_z-of_z w64
          c.better-least.result fl ∙ (rw c.other-in-loop-reply-2.ensures at (simp to_z-of_z at c.better-least.ensures)),
    )

pub search_move-loop-reply-init : goal.search_move-loop-reply-init
search_move-loop-reply-init g t c =
    let fo : SFits w64 c.better-highest.result = search rules in
    let fa : SFits w64 c.state_bound-all.result = search rules in
    let fb : SFits w64 c.args.window.better = search rules in
    let highest = simp to_z-of_z at c.better-highest.ensures in
    rw (to_z-of_z w64 c.better-highest.result fo, highest, c.state_bound-all.ensures, c.other.ensures) (record {
      kept = kept_none;
      same_limit = refl;
      remembered = c.requires.here.remembered;
      below = λ some. absurd (omega arith);
      so_far = replies_start (g.G.Game.model c.args.task.now.game) (g.met.G.Game.lawful c.args.task.now.game) c.args.task.now.side c.args.s c.requires.here.reachable c.requires.here.goes_on
          c.args.own c.requires.own_move c.args.window.worse c.args.window.better (g.B.Bounds.view c.args.board.now) c.requires.window;
    })

pub search_move-search_pair-requires : goal.search_move-search_pair-requires
search_move-search_pair-requires g t c =
    let m = g.G.Game.model c.args.task.now.game in
    let ff : SFits w64 c.args.window.worse = search rules in
    let fb : SFits w64 c.args.window.better = search rules in
    let fc : SFits w64 c.better.result = search rules in
    let so_far = c.loop-reply.invariant.so_far in
    let ceiling = rw c.other-in-loop-reply.ensures at (simp to_z-of_z at c.better.ensures) in
    let window : IsWindow m c.args.task.now.side c.args.s (to_z w64 (of_z w64 c.args.window.worse)) (to_z w64 (of_z w64 c.better.result)) =
    rw (to_z-of_z w64 c.args.window.worse ff, to_z-of_z w64 c.better.result fc, ceiling)
    (pair_window m c.args.task.now.side c.args.s c.args.window.worse c.args.window.better (to_z w64 c.loop-reply.least-bits) c.requires.window so_far.wide so_far.near) in
    search rules

pub search_move-returns-then-not-is_tighter : goal.search_move-returns-then-not-is_tighter
search_move-returns-then-not-is_tighter g t c =
    let fit_worse : SFits w64 c.args.window.worse = search rules in
    let m = g.G.Game.model c.args.task.now.game in
    let at : c.loop-reply.reply < m.moves (other_side c.args.task.now.side) c.args.s = rw (← c.other-2.ensures, ← c.moves-reply-end.ensures) c.loop-reply-test.true in
    let r = replied g t (goal.at.search_move-returns-then-not-is_tighter g t c).After-is_tighter in
    let test = rw (r.2, to_z-of_z w64 c.args.window.worse fit_worse) at c.if-not-is_tighter.ensures in
    record {
      kept = part_kept (pair_nodes m c.args.task.now.side c.args.s c.args.own) c.loop-reply.reply (m.moves (other_side c.args.task.now.side) c.args.s) c.loop-reply.invariant.kept
          at c.search_pair.ensures.kept;
      same_limit = c.search_pair.ensures.same_limit ∙ c.loop-reply.invariant.same_limit;
      remembered = c.search_pair.ensures.remembered;
      ends = rw r.2 (replies_stop m (g.met.G.Game.lawful c.args.task.now.game) c.args.task.now.side c.args.s c.requires.here.reachable c.requires.here.goes_on c.args.own
          c.requires.own_move c.args.window.worse c.args.window.better c.loop-reply.reply at (to_z w64 c.loop-reply.least-bits) c.in_ok-found.found
          (g.B.Bounds.view c.loop-reply.board) (g.B.Bounds.view c.search_pair.new.board) c.search_pair.ensures.kept.later r.0 r.1 test);
      below = let so_far = c.loop-reply.invariant.kept.visits.rises in let now = c.in_ok-found.ensures.below in omega (arith, so_far, now);
    }

pub search_move-returns-in_err-found : goal.search_move-returns-in_err-found
search_move-returns-in_err-found g t c =
    let m = g.G.Game.model c.args.task.now.game in
    let at : c.loop-reply.reply < m.moves (other_side c.args.task.now.side) c.args.s = rw (← c.other-2.ensures, ← c.moves-reply-end.ensures) c.loop-reply-test.true in
    let stopped : c.from_residual.result ≡ Err c.in_err-found.field-0.0 = search rules in
    record {
      kept = part_kept (pair_nodes m c.args.task.now.side c.args.s c.args.own) c.loop-reply.reply (m.moves (other_side c.args.task.now.side) c.args.s) c.loop-reply.invariant.kept
          at c.search_pair.ensures.kept;
      same_limit = c.search_pair.ensures.same_limit ∙ c.loop-reply.invariant.same_limit;
      remembered = c.search_pair.ensures.remembered;
      ends = rw stopped (stops_more (WasFull m (g.B.Bounds.view c.search_pair.new.board) (LeadsTo m c.args.s)) c.in_err-found.field-0.0
          (part_cut (pair_nodes m c.args.task.now.side c.args.s c.args.own) c.loop-reply.reply (m.moves (other_side c.args.task.now.side) c.args.s) c.loop-reply.invariant.kept
          at) c.in_err-found.ensures.ends);
      below = search rules;
    }

pub search_move-loop-reply-preserved : goal.search_move-loop-reply-preserved
search_move-loop-reply-preserved g t c =
    let fit_worse : SFits w64 c.args.window.worse = search rules in
    let fit_better : SFits w64 c.args.window.better = search rules in
    let m = g.G.Game.model c.args.task.now.game in
    let at : c.loop-reply.reply < m.moves (other_side c.args.task.now.side) c.args.s = rw (← c.other-2.ensures, ← c.moves-reply-end.ensures) c.loop-reply-test.true in
    let r = replied g t (goal.at.search_move-loop-reply-preserved g t c).After-is_tighter in
    let test = rw (r.2, to_z-of_z w64 c.args.window.worse fit_worse) at c.if-not-is_tighter.ensures in
    rw r.2 (record {
      below = λ _. let so_far = c.loop-reply.invariant.kept.visits.rises in let now = c.in_ok-found.ensures.below in omega (arith, so_far, now);
      kept = part_more (pair_nodes m c.args.task.now.side c.args.s c.args.own) c.loop-reply.reply (m.moves (other_side c.args.task.now.side) c.args.s) c.loop-reply.invariant.kept
          c.search_pair.ensures.kept;
      same_limit = c.search_pair.ensures.same_limit ∙ c.loop-reply.invariant.same_limit;
      remembered = c.search_pair.ensures.remembered;
      so_far = replies_more m (g.met.G.Game.lawful c.args.task.now.game) c.args.task.now.side c.args.s c.requires.here.reachable c.requires.here.goes_on c.args.own c.requires.own_move
          c.args.window.worse c.args.window.better c.loop-reply.reply at (to_z w64 c.loop-reply.least-bits) c.in_ok-found.found (g.B.Bounds.view c.loop-reply.board)
          (g.B.Bounds.view c.search_pair.new.board) c.search_pair.ensures.kept.later r.0 r.1 test;
    })

pub search_move-post_move-requires-clause-step : goal.search_move-post_move-requires-clause-step
search_move-post_move-requires-clause-step g t c =
    let m = g.G.Game.model c.args.task.now.game in
    let all : c.loop-reply.reply ≡ m.moves (other_side c.args.task.now.side) c.args.s =
    rw (← c.other-2.ensures) (omega (arith, c.moves-reply-end.ensures, c.loop-reply-test.false, c.loop-reply.auto.reply-end)) in
    let so_far = c.loop-reply.invariant.so_far in
    record {
      own_move = c.requires.own_move;
      low = so_far.low;
      replied = subst (λ (n : ℕ). IsReplied m c.args.task.now.side c.args.s c.args.own n (g.B.Bounds.view c.loop-reply.board) (to_z w64 c.loop-reply.least-bits)) all
          so_far.replied;
    }

pub search_move-returns-in_err-post_move :
    goal.search_move-returns-in_err-post_move
search_move-returns-in_err-post_move g t c =
    let m = g.G.Game.model c.args.task.now.game in
    let all : c.loop-reply.reply ≡ m.moves (other_side c.args.task.now.side) c.args.s =
    rw (← c.other-2.ensures) (omega (arith, c.moves-reply-end.ensures, c.loop-reply-test.false, c.loop-reply.auto.reply-end)) in
    record {
      kept = kept_after {b = 0} c.loop-reply.invariant.kept (kept_posted c.post_move.ensures.later c.post_move.ensures.posted)
          (omega (arith, ap (λ (n : ℕ). count_below n (pair_nodes m c.args.task.now.side c.args.s c.args.own)) all));
      same_limit = c.loop-reply.invariant.same_limit;
      remembered = remembered_later c.post_move.ensures.later c.loop-reply.invariant.remembered;
      ends = search rules;
      below = search rules;
    }

pub search_move-returns : goal.search_move-returns
search_move-returns g t c =
    let m = g.G.Game.model c.args.task.now.game in
    let ff : SFits w64 c.args.window.worse = search rules in
    let fb : SFits w64 c.args.window.better = search rules in
    let all : c.loop-reply.reply ≡ m.moves (other_side c.args.task.now.side) c.args.s =
    rw (← c.other-2.ensures) (omega (arith, c.moves-reply-end.ensures, c.loop-reply-test.false, c.loop-reply.auto.reply-end)) in
    let so_far = subst (λ (n : ℕ). RepliesSoFar m c.args.task.now.side c.args.s c.args.own c.args.window.worse c.args.window.better n (to_z w64 c.loop-reply.least-bits)
    (g.B.Bounds.view c.loop-reply.board)) all c.loop-reply.invariant.so_far in
    record {
      kept = kept_after {b = 0} c.loop-reply.invariant.kept (kept_posted c.post_move.ensures.later c.post_move.ensures.posted)
          (omega (arith, ap (λ (n : ℕ). count_below n (pair_nodes m c.args.task.now.side c.args.s c.args.own)) all));
      same_limit = c.loop-reply.invariant.same_limit;
      remembered = remembered_later c.post_move.ensures.later c.loop-reply.invariant.remembered;
      ends = replies_end m (g.met.G.Game.lawful c.args.task.now.game) c.args.task.now.side c.args.s c.requires.here.reachable c.requires.here.goes_on c.args.own c.requires.own_move
          c.args.window.worse c.args.window.better (to_z w64 c.loop-reply.least-bits) (g.B.Bounds.view c.loop-reply.board) (g.B.Bounds.view c.post_move.new.board)
          so_far c.in_ok-post_move.ensures.seen;
      below = let some = (g.met.G.Game.lawful c.args.task.now.game).other_moves (other_side c.args.task.now.side) c.args.s c.requires.here.reachable c.requires.here.goes_on in
          c.loop-reply.invariant.below (omega (arith, all, some));
    }

-- ---- the moves of a state
-- the number of the move, and the best so far with it
moved : (g : given.Over) (t : ℕ) (c : search_moves-After-is_tighter g t) → let m = g.G.Game.model c.args.task.now.game in
    MovesSoFar m c.args.task.now.side c.args.s c.args.window.worse c.args.window.better c.loop-own.own (to_z w64 c.loop-own.value-bits) (g.B.Bounds.view c.loop-own.board)
    × IsMoveFound m c.args.task.now.side c.args.s c.loop-own.own (better c.args.task.now.side (to_z w64 c.loop-own.value-bits) c.args.window.worse) c.args.window.better
    (g.B.Bounds.view c.search_move.new.board) c.in_ok-found.found
    × (to_z w64 (of_z w64 c.better-value.result) ≡ better c.args.task.now.side (to_z w64 c.loop-own.value-bits) c.in_ok-found.found)
moved g t c =
    let fw : SFits w64 c.args.window.worse = search rules in
    let fb : SFits w64 c.args.window.better = search rules in
    let ff : SFits w64 c.better.result = search rules in
    let fv : SFits w64 c.better-value.result = search rules in
    let fx : SFits w64 c.in_ok-found.found = search rules in
    let floor = simp to_z-of_z at c.better.ensures in (
      c.loop-own.invariant.so_far,
      rw (to_z-of_z w64 c.better.result ff, to_z-of_z w64 c.args.window.better fb, floor) at c.in_ok-found.ensures.ends,
      to_z-of_z w64
          c.better-value.result fv ∙ (simp to_z-of_z at c.better-value.ensures),
    )

pub search_moves-loop-own-init : goal.search_moves-loop-own-init
search_moves-loop-own-init g t c =
    let fo : SFits w64 c.better-lowest.result = search rules in
    let fa : SFits w64 c.state_bound-all.result = search rules in
    let fw : SFits w64 c.args.window.worse = search rules in
    let lowest = simp to_z-of_z at c.better-lowest.ensures in
    rw (to_z-of_z w64 c.better-lowest.result fo, lowest, c.state_bound-all.ensures, c.other.ensures) (record {
      kept = kept_none;
      same_limit = refl;
      remembered = c.requires.here.remembered;
      below = λ some. absurd (omega arith);
      so_far = moves_start (g.G.Game.model c.args.task.now.game) (g.met.G.Game.lawful c.args.task.now.game) c.args.task.now.side c.args.s c.requires.here.reachable c.requires.here.goes_on
          c.args.window.worse c.args.window.better (g.B.Bounds.view c.args.board.now) c.requires.window c.requires.row.opened;
    })

pub search_moves-search_move-requires : goal.search_moves-search_move-requires
search_moves-search_move-requires g t c =
    let m = g.G.Game.model c.args.task.now.game in
    let fw : SFits w64 c.args.window.worse = search rules in
    let fb : SFits w64 c.args.window.better = search rules in
    let ff : SFits w64 c.better.result = search rules in
    let so_far = c.loop-own.invariant.so_far in
    let floor = simp to_z-of_z at c.better.ensures in
    let window : IsWindow m c.args.task.now.side c.args.s (to_z w64 (of_z w64 c.better.result)) (to_z w64 (of_z w64 c.args.window.better)) =
    rw (to_z-of_z w64 c.better.result ff, to_z-of_z w64 c.args.window.better fb, floor)
    (move_window m c.args.task.now.side c.args.s c.args.window.worse c.args.window.better (to_z w64 c.loop-own.value-bits) c.requires.window so_far.wide so_far.near) in
    let here : c.loop-own.own < m.moves c.args.task.now.side c.args.s = rw (← c.moves-own-end.ensures) c.loop-own-test.true in
    let row : (g.B.Bounds.view c.loop-own.board).key_at c.args.row ≡ Some (m.key c.args.s) = c.loop-own.invariant.kept.later.keys c.args.row _ c.requires.row.has_key in
    search rules

pub search_moves-returns-then-not-is_tighter : goal.search_moves-returns-then-not-is_tighter
search_moves-returns-then-not-is_tighter g t c =
    let fit_better : SFits w64 c.args.window.better = search rules in
    let m = g.G.Game.model c.args.task.now.game in
    let at : c.loop-own.own < m.moves c.args.task.now.side c.args.s = rw (← c.moves-own-end.ensures) c.loop-own-test.true in
    let r = moved g t (goal.at.search_moves-returns-then-not-is_tighter g t c).After-is_tighter in
    let test = rw (to_z-of_z w64 c.args.window.better fit_better, r.2) at c.if-not-is_tighter.ensures in
    record {
      kept = part_kept (move_nodes m c.args.task.now.side c.args.s) c.loop-own.own (m.moves c.args.task.now.side c.args.s) c.loop-own.invariant.kept at
          c.search_move.ensures.kept;
      same_limit = c.search_move.ensures.same_limit ∙ c.loop-own.invariant.same_limit;
      remembered = c.search_move.ensures.remembered;
      ends = rw r.2 (moves_stop m (g.met.G.Game.lawful c.args.task.now.game) c.args.task.now.side c.args.s c.requires.here.reachable c.requires.here.goes_on c.args.window.worse
          c.args.window.better c.loop-own.own at (to_z w64 c.loop-own.value-bits) c.in_ok-found.found (g.B.Bounds.view c.loop-own.board) (g.B.Bounds.view c.search_move.new.board)
          c.search_move.ensures.kept.later r.0 r.1 test);
      below = let so_far = c.loop-own.invariant.kept.visits.rises in let now = c.in_ok-found.ensures.below in omega (arith, so_far, now);
    }

pub search_moves-returns-in_err-found : goal.search_moves-returns-in_err-found
search_moves-returns-in_err-found g t c =
    let m = g.G.Game.model c.args.task.now.game in
    let at : c.loop-own.own < m.moves c.args.task.now.side c.args.s = rw (← c.moves-own-end.ensures) c.loop-own-test.true in
    let stopped : c.from_residual.result ≡ Err c.in_err-found.field-0.0 = search rules in
    record {
      kept = part_kept (move_nodes m c.args.task.now.side c.args.s) c.loop-own.own (m.moves c.args.task.now.side c.args.s) c.loop-own.invariant.kept at
          c.search_move.ensures.kept;
      same_limit = c.search_move.ensures.same_limit ∙ c.loop-own.invariant.same_limit;
      remembered = c.search_move.ensures.remembered;
      ends = rw stopped (stops_more (WasFull m (g.B.Bounds.view c.search_move.new.board) (LeadsTo m c.args.s)) c.in_err-found.field-0.0
          (part_cut (move_nodes m c.args.task.now.side c.args.s) c.loop-own.own (m.moves c.args.task.now.side c.args.s) c.loop-own.invariant.kept at)
          c.in_err-found.ensures.ends);
      below = search rules;
    }

pub search_moves-loop-own-preserved : goal.search_moves-loop-own-preserved
search_moves-loop-own-preserved g t c =
    let fit_worse : SFits w64 c.args.window.worse = search rules in
    let fit_better : SFits w64 c.args.window.better = search rules in
    let m = g.G.Game.model c.args.task.now.game in
    let at : c.loop-own.own < m.moves c.args.task.now.side c.args.s = rw (← c.moves-own-end.ensures) c.loop-own-test.true in
    let r = moved g t (goal.at.search_moves-loop-own-preserved g t c).After-is_tighter in
    let test = rw (to_z-of_z w64 c.args.window.better fit_better, r.2) at c.if-not-is_tighter.ensures in
    rw r.2 (record {
      below = λ _. let so_far = c.loop-own.invariant.kept.visits.rises in let now = c.in_ok-found.ensures.below in omega (arith, so_far, now);
      kept = part_more (move_nodes m c.args.task.now.side c.args.s) c.loop-own.own (m.moves c.args.task.now.side c.args.s) c.loop-own.invariant.kept
          c.search_move.ensures.kept;
      same_limit = c.search_move.ensures.same_limit ∙ c.loop-own.invariant.same_limit;
      remembered = c.search_move.ensures.remembered;
      so_far = moves_more m (g.met.G.Game.lawful c.args.task.now.game) c.args.task.now.side c.args.s c.requires.here.reachable c.requires.here.goes_on c.args.window.worse
          c.args.window.better c.loop-own.own at (to_z w64 c.loop-own.value-bits) c.in_ok-found.found (g.B.Bounds.view c.loop-own.board) (g.B.Bounds.view c.search_move.new.board)
          c.search_move.ensures.kept.later r.0 r.1 test;
    })

pub search_moves-returns : goal.search_moves-returns
search_moves-returns g t c =
    let m = g.G.Game.model c.args.task.now.game in
    let fw : SFits w64 c.args.window.worse = search rules in
    let fb : SFits w64 c.args.window.better = search rules in
    let so_far = c.loop-own.invariant.so_far in
    let all : c.loop-own.own ≡ m.moves c.args.task.now.side c.args.s = omega (arith, c.moves-own-end.ensures, c.loop-own-test.false, c.loop-own.auto.own-end) in
    let some = (g.met.G.Game.lawful c.args.task.now.game).other_moves c.args.task.now.side c.args.s c.requires.here.reachable c.requires.here.goes_on in
    record {
      kept = subst (λ (n : ℕ). IsSerialKept m c.args.task.now.side (count_below n (move_nodes m c.args.task.now.side c.args.s)) (g.B.Bounds.view c.args.board.now)
          (g.B.Bounds.view c.loop-own.board) c.args.worker.now.visits c.loop-own.worker.visits) all c.loop-own.invariant.kept;
      same_limit = c.loop-own.invariant.same_limit;
      remembered = c.loop-own.invariant.remembered;
      ends = moves_end m (g.met.G.Game.lawful c.args.task.now.game) c.args.task.now.side c.args.s c.requires.here.reachable c.requires.here.goes_on c.args.window.worse c.args.window.better
          (to_z w64 c.loop-own.value-bits) (g.B.Bounds.view c.loop-own.board)
          (subst (λ (n : ℕ). MovesSoFar m c.args.task.now.side c.args.s c.args.window.worse c.args.window.better n (to_z w64 c.loop-own.value-bits) (g.B.Bounds.view c.loop-own.board))
          all so_far);
      below = c.loop-own.invariant.below (omega (arith, some, all));
    }

-- ---- a pair of moves
-- its one draw and the state after it
alone : (g : given.Over) (t : ℕ) (c : search_pair-After-drawn-child g t) → let m = g.G.Game.model c.args.task.now.game in
    (draws_of m c.args.task.now.side c.args.s c.args.own c.args.reply ≡ 1) × (c.drawn-child.result ≡ child_of m c.args.task.now.side c.args.s c.args.own c.args.reply 0)
alone g t c = (
  (rw (c.move_of_one-one.ensures, c.move_of_two-two.ensures) at (sym c.draws-draws.ensures)) ∙ c.if-draws-ne1.false,
  rw (c.move_of_one-one.ensures, c.move_of_two-two.ensures) at c.drawn-child.ensures,
)

-- its turn and the reward
paid : (g : given.Over) (t : ℕ) (c : search_pair-After-turn_reward-reward g t) → let m = g.G.Game.model c.args.task.now.game in
    (0 < draws_of m c.args.task.now.side c.args.s c.args.own c.args.reply)
    × IsTurn m c.args.s (turn_of c.args.task.now.side c.args.own c.args.reply 0)
    × (to_z w64 (of_z w64 c.turn_reward-reward.result) ≡ turn_reward m c.args.task.now.side c.args.s c.args.own c.args.reply 0)
paid g t c =
    let m = g.G.Game.model c.args.task.now.game in
    let one = (alone g t (goal.at.search_pair-After-turn_reward-reward g t c).After-drawn-child).0 in
    let some : 0 < draws_of m c.args.task.now.side c.args.s c.args.own c.args.reply = omega (arith, one) in
    let fr : SFits w64 c.turn_reward-reward.result = search rules in (
      some,
      side_turn m c.args.task.now.side c.args.s c.args.own c.args.reply 0 c.requires.own_move c.requires.reply some,
      to_z-of_z w64 c.turn_reward-reward.result fr ∙ (rw (c.move_of_one-one.ensures, c.move_of_two-two.ensures) at c.turn_reward-reward.ensures),
    )

pub search_pair-window_after-after-requires : goal.search_pair-window_after-after-requires
search_pair-window_after-after-requires g t c =
    let p = paid g t (goal.at.search_pair-window_after-after-requires g t c).After-turn_reward-reward in
    record {
      worse = omega (arith, c.requires.window.from);
      better = omega (arith, c.requires.window.to);
      reward = rw p.2 (reward_small (g.G.Game.model c.args.task.now.game) (g.met.G.Game.lawful c.args.task.now.game) c.args.task.now.side c.args.s c.args.own c.args.reply 0
          c.requires.here.reachable p.1);
    }

pub search_pair-with_reward-requires : goal.search_pair-with_reward-requires
search_pair-with_reward-requires g t c =
    let m = g.G.Game.model c.args.task.now.game in
    let game = g.met.G.Game.lawful c.args.task.now.game in
    let here = goal.at.search_pair-with_reward-requires g t c in
    let one = alone g t here.After-drawn-child in
    let p = paid g t here.After-turn_reward-reward in
    let found = rw one.1 at c.in_ok-found.ensures.ends.ends in
    let fx : SFits w64 c.in_ok-found.found = search rules in
    rw (p.2, to_z-of_z w64 c.in_ok-found.found fx) (record {
      reward = reward_small m game c.args.task.now.side c.args.s c.args.own c.args.reply 0 c.requires.here.reachable p.1;
      found = range_small m game c.args.task.now.side _ c.in_ok-found.found
          (child_is m game c.args.task.now.side c.args.s c.args.own c.args.reply 0 c.requires.here.reachable c.requires.own_move c.requires.reply p.0) found.range;
    })

pub search_pair-returns-then-draws-ne1 :
    goal.search_pair-returns-then-draws-ne1
search_pair-returns-then-draws-ne1 g t c = c.search_draws.ensures c.args.window.worse c.args.window.better

pub search_pair-search_state-requires : goal.search_pair-search_state-requires
search_pair-search_state-requires g t c =
    let m = g.G.Game.model c.args.task.now.game in
    let game = g.met.G.Game.lawful c.args.task.now.game in
    let one = alone g t (goal.at.search_pair-search_state-requires g t c).After-drawn-child in
    let some : 0 < draws_of m c.args.task.now.side c.args.s c.args.own c.args.reply = omega (arith, one.0) in
    let reach : Reachable m c.drawn-child.result = rw one.1 (child_is m game c.args.task.now.side c.args.s c.args.own c.args.reply 0 c.requires.here.reachable c.requires.own_move
    c.requires.reply some) in
    let lower : m.rank c.drawn-child.result < m.rank c.args.s =
    rw one.1 (child_lower m game c.args.task.now.side c.args.s c.args.own c.args.reply 0 c.requires.here.reachable c.requires.own_move c.requires.reply some) in
    let p = paid g t (goal.at.search_pair-search_state-requires g t c).After-turn_reward-reward in
    let worse = rw p.2 at c.window_after-after.ensures.worse in
    let better = rw p.2 at c.window_after-after.ensures.better in
    let window : IsWindow m c.args.task.now.side c.drawn-child.result c.window_after-after.result.worse c.window_after-after.result.better =
    rw (one.1, worse, better) (turn_window m game c.args.task.now.side c.args.s c.args.own c.args.reply 0 c.args.window.worse c.args.window.better c.requires.here.reachable p.1 c.requires.window) in
    search rules

pub search_pair-returns : goal.search_pair-returns
search_pair-returns g t c =
    let m = g.G.Game.model c.args.task.now.game in
    let one = alone g t (goal.at.search_pair-returns g t c).After-drawn-child in
    let fx : SFits w64 c.in_ok-found.found = search rules in
    let fn : SFits w64 c.with_reward.result = search rules in
    let p = paid g t (goal.at.search_pair-returns g t c).After-turn_reward-reward in
    let worse = rw p.2 at c.window_after-after.ensures.worse in
    let better = rw p.2 at c.window_after-after.ensures.better in
    let found = rw (one.1, worse, better) at c.in_ok-found.ensures.ends.ends in
    let number = rw (p.2, to_z-of_z w64 c.in_ok-found.found fx) at c.with_reward.ensures in
    record {
      kept = kept_after {a = 0} kept_none (rw one.1 at c.search_state.ensures.ends.kept) (rw one.0 (omega arith));
      same_limit = c.search_state.ensures.ends.same_limit;
      remembered = c.search_state.ensures.ends.remembered;
      ends = rw (to_z-of_z w64 c.with_reward.result fn, number) (pair_one m (g.met.G.Game.lawful c.args.task.now.game) c.args.task.now.side c.args.s c.requires.here.reachable c.requires.here.goes_on
          c.args.own c.requires.own_move c.args.reply c.requires.reply c.args.window.worse c.args.window.better (g.B.Bounds.view c.search_state.new.board)
          c.in_ok-found.found one.0 found);
      below = c.in_ok-found.ensures.ends.below;
    }

pub search_pair-returns-in_err-found : goal.search_pair-returns-in_err-found
search_pair-returns-in_err-found g t c =
    let m = g.G.Game.model c.args.task.now.game in
    let one = alone g t (goal.at.search_pair-returns-in_err-found g t c).After-drawn-child in
    let stopped : c.from_residual.result ≡ Err c.in_err-found.field-0.0 = search rules in
    let some : 0 < draws_of m c.args.task.now.side c.args.s c.args.own c.args.reply = omega (arith, one.0) in
    record {
      kept = kept_after {a = 0} kept_none (rw one.1 at c.search_state.ensures.ends.kept) (rw one.0 (omega arith));
      same_limit = c.search_state.ensures.ends.same_limit;
      remembered = c.search_state.ensures.ends.remembered;
      ends = rw stopped (stops_below (WasFull m (g.B.Bounds.view c.search_state.new.board) (LeadsTo m c.drawn-child.result))
          (WasFull m (g.B.Bounds.view c.search_state.new.board) (LeadsTo m c.args.s)) c.in_err-found.field-0.0
          (λ (cut : WasCut c.args.task.now.may_stop c.args.task.now.side (tree_size m c.drawn-child.result) c.args.worker.now.visits c.search_state.new.worker.visits).
          rw one.0 (cut_after {a = 0} counts_none (omega arith) (rw one.1 at cut)))
          (λ (full : WasFull m (g.B.Bounds.view c.search_state.new.board) (LeadsTo m c.drawn-child.result)). full_below m (g.met.G.Game.lawful c.args.task.now.game)
          (g.B.Bounds.view c.search_state.new.board) c.args.task.now.side c.args.s c.args.own c.args.reply 0 c.requires.own_move c.requires.reply some (rw one.1 at full))
          c.in_err-found.ensures.ends.ends);
      below = search rules;
    }

-- ---- a state
pub search_state-returns-then-left-eq0-clause-ends :
    goal.search_state-returns-then-left-eq0-clause-ends
search_state-returns-then-left-eq0-clause-ends g t c = record {
  kept = kept_none;
  same_limit = refl;
  remembered = c.requires.here.remembered;
  ends = search rules;
  below = search rules;
}

pub search_state-returns-then-is_stopped-clause-ends :
    goal.search_state-returns-then-is_stopped-clause-ends
search_state-returns-then-is_stopped-clause-ends g t c =
    let tree = tree_moves (g.G.Game.model c.args.task.now.game) (g.met.G.Game.lawful c.args.task.now.game) c.args.task.now.side c.args.s c.requires.here.reachable in
    let allowed : c.args.task.now.may_stop ≡ true = c.if-is_stopped.ensures refl in
    record {
      kept = kept_after {a = 1} {b = 0} (kept_counted c.spend.ensures.counts) kept_none (omega arith);
      same_limit = refl;
      remembered = c.requires.here.remembered;
      ends = λ whole. absurd (cc);
      below = search rules;
    }

pub search_state-returns-then-rank-eq0-clause-ends :
    goal.search_state-returns-then-rank-eq0-clause-ends
search_state-returns-then-rank-eq0-clause-ends g t c =
    let m = g.G.Game.model c.args.task.now.game in
    let game = g.met.G.Game.lawful c.args.task.now.game in
    let tree = tree_moves m game c.args.task.now.side c.args.s c.requires.here.reachable in
    let fx : SFits w64 c.end_bound.result = search rules in
    let stop : m.rank c.args.s ≡ 0 = omega arith in
    record {
      kept = kept_after {a = 1} {b = 0} (kept_counted c.spend.ensures.counts) kept_none (omega arith);
      same_limit = refl;
      remembered = c.requires.here.remembered;
      ends = rw (to_z-of_z w64 c.end_bound.result fx, c.end_bound.ensures) (found_end m game c.args.task.now.side c.args.s c.args.window.worse c.args.window.better (g.B.Bounds.view c.args.board.now)
          c.requires.here.reachable stop);
      below = search rules;
    }

pub search_state-search_inner-requires : goal.search_state-search_inner-requires
search_state-search_inner-requires g t c =
    let m = g.G.Game.model c.args.task.now.game in
    let remembered : AreRemembered m (g.B.Bounds.view c.row_of.new.board) c.args.worker.now.table = remembered_later c.row_of.ensures.later c.requires.here.remembered in
    search rules

pub search_state-returns-in-Ok : goal.search_state-returns-in-Ok
search_state-returns-in-Ok g t c =
    let m = g.G.Game.model c.args.task.now.game in
    let tree = tree_moves m (g.met.G.Game.lawful c.args.task.now.game) c.args.task.now.side c.args.s c.requires.here.reachable in
    let ends = c.search_inner.ensures.ends in
    record {
      ends = record {
        kept = kept_after {a = 1} (kept_after {a = 1} {b = 0} (kept_counted c.spend.ensures.counts) (kept_quiet c.row_of.ensures.later c.row_of.ensures.entries) (omega arith))
            c.search_inner.ensures.kept (omega arith);
        same_limit = c.search_inner.ensures.same_limit;
        remembered = c.search_inner.ensures.remembered;
        ends = ends_more (IsFound m c.args.task.now.side c.args.s c.args.window.worse c.args.window.better (g.B.Bounds.view c.search_inner.new.board))
            (WasFull m (g.B.Bounds.view c.search_inner.new.board) (LeadsTo m c.args.s)) c.search_inner.result
            (cut_after {b = inner_nodes m c.args.task.now.side c.args.s} c.spend.ensures.counts (omega arith)) ends;
        below = ok_more c.search_inner.result (λ below. omega (arith, below)) c.search_inner.ensures.below;
      };
      none_left = search rules;
      entered = search rules;
      below = λ _. ok_more c.search_inner.result (λ below. let one = c.spend.ensures.one in omega (arith, one, below)) c.search_inner.ensures.below;
    }

pub search_state-returns-in-Err-clause-ends : goal.search_state-returns-in-Err-clause-ends
search_state-returns-in-Err-clause-ends g t c =
    let tree = tree_moves (g.G.Game.model c.args.task.now.game) (g.met.G.Game.lawful c.args.task.now.game) c.args.task.now.side c.args.s c.requires.here.reachable in
    record {
      kept = kept_after {a = 1} {b = 0} (kept_counted c.spend.ensures.counts) (kept_quiet c.row_of.ensures.later c.row_of.ensures.entries) (omega arith);
      same_limit = refl;
      remembered = remembered_later c.row_of.ensures.later c.requires.here.remembered;
      ends = search rules;
      below = search rules;
    }

-- ---- a state that is no end
-- what the table tells of it
told_before : (g : given.Over) (t : ℕ) (c : search_inner-After-recall g t) → let m = g.G.Game.model c.args.task.now.game in
    IsFound m c.args.task.now.side c.args.s c.args.window.worse c.args.window.better (g.B.Bounds.view c.args.board.now) c.in-Some.memo.number × 1 ≤ c.in-Some.memo.visits
    × c.in-Some.memo.visits ≤ inner_nodes m c.args.task.now.side c.args.s
told_before g t c =
    let fit_worse : SFits w64 c.args.window.worse = search rules in
    let fit_better : SFits w64 c.args.window.better = search rules in
    let here = c.requires.here.remembered.each _ _ (sym c.probe.ensures ∙ c.in-Some.is) in (
      rw (to_z-of_z w64 c.args.window.worse fit_worse, to_z-of_z w64 c.args.window.better fit_better) at (here.found c.args.s c.requires.here.reachable (sym c.key.ensures)),
      here.some,
      here.few c.args.s c.requires.here.reachable (sym c.key.ensures),
    )

pub search_inner-returns-in-Some : goal.search_inner-returns-in-Some
search_inner-returns-in-Some g t c =
    let m = g.G.Game.model c.args.task.now.game in
    let told = told_before g t (goal.at.search_inner-returns-in-Some g t c).After-recall in
    record {
      kept = kept_counted (counts_after {b = 0} c.recall.ensures.counts counts_none (omega (arith, told.2)));
      same_limit = refl;
      remembered = c.requires.here.remembered;
      ends = recall_ends (IsFound m c.args.task.now.side c.args.s c.args.window.worse c.args.window.better (g.B.Bounds.view c.args.board.now))
          (WasFull m (g.B.Bounds.view c.args.board.now) (LeadsTo m c.args.s)) c.in-Some.memo.number c.recall.result told.0 (cut_more told.2)
          c.recall.ensures.ok c.recall.ensures.cut c.recall.ensures.err;
      below = ok_more c.recall.result (λ spent. omega (arith, spent, told.1)) c.recall.ensures.spent;
    }

pub search_inner-returns-in_ok-number-in-None :
    goal.search_inner-returns-in_ok-number-in-None
search_inner-returns-in_ok-number-in-None g t c =
    let fit_worse : SFits w64 c.args.window.worse = search rules in
    let fit_better : SFits w64 c.args.window.better = search rules in
    let m = g.G.Game.model c.args.task.now.game in
    let v = g.B.Bounds.view c.search_moves-in-None.new.board in
    let fx : SFits w64 c.in_ok-number-in-None.number = search rules in
    let found : IsFound m c.args.task.now.side c.args.s c.args.window.worse c.args.window.better v c.in_ok-number-in-None.number = c.in_ok-number-in-None.ensures.ends in
    let stored = rw (to_z-of_z w64 c.args.window.worse fit_worse, to_z-of_z w64 c.args.window.better fit_better, to_z-of_z w64 c.in_ok-number-in-None.number fx) at
    c.store.ensures.others in
    let some : 1 ≤ c.spent.result - c.spent-before.result = omega (arith, c.spent.ensures, c.spent-before.ensures, c.in_ok-number-in-None.ensures.below) in
    let few : c.spent.result - c.spent-before.result ≤ inner_nodes m c.args.task.now.side c.args.s =
    omega (arith, c.spent.ensures, c.spent-before.ensures, c.search_moves-in-None.ensures.kept.visits.few) in
    record {
      kept = c.search_moves-in-None.ensures.kept;
      same_limit = c.store.ensures.limit ∙ c.search_moves-in-None.ensures.same_limit;
      remembered = remembered_more (g.met.G.Game.lawful c.args.task.now.game) c.args.s c.requires.here.reachable (sym c.key.ensures) found some few
          c.search_moves-in-None.ensures.remembered stored;
      ends = search rules;
      below = search rules;
    }
