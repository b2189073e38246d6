use Rattle.std.proofs.Common.{◌≡◌, ◌<◌, ◌≤◌, ℕ, pos, ◌+◌, ◌*◌, ◌*ℤ◌}
use Rattle.sums.specs.Sums.{sum_below, count_below}
use Rattle.sim_game.specs.Sides.{chance_of, child_of, after_reward}
use Rattle.plan_book.specs.Serial.{tree_size}
use Rattle.serial_ab.specs.Counts.{spent_on}
use Rattle.serial_ab.specs.Values.{turn_value, pair_nodes, move_nodes}
use Rattle.serial_ab.specs.Searches.{IsSerialKept, IsGoodNumber}
use Rattle.serial_ab.specs.Transpositions.{AreRemembered}
use Rattle.serial_ab.proofs.SearchLemmas.{MovesSoFar, RepliesSoFar}
use Rattle.serial_ab.proofs.search.+serial.Given as goal

abbrev pub decreases-search_draws : goal.decreases-search_draws
decreases-search_draws g l = 6 * (g.G.Game.model l.task.now.game).rank l.s

abbrev pub decreases-search_pair : goal.decreases-search_pair
decreases-search_pair g l = 6 * (g.G.Game.model l.task.now.game).rank l.s + 1

abbrev pub decreases-search_move : goal.decreases-search_move
decreases-search_move g l = 6 * (g.G.Game.model l.task.now.game).rank l.s + 2

abbrev pub decreases-search_moves : goal.decreases-search_moves
decreases-search_moves g l = 6 * (g.G.Game.model l.task.now.game).rank l.s + 3

abbrev pub decreases-search_inner : goal.decreases-search_inner
decreases-search_inner g l = 6 * (g.G.Game.model l.task.now.game).rank l.s + 4

abbrev pub decreases-search_state : goal.decreases-search_state
decreases-search_state g l = 6 * (g.G.Game.model l.task.now.game).rank l.s + 5

abbrev pub invariant-search_draws-loop-d : goal.invariant-search_draws-loop-d
invariant-search_draws-loop-d g l = record {
  kept : IsSerialKept (g.G.Game.model l.task.game) l.task.side
      (count_below l.d (λ d. tree_size (g.G.Game.model l.task.game) (child_of (g.G.Game.model l.task.game) l.task.side l.s l.own l.reply d))) (g.B.Bounds.view l.initial.board)
      (g.B.Bounds.view l.board) l.initial.worker.visits l.worker.visits;
  remembered : AreRemembered (g.G.Game.model l.task.game) (g.B.Bounds.view l.board) l.worker.table;
  same_limit : l.worker.table.limit ≡ l.initial.worker.table.limit;
  summed : l.sum ≡ sum_below l.d (λ d. pos (chance_of (g.G.Game.model l.task.game) l.task.side l.s l.own l.reply d) *ℤ turn_value (g.G.Game.model l.task.game) l.task.side
      l.s l.own l.reply d);
  good : (d : ℕ) → d < l.d → after_reward (g.G.Game.model l.task.game) l.task.side l.s l.own l.reply d (IsGoodNumber (g.G.Game.model l.task.game) l.task.side (g.B.Bounds.view l.board))
      (turn_value (g.G.Game.model l.task.game) l.task.side l.s l.own l.reply d);
  below : 1 ≤ l.d → spent_on l.task.side l.initial.worker.visits + 1 ≤ spent_on l.task.side l.worker.visits;
}

abbrev pub invariant-search_move-loop-reply : goal.invariant-search_move-loop-reply
invariant-search_move-loop-reply g l = record {
  kept : IsSerialKept (g.G.Game.model l.task.game) l.task.side (count_below l.reply (pair_nodes (g.G.Game.model l.task.game) l.task.side l.s l.own))
      (g.B.Bounds.view l.initial.board) (g.B.Bounds.view l.board) l.initial.worker.visits l.worker.visits;
  remembered : AreRemembered (g.G.Game.model l.task.game) (g.B.Bounds.view l.board) l.worker.table;
  same_limit : l.worker.table.limit ≡ l.initial.worker.table.limit;
  so_far : RepliesSoFar (g.G.Game.model l.task.game) l.task.side l.s l.own l.window.worse l.window.better l.reply l.least (g.B.Bounds.view l.board);
  below : 1 ≤ l.reply → spent_on l.task.side l.initial.worker.visits + 1 ≤ spent_on l.task.side l.worker.visits;
}

abbrev pub invariant-search_moves-loop-own : goal.invariant-search_moves-loop-own
invariant-search_moves-loop-own g l = record {
  kept : IsSerialKept (g.G.Game.model l.task.game) l.task.side (count_below l.own (move_nodes (g.G.Game.model l.task.game) l.task.side l.s)) (g.B.Bounds.view l.initial.board)
      (g.B.Bounds.view l.board) l.initial.worker.visits l.worker.visits;
  remembered : AreRemembered (g.G.Game.model l.task.game) (g.B.Bounds.view l.board) l.worker.table;
  same_limit : l.worker.table.limit ≡ l.initial.worker.table.limit;
  so_far : MovesSoFar (g.G.Game.model l.task.game) l.task.side l.s l.window.worse l.window.better l.own l.value (g.B.Bounds.view l.board);
  below : 1 ≤ l.own → spent_on l.task.side l.initial.worker.visits + 1 ≤ spent_on l.task.side l.worker.visits;
}
