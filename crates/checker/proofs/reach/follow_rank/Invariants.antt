use Rattle.std.proofs.Common.{ℕ, ◌<◌}
use Rattle.checker.specs.Found.{IsFollowedAt, FindsMore}
use Rattle.checker.proofs.reach.follow_rank.Given as goal

abbrev pub invariant-loop-place : goal.invariant-loop-place
invariant-loop-place g l = record {
  later : FindsMore (g.G.Game.model l.g) l.fn.sheet l.fn.found.items l.found.items;
  here : (place : ℕ) → place < l.place → IsFollowedAt (g.G.Game.model l.g) l.fn.sheet l.fn.found.items l.found.items l.rank place;
}
