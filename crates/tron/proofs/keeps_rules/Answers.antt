use Rattle.std.proofs.Common.{◌≡◌, ◌+◌, ◌/◌, Bool, true, cond, length, get_or, refl, ap, subst, ◌∙◌}
use Rattle.tron.specs.declared.Direction.TheVariants.{North}
use Rattle.sim_game.proofs.ReachLemmas.{reachable_induction}
use Rattle.tron.specs.declared.State.{State}
use Rattle.tron.specs.laws.Game.{tron_sound, rank_over, tron_is_game}
use Rattle.tron.specs.Rules.{Arena, arena_of_trails, free_cells, is_over, number_of, tron_payoff, tron_rank, tron_game, ways_of, Trails, first_trails, after_moves, StandsFor, tron_key}
use Rattle.tron.proofs.TrailLemmas.{same_arena, stands_after, stands_first}
use Rattle.tron.proofs.keeps_rules.Goals as goal

pub returns : goal.returns
returns c =
    let g = c.args._game.now.setting in
    record {
      root = stands_first g;
      follows = λ s turn t stands. stands_after g s t turn.one turn.two stands;
      draws = λ s one two. refl;
      chance = λ s one two draw. refl;
      moves = λ side s t stands. ap (λ (r : Arena). length (ways_of r side)) (same_arena g s t stands);
      label = λ side s t i stands. ap (λ (r : Arena). number_of (get_or (ways_of r side) i North)) (same_arena g s t stands);
      ends = λ s t r stands. (
        λ h. subst (λ (arena : Arena). is_over arena ≡ true) (same_arena g s t stands) (rank_over g c.args._game.now.valid s (tron_sound g c.args._game.now.valid s r) h),
        λ over. ap tron_rank (same_arena g s t stands) ∙ ap (λ (b : Bool). cond b 0 ((free_cells (arena_of_trails g t) + 1) / 2)) over,
      );
      payoff = λ s t stands. ap tron_payoff (same_arena g s t stands);
      reward = λ s one two draw. refl;
      rank = λ s t stands. ap tron_rank (same_arena g s t stands);
      key = λ s t stands. ap tron_key (same_arena g s t stands);
      low = refl;
      high = refl;
      width = refl;
      chance_free = refl;
      stands = λ walls one two is. reachable_induction (tron_game g) (λ (s : State). (t : Trails) × StandsFor s t) (first_trails walls one two, stands_first g walls one two is)
          (λ s turn r here legal. (after_moves g here.0 turn.one turn.two, stands_after g s here.0 turn.one turn.two here.1));
      same_trails = λ s other t r r' e stands. subst (λ (u : State). StandsFor u t) ((tron_is_game g c.args._game.now.valid).same_key s other r r' e) stands;
    }
