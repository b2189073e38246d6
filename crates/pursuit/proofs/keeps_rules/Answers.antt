use Rattle.std.proofs.Common.{◌≡◌, ◌⊎◌, ◌↔◌, ℕ, ◌≤◌, Bool, true, false, cond, length, get_or, refl, ap, inl, inr, ◌∙◌}
use Rattle.std.proofs.lemmas.Bool.{le-ltb}
use Rattle.sim_game.specs.declared.Limits.TheVariants.{Narrow}
use Rattle.sim_game.specs.declared.Side.TheVariants.{One, Two}
use Rattle.pursuit.specs.laws.Game.{pursuit_is_game}
use Rattle.pursuit.specs.Position.{most_nodes, most_rounds}
use Rattle.pursuit.specs.Rules.{Graph, after_round, first_of, key_bits, pursuit_key, width_of, ways}
use Rattle.pursuit.proofs.PositionLemmas.{same_graph}
use Rattle.pursuit.proofs.keeps_rules.Goals as goal

rank_ends : (caught : Bool) (rounds : ℕ) → (cond caught 0 rounds ≡ 0) ↔ ((caught ≡ true) ⊎ (rounds ≡ 0))
rank_ends true rounds = (λ h. inl refl, λ h. refl)
rank_ends false rounds = (
  λ h. inr h,
  λ h. elim h [
    | inl caught ↦ absurd (cc)
    | inr none ↦ none
  ],
)

narrow_bits : (nodes rounds : ℕ) → nodes ≤ most_nodes Narrow → rounds ≤ most_rounds Narrow → key_bits nodes rounds ≡ 5
narrow_bits nodes rounds h k = rw (le-ltb 32 nodes h, le-ltb 31 rounds k) refl

pub returns : goal.returns
returns c =
    let g = c.args._game.now.setting in
    record {
      graph = λ edges one two rounds is. let e = same_graph g edges is.joined in record {
        root = ap (λ (node : ℕ). first_of node g.two g.rounds) is.one_is ∙ ap (λ (node : ℕ). first_of one node g.rounds) is.two_is ∙ ap (first_of one two) is.rounds_is;
        moves = λ side s. ap (λ (r : Graph). length (ways r side s)) e;
        label = λ side s i. ap (λ (r : Graph). get_or (ways r side s) i 0) e;
        follows = λ s t. ap (λ (r : Graph). after_round s (get_or (ways r One s) t.one 0) (get_or (ways r Two s) t.two 0)) e;
        width = ap width_of e;
      };
      draws = λ s one two. refl;
      chance = λ s one two draw. refl;
      ends = λ s. rank_ends s.caught s.rounds;
      payoff = λ s. refl;
      reward = λ s one two draw. refl;
      rank = λ s. refl;
      key = λ s. refl;
      narrow_key = λ nodes rounds s. ap (λ (bits : ℕ). pursuit_key bits s) (narrow_bits g.nodes g.rounds nodes rounds);
      low = refl;
      high = refl;
      chance_free = refl;
      same_state = (pursuit_is_game g c.args._game.now.valid).same_key;
    }
