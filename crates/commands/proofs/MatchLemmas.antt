-- Games that go on with the first of their turns.
use Rattle.std.proofs.Common.{◌≡◌, ◌-◌, ◌≤◌, List, [], ◌∷◌, length, take, drop, get_or, sym, subst, arith}
use Rattle.std.proofs.lemmas.List.{take_rest}
use Rattle.sim_game.specs.Model.{GameModel, Reachable}
use Rattle.sim_game.proofs.ReachLemmas.{reachable_turn}
use Rattle.referee.specs.declared.PlayedTurn.{PlayedTurn}
use Rattle.referee.specs.Transcripts.{IsPlayed, as_turn}

pub next_played : {S : Type 0} (m : GameModel S) (s next : S) (turns : List PlayedTurn) → 1 ≤ length turns → Reachable m s → IsPlayed m s turns
    → next ≡ m.drawn s (get_or turns 0 (record { key = 0; one = 0; two = 0; draw = 0 })).one
    (get_or turns 0 (record { key = 0; one = 0; two = 0; draw = 0 })).two (get_or turns 0 (record { key = 0; one = 0; two = 0; draw = 0 })).draw
    → Reachable m next × IsPlayed m next (take (length turns - 1) (drop 1 turns))
next_played m s next [] some reach played is = absurd (omega arith)
next_played m s next (t ∷ turns) some reach played is =
    (subst (Reachable m) (sym is) (reachable_turn m s (as_turn t) reach played.1), subst (IsPlayed m next) (sym (take_rest (t ∷ turns) 1)) (subst (λ s. IsPlayed m s turns) (sym is) played.2))
