use Rattle.std.proofs.Common.{rules, ◌≡◌, ◌∷◌, [], ◌++◌, ℕ, List, length, sym, ap, ◌∙◌, arith}
use Rattle.std.proofs.lemmas.List.FromFn.{length-range_with_len}
use Rattle.restricted_game.proofs.HeldLemmas.{range_more}
use Rattle.restricted_game.proofs.held.all_moves.Goals as goal

pub push_reserved-requires : goal.push_reserved-requires
push_reserved-requires c =
    omega (
      arith,
      c.loop-number.moves.ok.0,
      ap
          (λ (l : List ℕ). length l) c.loop-number.invariant.so_far,
      length-range_with_len 0 c.loop-number.number,
      c.loop-number.invariant.room,
      c.loop-number-test.true,
    )

pub loop-number-preserved : goal.loop-number-preserved
loop-number-preserved c =
    let pushed : c.push_reserved.new.self.items ≡ c.loop-number.moves.items ++ c.loop-number.number ∷ [] = search rules in
    record {
      so_far = pushed ∙ ap (λ (l : List ℕ). l ++ c.loop-number.number ∷ []) c.loop-number.invariant.so_far ∙ sym (range_more c.loop-number.number);
      room = search rules;
    }
