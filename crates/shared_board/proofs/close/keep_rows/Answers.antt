use Rattle.std.proofs.Common.{◌≡◌, ℕ, ◌+◌, ◌*◌, ◌-◌, [], ◌∷◌, ◌++◌, refl, sym, ap, ◌∙◌, arith, List, vec_len, vec_capacity, w64, to_z, of_z}
use Rattle.std.proofs.lemmas.Int.{ints}
use Rattle.std.specs.Mem.Slots.{slots_items}
use Rattle.sim_game.specs.declared.Side.TheVariants.{One, Two}
use Rattle.shared_board.specs.Words.{key_in_row, bound_in_row, as_bound}
use Rattle.shared_board.proofs.CloseLemmas.{at_or, row_is, more_free, more_taken}
use Rattle.shared_board.proofs.close.keep_rows.Goals as goal
use Rattle.shared_board.proofs.close.keep_rows.Goals.{then-key-gt0+in-Ok, else-key-gt0}

pub bound_of_word-lower-requires : goal.bound_of_word-lower-requires
bound_of_word-lower-requires c = let e = at_or (slots_items c.args.words.now.words) (3 * c.loop-row.row + 2) c.word.result c.word.ensures in let b =
    c.requires.bounds One c.loop-row.row c.loop-row-test.true in omega arith

pub bound_of_word-upper-requires : goal.bound_of_word-upper-requires
bound_of_word-upper-requires c = let e = at_or (slots_items c.args.words.now.words) (3 * c.loop-row.row + 3) c.word-then-key-gt0.result c.word-then-key-gt0.ensures in let b =
    c.requires.bounds Two c.loop-row.row c.loop-row-test.true in omega arith

pub loop-row-preserved : goal.loop-row-preserved
loop-row-preserved c = let words : List ℕ = slots_items c.args.words.now.words in let row : ℕ = c.loop-row.row in let key : key_in_row words row ≡ c.word-key.result =
    at_or words (3 * row + 1) c.word-key.result c.word-key.ensures in
    let inv = c.loop-row.invariant in
    elim c.if-key-gt0.branch [
      | then-key-gt0+in-Ok w ↦
          let some = w.if-key-gt0.true in let k : ℕ = c.word-key.result - 1 in
          let low : bound_in_row words One row ≡ w.word.result = at_or words (3 * row + 2) w.word.result w.word.ensures in
          let high : bound_in_row words Two row ≡ w.word-then-key-gt0.result = at_or words (3 * row + 3) w.word-then-key-gt0.result w.word-then-key-gt0.ensures in
          let fl = w.bound_of_word-lower.type_inv in let fh = w.bound_of_word-upper.type_inv in
          let lower : to_z w64 (of_z w64 w.bound_of_word-lower.result) ≡ as_bound (bound_in_row words One row) = (let e = w.bound_of_word-lower.ensures in omega (arith, ints)) in
          let upper : to_z w64 (of_z w64 w.bound_of_word-upper.result) ≡ as_bound (bound_in_row words Two row) = (let e = w.bound_of_word-upper.ensures in omega (arith, ints)) in
          let is = w.kept-is in let len = ap (λ v. vec_len v) is in let cap = ap (λ v. vec_capacity v) is in let did = w.in-Ok.ensures in let dl = did.len in let dc =
          did.capacity in (
            ap (λ v. v.items) is ∙ (did.items ∙ ((λ j. inv.0 j ++ row_is words row k k _ _ refl lower upper j ∷ [])
                ∙ sym (more_taken words row (row + 1) k (omega arith) (key ∙ omega arith)))),
            omega arith,
            omega arith,
          )
      | else-key-gt0 w ↦
          let none = w.if-key-gt0.false in let is = w.kept-is in let len = ap (λ v. vec_len v) is in let cap = ap (λ v. vec_capacity v) is in
          (ap (λ v. v.items) is ∙ (inv.0 ∙ sym (more_free words row (row + 1) (omega arith) (key ∙ omega arith))), omega arith, omega arith)
    ]
