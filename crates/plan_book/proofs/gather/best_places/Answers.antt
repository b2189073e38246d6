use Rattle.std.proofs.Common.{◌≡◌, ℕ, ◌<◌, length, ◌&&◌, true, false, cond, Some, option_and_then, slice_get, nat_eq, eqb, sym, ◌∙◌, refl, arith}
use Rattle.std.proofs.lemmas.Option.{IfSome_then}
use Rattle.std.specs.HashMap.{get}
use Rattle.plan_book.specs.Books.{same_side, beats}
use Rattle.plan_book.specs.Records.{entry_of}
use Rattle.plan_book.proofs.GatherLemmas.{best_more, within_more}
use Rattle.plan_book.proofs.gather.best_places.Goals as goal
use Rattle.plan_book.proofs.gather.best_places.Goals.{then-is_better+in_ok-insert, else-is_better}

pub is_better-requires : goal.is_better-requires
is_better-requires c = IfSome_then (get nat_eq c.loop-i.best c.entry_at-e.result.key) (c.loop-i.invariant.within c.entry_at-e.result.key) (λ j h. omega arith)

pub loop-i-preserved : goal.loop-i-preserved
loop-i-preserved c =
    let xs = c.args.book.now.entries in
    let e = entry_of c.entry_at-e.result in
    let item = c.entry_at-e.ensures in
    let inside : c.loop-i.i < length xs = omega (arith, c.len-i-end.ensures, c.loop-i-test.true) in
    let better : c.is_better.result ≡ (same_side e.side c.args.side && beats c.args.side e (option_and_then (slice_get xs) (get nat_eq c.loop-i.best e.key))) = c.is_better.ensures in
    elim c.if-is_better.branch [
      | then-is_better+in_ok-insert w ↦
          let new : (q : ℕ) → get nat_eq c.if-is_better.best q ≡ cond (eqb e.key q) (Some c.loop-i.i) (get nat_eq c.loop-i.best q) =
          λ q. rw w.best-is (w.in_ok-insert.ensures.updates.0 q) in
          record {
            within = λ q. within_more c.loop-i.i q (eqb e.key q) (get nat_eq c.loop-i.best q) (get nat_eq c.if-is_better.best q) (c.loop-i.invariant.within q) (new q);
            best = λ q. best_more c.args.side xs c.loop-i.i e q true (get nat_eq c.loop-i.best) (get nat_eq c.if-is_better.best q) inside item c.loop-i.invariant.best
                (sym w.if-is_better.true ∙ better) (new q);
          }
      | else-is_better w ↦
          let new : (q : ℕ) → get nat_eq c.if-is_better.best q ≡ get nat_eq c.loop-i.best q = λ q. rw w.best-is refl in
          record {
            within = λ q. within_more c.loop-i.i q false (get nat_eq c.loop-i.best q) (get nat_eq c.if-is_better.best q) (c.loop-i.invariant.within q) (new q);
            best = λ q. best_more c.args.side xs c.loop-i.i e q false (get nat_eq c.loop-i.best) (get nat_eq c.if-is_better.best q) inside item c.loop-i.invariant.best
                (sym w.if-is_better.false ∙ better) (new q);
          }
    ]
