use Rattle.std.proofs.Common.{rules, ◌≡◌, ◌≢◌, inl, inr, ℕ, slice_index, sym, ap, subst, ◌∙◌, ◌+◌, ◌-◌, arith}
use Rattle.shared_board.proofs.ClaimLemmas.{SoFar, row_inside, keeps_inside, learnt, goes_on, found_row, all_met, may_claim}
use Rattle.bounds_board.proofs.PlainLemmas.{row_goes_on}
use Rattle.shared_board.specs.Plays.{IsAt, MayClaim}
use Rattle.shared_board.specs.Known.{IsKnownRow}
use Rattle.shared_board.specs.Marks.{AreMarks}
use Rattle.shared_board.proofs.MarkLemmas.{marks_room, marks_learnt, told_row, passes_marked}
use Rattle.shared_board.proofs.steps.claim_row.Goals as goal
use Rattle.shared_board.proofs.steps.claim_row.Goals.{then-found-eq0-via-then-found-eq0, then-found-eq0-via-else-found-eq0+then-found-key}
use Rattle.shared_board.proofs.steps.claim_row.Goals.{then-not-is_of_another+else-found-eq0+else-found-key, else-not-is_of_another}
use Rattle.shared_board.proofs.steps.claim_row.Goals.{then-tried-eq-SHORT_WALK, else-tried-eq-SHORT_WALK}

pub try_row-found-requires-clause-row : goal.try_row-found-requires-clause-row
try_row-found-requires-clause-row g c = (
  c.loop-tried.tried,
  subst (λ (z : ℕ). MayClaim (g.G.Game.model c.args.words.now.key.0) c.args.rows c.loop-tried.seat.me.0 z c.args.key c.loop-tried.tried) (sym c.loop-tried.invariant.3)
      (may_claim g.G.Game.model c.args.rows c.args.key c.args.seat.now.me.0 c.loop-tried.tried c.loop-tried.seat.me.0 c.args.words.now.key.0 c.loop-tried.invariant.2
      c.loop-tried.invariant.0.1 c.requires.key (search rules)),
)

pub returns-then-found-eq0 : goal.returns-then-found-eq0
returns-then-found-eq0 g c = let told = c.try_row-found.ensures in let l = told.learnt in let so = c.loop-tried.invariant.2 in
    let learns = learnt g.G.Game.model c.args.rows c.args.key c.args.seat.now.me.0 _ _ _ _ _ _ so l in
    let inside = row_inside c.args.rows c.args.key c.loop-tried.tried c.loop-tried.row (sym c.loop-tried.invariant.3) c.loop-tried-test.true in
    let here : IsKnownRow c.try_row-found.new.seat.me.0.keys c.args.key c.loop-tried.row = record {
      has = found_row g.G.Game.model c.args.rows c.args.key c.args.seat.now.me.0 _ _ _ _ l
          (elim c.then-found-eq0.branch [ then-found-eq0-via-then-found-eq0 w ↦ inl (omega arith) | then-found-eq0-via-else-found-eq0+then-found-key w ↦ inr (omega arith) ]);
      apart = told.apart;
    } in record {
      seat = (told.seat.0, search rules);
      keys = record {
        more = (learns.0.0, learns.0.1, omega (arith, learns.0.2, c.loop-tried-test.true));
        named = learns.1;
        inside = keeps_inside g.G.Game.model c.args.rows c.args.key c.args.seat.now.me.0 _ _ _ _ _ _ so l inside;
        apart = told.apart;
      };
      some = (inside, here.has);
      none = tt;
      marks = marks_learnt g.G.Game.model _ _ _ _ _ _ _ _ l here c.note.ensures c.loop-tried.invariant.4;
    }

pub loop-tried-preserved : goal.loop-tried-preserved
loop-tried-preserved g c = let before = c.loop-tried.invariant in let old = c.args.seat.now.me.0 in let keys = c.loop-tried.seat.me.0.keys in
    let next = c.row_behind-row.ensures ∙ row_goes_on c.args.rows c.args.key c.loop-tried.tried c.loop-tried.row before.3 in
    elim c.if-not-is_of_another.branch [
      | then-not-is_of_another+else-found-eq0+else-found-key w ↦
          let told = w.try_row-found.ensures in let l = told.learnt in let full : w.try_row-found.result ≢ 0 = search rules in
          let here : IsKnownRow w.try_row-found.new.seat.me.0.keys (w.try_row-found.result - 1) c.loop-tried.row =
          record { has = told_row g.G.Game.model _ _ _ _ _ l full; apart = told.apart } in
          let room : AreMarks keys w.if-tried-eq-SHORT_WALK.marks.by_row.items = elim w.if-tried-eq-SHORT_WALK.branch [
            | then-tried-eq-SHORT_WALK w' ↦ subst (λ m. AreMarks keys m.by_row.items) (sym w'.marks-is) (marks_room keys _ _ _ w'.make_room.ensures before.4)
            | else-tried-eq-SHORT_WALK w' ↦ subst (λ m. AreMarks keys m.by_row.items) (sym w'.marks-is) before.4
          ] in
          let marks = marks_learnt g.G.Game.model _ _ _ _ _ _ _ _ l here w.note-then-not-is_of_another.ensures room in (
            subst (λ s. IsAt c.args.words.now.table_id s.table_id s.me) (sym w.seat-is) told.seat.0,
            ap (λ s. s.id) w.seat-is ∙ (told.seat.1 ∙ before.1),
            subst (λ s. SoFar g.G.Game.model c.args.rows c.args.key (c.loop-tried.tried + 1) old s.me.0) (sym w.seat-is)
                (goes_on g.G.Game.model c.args.rows c.args.key old _ _ c.loop-tried.row _ _ before.2 before.3 l told.apart
                (row_inside c.args.rows c.args.key c.loop-tried.tried c.loop-tried.row (sym before.3) c.loop-tried-test.true) full (λ e. w.if-found-key.false (omega arith))),
            next,
            subst (λ s. AreMarks s.me.0.keys c.if-not-is_of_another.marks.by_row.items) (sym w.seat-is)
                (subst (λ m. AreMarks w.try_row-found.new.seat.me.0.keys m.by_row.items) (sym w.marks-is) marks),
          )
      | else-not-is_of_another w ↦
          let of : (slice_index c.loop-tried.marks.by_row.items c.loop-tried.row ≢ 0)
          × (slice_index c.loop-tried.marks.by_row.items c.loop-tried.row ≢ c.mark_of_key-mark.result) = search rules in
          let so = passes_marked g.G.Game.model c.args.rows c.args.key c.loop-tried.tried c.loop-tried.row old c.loop-tried.seat.me.0 c.loop-tried.marks.by_row.items before.2
          before.3 before.4 of.0 (λ e. of.1 (e ∙ sym c.mark_of_key-mark.ensures)) in (
            subst (λ s. IsAt c.args.words.now.table_id s.table_id s.me) (sym w.seat-is) before.0,
            ap (λ s. s.id) w.seat-is ∙ before.1,
            subst (λ s. SoFar g.G.Game.model c.args.rows c.args.key (c.loop-tried.tried + 1) old s.me.0) (sym w.seat-is) so,
            next,
            subst (λ s. AreMarks s.me.0.keys c.if-not-is_of_another.marks.by_row.items) (sym w.seat-is)
                (subst (λ m. AreMarks keys m.by_row.items) (sym w.marks-is) before.4),
          )
    ]

pub returns-clause-keys : goal.returns-clause-keys
returns-clause-keys g c = let so = c.loop-tried.invariant.2 in let l = c.loop-tried-test.false in let size = c.requires.board in record {
  more = (so.more.0, so.more.1, omega (arith, so.more.2, l, c.loop-tried.auto.tried-end));
  named = so.named;
  inside = so.inside;
  apart = so.apart (omega arith);
}

pub returns-clause-none : goal.returns-clause-none
returns-clause-none g c = let l = c.loop-tried-test.false in let same : c.loop-tried.tried ≡ c.args.rows = omega arith in
    all_met g.G.Game.model c.args.rows c.args.key c.args.seat.now.me.0 _
    (subst (λ (z : ℕ). SoFar g.G.Game.model c.args.rows c.args.key z c.args.seat.now.me.0 c.loop-tried.seat.me.0) same c.loop-tried.invariant.2)
