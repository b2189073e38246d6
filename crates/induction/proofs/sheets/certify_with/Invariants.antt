use Rattle.std.proofs.Common.{◌≤◌, length}
use Rattle.induction.specs.Places.{place_word}
use Rattle.induction.proofs.CertifyLemmas.{AreLeft}
use Rattle.induction.proofs.sheets.certify_with.Given as goal

abbrev pub invariant-loop-planned : goal.invariant-loop-planned
invariant-loop-planned g l = record {
  left : AreLeft (g.G.Game.model l.g) (g.G.Game.numbering l.g).place l.side l.total l.fn.states.items l.states.items l.found.items l.made.rows.items (place_word l.made.bounds);
  any : 1 ≤ length l.states.items → 1 ≤ length l.found.items;
}

abbrev pub decreases-loop-planned : goal.decreases-loop-planned
decreases-loop-planned g l = length l.states.items
