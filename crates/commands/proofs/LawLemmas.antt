-- What the answers of solve and of check say of each other.
use Rattle.std.proofs.Common.{◌≡◌, ℕ, ◌≤◌, Bool, true, false, not, ◌||◌, cond, List, length, Option, None, Some, Result, Ok, Err, refl, sym, ap, subst, ◌∙◌, arith}
use Rattle.std.proofs.lemmas.Bool.{and_parts}
use Rattle.sim_game.specs.Model.{GameModel}
use Rattle.sim_game.specs.Resolution.{IsResolution}
use Rattle.checker.specs.declared.verdict.Why.{Why}
use Rattle.checker.specs.declared.verdict.Verdict.{Verdict}
use Rattle.checker.specs.declared.verdict.Verdict.TheVariants.{Accepted, Refused}
use Rattle.checker.specs.Verdicts.{IsVerdict}
use Rattle.checker.proofs.VerdictLemmas.{verdict_once}
use Rattle.solution.specs.Solutions.{IsSolution}
use Rattle.fields.specs.declared.ask.Ask.{Ask}
use Rattle.fields.specs.declared.positions.PositionText.{PositionText}
use Rattle.certificate.specs.declared.report.Report.{Report}
use Rattle.certificate.specs.Ranges.{IsInRange}
use Rattle.certificate.specs.Texts.{report_text}
use Rattle.sim_game.specs.declared.Limits.TheVariants.{Narrow, Wide}
use Rattle.fields.specs.declared.positions.GameKind.{GameKind}
use Rattle.fields.specs.declared.positions.GameKind.TheVariants.{Goofspiel}
use Rattle.fields.specs.Positions.{game_version, kind_of, fits_narrow, is_small, is_narrow}
use Rattle.certificate.specs.Versions.{newest_version, is_long, is_older, limits_of, needs_newest, version_of}
use Rattle.certificate.proofs.ReportLaws.{read_named}
use Rattle.position.specs.declared.games.InputError.{InputError}
use Rattle.position.proofs.GameLemmas.{of_game_weaker, of_one_game}
use Rattle.position.proofs.LimitLemmas.{small_accepted, wide_too}
use Rattle.position.specs.Objects.{◌>>=◌, known_at, limits_at}
use Rattle.position.specs.Position.{TaskText, object_at, game_at, ask_at, refuse_if, are_kept, task_within, position_of}
use Rattle.commands.specs.declared.reports.ReportFault.TheVariants as faults
use Rattle.position.specs.Games.{position_text_in, fault_of, OfGame}
use Rattle.commands.specs.Runs.{IsSolved}
use Rattle.commands.proofs.CheckLemmas.{report_built}
use Rattle.commands.proofs.ShortLemmas.{short_enough}
use Rattle.commands.specs.Reports.{accepted_text, fault_text}
use Rattle.commands.specs.Checks.{most_report, report_in, IsJudged, IsChecked}

-- ---- the bytes of a report have one answer
one_judged : (bytes : List ℕ) (r s : Report) (v w : Verdict) → report_in bytes ≡ Ok r → report_in bytes ≡ Ok s → IsJudged r v → IsJudged s w → v ≡ w
one_judged bytes r s v w is it p q =
    let same : s ≡ r = cc (is, it) in
    of_one_game r.position (λ S m. IsVerdict m r v) (λ S m. IsVerdict m r w) (v ≡ w) (λ S m game a b. verdict_once m game r v w a b) p (subst (λ x. IsJudged x w) same q)

pub one_answer : (bytes : List ℕ) (status state : ℕ) (text other : List ℕ) → IsChecked bytes status text → IsChecked bytes state other → (status ≡ state) × (text ≡ other)
one_answer bytes _ _ _ _ (IsChecked.accepted r is judged) (IsChecked.accepted s it found) = let same : r ≡ s = cc (is, it) in (refl, ap accepted_text same)
one_answer bytes _ _ _ _ (IsChecked.accepted r is judged) (IsChecked.refused s w it found) = absurd (cc (one_judged bytes r s Accepted (Refused w) is it judged found))
one_answer bytes _ _ _ _ (IsChecked.refused r v is judged) (IsChecked.accepted s it found) = absurd (cc (one_judged bytes r s (Refused v) Accepted is it judged found))
one_answer bytes _ _ _ _ (IsChecked.refused r v is judged) (IsChecked.refused s w it found) =
    let why : v ≡ w = cc (one_judged bytes r s (Refused v) (Refused w) is it judged found) in
    (refl, ap (λ (x : Why). fault_text (faults.Refused x)) why)
one_answer bytes _ _ _ _ (IsChecked.accepted r is judged) (IsChecked.unread f it) = absurd (cc (is, it))
one_answer bytes _ _ _ _ (IsChecked.refused r v is judged) (IsChecked.unread f it) = absurd (cc (is, it))
one_answer bytes _ _ _ _ (IsChecked.unread f is) (IsChecked.accepted s it found) = absurd (cc (is, it))
one_answer bytes _ _ _ _ (IsChecked.unread f is) (IsChecked.refused s w it found) = absurd (cc (is, it))
one_answer bytes _ _ _ _ (IsChecked.unread f is) (IsChecked.unread g it) = let e : f ≡ g = cc (is, it) in (refl, ap fault_text e)

-- ---- what solve writes is accepted
pub solution_is_right : (S : Type 0) (m : GameModel S) (text : PositionText) (ask : Ask) (may_stop : Bool) (r : Report) → IsSolution m text ask may_stop r → IsVerdict m r Accepted
solution_is_right S m text ask may_stop r is = record {
  one = is.one_lawful;
  two = is.two_lawful;
  numbers = record {
    lower = is.lower;
    upper = is.upper;
    resolution = (is.resolution.0, is.resolution.1, subst (λ (w : ℕ). IsResolution m w is.resolution.0) (sym is.of_ask.weight) is.resolution.2);
    outcome = is.outcome;
  };
}

-- ---- a position that is read breaks no rule of its game
bind_ok : {A B : Type 0} (r : Result A InputError) (f : A → Result B InputError) (y : B) → (r >>= f) ≡ Ok y → (x : A) × (r ≡ Ok x) × (f x ≡ Ok y)
bind_ok (Ok x) f y e = (x, refl, e)
bind_ok (Err d) f y e = absurd cc

no_fault : (fault : Option InputError) (u : Unit {0}) → refuse_if fault ≡ Ok u → fault ≡ None
no_fault None u e = refl
no_fault (Some e) u is = absurd cc

built : (bytes : List ℕ) (task : TaskText) → position_of bytes ≡ Ok task → fault_of Wide task.text ≡ None
unfolding position_of task_within
built bytes task is =
    let d = bind_ok (object_at bytes) _ task is in
    let limits = limits_at d.0 in
    let game = bind_ok (game_at d.0) _ task d.2 in
    let known = bind_ok (known_at game.0 d.0) _ task game.2 in
    let text = bind_ok (position_text_in limits game.0 d.0) _ task known.2 in
    let ask = bind_ok (ask_at limits d.0) _ task text.2 in
    let all = bind_ok (are_kept limits text.0 ask.0) _ task ask.2 in
    let rules = bind_ok (refuse_if (fault_of limits text.0)) _ all.0 all.1 in
    let same : record { text = text.0; ask = ask.0 } ≡ task = cc (all.2) in
    subst (λ (t : TaskText). fault_of Wide t.text ≡ None) same (wide_too limits text.0 (no_fault (fault_of limits text.0) rules.0 rules.1))

-- nor is one broken within the limits of the report's version
narrow_game : (k : GameKind) → limits_of (game_version k) ≡ Narrow
narrow_game Goofspiel = refl
narrow_game k = refl

none_long : (narrow long : Bool) → (not narrow || long) ≡ false → narrow ≡ true
none_long true long e = refl
none_long false long e = absurd cc

built_again : (r : Report) → IsInRange r → fault_of Wide r.position ≡ None → fault_of (limits_of (version_of r)) r.position ≡ None
built_again r fits wide =
    let k = kind_of r.position in
    elim (needs_newest r) as (λ b. needs_newest r ≡ b → fault_of (limits_of (cond b newest_version (game_version k))) r.position ≡ None) [
      | true ↦ λ needs. wide
      | false ↦ λ needs.
          let small = (and_parts (fits_narrow r.position) (is_small r.position) (none_long (is_narrow r.position) (is_long r.one || (is_long r.two || not (is_older r.outcome))) needs)).1 in
          rw (narrow_game k) (small_accepted r.position fits.position small wide)
    ] refl

-- ---- what solve writes as a report is accepted
pub reported_accepted : (may_stop : Bool) (bytes text : List ℕ) (status : ℕ) → IsSolved may_stop bytes status text → ¬ (status ≡ 2) → length text ≤ most_report text
    → (r : Report) × (text ≡ report_text r) × IsChecked text 0 (accepted_text r)
reported_accepted may_stop bytes _ _ (IsSolved.refused e is) not short = absurd (not refl)
reported_accepted may_stop bytes _ _ (IsSolved.reported task r is asked solves again) not short =
    let P : (S : Type 0) → GameModel S → Type 0 = λ S m. IsSolution m task.text task.ask may_stop r in
    let position : r.position ≡ task.text = of_one_game task.text P P (r.position ≡ task.text) (λ S m game p q. p.of_ask.position) solves solves in
    let in_range : IsInRange r = of_one_game task.text P P (IsInRange r) (λ S m game p q. p.in_range) solves solves in
    let right = of_game_weaker task.text P (λ S m. IsVerdict m r Accepted) (λ S m p. solution_is_right S m task.text task.ask may_stop r p) solves in
    let judged = subst (λ (t : PositionText). OfGame t (λ S m. IsVerdict m r Accepted)) (sym position) right in
    let wide = ap (fault_of Wide) position ∙ built bytes task is in
    (r, refl, IsChecked.accepted r (report_built (report_text r) short (version_of r) r (read_named (report_text r) r again) (built_again r in_range wide) refl) judged)

pub accepted_alone : (may_stop : Bool) (bytes text answer : List ℕ) (status state : ℕ) → IsSolved may_stop bytes status text → ¬ (status ≡ 2)
    → length text ≤ most_report text → IsChecked text state answer → state ≡ 0
accepted_alone may_stop bytes text answer status state solved not short checked =
    let told = reported_accepted may_stop bytes text status solved not short in (one_answer text state 0 answer (accepted_text told.0) checked told.2).0

-- with as many rows as the narrow limits allow it is not too long
pub reported_short : (may_stop : Bool) (bytes text : List ℕ) (status : ℕ) (task : TaskText) → position_of bytes ≡ Ok task → task.ask.rows ≤ 1048576
    → IsSolved may_stop bytes status text → ¬ (status ≡ 2)
    → length text ≤ most_report text
reported_short may_stop bytes _ _ task it few (IsSolved.refused e is) not = absurd (not refl)
reported_short may_stop bytes _ _ task it few (IsSolved.reported own r is asked solves again) not =
    let P : (S : Type 0) → GameModel S → Type 0 = λ S m. IsSolution m own.text own.ask may_stop r in
    let same : own ≡ task = cc (is, it) in
    let rows = ap (λ (t : TaskText). t.ask.rows) same in
    let in_range : IsInRange r = of_one_game own.text P P (IsInRange r) (λ S m game p q. p.in_range) solves solves in
    let one : length r.one.rows ≤ own.ask.rows = of_one_game own.text P P (length r.one.rows ≤ own.ask.rows) (λ S m game p q. p.one_few) solves solves in
    let two : length r.two.rows ≤ own.ask.rows = of_one_game own.text P P (length r.two.rows ≤ own.ask.rows) (λ S m game p q. p.two_few) solves solves in
    short_enough r in_range (omega (arith, one, rows, few)) (omega (arith, two, rows, few))
