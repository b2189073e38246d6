-- The samples.
use Rattle.std.proofs.Common.{◌≡◌, false, ℕ, ◌+◌, ◌-◌, ◌*◌, ◌%◌, ◌<◌, ◌≤◌, pos, List, length, take, drop, leb, leb-true, true, None, Some, ◌⊎◌, inl, inr, refl, ap, arith}
use Rattle.std.proofs.Math.Nat.{mod-lt, mul-le-mul}
use Rattle.std.proofs.lemmas.Int.{ints}
use Rattle.std.proofs.lemmas.List.Elements.{All-from_recursion, All-append, All-drop, All-take}
use Rattle.sim_game.specs.Model.{GameModel, HasAtMost}
use Rattle.plan_book.specs.Serial.{tree_size}
use Rattle.goofspiel.specs.declared.GoofspielError.{GoofspielError}
use Rattle.goofspiel.specs.Position.{first_fault}
use Rattle.fields.specs.Ranges.{IsByteList, IsAskInRange, IsPositionInRange}
use Rattle.certificate.specs.declared.report.Outcome.{Outcome}
use Rattle.certificate.specs.declared.report.Outcome.TheVariants.{Closed, Settled, Spent, Full, Stopped}
use Rattle.certificate.specs.declared.report.Report.{Report}
use Rattle.goofspiel.specs.laws.Cards.{few_cards}
use Rattle.goofspiel.specs.declared.Goofspiel.{Goofspiel as GoofspielGame}
use Rattle.goofspiel.specs.Rules.{goofspiel_game}
use Rattle.position.specs.declared.games.AnyGame.TheVariants.{Goofspiel}
use Rattle.position.specs.Games.{any_width, IsFineFor}
use Rattle.solution.specs.Solutions.{HasWidthOf, IsSolution}
use Rattle.commands.specs.Samples.{sample_cards, rotated_left, sample_prizes, sample_position, sample_ask, IsSampleSolution}
use Rattle.commands.specs.Runs.{status_of, IsSampled}
use Rattle.sim_game.proofs.StateLemmas.{more_states}
use Rattle.commands.proofs.SizeLemmas.{below_five}

no_fault_below : (n : ℕ) → n < 5 → first_fault sample_cards sample_cards (rotated_left n sample_cards) (pos 0) ≡ None
no_fault_below = below_five (λ n. first_fault sample_cards sample_cards (rotated_left n sample_cards) (pos 0) ≡ None) refl refl refl refl refl

-- no sample breaks a rule
pub no_fault : (n : ℕ) (prizes : List ℕ) (fault : GoofspielError) → prizes ≡ sample_prizes n → first_fault sample_cards sample_cards prizes (pos 0) ≡ Some fault → ⊥
no_fault n prizes fault is some = let none = no_fault_below (n % 5) (mod-lt n (omega (arith))) in let some' = rw is at some in absurd (cc)

-- a report may have each of them
five_bytes : IsByteList 255 sample_cards
five_bytes = record { few = omega (arith); small = All-from_recursion (λ n. n ≤ 255) sample_cards (omega (arith), (omega (arith), (omega (arith), (omega (arith), (omega (arith), tt))))) }

prizes_below : (n : ℕ) → n < 5 → IsByteList 255 (rotated_left n sample_cards)
prizes_below n small = let P : ℕ → Type 0 = λ n. n ≤ 255 in record {
  few = leb-true _ 255 (below_five (λ n. leb (length (rotated_left n sample_cards)) 255 ≡ true) refl refl refl refl refl n small);
  small = All-append P (drop n sample_cards) (take n sample_cards) (All-drop P n sample_cards five_bytes.small) (All-take P n sample_cards five_bytes.small);
}

-- a report may have each sample
pub in_range : (n : ℕ) → IsPositionInRange (sample_position n)
in_range n = let cards = prizes_below 0 (omega (arith)) in (cards, (cards, (prizes_below (n % 5) (mod-lt n (omega (arith))), ((omega (arith, ints), omega (arith, ints)), (refl, tt)))))

pub asks : IsAskInRange sample_ask
asks = record {
  gap = (omega (arith, ints), omega (arith, ints));
  weight = (omega arith, omega arith);
  turns = omega arith;
  visits = omega arith;
  rows = (omega arith, omega arith);
  workers = (omega arith, omega arith);
}

-- at most 13 cards
pub sample_few : (g : GoofspielGame) → any_width (Goofspiel g) ≤ 13
sample_few g = omega (arith, few_cards g.setting.one g.valid.one_small)

pub sample_width : (n : ℕ) (g : GoofspielGame) → HasWidthOf (goofspiel_game g.setting) (sample_position n)
sample_width n g = λ narrow. omega (arith, sample_few g)

-- the weight is fine enough
pub sample_fine : (g : GoofspielGame) → IsFineFor (Goofspiel g) 8192
sample_fine g = let small = mul-le-mul (sample_few g) (sample_few g) in omega (arith, small)

-- with at most 13 moves a side at most 25 turns a state
few_turns : (width rank : ℕ) → width ≤ 13 → rank ≡ 5 → (2 * width - 1) * (3682 + rank + 1) ≤ 25 * 3688
few_turns width rank narrow is = let each : 2 * width - 1 ≤ 25 = omega (arith, narrow) in let states : 3682 + rank + 1 ≤ 3688 = omega (arith, is) in mul-le-mul each states

-- nothing runs out in so small a game
closed_or_settled : {S : Type 0} (m : GameModel S) (n : ℕ) (r : Report) → HasAtMost m 3682 → m.rank m.root ≡ 5 → m.width ≤ 13 → IsSolution m (sample_position n) sample_ask false r
    → (o : Outcome) → r.outcome ≡ o → (r.outcome ≡ Closed) ⊎ (r.outcome ≡ Settled)
closed_or_settled m n r few rank narrow is Closed e = inl e
closed_or_settled m n r few rank narrow is Settled e = inr e
closed_or_settled m n r few rank narrow is Spent e = absurd (let turns = is.spent e 3682 few (omega arith) in omega (arith, turns, few_turns m.width (m.rank m.root) narrow rank))
closed_or_settled m n r few rank narrow is Stopped e = absurd (let may = is.stopped e in cc)
closed_or_settled m n r few rank narrow is Full e = absurd (is.full e (more_states m 3682 65536 few (omega arith)))

pub is_sample_solution : {S : Type 0} (m : GameModel S) (n : ℕ) (r : Report) → HasAtMost m 3682 → m.rank m.root ≡ 5 → tree_size m m.root ≡ 32826 → m.width ≤ 13
    → IsSolution m (sample_position n) sample_ask false r → IsSampleSolution m n r
is_sample_solution m n r few rank size narrow is =
    let room = more_states m 3682 65536 few (omega arith) in
    let visits : tree_size m m.root ≤ 40000 = omega (arith, size) in
    record {
      solution = is;
      ends = closed_or_settled m n r few rank narrow is r.outcome refl;
      pure_lower = is.pure_lower room (refl, visits);
      pure_upper = is.pure_upper room (refl, visits);
      at_once = is.at_once room (refl, visits);
    }

pub solved_status : (n status : ℕ) (text : List ℕ) → IsSampled n status text → (status ≡ 0) ⊎ (status ≡ 3)
solved_status n _ _ (IsSampled.reported r is) = elim is.2.ends [
  | inl closed ↦ inl (ap status_of closed)
  | inr settled ↦ inr (ap status_of settled)
]
