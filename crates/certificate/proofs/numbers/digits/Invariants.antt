use Rattle.std.proofs.Common.{◌≡◌, ℕ, ◌<◌, ◌^◌, take, get_or}
use Rattle.std.specs.Int.{IsInRange}
use Rattle.std.specs.Str.Parse.{digits_value}
use Rattle.certificate.proofs.numbers.digits.Given as goal

abbrev pub invariant-loop-b : goal.invariant-loop-b
invariant-loop-b l = (l.n < 2 ^ 64) × (l.n ≡ digits_value 10 (take l.b-index l.text)) × ((k : ℕ) → k < l.b-index → IsInRange 48 57 (get_or l.text k 0))
