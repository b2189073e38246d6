-- Limits of what has been read so far.
use Rattle.std.proofs.Common.{◌≡◌, ⊎_elim, ℕ, ◌+◌, ◌-◌, ◌<◌, ◌≤◌, Bool, true, false, cond, nat_eq, List, ◌++◌, length, refl, arith}
use Rattle.std.proofs.lemmas.Bool.{cases_lt}
use Rattle.std.specs.List.{starts_with}
use Rattle.std.proofs.lemmas.List.{length-append, take-append-le}
use Rattle.devices.specs.Taken.{limit_for}

module _ (most with_head : ℕ) (head : List ℕ) where
  -- what stands behind a whole head does not matter
  pub limit_kept : (bytes last : List ℕ) → length head ≤ length bytes → limit_for most head with_head (bytes ++ last) ≡ limit_for most head with_head bytes
  limit_kept bytes last long = rw (take-append-le (length head) bytes last long) refl

  pub limit_least : most ≤ with_head → (bytes : List ℕ) → most ≤ limit_for most head with_head bytes
  limit_least wide bytes = by_case (starts_with nat_eq bytes head) where
    by_case : (b : Bool) → most ≤ cond b with_head most
    by_case true = wide
    by_case false = omega arith

  module _ (short : length head ≤ most) (wide : most ≤ with_head) (bytes last : List ℕ)
      (in_head : length bytes < length head → length bytes + length last ≤ length head)
      (behind : length head ≤ length bytes → length last ≤ (limit_for most head with_head bytes - length bytes) + 1)
      (within : length bytes ≤ limit_for most head with_head bytes) where
    -- more than there is room for is one byte more
    pub one_more : (limit_for most head with_head bytes - length bytes) < length last → length (bytes ++ last) ≡ limit_for most head with_head (bytes ++ last) + 1
    one_more over = ⊎_elim
        (λ (l : length bytes < length head). absurd (omega (arith, in_head l, limit_least wide bytes)))
        (λ (l : length head ≤ length bytes). omega (arith, length-append bytes last, limit_kept bytes last l, behind l))
        (cases_lt (length bytes) (length head))

    pub still_within : length last ≤ (limit_for most head with_head bytes - length bytes) → length (bytes ++ last) ≤ limit_for most head with_head (bytes ++ last)
    still_within room = ⊎_elim
        (λ (l : length bytes < length head). omega (arith, in_head l, length-append bytes last, limit_least wide (bytes ++ last)))
        (λ (l : length head ≤ length bytes). omega (arith, length-append bytes last, limit_kept bytes last l))
        (cases_lt (length bytes) (length head))
