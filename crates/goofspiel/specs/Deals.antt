-- The hands and the score on the way: how far the score is from the first one, and which prizes are gone.
use Rattle.std.specs.Prelude.{◌≡◌, ℕ, ◌-◌, ◌<◌, ◌≤◌, ◌^◌, ℤ, pos, ◌+ℤ◌, ◌-ℤ◌, ◌≤ℤ◌, unsigned_abs, length, take, sum}
use Rattle.goofspiel.specs.declared.Pay.{Pay}
use Rattle.goofspiel.specs.declared.Pay.TheVariants.{Margin, Win, Prizes}
use Rattle.goofspiel.specs.declared.Setting.{Setting}
use Rattle.goofspiel.specs.declared.State.{State}
use Rattle.goofspiel.specs.Cards.{cards}
use Rattle.goofspiel.specs.Position.{prizes_of}

-- the hands and the score fit the fields of a key
pub record FitsKey (s : State) : Type 0 where
  pub one : s.one < 2 ^ 13
  pub two : s.two < 2 ^ 13
  pub score : unsigned_abs s.score ≤ 2300

-- how far the score can be from the first one where prizes of this sum were bid for
abbrev pub spread : Pay → ℕ → ℕ
spread Margin spent = spent
spread Win spent = spent
spread Prizes spent = 0

-- the score is that far from the first one
pub record IsScoreNear (pay : Pay) (first : ℤ) (spent : ℕ) (score : ℤ) : Type 0 where
  pub low : (first -ℤ pos (spread pay spent)) ≤ℤ score
  pub high : score ≤ℤ (first +ℤ pos (spread pay spent))

-- the sum of the prizes that were bid for
abbrev pub gone : Setting → State → ℕ
gone g s = sum (take (g.count - length (cards s.one)) (prizes_of g))

-- what holds of the hands and the score where the prizes that were bid for have the sum `spent`
pub record IsDealt (g : Setting) (spent : ℕ) (s : State) : Type 0 where
  pub one_small : s.one < 2 ^ 13
  pub two_small : s.two < 2 ^ 13
  pub same_count : length (cards s.one) ≡ length (cards s.two)
  pub few : length (cards s.one) ≤ g.count
  pub near : IsScoreNear g.pay g.score spent s.score
