-- Two games that are played alike: the same turns, and the same sums along them, whatever the states are.
use Rattle.std.specs.Prelude.{◌≡◌, ◌↔◌, ℕ, zero, suc, ◌*◌, ℤ, pos, ◌+ℤ◌, ◌*ℤ◌, nat_eq, cond, List, [], ◌∷◌, ◌++◌}
use Rattle.sim_game.specs.declared.Side.{Side}
use Rattle.sim_game.specs.declared.Side.TheVariants.{One, Two}
use Rattle.sim_game.specs.Model.{GameModel, Turn, IsHistory, after_turn, after_history}
use Rattle.sums.specs.Sums.{sum_below}
use Rattle.plan_book.specs.Serial.{serial_bound}
use Rattle.goofspiel.specs.declared.Pay.{Pay}
use Rattle.goofspiel.specs.declared.Setting.{Setting}

-- what One gets along a history: the rewards of its turns, and the payoff of the state where it leads
abbrev pub paid_along : {S : Type 0} → GameModel S → S → List Turn → ℤ
paid_along m s [] = m.payoff s
paid_along m s (t ∷ h) = m.reward s t.one t.two t.draw +ℤ paid_along m (after_turn m s t) h

-- a plan that knows the turns so far, and not the state: the weight of each move after a history
abbrev pub HistoryPlan : Type 0
HistoryPlan = List Turn → ℕ → ℕ

-- what One gets by both plans, over all ways of play by so many turns: each with the product of its weights and chances,
-- where `paid` was paid before
abbrev pub plans_sum : {S : Type 0} → GameModel S → HistoryPlan → HistoryPlan → ℕ → S → List Turn → ℤ → ℤ
plans_sum m one two zero s history paid = paid +ℤ m.payoff s
plans_sum m one two (suc turns) s history paid =
    cond (nat_eq (m.rank s) 0)
    (paid +ℤ m.payoff s)
    (sum_below (m.moves One s) (λ a. sum_below (m.moves Two s) (λ b. sum_below (m.draws s a b) (λ d.
    pos (one history a * two history b * m.chance s a b d)
    *ℤ plans_sum m one two turns (m.drawn s a b d) (history ++ record { one = a; two = b; draw = d } ∷ []) (paid +ℤ m.reward s a b d)))))

-- after each history both games have the same moves, draws and chances, and both pay the same along it
pub record HasSameTree {S T : Type 0} (m : GameModel S) (n : GameModel T) : Type 0 where
  pub legal : (h : List Turn) → IsHistory m m.root h ↔ IsHistory n n.root h
  pub rank : (h : List Turn) → m.rank (after_history m m.root h) ≡ n.rank (after_history n n.root h)
  pub moves : (h : List Turn) (side : Side) → m.moves side (after_history m m.root h) ≡ n.moves side (after_history n n.root h)
  pub label : (h : List Turn) (side : Side) (i : ℕ) → m.label side (after_history m m.root h) i ≡ n.label side (after_history n n.root h) i
  pub draws : (h : List Turn) (a b : ℕ) → m.draws (after_history m m.root h) a b ≡ n.draws (after_history n n.root h) a b
  pub chance : (h : List Turn) (a b d : ℕ) → m.chance (after_history m m.root h) a b d ≡ n.chance (after_history n n.root h) a b d
  pub paid : (h : List Turn) → paid_along m m.root h ≡ paid_along n n.root h
  -- so any two plans lead to the same sum in both
  pub plans : (one two : HistoryPlan) → plans_sum m one two (m.rank m.root) m.root [] (pos 0) ≡ plans_sum n one two (n.rank n.root) n.root [] (pos 0)

-- the position with another pay
abbrev pub with_pay : Pay → Setting → Setting
with_pay pay g = record g { pay = pay }

-- the bounds of both sides where one of them names its move first
abbrev pub HasSameSerialBounds : {S T : Type 0} → GameModel S → GameModel T → Type 0
HasSameSerialBounds m n = (side : Side) → serial_bound m side m.root ≡ serial_bound n side n.root
