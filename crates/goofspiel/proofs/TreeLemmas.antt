-- Goofspiel whose prizes are paid when they are won is played as that which pays the score at an end.
use Rattle.std.proofs.Common.{◌≡◌, ◌↔◌, ℕ, zero, suc, ◌-◌, ◌*◌, ◌/◌, max, ℤ, pos, ◌+ℤ◌, ◌-ℤ◌, ◌*ℤ◌, cond, nat_eq, List, [], ◌∷◌, ◌++◌, length, get_or, refl, ap, ap₂, ◌∙◌, arith}
use Rattle.std.proofs.lemmas.Int.{ints}
use Rattle.sim_game.specs.declared.Side.{Side}
use Rattle.sim_game.specs.declared.Side.TheVariants.{One, Two}
use Rattle.sim_game.specs.Model.{GameModel, Turn, IsTurn, IsHistory, after_turn, after_history, whole_chance}
use Rattle.sums.specs.Sums.{sum_below}
use Rattle.goofspiel.specs.declared.drawn.DrawnState.{DrawnState}
use Rattle.goofspiel.specs.declared.Pay.TheVariants.{Margin, Prizes}
use Rattle.goofspiel.specs.declared.Setting.{Setting}
use Rattle.goofspiel.specs.declared.State.{State}
use Rattle.goofspiel.specs.Cards.{cards, packed, places, packed_from}
use Rattle.goofspiel.specs.DrawnRules.{drawn_game}
use Rattle.goofspiel.specs.Position.{prizes_of}
use Rattle.goofspiel.specs.Rules.{goofspiel_game, won, won_by, hand_of, deal_of, state_of, after_bids}
use Rattle.goofspiel.specs.SameTree.{HistoryPlan, HasSameTree, paid_along, plans_sum, with_pay}
use Rattle.std.specs.List.{remove}

-- ---- states of two games that are alike but for what was paid
-- what two states share from which both games go on alike; the first game still pays so much more than the second
pub record IsAlike {S T : Type 0} (m : GameModel S) (n : GameModel T) (alike : S → T → ℤ → Type 0) : Type 0 where
  pub root : alike m.root n.root (pos 0)
  pub rank : (s : S) (t : T) (more : ℤ) → alike s t more → m.rank s ≡ n.rank t
  pub moves : (s : S) (t : T) (more : ℤ) → alike s t more → (side : Side) → m.moves side s ≡ n.moves side t
  pub label : (s : S) (t : T) (more : ℤ) → alike s t more → (side : Side) (i : ℕ) → m.label side s i ≡ n.label side t i
  pub draws : (s : S) (t : T) (more : ℤ) → alike s t more → (a b : ℕ) → m.draws s a b ≡ n.draws t a b
  pub chance : (s : S) (t : T) (more : ℤ) → alike s t more → (a b d : ℕ) → m.chance s a b d ≡ n.chance t a b d
  pub payoff : (s : S) (t : T) (more : ℤ) → alike s t more → m.payoff s ≡ n.payoff t +ℤ more
  pub turn : (s : S) (t : T) (more : ℤ) → alike s t more → (u : Turn)
      → alike (after_turn m s u) (after_turn n t u) ((more +ℤ n.reward t u.one u.two u.draw) -ℤ m.reward s u.one u.two u.draw)

module _ {S T : Type 0} (m : GameModel S) (n : GameModel T) (alike : S → T → ℤ → Type 0) (same : IsAlike m n alike) where
  same_turn : (s : S) (t : T) (more : ℤ) → alike s t more → (u : Turn) → IsTurn m s u ↔ IsTurn n t u
  same_turn s t more r u =
      let one = same.moves s t more r One in
      let two = same.moves s t more r Two in
      let draws = same.draws s t more r u.one u.two in (
        λ turn. record {
          one_below = let l = turn.one_below in omega (arith, one, l);
          two_below = let l = turn.two_below in omega (arith, two, l);
          draw_below = let l = turn.draw_below in omega (arith, draws, l);
        },
        λ turn. record {
          one_below = let l = turn.one_below in omega (arith, one, l);
          two_below = let l = turn.two_below in omega (arith, two, l);
          draw_below = let l = turn.draw_below in omega (arith, draws, l);
        },
      )

  same_legal : (s : S) (t : T) (more : ℤ) → alike s t more → (h : List Turn) → IsHistory m s h ↔ IsHistory n t h
  same_legal s t more r [] = (λ h. h, λ h. h)
  same_legal s t more r (u ∷ h) =
      let first = same_turn s t more r u in
      let rest = same_legal (after_turn m s u) (after_turn n t u) _ (same.turn s t more r u) h in
      (λ legal. (first.0 legal.0, rest.0 legal.1), λ legal. (first.1 legal.0, rest.1 legal.1))

  -- what holds of alike states holds after each history
  same_after : (P : S → T → Type 0) → ((s : S) (t : T) (more : ℤ) → alike s t more → P s t)
      → (s : S) (t : T) (more : ℤ) → alike s t more → (h : List Turn) → P (after_history m s h) (after_history n t h)
  same_after P here s t more r [] = here s t more r
  same_after P here s t more r (u ∷ h) = same_after P here (after_turn m s u) (after_turn n t u) _ (same.turn s t more r u) h

  same_paid : (s : S) (t : T) (more : ℤ) → alike s t more → (h : List Turn) → paid_along m s h ≡ paid_along n t h +ℤ more
  same_paid s t more r [] = same.payoff s t more r
  same_paid s t more r (u ∷ h) =
      let rest = same_paid (after_turn m s u) (after_turn n t u) _ (same.turn s t more r u) h in omega (arith, ints, rest)

  same_end : (s : S) (t : T) (more paid other : ℤ) → alike s t more → paid +ℤ more ≡ other → paid +ℤ m.payoff s ≡ other +ℤ n.payoff t
  same_end s t more paid other r e = let p = same.payoff s t more r in omega (arith, ints, p, e)

  same_plans : (one two : HistoryPlan) (turns : ℕ) (s : S) (t : T) (h : List Turn) (more paid other : ℤ) → alike s t more → paid +ℤ more ≡ other
      → plans_sum m one two turns s h paid ≡ plans_sum n one two turns t h other
  same_plans one two zero s t h more paid other r e = same_end s t more paid other r e
  same_plans one two (suc turns) s t h more paid other r e =
      let next : (a b d : ℕ) → plans_sum m one two turns (m.drawn s a b d) (h ++ record { one = a; two = b; draw = d } ∷ []) (paid +ℤ m.reward s a b d)
      ≡ plans_sum n one two turns (n.drawn t a b d) (h ++ record { one = a; two = b; draw = d } ∷ []) (other +ℤ n.reward t a b d) =
      λ a b d. same_plans one two turns (m.drawn s a b d) (n.drawn t a b d) (h ++ record { one = a; two = b; draw = d } ∷ []) ((more +ℤ n.reward t a b d) -ℤ m.reward s a b d)
      (paid +ℤ m.reward s a b d) (other +ℤ n.reward t a b d) (same.turn s t more r (record { one = a; two = b; draw = d })) (omega (arith, ints, e)) in
      λ i. cond (nat_eq (same.rank s t more r i) 0)
      (same_end s t more paid other r e i)
      (sum_below (same.moves s t more r One i) (λ a. sum_below (same.moves s t more r Two i) (λ b. sum_below (same.draws s t more r a b i) (λ d.
      pos (one h a * two h b * same.chance s t more r a b d i) *ℤ next a b d i))))

  same_tree : HasSameTree m n
  same_tree = record {
    legal = same_legal m.root n.root (pos 0) same.root;
    rank = same_after (λ s t. m.rank s ≡ n.rank t) same.rank m.root n.root (pos 0) same.root;
    moves = same_after (λ s t. (side : Side) → m.moves side s ≡ n.moves side t) same.moves m.root n.root (pos 0) same.root;
    label = same_after (λ s t. (side : Side) (i : ℕ) → m.label side s i ≡ n.label side t i) same.label m.root n.root (pos 0) same.root;
    draws = same_after (λ s t. (a b : ℕ) → m.draws s a b ≡ n.draws t a b) same.draws m.root n.root (pos 0) same.root;
    chance = same_after (λ s t. (a b d : ℕ) → m.chance s a b d ≡ n.chance t a b d) same.chance m.root n.root (pos 0) same.root;
    paid = λ h. let e = same_paid m.root n.root (pos 0) same.root h in omega (arith, ints, e);
    plans = λ one two.
        ap (λ (k : ℕ). plans_sum m one two k m.root [] (pos 0)) (same.rank m.root n.root (pos 0) same.root)
        ∙ same_plans one two (n.rank n.root) m.root n.root [] (pos 0) (pos 0) (pos 0) same.root (omega (arith, ints));
  }

-- ---- hands and scores
-- the same hands, and a score that is higher by so much
pub record HasSameHands (s t : State) (more : ℤ) : Type 0 where
  pub one : s.one ≡ t.one
  pub two : s.two ≡ t.two
  pub score : s.score ≡ t.score +ℤ more

same_hand : (s t : State) (more : ℤ) → HasSameHands s t more → (side : Side) → hand_of side (deal_of s) ≡ hand_of side (deal_of t)
same_hand s t more r One = ap cards r.one
same_hand s t more r Two = ap cards r.two

-- the second state pays a prize that the first adds to its score
hands_turn : (s t : State) (more : ℤ) → HasSameHands s t more → (first second a b : ℕ) → first ≡ second
    → HasSameHands (state_of (after_bids Margin first (deal_of s) a b)) (state_of (after_bids Prizes second (deal_of t) a b)) ((more +ℤ won_by second (deal_of t) a b) -ℤ pos 0)
hands_turn s t more r first second a b e =
    let win : won_by second (deal_of s) a b ≡ won_by second (deal_of t) a b = ap₂ (λ (x y : ℕ). won (get_or (cards x) a 0) (get_or (cards y) b 0) second) r.one r.two in
    let same : won_by first (deal_of s) a b ≡ won_by second (deal_of s) a b = ap (λ (prize : ℕ). won_by prize (deal_of s) a b) e in
    record {
      one = ap (λ (hand : ℕ). packed (remove (cards hand) a)) r.one;
      two = ap (λ (hand : ℕ). packed (remove (cards hand) b)) r.two;
      score = let before = r.score in omega (arith, ints, before, same, win);
    }

pub known_alike : (g : Setting) → IsAlike (goofspiel_game (with_pay Margin g)) (goofspiel_game (with_pay Prizes g)) HasSameHands
known_alike g = record {
  root = record { one = refl; two = refl; score = omega (arith, ints) };
  rank = λ s t more r. ap (λ (hand : ℕ). length (cards hand)) r.one;
  moves = λ s t more r side. ap length (same_hand s t more r side);
  label = λ s t more r side i. ap (λ (hand : List ℕ). get_or hand i 0) (same_hand s t more r side);
  draws = λ s t more r a b. refl;
  chance = λ s t more r a b d. refl;
  payoff = λ s t more r. r.score;
  turn = λ s t more r u. hands_turn s t more r _ _ u.one u.two
      (ap (λ (hand : ℕ). get_or (prizes_of g) (length (prizes_of g) - length (cards hand)) 0) r.one);
}

pub known_tree : (g : Setting) → HasSameTree (goofspiel_game (with_pay Margin g)) (goofspiel_game (with_pay Prizes g))
known_tree g = same_tree (goofspiel_game (with_pay Margin g)) (goofspiel_game (with_pay Prizes g)) HasSameHands (known_alike g)

-- ---- drawn prizes
pub record HasSameDeal (s t : DrawnState) (more : ℤ) : Type 0 where
  pub hands : HasSameHands s.hands t.hands more
  pub undrawn : s.undrawn ≡ t.undrawn
  pub place : s.place ≡ t.place

pub drawn_alike : (g : Setting) → IsAlike (drawn_game (with_pay Margin g)) (drawn_game (with_pay Prizes g)) HasSameDeal
drawn_alike g = record {
  root = record { hands = record { one = refl; two = refl; score = omega (arith, ints) }; undrawn = refl; place = refl };
  rank = λ s t more r. ap (λ (hand : ℕ). length (cards hand)) r.hands.one;
  moves = λ s t more r side. ap length (same_hand s.hands t.hands more r.hands side);
  label = λ s t more r side i. ap (λ (hand : List ℕ). get_or hand i 0) (same_hand s.hands t.hands more r.hands side);
  draws = λ s t more r a b. ap (λ (set : ℕ). max 1 (length (places set))) r.undrawn;
  chance = λ s t more r a b d. ap (λ (set : ℕ). whole_chance / max 1 (length (places set))) r.undrawn;
  payoff = λ s t more r. r.hands.score;
  turn = λ s t more r u. record {
    hands = hands_turn s.hands t.hands more r.hands _ _ u.one u.two (ap (λ (place : ℕ). get_or (prizes_of g) place 0) r.place);
    undrawn = ap (λ (set : ℕ). packed_from 0 (remove (places set) u.draw)) r.undrawn;
    place = ap (λ (set : ℕ). get_or (places set) u.draw 0) r.undrawn;
  };
}

pub drawn_tree : (g : Setting) → HasSameTree (drawn_game (with_pay Margin g)) (drawn_game (with_pay Prizes g))
drawn_tree g = same_tree (drawn_game (with_pay Margin g)) (drawn_game (with_pay Prizes g)) HasSameDeal (drawn_alike g)
