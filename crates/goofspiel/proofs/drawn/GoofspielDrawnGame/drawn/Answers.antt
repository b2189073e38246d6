use Rattle.std.proofs.Common.{arith, ◌≡◌, ◌<◌, ℕ, length, get_or, ap, sym, ◌∙◌}
use Rattle.std.proofs.lemmas.List.{get_or_past}
use Rattle.goofspiel.specs.declared.Setting.{Setting}
use Rattle.goofspiel.specs.declared.State.{State}
use Rattle.goofspiel.specs.declared.drawn.DrawnState.{DrawnState}
use Rattle.goofspiel.specs.Cards.{cards, places, packed_from}
use Rattle.goofspiel.specs.laws.Drawn.{members_empty}
use Rattle.goofspiel.specs.laws.Drawn.{IsDrawnSound, drawn_sound, hands_small, place_small, drawn_prize_is, prize_at, nothing_left, some_left, same_drawn_state}
use Rattle.goofspiel.specs.Position.{IsPosition}
use Rattle.goofspiel.specs.Rules.{after_bids, deal_of, state_of}
use Rattle.goofspiel.proofs.drawn.GoofspielDrawnGame.drawn.Goals as goal

pub bounds-self-s : goal.bounds-self-s
bounds-self-s c = place_small c.args.self.now.setting c.args.self.now.valid c.args.s (drawn_sound c.args.self.now.setting c.args.self.now.valid c.args.s c.requires.reachable)

pub play-hands-requires-clause-small : goal.play-hands-requires-clause-small
play-hands-requires-clause-small c = hands_small c.args.self.now.setting c.args.self.now.valid c.args.s (drawn_sound c.args.self.now.setting c.args.self.now.valid c.args.s c.requires.reachable)

-- the prize of the array is that of the list
hands_are : (g : Setting) (p : IsPosition g) (s : DrawnState) (a b : ℕ) (hands : State) → IsDrawnSound g s → a < length (cards s.hands.one)
    → hands ≡ state_of (after_bids g.pay (get_or g.prizes s.place 0) (deal_of s.hands) a b) → hands ≡ state_of (after_bids g.pay (prize_at g s.place) (deal_of s.hands) a b)
hands_are g p s a b hands here some is = is ∙ ap (λ (prize : ℕ). state_of (after_bids g.pay prize (deal_of s.hands) a b)) (drawn_prize_is g p s here (omega arith))

pub returns-then-s-eq0 : goal.returns-then-s-eq0
returns-then-s-eq0 c =
    let s = c.args.s in
    let here = drawn_sound c.args.self.now.setting c.args.self.now.valid s c.requires.reachable in
    let none : length (places s.undrawn) ≡ 0 = ap (λ (set : ℕ). length (places set)) c.if-s-eq0.true ∙ ap length (members_empty 13 0) in
    same_drawn_state _ _ (hands_are c.args.self.now.setting c.args.self.now.valid s c.args.a c.args.b c.play-hands.result here c.requires.one c.play-hands.ensures)
    (sym (ap (packed_from 0) (nothing_left s.undrawn c.args.d none (omega (arith, c.requires.draw))))) (sym (get_or_past (places s.undrawn) c.args.d 0 (omega arith)))

pub take_out-place-requires-clause-small : goal.take_out-place-requires-clause-small
take_out-place-requires-clause-small c = (drawn_sound c.args.self.now.setting c.args.self.now.valid c.args.s c.requires.reachable).undrawn_small

pub take_out-place-requires-clause-place : goal.take_out-place-requires-clause-place
take_out-place-requires-clause-place c =
    omega (arith, some_left c.args.s.undrawn (drawn_sound c.args.self.now.setting c.args.self.now.valid c.args.s c.requires.reachable).undrawn_small c.if-s-eq0.false, c.requires.draw)

pub returns : goal.returns
returns c =
    let here = drawn_sound c.args.self.now.setting c.args.self.now.valid c.args.s c.requires.reachable in
    same_drawn_state _ _ (hands_are c.args.self.now.setting c.args.self.now.valid c.args.s c.args.a c.args.b c.play-hands.result here c.requires.one c.play-hands.ensures)
    c.take_out-place.ensures.rest c.take_out-place.ensures.number
