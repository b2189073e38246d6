use Rattle.std.proofs.Common.{arith, ◌≡◌, ◌<◌, ◌≤◌, ℕ, suc, List, [], ◌∷◌, length, get_or, refl, sym}
use Rattle.std.specs.Prelude.{slice_index}
use Rattle.std.specs.List.{sum_by}
use Rattle.std.proofs.lemmas.List.{get_or-take}
use Rattle.std.proofs.lemmas.List.Sums.{sum_by-cons}
use Rattle.goofspiel.specs.Cards.{cards, places}
use Rattle.goofspiel.specs.laws.Drawn.{drawn_sound, place_small, drawn_prize_is, left_is, prize_at}
use Rattle.goofspiel.proofs.drawn.GoofspielDrawn.prizes_left.Goals as goal

pub bounds-self-s : goal.bounds-self-s
bounds-self-s c = place_small c.args.self.now.setting c.args.self.now.valid c.args.s (drawn_sound c.args.self.now.setting c.args.self.now.valid c.args.s c.requires)

pub sum_at-requires : goal.sum_at-requires
sum_at-requires c = (drawn_sound c.args.self.now.setting c.args.self.now.valid c.args.s c.requires).undrawn_small

-- sums of equal numbers
same_sum : (f g : ℕ → ℕ) (xs : List ℕ) → ((i : ℕ) → i < length xs → f (get_or xs i 0) ≡ g (get_or xs i 0)) → sum_by f xs ≡ sum_by g xs
same_sum f g [] same = refl
same_sum f g (x ∷ xs) same =
    omega (arith, sum_by-cons f x xs, sum_by-cons g x xs, same 0 (omega arith), same_sum f g xs (λ i l. same (suc i) (omega arith)))

pub returns-clause-is : goal.returns-clause-is
returns-clause-is c =
    let g = c.args.self.now.setting in
    let s = c.args.s in
    let here = drawn_sound g c.args.self.now.valid s c.requires in
    let some : 1 ≤ length (cards s.hands.one) = let r = c.rank.ensures in let left = c.if-rank-eq0.false in omega (arith, r, left) in
    let prize = drawn_prize_is g c.args.self.now.valid s here some in
    let later = same_sum (slice_index g.prizes) (prize_at g) (places s.undrawn)
    (λ i l. sym (get_or-take g.count g.prizes (get_or (places s.undrawn) i 0) 0 (here.undrawn_below i l))) in
    let is = left_is g c.args.self.now.valid s here some in
    omega (arith, is, later, prize, c.sum_at.ensures.is)
