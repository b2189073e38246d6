use Rattle.std.proofs.Common.{rules, ◌≡◌, List, ℕ, length, get_or, sym, ap, ◌∙◌, arith}
use Rattle.induction.specs.Listed.{GoesOn}
use Rattle.induction.specs.Places.{is_put}
use Rattle.plan_book.specs.Children.{children_of}
use Rattle.induction.specs.declared.PlannedState.{PlannedState}
use Rattle.induction.proofs.FollowLemmas.{among_first, among_more, among_done, child_reachable, next_goes_on}
use Rattle.induction.proofs.follow.plan_next.Goals as goal
use Rattle.induction.proofs.follow.plan_next.Given.{Over}
use Rattle.induction.proofs.follow.plan_next.Goals.{After-index-s}

is_next : (g : Over) (c : After-index-s g) → c.index-s.result.now ≡ get_or c.args.walk.now.met.items (length c.args.walk.now.states.items) c.index-s.result.now
is_next g c = search rules

goes : (g : Over) (c : After-index-s g) → GoesOn (g.G.Game.model c.args.g) c.index-s.result.now
goes g c = next_goes_on (g.G.Game.model c.args.g) (g.G.Game.numbering c.args.g).place c.args.side c.args.total (is_put c.args.walk.now.seen) c.args.walk.now.met.items c.args.walk.now.states.items
    c.requires.followed.are_met (length c.args.walk.now.states.items) c.index-s.result.now c.requires.left (is_next g c)

pub moves-requires : goal.moves-requires
moves-requires g c = (goes g (goal.at.moves-requires g c).After-index-s).reachable

pub whole_weights-requires : goal.whole_weights-requires
whole_weights-requires g c =
    let on = goes g (goal.at.whole_weights-requires g c).After-index-s in
    rw c.moves.ensures ((g.met.G.Game.lawful c.args.g).other_moves c.args.side c.index-s.result.now on.reachable on.no_end)

pub children-requires : goal.children-requires
children-requires g c = (goes g (goal.at.children-requires g c).After-index-s).reachable

pub key-requires : goal.key-requires
key-requires g c = (goes g (goal.at.key-requires g c).After-index-s).reachable

pub rank-requires : goal.rank-requires
rank-requires g c = (goes g (goal.at.rank-requires g c).After-index-s).reachable

pub loop-child-init : goal.loop-child-init
loop-child-init g c =
    let m = g.G.Game.model c.args.g in
    let states = c.args.walk.now.states.items in
    let s = c.index-s.result.now in
    let p : PlannedState g.row.G-State.Denot = record { state = s; key = c.key.result; rank = c.rank.result; weights = c.from_vec-weights.result } in
    let items : c.deref-child-items.result.now ≡ children_of m c.args.side c.from_vec-weights.result s =
    c.deref-child-items.ensures.value ∙ c.in_ok-below.ensures ∙ ap (λ (w : List ℕ). children_of m c.args.side w s) (c.as_slice.ensures.value ∙ sym c.from_vec-weights.ensures) in
    rw c.in_ok-push.ensures.items
    (among_first m (g.G.Game.numbering c.args.g).place c.args.side c.args.total (is_put c.args.walk.now.seen) c.args.walk.now.met.items states p c.deref-child-items.result.now
    c.requires.followed c.requires.left (is_next g (goal.at.loop-child-init g c).After-index-s) (sym c.key.ensures) (sym c.rank.ensures)
    (rw (c.from_vec-weights.ensures, ← c.moves.ensures) c.in_ok-weights.ensures) items)

pub meet-requires : goal.meet-requires
meet-requires g c =
    child_reachable (g.G.Game.model c.args.g) (g.met.G.Game.lawful c.args.g) (g.G.Game.numbering c.args.g) (g.met.G.Game.numbered c.args.g) c.args.side c.args.total c.args.walk.now.states.items
    (is_put c.args.walk.now.seen) (is_put c.loop-child.walk.seen) (length c.args.walk.now.met.items) c.loop-child.walk.met.items c.loop-child.walk.states.items c.deref-child-items.result.now
    c.loop-child.child-index c.loop-child.invariant c.child-item.result c.loop-child-test.true c.child-item.is

pub loop-child-preserved : goal.loop-child-preserved
loop-child-preserved g c =
    among_more (g.G.Game.model c.args.g) (g.met.G.Game.lawful c.args.g) (g.G.Game.numbering c.args.g) (g.met.G.Game.numbered c.args.g) c.args.side c.args.total c.args.walk.now.states.items
    (is_put c.args.walk.now.seen) (is_put c.loop-child.walk.seen) (length c.args.walk.now.met.items) c.loop-child.walk.met.items c.loop-child.walk.states.items c.deref-child-items.result.now
    c.loop-child.child-index c.loop-child.invariant (is_put c.meet.new.seen) c.meet.new.met.items c.child-item.result c.loop-child-test.true c.child-item.is c.in_ok-meet.ensures

pub returns-clause-followed : goal.returns-clause-followed
returns-clause-followed g c =
    among_done (g.G.Game.model c.args.g) (g.met.G.Game.lawful c.args.g) (g.G.Game.numbering c.args.g) (g.met.G.Game.numbered c.args.g) c.args.side c.args.total c.args.walk.now.states.items
    (is_put c.args.walk.now.seen) (is_put c.loop-child.walk.seen) (length c.args.walk.now.met.items) c.loop-child.walk.met.items c.loop-child.walk.states.items c.deref-child-items.result.now
    c.loop-child.child-index c.loop-child.invariant (omega arith)
