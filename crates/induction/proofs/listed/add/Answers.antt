use Rattle.std.proofs.Common.{rules, ◌≡◌, ◌<◌, ◌≤◌, length, false, arith}
use Rattle.induction.specs.Places.{is_put}
use Rattle.induction.proofs.PlaceLemmas.{none_put, put_more}
use Rattle.induction.proofs.ListedLemmas.{listed_more, listed_full}
use Rattle.induction.proofs.listed.add.Goals as goal

pub returns-then-len-rows-clause-err : goal.returns-then-len-rows-clause-err
returns-then-len-rows-clause-err g c =
    let m = g.G.Game.model c.args.g in
    let number = (g.G.Game.numbering c.args.g).place in
    let zero : c.word.result ≡ 0 = omega arith in
    let new : is_put c.args.known.now (number c.args.s) ≡ false = rw (← c.place-place.ensures) (none_put c.args.known.now c.place-place.result c.word.result c.word.ensures zero) in
    let long : c.len.result ≡ length c.args.states.now.items = search rules in
    let full : c.args.rows ≤ length c.args.states.now.items = omega (arith, long, c.if-len-rows.true) in
    λ b. listed_full m number c.args.rows (is_put c.args.known.now) c.args.states.now.items c.requires.listed c.args.s c.requires.reachable c.if-is_decided.ensures new full

pub returns-clause-listed : goal.returns-clause-listed
returns-clause-listed g c =
    let m = g.G.Game.model c.args.g in
    let number = (g.G.Game.numbering c.args.g).place in
    let zero : c.word.result ≡ 0 = omega arith in
    let new : is_put c.args.known.now (number c.args.s) ≡ false = rw (← c.place-place.ensures) (none_put c.args.known.now c.place-place.result c.word.result c.word.ensures zero) in
    let long : c.len.result ≡ length c.args.states.now.items = search rules in
    let room : length c.args.states.now.items < c.args.rows = omega (arith, long, c.if-len-rows.false) in
    rw c.in_ok-push.ensures.items
    (listed_more m number c.args.rows (is_put c.args.known.now) c.args.states.now.items c.requires.listed c.args.s c.requires.reachable c.if-is_decided.ensures new (is_put c.put.new.self)
    (rw c.place-place.ensures at (put_more c.args.known.now c.put.new.self c.place-place.result 1 (omega arith) c.in_ok-put.ensures)) room)
