-- A walk through the states that rows reach, one child after another.
use Rattle.std.proofs.Common.{◌≡◌, ℕ, ◌+◌, ◌<◌, ◌≤◌, Bool, true, false, cond, Option, Some, List, [], ◌∷◌, zero, suc, length, eqb, get_or, slice_get, option_and_then, option_map, ◌⊎◌, inl, inr, refl, sym, ap, subst, ◌∙◌, arith}
use Rattle.std.proofs.lemmas.Bool.{cases_eq, cases_lt}
use Rattle.std.specs.Option.{IsSome, IfSome}
use Rattle.std.specs.Prelude.{IsSomeAnd}
use Rattle.plan_book.proofs.ExpectedLemmas.{is_same, is_other}
use Rattle.sim_game.specs.declared.Side.{Side}
use Rattle.sim_game.specs.declared.Side.TheVariants.{One, Two}
use Rattle.sim_game.specs.Model.{GameModel, Turn, IsTurn, IsGame, after_turn}
use Rattle.plan_book.specs.declared.SheetRow.{SheetRow}
use Rattle.plan_book.specs.Children.{children_of}
use Rattle.plan_book.specs.Books.{ArePlaces, best_entry, best_row, row_of}
use Rattle.plan_book.specs.declared.Entry.{Entry}
use Rattle.plan_book.specs.Gathered.{IsFollowed, IsGathered}
use Rattle.plan_book.specs.Sheets.{IsKeptTurn, IsReached}
use Rattle.sim_game.specs.Sides.{other_side, own_move, turn_of, draws_of, child_of}
use Rattle.plan_book.proofs.BestLemmas.{reached_turn}
use Rattle.plan_book.proofs.GatherLemmas.{child_place, item_child, item_at}
use Rattle.plan_book.proofs.SheetLemmas.{reached_reachable}
use Rattle.sim_game.proofs.SideLemmas.{side_turn}

-- the walk from a state after so many of its children: what was found before it, with the state itself, and now
pub record IsWalking {S : Type 0} (m : GameModel S) (side : Side) (rows : ℕ → Option SheetRow) (s : S) (items : List S) (index : ℕ) (before now : ℕ → Option SheetRow) : Type 0 where
  pub grows : (key : ℕ) → IsSome (before key) → IsSome (now key)
  pub here : IsSome (now (m.key s))
  pub closed : (t : S) → IsReached m side rows t → IsSome (now (m.key t)) → IsSome (before (m.key t)) ⊎ ((m.key t ≡ m.key s) ⊎ IsFollowed m side rows now t)
  pub done : (k : ℕ) (d : S) → k < index → IsSome (rows (m.key (get_or items k d))) → IsSome (now (m.key (get_or items k d)))

same_item : {X : Type 0} (xs : List X) (k : ℕ) (d e : X) → k < length xs → get_or xs k d ≡ get_or xs k e
same_item [] k d e h = absurd (omega arith)
same_item (x ∷ xs) zero d e h = refl
same_item (x ∷ xs) (suc k) d e h = same_item xs k d e (omega arith)

still_some : (here : Bool) (r : SheetRow) (o : Option SheetRow) → IsSome o → IsSome (cond here (Some r) o)
still_some true r o h = refl
still_some false r o h = h

abbrev pub reply_move : Side → Turn → ℕ
reply_move One t = t.two
reply_move Two t = t.one

pub record AreParts {S : Type 0} (m : GameModel S) (side : Side) (s : S) (t : Turn) : Type 0 where
  pub own_below : own_move side t < m.moves side s
  pub reply_below : reply_move side t < m.moves (other_side side) s
  pub draw_below : t.draw < draws_of m side s (own_move side t) (reply_move side t)
  pub is : after_turn m s t ≡ child_of m side s (own_move side t) (reply_move side t) t.draw

pub turn_parts : {S : Type 0} (m : GameModel S) (side : Side) (s : S) (t : Turn) → IsTurn m s t → AreParts m side s t
turn_parts m One s t h = record { own_below = h.one_below; reply_below = h.two_below; draw_below = h.draw_below; is = refl }
turn_parts m Two s t h = record { own_below = h.two_below; reply_below = h.one_below; draw_below = h.draw_below; is = refl }

-- a child by an own move of the row's is reached, by a turn that lowers the rank
pub record IsBelow {S : Type 0} (m : GameModel S) (side : Side) (rows : ℕ → Option SheetRow) (s child : S) : Type 0 where
  pub reached : IsReached m side rows child
  pub lower : m.rank child < m.rank s

pub own_move_is : (side : Side) (own reply draw : ℕ) → own_move side (turn_of side own reply draw) ≡ own
own_move_is One own reply draw = refl
own_move_is Two own reply draw = refl

pub item_below : {S : Type 0} (m : GameModel S) → IsGame m → (side : Side) (rows : ℕ → Option SheetRow) (s : S) (weights : List ℕ) (row : SheetRow) (k : ℕ) (child : S)
    → IsReached m side rows s → rows (m.key s) ≡ Some row → row.weights ≡ weights → k < length (children_of m side weights s)
    → child ≡ get_or (children_of m side weights s) k child → IsBelow m side rows s child
item_below m game side rows s weights row k child r is same h item =
    let c = item_child m side weights s k child h in
    let t : Turn = turn_of side c.own c.reply c.draw in
    let legal : IsTurn m s t = side_turn m side s c.own c.reply c.draw c.own_below c.reply_below c.draw_below in
    let turn : IsKeptTurn m side rows s t = record {
      turn = legal;
      played = subst (λ (o : Option SheetRow). IsSomeAnd o (λ x. 1 ≤ get_or x.weights (own_move side t) 0)) (sym is) (rw (own_move_is side c.own c.reply c.draw, same) c.positive);
    } in
    let there : child ≡ after_turn m s t = item ∙ c.is in
    record {
      reached = rw there (reached_turn m side rows s t r turn);
      lower = rw there (game.rank_falls s t (reached_reachable m side rows s r) legal);
    }

module _ {S : Type 0} (m : GameModel S) (side : Side) (rows : ℕ → Option SheetRow) where
  -- nothing to find
  pub gathered_nothing : (s : S) (before : ℕ → Option SheetRow) → (IsSome (rows (m.key s)) → IsSome (before (m.key s))) → IsGathered m side rows s before before
  gathered_nothing s before h = record {
    grows = λ key some. some;
    here = h;
    closed = λ t r some. inl some;
  }

  -- the state itself
  pub walk_start : (s : S) (items : List S) (row : SheetRow) (before now : ℕ → Option SheetRow) → ((key : ℕ) → now key ≡ cond (eqb (m.key s) key) (Some row) (before key))
      → IsWalking m side rows s items 0 before now
  walk_start s items row before now is = record {
    grows = λ key some. subst IsSome (sym (is key)) (still_some (eqb (m.key s) key) row (before key) some);
    here = subst IsSome (sym (is (m.key s) ∙ ap (λ (b : Bool). cond b (Some row) (before (m.key s))) (is_same (m.key s) (m.key s) refl))) refl;
    closed = λ t r' some. elim (cases_eq (m.key s) (m.key t)) [
      | inl same ↦ inr (inl (sym same))
      | inr other ↦ inl (subst IsSome (is (m.key t) ∙ ap (λ (b : Bool). cond b (Some row) (before (m.key t))) (is_other (m.key s) (m.key t) other)) some)
    ];
    done = λ k d h row'. absurd (omega arith);
  }

  followed_more : (now later : ℕ → Option SheetRow) (t : S) → ((key : ℕ) → IsSome (now key) → IsSome (later key)) → IsFollowed m side rows now t → IsFollowed m side rows later t
  followed_more now later t grows h = λ u turn row. grows _ (h u turn row)

  -- one more child
  pub walk_more : (s : S) (items : List S) (index : ℕ) (child : S) (before now later : ℕ → Option SheetRow) → index < length items → child ≡ get_or items index child
      → IsWalking m side rows s items index before now → IsGathered m side rows child now later → IsWalking m side rows s items (index + 1) before later
  walk_more s items index child before now later h item walk found = record {
    grows = λ key some. found.grows key (walk.grows key some);
    here = found.grows _ walk.here;
    closed = λ t r some. elim (found.closed t r some) [
      | inl old ↦ elim (walk.closed t r old) [
        | inl first ↦ inl first
        | inr rest ↦ inr (elim rest [ inl same ↦ inl same | inr followed ↦ inr (followed_more now later t found.grows followed) ])
      ]
      | inr followed ↦ inr (inr followed)
    ];
    done = λ k d u row. elim (cases_lt k index) [
      | inl earlier ↦ found.grows _ (walk.done k d earlier row)
      | inr last ↦
          let same : k ≡ index = omega arith in
          let it : get_or items k d ≡ child = ap (λ (n : ℕ). get_or items n d) same ∙ same_item items index d child h ∙ sym item in
          subst (λ (x : S). IsSome (later (m.key x))) (sym it) (found.here (subst (λ (x : S). IsSome (rows (m.key x))) it row))
    ];
  }

  all_followed : (weights : List ℕ) (row : SheetRow) (s : S) (now : ℕ → Option SheetRow) → IsGame m → rows (m.key s) ≡ Some row → row.weights ≡ weights
      → ((k : ℕ) (d : S) → k < length (children_of m side weights s) → IsSome (rows (m.key (get_or (children_of m side weights s) k d)))
      → IsSome (now (m.key (get_or (children_of m side weights s) k d))))
      → IsFollowed m side rows now s
  all_followed weights row s now game is same_weights done = λ u turn some.
      let parts = turn_parts m side s u turn.turn in
      let played : 1 ≤ get_or row.weights (own_move side u) 0 = subst (λ (o : Option SheetRow). IsSomeAnd o (λ x. 1 ≤ get_or x.weights (own_move side u) 0)) is turn.played in
      let place = child_place m side weights s (own_move side u) (reply_move side u) u.draw parts.own_below parts.reply_below parts.draw_below (rw (← same_weights) played) in
      let it : get_or (children_of m side weights s) place.0 s ≡ after_turn m s u = place.2 s ∙ sym parts.is in
      subst (λ (x : S). IsSome (now (m.key x))) it (done place.0 s place.1 (subst (λ (x : S). IsSome (rows (m.key x))) (sym it) some))

  -- all children
  pub walk_end : (s : S) (weights : List ℕ) (row : SheetRow) (before now : ℕ → Option SheetRow) → IsGame m → IsReached m side rows s → rows (m.key s) ≡ Some row → row.weights ≡ weights
      → IsWalking m side rows s (children_of m side weights s) (length (children_of m side weights s)) before now → IsGathered m side rows s before now
  walk_end s weights row before now game r is same_weights walk = record {
    grows = walk.grows;
    here = λ some. walk.here;
    closed = λ t r' some. elim (walk.closed t r' some) [
      | inl old ↦ inl old
      | inr rest ↦ inr (elim rest [
        | inl same ↦
            let it : s ≡ t = game.same_key s t (reached_reachable m side rows s r) (reached_reachable m side rows t r') (sym same) in
            subst (IsFollowed m side rows now) it (all_followed weights row s now game is same_weights walk.done)
        | inr followed ↦ followed
      ])
    ];
  }

-- the best entry of a key whose place is known
pub entry_here : (side : Side) (entries : List Entry) (places : ℕ → Option ℕ) (key place : ℕ) (e : Entry) → ArePlaces side entries places
    → places key ≡ Some place → e ≡ get_or entries place e → best_entry side entries key ≡ Some e
entry_here side entries places key place e are at item =
    let within : place < length entries = subst (λ (o : Option ℕ). IfSome o (λ i. i < length entries)) at (are.within key) in
    sym (are.best key) ∙ ap (option_and_then (slice_get entries)) at ∙ item_at entries place e within item

pub row_here : (side : Side) (entries : List Entry) (key : ℕ) (e : Entry) → best_entry side entries key ≡ Some e → best_row side entries key ≡ Some (row_of e)
row_here side entries key e h = ap (option_map row_of) h

pub some_is : {X : Type 0} (o : Option X) (x : X) → o ≡ Some x → IsSome o
some_is o x e = rw e refl

pub walk_done : {S : Type 0} (m : GameModel S) (side : Side) (rows : ℕ → Option SheetRow) (s : S) (weights : List ℕ) (row : SheetRow)
    (items : List S) (index : ℕ) (before now : ℕ → Option SheetRow) → IsGame m → IsReached m side rows s
    → rows (m.key s) ≡ Some row → row.weights ≡ weights → items ≡ children_of m side weights s → index ≡ length items
    → IsWalking m side rows s items index before now → IsGathered m side rows s before now
walk_done {S} m side rows s weights row items index before now game r is same e last walk =
    walk_end m side rows s weights row before now game r is same
    (subst (λ (xs : List S). IsWalking m side rows s xs (length xs) before now) e (subst (λ (n : ℕ). IsWalking m side rows s items n before now) last walk))
