-- What was read stands in its places: one place more, and the numbers of each side.
use Rattle.std.proofs.Common.{◌≡◌, inl, inr, ⊎_elim, ℕ, ◌+◌, ◌*◌, ◌/◌, ◌%◌, ◌<◌, ◌≤◌, pos, List, length, set, mod-lt, sym, ap, subst, ◌∙◌, arith}
use Rattle.std.specs.List.{Contains}
use Rattle.std.proofs.lemmas.Bool.{cases_lt}
use Rattle.std.proofs.lemmas.Nat.{div-add-mod'}
use Rattle.std.proofs.lemmas.List.{get_or-set_same, get_or-set_other}
use Rattle.sim_game.specs.declared.Side.TheVariants.{One, Two}
use Rattle.sim_game.specs.Model.{GameModel, Reachable}
use Rattle.sim_game.specs.Sides.{draws_of, after_reward}
use Rattle.bounds_board.specs.declared.bounds.Enclosure.{Enclosure}
use Rattle.bounds_board.specs.Views.{BoardView, IsLater}
use Rattle.bounds_board.proofs.ViewLemmas.{later_refl}
use Rattle.restricted_game.specs.declared.table.StageTable.{StageTable}
use Rattle.restricted_game.specs.Numbers.{IsReadNumber, AreTurnRead, IsWanted}
use Rattle.restricted_game.specs.Tables.{IsStride, AreFilled, IsFilled, enclosure_at, numbers_in, draw_index}
use Rattle.restricted_game.proofs.PlaceLemmas.{same_place}
use Rattle.restricted_game.proofs.ReadLemmas.{turn_between}

abbrev unread : Enclosure
unread = record { lower = pos 0; upper = pos 0 }

module _ {S G N : Type 0} (m : GameModel S) (s : S) (reach : Reachable m s) (t u v : BoardView G N) (earlier : IsLater t u) (later : IsLater u v) (rows cols : List ℕ)
    (width stride : ℕ) (is_width : width ≡ m.moves Two s) (some : 0 < width) (is_stride : IsStride m s stride) (place : ℕ) where
  -- what stands at the place
  abbrev one : ℕ
  one = place / stride / width

  abbrev two : ℕ
  two = place / stride % width

  abbrev draw : ℕ
  draw = place % stride

  is_place : draw_index width stride one two draw ≡ place
  is_place = ap (λ (pair : ℕ). pair * stride + place % stride) (div-add-mod' (place / stride) width) ∙ div-add-mod' place stride

  module _ (e : Enclosure) (read : IsWanted rows cols one two → draw < m.draws s one two → AreTurnRead m u v s one two draw e) (old : List Enclosure) (inside : place < length old) where
    here : (a b d : ℕ) → a ≡ one → b ≡ two → d ≡ draw → IsWanted rows cols a b → d < m.draws s a b → AreTurnRead m t v s a b d (enclosure_at (set old place e) (draw_index width stride a b d))
    here a b d i j k w r = rw (i, j, k, is_place)
        (subst (AreTurnRead m t v s one two draw) (sym (get_or-set_same old place e unread inside))
        (turn_between m t u v v _ _ _ _ _ earlier (later_refl v) (read (rw (← i, ← j) w) (rw (← i, ← j, ← k) r))))

    -- one place more
    pub filled_more : AreFilled m t u s rows cols width stride place old → AreFilled m t v s rows cols width stride (place + 1) (set old place e)
    filled_more so_far = record {
      read = λ a b d p q k w r. ⊎_elim
          (λ (lt : draw_index width stride a b d < place). subst (AreTurnRead m t v s a b d) (sym (get_or-set_other old place (draw_index width stride a b d) e unread (λ z. omega arith)))
          (turn_between m t t u v _ _ _ _ _ (later_refl t) later (so_far.read a b d p q lt w r)))
          (λ (ge : place ≤ draw_index width stride a b d).
          let at : draw_index width stride a b d ≡ draw_index width stride one two draw = sym (is_place ∙ omega arith) in
          let same = same_place width stride a b d one two draw (rw is_width q) (mod-lt (place / stride) some) (omega (arith, is_stride.draws a b p q)) (mod-lt place is_stride.some) at in
          here a b d same.0 same.1 same.2 w r)
          (cases_lt (draw_index width stride a b d) place);
    }

-- ---- a whole table
-- the numbers of a side where one of the two moves is held
pub one_read : {S G N : Type 0} (m : GameModel S) (u v : BoardView G N) (s : S) (rows cols : List ℕ) (table : StageTable)
    → IsFilled m u v s rows cols table → (move other draw : ℕ) → move < m.moves One s → other < m.moves Two s → IsWanted rows cols move other
    → draw < draws_of m One s move other → after_reward m One s move other draw (IsReadNumber m u v One) (numbers_in One table move other draw)
one_read m u v s rows cols table filled move other draw p q k t = (filled.read move other draw p q k t).number One

pub two_read : {S G N : Type 0} (m : GameModel S) (u v : BoardView G N) (s : S) (rows cols : List ℕ) (table : StageTable)
    → IsFilled m u v s rows cols table → (move other draw : ℕ) → move < m.moves Two s → other < m.moves One s → IsWanted cols rows move other
    → draw < draws_of m Two s move other → after_reward m Two s move other draw (IsReadNumber m u v Two) (numbers_in Two table move other draw)
two_read m u v s rows cols table filled move other draw p q k t =
    (filled.read other move draw q p (⊎_elim (λ (held : Contains cols move). inr held) (λ (held : Contains rows other). inl held) k) t).number Two
