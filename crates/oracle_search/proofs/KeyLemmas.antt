-- The keys of finished states, and what stays done.
use Rattle.std.proofs.Common.{◌≡◌, ⊎_elim, ℕ, ◌+◌, ◌-◌, ◌<◌, ◌≤◌, ℤ, pos, ◌+ℤ◌, ◌≤ℤ◌, Bool, true, List, [], ◌∷◌, ◌++◌, length, get_or, Some, Contains, refl, sym, ap, subst, ◌∙◌, append_assoc, append-nil, arith}
use Rattle.std.proofs.lemmas.Bool.{cases_lt}
use Rattle.std.proofs.lemmas.Int.{ints}
use Rattle.std.proofs.lemmas.List.{length-append, get_or_append_left, get_or-append_right}
use Rattle.std.proofs.lemmas.List.Elements.{All-append, All-contains, All-nil, All-push, All-weaker, Contains-get_or, Contains-append_cases}
use Rattle.sim_game.specs.declared.Side.TheVariants.{One, Two}
use Rattle.sim_game.specs.declared.TheConstants.{MOST_TURNS}
use Rattle.sim_game.specs.Model.{GameModel, IsGame, Reachable}
use Rattle.sim_game.specs.Resolution.{IsStageGap}
use Rattle.bounds_board.specs.Views.{BoardView, IsLater, known_bound}
use Rattle.bounds_board.proofs.KnownLemmas.{known_later}
use Rattle.bounds_board.proofs.ViewLemmas.{later_refl}
use Rattle.oracle_search.specs.Finished.{IsWithin, IsClose, IsFinished, AreFinished, AreApart, AreAdded, rank_gap}
use Rattle.oracle_search.specs.Searches.{IsDone, AreDone}

-- ---- numbers only come closer
pub within_later : {S G N : Type 0} (m : GameModel S) (v w : BoardView G N) (s : S) (gap : ℤ) → IsLater v w → IsWithin m v s gap → IsWithin m w s gap
within_later m v w s gap later near =
    let low : known_bound m v One s ≤ℤ known_bound m w One s = known_later m v w One s later in
    let high : known_bound m w Two s ≤ℤ known_bound m v Two s = known_later m v w Two s later in
    between _ _ _ _ low high near
  where
    between : (a b c d : ℤ) → a ≤ℤ b → d ≤ℤ c → c ≤ℤ (a +ℤ gap) → d ≤ℤ (b +ℤ gap)
    between a b c d low high near = omega (arith, ints)

module _ {S G N : Type 0} (m : GameModel S) (s : S) {v w : BoardView G N} (later : IsLater v w) where
  pub close_later : IsClose m v s → IsClose m w s
  close_later close stage is =
      within_later m v w s (pos (rank_gap m stage (m.rank s))) later (close stage (subst (λ (total : ℕ). IsStageGap m total stage) later.total is))

  pub done_later : IsDone m v s → IsDone m w s
  done_later done goes_on = close_later (done goes_on)

pub are_done_later : {S G N : Type 0} (m : GameModel S) (s : S) (one two : ℕ) {v w : BoardView G N} → IsLater v w → AreDone m v s one two → AreDone m w s one two
are_done_later m s one two later done draw l = done_later m (m.drawn s one two draw) later (done draw l)

-- bounds that meet are done
pub done_within : {S G N : Type 0} (m : GameModel S) (s : S) (v : BoardView G N) → IsWithin m v s (pos 0) → IsDone m v s
done_within m s v within goes_on stage is = wider (known_bound m v One s) (known_bound m v Two s) (rank_gap m stage (m.rank s)) within where
  wider : (low high : ℤ) (gap : ℕ) → high ≤ℤ (low +ℤ pos 0) → high ≤ℤ (low +ℤ pos gap)
  wider low high gap near = omega (arith, ints)

-- ---- keys
key_later : {S G N : Type 0} {m : GameModel S} {old new : Bool} {a b key : ℕ} {v w : BoardView G N} → (new ≡ true → old ≡ true) → a ≤ b → IsLater v w
    → IsFinished m old v a key → IsFinished m new w b key
key_later {m = m} {key = key} less wide later f = let below = f.below in record {
  state = f.state;
  reachable = f.reachable;
  goes_on = f.goes_on;
  below = omega arith;
  is_key = f.is_key;
  row = f.row;
  held = later.keys f.row key f.held;
  close = λ e. close_later m f.state later (f.close (less e));
}

module _ {S G N : Type 0} {m : GameModel S} {is_close : Bool} where
  pub finished_later : {v w : BoardView G N} {keys : List ℕ} → IsLater v w → AreFinished m is_close v keys → AreFinished m is_close w keys
  finished_later {v} {w} {keys} later f =
      record { each = All-weaker (IsFinished m is_close v (1 + MOST_TURNS)) (IsFinished m is_close w (1 + MOST_TURNS)) (λ key. key_later (λ e. e) (omega arith) later) keys f.each; apart = f.apart }

  pub finished_none : (v : BoardView G N) → AreFinished m is_close v []
  finished_none v = record { each = All-nil (IsFinished m is_close v (1 + MOST_TURNS)); apart = λ i j l h. absurd (omega arith) }

  pub added_none : (v : BoardView G N) (limit : ℕ) (keys : List ℕ) → AreAdded m is_close v limit keys keys
  added_none v limit keys = record { more = []; joins = sym (append-nil keys); each = All-nil (IsFinished m is_close v limit) }

  pub added_wider : {a b : ℕ} {v : BoardView G N} {xs ys : List ℕ} → a ≤ b → AreAdded m is_close v a xs ys → AreAdded m is_close v b xs ys
  added_wider {a} {b} {v} wide p =
      record { more = p.more; joins = p.joins; each = All-weaker (IsFinished m is_close v a) (IsFinished m is_close v b) (λ key. key_later (λ e. e) wide (later_refl v)) p.more p.each }

  pub added_after : {limit : ℕ} {v w : BoardView G N} {xs ys zs : List ℕ} → IsLater v w → AreAdded m is_close v limit xs ys → AreAdded m is_close w limit ys zs → AreAdded m is_close w limit xs zs
  added_after {limit} {v} {w} {xs} later p q = record {
    more = p.more ++ q.more;
    joins = q.joins ∙ ap (λ (l : List ℕ). l ++ q.more) p.joins ∙ append_assoc xs p.more q.more;
    each = All-append (IsFinished m is_close w limit) p.more q.more
        (All-weaker (IsFinished m is_close v limit) (IsFinished m is_close w limit) (λ key. key_later (λ e. e) (omega arith) later) p.more p.each) q.each;
  }

-- after the last key
apart_more : (keys : List ℕ) (key : ℕ) → AreApart keys → (Contains keys key → ⊥) → AreApart (keys ++ key ∷ [])
apart_more keys key apart not i j l h same =
    let length_is = length-append keys (key ∷ []) in
    let low : i < length keys = omega arith in
    let first : get_or (keys ++ key ∷ []) i 0 ≡ get_or keys i 0 = get_or_append_left keys (key ∷ []) 0 i low in
    ⊎_elim
    (λ (a : j < length keys). apart i j l a (sym first ∙ same ∙ get_or_append_left keys (key ∷ []) 0 j a))
    (λ (b : length keys ≤ j).
    let last : get_or (keys ++ key ∷ []) j 0 ≡ get_or (key ∷ []) (j - length keys) 0 = get_or-append_right keys (key ∷ []) (length keys) j 0 refl b in
    let none : j - length keys ≡ 0 = omega arith in
    let is : get_or keys i 0 ≡ key = sym first ∙ same ∙ last ∙ ap (λ (n : ℕ). get_or (key ∷ []) n 0) none in
    not (subst (Contains keys) is (Contains-get_or keys i 0 low)))
    (cases_lt j (length keys))

module _ {S G N : Type 0} (m : GameModel S) (game : IsGame m) (s : S) (r : Reachable m s) {is_close : Bool} {v : BoardView G N} where
  pub key_done : {keys : List ℕ} → AreFinished m is_close v keys → Contains keys (m.key s) → is_close ≡ true → IsDone m v s
  key_done {keys} finished has e goes_on =
      let it : IsFinished m is_close v (1 + MOST_TURNS) (m.key s) = All-contains (IsFinished m is_close v (1 + MOST_TURNS)) keys (m.key s) finished.each has in
      subst (λ (t : S). IsClose m v t) (game.same_key it.state s it.reachable r it.is_key) (it.close e)

  -- what comes after a state does not finish it
  pub not_added : {xs ys : List ℕ} → AreAdded m is_close v (m.rank s) xs ys → (Contains xs (m.key s) → ⊥) → Contains ys (m.key s) → ⊥
  not_added {xs} {ys} on not has = ⊎_elim
      (λ (a : Contains xs (m.key s)). not a)
      (λ (b : Contains on.more (m.key s)).
      let it : IsFinished m is_close v (m.rank s) (m.key s) = All-contains (IsFinished m is_close v (m.rank s)) on.more (m.key s) on.each b in
      let same = ap m.rank (game.same_key it.state s it.reachable r it.is_key) in let below = it.below in absurd (omega arith))
      (Contains-append_cases xs on.more (m.key s) (subst (λ (keys : List ℕ). Contains keys (m.key s)) on.joins has))

  -- the state itself, at the end
  module _ (goes_on : 1 ≤ m.rank s) (row : ℕ) (held : v.key_at row ≡ Some (m.key s)) (close : is_close ≡ true → IsClose m v s) where
    finished_now : (limit : ℕ) → m.rank s < limit → IsFinished m is_close v limit (m.key s)
    finished_now limit below = record { state = s; reachable = r; goes_on = goes_on; below = below; is_key = refl; row = row; held = held; close = close }

    pub finished_more : (keys : List ℕ) → AreFinished m is_close v keys → (Contains keys (m.key s) → ⊥) → AreFinished m is_close v (keys ++ m.key s ∷ [])
    finished_more keys p not = let high = game.rank_high s r in record {
      each = All-push (IsFinished m is_close v (1 + MOST_TURNS)) keys (m.key s) p.each (finished_now (1 + MOST_TURNS) (omega arith));
      apart = apart_more keys (m.key s) p.apart not;
    }

    pub added_more : (keys : List ℕ) → AreAdded m is_close v (m.rank s + 1) keys (keys ++ m.key s ∷ [])
    added_more keys = record {
      more = m.key s ∷ [];
      joins = refl;
      each = All-push (IsFinished m is_close v (m.rank s + 1)) [] (m.key s) (All-nil (IsFinished m is_close v (m.rank s + 1))) (finished_now (m.rank s + 1) (omega arith));
    }
