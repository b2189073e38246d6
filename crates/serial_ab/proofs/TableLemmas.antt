-- What a transposition table holds, and how that stays true.
use Rattle.std.proofs.Common.{◌≡◌, ◌⊎◌, ⊎_elim, inl, inr, ◌≤◌, ℕ, ℤ, nat_eq, Bool, true, cond, Some, Result, Ok, Err, IfOk, OnErr, List, [], refl, sym, subst, arith}
use Rattle.std.proofs.lemmas.Bool.{cases_Bool, cond-true, cond-false, eqb-true}
use Rattle.std.proofs.lemmas.Bool.Decides.{Decides-int_eq}
use Rattle.std.specs.Cmp.{first_so, second_so}
use Rattle.std.specs.Ordering.{int_eq}
use denote.Enum.Bare.{sameb}
use Rattle.sim_game.specs.contracts.Side.{the_type}
use Rattle.sim_game.specs.declared.Side.TheVariants.{One, Two}
use Rattle.sim_game.specs.declared.Side.{Side}
use Rattle.sim_game.specs.Model.{GameModel, IsGame, Reachable}
use Rattle.sim_game.proofs.SideLemmas.{looser_trans}
use Rattle.bounds_board.specs.Views.{BoardView, IsLater}
use Rattle.bounds_board.proofs.KnownLemmas.{known_later}
use Rattle.serial_ab.specs.declared.transpositions.Memo.{Memo}
use Rattle.serial_ab.specs.declared.transpositions.Query.{Query}
use Rattle.serial_ab.specs.declared.stop.SerialStop.{SerialStop}
use Rattle.serial_ab.specs.declared.stop.SerialStop.TheVariants.{Cut, Full, NoMemory}
use Rattle.serial_ab.specs.Counts.{VisitsView, IsCut, WasCut}
use Rattle.serial_ab.specs.Searches.{IsFound, EndsWith}
use Rattle.serial_ab.specs.Tables.{TableView, same_query, told, Tells}
use Rattle.serial_ab.specs.Values.{inner_nodes}
use Rattle.serial_ab.specs.Transpositions.{IsRemembered, AreRemembered}

-- queries that pass the test are one query
same_side : (a b : Side) → sameb the_type a b ≡ true → a ≡ b
same_side One One e = refl
same_side One Two e = absurd (cc)
same_side Two One e = absurd (cc)
same_side Two Two e = refl

one_query : (p q : Query) → same_query p q ≡ true → p ≡ q
one_query p q e =
    let key = eqb-true p.key q.key (first_so _ _ e) in let rest = second_so (nat_eq p.key q.key) _ e in
    let side = same_side p.side q.side (first_so _ _ rest) in let ends = second_so (sameb the_type p.side q.side) _ rest in
    let worse = (Decides-int_eq p.worse q.worse).0 (first_so _ _ ends) in let better = (Decides-int_eq p.better q.better).0 (second_so (int_eq p.worse q.worse) _ ends) in
    λ i. record { key = key i; side = side i; worse = worse i; better = better i }

-- a search is stored: each that the table tells now it told before, or it is this one
pub one_more : (old new : List (Query × Memo)) (k : Query) (v : Memo) → ((q : Query) → told new q ≡ cond (same_query k q) (Some v) (told old q))
    → (q : Query) (e : Memo) → Tells new q e → (Tells old q e) ⊎ ((q ≡ k) × (e ≡ v))
one_more before new k v now q e tells = ⊎_elim
    (λ same. inr (sym (one_query k q same), let is = now q in let at : cond (same_query k q) (Some v) (told before q) ≡ Some v = cond-true _ (Some v) (told before q) same in cc))
    (λ other. inl (let is = now q in let at : cond (same_query k q) (Some v) (told before q) ≡ told before q = cond-false _ (Some v) (told before q) other in cc))
    (cases_Bool (same_query k q))

module _ {S G N : Type 0} {m : GameModel S} where
  -- what is remembered stays true as the board knows more
  pub remembered_later : {u v : BoardView G N} {table : TableView} → IsLater u v → AreRemembered m u table → AreRemembered m v table
  remembered_later {u = u} {v = v} later old = record {
    each = λ q e told. let was = old.each q e told in record {
      found = λ s r k. let found = was.found s r k in record {
        proven = found.proven;
        at_end = found.at_end;
        seen = λ goes t. looser_trans q.side _ _ _ (found.seen goes t) (known_later m u v q.side s later);
        range = found.range;
        reached = found.reached;
        opened = λ goes. looser_trans q.side _ _ _ (found.opened goes) (later.seen q.side (m.key s));
      };
      some = was.some;
      few = was.few;
    };
  }

  pub remembered_none : {v : BoardView G N} {table : TableView} → table.stored ≡ [] → AreRemembered m v table
  remembered_none none = record { each = λ q e told. let nothing = subst (λ (l : List (Query × Memo)). Tells l q e) none told in absurd (cc) }

  -- a search of a state is stored
  pub remembered_more : (game : IsGame m) {v : BoardView G N} {old new : TableView} {query : Query} {memo : Memo} (s : S) → Reachable m s → m.key s ≡ query.key
      → IsFound m query.side s query.worse query.better v memo.number → 1 ≤ memo.visits → memo.visits ≤ inner_nodes m query.side s → AreRemembered m v old
      → ((q : Query) (e : Memo) → Tells new.stored q e → (Tells old.stored q e) ⊎ ((q ≡ query) × (e ≡ memo))) → AreRemembered m v new
  remembered_more game {v = v} {query = query} {memo = memo} s r k found some few old stored = record {
    each = λ q e told. ⊎_elim
        (old.each q e)
        (λ same. subst (λ (z : Query). IsRemembered m v z e) (sym same.0) (subst (λ (z : Memo). IsRemembered m v query z) (sym same.1) here))
        (stored q e told);
  } where
    one : (t : S) → Reachable m t → m.key t ≡ query.key → s ≡ t
    one t p l = game.same_key s t r p (cc)

    here : IsRemembered m v query memo
    here = record {
      found = λ t p l. subst (λ (z : S). IsFound m query.side z query.worse query.better v memo.number) (one t p l) found;
      some = some;
      few = λ t p l. subst (λ (z : S). memo.visits ≤ inner_nodes m query.side z) (one t p l) few;
    }

-- the answer of a stored search ends as the search does
pub recall_ends : (F : ℤ → Type 0) {C C' : Type 0} (L : Type 0) (y : ℤ) (r : Result ℤ SerialStop) → F y → (C → C') → IfOk r (λ x. x ≡ y) → OnErr r C → OnErr r (r ≡ Err Cut)
    → EndsWith F C' L r
recall_ends F L y (Ok x) f c ok cut err = subst F (sym ok) f
recall_ends F L y (Err Cut) f c ok cut err = c cut
recall_ends F L y (Err Full) f c ok cut err = absurd (cc)
recall_ends F L y (Err NoMemory) f c ok cut err = tt

pub cut_more : {may_stop : Bool} {side : Side} {a b : ℕ} {u v : VisitsView} → a ≤ b → IsCut side a u v → WasCut may_stop side b u v
cut_more h cut whole = record { none_left = cut.none_left; too_few = omega (arith, cut.too_few) }
