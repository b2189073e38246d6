-- A memory of solved matrices: what is looked up, and what is put.
use Rattle.std.proofs.Common.{Result, Ok, Err, IfOk, IfSome, OnOk, OnErr, ◌≡◌, ℕ, inl, inr, refl, sym, ap, subst, ◌∙◌, Bool, true, false, ◌&&◌, nat_eq, List, Some, ◌↔◌}
use Rattle.std.proofs.lemmas.Bool.{eqb-true}
use Rattle.std.specs.Cmp.Lexicographic.{pointwise, same_text}
use Rattle.std.specs.Map.{lookup}
use Rattle.std.specs.Result.{result_ok}
use Rattle.lru.specs.LruCache.{LruCache, lru_cache, promoted, put_entries}
use Rattle.lru.proofs.CallerLemmas.{Contains-lookup, Contains-promoted, Contains-put_entries}
use Rattle.matrix_game.specs.declared.memory.StageKey.{StageKey}
use Rattle.matrix_game.specs.declared.rounds.Solution.{Solution}
use Rattle.matrix_game.specs.Grid.{Grid}
use Rattle.matrix_game.specs.Memories.{AnswersKey, AreKept, raised_grid}
use Rattle.matrix_game.specs.Rounds.{IsStage}

both : (x y : Bool) → (x && y) ≡ true → (x ≡ true) × (y ≡ true)
both true y h = (refl, h)
both false y h = cc

-- two keys whose fields are equal
abbrev pub is_same : StageKey → StageKey → Bool
is_same a b = nat_eq a.total b.total && (nat_eq a.rows b.rows && (nat_eq a.cols b.cols && pointwise nat_eq a.cells.items b.cells.items))

-- they ask for the same
pub kept-same : (a b : StageKey) (p v : List ℕ) → is_same a b ≡ true → AnswersKey a p v ↔ AnswersKey b p v
kept-same a b p v h =
    let t = both _ _ h in
    let r = both _ _ t.1 in
    let c = both _ _ r.1 in
    let total : a.total ≡ b.total = eqb-true a.total b.total t.0 in
    let grid : raised_grid a.rows a.cols a.cells.items ≡ raised_grid b.rows b.cols b.cells.items =
    ap (λ n. raised_grid n a.cols a.cells.items) (eqb-true a.rows b.rows r.0)
    ∙ ap (λ n. raised_grid b.rows n a.cells.items) (eqb-true a.cols b.cols c.0)
    ∙ ap (raised_grid b.rows b.cols) (same_text a.cells.items b.cells.items (sym c.1)) in
    let moved : (g h : Grid) (w x : ℕ) → g ≡ h → w ≡ x → IsStage g w p v → IsStage h x p v =
    λ g h w x e f s. subst (λ (y : ℕ). IsStage h y p v) f (subst (λ (n : Grid). IsStage n w p v) e s) in (
      moved (raised_grid a.rows a.cols a.cells.items) (raised_grid b.rows b.cols b.cells.items) a.total b.total grid total,
      moved (raised_grid b.rows b.cols b.cells.items) (raised_grid a.rows a.cols a.cells.items) b.total a.total (sym grid) (sym total),
    )

pub kept-found : (limit : ℕ) (c : LruCache StageKey Solution) (k : StageKey) (s : Solution) → AreKept limit c → lookup (is_same k) c.entries ≡ Some s → AnswersKey k s.p.items s.v.items
kept-found limit c k s are h =
    let e = Contains-lookup (is_same k) c.entries s h in
    (kept-same k e.0 s.p.items s.v.items e.2).1 (are.each e.0 s e.1)

-- a copy of what was found
pub kept-copied : {E : Type 0} (k : StageKey) (s : Solution) (r : Result Solution E) → IfOk r (λ x. x.p.items ≡ s.p.items)
    → IfOk r (λ x. x.v.items ≡ s.v.items) → AnswersKey k s.p.items s.v.items → IfSome (result_ok r) (λ x. AnswersKey k x.p.items x.v.items)
kept-copied k s (Ok x) p v kept = subst (λ ns. AnswersKey k x.p.items ns) (sym v) (subst (λ ns. AnswersKey k ns s.v.items) (sym p) kept)
kept-copied k s (Err e) p v kept = tt

pub kept-promoted : (limit : ℕ) (c : LruCache StageKey Solution) (k : StageKey) → AreKept limit c → AreKept limit (lru_cache (promoted (is_same k) c.entries) c.cap)
kept-promoted limit c k are = record {
  cap = are.cap;
  each = λ j s h. are.each j s (Contains-promoted (is_same k) c.entries (j, s) h);
}

pub kept-put : (limit : ℕ) (c : LruCache StageKey Solution) (k : StageKey) (s : Solution) → AreKept limit c → AnswersKey k s.p.items s.v.items
    → AreKept limit (lru_cache (put_entries is_same c k s) c.cap)
kept-put limit c k s are kept = record {
  cap = are.cap;
  each = λ j r h. elim (Contains-put_entries is_same c k s (j, r) h) [
    | inl old ↦ are.each j r old
    | inr new ↦ subst (λ (x : Solution). AnswersKey j x.p.items x.v.items) (sym new.0) (elim new.1 [
      | inl same ↦ subst (λ (x : StageKey). AnswersKey x s.p.items s.v.items) (sym same) kept
      | inr other ↦ (kept-same k j s.p.items s.v.items other.2).0 kept
    ])
  ];
}

-- whether or not there was memory for it
pub kept-after : {X E : Type 0} (limit : ℕ) (r : Result X E) (old new : LruCache StageKey Solution) (k : StageKey) (s : Solution)
    → OnOk r (new ≡ lru_cache (put_entries is_same old k s) old.cap) → OnErr r (new ≡ old) → AreKept limit old → AnswersKey k s.p.items s.v.items → AreKept limit new
kept-after limit (Ok x) old new k s ok err are kept = subst (AreKept limit) (sym ok) (kept-put limit old k s are kept)
kept-after limit (Err e) old new k s ok err are kept = subst (AreKept limit) (sym err) are
