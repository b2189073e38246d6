-- Entries that may be posted, and lists of entries that grow.
use Rattle.std.proofs.Common.{◌≡◌, ℕ, List, [], ◌∷◌, ◌++◌, sym, ap, subst, ◌∙◌, append_assoc, append-nil}
use Rattle.std.proofs.lemmas.List.Elements.{All-nil, All-cons, All-append, All-weaker}
use Rattle.sim_game.specs.Model.{GameModel}
use Rattle.plan_book.specs.declared.Entry.{Entry}
use Rattle.plan_book.specs.Entries.{IsEntry, IsLawfulEntry}
use Rattle.plan_book.specs.Books.{Grows}
use Rattle.sim_game.proofs.SideLemmas.{tighter_than}
use Rattle.bounds_board.specs.Views.{BoardView, IsLater, IsPostable, IsSeenNumber}
use Rattle.bounds_board.proofs.PlainLemmas.{entry_weaker}
use Rattle.bounds_board.proofs.ViewLemmas.{seen_later}
use Rattle.restricted_game.specs.Runs.{IsPosted, posts, passes}

pub grows_none : (P : Entry → Type 0) (xs ys : List Entry) → ys ≡ xs → Grows P xs ys
grows_none P xs ys e = record { more = []; joins = e ∙ sym (append-nil xs); each = All-nil P }

pub grows_one : (P : Entry → Type 0) (xs ys : List Entry) (e : Entry) → P e → ys ≡ xs ++ e ∷ [] → Grows P xs ys
grows_one P xs ys e h joins = record { more = e ∷ []; joins = joins; each = All-cons P e [] h (All-nil P) }

pub grows_after : (P : Entry → Type 0) (xs ys zs : List Entry) → Grows P xs ys → Grows P ys zs → Grows P xs zs
grows_after P xs ys zs p q = record {
  more = p.more ++ q.more;
  joins = q.joins ∙ ap (λ (l : List Entry). l ++ q.more) p.joins ∙ append_assoc xs p.more q.more;
  each = All-append P p.more q.more p.each q.each;
}

pub grows_weaker : (P Q : Entry → Type 0) (xs ys : List Entry) → ((e : Entry) → P e → Q e) → Grows P xs ys → Grows Q xs ys
grows_weaker P Q xs ys f p = record { more = p.more; joins = p.joins; each = All-weaker P Q f p.more p.each }

pub postable_later : {S G N : Type 0} (m : GameModel S) (u v : BoardView G N) (e : Entry) → IsLater u v → IsPostable m u e → IsPostable m v e
postable_later m u v e later h =
    entry_weaker m v.total (IsSeenNumber m u) (IsSeenNumber m v) e (λ s x _ k. seen_later m u v e.side s x later k) (subst (λ (n : ℕ). IsEntry m n (IsSeenNumber m u) e) (sym later.total) h)

pub postable_lawful : {S G N : Type 0} (m : GameModel S) (v : BoardView G N) (e : Entry) → IsPostable m v e → IsLawfulEntry m v.total e
postable_lawful m v e h = entry_weaker m v.total (IsSeenNumber m v) (λ _ _ _. Unit {0}) e (λ s x _ k. tt) h

-- tighter than what a later view had seen is tighter than what an earlier one had
pub posted_earlier : {G N : Type 0} (t u : BoardView G N) (e : Entry) (old new : List Entry) → IsLater t u → IsPosted u e old new → IsPosted t e old new
posted_earlier t u e old new later (posts tight joins) = posts (tighter_than e.side _ _ _ tight (later.seen e.side e.key)) joins
posted_earlier t u e old new later (passes same) = passes same

-- one post after another
pub lawful_after : {S G N : Type 0} (m : GameModel S) (u v w : BoardView G N) → IsLater u v → Grows (IsLawfulEntry m u.total) u.entries v.entries
    → Grows (IsLawfulEntry m v.total) v.entries w.entries → Grows (IsLawfulEntry m u.total) u.entries w.entries
lawful_after m u v w later p q = grows_after (IsLawfulEntry m u.total) u.entries v.entries w.entries p (subst (λ (n : ℕ). Grows (IsLawfulEntry m n) v.entries w.entries) later.total q)
