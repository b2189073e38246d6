-- Texts one behind the other.
use Rattle.std.proofs.Common.{◌≡◌, ℕ, ◌<◌, List, [], ◌∷◌, ◌++◌, length, map, flat_map, get_or, drop, decimal, refl, sym, ap, subst, ◌∙◌, arith, append-nil, append_assoc}
use Rattle.std.specs.List.{join_with_byte}
use Rattle.text.specs.Texts.{Adds, line_text, list_text}

-- two texts one behind the other
pub then : {a b c x y : List ℕ} → Adds a b x → Adds b c y → Adds a c (x ++ y)
then {a} {x = x} {y = y} p q = record { is = q.is ∙ ap (λ (t : List ℕ). t ++ y) p.is ∙ append_assoc a x y }

pub nothing : (a : List ℕ) → Adds a a []
nothing a = record { is = sym (append-nil a) }

-- the same text, spelled otherwise
pub as_text : {a b x y : List ℕ} → x ≡ y → Adds a b x → Adds a b y
as_text {a} {b} e p = subst (Adds a b) e p

-- a piece, and numbers behind it
join-numbers : {X : Type 0} (c : ℕ) (f : X → List ℕ) (x : List ℕ) (ns : List X) → join_with_byte c (x ∷ map f ns) ≡ x ++ flat_map (λ n. c ∷ f n) ns
join-numbers c f x [] = sym (append-nil x)
join-numbers c f x (n ∷ ns) = ap (λ (t : List ℕ). x ++ (c ∷ t)) (join-numbers c f (f n) ns)

-- the same, for a line
pub line_text-numbers : {X : Type 0} (f : X → List ℕ) (x : List ℕ) (ns : List X) → x ++ (flat_map (λ n. 32 ∷ f n) ns ++ 10 ∷ []) ≡ line_text (x ∷ map f ns)
line_text-numbers f x [] = refl
line_text-numbers f x (n ∷ ns) = sym (ap (λ (t : List ℕ). x ++ (32 ∷ t)) (sym (line_text-numbers f (f n) ns) ∙ sym (append_assoc (f n) (flat_map (λ n. 32 ∷ f n) ns) (10 ∷ []))))

-- the first number of a list, and the others
pub list_text-some : (ns : List ℕ) → 0 < length ns → decimal (get_or ns 0 0) ++ flat_map (λ n. 44 ∷ decimal n) (drop 1 ns) ≡ list_text ns
list_text-some [] some = absurd (omega arith)
list_text-some (n ∷ ns) some = sym (join-numbers 44 decimal (decimal n) ns)
