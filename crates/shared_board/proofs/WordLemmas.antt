-- Words of a board: which is which, how bounds stand in them, and a board of free rows.
use Rattle.std.proofs.Common.{◌≡◌, ◌≢◌, ◌⊎◌, inl, inr, ⊎_elim, ℕ, zero, suc, ◌+◌, ◌*◌, ◌<◌, ◌≤◌, ℤ, pos, negsuc, ◌+ℤ◌, ◌≤ℤ◌, neg_ℤ, List, [], ◌∷◌, ◌++◌, length, get_or, refl, ap, ◌∙◌, arith}
use Rattle.std.proofs.lemmas.Int.{ints}
use Rattle.std.proofs.lemmas.Bool.{cases_lt}
use Rattle.sim_game.specs.declared.Side.{Side}
use Rattle.sim_game.specs.declared.Side.TheVariants.{One, Two}
use Rattle.shared_board.specs.Words.{key_word, bound_word, word_of, as_bound, IsLooser, tighter, IsBlank}

pub word_is : (x : ℤ) → neg_ℤ (pos 4000000000) ≤ℤ x → pos (word_of x) ≡ x +ℤ pos 4000000000
word_is (pos n) h = omega (arith, ints)
word_is (negsuc n) h = omega (arith, ints)

pub bound_word-back : (x : ℤ) → neg_ℤ (pos 4000000000) ≤ℤ x → as_bound (word_of x) ≡ x
bound_word-back x h = omega (arith, ints, word_is x h)

pub word_mono : (x y : ℤ) → neg_ℤ (pos 4000000000) ≤ℤ x → x ≤ℤ y → word_of x ≤ word_of y
word_mono x y h l = omega (arith, ints, word_is x h, word_is y (omega (arith, ints)))

pub word_refl : (side : Side) (a : ℕ) → IsLooser side a a
word_refl One a = omega arith
word_refl Two a = omega arith

pub word_trans : (side : Side) (a b c : ℕ) → IsLooser side a b → IsLooser side b c → IsLooser side a c
word_trans One a b c h k = omega arith
word_trans Two a b c h k = omega arith

pub word_left : (side : Side) (a b : ℕ) → IsLooser side a (tighter side a b)
word_left One a b = omega arith
word_left Two a b = omega arith

pub word_right : (side : Side) (a b : ℕ) → IsLooser side b (tighter side a b)
word_right One a b = omega arith
word_right Two a b = omega arith

pub word_both : (side : Side) (a b c : ℕ) → IsLooser side a c → IsLooser side b c → IsLooser side (tighter side a b) c
word_both One a b c h k = omega arith
word_both Two a b c h k = omega arith

pub tighter_same : (side : Side) (a : ℕ) → tighter side a a ≡ a
tighter_same One a = omega arith
tighter_same Two a = omega arith

pub tighter_is : (side : Side) (a b : ℕ) → (tighter side a b ≡ a) ⊎ (tighter side a b ≡ b)
tighter_is One a b = ⊎_elim (λ (h : a < b). inr (omega arith)) (λ (h : b ≤ a). inl (omega arith)) (cases_lt a b)
tighter_is Two a b = ⊎_elim (λ (h : a < b). inl (omega arith)) (λ (h : b ≤ a). inr (omega arith)) (cases_lt a b)

pub key_not_bound : (side : Side) (i j : ℕ) → bound_word side i ≢ key_word j
key_not_bound One i j e = omega arith
key_not_bound Two i j e = omega arith

pub bounds_apart : (a b : Side) (i j : ℕ) → bound_word a i ≡ bound_word b j → (a ≡ b) × (i ≡ j)
bounds_apart One One i j e = (refl, omega arith)
bounds_apart One Two i j e = absurd (omega arith)
bounds_apart Two One i j e = absurd (omega arith)
bounds_apart Two Two i j e = (refl, omega arith)

pub bound_inside : (side : Side) (i rows : ℕ) → i < rows → bound_word side i < 3 * rows + 1
bound_inside One i rows h = omega arith
bound_inside Two i rows h = omega arith

pub bound_not_first : (side : Side) (i : ℕ) → bound_word side i ≢ 0
bound_not_first One i e = omega arith
bound_not_first Two i e = omega arith

blank_at : (words : List ℕ) (a b c i n : ℕ) → i ≡ length words + n → get_or (((words ++ a ∷ []) ++ b ∷ []) ++ c ∷ []) i 0 ≡ get_or (a ∷ b ∷ c ∷ []) n 0
blank_at [] a b c i n e = ap (λ (z : ℕ). get_or (a ∷ b ∷ c ∷ []) z 0) (omega arith)
blank_at (x ∷ xs) a b c zero n e = absurd (omega arith)
blank_at (x ∷ xs) a b c (suc i) n e = blank_at xs a b c i n (omega arith)

blank_there : (words : List ℕ) (a b c i : ℕ) → i < length words → get_or (((words ++ a ∷ []) ++ b ∷ []) ++ c ∷ []) i 0 ≡ get_or words i 0
blank_there [] a b c i h = absurd (omega arith)
blank_there (x ∷ xs) a b c zero h = refl
blank_there (x ∷ xs) a b c (suc i) h = blank_there xs a b c i (omega arith)

blank_long : (words : List ℕ) (a b c : ℕ) → length (((words ++ a ∷ []) ++ b ∷ []) ++ c ∷ []) ≡ length words + 3
blank_long [] a b c = refl
blank_long (x ∷ xs) a b c = omega (arith, blank_long xs a b c)

-- one more row
pub blank_more : (words : List ℕ) (n low high : ℕ) → IsBlank words n low high → IsBlank (((words ++ 0 ∷ []) ++ low ∷ []) ++ high ∷ []) (n + 1) low high
blank_more words n low high b = let wide = b.wide in record {
  wide = omega (arith, blank_long words 0 low high);
  zero_first = blank_there words 0 low high 0 (omega arith) ∙ b.zero_first;
  free = λ i l. ⊎_elim (λ (h : i < n). blank_there words 0 low high (key_word i) (omega arith) ∙ b.free i h) (λ (h : n ≤ i). blank_at words 0 low high (key_word i) 0 (omega arith))
      (cases_lt i n);
  lower = λ i l. ⊎_elim (λ (h : i < n). blank_there words 0 low high (bound_word One i) (omega arith) ∙ b.lower i h)
      (λ (h : n ≤ i). blank_at words 0 low high (bound_word One i) 1 (omega arith)) (cases_lt i n);
  upper = λ i l. ⊎_elim (λ (h : i < n). blank_there words 0 low high (bound_word Two i) (omega arith) ∙ b.upper i h)
      (λ (h : n ≤ i). blank_at words 0 low high (bound_word Two i) 2 (omega arith)) (cases_lt i n);
}
