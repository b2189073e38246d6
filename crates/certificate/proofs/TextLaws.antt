-- Reading and writing lines undo each other.
use Rattle.std.proofs.Common.{◌≡◌, ℕ, ◌+◌, ◌<◌, ◌≤◌, List, [], ◌∷◌, ◌++◌, length, false, ◌==◌, Some, Ok, All, refl, sym, ap, subst, ◌∙◌, arith, append_assoc}
use Rattle.std.specs.List.{join_with_byte}
use Rattle.std.proofs.lemmas.List.{length-append}
use Rattle.std.proofs.lemmas.List.Elements.{All-weaker}
use Rattle.std.proofs.lemmas.List.Splits.{slice_split_at, join_with_byte-slice_split, length-slice_split}
use Rattle.certificate.specs.declared.error.TextError.TheVariants.{Short}
use Rattle.certificate.specs.Unread.{Unread}
use Rattle.text.specs.Texts.{line_text}
use Rattle.fields.specs.Ranges.{Within}
use Rattle.certificate.specs.Readers.{or_fault, Reads, ◌followed_by◌, made_by, lines_in, fields_in, cut_line, first_line, has_parts, next_line, in_line}
use Rattle.certificate.proofs.Spelling.{IsField, All-join, split-join, has_parts-bounds, has_parts-true, without}
use Rattle.certificate.proofs.FieldLaws.{FieldLaw, bind_ok, or_ok, test_ok, ok_is}

-- the text of the lines
abbrev pub joined : List (List ℕ) → List ℕ
joined lines = join_with_byte 10 lines

-- A reader of lines and what writes them undo each other, for the values that fit; they have at most so many bytes.
pub record TextLaw {A : Type 0} (long : ℕ) (read : Reads A) (text : A → List ℕ) (Fits : A → Type 0) : Type 0 where
  pub takes : (u : Unread) (x : A × Unread) → read u ≡ Ok x → (joined u.parts ≡ text x.0 ++ joined x.1.parts) × Fits x.0
  pub again : (n : ℕ) (a : A) (rest : List ℕ) → Fits a → (m : ℕ) × (read (record { parts = lines_in (text a ++ rest); number = n }) ≡ Ok (a, record { parts = lines_in rest; number = m }))
  pub short : (a : A) → Fits a → length (text a) ≤ long

-- ---- one line

line_text-joined : (fs : List (List ℕ)) (rest : List ℕ) → line_text fs ++ rest ≡ join_with_byte 32 fs ++ (10 ∷ rest)
line_text-joined [] rest = refl
line_text-joined (x ∷ []) rest = append_assoc x (10 ∷ []) rest
line_text-joined (x ∷ y ∷ more) rest =
    append_assoc x (32 ∷ line_text (y ∷ more)) rest ∙ ap (λ t. x ++ (32 ∷ t)) (line_text-joined (y ∷ more) rest) ∙ sym (append_assoc x (32 ∷ join_with_byte 32 (y ∷ more)) (10 ∷ rest))

bytes_of : (low : ℕ) (fs : List (List ℕ)) → low ≤ 33 → All IsField fs → All (All (λ b. low ≤ b)) fs
bytes_of low fs few = All-weaker IsField (All (λ b. low ≤ b)) (λ f clean. All-weaker (λ b. 33 ≤ b) (λ b. low ≤ b) (λ b h. omega (arith, few)) f clean.1) fs

no_feed : (fs : List (List ℕ)) → All IsField fs → All (λ b. (b == 10) ≡ false) (join_with_byte 32 fs)
no_feed fs clean = without 10 11 (join_with_byte 32 fs) (omega arith) (All-join (λ b. 11 ≤ b) 32 fs (omega arith) (bytes_of 11 fs (omega arith) clean))

pub lines_in-line : (fs : List (List ℕ)) (rest : List ℕ) → All IsField fs → lines_in (line_text fs ++ rest) ≡ join_with_byte 32 fs ∷ lines_in rest
lines_in-line fs rest clean = ap lines_in (line_text-joined fs rest) ∙ slice_split_at (λ b. b == 10) (join_with_byte 32 fs) 10 rest (no_feed fs clean) refl

pub some_line : (bytes : List ℕ) → 0 < length (lines_in bytes)
some_line bytes = omega (arith, length-slice_split (λ b. b == 10) bytes)

pub cut_line-some : (line : List ℕ) (rest : List (List ℕ)) (n : ℕ) → 0 < length rest → cut_line (line ∷ rest) n ≡ Some (line, record { parts = rest; number = n + 1 })
cut_line-some line [] n some = absurd (omega arith)
cut_line-some line (next ∷ more) n some = refl

-- what was cut off
pub record Cut (parts : List (List ℕ)) (x : List ℕ × Unread) : Type 0 where
  pub is : parts ≡ x.0 ∷ x.1.parts
  pub text : joined parts ≡ x.0 ++ (10 ∷ joined x.1.parts)

cut_line_takes : (parts : List (List ℕ)) (n : ℕ) (x : List ℕ × Unread) → cut_line parts n ≡ Some x → Cut parts x
cut_line_takes [] n x e = absurd cc
cut_line_takes (line ∷ []) n x e = absurd cc
cut_line_takes (line ∷ next ∷ more) n x e = let same : (line, record { parts = next ∷ more; number = n + 1 }) ≡ x = cc in subst (Cut (line ∷ next ∷ more)) same (record { is = refl; text = refl })

pub first_line_takes : (u : Unread) (x : List ℕ × Unread) → first_line u ≡ Some x → Cut u.parts x
unfolding first_line
first_line_takes u x e = cut_line_takes u.parts u.number x e

-- the fields of a line, and what is left behind it
record TakesLine (least most : ℕ) (u : Unread) (l : Unread × Unread) : Type 0 where
  text : joined u.parts ≡ line_text l.0.parts ++ joined l.1.parts
  size : Within least most (length l.0.parts)

next_line_takes : (least most : ℕ) (u : Unread) (l : Unread × Unread) → next_line least most u ≡ Ok l → TakesLine least most u l
unfolding next_line
next_line_takes least most u l e =
    let cut = bind_ok (or_fault (first_line u) Short) _ l e in
    let form = test_ok (has_parts least most (fields_in cut.0.0)) _ _ l cut.2 in
    let rest = joined cut.0.1.parts in
    let spelled : line_text (fields_in cut.0.0) ++ rest ≡ cut.0.0 ++ (10 ∷ rest) =
    line_text-joined (fields_in cut.0.0) rest ∙ ap (λ line. line ++ (10 ∷ rest)) (join_with_byte-slice_split 32 cut.0.0) in
    subst (TakesLine least most u) (ok_is (record { parts = fields_in cut.0.0; number = u.number }, cut.0.1) l form.1)
    (record { text = (first_line_takes u cut.0 (or_ok (first_line u) Short cut.0 cut.1)).text ∙ sym spelled; size = has_parts-bounds least most (fields_in cut.0.0) form.0 })

next_line_again : (least most n : ℕ) (fs : List (List ℕ)) (rest : List ℕ) → All IsField fs → 0 < least → Within least most (length fs)
    → next_line least most (record { parts = lines_in (line_text fs ++ rest); number = n }) ≡ Ok (record { parts = fs; number = n }, record { parts = lines_in rest; number = n + 1 })
unfolding next_line first_line
next_line_again least most n [] rest clean some size = absurd (omega (arith, size.0))
next_line_again least most n (f ∷ fs) rest clean some size =
    let line = join_with_byte 32 (f ∷ fs) in
    let fields : fields_in line ≡ f ∷ fs = split-join 32 33 f fs (omega arith) (bytes_of 33 (f ∷ fs) (omega arith) clean) in
    rw (lines_in-line (f ∷ fs) rest clean, cut_line-some line (lines_in rest) n (some_line rest), fields, has_parts-true least most (f ∷ fs) clean size) refl

module _ {A : Type 0} {least most long : ℕ} {says : Reads A} {fields : A → List (List ℕ)} {Fits : A → Type 0} where
  -- a line of from least to most fields
  pub line_law : FieldLaw most long says fields Fits → 0 < least → TextLaw long (in_line least most says) (λ a. line_text (fields a)) (λ a. Fits a × Within least most (length (fields a)))
  line_law law some = record {
    takes = λ u x e.
        let l = bind_ok (next_line least most u) _ x e in
        let a = bind_ok (says l.0.0) _ x l.2 in
        let t = next_line_takes least most u l.0 l.1 in
        let f = law.takes l.0.0 a.0 a.1 t.size.1 in
        subst (λ (x : A × Unread). (joined u.parts ≡ line_text (fields x.0) ++ joined x.1.parts) × (Fits x.0 × Within least most (length (fields x.0)))) (ok_is (a.0.0, l.0.1) x a.2)
        (t.text ∙ ap (λ fs. line_text fs ++ joined l.0.1.parts) f.0, (f.1, subst (λ fs. Within least most (length fs)) f.0 t.size));
    again = λ n a rest fits.
        (n + 1, rw (next_line_again least most n (fields a) rest (law.clean a fits.0) some fits.1, (law.again n a fits.0).1) refl);
    short = λ a fits. law.short a fits.0 fits.1.1;
  }

-- ---- lines one behind the other

pub lines_law : {A B : Type 0} {m n : ℕ} {p : Reads A} {q : Reads B} {s : A → List ℕ} {t : B → List ℕ} {F : A → Type 0} {G : B → Type 0} → TextLaw m p s F → TextLaw n q t G
    → TextLaw (m + n) (p followed_by q) (λ x. s x.0 ++ t x.1) (λ x. F x.0 × G x.1)
lines_law {A} {B} {p = p} {q} {s} {t} {F} {G} first second = record {
  takes = λ u x e.
      let a = bind_ok (p u) _ x e in
      let b = bind_ok (q a.0.1) _ x a.2 in
      let v = first.takes u a.0 a.1 in
      let w = second.takes a.0.1 b.0 b.1 in
      subst (λ (x : (A × B) × Unread). (joined u.parts ≡ (s x.0.0 ++ t x.0.1) ++ joined x.1.parts) × (F x.0.0 × G x.0.1)) (ok_is ((a.0.0, b.0.0), b.0.1) x b.2)
      (v.0 ∙ ap (λ (rest : List ℕ). s a.0.0 ++ rest) w.0 ∙ sym (append_assoc (s a.0.0) (t b.0.0) (joined b.0.1.parts)), (v.1, w.1));
  again = λ n x rest fits.
      let a = first.again n x.0 (t x.1 ++ rest) fits.0 in
      let b = second.again a.0 x.1 rest fits.1 in
      (b.0, rw (append_assoc (s x.0) (t x.1) rest, a.1, b.1) refl);
  short = λ x fits. omega (arith, length-append (s x.0) (t x.1), first.short x.0 fits.0, second.short x.1 fits.1);
}

-- what is made of what was read
pub made_law : {A B : Type 0} {long : ℕ} {p : Reads A} {s : A → List ℕ} {F : A → Type 0} (make : A → B) (parts : B → A) (t : B → List ℕ) (G : B → Type 0) → TextLaw long p s F
    → ((a : A) → F a → (s a ≡ t (make a)) × G (make a)) → ((b : B) → G b → F (parts b) × (make (parts b) ≡ b)) → TextLaw long (made_by make p) t G
made_law {A} {B} {p = p} {s} {F} make parts t G law forth back = record {
  takes = λ u x e.
      let a = bind_ok (p u) _ x e in
      let v = law.takes u a.0 a.1 in
      let w = forth a.0.0 v.1 in
      subst (λ (x : B × Unread). (joined u.parts ≡ t x.0 ++ joined x.1.parts) × G x.0) (ok_is (make a.0.0, a.0.1) x a.2)
      (v.0 ∙ ap (λ (text : List ℕ). text ++ joined a.0.1.parts) w.0, w.1);
  again = λ n b rest fits.
      let w = back b fits in
      let a = law.again n (parts b) rest w.0 in
      (a.0, rw (← ((forth (parts b) w.0).0 ∙ ap t w.1), a.1) (ap (λ (b : B). Ok (b, record { parts = lines_in rest; number = a.0 })) w.1));
  short = λ b fits. let w = back b fits in omega (arith, ap length ((forth (parts b) w.0).0 ∙ ap t w.1), law.short (parts b) w.0);
}

-- the same, with the text and the range told otherwise
pub told_law : {A : Type 0} {long : ℕ} {p : Reads A} {s : A → List ℕ} {F : A → Type 0} (t : A → List ℕ) (G : A → Type 0) → TextLaw long p s F
    → ((a : A) → F a → (s a ≡ t a) × G a) → ((a : A) → G a → F a) → TextLaw long p t G
told_law {p = p} t G law forth back = record {
  takes = λ u x e.
      let v = law.takes u x e in
      let w = forth x.0 v.1 in
      (v.0 ∙ ap (λ (text : List ℕ). text ++ joined x.1.parts) w.0, w.1);
  again = λ n a rest fits.
      let f = back a fits in
      let b = law.again n a rest f in
      (b.0, rw (← (forth a f).0) b.1);
  short = λ a fits. let f = back a fits in omega (arith, ap length (forth a f).0, law.short a f);
}
