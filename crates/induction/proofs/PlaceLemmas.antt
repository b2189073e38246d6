-- Words by places: no word yet, and one word more.
use Rattle.std.proofs.Common.{◌≡◌, ℕ, ◌+◌, ◌<◌, ◌≤◌, Bool, true, false, cond, eqb, ltb, Option, None, Some, List, [], ◌∷◌, ◌++◌, length, get_or, set, replicate, inl, inr, refl, sym, ap, ◌∙◌, arith}
use Rattle.std.proofs.lemmas.Bool.{cases_lt, cases_eq, lt-ltb, le-ltb, ltb-true}
use Rattle.std.proofs.lemmas.List.{get_or-replicate, get_or-set_same, get_or-set_other, length-set, length_push, get_or_append_left, get_or_default}
use Rattle.std.proofs.lemmas.List.Elements.{All-get_or, All-push}
use Rattle.std.proofs.Math.Seq.{get_or-append_seam}
use Rattle.std.specs.List.{position_or_len}
use Rattle.std.specs.Option.{is_some}
use Rattle.plan_book.proofs.ExpectedLemmas.{is_same, is_other}
use Rattle.induction.specs.Keys.{key_place}
use Rattle.induction.specs.Places.{PlaceWords, word_by, place_word, is_put, AreWords}

-- ---- where the word of a place stands
module _ (w : PlaceWords) (place : ℕ) where
  pub in_list : place < length w.listed → place_word w place ≡ get_or w.listed place 0
  unfolding place_word
  in_list l = ap (λ (b : Bool). cond b (get_or w.listed place 0) (word_by w.words (key_place w.keys place))) (lt-ltb place (length w.listed) l)

  pub behind_list : length w.listed ≤ place → place_word w place ≡ word_by w.words (key_place w.keys place)
  unfolding place_word
  behind_list l = ap (λ (b : Bool). cond b (get_or w.listed place 0) (word_by w.words (key_place w.keys place))) (le-ltb place (length w.listed) l)

pub listed_word : (w : PlaceWords) (place x : ℕ) → place < length w.listed → x ≡ get_or w.listed place x → x ≡ place_word w place
listed_word w place x l is = is ∙ get_or_default w.listed place x 0 l ∙ sym (in_list w place l)

pub behind_word : (w : PlaceWords) (place number x : ℕ) → length w.listed ≤ place → key_place w.keys place ≡ Some number → number < length w.words → x ≡ get_or w.words number x
    → x ≡ place_word w place
behind_word w place number x l at few is = is ∙ get_or_default w.words number x 0 few ∙ sym (ap (word_by w.words) at) ∙ sym (behind_list w place l)

pub no_word : (w : PlaceWords) (place : ℕ) → length w.listed ≤ place → key_place w.keys place ≡ None → 0 ≡ place_word w place
no_word w place l none = sym (ap (word_by w.words) none) ∙ sym (behind_list w place l)

pub no_words : (w : PlaceWords) (n : ℕ) → w.listed ≡ replicate n 0 → w.keys ≡ [] → length w.listed ≡ n → (place : ℕ) → place_word w place ≡ 0
no_words w n listed keys long place = elim (cases_lt place (length w.listed)) [
  | inl less ↦ in_list w place less ∙ ap (λ (l : List ℕ). get_or l place 0) listed ∙ get_or-replicate n place 0 0 (omega (arith, less, long))
  | inr not ↦ behind_list w place (omega arith) ∙ ap (λ (ks : List ℕ). word_by w.words (key_place ks place)) keys
]

-- ---- one word more
apart_below : (a b n : ℕ) → a < n → n ≤ b → eqb a b ≡ false
apart_below a b n l h = is_other a b (λ e. absurd (omega (arith, l, h, e)))

apart_above : (a b n : ℕ) → n ≤ a → b < n → eqb a b ≡ false
apart_above a b n h l = is_other a b (λ e. absurd (omega (arith, l, h, e)))

module _ (w v : PlaceWords) (place word : ℕ) where
  abbrev pub IsOneMore : Type 0
  IsOneMore = (other : ℕ) → place_word v other ≡ cond (eqb place other) word (place_word w other)

  not_here : (other : ℕ) → eqb place other ≡ false → place_word v other ≡ place_word w other → place_word v other ≡ cond (eqb place other) word (place_word w other)
  not_here other apart same = same ∙ sym (ap (λ (b : Bool). cond b word (place_word w other)) apart)

  pub listed_more : place < length w.listed → v.listed ≡ set w.listed place word → v.keys ≡ w.keys → v.words ≡ w.words → IsOneMore
  listed_more l listed keys words other = elim (cases_lt other (length w.listed)) [
    | inl less ↦
        let there : place_word v other ≡ get_or (set w.listed place word) other 0 =
        in_list v other (rw (listed, length-set w.listed place word) less) ∙ ap (λ (l : List ℕ). get_or l other 0) listed in
        elim (cases_eq place other) [
          | inl e ↦
              there ∙ rw (← e) (get_or-set_same w.listed place word 0 l) ∙ sym (ap (λ (b : Bool). cond b word (place_word w other)) (is_same place other e))
          | inr ne ↦
              not_here other (is_other place other ne)
              (there ∙ get_or-set_other w.listed place other word 0 (λ e. absurd (ne (sym e))) ∙ sym (in_list w other less))
        ]
    | inr not ↦
        not_here other (apart_below place other (length w.listed) l (omega arith))
        (behind_list v other (rw (listed, length-set w.listed place word) (omega arith)) ∙ rw (words, keys) refl ∙ sym (behind_list w other (omega arith)))
  ]

  place_within : (number : ℕ) (other : ℕ) → key_place w.keys other ≡ Some number → number < length w.keys
  place_within number other e = found (ltb (position_or_len (eqb other) w.keys) (length w.keys)) refl e
    where
      found : (b : Bool) → ltb (position_or_len (eqb other) w.keys) (length w.keys) ≡ b → cond b (Some (position_or_len (eqb other) w.keys)) None ≡ Some number → number < length w.keys
      found true is e = let here = ltb-true (position_or_len (eqb other) w.keys) (length w.keys) is in
          let same : position_or_len (eqb other) w.keys ≡ number = cc in omega (arith, here, same)
      found false is e = absurd (cc)

  word_still : (o : Option ℕ) → ((number : ℕ) → o ≡ Some number → number < length w.words) → word_by (w.words ++ word ∷ []) o ≡ word_by w.words o
  word_still None few = refl
  word_still (Some number) few = get_or_append_left w.words (word ∷ []) 0 number (few number refl)

  module _ (words : AreWords w.keys w.words) (l : length w.listed ≤ place) where
    pub new_key : place_word w place ≡ 0 → is_some (key_place w.keys place) ≡ false
    new_key none = no_number (key_place w.keys place) refl
      where
        no_number : (o : Option ℕ) → key_place w.keys place ≡ o → is_some o ≡ false
        no_number None e = refl
        no_number (Some number) e = absurd (
            let within : number < length w.words = let few = place_within number place e in let all = words.as_many in omega (arith, few, all) in
            let some : 1 ≤ get_or w.words number 0 = All-get_or (λ word. 1 ≤ word) w.words number 0 within words.some in
            let is : get_or w.words number 0 ≡ 0 = sym (ap (word_by w.words) e) ∙ sym (behind_list w place l) ∙ none in
            omega (arith, some, is))

    pub word_more : v.listed ≡ w.listed → ((other : ℕ) → key_place v.keys other ≡ cond (eqb place other) (Some (length w.keys)) (key_place w.keys other))
        → v.words ≡ w.words ++ word ∷ [] → IsOneMore
    word_more listed keys more other = elim (cases_lt other (length w.listed)) [
      | inl less ↦
          not_here other (apart_above place other (length w.listed) l less)
          (in_list v other (rw listed less) ∙ ap (λ (l : List ℕ). get_or l other 0) listed ∙ sym (in_list w other less))
      | inr not ↦
          let there : place_word v other ≡ word_by (w.words ++ word ∷ []) (cond (eqb place other) (Some (length w.keys)) (key_place w.keys other)) =
          behind_list v other (rw listed (omega arith)) ∙ ap (word_by v.words) (keys other)
          ∙ ap (λ (l : List ℕ). word_by l (cond (eqb place other) (Some (length w.keys)) (key_place w.keys other))) more in
          let old = behind_list w other (omega arith) in
          elim (cases_eq place other) [
            | inl e ↦
                there ∙ ap (λ (b : Bool). word_by (w.words ++ word ∷ []) (cond b (Some (length w.keys)) (key_place w.keys other))) (is_same place other e)
                ∙ ap (λ (n : ℕ). get_or (w.words ++ word ∷ []) n 0) (sym words.as_many) ∙ get_or-append_seam w.words word [] 0
                ∙ sym (ap (λ (b : Bool). cond b word (place_word w other)) (is_same place other e))
            | inr ne ↦
                not_here other (is_other place other ne)
                (there ∙ ap (λ (b : Bool). word_by (w.words ++ word ∷ []) (cond b (Some (length w.keys)) (key_place w.keys other))) (is_other place other ne)
                ∙ word_still (key_place w.keys other) (λ number e. let few = place_within number other e in let all = words.as_many in omega (arith, few, all)) ∙ sym old)
          ]
    ]

-- ---- whether a word was put
pub none_put : (w : PlaceWords) (place word : ℕ) → word ≡ place_word w place → word ≡ 0 → is_put w place ≡ false
none_put w place word is none = ap (λ (n : ℕ). ltb 0 n) (sym is ∙ none)

pub some_put : (w : PlaceWords) (place word : ℕ) → word ≡ place_word w place → 1 ≤ word → is_put w place ≡ true
some_put w place word is some = ap (λ (n : ℕ). ltb 0 n) (sym is) ∙ lt-ltb 0 word (omega (arith, some))

pub put_more : (w v : PlaceWords) (place word : ℕ) → 1 ≤ word → IsOneMore w v place word → (other : ℕ) → is_put v other ≡ cond (eqb place other) true (is_put w other)
put_more w v place word some more other = ap (λ (n : ℕ). ltb 0 n) (more other) ∙ either (eqb place other)
  where
    either : (b : Bool) → ltb 0 (cond b word (place_word w other)) ≡ cond b true (is_put w other)
    either true = lt-ltb 0 word (omega (arith, some))
    either false = refl

pub words_more : (keys more words : List ℕ) (word : ℕ) → AreWords keys words → length more ≡ length keys + 1 → 1 ≤ word → AreWords more (words ++ word ∷ [])
words_more keys more words word old long some = record {
  as_many = length_push words word ∙ ap (λ (n : ℕ). n + 1) old.as_many ∙ sym long;
  some = All-push (λ word. 1 ≤ word) words word old.some some;
}
