-- The words of a line, when a byte or a span of bytes more stands at its front.
use Rattle.std.proofs.Common.{◌≡◌, ◌≢◌, ℕ, zero, suc, ◌+◌, ◌≤◌, Bool, true, false, cond, ◌||◌, List, [], ◌∷◌, ◌++◌}
use Rattle.std.proofs.Common.{length, take, get_or, refl, ap, sym, subst, ◌∙◌, append_assoc, length-append, arith}
use Rattle.std.proofs.Common.{one-add}
use Rattle.std.specs.List.{All, filter, slice_split, before_first}
use Rattle.std.proofs.lemmas.List.{append-nil}
use Rattle.std.proofs.lemmas.List.Elements.{All-head, All-tail, All-cons, All-nil, All-push}
use Rattle.std.proofs.lemmas.List.Splits.{slice_split_none, slice_split_at}
use Rattle.std.proofs.lemmas.Grind.{common_steps}
use Rattle.std.proofs.lemmas.Bool.Decides.{nat_tests}
use Rattle.std.proofs.lemmas.Bool.{eqb-true, eq-eqb}
use Rattle.obj_source.specs.Lines.{is_hash, is_return, is_blank, without_return, before_comment, is_word, words_of}
use Rattle.obj_source.specs.Scanner.{parts_words, kept}

abbrev pub IsInside : List ℕ → Type 0
IsInside word = All (λ b. parts_words b ≡ false) word

pub kept-some : (word : List ℕ) → 1 ≤ length word → kept word ≡ word ∷ []
kept-some word some = let e : is_word word ≡ true = grind (arith, common_steps, nat_tests) in rw e

pub kept-none : (word : List ℕ) → length word ≡ 0 → kept word ≡ []
kept-none word none = let e : is_word word ≡ false = grind (arith, common_steps, nat_tests) in rw e

pub or-left : (a b : Bool) → a || b ≡ false → a ≡ false
or-left true b e = e
or-left false b e = refl

pub or-right : (a b : Bool) → a || b ≡ false → b ≡ false
or-right true b e = absurd (cc)
or-right false b e = e

no_blank : (word : List ℕ) → IsInside word → All (λ b. is_blank b ≡ false) word
no_blank word inside = λ k d h. or-left _ _ (inside k d h)

no_hash : (word : List ℕ) → IsInside word → All (λ b. is_hash b ≡ false) word
no_hash word inside = λ k d h. or-right (is_blank (get_or word k d)) _ (inside k d h)

-- a list stands before its first element that passes
before_first-cons : (p : ℕ → Bool) (b : ℕ) (rest : List ℕ) → p b ≡ false →
    before_first p (b ∷ rest) ≡ b ∷ before_first p rest
before_first-cons p b rest e = rw e (rw one-add refl)

before_first-append : (p : ℕ → Bool) (front rest : List ℕ) → All (λ b. p b ≡ false) front →
    before_first p (front ++ rest) ≡ front ++ before_first p rest
before_first-append p [] rest none = refl
before_first-append p (b ∷ front) rest none =
    before_first-cons p b (front ++ rest) (All-head (λ b. p b ≡ false) b front none)
    ∙ ap (λ l. b ∷ l) (before_first-append p front rest (All-tail (λ b. p b ≡ false) b front none))

-- a CR that isn't the last byte stays
without_return-cons : (b : ℕ) (rest : List ℕ) → is_return b ≡ false →
    without_return (b ∷ rest) ≡ b ∷ without_return rest
unfolding without_return
without_return-cons b [] e = rw e
without_return-cons b (c ∷ rest) e = refl

without_return-before : (front : List ℕ) (b : ℕ) (rest : List ℕ) → is_return b ≡ false →
    without_return (front ++ b ∷ rest) ≡ front ++ b ∷ without_return rest
unfolding without_return
without_return-before [] b rest e = without_return-cons b rest e
without_return-before (x ∷ []) b rest e = ap (λ l. x ∷ l) (without_return-cons b rest e)
without_return-before (x ∷ y ∷ front) b rest e = ap (λ l. x ∷ l) (without_return-before (y ∷ front) b rest e)

-- of the bytes all but perhaps the last stay
All-without_return : (P : ℕ → Type 0) (word : List ℕ) → All P word → All P (without_return word)
unfolding without_return
All-without_return P [] all = all
All-without_return P (b ∷ []) all =
    elim (is_return b) as (λ r. All P (cond r [] (b ∷ []))) [ true ↦ All-nil P | false ↦ all ]
All-without_return P (b ∷ c ∷ rest) all =
    All-cons P b (without_return (c ∷ rest)) (All-head P b (c ∷ rest) all)
    (All-without_return P (c ∷ rest) (All-tail P b (c ∷ rest) all))

pub length-without_return : (word : List ℕ) → length word ≤ length (without_return word) + 1
unfolding without_return
length-without_return [] = omega arith
length-without_return (b ∷ []) =
    elim (is_return b) as (λ r. length (b ∷ []) ≤ length (cond r [] (b ∷ [])) + 1)
    [ true ↦ omega arith | false ↦ omega arith ]
length-without_return (b ∷ c ∷ rest) = omega (arith, length-without_return (c ∷ rest))

-- the list up to an element that passes
before_first-stop : (p : ℕ → Bool) (front : List ℕ) (b : ℕ) (rest : List ℕ) → All (λ b. p b ≡ false) front →
    p b ≡ true → before_first p (front ++ b ∷ rest) ≡ front
before_first-stop p front b rest none e =
    before_first-append p front (b ∷ rest) none
    ∙ ap (λ l. front ++ l) (rw e refl)
    ∙ append-nil front

-- without one that passes it is whole
before_first-none : (p : ℕ → Bool) (all : List ℕ) → All (λ b. p b ≡ false) all → before_first p all ≡ all
before_first-none p all none =
    ap (before_first p) (sym (append-nil all)) ∙ before_first-append p all [] none ∙ append-nil all

filter-first : (word : List ℕ) (words : List (List ℕ)) →
    filter is_word (word ∷ words) ≡ kept word ++ filter is_word words
filter-first word words =
    elim (is_word word) as (λ w. cond w (word ∷ filter is_word words) (filter is_word words) ≡ cond w
    (word ∷ []) [] ++ filter is_word words) [ true ↦ refl | false ↦ refl ]

blank_is_no_return : (b : ℕ) → is_blank b ≡ true → is_return b ≡ false
blank_is_no_return b blank = grind (arith, common_steps, nat_tests)

blank_is_no_hash : (b : ℕ) → is_blank b ≡ true → is_hash b ≡ false
blank_is_no_hash b blank = grind (arith, common_steps, nat_tests)

-- a blank ends the word before it
pub words_of-blank : (word : List ℕ) (b : ℕ) (rest : List ℕ) → IsInside word → is_blank b ≡ true →
    words_of (word ++ b ∷ rest) ≡ kept word ++ words_of rest
unfolding words_of
words_of-blank word b rest inside blank =
    ap (λ l. filter is_word (slice_split is_blank (before_comment l)))
    (without_return-before word b rest (blank_is_no_return b blank))
    ∙ ap (λ l. filter is_word (slice_split is_blank l))
    (before_first-append is_hash word (b ∷ without_return rest) (no_hash word inside)
    ∙ ap (λ l. word ++ l) (before_first-cons is_hash b (without_return rest) (blank_is_no_hash b blank)))
    ∙ ap (filter is_word) (slice_split_at is_blank word b (before_comment (without_return rest))
    (no_blank word inside) blank)
    ∙ filter-first word (slice_split is_blank (before_comment (without_return rest)))

-- what stands behind a `#` says nothing
pub words_of-hash : (word rest : List ℕ) → IsInside word → words_of (word ++ 35 ∷ rest) ≡ kept word
unfolding words_of
words_of-hash word rest inside =
    ap (λ l. filter is_word (slice_split is_blank (before_comment l))) (without_return-before word 35 rest refl)
    ∙ ap (λ l. filter is_word (slice_split is_blank l))
    (before_first-stop is_hash word 35 (without_return rest) (no_hash word inside) refl)
    ∙ ap (filter is_word) (slice_split_none is_blank word (no_blank word inside))

-- the last word of a line loses its CR
pub words_of-last : (word : List ℕ) → IsInside word → words_of word ≡ kept (without_return word)
unfolding words_of
words_of-last word inside =
    let last = without_return word in
    let stays : IsInside last = All-without_return (λ b. parts_words b ≡ false) word inside in
    ap (λ l. filter is_word (slice_split is_blank l)) (before_first-none is_hash last (no_hash last stays))
    ∙ ap (filter is_word) (slice_split_none is_blank last (no_blank last stays))

-- a line that begins with three bytes of a word has a first word of two bytes or more
pub record HasLongFirst (words : List (List ℕ)) : Type 0 where
  pub first : List ℕ
  pub more : List (List ℕ)
  pub parted : words ≡ first ∷ more
  pub long : 2 ≤ length first

kept_long : (word : List ℕ) (more words : List (List ℕ)) → 2 ≤ length word → words ≡ kept word ++ more →
    HasLongFirst words
kept_long word more words long e =
    record { first = word; more = more; parted = e ∙ ap (λ l. l ++ more) (kept-some word (omega arith)); long = long }

push-inside : (word : List ℕ) (b : ℕ) → IsInside word → parts_words b ≡ false → IsInside (word ++ b ∷ [])
push-inside word b inside e = All-push (λ b. parts_words b ≡ false) word b inside e

-- a byte is a blank, or a `#`, or it stays in its word
byte_cases : (b : ℕ) (P : Type 0) → (is_blank b ≡ true → P) → (b ≡ 35 → P) → (parts_words b ≡ false → P) → P
byte_cases b P blank hash neither =
    elim (is_blank b) as (λ v. (is_blank b ≡ v) → P) [
      | true ↦ blank
      | false ↦ λ no_blank. (elim (is_hash b) as (λ v. (is_hash b ≡ v) → P)
          [ true ↦ λ e. hash (eqb-true b 35 e) | false ↦ λ no_hash. neither (rw (no_blank, no_hash)) ]) refl
    ] refl

pub words_of-long : (word rest : List ℕ) → IsInside word → 3 ≤ length word → HasLongFirst (words_of (word ++ rest))
words_of-long word [] inside long =
    kept_long (without_return word) [] _ (omega (arith, length-without_return word))
    (ap words_of (append-nil word) ∙ words_of-last word inside ∙ sym (append-nil (kept (without_return word))))
words_of-long word (b ∷ rest) inside long =
    let next : parts_words b ≡ false → HasLongFirst (words_of (word ++ b ∷ rest)) = λ e.
    subst (λ l. HasLongFirst (words_of l)) (append_assoc word (b ∷ []) rest)
    (words_of-long (word ++ b ∷ []) rest (push-inside word b inside e) (omega (arith, length-append word (b ∷ [])))) in
    byte_cases b (HasLongFirst (words_of (word ++ b ∷ rest)))
    (λ blank. kept_long word (words_of rest) _ (omega arith) (words_of-blank word b rest inside blank))
    (λ hash. kept_long word [] _ (omega arith)
    (ap (λ h. words_of (word ++ h ∷ rest)) hash ∙ words_of-hash word rest inside ∙ sym (append-nil (kept word))))
    next

-- the CR is the last byte, or there is none
pub without_return-yes : (word : List ℕ) (m : ℕ) → length word ≡ suc m → get_or word m 0 ≡ 13 →
    without_return word ≡ take m word
unfolding without_return
without_return-yes [] m e last = absurd (omega arith)
without_return-yes (b ∷ []) zero e last = let r : is_return b ≡ true = eq-eqb b 13 last in rw r
without_return-yes (b ∷ []) (suc m) e last = absurd (omega arith)
without_return-yes (b ∷ c ∷ rest) zero e last = absurd (omega arith)
without_return-yes (b ∷ c ∷ rest) (suc m) e last =
    ap (λ l. b ∷ l) (without_return-yes (c ∷ rest) m (omega arith) last)

pub without_return-no : (word : List ℕ) (m : ℕ) → length word ≡ suc m → get_or word m 0 ≢ 13 →
    without_return word ≡ word
unfolding without_return
without_return-no [] m e last = refl
without_return-no (b ∷ []) zero e last = let r : is_return b ≡ false = grind (arith, nat_tests) in rw r
without_return-no (b ∷ []) (suc m) e last = absurd (omega arith)
without_return-no (b ∷ c ∷ rest) zero e last = absurd (omega arith)
without_return-no (b ∷ c ∷ rest) (suc m) e last =
    ap (λ l. b ∷ l) (without_return-no (c ∷ rest) m (omega arith) last)
