-- The words of a stretch of pixels: of two stretches in a row, of one without a covered pixel, of one
-- pixel, and of a stretch within a row or a picture.
use Rattle.std.proofs.Common.{◌≡◌, ◌<◌, ◌≤◌, ◌+◌, ◌-◌, ◌*◌, ◌/◌, ◌%◌, ℕ, zero, suc, Bool, true, false, not, [], ◌∷◌}
use Rattle.std.proofs.Common.{◌++◌, filter, ⊎_elim, ℤ, pos, ◌≤ℤ◌, ◌<ℤ◌, refl, sym, ap, ◌∙◌, zero-add, arith}
use Rattle.std.proofs.lemmas.Bool.{cases_lt}
use Rattle.std.proofs.lemmas.List.{map-append, append-nil}
use Rattle.std.proofs.lemmas.List.Elements.{filter-append}
use Rattle.std.proofs.lemmas.Nat.{mod-mul-add, div-mul-add, div-add-mod'}
use Rattle.std.proofs.Math.Nat.{mul_comm, mul-le-mul_right, div-lt_iff_lt-mul, le-div_iff_mul-le}
use Rattle.std.specs.List.{range_with_len}
use Rattle.std.specs.Ordering.{int_eq}
use Rattle.geom_core.specs.Winding.{edge_function, winding}
use Rattle.geom_core.specs.Depth.{depth}
use Rattle.geom_core.specs.Coverage.{covers, word_of, word_at}
use Rattle.geom_core.proofs.DivisorLaws.{divisor-is, winding-flat}
use Rattle.geom_core.proofs.WindingLaws.{winding-above, winding-below, winding-left, winding-right}
use Rattle.raster64.specs.declared.raster.ScreenTriangle.{ScreenTriangle}
use Rattle.raster64.specs.Internal.Centres.{centre, AreInRange}
use Rattle.raster64.specs.Span.{is_in_span}
use Rattle.raster64.proofs.SpanLaws.{winding-span}
use Rattle.raster64.specs.Internal.Raster.{is_covered, draw_at, words_in}

range-append : (a m n : ℕ) → range_with_len a (m + n) ≡ range_with_len a m ++ range_with_len (a + m) n
range-append a zero n = rw (zero-add n) (ap (λ b. range_with_len b n) (omega arith))
range-append a (suc m) n =
    let e : suc m + n ≡ suc (m + n) = omega arith in
    let f : a + 1 + m ≡ a + suc m = omega arith in
    rw e (ap (λ xs. a ∷ xs) (range-append (a + 1) m n ∙ ap (λ b. range_with_len (a + 1) m ++ range_with_len b n) f))

filter-range_none : (p : ℕ → Bool) (a n : ℕ) → ((k : ℕ) → k < n → p (a + k) ≡ false) →
    filter p (range_with_len a n) ≡ []
filter-range_none p a zero none = refl
filter-range_none p a (suc n) none =
    let here : p a ≡ false = ap p (omega arith) ∙ none 0 (omega arith) in
    rw here (filter-range_none p (a + 1) n (λ k h. ap p (omega arith) ∙ none (k + 1) (omega arith)))

-- the words of two stretches in a row
pub words_in-append : (d : ScreenTriangle) (a m n : ℕ) → words_in d a (m + n) ≡ words_in d a m ++ words_in d (a + m) n
unfolding words_in
words_in-append d a m n =
    rw (range-append a m n, filter-append (is_covered d) (range_with_len a m) (range_with_len (a + m) n))
    (map-append (draw_at d) (filter (is_covered d) (range_with_len a m))
    (filter (is_covered d) (range_with_len (a + m) n)))

-- a stretch without a covered pixel
pub words_in-none : (d : ScreenTriangle) (a n : ℕ) → ((k : ℕ) → k < n → is_covered d (a + k) ≡ false) →
    words_in d a n ≡ []
unfolding words_in
words_in-none d a n none = rw (filter-range_none (is_covered d) a n none) refl

-- one pixel
pub words_in-one : (d : ScreenTriangle) (a : ℕ) → is_covered d a ≡ true → words_in d a 1 ≡ draw_at d a ∷ []
unfolding words_in
words_in-one d a here = rw here refl

-- a stretch and a longer one whose further pixels aren't covered
pub words_in-longer : (d : ScreenTriangle) (a m n : ℕ) → m ≤ n →
    ((k : ℕ) → m ≤ k → k < n → is_covered d (a + k) ≡ false) → words_in d a n ≡ words_in d a m
words_in-longer d a m n h none =
    let e : n ≡ m + (n - m) = omega arith in
    ap (words_in d a) e ∙ words_in-append d a m (n - m) ∙
    ap (λ xs. words_in d a m ++ xs) (words_in-none d (a + m) (n - m) (λ k i. ap (is_covered d) (omega arith) ∙
    none (m + k) (omega arith) (omega arith))) ∙
    append-nil (words_in d a m)

-- ---- the pixel in a column of a row

pub is_covered-at : (d : ScreenTriangle) (row column : ℕ) → column < d.size.width →
    is_covered d (row * d.size.width + column) ≡ not (int_eq (winding d.a d.b d.c (centre column) (centre row)) (pos 0))
unfolding covers
is_covered-at d row column h = rw (mod-mul-add row d.size.width column h, div-mul-add row d.size.width column h) refl

pub draw_at-at : (d : ScreenTriangle) (row column : ℕ) → column < d.size.width →
    draw_at d (row * d.size.width + column) ≡
    (row * d.size.width + column, word_of (depth d.a d.b d.c (centre column) (centre row)) d.cluster d.tri)
unfolding word_at
draw_at-at d row column h = rw (mod-mul-add row d.size.width column h, div-mul-add row d.size.width column h) refl

-- ---- pixels outside the triangle's box

missed : (d : ScreenTriangle) (row column : ℕ) → column < d.size.width →
    winding d.a d.b d.c (centre column) (centre row) ≡ pos 0 →
    is_covered d (row * d.size.width + column) ≡ false
missed d row column h e = is_covered-at d row column h ∙ ap (λ w. not (int_eq w (pos 0))) e

-- all corners lie behind the centre, or none does
abbrev Before : ℤ → ℤ → ℤ → ℤ → Type 0
Before at a b c = (at <ℤ a) × (at <ℤ b) × (at <ℤ c)

abbrev After : ℤ → ℤ → ℤ → ℤ → Type 0
After at a b c = (a ≤ℤ at) × (b ≤ℤ at) × (c ≤ℤ at)

-- the column of a row is covered where its centre is in the span of the row's centre
pub is_covered-span : (d : ScreenTriangle) (row column : ℕ) → column < d.size.width →
    is_covered d (row * d.size.width + column) ≡ is_in_span d.a d.b d.c (centre column) (centre row)
is_covered-span d row column h = is_covered-at d row column h ∙ winding-span d.a d.b d.c (centre column) (centre row)

-- the words of a stretch where the covered pixels are in a range
pub words_in-range : (d : ScreenTriangle) (a first end count : ℕ) →
    AreInRange (λ k. is_covered d (a + k)) first end count →
    words_in d a count ≡ words_in d a end
words_in-range d a first end count r = words_in-longer d a end count r.limit (λ k h i. r.after k h i)

pub words_in-before : (d : ScreenTriangle) (a first end count : ℕ) →
    AreInRange (λ k. is_covered d (a + k)) first end count →
    words_in d a first ≡ []
words_in-before d a first end count r = words_in-none d a first (λ k h. r.before k h)

pub words_in-empty : (d : ScreenTriangle) (a first end count : ℕ) →
    AreInRange (λ k. is_covered d (a + k)) first end count →
    end ≤ first → words_in d a count ≡ []
words_in-empty d a first end count r h =
    let order = r.order in
    let same : end ≡ first = omega arith in
    words_in-range d a first end count r ∙ ap (words_in d a) same ∙ words_in-before d a first end count r

-- a pixel by its number
pixel_missed : (d : ScreenTriangle) (k : ℕ) → 0 < d.size.width →
    winding d.a d.b d.c (centre (k % d.size.width)) (centre (k / d.size.width)) ≡ pos 0 → is_covered d k ≡ false
pixel_missed d k h e =
    ap (is_covered d) (sym (div-add-mod' k d.size.width)) ∙
    missed d (k / d.size.width) (k % d.size.width) (omega arith) e

-- no pixel of the rows before the first one is covered
pub words_in-above : (d : ScreenTriangle) (first : ℕ) → 0 < d.size.width →
    ((k : ℕ) → k < first → Before (centre k) d.a.y d.b.y d.c.y) → words_in d 0 (first * d.size.width) ≡ []
words_in-above d first wide before =
    words_in-none d 0 (first * d.size.width) (λ k h.
    let b = before (k / d.size.width) ((div-lt_iff_lt-mul wide).1 h) in
    ap (is_covered d) (zero-add k) ∙
    pixel_missed d k wide (winding-above d.a d.b d.c (centre (k % d.size.width))
    (centre (k / d.size.width)) b.0 b.1 b.2))

-- the words of the picture are those of the rows before the end
pub words_in-picture : (d : ScreenTriangle) (end : ℕ) → 0 < d.size.width → end ≤ d.size.height →
    ((k : ℕ) → end ≤ k → k < d.size.height → After (centre k) d.a.y d.b.y d.c.y) →
    words_in d 0 (d.size.width * d.size.height) ≡ words_in d 0 (end * d.size.width)
words_in-picture d end wide fits after =
    words_in-longer d 0 (end * d.size.width) (d.size.width * d.size.height)
    (rw (mul_comm d.size.width d.size.height) (mul-le-mul_right d.size.width fits))
    (λ k h i.
    let below : k < d.size.height * d.size.width = omega (arith, mul_comm d.size.width d.size.height) in
    let a = after (k / d.size.width) ((le-div_iff_mul-le wide).1 h) ((div-lt_iff_lt-mul wide).1 below) in
    ap (is_covered d) (zero-add k) ∙
    pixel_missed d k wide (winding-below d.a d.b d.c (centre (k % d.size.width))
    (centre (k / d.size.width)) a.0 a.1 a.2))

-- no pixel is covered where all columns lie before the triangle or after it
pub words_in-beside : (d : ScreenTriangle) (end n : ℕ) → 0 < d.size.width →
    ((k : ℕ) → k < end → Before (centre k) d.a.x d.b.x d.c.x) →
    ((k : ℕ) → end ≤ k → k < d.size.width → After (centre k) d.a.x d.b.x d.c.x) → words_in d 0 n ≡ []
words_in-beside d end n wide before after =
    words_in-none d 0 n (λ k h.
    ap (is_covered d) (zero-add k) ∙ pixel_missed d k wide
    (round (k % d.size.width) (centre (k / d.size.width)) (omega arith)))
  where
    round : (column : ℕ) (y : ℤ) → column < d.size.width → winding d.a d.b d.c (centre column) y ≡ pos 0
    round column y h =
        by_lt column end
        (λ below. let b = before column below in winding-left d.a d.b d.c (centre column) y b.0 b.1 b.2)
        (λ above. let a = after column above h in winding-right d.a d.b d.c (centre column) y a.0 a.1 a.2)
      where
        by_lt : {P : Type 0} (a b : ℕ) → (a < b → P) → (b ≤ a → P) → P
        by_lt a b p q = ⊎_elim p q (cases_lt a b)

-- no pixel is covered by a triangle without an area
pub words_in-flat : (d : ScreenTriangle) (n : ℕ) → 0 < d.size.width → edge_function d.a d.b d.c.x d.c.y ≡ pos 0 →
    words_in d 0 n ≡ []
words_in-flat d n wide flat =
    words_in-none d 0 n (λ k h.
    let x = centre (k % d.size.width) in
    let y = centre (k / d.size.width) in
    ap (is_covered d) (zero-add k) ∙ pixel_missed d k wide
    (winding-flat d.a d.b d.c x y (divisor-is d.a d.b d.c x y ∙ flat)))
