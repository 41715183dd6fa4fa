-- A collapse of faces: the corners are moved one after another, and faces are dropped by that.
use Rattle.std.proofs.Common.{◌≡◌, ◌≢◌, inl, inr, ◌<◌, ◌≤◌, ◌+◌, ◌/◌, ℕ, zero, suc, Bool, true, false, not, ◌&&◌, ◌||◌}
use Rattle.std.proofs.Common.{cond}
use Rattle.std.proofs.Common.{eqb, List, [], ◌∷◌, length, drop, set, get_or, map, All, refl, sym, ap, subst, ◌∙◌, arith}
use Rattle.std.specs.List.{list_any}
use Rattle.std.proofs.lemmas.Bool.{and_from, and_parts, cases_Bool, or_cases, or_parts}
use Rattle.std.proofs.lemmas.Bool.Decides.{nat_tests}
use Rattle.std.proofs.lemmas.List.{drop_all, drop_more, get_or-set_other, get_or-set_same}
use Rattle.std.proofs.lemmas.List.Elements.{All-from_get_or, All-head, All-tail}
use Rattle.rim_collapse.specs.declared.faces.Face.{Face}
use Rattle.rim_collapse.specs.Internal.Chains.{no_face}
use Rattle.rim_collapse.specs.Internal.Faces.{face_to, has_distinct_numbers, has_number, left, renumbered}

clash : (x : Bool) → x ≡ true → x ≡ false → ⊥
clash x h k = cc

equal_from : (n m : ℕ) → eqb n m ≡ true → n ≡ m
equal_from n m h = grind (arith, nat_tests)

equal_is : (n m : ℕ) → n ≡ m → eqb n m ≡ true
equal_is n m h = grind (arith, nat_tests)

differ_is : (n m : ℕ) → n ≢ m → eqb n m ≡ false
differ_is n m h = grind (arith, nat_tests)

-- ---- a face that stays

renumbered-same : (a b n : ℕ) → eqb n a ≡ false → renumbered a b n ≡ n
unfolding renumbered
renumbered-same a b n apart = rw apart refl

-- a face without corner a stays
pub face_to-same : (a b : ℕ) (f : Face) → has_number a f ≡ false → face_to a b f ≡ f
unfolding has_number
face_to-same a b f none =
    let last = or_parts (eqb f.a a || eqb f.b a) (eqb f.c a) none in
    let first = or_parts (eqb f.a a) (eqb f.b a) last.0 in
    rw (renumbered-same a b f.a first.0, renumbered-same a b f.b first.1, renumbered-same a b f.c last.1) refl

faces-same : (a b : ℕ) (faces : List Face) → All (λ f. has_number a f ≡ false) faces → map (face_to a b) faces ≡ faces
faces-same a b [] none = refl
faces-same a b (f ∷ faces) none =
    ap (λ (g : Face). g ∷ map (face_to a b) faces)
    (face_to-same a b f (All-head (λ g. has_number a g ≡ false) f faces none)) ∙
    ap (λ l. f ∷ l) (faces-same a b faces (All-tail (λ g. has_number a g ≡ false) f faces none))

-- ---- a face that is moved

renumbered-off : (a b n : ℕ) → a ≢ b → eqb (renumbered a b n) a ≡ false
unfolding renumbered
renumbered-off a b n apart =
    elim (cases_Bool (eqb n a)) [
      | inl at ↦ rw at (differ_is b a (λ e. apart (sym e)))
      | inr off ↦ rw off off
    ]

pub face_to-off : (a b : ℕ) (f : Face) → a ≢ b → has_number a (face_to a b f) ≡ false
unfolding has_number
face_to-off a b f apart =
    rw (renumbered-off a b f.a apart, renumbered-off a b f.b apart, renumbered-off a b f.c apart) refl

pub face_to-twice : (a b : ℕ) (f : Face) → a ≢ b → face_to a b (face_to a b f) ≡ face_to a b f
face_to-twice a b f apart = face_to-same a b (face_to a b f) (face_to-off a b f apart)

differ-before : (a b n m : ℕ) → not (eqb (renumbered a b n) (renumbered a b m)) ≡ true → not (eqb n m) ≡ true
differ-before a b n m differ =
    elim (cases_Bool (eqb n m)) [
      | inl same ↦ absurd (clash (not (eqb (renumbered a b n) (renumbered a b m))) differ
          (ap not (equal_is (renumbered a b n) (renumbered a b m) (ap (renumbered a b) (equal_from n m same)))))
      | inr other ↦ ap not other
    ]

-- a number that a face has twice stays so
pub distinct-before : (a b : ℕ) (f : Face) → has_distinct_numbers (face_to a b f) ≡ true → has_distinct_numbers f ≡ true
unfolding has_distinct_numbers
distinct-before a b f distinct =
    let g = face_to a b f in
    let last = and_parts (not (eqb g.a g.b) && not (eqb g.b g.c)) (not (eqb g.c g.a)) distinct in
    let first = and_parts (not (eqb g.a g.b)) (not (eqb g.b g.c)) last.0 in
    and_from _ _ (and_from _ _ (differ-before a b f.a f.b first.0) (differ-before a b f.b f.c first.1))
    (differ-before a b f.c f.a last.1)

-- ---- how many are left

pub left-set : (faces : List Face) (k : ℕ) (d g : Face) → k < length faces →
    length (left (set faces k g)) + cond (has_distinct_numbers (get_or faces k d)) 1 0 ≡
    length (left faces) + cond (has_distinct_numbers g) 1 0
left-set [] k d g within = absurd (omega arith)
left-set (f ∷ faces) zero d g within = by (has_distinct_numbers f) (has_distinct_numbers g)
  where
    by : (x y : Bool) →
        length (cond y (g ∷ left faces) (left faces)) + cond x 1 0 ≡
        length (cond x (f ∷ left faces) (left faces)) + cond y 1 0
    by true true = omega arith
    by true false = omega arith
    by false true = omega arith
    by false false = omega arith
left-set (f ∷ faces) (suc k) d g within = by (has_distinct_numbers f) (left-set faces k d g (omega arith))
  where
    by : (x : Bool) →
        length (left (set faces k g)) + cond (has_distinct_numbers (get_or faces k d)) 1 0 ≡
        length (left faces) + cond (has_distinct_numbers g) 1 0 →
        length (cond x (f ∷ left (set faces k g)) (left (set faces k g))) +
        cond (has_distinct_numbers (get_or faces k d)) 1 0 ≡
        length (cond x (f ∷ left faces) (left faces)) + cond (has_distinct_numbers g) 1 0
    by true h = omega (arith, h)
    by false h = h

-- the face with this index is moved
pub count-moved : (faces : List Face) (a b k n n2 total : ℕ) (d f g : Face) (drops : Bool) → k < length faces →
    f ≡ get_or faces k d → g ≡ face_to a b f → drops ≡ (has_distinct_numbers f && not (has_distinct_numbers g)) →
    n2 ≡ n + cond drops 1 0 → n + length (left faces) ≡ total → n2 + length (left (set faces k g)) ≡ total
count-moved faces a b k n n2 total d f g drops within is moved test more so_far =
    let one : length (left (set faces k g)) + cond (has_distinct_numbers f) 1 0 ≡
    length (left faces) + cond (has_distinct_numbers g) 1 0 =
    rw is (left-set faces k d g within) in
    elim (cases_Bool (has_distinct_numbers g)) [
      | inl stays ↦
          (let before : has_distinct_numbers f ≡ true =
          distinct-before a b f (ap has_distinct_numbers (sym moved) ∙ stays) in
          let same : drops ≡ false = rw (before, stays) at test in
          let kept = rw (before, stays) at one in
          let none : cond {A = ℕ} drops 1 0 ≡ 0 = rw same refl in
          omega (arith, kept, none, more, so_far))
      | inr twice ↦
          (let is_left : drops ≡ has_distinct_numbers f = test ∙ ap (λ x. has_distinct_numbers f && not x) twice ∙
          and_true (has_distinct_numbers f) in
          let kept = rw twice at one in
          let bits : cond {A = ℕ} drops 1 0 ≡ cond (has_distinct_numbers f) 1 0 = ap (λ x. cond x 1 0) is_left in
          omega (arith, kept, bits, more, so_far))
    ]
  where
    and_true : (x : Bool) → x && true ≡ x
    and_true true = refl
    and_true false = refl

-- ---- the corners that are left to be moved

pub to_move-more : (faces : List Face) (corners : List ℕ) (a i d k n : ℕ) (g : Face) → i < length corners →
    k < length faces → k ≡ get_or corners i d / 3 → has_number a g ≡ false →
    ((j : ℕ) → j < n → has_number a (get_or faces j no_face) ≡ true →
    list_any (λ c. eqb (c / 3) j) (drop i corners) ≡ true) →
    (j : ℕ) → j < n → has_number a (get_or (set faces k g) j no_face) ≡ true →
    list_any (λ c. eqb (c / 3) j) (drop (i + 1) corners) ≡ true
to_move-more faces corners a i d k n g within in_faces is off before j in_n has =
    elim (cases_Bool (eqb k j)) [
      | inl at ↦ absurd (clash (has_number a (get_or (set faces k g) j no_face)) has
          (subst (λ m. has_number a (get_or (set faces k g) m no_face) ≡ false) (equal_from k j at)
          (ap (has_number a) (get_or-set_same faces k g no_face in_faces) ∙ off)))
      | inr other ↦
          (let was : has_number a (get_or faces j no_face) ≡ true =
          ap (has_number a) (sym (get_or-set_other faces k j g no_face
          (λ e. clash (eqb k j) (equal_is k j (sym e)) other))) ∙ has in
          let any : eqb (get_or corners i d / 3) j || list_any (λ c. eqb (c / 3) j) (drop (i + 1) corners) ≡ true =
          sym (ap (list_any (λ c. eqb (c / 3) j)) (drop_more corners i d within)) ∙ before j in_n was in
          elim (or_cases (eqb (get_or corners i d / 3) j) (list_any (λ c. eqb (c / 3) j) (drop (i + 1) corners)) any) [
            | inl at ↦ absurd (clash (eqb k j) (ap (λ m. eqb m j) is ∙ at) other)
            | inr later ↦ later
          ])
    ]

-- all are moved
pub moved-all : (faces begun : List Face) (corners : List ℕ) (a b i : ℕ) → length faces ≡ length begun →
    length corners ≤ i → map (face_to a b) faces ≡ map (face_to a b) begun →
    ((j : ℕ) → j < length begun → has_number a (get_or faces j no_face) ≡ true →
    list_any (λ c. eqb (c / 3) j) (drop i corners) ≡ true) →
    faces ≡ map (face_to a b) begun
moved-all faces begun corners a b i same past moved to_move =
    sym (faces-same a b faces (All-from_get_or (λ f. has_number a f ≡ false) faces no_face each)) ∙ moved
  where
    each : (j : ℕ) → j < length faces → has_number a (get_or faces j no_face) ≡ false
    each j within =
        elim (cases_Bool (has_number a (get_or faces j no_face))) [
          | inl has ↦ absurd (clash (list_any (λ c. eqb (c / 3) j) (drop i corners))
              (to_move j (omega (arith, within, same)) has)
              (ap (list_any (λ c. eqb (c / 3) j)) (drop_all i corners past)))
          | inr hasnt ↦ hasnt
        ]
