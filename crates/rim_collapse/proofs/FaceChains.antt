-- The corners of faces, and the chains that they are on.
use Rattle.std.proofs.Common.{◌≡◌, inl, inr, ℕ, zero, suc, ◌+◌, ◌*◌, ◌/◌, ◌<◌, true}
use Rattle.std.proofs.Common.{eqb}
use Rattle.std.proofs.Common.{List, [], ◌∷◌, length, map, get_or, All, refl, sym, ap, ◌∙◌}
use Rattle.std.proofs.Common.{subst}
use Rattle.std.proofs.Common.{arith}
use Rattle.std.specs.List.{list_any}
use Rattle.std.proofs.lemmas.List.Elements.{All-cons, All-head, All-nil, All-tail, All-weaker}
use Rattle.rim_collapse.specs.declared.faces.Face.{Face}
use Rattle.rim_collapse.specs.declared.chains.Chains.{Chains}
use Rattle.rim_collapse.specs.Internal.Chains.{AreChained, chain, numbers_in}
use Rattle.rim_collapse.specs.Internal.Faces.{IsNumbered, face_to, renumbered}
use Rattle.std.proofs.lemmas.Bool.{or_cases}
use Rattle.std.proofs.Common.{◌||◌}
use Rattle.rim_collapse.specs.Internal.Chains.{no_face}
use Rattle.rim_collapse.specs.Internal.Faces.{has_number}
use Rattle.rim_collapse.proofs.ChainLaws.{IsLinkedAt, chain-below, chain-has}
use Rattle.rim_collapse.proofs.ChainLaws.{equal_from, equal_is}

-- ---- the corners of faces

pub length-numbers : (faces : List Face) → length (numbers_in faces) ≡ 3 * length faces
length-numbers [] = refl
length-numbers (f ∷ faces) = omega (arith, length-numbers faces)

pub numbers-below : (n : ℕ) (faces : List Face) → All (IsNumbered n) faces → All (λ m. m < n) (numbers_in faces)
numbers-below n [] all = All-nil (λ m. m < n)
numbers-below n (f ∷ faces) all =
    let here = All-head (IsNumbered n) f faces all in
    let rest = numbers-below n faces (All-tail (IsNumbered n) f faces all) in
    All-cons (λ m. m < n) f.a (f.b ∷ f.c ∷ numbers_in faces) here.a
    (All-cons (λ m. m < n) f.b (f.c ∷ numbers_in faces) here.b
    (All-cons (λ m. m < n) f.c (numbers_in faces) here.c rest))

pub numbers-renumbered : (a b : ℕ) (faces : List Face) →
    numbers_in (map (face_to a b) faces) ≡ map (renumbered a b) (numbers_in faces)
numbers-renumbered a b [] = refl
numbers-renumbered a b (f ∷ faces) =
    ap (λ l. renumbered a b f.a ∷ renumbered a b f.b ∷ renumbered a b f.c ∷ l) (numbers-renumbered a b faces)

pub number-below : (n : ℕ) (faces : List Face) (numbers : List ℕ) (i d m : ℕ) → All (IsNumbered n) faces →
    numbers ≡ numbers_in faces → i < length numbers → m ≡ get_or numbers i d → m < n
number-below n faces numbers i d m all are within is =
    subst (λ k. k < n) (sym is)
    (subst (All (λ k. k < n)) (sym are) (numbers-below n faces all) i d within)

pub linked-at : (points : ℕ) (faces : List Face) (chains : Chains) (p : ℕ) → AreChained points faces chains →
    p < points → IsLinkedAt p (numbers_in faces) (chain chains p)
linked-at points faces chains p chained in_p = chained.linked p (omega (arith, chained.firsts, in_p))

pub chain-nexts : (points : ℕ) (faces : List Face) (chains : Chains) (p : ℕ) → AreChained points faces chains →
    p < points → All (λ c. c < length chains.nexts.items) (chain chains p)
chain-nexts points faces chains p chained in_p =
    subst (λ n. All (λ c. c < n) (chain chains p)) (sym chained.nexts)
    (chain-below p (numbers_in faces) (chain chains p) (linked-at points faces chains p chained in_p))

pub chain-slots : (points : ℕ) (faces : List Face) (chains : Chains) (p : ℕ) → AreChained points faces chains →
    p < points → All (λ c. c / 3 < length faces) (chain chains p)
chain-slots points faces chains p chained in_p =
    All-weaker (λ c. c < length (numbers_in faces)) (λ c. c / 3 < length faces)
    (λ c below. slot c (length faces) (omega (arith, below, length-numbers faces))) (chain chains p)
    (chain-below p (numbers_in faces) (chain chains p) (linked-at points faces chains p chained in_p))
  where
    slot : (c n : ℕ) → c < 3 * n → c / 3 < n
    slot c n below = omega arith

-- ---- the corners of a face, by index

number-at : (pick : Face → ℕ) (e : ℕ) → e < 3 →
    ((f : Face) (rest : List ℕ) → get_or (f.a ∷ f.b ∷ f.c ∷ rest) e 0 ≡ pick f) → (faces : List Face) (k : ℕ) →
    k < length faces → get_or (numbers_in faces) (3 * k + e) 0 ≡ pick (get_or faces k no_face)
number-at pick e small is [] k within = absurd (omega arith)
number-at pick e small is (f ∷ faces) zero within =
    let at : 3 * 0 + e ≡ e = omega arith in
    ap (λ i. get_or (numbers_in (f ∷ faces)) i 0) at ∙ is f (numbers_in faces)
number-at pick e small is (f ∷ faces) (suc k) within =
    let at : 3 * suc k + e ≡ suc (suc (suc (3 * k + e))) = omega arith in
    ap (λ i. get_or (numbers_in (f ∷ faces)) i 0) at ∙ number-at pick e small is faces k (omega arith)

-- each face with the number is on the number's chain
pub chain-all : (points : ℕ) (faces : List Face) (chains : Chains) (a k : ℕ) → AreChained points faces chains →
    a < points → k < length faces → has_number a (get_or faces k no_face) ≡ true →
    list_any (λ c. eqb (c / 3) k) (chain chains a) ≡ true
unfolding has_number
chain-all points faces chains a k chained in_a within has =
    let f = get_or faces k no_face in
    elim (or_cases (eqb f.a a || eqb f.b a) (eqb f.c a) has) [
      | inl front ↦
          elim (or_cases (eqb f.a a) (eqb f.b a) front) [
            | inl at ↦ found 0 (omega arith) (number-at (λ g. g.a) 0 (omega arith) (λ g rest. refl) faces k within ∙
                equal_from f.a a at)
            | inr at ↦ found 1 (omega arith) (number-at (λ g. g.b) 1 (omega arith) (λ g rest. refl) faces k within ∙
                equal_from f.b a at)
          ]
      | inr at ↦ found 2 (omega arith) (number-at (λ g. g.c) 2 (omega arith) (λ g rest. refl) faces k within ∙
          equal_from f.c a at)
    ]
  where
    third : (e : ℕ) → e < 3 → (3 * k + e) / 3 ≡ k
    third e small = omega arith

    found : (e : ℕ) → e < 3 → get_or (numbers_in faces) (3 * k + e) 0 ≡ a →
        list_any (λ c. eqb (c / 3) k) (chain chains a) ≡ true
    found e small at =
        chain-has a (numbers_in faces) (chain chains a) (λ c. eqb (c / 3) k) (3 * k + e)
        (linked-at points faces chains a chained in_a) (omega (arith, length-numbers faces)) at
        (equal_is ((3 * k + e) / 3) k (third e small))
