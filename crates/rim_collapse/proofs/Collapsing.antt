-- A collapse of a mesh: which faces it moves, whose corners are marked, and the mesh after it.
use Rattle.std.proofs.Common.{◌≡◌, ◌≢◌, inl, inr, ℕ, ◌+◌, ◌-◌, ◌*◌, ◌/◌, ◌<◌, ◌≤◌, ◌^◌, Bool, true, false}
use Rattle.std.proofs.Common.{not, cond}
use Rattle.std.proofs.Common.{eqb, List, [], ◌∷◌, length, map, filter, set, get_or, All, refl, sym, ap, ◌∙◌, subst}
use Rattle.std.proofs.Common.{arith}
use Rattle.std.specs.List.{list_any}
use Rattle.std.proofs.lemmas.Bool.{and_parts, cases_Bool}
use Rattle.std.proofs.lemmas.Bool.Decides.{nat_tests}
use Rattle.std.proofs.lemmas.List.{length-map, length-set}
use Rattle.std.proofs.lemmas.List.Elements.{All-cons, All-contains, All-filter, All-from_get_or, All-head, All-map}
use Rattle.std.proofs.lemmas.List.Elements.{All-nil, All-tail}
use Rattle.std.proofs.lemmas.List.Elements.{All-weaker}
use Rattle.std.proofs.lemmas.List.Folds.{Any-from_list_any}
use Rattle.geom_core.specs.declared.limits.TheConstants.{TRIANGLES_PER_GROUP}
use Rattle.geom_core.specs.declared.points.Pt.{Pt}
use Rattle.geom_core.specs.declared.triangles.Tri.{Tri}
use Rattle.geom_core.specs.EdgeSum.{same_point}
use Rattle.geom_core.specs.Limits.{IsGridTriangle}
use Rattle.rim_collapse.specs.declared.chains.Chains.{Chains}
use Rattle.rim_collapse.specs.declared.faces.Face.{Face}
use Rattle.rim_collapse.specs.declared.simplifying.Progress.{Progress}
use Rattle.rim_collapse.specs.Cost.{around}
use Rattle.rim_collapse.specs.Legal.{has_both, has_edge}
use Rattle.rim_collapse.specs.Internal.Chains.{AreChained, chain, face_at, faces_at, no_face, numbers_in}
use Rattle.rim_collapse.specs.Internal.Faces.{IsNumbered, face_to, faces_after, has_distinct_numbers, has_number, left}
use Rattle.rim_collapse.specs.Internal.Faces.{point_at, tri_at, tris_at}
use Rattle.rim_collapse.specs.Internal.Marks.{AreMarkedRound, HasMarkedCorners}
use Rattle.rim_collapse.specs.Internal.Meshes.{IsMesh}
use Rattle.rim_collapse.specs.Internal.Progress.{IsProgress}
use Rattle.rim_collapse.proofs.AskLaws.{length-filtered, mesh-alike, round_tris}
use Rattle.rim_collapse.proofs.BestLaws.{edge-around}
use Rattle.rim_collapse.proofs.ChainLaws.{IsLinkedAt, chain-count, length-sum, length-walk}
use Rattle.rim_collapse.proofs.FaceChains.{chain-all, chain-nexts, length-numbers, linked-at, numbers-renumbered}
use Rattle.rim_collapse.proofs.JoinedChains.{linked-joined}
use Rattle.rim_collapse.proofs.FaceLaws.{face_to-numbered}
use Rattle.rim_collapse.proofs.MovedFaces.{distinct-before}
use Rattle.rim_collapse.proofs.NearLaws.{after-grid, unmapped}
use Rattle.rim_collapse.proofs.StepLaws.{edge_apart}

clash : (x : Bool) → x ≡ true → x ≡ false → ⊥
clash x h k = cc

equal_from : (n m : ℕ) → eqb n m ≡ true → n ≡ m
equal_from n m h = grind (arith, nat_tests)

equal_is : (n m : ℕ) → n ≡ m → eqb n m ≡ true
equal_is n m h = grind (arith, nat_tests)

pub numbers-apart : (points : List Pt) (tris : List Tri) (a b : ℕ) →
    has_edge tris (point_at points a) (point_at points b) ≡ true → a ≢ b
numbers-apart points tris a b edge e =
    edge_apart tris (point_at points a) (point_at points b) edge (ap (point_at points) e)

-- ---- marks round a point

unfiltered : {X : Type 0} (P : X → Type 0) (p : X → Bool) (xs : List X) → All P (filter p xs) →
    All (λ x. p x ≡ true → P x) xs
unfiltered P p [] all = All-nil (λ x. p x ≡ true → P x)
unfiltered P p (x ∷ xs) all =
    elim (cases_Bool (p x)) [
      | inl stays ↦
          (let whole : All P (x ∷ filter p xs) = rw stays at all in
          All-cons (λ y. p y ≡ true → P y) x xs (λ h. All-head P x (filter p xs) whole)
          (unfiltered P p xs (All-tail P x (filter p xs) whole)))
      | inr dropped ↦ All-cons (λ y. p y ≡ true → P y) x xs (λ h. absurd (clash (p x) h dropped))
          (unfiltered P p xs (rw dropped at all))
    ]

refiltered : {X : Type 0} (P : X → Type 0) (p : X → Bool) (xs : List X) → All (λ x. p x ≡ true → P x) xs →
    All P (filter p xs)
refiltered P p [] all = All-nil P
refiltered P p (x ∷ xs) all =
    let rest = refiltered P p xs (All-tail (λ y. p y ≡ true → P y) x xs all) in
    elim (cases_Bool (p x)) [
      | inl stays ↦ rw stays (All-cons P x (filter p xs) (All-head (λ y. p y ≡ true → P y) x xs all stays) rest)
      | inr dropped ↦ rw dropped rest
    ]

-- where the corners of the faces on the chain are marked, so are those of all faces with the number
pub marked-round : (points : ℕ) (faces : List Face) (chains : Chains) (a : ℕ) (marks : List Bool) →
    AreChained points faces chains → a < points →
    All (HasMarkedCorners marks) (faces_at faces (chain chains a)) → AreMarkedRound a marks (left faces)
marked-round points faces chains a marks chained in_a round =
    refiltered (λ f. has_number a f ≡ true → HasMarkedCorners marks f) has_distinct_numbers faces
    (All-from_get_or (λ f. has_distinct_numbers f ≡ true → has_number a f ≡ true → HasMarkedCorners marks f) faces
    no_face each)
  where
    on_chain : All (λ c. has_distinct_numbers (face_at faces c) ≡ true → HasMarkedCorners marks (face_at faces c))
        (chain chains a)
    on_chain =
        unmapped (λ f. has_distinct_numbers f ≡ true → HasMarkedCorners marks f) (face_at faces) (chain chains a)
        (unfiltered (HasMarkedCorners marks) has_distinct_numbers (map (face_at faces) (chain chains a)) round)

    each : (k : ℕ) → k < length faces → has_distinct_numbers (get_or faces k no_face) ≡ true →
        has_number a (get_or faces k no_face) ≡ true → HasMarkedCorners marks (get_or faces k no_face)
    each k within distinct has =
        let any = Any-from_list_any (λ c. eqb (c / 3) k) (chain chains a)
        (chain-all points faces chains a k chained in_a within has) in
        let at : any.1 / 3 ≡ k = equal_from (any.1 / 3) k any.4 in
        subst (λ j. has_distinct_numbers (get_or faces j no_face) ≡ true →
        HasMarkedCorners marks (get_or faces j no_face))
        at (All-contains (λ c. has_distinct_numbers (face_at faces c) ≡ true →
        HasMarkedCorners marks (face_at faces c)) (chain chains a) any.1 on_chain (any.0, any.2, any.3)) distinct

-- ---- the chain of a point that moves has a corner

some-from_any : {X : Type 0} (p : X → Bool) (xs : List X) → list_any p xs ≡ true → 0 < length xs
some-from_any p [] any = absurd (cc)
some-from_any p (x ∷ xs) any = omega arith

pub chain-some : (points : List Pt) (faces : List Face) (chains : Chains) (a : ℕ) (q : Pt) →
    IsMesh points faces chains → a < length points →
    has_edge (tris_at points (left faces)) (point_at points a) q ≡ true → 0 < length (chain chains a)
unfolding has_edge
chain-some points faces chains a q mesh in_a edge =
    let p = point_at points a in
    let tris = tris_at points (left faces) in
    let some = some-from_any (has_both p q) (around p tris)
    (edge-around p q tris ∙ (and_parts (not (same_point p q)) (list_any (has_both p q) tris) edge).1) in
    let same : length (round_tris points faces chains a) ≡ length (around p tris) =
    sym (length-sum (round_tris points faces chains a)) ∙ mesh-alike points faces chains a mesh in_a (λ t. 1) ∙
    length-sum (around p tris) in
    omega (
      arith,
      some,
      same,
      length-map (faces_at faces (chain chains a)) (tri_at points),
      length-filtered has_distinct_numbers (map (face_at faces) (chain chains a)),
      length-map (chain chains a) (face_at faces),
    )

-- the last of them is in range
pub last-below : (points : List Pt) (faces : List Face) (chains : Chains) (a : ℕ) (q : Pt) (l : ℕ) (corners : List ℕ) →
    IsMesh points faces chains → a < length points →
    has_edge (tris_at points (left faces)) (point_at points a) q ≡ true → corners ≡ chain chains a →
    l ≡ get_or corners (length corners - 1) 0 → l < length chains.nexts.items
last-below points faces chains a q l corners mesh in_a edge are is =
    let some = chain-some points faces chains a q mesh in_a edge in
    subst (λ c. c < length chains.nexts.items) (sym is)
    (subst (λ m. All (λ c. c < length chains.nexts.items) m) (sym are)
    (chain-nexts (length points) faces chains a mesh.linked in_a) (length corners - 1) 0
    (omega (arith, some, ap length are)))

-- ---- the mesh after a collapse

-- the faces that are left are those of before, collapsed
pub left-moved : (a b : ℕ) (faces : List Face) → left (map (face_to a b) faces) ≡ faces_after a b (left faces)
left-moved a b [] = refl
left-moved a b (f ∷ faces) =
    elim (cases_Bool (has_distinct_numbers f)) [
      | inl was ↦ rw was (ap (λ l. cond (has_distinct_numbers (face_to a b f)) (face_to a b f ∷ l) l)
          (left-moved a b faces))
      | inr twice ↦ rw (twice, still twice) (left-moved a b faces)
    ]
  where
    still : has_distinct_numbers f ≡ false → has_distinct_numbers (face_to a b f) ≡ false
    still h =
        elim (cases_Bool (has_distinct_numbers (face_to a b f))) [
          | inl distinct ↦ absurd (clash (has_distinct_numbers f) (distinct-before a b f distinct) h)
          | inr twice ↦ twice
        ]

count-few : (points : ℕ) (faces : List Face) (chains : Chains) (p : ℕ) → AreChained points faces chains → p < points →
    get_or chains.counts.items p 0 ≤ 3 * length faces
count-few points faces chains p chained in_p =
    omega (
      arith,
      chain-count p (numbers_in faces) (chain chains p) (linked-at points faces chains p chained in_p),
      length-numbers faces,
      length-walk chains.nexts.items (get_or chains.counts.items p 0) (get_or chains.firsts.items p 0),
    )

pub counts-few : (points : List Pt) (faces : List Face) (chains : Chains) (a b : ℕ) → IsMesh points faces chains →
    a < length points → b < length points →
    get_or chains.counts.items a 0 + get_or chains.counts.items b 0 < 2 ^ 32
counts-few points faces chains a b mesh in_a in_b =
    omega (
      arith,
      count-few (length points) faces chains a mesh.linked in_a,
      count-few (length points) faces chains b mesh.linked in_b,
      mesh.few,
    )

pub chained-joined : (points : ℕ) (faces : List Face) (chains next : Chains) (a b l : ℕ) →
    AreChained points faces chains → a < points → b < points → a ≢ b → 0 < length (chain chains a) →
    l ≡ get_or (chain chains a) (length (chain chains a) - 1) 0 →
    next.firsts.items ≡ set chains.firsts.items b (get_or chains.firsts.items a 0) →
    next.counts.items ≡ set (set chains.counts.items b
    (get_or chains.counts.items b 0 + get_or chains.counts.items a 0)) a 0 →
    next.nexts.items ≡ set chains.nexts.items l (get_or chains.firsts.items b 0) →
    AreChained points (map (face_to a b) faces) next
chained-joined points faces chains next a b l chained in_a in_b apart some is firsts counts nexts = record {
  firsts = ap length firsts ∙ length-set chains.firsts.items b (get_or chains.firsts.items a 0) ∙ chained.firsts;
  counts = ap length counts ∙ length-set more a 0 ∙
      length-set chains.counts.items b (get_or chains.counts.items b 0 + get_or chains.counts.items a 0) ∙
      chained.counts;
  nexts = ap length nexts ∙ length-set chains.nexts.items l (get_or chains.firsts.items b 0) ∙ chained.nexts ∙
      length-numbers faces ∙ ap (λ n. 3 * n) (sym (length-map faces (face_to a b))) ∙
      sym (length-numbers (map (face_to a b) faces));
  linked = λ p in_p. subst (λ numbers. IsLinkedAt p numbers (chain next p)) (sym (numbers-renumbered a b faces))
      (rw (firsts, counts, nexts) (linked-joined (numbers_in faces) chains.firsts.items chains.counts.items
      chains.nexts.items a b l p apart (omega (arith, in_a, chained.firsts)) (omega (arith, in_b, chained.firsts))
      (omega (
        arith,
        in_p,
        ap length firsts,
        length-set chains.firsts.items b (get_or chains.firsts.items a 0),
      ))
      (chained.counts ∙ sym chained.firsts) chained.nexts (omega (arith, some, size))
      (is ∙ ap (λ n. get_or (chain chains a) (n - 1) 0) size) chained.linked));
}
  where
    more : List ℕ
    more = set chains.counts.items b (get_or chains.counts.items b 0 + get_or chains.counts.items a 0)

    size : length (chain chains a) ≡ get_or chains.counts.items a 0
    size = length-walk chains.nexts.items (get_or chains.counts.items a 0) (get_or chains.firsts.items a 0)

pub mesh-after : (points : List Pt) (faces new : List Face) (chains next : Chains) (a b : ℕ) →
    IsMesh points faces chains → a < length points → b < length points →
    has_edge (tris_at points (left faces)) (point_at points a) (point_at points b) ≡ true →
    new ≡ map (face_to a b) faces → AreChained (length points) (map (face_to a b) faces) next →
    IsMesh points new next
mesh-after points faces new chains next a b mesh in_a in_b edge moved linked =
    subst (λ l. IsMesh points l next) (sym moved) (record {
      ascending = mesh.ascending;
      few = omega (arith, mesh.few, length-map faces (face_to a b));
      numbers = numbers;
      triangles = subst (λ l. All IsGridTriangle (tris_at points l)) (sym (left-moved a b faces))
          (after-grid points a b (left faces) mesh.ascending in_a in_b
          (All-filter has_distinct_numbers (IsNumbered (length points)) faces mesh.numbers) mesh.triangles edge);
      linked = linked;
    })
  where
    numbers : All (IsNumbered (length points)) (map (face_to a b) faces)
    numbers =
        All-map (IsNumbered (length points)) (face_to a b) faces
        (All-weaker (IsNumbered (length points)) (λ f. IsNumbered (length points) (face_to a b f))
        (λ f. face_to-numbered (length points) a b f in_b) faces mesh.numbers)

-- ---- while collapses are done

pub progress-numbered : (points : List Pt) (progress : Progress) → IsProgress points progress →
    All (IsNumbered (length points)) (left progress.faces.items)
progress-numbered points progress is =
    All-filter has_distinct_numbers (IsNumbered (length points)) progress.faces.items is.mesh.numbers

pub progress-few : (points : List Pt) (progress : Progress) → IsProgress points progress →
    progress.left ≤ TRIANGLES_PER_GROUP
progress-few points progress is =
    omega (arith, is.left, is.mesh.few, length-filtered has_distinct_numbers progress.faces.items)
