-- Batches of a level, and the triangles that are cut into clusters.
use Rattle.std.proofs.Common.{◌≡◌, ◌≤◌, ◌<◌, ◌+◌, ℕ, false, List, [], ◌∷◌, ◌++◌, map, flat_map, take, drop, length}
use Rattle.std.proofs.Common.{get_or, slice_index, All, refl, sym, ap, ◌∙◌, subst, arith}
use Rattle.std.specs.List.{concat}
use Rattle.std.proofs.Math.Seq.{take-append-add}
use Rattle.std.specs.List.Sorted.{IsPermutation}
use Rattle.std.proofs.lemmas.List.{append-nil, append_assoc, drop_more, get_or-append-add, get_or_append_left}
use Rattle.std.proofs.lemmas.List.{length-append, length-map, take-append-drop, take-append-le, take_more}
use Rattle.std.proofs.lemmas.List.Elements.{All-map}
use Rattle.std.proofs.lemmas.List.Folds.{flat_map-map}
use Rattle.std.proofs.lemmas.List.Sorted.{length_permutation}
use Rattle.geom_core.specs.declared.points.Pt.{Pt}
use Rattle.geom_core.specs.declared.triangles.Tri.{Tri}
use Rattle.geom_core.specs.declared.triangles.Tagged.{Tagged}
use Rattle.geom_core.specs.EdgeSum.{edges_of}
use Rattle.geom_core.specs.TaggedLists.{tris_of}
use Rattle.partition.specs.Batches.{AreBatches, pick}
use Rattle.partition.specs.Clusters.{triangle_key}
use Rattle.partition.specs.Growing.{is_in}
use Rattle.partition.specs.Neighbours.{are_neighbours}
use Rattle.partition.proofs.BatchLaws.{full_of_items}
use Rattle.partition.proofs.Determined.{IsGrown, is_grown-is}
use Rattle.partition.proofs.OnePlace.{next_at}
use Rattle.partition.proofs.Permuted.{items_permuted}
use Rattle.dag_build.specs.Grouping.{AreCut, no_triangle}
use Rattle.dag_build.specs.Internal.Taking.{AreFresh}

-- ---- numbers of batches

concat-append : (xs ys : List (List ℕ)) → concat (xs ++ ys) ≡ concat xs ++ concat ys
concat-append [] ys = refl
concat-append (x ∷ xs) ys = ap (λ zs. x ++ zs) (concat-append xs ys) ∙ sym (append_assoc x (concat xs) (concat ys))

pub concat-more : (batches : List (List ℕ)) (k : ℕ) → k < length batches →
    concat (take (k + 1) batches) ≡ concat (take k batches) ++ get_or batches k []
concat-more batches k within =
    ap concat (take_more batches k [] within) ∙ (concat-append (take k batches) (get_or batches k [] ∷ []) ∙
    ap (λ xs. concat (take k batches) ++ xs) (append-nil (get_or batches k [])))

-- the numbers of a batch are in no batch before it
pub fresh : (keys : List ℕ) (edges : List (List (Pt × Pt))) (size : ℕ) (batches : List (List ℕ)) →
    AreBatches keys edges size batches → (k : ℕ) → k < length batches →
    AreFresh (concat (take k batches)) (get_or batches k [])
fresh keys edges size batches b k within = λ i inside.
    let front = concat (take k batches) in
    let batch = get_or batches k [] in
    let rest = concat (drop (k + 1) batches) in
    let order = concat batches in
    let cut : batches ≡ take k batches ++ (batch ∷ drop (k + 1) batches) =
    sym (take-append-drop k batches) ∙ ap (λ xs. take k batches ++ xs) (drop_more batches k [] within) in
    let whole : order ≡ front ++ (batch ++ rest) = ap concat cut ∙ concat-append (take k batches) (batch ∷ drop
    (k + 1) batches) in
    let place = length front + i in
    let is : IsGrown (length keys) (slice_index keys) (are_neighbours edges) size order =
    is_grown-is (length keys) (slice_index keys) (are_neighbours edges) size order b.grown in
    let total = ap length whole in
    let one = length-append front (batch ++ rest) in
    let two = length-append batch rest in
    let next = next_at (length keys) (slice_index keys) (are_neighbours edges) size order is place (omega
    (arith, is.whole)) in
    let before : take place order ≡ front ++ take i batch =
    ap (take place) whole ∙ (take-append-add front (batch ++ rest) i ∙
    ap (λ xs. front ++ xs) (take-append-le i batch rest (omega arith))) in
    let here : get_or order place 0 ≡ get_or batch i 0 =
    ap (λ xs. get_or xs place 0) whole ∙ (get_or-append-add front (batch ++ rest) i 0 ∙
    get_or_append_left batch rest 0 i inside) in
    subst (λ n. is_in (front ++ take i batch) n ≡ false) here
    (subst (λ xs. is_in xs (get_or order place 0) ≡ false) before next.left)

-- ---- what is cut

-- the triangles of the clusters are those that were cut, in another order
pub cut-moved : (size : ℕ) (tris : List Tagged) (leaves : List (List Tagged)) → AreCut size tris leaves →
    IsPermutation tris (flat_map (λ leaf. leaf) leaves)
cut-moved size tris leaves cut =
    let keys = map triangle_key (tris_of tris) in
    let plain : Tagged → Tri = λ t. t.tri in
    let same : length tris ≡ length keys = sym (length-map (tris_of tris) triangle_key ∙ length-map tris plain) in
    let moved : IsPermutation tris (flat_map (pick tris no_triangle) cut.batches) =
    items_permuted tris no_triangle (length keys) same size (slice_index keys) (are_neighbours (map edges_of
    (tris_of tris)))
    cut.batches cut.grown.grown in
    subst (IsPermutation tris)
    (sym (ap (flat_map (λ (leaf : List Tagged). leaf)) cut.picked ∙
    flat_map-map (λ (leaf : List Tagged). leaf) (pick tris no_triangle) cut.batches)) moved

-- the clusters have as many triangles as were cut
pub cut-total : (size : ℕ) (tris : List Tagged) (leaves : List (List Tagged)) → AreCut size tris leaves →
    length (flat_map (λ leaf. leaf) leaves) ≡ length tris
cut-total size tris leaves cut =
    length_permutation tris (flat_map (λ (leaf : List Tagged). leaf) leaves) (cut-moved size tris leaves cut)

-- a list that isn't empty and has at most so many triangles
pub record HasSize (size : ℕ) (leaf : List Tagged) : Type 0 where
  pub some : 1 ≤ length leaf
  pub limit : length leaf ≤ size

pub cut-sizes : (size : ℕ) (tris : List Tagged) (leaves : List (List Tagged)) → 0 < size → AreCut size tris leaves →
    All (HasSize size) leaves
cut-sizes size tris leaves positive cut =
    let full = full_of_items (map triangle_key (tris_of tris)) (map edges_of (tris_of tris))
    size cut.batches positive cut.grown in
    subst (All (HasSize size)) (sym cut.picked)
    (All-map (HasSize size) (pick tris no_triangle) cut.batches
    (λ k d h. let named : ℕ → Tagged = λ n. get_or tris n no_triangle in
    let len = length-map (get_or cut.batches k d) named in
    let some = full.not_empty k d h in
    let limit = full.size_limit k d h in
    record { some = omega arith; limit = omega arith }))
