-- Lists that grow by one in a loop, batches joined, and batches of ranks replaced by numbers.
use Rattle.std.proofs.Common.{◌≡◌, ℕ, zero, suc, ◌+◌, ◌-◌, ◌*◌, ◌<◌, ◌≤◌, Bool, true, false, cond, List, [], ◌∷◌, ◌++◌}
use Rattle.std.proofs.Common.{length, get_or, take, drop, map, filter, slice_index, All, sym, ap, ◌∙◌, subst, arith}
use Rattle.std.proofs.Common.{add-zero, zero-add, append-nil, length-take}
use mathlib.Core.Path.{fun_ext}
use Rattle.std.specs.Fork.{slice_chunk}
use Rattle.std.specs.List.{concat, enumerate_from, range_with_len, slice_index_or}
use Rattle.std.proofs.lemmas.List.{drop-drop, get_or-map, map-id, take_all, take_more}
use Rattle.std.proofs.lemmas.List.Elements.{filter-append}
use Rattle.std.proofs.lemmas.List.FromFn.{get_or-range_with_len, length-range_with_len, map-range_with_len_more}
use Rattle.std.proofs.lemmas.List.Sorted.{length_permutation, All-permutation}
use Rattle.std.proofs.Math.Nat.{lt-div-mul-add}
use Rattle.std.proofs.Math.Seq.{take-add}
use Rattle.geom_core.specs.declared.points.Pt.{Pt}
use Rattle.partition.specs.declared.ranking.Keyed.{Keyed}
use Rattle.partition.specs.declared.edge_uses.EdgeUse.{EdgeUse}
use Rattle.partition.specs.Batches.{AreBatches}
use Rattle.partition.specs.Internal.RankBatches.{AreBatchesOfRanks}
use Rattle.partition.specs.Growing.{batch_count, batches_of, is_grown}
use Rattle.partition.specs.Neighbours.{are_neighbours, share_edge}
use Rattle.partition.specs.Internal.Ranking.{IsRanking}
use Rattle.partition.specs.Internal.EdgeUses.{in_order, are_adjacent_in, uses_from}
use Rattle.partition.proofs.EdgeUseLists.{are_adjacent_in-uses_from}
use Rattle.partition.proofs.Renumbering.{grown_renumbered, renumbers}

-- ---- one more

pub range_more : (n : ℕ) → range_with_len 0 (n + 1) ≡ range_with_len 0 n ++ n ∷ []
range_more n =
    sym (map-id (range_with_len 0 (n + 1)))
    ∙ (map-range_with_len_more (λ k. k) 0 n n (zero-add n)
    ∙ ap (λ xs. xs ++ n ∷ []) (map-id (range_with_len 0 n)))

pub filter_range_pass : (q : ℕ → Bool) (n : ℕ) → q n ≡ true →
    filter q (range_with_len 0 (n + 1)) ≡ filter q (range_with_len 0 n) ++ n ∷ []
filter_range_pass q n e =
    ap (filter q) (range_more n)
    ∙ (filter-append q (range_with_len 0 n) (n ∷ [])
    ∙ ap (λ b. filter q (range_with_len 0 n) ++ cond b (n ∷ []) []) e)

pub filter_range_fail : (q : ℕ → Bool) (n : ℕ) → q n ≡ false →
    filter q (range_with_len 0 (n + 1)) ≡ filter q (range_with_len 0 n)
filter_range_fail q n e =
    ap (filter q) (range_more n)
    ∙ (filter-append q (range_with_len 0 n) (n ∷ [])
    ∙ (ap (λ b. filter q (range_with_len 0 n) ++ cond b (n ∷ []) []) e
    ∙ append-nil (filter q (range_with_len 0 n))))

abbrev keyed : ℕ × ℕ → Keyed
keyed p = record { key = p.1; number = p.0 }

keyed_push : (a : ℕ) (keys : List ℕ) (k : ℕ) →
    map keyed (enumerate_from a (keys ++ k ∷ [])) ≡ map keyed (enumerate_from a keys) ++ keyed (a + length keys, k) ∷ []
keyed_push a [] k = ap (λ m. keyed (m, k) ∷ []) (sym (add-zero a))
keyed_push a (x ∷ keys) k =
    let e : a + 1 + length keys ≡ a + suc (length keys) = omega arith in
    ap (λ xs. keyed (a, x) ∷ xs) (keyed_push (a + 1) keys k ∙
    ap (λ m. map keyed (enumerate_from (a + 1) keys) ++ keyed (m, k) ∷ []) e)

pub keyed_more : (keys : List ℕ) (n : ℕ) → n < length keys →
    map keyed (enumerate_from 0 (take (n + 1) keys)) ≡ map keyed (enumerate_from 0 (take n keys)) ++ keyed
    (n, get_or keys n 0) ∷ []
keyed_more keys n h =
    let len : 0 + length (take n keys) ≡ n = omega (arith, length-take n keys) in
    ap (λ xs. map keyed (enumerate_from 0 xs)) (take_more keys n 0 h)
    ∙ (keyed_push 0 (take n keys) (get_or keys n 0)
    ∙ ap (λ m. map keyed (enumerate_from 0 (take n keys)) ++ keyed (m, get_or keys n 0) ∷ []) len)

-- ---- batches joined

joined_chunks : (xs : List ℕ) (size a m : ℕ) →
    concat (map (slice_chunk xs size) (range_with_len a m)) ≡ take (m * size) (drop (a * size) xs)
joined_chunks xs size a zero = let e : 0 * size ≡ 0 = omega arith in ap (λ n. take n (drop (a * size) xs)) (sym e)
joined_chunks xs size a (suc m) =
    let more : size + m * size ≡ suc m * size = omega arith in
    let next : a * size + size ≡ (a + 1) * size = omega arith in
    ap (λ ys. take size (drop (a * size) xs) ++ ys)
    (joined_chunks xs size (a + 1) m ∙ ap (λ ys. take (m * size) ys)
    (ap (λ n. drop n xs) (sym next) ∙ sym (drop-drop size (a * size) xs)))
    ∙ (sym (take-add size (m * size) (drop (a * size) xs)) ∙ ap (λ n. take n (drop (a * size) xs)) more)

pub concat-batches_of : (size : ℕ) (xs : List ℕ) → 0 < size → concat (batches_of size xs) ≡ xs
unfolding batches_of
concat-batches_of size xs h =
    let none : 0 * size ≡ 0 = omega arith in
    let enough : length xs ≤ batch_count size xs * size =
    omega (arith, lt-div-mul-add {a = length xs + (size - 1)} {b = size} h) in
    joined_chunks xs size 0 (batch_count size xs)
    ∙ (ap (λ n. take (batch_count size xs * size) (drop n xs)) none
    ∙ take_all (batch_count size xs * size) xs enough)

-- ---- items are adjacent by shared edges and by edge uses alike

pub is_grown_same : (n : ℕ) (near other : ℕ → ℕ → Bool) (size : ℕ) (ranks : List ℕ) →
    ((i j : ℕ) → near i j ≡ other i j) →
    is_grown n (λ _. 0) near size ranks ≡ true → is_grown n (λ _. 0) other size ranks ≡ true
is_grown_same n near other size ranks f e =
    let same : near ≡ other = fun_ext (λ i. fun_ext (λ j. f i j)) in
    let P : (ℕ → ℕ → Bool) → Type 0 = λ g. is_grown n (λ _. 0) g size ranks ≡ true in
    subst P same e

-- ---- rankings

pub length-ranking : (keys order : List ℕ) → IsRanking keys order → length order ≡ length keys
length-ranking keys order s =
    length_permutation (range_with_len 0 (length keys)) order s.all ∙ length-range_with_len 0 (length keys)

pub All-ranking : (keys order : List ℕ) → IsRanking keys order → All (λ i. i < length keys) order
All-ranking keys order s =
    All-permutation (λ i. i < length keys) (range_with_len 0 (length keys)) order s.all (λ k d h.
    let len = length-range_with_len 0 (length keys) in
    omega (arith, get_or-range_with_len 0 (length keys) k d (omega arith)))

-- ---- batches of ranks replaced by numbers

pub batches_from_renumbered : (keys : List ℕ) (edges : List (List (Pt × Pt))) (order : List ℕ) (uses : List EdgeUse)
    (size : ℕ) (batches : List (List ℕ)) →
    0 < size → IsRanking keys order → uses ≡ uses_from 0 (in_order edges order) →
    AreBatchesOfRanks order uses size batches → AreBatches keys edges size batches
batches_from_renumbered keys edges order uses size batches h ranked e t =
    let len : length order ≡ length keys = length-ranking keys order ranked in
    let item : ℕ → List (Pt × Pt) = λ number. slice_index_or edges number [] in
    let near_is : (r s : ℕ) → r < length keys → s < length keys →
    are_adjacent_in uses r s ≡ are_neighbours edges (slice_index order r) (slice_index order s) =
    λ r s hr hs.
    ap (λ xs. are_adjacent_in xs r s) e
    ∙ (are_adjacent_in-uses_from (in_order edges order) r s
    ∙ (ap (λ xs. share_edge xs (get_or (in_order edges order) s [])) (get_or-map item order r 0 [] (omega arith))
    ∙ ap (λ ys. share_edge (item (get_or order r 0)) ys) (get_or-map item order s 0 [] (omega arith)))) in
    let numbers : List ℕ = map (slice_index order) t.ranks in
    let joined : concat batches ≡ map (slice_index order) t.ranks =
    ap concat t.split ∙ concat-batches_of size (map (slice_index order) t.ranks) h in
    let P : ℕ → Type 0 = λ n. is_grown n (λ _. 0) (are_adjacent_in uses) size t.ranks ≡ true in
    let Q : List ℕ → Type 0 = λ xs. is_grown (length keys) (slice_index keys) (are_neighbours edges) size xs ≡ true in
    record {
      grown = subst Q (sym joined)
          (grown_renumbered (length keys) (slice_index keys) (are_adjacent_in uses) (are_neighbours edges) order
          (renumbers keys order (are_adjacent_in uses) (are_neighbours edges) ranked near_is) size t.ranks
          (subst P len t.grown));
      split = t.split ∙ ap (batches_of size) (sym joined);
    }
