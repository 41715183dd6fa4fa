-- Edge uses in another order, and the edge uses of items.
use Rattle.std.proofs.Common.{◌≡◌, ℕ, zero, suc, ◌+◌, ◌<◌, ◌≤◌, Bool, true, false, ◌&&◌, ◌||◌, ◌==◌, List, [], ◌∷◌}
use Rattle.std.proofs.Common.{◌++◌, length, get_or, map, All, IsPermutation, refl, sym, ap, ◌∙◌, subst, arith, add-zero}
use Rattle.std.proofs.Common.{zero-add, take, append_assoc, length-take}
use Rattle.std.proofs.lemmas.List.{append-nil, length-map, map_more}
use Rattle.std.proofs.lemmas.List.Elements.{All-nil, All-append, All-map}
use Rattle.std.specs.List.{list_any, slice_index_or}
use Rattle.std.proofs.lemmas.Bool.{eq-eqb, ne_eqb}
use Rattle.std.proofs.lemmas.List.Folds.{list_any-append}
use Rattle.std.proofs.lemmas.List.Sorted.{list_any-IsPermutation}
use Rattle.geom_core.specs.declared.points.Pt.{Pt}
use Rattle.partition.specs.declared.edge_uses.EdgeUse.{EdgeUse}
use Rattle.partition.specs.Neighbours.{are_neighbours, same_edge, share_edge}
use Rattle.partition.specs.Internal.EdgeUses.{IsUseBelow, in_order, are_adjacent_in, on_one_edge, use_of, uses_from}
use Rattle.partition.proofs.SameEdges.{edge_of-same}

-- two tests that agree give one answer
pub list_any_agree : {X : Type 0} (p q : X → Bool) → ((x : X) → p x ≡ q x) → (xs : List X) →
    list_any p xs ≡ list_any q xs
list_any_agree p q f [] = refl
list_any_agree p q f (x ∷ xs) = ap (λ b. b || list_any p xs) (f x) ∙ ap (λ b. q x || b) (list_any_agree p q f xs)

list_any-map : {X Y : Type 0} (p : Y → Bool) (f : X → Y) (xs : List X) →
    list_any p (map f xs) ≡ list_any (λ x. p (f x)) xs
list_any-map p f [] = refl
list_any-map p f (x ∷ xs) = ap (λ b. p (f x) || b) (list_any-map p f xs)

list_any_never : {X : Type 0} (p : X → Bool) → ((x : X) → p x ≡ false) → (xs : List X) → list_any p xs ≡ false
list_any_never p f [] = refl
list_any_never p f (x ∷ xs) = ap (λ b. b || list_any p xs) (f x) ∙ list_any_never p f xs

-- items are adjacent whatever the order of the edge uses
pub are_adjacent_in-IsPermutation : (xs ys : List EdgeUse) (i j : ℕ) → IsPermutation xs ys →
    are_adjacent_in xs i j ≡ are_adjacent_in ys i j
are_adjacent_in-IsPermutation xs ys i j h =
    let inner : List EdgeUse → EdgeUse → Bool =
    λ uses s. list_any (λ (t : EdgeUse). t.rank == j && on_one_edge s t) uses in
    list_any-IsPermutation (λ (s : EdgeUse). s.rank == i && inner xs s) xs ys h
    ∙ list_any_agree (λ (s : EdgeUse). s.rank == i && inner xs s) (λ (s : EdgeUse). s.rank == i && inner ys s)
    (λ s. ap (λ b. s.rank == i && b) (list_any-IsPermutation
    (λ (t : EdgeUse). t.rank == j && on_one_edge s t) xs ys h)) ys

-- ---- the edge uses of items

-- an edge use of the item of this rank
abbrev edge_use : ℕ → Pt × Pt → EdgeUse
edge_use rank e = use_of rank e

-- some edge use of the item of this rank passes
abbrev passes : (EdgeUse → Bool) → ℕ → List EdgeUse → Bool
passes q rank uses = list_any (λ (s : EdgeUse). s.rank == rank && q s) uses

passes_own : (q : EdgeUse → Bool) (rank r : ℕ) → r ≡ rank → (edges : List (Pt × Pt)) →
    passes q rank (map (edge_use r) edges) ≡ list_any (λ e. q (edge_use rank e)) edges
passes_own q rank r h edges =
    let P : ℕ → Type 0 = λ s. passes q rank (map (edge_use s) edges) ≡ list_any (λ e. q (edge_use rank e)) edges in
    subst P (sym h)
    (list_any-map (λ (s : EdgeUse). s.rank == rank && q s) (edge_use rank) edges
    ∙ list_any_agree (λ e. rank == rank && q (edge_use rank e)) (λ e. q (edge_use rank e))
    (λ e. ap (λ b. b && q (edge_use rank e)) (eq-eqb rank rank refl)) edges)

passes_other : (q : EdgeUse → Bool) (rank r : ℕ) → (r ≡ rank → ⊥) → (edges : List (Pt × Pt)) →
    passes q rank (map (edge_use r) edges) ≡ false
passes_other q rank r h edges =
    list_any-map (λ (s : EdgeUse). s.rank == rank && q s) (edge_use r) edges
    ∙ list_any_never (λ e. r == rank && q (edge_use r e)) (λ e. ap (λ b. b && q (edge_use r e)) (ne_eqb r rank h)) edges

passes_later : (q : EdgeUse → Bool) (rank r : ℕ) → rank < r → (items : List (List (Pt × Pt))) →
    passes q rank (uses_from r items) ≡ false
passes_later q rank r h [] = refl
passes_later q rank r h (edges ∷ items) =
    list_any-append (λ (s : EdgeUse). s.rank == rank && q s) (map (edge_use r) edges) (uses_from (r + 1) items)
    ∙ (ap (λ b. b || passes q rank (uses_from (r + 1) items)) (passes_other q rank r (λ e. absurd (omega arith)) edges)
    ∙ passes_later q rank (r + 1) (omega arith) items)

or_false : (b : Bool) → (b || false) ≡ b
or_false true = refl
or_false false = refl

passes_at : (q : EdgeUse → Bool) (rank r k : ℕ) → r + k ≡ rank → (items : List (List (Pt × Pt))) →
    passes q rank (uses_from r items) ≡ list_any (λ e. q (edge_use rank e)) (get_or items k [])
passes_at q rank r k h [] = refl
passes_at q rank r zero h (edges ∷ items) =
    list_any-append (λ (s : EdgeUse). s.rank == rank && q s) (map (edge_use r) edges) (uses_from (r + 1) items)
    ∙ (ap (λ b. passes q rank (map (edge_use r) edges) || b) (passes_later q rank (r + 1) (omega arith) items)
    ∙ (or_false (passes q rank (map (edge_use r) edges)) ∙ passes_own q rank r (omega arith) edges))
passes_at q rank r (suc k) h (edges ∷ items) =
    list_any-append (λ (s : EdgeUse). s.rank == rank && q s) (map (edge_use r) edges) (uses_from (r + 1) items)
    ∙ (ap (λ b. b || passes q rank (uses_from (r + 1) items)) (passes_other q rank r (λ e. absurd (omega arith)) edges)
    ∙ passes_at q rank (r + 1) k (omega arith) items)

-- items are adjacent by their edge uses if they share an edge
pub are_adjacent_in-uses_from : (items : List (List (Pt × Pt))) (i j : ℕ) →
    are_adjacent_in (uses_from 0 items) i j ≡ are_neighbours items i j
unfolding share_edge
are_adjacent_in-uses_from items i j =
    let inner : EdgeUse → Bool = λ s. passes (on_one_edge s) j (uses_from 0 items) in
    passes_at (λ s. passes (on_one_edge s) j (uses_from 0 items)) i 0 i (zero-add i) items
    ∙ list_any_agree (λ e. passes (on_one_edge (edge_use i e)) j (uses_from 0 items))
    (λ e. list_any (same_edge e) (get_or items j []))
    (λ e. passes_at (on_one_edge (edge_use i e)) j 0 j (zero-add j) items
    ∙ list_any_agree (λ f. on_one_edge (edge_use i e) (edge_use j f)) (same_edge e) (λ f. edge_of-same e f i j)
    (get_or items j [])) (get_or items i [])

-- one more item
pub uses_from_push : (r : ℕ) (items : List (List (Pt × Pt))) (edges : List (Pt × Pt)) →
    uses_from r (items ++ edges ∷ []) ≡ uses_from r items ++ map (edge_use (r + length items)) edges
uses_from_push r [] edges = append-nil (map (edge_use r) edges) ∙ ap (λ m. map (edge_use m) edges) (sym (add-zero r))
uses_from_push r (es ∷ items) edges =
    let e : r + 1 + length items ≡ r + suc (length items) = omega arith in
    ap (λ xs. map (edge_use r) es ++ xs) (uses_from_push (r + 1) items edges ∙
    ap (λ m. uses_from (r + 1) items ++ map (edge_use m) edges) e)
    ∙ sym (append_assoc (map (edge_use r) es) (uses_from (r + 1) items) (map (edge_use (r + suc (length items))) edges))

pub in_order_more : (items : List (List (Pt × Pt))) (order : List ℕ) (place : ℕ) → place < length order →
    uses_from 0 (in_order items (take (place + 1) order)) ≡
    uses_from 0 (in_order items (take place order)) ++ map (edge_use place)
    (slice_index_or items (get_or order place 0) [])
in_order_more items order place h =
    let front : List (List (Pt × Pt)) = in_order items (take place order) in
    let edges : List (Pt × Pt) = slice_index_or items (get_or order place 0) [] in
    let len : 0 + length (in_order items (take place order)) ≡ place =
    omega (arith, length-map (take place order) (λ number. slice_index_or items number []), length-take place order) in
    ap (uses_from 0) (map_more (λ number. slice_index_or items number []) order place 0 h)
    ∙ (uses_from_push 0 (in_order items (take place order)) (slice_index_or items (get_or order place 0) [])
    ∙ ap (λ m. uses_from 0 (in_order items (take place order)) ++ map (edge_use m)
    (slice_index_or items (get_or order place 0) [])) len)

-- the edge uses of items have their ranks, and the keys of their edges
pub All-uses_from : (r n : ℕ) (items : List (List (Pt × Pt))) → r + length items ≤ n →
    All (IsUseBelow n) (uses_from r items)
All-uses_from r n [] h = All-nil (IsUseBelow n)
All-uses_from r n (edges ∷ items) h =
    All-append (IsUseBelow n) (map (edge_use r) edges) (uses_from (r + 1) items)
    (All-map (IsUseBelow n) (edge_use r) edges (λ k d l. record { key = refl; rank = omega arith }))
    (All-uses_from (r + 1) n items (omega arith))
