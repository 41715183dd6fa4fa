-- What a list of triangles draws with one more, each under its number in the list.
use Rattle.std.proofs.Common.{◌≡◌, ℕ, ◌+◌, ◌<◌, ◌≤◌, ◌/◌, ◌%◌, List, [], ◌∷◌, ◌++◌, length, map, take, get_or}
use Rattle.std.proofs.Common.{sym, ◌∙◌, ap, arith, zero-add, add-zero}
use Rattle.std.specs.Prelude.{flat_map}
use Rattle.std.specs.List.{enumerate_from}
use Rattle.std.proofs.lemmas.List.{map_push, take_more, flat_map_more, length-take-le}
use Rattle.geom_core.specs.declared.limits.TheConstants.{TRIANGLES_PER_CLUSTER}
use Rattle.geom_core.specs.declared.triangles.Tri.{Tri}
use Rattle.geom_core.specs.Picture.{Item, items_of}

-- triangle k as place k mod 128 of cluster k div 128
abbrev pub item_at : ℕ → Tri → Item
item_at k t = record { cluster = k / TRIANGLES_PER_CLUSTER; place = k % TRIANGLES_PER_CLUSTER; tri = t }

enumerate_from-push : (n : ℕ) (tris : List Tri) (t : Tri) →
    enumerate_from n (tris ++ t ∷ []) ≡ enumerate_from n tris ++ (n + length tris, t) ∷ []
enumerate_from-push n [] t = ap (λ (k : ℕ). (k, t) ∷ []) (sym (add-zero n))
enumerate_from-push n (s ∷ tris) t =
    let at : n + 1 + length tris ≡ n + length (s ∷ tris) = omega arith in
    ap (λ (l : List (ℕ × Tri)). (n, s) ∷ l) (enumerate_from-push (n + 1) tris t)
    ∙ ap (λ (k : ℕ). (n, s) ∷ (enumerate_from (n + 1) tris ++ (k, t) ∷ [])) at

items_of-push : (tris : List Tri) (t : Tri) → items_of (tris ++ t ∷ []) ≡ items_of tris ++ item_at (length tris) t ∷ []
items_of-push tris t =
    let item : (ℕ × Tri) → Item = λ (k, s). item_at k s in
    ap (map item) (enumerate_from-push 0 tris t) ∙ map_push item (enumerate_from 0 tris) (0 + length tris, t)
    ∙ ap (λ (k : ℕ). items_of tris ++ item_at k t ∷ []) (zero-add (length tris))

-- one triangle more, behind what the triangles before it draw
pub drawn-more : (draws : Item → List (ℕ × ℕ)) (before : List (ℕ × ℕ)) (tris : List Tri) (i : ℕ) (d : Tri) →
    i < length tris →
    (before ++ flat_map draws (items_of (take i tris))) ++ draws
    (item_at i (get_or tris i d)) ≡ before ++ flat_map draws (items_of (take (i + 1) tris))
drawn-more draws before tris i d within =
    let t : Tri = get_or tris i d in
    let below : i ≤ length tris = omega arith in
    let items : items_of (take (i + 1) tris) ≡ items_of (take i tris) ++ item_at i t ∷ [] =
    ap items_of (take_more tris i d within) ∙ items_of-push (take i tris) t
    ∙ ap (λ (k : ℕ). items_of (take i tris) ++ item_at k t ∷ []) (length-take-le i tris below) in
    flat_map_more draws before (items_of (take i tris)) (item_at i t)
    ∙ ap (λ (l : List Item). before ++ flat_map draws l) (sym items)

-- the last triangle drawn by a function that is equal
pub drawn-more_by_equal : (draws last : Item → List (ℕ × ℕ)) (before : List (ℕ × ℕ)) (tris : List Tri) (i : ℕ)
    (d : Tri) → last ≡ draws → i < length tris →
    (before ++ flat_map draws (items_of (take i tris))) ++ last (item_at i (get_or tris i d))
    ≡ before ++ flat_map draws (items_of (take (i + 1) tris))
drawn-more_by_equal draws last before tris i d same within =
    ap (λ (draw : Item → List (ℕ × ℕ)).
    (before ++ flat_map draws (items_of (take i tris))) ++ draw (item_at i (get_or tris i d))) same
    ∙ drawn-more draws before tris i d within
