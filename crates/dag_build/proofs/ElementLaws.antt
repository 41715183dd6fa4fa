-- What holds of each element of joined lists, and of what triangles were cut into.
use Rattle.std.proofs.Common.{ℕ, List, [], ◌∷◌, ◌++◌, map, flat_map, All}
use Rattle.std.proofs.lemmas.List.Elements.{All-append, All-cons, All-head, All-nil, All-tail}
use Rattle.std.proofs.lemmas.List.Sorted.{All-permutation}
use Rattle.geom_core.specs.declared.triangles.Tagged.{Tagged}
use Rattle.dag_build.proofs.BatchLaws.{cut-moved}
use Rattle.dag_build.specs.Grouping.{AreCut}

pub All-first : {X : Type 0} (P : X → Type 0) (xs ys : List X) → All P (xs ++ ys) → All P xs
All-first P [] ys all = All-nil P
All-first P (x ∷ xs) ys all =
    All-cons P x xs (All-head P x (xs ++ ys) all) (All-first P xs ys (All-tail P x (xs ++ ys) all))

pub All-second : {X : Type 0} (P : X → Type 0) (xs ys : List X) → All P (xs ++ ys) → All P ys
All-second P [] ys all = all
All-second P (x ∷ xs) ys all = All-second P xs ys (All-tail P x (xs ++ ys) all)

-- what holds of all lists joined holds in each list
pub All-parts : {X Y : Type 0} (P : Y → Type 0) (f : X → List Y) (xs : List X) → All P (flat_map f xs) →
    All (λ x. All P (f x)) xs
All-parts P f [] all = All-nil (λ x. All P (f x))
All-parts P f (x ∷ xs) all =
    All-cons (λ x. All P (f x)) x xs (All-first P (f x) (flat_map f xs) all)
    (All-parts P f xs (All-second P (f x) (flat_map f xs) all))

pub All-joined : {X Y : Type 0} (P : Y → Type 0) (f : X → List Y) (xs : List X) → All (λ x. All P (f x)) xs →
    All P (flat_map f xs)
All-joined P f [] all = All-nil P
All-joined P f (x ∷ xs) all =
    All-append P (f x) (flat_map f xs) (All-head (λ x. All P (f x)) x xs all)
    (All-joined P f xs (All-tail (λ x. All P (f x)) x xs all))

pub All-mapped : {X Y : Type 0} (P : Y → Type 0) (f : X → Y) (xs : List X) → All P (map f xs) → All (λ x. P (f x)) xs
All-mapped P f [] all = All-nil (λ x. P (f x))
All-mapped P f (x ∷ xs) all =
    All-cons (λ x. P (f x)) x xs (All-head P (f x) (map f xs) all) (All-mapped P f xs (All-tail P (f x) (map f xs) all))

pub cut-each : (P : Tagged → Type 0) (size : ℕ) (tris : List Tagged) (leaves : List (List Tagged)) →
    AreCut size tris leaves →
    All P tris → All (All P) leaves
cut-each P size tris leaves cut all =
    All-parts P (λ (leaf : List Tagged). leaf) leaves
    (All-permutation P tris (flat_map (λ (leaf : List Tagged). leaf) leaves) (cut-moved size tris leaves cut) all)
