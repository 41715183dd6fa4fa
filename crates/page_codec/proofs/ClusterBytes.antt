-- The bytes of clusters: how many there are, and one triangle or cluster more.
use Rattle.std.proofs.Common.{◌≡◌, ℕ, ◌+◌, ◌*◌, ◌<◌, ◌≤◌, List, [], ◌∷◌, ◌++◌, length, get_or, take, drop, refl, ap}
use Rattle.std.proofs.Common.{◌∙◌, arith}
use Rattle.std.specs.List.{flat_map}
use Rattle.std.proofs.lemmas.Grind.{flat_map-append}
use Rattle.std.proofs.lemmas.List.{append_assoc, append-nil, length-append, length-drop, length-take-le, take_more}
use Rattle.std.proofs.lemmas.List.{drop_more}
use Rattle.std.proofs.lemmas.Slice.{take-put_mid}
use borrow.Rule.Slice.PartMut.{put_mid}
use Rattle.geom_core.specs.declared.triangles.Tagged.{Tagged}
use Rattle.page_codec.specs.Numbers.{numbers_bytes}
use Rattle.page_codec.specs.Records.{triangle_numbers, triangle_bytes}
use Rattle.page_codec.specs.Spelling.{cluster_bytes}

pub length-triangle_bytes : (t : Tagged) → length (triangle_bytes t) ≡ 40
unfolding numbers_bytes triangle_numbers
length-triangle_bytes t = refl

pub length-cluster_bytes : (tris : List Tagged) → length (cluster_bytes tris) ≡ 40 * length tris
unfolding cluster_bytes
length-cluster_bytes [] = refl
length-cluster_bytes (t ∷ tris) =
    omega (
      arith,
      length-append (triangle_bytes t) (flat_map triangle_bytes tris),
      length-triangle_bytes t,
      length-cluster_bytes tris,
    )

-- one item more is spelt
pub flat_map-more : {X Y : Type 0} (f : X → List Y) (xs : List X) (i : ℕ) (d : X) → i < length xs →
    flat_map f (take (i + 1) xs) ≡ flat_map f (take i xs) ++ f (get_or xs i d)
flat_map-more f xs i d below =
    rw (take_more xs i d below, flat_map-append f (take i xs) (get_or xs i d ∷ []), append-nil (f (get_or xs i d))) refl

-- what is left is one item, then the rest
pub flat_map-left : {X Y : Type 0} (f : X → List Y) (xs : List X) (i : ℕ) (d : X) → i < length xs →
    flat_map f (drop i xs) ≡ f (get_or xs i d) ++ flat_map f (drop (i + 1) xs)
flat_map-left f xs i d below = ap (flat_map f) (drop_more xs i d below)

pub cluster_bytes-more : (tris : List Tagged) (i : ℕ) (d : Tagged) → i < length tris →
    cluster_bytes (take (i + 1) tris) ≡ cluster_bytes (take i tris) ++ triangle_bytes (get_or tris i d)
unfolding cluster_bytes
cluster_bytes-more tris i d below = flat_map-more triangle_bytes tris i d below

-- a part is written behind what was written
pub written-more : (front done part into : List ℕ) (end k next : ℕ) → end + k ≡ next → length part ≡ k →
    end ≤ length into
    → take end into ≡ front ++ done → take next (put_mid end k into part) ≡ front ++ (done ++ part)
written-more front done part into end k next sum len within written =
    take-put_mid end k into part next (omega arith) within ∙ ap (λ xs. xs ++ part) written ∙
    append_assoc front done part

-- a written part changes no length
pub length-put_mid : {X : Type 0} (a k : ℕ) (xs ys : List X) → a + k ≤ length xs → length ys ≡ k →
    length (put_mid a k xs ys) ≡ length xs
length-put_mid a k xs ys room len =
    omega (
      arith,
      length-append (take a xs) (ys ++ drop k (drop a xs)),
      length-append ys (drop k (drop a xs)),
      length-take-le a xs (omega arith),
      length-drop k (drop a xs),
      length-drop a xs,
    )
