-- The least legal collapses of single points.
use Rattle.std.specs.Prelude.{◌≡◌, ◌<◌, Bool, true, false, ◌&&◌, ℕ, List, length, Option, Some, None, All}
use Rattle.std.specs.Prelude.{slice_index_or, if◌then◌else◌}
use Rattle.std.specs.Ordering.{is_lt}
use Rattle.geom_core.specs.declared.points.Pt.{Pt}
use Rattle.geom_core.specs.declared.triangles.Tri.{Tri}
use Rattle.rim_collapse.specs.declared.keys.Key.{Key}
use Rattle.rim_collapse.specs.Cost.{key_cmp, key_of}
use Rattle.rim_collapse.specs.Legal.{has_edge, is_legal, is_legal_collapse}
use Rattle.rim_collapse.specs.Internal.Faces.{point_at}

-- a may move to q, if it isn't locked
abbrev pub is_open : List Tri → Pt → Pt → Bool
is_open tris a q = has_edge tris a q && is_legal tris a q

-- of the points that were tried, none is a legal target, or this is the least collapse from a to a legal one
abbrev pub IsBestOf : List Tri → Pt → (Pt → Bool) → Option Key → Type 0
IsBestOf tris a tried None = (q : Pt) → tried q ≡ true → is_open tris a q ≡ true → ⊥
IsBestOf tris a tried (Some k) =
    (k ≡ key_of tris a k.to) × (is_open tris a k.to ≡ true)
    × ((q : Pt) → tried q ≡ true → is_open tris a q ≡ true → is_lt (key_cmp (key_of tris a q) k) ≡ false)

-- the collapse goes before the best so far, or is the first
abbrev pub beats : Key → Option Key → Bool
beats k None = true
beats k (Some l) = is_lt (key_cmp k l)

-- the least legal collapse from a, or none
abbrev pub IsBestAt : List Tri → List Pt → Pt → Option Key → Type 0
IsBestAt tris locked a None = (q : Pt) → is_legal_collapse tris locked a q ≡ true → ⊥
IsBestAt tris locked a (Some k) =
    (k ≡ key_of tris a k.to) × (is_legal_collapse tris locked a k.to ≡ true)
    × ((q : Pt) → is_legal_collapse tris locked a q ≡ true → is_lt (key_cmp (key_of tris a q) k) ≡ false)

-- of the collapses from these points none is legal, or this is the least legal one
abbrev pub IsBestAmong : List Tri → List Pt → List Pt → Option Key → Type 0
IsBestAmong tris locked points None = All (λ p. (q : Pt) → is_legal_collapse tris locked p q ≡ true → ⊥) points
IsBestAmong tris locked points (Some k) =
    (k ≡ key_of tris k.from k.to) × (is_legal_collapse tris locked k.from k.to ≡ true)
    × All (λ p. (q : Pt) → is_legal_collapse tris locked p q ≡ true → is_lt (key_cmp (key_of tris p q) k) ≡ false)
    points

-- the lesser of two collapses, each of which may be missing
abbrev pub lesser_of : Option Key → Option Key → Option Key
lesser_of None other = other
lesser_of (Some k) None = Some k
lesser_of (Some k) (Some l) = if is_lt (key_cmp l k) then Some l else Some k

-- each point's least legal collapse, or none, by the point's number
abbrev pub AreRight : List Tri → List Pt → List Pt → List (Option Key) → Type 0
AreRight tris locked points bests =
    (k : ℕ) → k < length points → IsBestAt tris locked (point_at points k) (slice_index_or bests k None)
