-- Which collapses there are, and which of them are legal.
use Rattle.std.specs.Prelude.{Bool, not, ◌&&◌, ◌||◌, pos, List, int_le}
use Rattle.std.specs.List.{list_all, list_any}
use Rattle.geom_core.specs.declared.points.Pt.{Pt}
use Rattle.geom_core.specs.declared.triangles.Tri.{Tri}
use Rattle.geom_core.specs.Collapses.{replaced}
use Rattle.geom_core.specs.Corners.{has_corner}
use Rattle.geom_core.specs.EdgeSum.{same_point}
use Rattle.geom_core.specs.Limits.{has_distinct_corners}
use Rattle.rim_collapse.specs.Normals.{dot, normal}

-- the point is one of these
abbrev pub is_among : List Pt → Pt → Bool
is_among points p = list_any (λ q. same_point q p) points

-- both points are corners of the triangle
abbrev pub has_both : Pt → Pt → Tri → Bool
has_both a b t = has_corner a t && has_corner b t

-- some triangle has an edge between the two points, which differ
unfoldable pub has_edge : List Tri → Pt → Pt → Bool
has_edge tris a b = not (same_point a b) && list_any (has_both a b) tris

-- the triangle doesn't turn over where b replaces a: a isn't its corner, or it is left out, or its new normal isn't
-- more than a right angle from its old one
unfoldable pub keeps_facing : Pt → Pt → Tri → Bool
keeps_facing a b t =
    not (has_corner a t) || not (has_distinct_corners (replaced a b t))
    || int_le (pos 0) (dot (normal (replaced a b t)) (normal t))

-- a collapse moves a point that isn't locked along an edge
abbrev pub is_collapse : List Tri → List Pt → Pt → Pt → Bool
is_collapse tris locked a b = not (is_among locked a) && has_edge tris a b

-- no triangle turns over
unfoldable pub is_legal : List Tri → Pt → Pt → Bool
is_legal tris a b = list_all (keeps_facing a b) tris

-- a collapse, and a legal one
abbrev pub is_legal_collapse : List Tri → List Pt → Pt → Pt → Bool
is_legal_collapse tris locked a b = is_collapse tris locked a b && is_legal tris a b
