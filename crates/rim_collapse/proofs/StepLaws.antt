-- The next collapse among those of all points, and the state after it.
use Rattle.std.proofs.Common.{◌≡◌, inr, ℕ, ◌+◌, ◌*◌, ◌<◌, Bool, true, false, not, ◌&&◌, if◌then◌else◌, List, []}
use Rattle.std.proofs.Common.{◌∷◌, ◌++◌, flat_map, max, Ordering, take, length, get_or, All, Any, Contains, IsTrue}
use Rattle.std.proofs.Common.{Option, Some, None, refl, sym, ap, ◌∙◌, subst, arith}
use Prim.Native.Nat.{zero, suc}
use Rattle.std.specs.List.{list_any}
use Rattle.std.specs.Ordering.{is_eq, is_lt, ordering_reverse}
use Rattle.std.specs.declared.cmp.Ordering.TheVariants.{Less, Equal, Greater}
use Rattle.std.proofs.lemmas.Bool.{and_parts}
use Rattle.std.proofs.lemmas.List.Elements.{All-contains, All-more, All-weaker, Contains-append_left}
use Rattle.std.proofs.lemmas.List.Elements.{Contains-append_right}
use Rattle.std.proofs.lemmas.List.{get_or_default, take_more}
use Rattle.std.proofs.lemmas.List.Folds.{Any-from_list_any}
use Rattle.std.proofs.lemmas.List.Sorted.{ranks_by}
use Rattle.geom_core.specs.declared.points.Pt.{Pt}
use Rattle.geom_core.specs.declared.triangles.Tri.{Tri}
use Rattle.geom_core.specs.declared.triangles.Tagged.{Tagged}
use Rattle.geom_core.specs.TaggedLists.{tris_of}
use Rattle.geom_core.specs.Collapses.{collapsed}
use Rattle.geom_core.specs.Corners.{has_corner, IsCornerIn}
use Rattle.geom_core.specs.EdgeSum.{same_point}
use Rattle.geom_core.proofs.CollapseCorners.{at_corner}
use Rattle.geom_core.proofs.CollapseCounts.{length-lt-collapsed}
use Rattle.geom_core.specs.Order.{point_cmp}
use Rattle.geom_core.proofs.PointLaws.{point_cmp-total, same_point-is, same_point-refl}
use Rattle.rim_collapse.specs.declared.faces.Face.{Face}
use Rattle.rim_collapse.specs.declared.keys.Key.{Key}
use Rattle.rim_collapse.specs.declared.states.Kept.{Kept}
use Rattle.rim_collapse.specs.Cost.{key_cmp, key_of}
use Rattle.rim_collapse.specs.Legal.{has_both, has_edge, is_among, is_legal_collapse}
use Rattle.rim_collapse.specs.Moved.{moved_of, shift}
use Rattle.rim_collapse.specs.Simplified.{IsNext, Lead}
use Rattle.rim_collapse.specs.States.{after, present}
use Rattle.rim_collapse.specs.Internal.Bests.{AreRight, IsBestAmong, IsBestAt, lesser_of}
use Rattle.rim_collapse.specs.Internal.Faces.{IsNumbered, origin, point_at, state_of, tris_at}
use Rattle.rim_collapse.specs.Internal.Points.{corners_of}
use Rattle.rim_collapse.specs.Internal.Steps.{IsNextOf}
use Rattle.rim_collapse.proofs.BestLaws.{before-all}
use Rattle.rim_collapse.proofs.Determined.{key_cmp-total}
use Rattle.rim_collapse.proofs.Following.{edge-from_legal, present-after}

-- ---- the least of several points' collapses

key-source : (tris : List Tri) (a b : Pt) (k : Key) → k ≡ key_of tris a b → k.from ≡ a
unfolding key_of
key-source tris a b k is = ap (λ (l : Key). l.from) is

-- a collapse of one point, beside those of the points before it
among-first : (tris : List Tri) (locked : List Pt) (points : List Pt) (p : Pt) (l : Key) →
    IsBestAt tris locked p (Some l) →
    All (λ r. (q : Pt) → is_legal_collapse tris locked r q ≡ true → is_lt (key_cmp (key_of tris r q) l) ≡ false)
    points →
    IsBestAmong tris locked points (Some l)
among-first tris locked points p l best others =
    let from : l.from ≡ p = key-source tris p l.to l best.0 in (
      best.0 ∙ ap (λ r. key_of tris r l.to) (sym from),
      ap (λ r. is_legal_collapse tris locked r l.to) from ∙ best.1,
      others,
    )

pub among-more : (tris : List Tri) (locked : List Pt) (points : List Pt) (i : ℕ) (p : Pt) (least best : Option Key) →
    i < length points → IsBestAmong tris locked (take i points) least →
    IsBestAt tris locked (get_or points i p) best → IsBestAmong tris locked (take (i + 1) points) (lesser_of least best)
among-more tris locked points i p None None within least best =
    All-more (λ r. (q : Pt) → is_legal_collapse tris locked r q ≡ true → ⊥) points i p within least best
among-more tris locked points i p None (Some l) within least best =
    among-first tris locked (take (i + 1) points) (get_or points i p) l best (All-more (Passes l) points i p within
    (All-weaker (λ r. (q : Pt) → is_legal_collapse tris locked r q ≡ true → ⊥) (Passes l)
    (λ r none q legal. absurd (none q legal)) (take i points) least) best.2)
  where
    Passes : Key → Pt → Type 0
    Passes k r = (q : Pt) → is_legal_collapse tris locked r q ≡ true → is_lt (key_cmp (key_of tris r q) k) ≡ false
among-more tris locked points i p (Some k) None within least best = (
  least.0,
  least.1,
  All-more
      (λ r. (q : Pt) → is_legal_collapse tris locked r q ≡ true → is_lt (key_cmp (key_of tris r q) k) ≡ false)
      points i p within least.2
      (λ q legal. absurd (best q legal)),
)
among-more tris locked points i p (Some k) (Some l) within least best =
    by (is_lt (key_cmp l k)) refl
  where
    Passes : Key → Pt → Type 0
    Passes m r = (q : Pt) → is_legal_collapse tris locked r q ≡ true → is_lt (key_cmp (key_of tris r q) m) ≡ false

    by : (less : Bool) → is_lt (key_cmp l k) ≡ less →
        IsBestAmong tris locked (take (i + 1) points) (if less then Some l else Some k)
    by true first =
        among-first tris locked (take (i + 1) points) (get_or points i p) l best (All-more (Passes l) points i p within
        (All-weaker (Passes k) (Passes l) (λ r passes q legal. before-all l k (key_of tris r q) first (passes q legal))
        (take i points) least.2) best.2)
    by false later = (
      least.0,
      least.1,
      All-more (Passes k) points i p within least.2
          (λ q legal. (ranks_by key_cmp-total (λ (m : Key). m)).chain (key_of tris (get_or points i p) q) l k
          (best.2 q legal) later),
    )

pub least-more : (tris : List Tri) (locked points : List Pt) (bests : List (Option Key)) (i : ℕ) (d : Option Key)
    (least : Option Key) → i < length bests → length bests ≡ length points → AreRight tris locked points bests →
    IsBestAmong tris locked (take i points) least →
    IsBestAmong tris locked (take (i + 1) points) (lesser_of least (get_or bests i d))
unfolding point_at
least-more tris locked points bests i d least within same right so_far =
    among-more tris locked points i origin least (get_or bests i d) (omega arith) so_far
    (subst (IsBestAt tris locked (get_or points i origin)) (get_or_default bests i None d within)
    (right i (omega arith)))

-- ---- points

pub source-corner : (tris : List Tri) (a b : Pt) → has_edge tris a b ≡ true → IsCornerIn tris a
unfolding has_edge
source-corner tris a b edge =
    let any = Any-from_list_any (has_both a b) tris (and_parts (not (same_point a b)) _ edge).1 in
    (any.0, any.1, any.2, any.3, (and_parts (has_corner a any.1) (has_corner b any.1) any.4).0)

corner-listed : (p : Pt) (t : Tri) → has_corner p t ≡ true → Contains (corners_of t) p
corner-listed p t has =
    at_corner (Contains (corners_of t)) p t (0, omega arith, refl) (1, omega arith, refl) (2, omega arith, refl) has

pub corners-listed : (p : Pt) (tris : List Tri) → IsCornerIn tris p → Contains (flat_map corners_of tris) p
corners-listed p [] corner = absurd (omega (arith, corner.2))
corners-listed p (t ∷ tris) (zero, u, within, at, has) =
    Contains-append_left (corners_of t) (flat_map corners_of tris) p
    (corner-listed p t (ap (has_corner p) at ∙ has))
corners-listed p (t ∷ tris) (suc k, u, within, at, has) =
    Contains-append_right (corners_of t) (flat_map corners_of tris) p
    (corners-listed p tris (k, u, omega arith, at, has))

pub length-corners : (tris : List Tagged) → length (flat_map corners_of (tris_of tris)) ≡ 3 * length tris
length-corners [] = refl
length-corners (t ∷ tris) = omega (arith, length-corners tris)

-- ---- the next collapse

pub next-of : (locked : List Pt) (n : ℕ) (state : List Kept) (points : List Pt) (best : Option Key) →
    n < 2 * length state → ((p : Pt) → IsCornerIn (present state) p → Contains points p) →
    IsBestAmong (present state) locked points best → IsNextOf locked n state best
next-of locked n state points None many covered none = inr (λ a b legal.
    All-contains (λ p. (q : Pt) → is_legal_collapse (present state) locked p q ≡ true → ⊥) points a none
    (covered a (source-corner (present state) a b (edge-from_legal (present state) locked a b legal))) b legal)
next-of locked n state points (Some k) many covered best = record {
  too_many = many;
  least = record {
    legal = best.1;
    first = λ c d legal. ap (λ l. is_lt (key_cmp (key_of (present state) c d) l)) (sym best.0) ∙
        All-contains (λ p. (q : Pt) → is_legal_collapse (present state) locked p q ≡ true →
        is_lt (key_cmp (key_of (present state) p q) k) ≡ false) points c best.2
        (covered c (source-corner (present state) c d (edge-from_legal (present state) locked c d legal))) d legal;
  };
}

-- what is found over the listed bests is the next collapse
pub found-next : (tris : List Tagged) (locked points : List Pt) (faces : List Face) (count : ℕ)
    (bests asked : List (Option Key)) (found : Option Key) → count ≡ length faces → asked ≡ bests →
    ((given : List Tagged) (held listed : List Pt) (some : List Face) → count ≡ length some →
    All (IsNumbered (length listed)) some → length asked ≡ length listed →
    AreRight (tris_at listed some) held listed asked → IsNextOf held (length tris) (state_of given listed some) found) →
    All (IsNumbered (length points)) faces → length bests ≡ length points →
    AreRight (tris_at points faces) locked points bests →
    IsNextOf locked (length tris) (state_of tris points faces) found
found-next tris locked points faces count bests asked found left same next numbered listed right =
    next tris locked points faces left numbered (ap length same ∙ listed)
    (subst (AreRight (tris_at points faces) locked points) (sym same) right)

pub lead-more : (locked : List Pt) (n : ℕ) (collapses : List (Pt × Pt)) (state middle : List Kept) (a b : Pt) →
    Lead locked n collapses state middle → IsNext locked n middle a b →
    Lead locked n (collapses ++ (a, b) ∷ []) state (after a b middle)
unfolding Lead
lead-more locked n [] state middle a b lead next =
    (subst (λ s. IsNext locked n s a b) (sym lead) next, ap (after a b) lead)
lead-more locked n (c ∷ collapses) state middle a b lead next =
    (lead.0, lead-more locked n collapses (after c.0 c.1 state) middle a b lead.1 next)

pub edge_apart : (tris : List Tri) (a b : Pt) → has_edge tris a b ≡ true → a ≡ b → ⊥
unfolding has_edge
edge_apart tris a b edge same = both (same_point a b) _ edge (same_point-refl a b same)
  where
    both : (x y : Bool) → not x && y ≡ true → x ≡ true → ⊥
    both true y h k = cc
    both false y h k = cc

any_edge : (tris : List Tri) (a b : Pt) → has_edge tris a b ≡ true →
    Any (λ t. IsTrue (has_corner a t && has_corner b t)) tris
unfolding has_edge
any_edge tris a b edge = Any-from_list_any (has_both a b) tris (and_parts (not (same_point a b)) _ edge).1

-- a collapse leaves fewer triangles
pub length-lt-after : (locked : List Pt) (n : ℕ) (state : List Kept) (a b : Pt) → IsNext locked n state a b →
    length (after a b state) < length state
length-lt-after locked n state a b next =
    let fewer = fewer_present (present state) (edge-from_legal (present state) locked a b next.least.legal) in
    let is = ap length (present-after a b state) in
    omega (arith, length-present state, length-present (after a b state))
  where
    length-present : (some : List Kept) → length (present some) ≡ length some
    length-present [] = refl
    length-present (k ∷ some) = omega (arith, length-present some)

    fewer_present : (tris : List Tri) → has_edge tris a b ≡ true → length (collapsed a b tris) < length tris
    fewer_present tris edge = length-lt-collapsed a b tris (edge_apart tris a b edge) (any_edge tris a b edge)

-- ---- locked points

pub among-is : (p : Pt) (points : List Pt) → list_any (λ q. is_eq (point_cmp p q)) points ≡ is_among points p
among-is p [] = refl
among-is p (q ∷ points) = rw (each q, among-is p points)
  where
    turned : (o : Ordering) → is_eq (ordering_reverse o) ≡ is_eq o
    turned Less = refl
    turned Equal = refl
    turned Greater = refl

    each : (r : Pt) → is_eq (point_cmp p r) ≡ same_point r p
    each r = ap is_eq (point_cmp-total.antisymm p r) ∙ turned (point_cmp r p) ∙ sym (same_point-is r p)

-- ---- how far corners moved

moved_of-push : (kept : List Kept) (k : Kept) → moved_of (kept ++ k ∷ []) ≡ max (moved_of kept) (shift k)
moved_of-push [] k = omega arith
moved_of-push (l ∷ kept) k = let rest = moved_of-push kept k in omega arith

pub moved_of-more : (kept : List Kept) (i : ℕ) (d : Kept) (m n : ℕ) → i < length kept → m ≡ moved_of (take i kept) →
    n ≡ shift (get_or kept i d) → max m n ≡ moved_of (take (i + 1) kept)
moved_of-more kept i d m n within so_far is =
    rw (so_far, is) (sym (ap moved_of (take_more kept i d within) ∙ moved_of-push (take i kept) (get_or kept i d)))
