-- What holds of a list and is kept by each collapse holds of what it is simplified to.
use Rattle.std.proofs.Common.{◌≡◌, ◌⊎◌, ◌≤◌, inl, inr, ℕ, Bool, true, false, not, ◌&&◌, List, [], ◌∷◌, map, filter}
use Rattle.std.proofs.Common.{length, max, All, refl, sym, ap, ◌∙◌, subst, arith}
use Rattle.std.specs.Bool.{⊤}
use Rattle.std.proofs.lemmas.Bool.{and_parts, cases_Bool}
use Rattle.std.proofs.lemmas.List.Folds.{Any-from_list_any}
use Rattle.geom_core.specs.declared.points.Pt.{Pt}
use Rattle.geom_core.specs.declared.triangles.Tri.{Tri}
use Rattle.geom_core.specs.declared.triangles.Tagged.{Tagged}
use Rattle.geom_core.specs.Collapses.{collapsed}
use Rattle.geom_core.specs.Corners.{has_corner, IsCornerIn}
use Rattle.geom_core.specs.EdgeSum.{same_point, edge_sum, OnRim}
use Rattle.geom_core.specs.Limits.{has_distinct_corners, IsGridTriangle}
use Rattle.geom_core.specs.Shift.{shift_of}
use Rattle.geom_core.specs.TaggedLists.{tris_of}
use Rattle.geom_core.proofs.CollapseCorners.{collapsed-corners, IsGridPoint-corner, IsGridTriangle-collapsed}
use Rattle.geom_core.proofs.CollapseCounts.{map-collapsed}
use Rattle.geom_core.proofs.CollapseLaws.{edge_sum-collapsed, OnRim-collapsed}
use Rattle.rim_collapse.specs.declared.states.Kept.{Kept}
use Rattle.rim_collapse.specs.Legal.{has_both, has_edge, is_among, is_legal, is_legal_collapse}
use Rattle.rim_collapse.specs.Moved.{moved_of, shift}
use Rattle.rim_collapse.specs.Simplified.{IsNext, IsSimplified, Lead}
use Rattle.rim_collapse.specs.Sound.{AreMoved, IsSound}
use Rattle.rim_collapse.specs.States.{after, begun, moved_to, present, tagged_of}

-- ---- one collapse after another

pub lead_keeps : (P : List Kept → Type 0) (locked : List Pt) (n : ℕ) →
    ((state : List Kept) (a b : Pt) → P state → IsNext locked n state a b → P (after a b state)) →
    (collapses : List (Pt × Pt)) (state end : List Kept) → P state → Lead locked n collapses state end → P end
unfolding Lead
lead_keeps P locked n keeps [] state end here lead = subst P lead here
lead_keeps P locked n keeps (c ∷ collapses) state end here lead =
    lead_keeps P locked n keeps collapses (after c.0 c.1 state) end (keeps state c.0 c.1 here lead.0) lead.1

-- ---- the triangles of a state

pub present-after : (a b : Pt) (kept : List Kept) → present (after a b kept) ≡ collapsed a b (present kept)
unfolding after
present-after a b kept = map-collapsed (λ (k : Kept). k.tri) (moved_to a b) a b (λ k. refl) kept

pub present-begun : (tris : List Tagged) → present (begun tris) ≡ tris_of tris
present-begun [] = refl
present-begun (t ∷ tris) = ap (λ l. t.tri ∷ l) (present-begun tris)

pub tris_of-tagged : (kept : List Kept) → tris_of (map tagged_of kept) ≡ present kept
tris_of-tagged [] = refl
tris_of-tagged (k ∷ kept) = ap (λ l. k.tri ∷ l) (tris_of-tagged kept)

-- ---- what a legal collapse is

not_locked : (x y z : Bool) → not x && y && z ≡ true → x ≡ false
not_locked true y z h = absurd (cc)
not_locked false y z h = refl

an_edge : (x y z : Bool) → not x && y && z ≡ true → y ≡ true
an_edge true y z h = absurd (cc)
an_edge false true z h = refl
an_edge false false z h = absurd (cc)

pub edge-from_legal : (tris : List Tri) (locked : List Pt) (a b : Pt) → is_legal_collapse tris locked a b ≡ true →
    has_edge tris a b ≡ true
edge-from_legal tris locked a b legal = an_edge (is_among locked a) (has_edge tris a b) (is_legal tris a b) legal

pub target-corner : (tris : List Tri) (a b : Pt) → has_edge tris a b ≡ true → IsCornerIn tris b
unfolding has_edge
target-corner tris a b edge =
    let any = Any-from_list_any (has_both a b) tris (and_parts (not (same_point a b)) _ edge).1 in
    (any.0, any.1, any.2, any.3, (and_parts (has_corner a any.1) (has_corner b any.1) any.4).1)

-- ---- edge sums

record KeepsSums (tris : List Tri) (locked : List Pt) (state : List Kept) : Type 0 where
  rim : (p : Pt) → OnRim (present state) p → is_among locked p ≡ true
  sums : (u v : Pt) → edge_sum (present state) u v ≡ edge_sum tris u v

sums_step : (tris : List Tri) (locked : List Pt) (n : ℕ) (state : List Kept) (a b : Pt) →
    KeepsSums tris locked state → IsNext locked n state a b → KeepsSums tris locked (after a b state)
sums_step tris locked n state a b here next =
    let free : is_among locked a ≡ false =
    not_locked (is_among locked a) (has_edge (present state) a b) (is_legal (present state) a b) next.least.legal in
    let inside : OnRim (present state) a → ⊥ = λ on. both_ways (is_among locked a) (here.rim a on) free in
    record {
      rim = λ p on. here.rim p ((OnRim-collapsed a b p (present state) inside).0
          (subst (λ l. OnRim l p) (present-after a b state) on));
      sums = λ u v. ap (λ l. edge_sum l u v) (present-after a b state) ∙
          edge_sum-collapsed a b u v (present state) inside ∙ here.sums u v;
    }
  where
    both_ways : (x : Bool) → x ≡ true → x ≡ false → ⊥
    both_ways x h k = cc

pub simplified-sums : (tris : List Tagged) (locked : List Pt) (kept : List Kept) → IsSimplified tris locked kept →
    ((p : Pt) → OnRim (tris_of tris) p → is_among locked p ≡ true) → (u v : Pt) →
    edge_sum (tris_of (map tagged_of kept)) u v ≡ edge_sum (tris_of tris) u v
simplified-sums tris locked kept simplified rim u v =
    ap (λ l. edge_sum l u v) (tris_of-tagged kept) ∙
    (lead_keeps (KeepsSums (tris_of tris) locked) locked (length tris)
    (sums_step (tris_of tris) locked (length tris)) simplified.collapses (begun tris) kept (record {
      rim = λ p on. rim p (subst (λ l. OnRim l p) (present-begun tris) on);
      sums = λ s t. ap (λ l. edge_sum l s t) (present-begun tris);
    }) simplified.lead).sums u v

-- ---- parts of a list

-- the triangles that are left are some of those that were given, in their order
unfoldable pub ArePart : List Tagged → List Kept → Type 0
ArePart tris [] = ⊤
ArePart [] (k ∷ kept) = ⊥
ArePart (t ∷ tris) (k ∷ kept) = ((k.was ≡ t) × ArePart tris kept) ⊎ ArePart tris (k ∷ kept)

part-begun : (tris : List Tagged) → ArePart tris (begun tris)
unfolding ArePart
part-begun [] = tt
part-begun (t ∷ tris) = inl (refl, part-begun tris)

part-longer : (t : Tagged) (tris : List Tagged) (kept : List Kept) → ArePart tris kept → ArePart (t ∷ tris) kept
unfolding ArePart
part-longer t tris [] part = tt
part-longer t tris (k ∷ kept) part = inr part

part-moved : (a b : Pt) (tris : List Tagged) (kept : List Kept) → ArePart tris kept →
    ArePart tris (map (moved_to a b) kept)
unfolding ArePart
part-moved a b tris [] part = tt
part-moved a b [] (k ∷ kept) part = part
part-moved a b (t ∷ tris) (k ∷ kept) part =
    elim part [
      | inl here ↦ inl (here.0, part-moved a b tris kept here.1)
      | inr later ↦ inr (part-moved a b tris (k ∷ kept) later)
    ]

part-filter : (test : Kept → Bool) (tris : List Tagged) (kept : List Kept) → ArePart tris kept →
    ArePart tris (filter test kept)
unfolding ArePart
part-filter test tris [] part = part
part-filter test [] (k ∷ kept) part = absurd part
part-filter test (t ∷ tris) (k ∷ kept) part =
    elim (cases_Bool (test k)) [
      | inl passes ↦
          rw passes (elim part [
            | inl here ↦ inl (here.0, part-filter test tris kept here.1)
            | inr later ↦ inr (rw passes at (part-filter test tris (k ∷ kept) later))
          ])
      | inr fails ↦
          rw fails (part-longer t tris (filter test kept) (elim part [
            | inl here ↦ part-filter test tris kept here.1
            | inr later ↦ rw fails at (part-filter test tris (k ∷ kept) later)
          ]))
    ]

part-after : (a b : Pt) (tris : List Tagged) (kept : List Kept) → ArePart tris kept → ArePart tris (after a b kept)
unfolding after
part-after a b tris kept part =
    part-filter (λ k. has_distinct_corners k.tri) tris (map (moved_to a b) kept) (part-moved a b tris kept part)

part-length : (tris : List Tagged) (kept : List Kept) → ArePart tris kept → length kept ≤ length tris
unfolding ArePart
part-length tris [] part = omega arith
part-length [] (k ∷ kept) part = absurd part
part-length (t ∷ tris) (k ∷ kept) part =
    elim part [
      | inl here ↦ (let rest = part-length tris kept here.1 in omega arith)
      | inr later ↦ (let rest = part-length tris (k ∷ kept) later in omega arith)
    ]

part-are_moved : (m : ℕ) (tris : List Tagged) (kept : List Kept) → ArePart tris kept → moved_of kept ≤ m →
    AreMoved m tris (map tagged_of kept)
unfolding ArePart AreMoved
part-are_moved m tris [] part within = tt
part-are_moved m [] (k ∷ kept) part within = part
part-are_moved m (t ∷ tris) (k ∷ kept) part within =
    elim part [
      | inl here ↦ inl (
        record {
          source = ap (λ (s : Tagged). s.source) here.0;
          within = subst (λ (s : Tagged). shift_of k.tri s.tri ≤ m) here.0 (first (shift k) (moved_of kept) within);
        },
        part-are_moved m tris kept here.1 (rest (shift k) (moved_of kept) within),
      )
      | inr later ↦ inr (part-are_moved m tris (k ∷ kept) later within)
    ]
  where
    first : (x y : ℕ) → max x y ≤ m → x ≤ m
    first x y h = omega arith

    rest : (x y : ℕ) → max x y ≤ m → y ≤ m
    rest x y h = omega arith

-- ---- soundness

record IsSoundState (tris : List Tagged) (state : List Kept) : Type 0 where
  part : ArePart tris state
  triangles : All IsGridTriangle (present state)
  corners : (p : Pt) → IsCornerIn (present state) p → IsCornerIn (tris_of tris) p

sound_step : (tris : List Tagged) (locked : List Pt) (n : ℕ) (state : List Kept) (a b : Pt) →
    IsSoundState tris state → IsNext locked n state a b → IsSoundState tris (after a b state)
sound_step tris locked n state a b here next =
    let target = target-corner (present state) a b
    (edge-from_legal (present state) locked a b next.least.legal) in
    record {
      part = part-after a b tris state here.part;
      triangles = rw (present-after a b state) (IsGridTriangle-collapsed a b (present state)
          (IsGridPoint-corner b (present state) target here.triangles) here.triangles);
      corners = λ p corner. elim (collapsed-corners a b p (present state)
          (subst (λ l. IsCornerIn l p) (present-after a b state) corner)) [
            | inl at ↦ here.corners p (subst (IsCornerIn (present state)) (sym at) target)
            | inr there ↦ here.corners p there
          ];
    }

sound_state : (tris : List Tagged) (locked : List Pt) (n : ℕ) (collapses : List (Pt × Pt)) (kept : List Kept) →
    All IsGridTriangle (tris_of tris) → Lead locked n collapses (begun tris) kept → IsSoundState tris kept
sound_state tris locked n collapses kept triangles lead =
    lead_keeps (IsSoundState tris) locked n (sound_step tris locked n) collapses (begun tris) kept (record {
      part = part-begun tris;
      triangles = rw (present-begun tris) triangles;
      corners = λ p corner. subst (λ l. IsCornerIn l p) (present-begun tris) corner;
    }) lead

pub state-triangles : (tris : List Tagged) (locked : List Pt) (n : ℕ) (collapses : List (Pt × Pt)) (kept : List Kept) →
    All IsGridTriangle (tris_of tris) → Lead locked n collapses (begun tris) kept → All IsGridTriangle (present kept)
state-triangles tris locked n collapses kept triangles lead =
    (sound_state tris locked n collapses kept triangles lead).triangles

pub state-length : (tris : List Tagged) (locked : List Pt) (n : ℕ) (collapses : List (Pt × Pt)) (kept : List Kept) →
    All IsGridTriangle (tris_of tris) → Lead locked n collapses (begun tris) kept → length kept ≤ length tris
state-length tris locked n collapses kept triangles lead =
    part-length tris kept (sound_state tris locked n collapses kept triangles lead).part

pub simplified-sound : (tris : List Tagged) (locked : List Pt) (kept : List Kept) →
    All IsGridTriangle (tris_of tris) → IsSimplified tris locked kept →
    IsSound tris (map tagged_of kept) (moved_of kept)
simplified-sound tris locked kept triangles simplified =
    let sound = sound_state tris locked (length tris) simplified.collapses kept triangles simplified.lead in
    record {
      triangles = rw (tris_of-tagged kept) sound.triangles;
      fewer = rw (length-map-tagged kept) (part-length tris kept sound.part);
      from = part-are_moved (moved_of kept) tris kept sound.part (omega arith);
      corners = λ p corner. sound.corners p (subst (λ l. IsCornerIn l p) (tris_of-tagged kept) corner);
    }
  where
    length-map-tagged : (some : List Kept) → length (map tagged_of some) ≡ length some
    length-map-tagged [] = refl
    length-map-tagged (k ∷ some) = omega (arith, length-map-tagged some)
