-- Collapses: what replacing a point does to edge sums, and what stays of a list of triangles.
use Rattle.std.proofs.Common.{◌≡◌, ◌≢◌, ◌⊎◌, ◌↔◌, inl, inr, ℕ, ◌+◌, Bool, true, false, not, ◌&&◌, ◌||◌}
use Rattle.std.proofs.Common.{ℤ, pos, ◌+ℤ◌, neg_ℤ, List, [], ◌∷◌, map, filter, cond, if◌then◌else◌}
use Rattle.std.proofs.Common.{refl, sym, ap, ◌∙◌, arith}
use Rattle.std.proofs.Math.Bool.{and_comm}
use Rattle.std.proofs.lemmas.Bool.{cases_Bool}
use Rattle.std.proofs.lemmas.Int.{ints}
use Rattle.std.specs.Ordering.{int_eq}
use Rattle.geom_core.specs.declared.points.Pt.{Pt}
use Rattle.geom_core.specs.declared.triangles.Tri.{Tri}
use Rattle.geom_core.specs.EdgeSum.{same_point, edge_count, edge_sum, is_rim_edge, OnRim}
use Rattle.geom_core.specs.Limits.{has_distinct_corners}
use Rattle.geom_core.specs.Collapses.{replaced_point, replaced, collapsed}
use Rattle.geom_core.proofs.PointLaws.{int_eq-from, same_point-from, same_point-itself, same_point-refl}
use Rattle.geom_core.proofs.EdgeSumLaws.{edge_count-one, edge_sum-none, edge_sum-first, edge_sum-turned, edge_sum-same}
use Rattle.geom_core.proofs.EdgeSumLaws.{edge_sum-equal_ab, edge_sum-equal_bc, edge_sum-equal_ca}

-- ---- points

pub same_point-apart : (p q : Pt) → p ≢ q → same_point p q ≡ false
same_point-apart p q apart =
    elim (cases_Bool (same_point p q)) [
      | inl same ↦ absurd (apart (same_point-from p q same))
      | inr differ ↦ differ
    ]

pub one_or_two : (p q : Pt) → (p ≡ q) ⊎ (p ≢ q)
one_or_two p q =
    elim (cases_Bool (same_point p q)) [
      | inl same ↦ inl (same_point-from p q same)
      | inr differ ↦ inr (λ same. absurd (cc (same_point-refl p q same)))
    ]

pub replaced_point-at : (a b p : Pt) → p ≡ a → replaced_point a b p ≡ b
unfolding replaced_point
replaced_point-at a b p at = rw (same_point-refl p a at)

pub replaced_point-off : (a b p : Pt) → p ≢ a → replaced_point a b p ≡ p
unfolding replaced_point
replaced_point-off a b p off = rw (same_point-apart p a off)

-- no point that was replaced is left
replaced_point-gone : (a b p : Pt) → a ≢ b → same_point (replaced_point a b p) a ≡ false
replaced_point-gone a b p apart =
    elim (one_or_two p a) [
      | inl at ↦ rw (replaced_point-at a b p at) (same_point-apart b a (λ e. apart (sym e)))
      | inr off ↦ rw (replaced_point-off a b p off) (same_point-apart p a off)
    ]

-- the target is met where it was, and where the replaced point was
replaced_point-target : (a b p : Pt) → a ≢ b →
    same_point (replaced_point a b p) b ≡ same_point p b || same_point p a
replaced_point-target a b p apart =
    elim (one_or_two p a) [
      | inl at ↦ rw (
        replaced_point-at a b p at,
        same_point-itself b,
        same_point-refl p a at,
        same_point-apart p b (λ e. apart (sym at ∙ e)),
      )
      | inr off ↦ rw (replaced_point-off a b p off, same_point-apart p a off) (or_false (same_point p b))
    ]
  where
    or_false : (x : Bool) → x ≡ x || false
    or_false true = refl
    or_false false = refl

-- any other point is met where it was
replaced_point-elsewhere : (a b p u : Pt) → u ≢ a → u ≢ b →
    same_point (replaced_point a b p) u ≡ same_point p u
replaced_point-elsewhere a b p u off_a off_b =
    elim (one_or_two p a) [
      | inl at ↦ rw (
        replaced_point-at a b p at,
        same_point-apart b u (λ e. off_b (sym e)),
        same_point-apart p u (λ e. off_a (sym e ∙ at)),
      )
      | inr off ↦ rw (replaced_point-off a b p off)
    ]

-- ---- one edge

-- 1 where the edge from p to q is that from u to v, else 0
abbrev hit : Pt → Pt → Pt → Pt → ℕ
hit p q u v = if same_point p u && same_point q v then 1 else 0

-- the same of the edge after replacing
abbrev hit_after : Pt → Pt → Pt → Pt → Pt → Pt → ℕ
hit_after a b p q u v = hit (replaced_point a b p) (replaced_point a b q) u v

hit-turned : (p q u v : Pt) → hit q p v u ≡ hit p q u v
hit-turned p q u v = ap (λ (both : Bool). if both then 1 else 0) (and_comm (same_point q v) (same_point p u))

hit-from_replaced : (a b v p q : Pt) → a ≢ b → hit_after a b p q a v ≡ 0
hit-from_replaced a b v p q apart = rw (replaced_point-gone a b p apart)

hit-from_target : (a b v p q : Pt) → a ≢ b → v ≢ a → v ≢ b → hit_after a b p q b v ≡ hit p q b v + hit p q a v
hit-from_target a b v p q apart off_a off_b =
    rw (replaced_point-target a b p apart, replaced_point-elsewhere a b q v off_a off_b)
    (split (same_point p b) (same_point p a) (same_point q v) (λ at_b at_a.
    apart (sym (same_point-from p a at_a) ∙ same_point-from p b at_b)))
  where
    split : (x y z : Bool) → (x ≡ true → y ≡ true → ⊥) →
        (if (x || y) && z then 1 else 0) ≡ (if x && z then 1 else 0) + (if y && z then 1 else 0)
    split true true z both = absurd (both refl refl)
    split true false true both = refl
    split true false false both = refl
    split false true true both = refl
    split false true false both = refl
    split false false z both = refl

hit-to_replaced : (a b u p q : Pt) → a ≢ b → hit_after a b p q u a ≡ 0
hit-to_replaced a b u p q apart =
    hit-turned (replaced_point a b q) (replaced_point a b p) a u ∙ hit-from_replaced a b u q p apart

hit-to_target : (a b u p q : Pt) → a ≢ b → u ≢ a → u ≢ b → hit_after a b p q u b ≡ hit p q u b + hit p q u a
hit-to_target a b u p q apart off_a off_b =
    hit-turned (replaced_point a b q) (replaced_point a b p) b u ∙ hit-from_target a b u q p apart off_a off_b ∙
    cc (hit-turned q p b u, hit-turned q p a u)

hit-elsewhere : (a b u v p q : Pt) → u ≢ a → u ≢ b → v ≢ a → v ≢ b → hit_after a b p q u v ≡ hit p q u v
hit-elsewhere a b u v p q u_off_a u_off_b v_off_a v_off_b =
    rw (replaced_point-elsewhere a b p u u_off_a u_off_b, replaced_point-elsewhere a b q v v_off_a v_off_b)

-- ---- one triangle

edge_count-one_replaced : (a b : Pt) (t : Tri) (u v : Pt) → edge_count (replaced a b t ∷ []) u v ≡
    hit_after a b t.a t.b u v + hit_after a b t.b t.c u v + hit_after a b t.c t.a u v
unfolding replaced
edge_count-one_replaced a b t u v = edge_count-one (replaced a b t) u v

one-from_replaced : (a b v : Pt) (t : Tri) → a ≢ b → edge_sum (replaced a b t ∷ []) a v ≡ pos 0
unfolding edge_sum
one-from_replaced a b v t apart =
    let from : (p q : Pt) → hit_after a b p q a v ≡ 0 = λ p q. hit-from_replaced a b v p q apart in
    let to : (p q : Pt) → hit_after a b p q v a ≡ 0 = λ p q. hit-to_replaced a b v p q apart in
    rw (
      edge_count-one_replaced a b t a v,
      edge_count-one_replaced a b t v a,
      from t.a t.b,
      from t.b t.c,
      from t.c t.a,
      to t.a t.b,
      to t.b t.c,
      to t.c t.a,
    )

one-from_target : (a b v : Pt) (t : Tri) → a ≢ b → v ≢ a → v ≢ b →
    edge_sum (replaced a b t ∷ []) b v ≡ edge_sum (t ∷ []) b v +ℤ edge_sum (t ∷ []) a v
unfolding edge_sum
one-from_target a b v t apart off_a off_b =
    let from = λ (p q : Pt). hit-from_target a b v p q apart off_a off_b in
    let to = λ (p q : Pt). hit-to_target a b v p q apart off_a off_b in
    rw (
      edge_count-one_replaced a b t b v,
      edge_count-one_replaced a b t v b,
      edge_count-one t b v,
      edge_count-one t v b,
      edge_count-one t a v,
      edge_count-one t v a,
      from t.a t.b,
      from t.b t.c,
      from t.c t.a,
      to t.a t.b,
      to t.b t.c,
      to t.c t.a,
    ) (omega (arith, ints))

one-elsewhere : (a b u v : Pt) (t : Tri) → u ≢ a → u ≢ b → v ≢ a → v ≢ b →
    edge_sum (replaced a b t ∷ []) u v ≡ edge_sum (t ∷ []) u v
unfolding edge_sum
one-elsewhere a b u v t u_off_a u_off_b v_off_a v_off_b =
    let there = λ (p q : Pt). hit-elsewhere a b u v p q u_off_a u_off_b v_off_a v_off_b in
    let back = λ (p q : Pt). hit-elsewhere a b v u p q v_off_a v_off_b u_off_a u_off_b in
    rw (
      edge_count-one_replaced a b t u v,
      edge_count-one_replaced a b t v u,
      edge_count-one t u v,
      edge_count-one t v u,
      there t.a t.b,
      there t.b t.c,
      there t.c t.a,
      back t.a t.b,
      back t.b t.c,
      back t.c t.a,
    )

-- a triangle with two equal corners has no sums
one-flat : (t : Tri) (u v : Pt) → has_distinct_corners t ≡ false → edge_sum (t ∷ []) u v ≡ pos 0
unfolding has_distinct_corners
one-flat t u v flat =
    elim (cases_Bool (same_point t.a t.b)) [
      | inl ab ↦ edge_sum-equal_ab t u v (same_point-from t.a t.b ab)
      | inr not_ab ↦
          elim (cases_Bool (same_point t.b t.c)) [
            | inl bc ↦ edge_sum-equal_bc t u v (same_point-from t.b t.c bc)
            | inr not_bc ↦
                elim (cases_Bool (same_point t.c t.a)) [
                  | inl ca ↦ edge_sum-equal_ca t u v (same_point-from t.c t.a ca)
                  | inr not_ca ↦ absurd (cc (rw (not_ab, not_bc, not_ca) at flat))
                ]
          ]
    ]

-- ---- a list of triangles

-- a number that is 0 of no triangle, and of more triangles the sum of what it is of each
record IsSum (f : List Tri → ℤ) : Type 0 where
  none : f [] ≡ pos 0
  first : (t : Tri) (tris : List Tri) → f (t ∷ tris) ≡ f (t ∷ []) +ℤ f tris

-- two of them that agree at each triangle agree at each list
same_sums : (f g : List Tri → ℤ) → IsSum f → IsSum g → ((t : Tri) → f (t ∷ []) ≡ g (t ∷ [])) →
    (tris : List Tri) → f tris ≡ g tris
same_sums f g is_sum_f is_sum_g same [] = is_sum_f.none ∙ sym is_sum_g.none
same_sums f g is_sum_f is_sum_g same (t ∷ tris) =
    rw (is_sum_f.first t tris, is_sum_g.first t tris, same t, same_sums f g is_sum_f is_sum_g same tris)

IsSum-zero : IsSum (λ tris. pos 0)
IsSum-zero = record { none = refl; first = λ t tris. refl }

IsSum-edges : (u v : Pt) → IsSum (λ tris. edge_sum tris u v)
IsSum-edges u v = record { none = edge_sum-none u v; first = λ t tris. edge_sum-first t tris u v }

IsSum-added : (f g : List Tri → ℤ) → IsSum f → IsSum g → IsSum (λ tris. f tris +ℤ g tris)
IsSum-added f g is_sum_f is_sum_g = record {
  none = rw (is_sum_f.none, is_sum_g.none);
  first = λ t tris. rw (is_sum_f.first t tris, is_sum_g.first t tris) (omega (arith, ints));
}

IsSum-replaced : (a b u v : Pt) → IsSum (λ tris. edge_sum (map (replaced a b) tris) u v)
IsSum-replaced a b u v = record {
  none = edge_sum-none u v;
  first = λ t tris. edge_sum-first (replaced a b t) (map (replaced a b) tris) u v;
}

IsSum-filtered : (test : Tri → Bool) (u v : Pt) → IsSum (λ tris. edge_sum (filter test tris) u v)
IsSum-filtered test u v = record {
  none = edge_sum-none u v;
  first = λ t tris. by t (filter test tris) (test t);
}
  where
    by : (t : Tri) (others : List Tri) (passes : Bool) → edge_sum (cond passes (t ∷ others) others) u v ≡
        edge_sum (cond passes (t ∷ []) []) u v +ℤ edge_sum others u v
    by t others true = edge_sum-first t others u v
    by t others false = rw (edge_sum-none u v) (omega (arith, ints))

-- ---- replacing moves the sums

pub edge_sum-from_replaced : (a b v : Pt) (tris : List Tri) → a ≢ b → edge_sum (map (replaced a b) tris) a v ≡ pos 0
edge_sum-from_replaced a b v tris apart =
    same_sums _ _ (IsSum-replaced a b a v) IsSum-zero (λ t. one-from_replaced a b v t apart) tris

pub edge_sum-to_replaced : (a b u : Pt) (tris : List Tri) → a ≢ b → edge_sum (map (replaced a b) tris) u a ≡ pos 0
edge_sum-to_replaced a b u tris apart =
    edge_sum-turned (map (replaced a b) tris) a u ∙ ap neg_ℤ (edge_sum-from_replaced a b u tris apart)

pub edge_sum-from_target : (a b v : Pt) (tris : List Tri) → a ≢ b → v ≢ a → v ≢ b →
    edge_sum (map (replaced a b) tris) b v ≡ edge_sum tris b v +ℤ edge_sum tris a v
edge_sum-from_target a b v tris apart off_a off_b =
    same_sums _ _ (IsSum-replaced a b b v) (IsSum-added _ _ (IsSum-edges b v) (IsSum-edges a v))
    (λ t. one-from_target a b v t apart off_a off_b) tris

pub edge_sum-to_target : (a b u : Pt) (tris : List Tri) → a ≢ b → u ≢ a → u ≢ b →
    edge_sum (map (replaced a b) tris) u b ≡ edge_sum tris u b +ℤ edge_sum tris u a
edge_sum-to_target a b u tris apart off_a off_b =
    rw (
      edge_sum-turned (map (replaced a b) tris) b u,
      edge_sum-from_target a b u tris apart off_a off_b,
      edge_sum-turned tris b u,
      edge_sum-turned tris a u,
    ) (omega (arith, ints))

pub edge_sum-elsewhere : (a b u v : Pt) (tris : List Tri) → u ≢ a → u ≢ b → v ≢ a → v ≢ b →
    edge_sum (map (replaced a b) tris) u v ≡ edge_sum tris u v
edge_sum-elsewhere a b u v tris u_off_a u_off_b v_off_a v_off_b =
    same_sums _ _ (IsSum-replaced a b u v) (IsSum-edges u v)
    (λ t. one-elsewhere a b u v t u_off_a u_off_b v_off_a v_off_b) tris

-- triangles with two equal corners add nothing
pub edge_sum-distinct : (tris : List Tri) (u v : Pt) →
    edge_sum (filter has_distinct_corners tris) u v ≡ edge_sum tris u v
edge_sum-distinct tris u v =
    same_sums _ _ (IsSum-filtered has_distinct_corners u v) (IsSum-edges u v) (λ t. one t) tris
  where
    one : (t : Tri) → edge_sum (cond (has_distinct_corners t) (t ∷ []) []) u v ≡ edge_sum (t ∷ []) u v
    one t =
        elim (cases_Bool (has_distinct_corners t)) [
          | inl distinct ↦ rw distinct
          | inr flat ↦ rw flat (edge_sum-none u v ∙ sym (one-flat t u v flat))
        ]

-- ---- replacing a point that isn't on the rim

-- no sum at it, either way
edge_sum-inside : (tris : List Tri) (a v : Pt) → (OnRim tris a → ⊥) → edge_sum tris a v ≡ pos 0
unfolding is_rim_edge
edge_sum-inside tris a v inside =
    elim (cases_Bool (int_eq (edge_sum tris a v) (pos 0))) [
      | inl cancels ↦ int_eq-from (edge_sum tris a v) (pos 0) cancels
      | inr stays ↦ absurd (inside (v, ap not stays))
    ]

edge_sum-to_inside : (tris : List Tri) (a u : Pt) → (OnRim tris a → ⊥) → edge_sum tris u a ≡ pos 0
edge_sum-to_inside tris a u inside = edge_sum-turned tris a u ∙ ap neg_ℤ (edge_sum-inside tris a u inside)

-- a point that replaces itself changes nothing
map-replaced_itself : (a : Pt) (tris : List Tri) → map (replaced a a) tris ≡ tris
unfolding replaced
map-replaced_itself a [] = refl
map-replaced_itself a (t ∷ tris) = rw (same t, map-replaced_itself a tris)
  where
    stays : (p : Pt) → replaced_point a a p ≡ p
    stays p =
        elim (one_or_two p a) [
          | inl at ↦ replaced_point-at a a p at ∙ sym at
          | inr off ↦ replaced_point-off a a p off
        ]

    same : (t : Tri) → replaced a a t ≡ t
    same t = rw (stays t.a, stays t.b, stays t.c)

edge_sum-replaced_inside : (a b u v : Pt) (tris : List Tri) → (OnRim tris a → ⊥) →
    edge_sum (map (replaced a b) tris) u v ≡ edge_sum tris u v
edge_sum-replaced_inside a b u v tris inside =
    elim (one_or_two a b) [
      | inl same ↦ rw (sym same, map-replaced_itself a tris)
      | inr apart ↦
          elim (one_or_two u a) [
            | inl u_at_a ↦
                rw (u_at_a, edge_sum-from_replaced a b v tris apart, edge_sum-inside tris a v inside)
            | inr u_off_a ↦
                elim (one_or_two v a) [
                  | inl v_at_a ↦
                      rw (v_at_a, edge_sum-to_replaced a b u tris apart, edge_sum-to_inside tris a u inside)
                  | inr v_off_a ↦ at_others a b u v tris inside apart u_off_a v_off_a
                ]
          ]
    ]
  where
    at_others : (a b u v : Pt) (tris : List Tri) → (OnRim tris a → ⊥) → a ≢ b → u ≢ a → v ≢ a →
        edge_sum (map (replaced a b) tris) u v ≡ edge_sum tris u v
    at_others a b u v tris inside apart u_off_a v_off_a =
        elim (one_or_two u b) [
          | inl u_at_b ↦
              elim (one_or_two v b) [
                | inl v_at_b ↦
                    rw (u_at_b, v_at_b, edge_sum-same (map (replaced a b) tris) b, edge_sum-same tris b)
                | inr v_off_b ↦
                    rw (u_at_b, edge_sum-from_target a b v tris apart v_off_a v_off_b, edge_sum-inside tris a v inside)
                    (omega (arith, ints))
              ]
          | inr u_off_b ↦
              elim (one_or_two v b) [
                | inl v_at_b ↦
                    rw (v_at_b, edge_sum-to_target a b u tris apart u_off_a u_off_b, edge_sum-to_inside tris a u inside)
                    (omega (arith, ints))
                | inr v_off_b ↦ edge_sum-elsewhere a b u v tris u_off_a u_off_b v_off_a v_off_b
              ]
        ]

pub edge_sum-collapsed : (a b u v : Pt) (tris : List Tri) → (OnRim tris a → ⊥) →
    edge_sum (collapsed a b tris) u v ≡ edge_sum tris u v
unfolding collapsed
edge_sum-collapsed a b u v tris inside =
    edge_sum-distinct (map (replaced a b) tris) u v ∙ edge_sum-replaced_inside a b u v tris inside

pub is_rim_edge-collapsed : (a b u v : Pt) (tris : List Tri) → (OnRim tris a → ⊥) →
    is_rim_edge (collapsed a b tris) u v ≡ is_rim_edge tris u v
unfolding is_rim_edge
is_rim_edge-collapsed a b u v tris inside = rw (edge_sum-collapsed a b u v tris inside)

pub OnRim-collapsed : (a b p : Pt) (tris : List Tri) → (OnRim tris a → ⊥) →
    OnRim (collapsed a b tris) p ↔ OnRim tris p
OnRim-collapsed a b p tris inside = (
  λ on. (on.0, sym (is_rim_edge-collapsed a b p on.0 tris inside) ∙ on.1),
  λ on. (on.0, is_rim_edge-collapsed a b p on.0 tris inside ∙ on.1),
)
