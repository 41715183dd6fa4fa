-- A page without a break is what the page that it reads as spells.
use Rattle.std.proofs.Common.{◌≡◌, ℕ, zero, suc, ◌+◌, ◌-◌, ◌*◌, ◌≤◌, Bool, true, false, cond, eqb, None, List, [], ◌∷◌}
use Rattle.std.proofs.Common.{◌++◌, length, replicate, get_or, take, drop, refl, sym, ap, ◌∙◌, arith}
use Rattle.std.specs.List.{flat_map, sum_by}
use Rattle.std.proofs.lemmas.Bool.Decides.{nat_tests}
use Rattle.std.proofs.lemmas.Grind.{flat_map-append, common_steps}
use Rattle.std.proofs.lemmas.List.{length-take-le, length-drop, take-append-drop}
use Rattle.std.proofs.Math.Nat.{mul-suc}
use Rattle.geom_core.specs.declared.limits.TheConstants.{PAGE_BYTES}
use Rattle.dag_core.specs.declared.heads.Heads.{Heads}
use Rattle.dag_core.specs.Members.{cluster_at}
use Rattle.dag_core.specs.Pages.{clusters_on, tris_on}
use Rattle.page_codec.specs.Numbers.{records, IsBytes}
use Rattle.page_codec.specs.Records.{triangle_of, triangle_bytes}
use Rattle.page_codec.specs.Breaks.{unless, breaks_in, broken_at, triangle_rules, tail_breaks, page_breaks}
use Rattle.page_codec.specs.Breaks.{first_page_break}
use Rattle.page_codec.specs.Reading.{triangles_of, clusters_of, page_of}
use Rattle.page_codec.specs.Spelling.{cluster_bytes, clusters_bytes, tail_bytes, page_bytes_in, page_bytes}
use Rattle.page_codec.proofs.NumberLists.{drop-drop}
use Rattle.page_codec.proofs.RecordLaws.{spelt-records, nil-left, nil-right}
use Rattle.page_codec.proofs.RecordLists.{none-first}
use Rattle.page_codec.proofs.TriangleLaws.{triangle_bytes-read}

-- records in two pieces
pub records-append : {X : Type 0} (read : List ℕ → X) (size m n : ℕ) (bytes : List ℕ) →
    records read size (m + n) bytes ≡ records read size m bytes ++ records read size n (drop (size * m) bytes)
records-append read size zero n bytes =
    let e : 0 + n ≡ n = omega arith in let z : size * 0 ≡ 0 = omega arith in rw (e, z) refl
records-append read size (suc m) n bytes =
    let e : suc m + n ≡ suc (m + n) = omega arith in
    let s : size * suc m ≡ size + size * m = mul-suc size m ∙ omega arith in
    rw (e, s, ← drop-drop (size * m) size bytes)
    (ap (λ xs. read (take size bytes) ∷ xs) (records-append read size m n (drop size bytes)))

-- clusters that are read one after the other spell the triangles that are read one after the other
pub clusters_bytes-read : (heads : Heads) (cs : List ℕ) (bytes : List ℕ) →
    clusters_bytes (clusters_of heads cs bytes) ≡ cluster_bytes
    (triangles_of (sum_by (λ c. (cluster_at heads c).tris) cs) bytes)
unfolding cluster_bytes triangles_of
clusters_bytes-read heads [] bytes = refl
clusters_bytes-read heads (c ∷ cs) bytes =
    let f : ℕ → ℕ = λ c. (cluster_at heads c).tris in
    let sum : sum_by f (c ∷ cs) ≡ f c + sum_by f cs = grind (arith, common_steps) in
    rw (
      sum,
      records-append triangle_of 40 (f c) (sum_by f cs) bytes,
      flat_map-append triangle_bytes (records triangle_of 40 (f c) bytes)
          (records triangle_of 40 (sum_by f cs) (drop (40 * f c) bytes)),
    )
    (ap (λ xs. flat_map triangle_bytes (records triangle_of 40 (f c) bytes) ++ xs)
    (clusters_bytes-read heads cs (drop (40 * f c) bytes)))

-- a byte that breaks no rule is 0
zero-byte : (b offset : ℕ) (t : Bool) → eqb b 0 ≡ t → broken_at offset (cond t [] (4 ∷ [])) ≡ [] → b ≡ 0
zero-byte b offset true test none = grind (arith, nat_tests)
zero-byte b offset false test none = cc

-- a tail without a break is all zeros
pub zero-tail : (offset : ℕ) (bytes : List ℕ) → tail_breaks offset bytes ≡ [] → bytes ≡ replicate (length bytes) 0
unfolding tail_breaks
zero-tail offset [] none = refl
zero-tail offset (b ∷ bytes) none =
    let rest = breaks_in (λ byte. unless (eqb (get_or byte 0 0) 0) 4) 1 (offset + 1) (length bytes) bytes in
    let zero : b ≡ 0 =
    zero-byte b offset (eqb b 0) refl (nil-left (broken_at offset (cond (eqb b 0) [] (4 ∷ []))) rest none) in
    let after : bytes ≡ replicate (length bytes) 0 =
    zero-tail (offset + 1) bytes (nil-right (broken_at offset (cond (eqb b 0) [] (4 ∷ []))) rest none) in
    ap (λ x. x ∷ bytes) zero ∙ ap (λ xs. 0 ∷ xs) after

-- n triangles without a break, then a tail without one, are what they read as
pub page_bytes_in-read : (heads : Heads) (p len : ℕ) (bytes : List ℕ) → length bytes ≡ len → IsBytes bytes →
    40 * tris_on heads p ≤ len
    → page_breaks heads.sources (tris_on heads p) bytes ≡ [] → page_bytes_in len (page_of heads p bytes) ≡ bytes
unfolding page_of page_breaks tris_on tail_bytes triangles_of cluster_bytes
page_bytes_in-read heads p len bytes size are room none =
    let n = tris_on heads p in
    let triangles = breaks_in (λ b. triangle_rules heads.sources (triangle_of b)) 40 0 n bytes in
    let tail = tail_breaks (40 * n) (drop (40 * n) bytes) in
    let body : clusters_bytes (clusters_of heads (clusters_on heads p) bytes) ≡ take (40 * n) bytes =
    clusters_bytes-read heads (clusters_on heads p) bytes
    ∙ spelt-records triangle_of triangle_bytes 40 (λ b. triangle_rules heads.sources (triangle_of b))
    (λ b len are good. triangle_bytes-read b len are)
    n 0 bytes (omega arith) are (nil-left triangles tail none) in
    let zeros = zero-tail (40 * n) (drop (40 * n) bytes) (nil-right triangles tail none) in
    let size_body : length (take (40 * n) bytes) ≡ 40 * n = length-take-le (40 * n) bytes (omega arith) in
    let size_tail : len - 40 * n ≡ length (drop (40 * n) bytes) = omega (arith, length-drop (40 * n) bytes) in
    rw (body, size_body, size_tail, ← zeros) (take-append-drop (40 * n) bytes)

pub page_bytes-read : (heads : Heads) (p : ℕ) (bytes : List ℕ) → length bytes ≡ PAGE_BYTES → IsBytes bytes →
    tris_on heads p ≤ 1638
    → first_page_break heads p bytes ≡ None → page_bytes (page_of heads p bytes) ≡ bytes
unfolding page_bytes
page_bytes-read heads p bytes size are most found =
    page_bytes_in-read heads p PAGE_BYTES bytes size are (omega arith)
    (none-first (page_breaks heads.sources (tris_on heads p) bytes) (sym found))
