-- Shared edges of edge uses that are in order: two items have one if they have uses of one edge.
use Rattle.std.proofs.Common.{◌≡◌, ℕ, zero, suc, ◌+◌, ◌-◌, ◌<◌, ◌≤◌, true, false, not, ◌&&◌, ◌==◌, List, [], ◌∷◌, ◌++◌}
use Rattle.std.proofs.Common.{length, get_or, drop, map, All, sym, ap, ◌∙◌, subst, arith, ◌⊎◌, inl, inr, length-take}
use Rattle.std.proofs.Common.{length-drop, add-zero, add-one, filter}
use Rattle.std.specs.Cmp.{both_ways}
use Rattle.std.specs.List.{list_any, range_with_len}
use Rattle.std.proofs.lemmas.Bool.{and_parts, and_from, not_from_true, cases_lt, false≢true, eqb-true, eq-eqb}
use Rattle.std.proofs.lemmas.Bool.{not-false, or_parts, or_from, ne_eqb}
use Rattle.std.proofs.lemmas.List.{length-map, get_or-take, get_or-drop, get_or-map, get_or_default}
use Rattle.std.proofs.lemmas.List.Folds.{Any-from_list_any, list_any_at}
use Rattle.partition.specs.declared.edge_uses.EdgeUse.{EdgeUse}
use Rattle.partition.specs.Growing.{is_in}
use Rattle.partition.specs.Internal.SharedEdges.{AreStarts, IsSharedEdge, are_adjacent, shared_edge_at, shared_edges_of}
use Rattle.partition.specs.Internal.EdgeUses.{AreInOrder, IsUseBelow, begins_edge, edge_starts, are_adjacent_in, no_use}
use Rattle.partition.specs.Internal.EdgeUses.{on_one_edge, use_at}
use Rattle.partition.proofs.SharedEdgeLists.{length-shared_edges_of, get_or-shared_edges_of}
use Rattle.partition.proofs.SameEdges.{edges_from_one, on_one_edge-from}
use Rattle.partition.proofs.Segments.{AreSegments, SegmentAt, segments_of, segment_at}

abbrev pub ranks_in : List EdgeUse → List ℕ
ranks_in uses = map (λ (s : EdgeUse). s.rank) uses

-- starts that split the edge uses where edges begin
abbrev Cuts : List EdgeUse → List ℕ → Type 0
Cuts uses starts = AreSegments (begins_edge uses) 0 (length uses) starts

pub cuts : (uses : List EdgeUse) → Cuts uses (edge_starts uses)
cuts uses =
    let e : 0 + length uses ≡ length uses = omega arith in
    let P : ℕ → Type 0 =
    λ n. AreSegments (begins_edge uses) 0 n (filter (begins_edge uses)
    (range_with_len 0 (length uses)) ++ n ∷ []) in
    subst P e (segments_of (begins_edge uses) 0 (length uses))

-- starts rise, and end at the length
rises_to : (uses : List EdgeUse) (starts : List ℕ) → Cuts uses starts → (k n : ℕ) → k + n < length starts →
    get_or starts k 0 ≤ get_or starts (k + n) 0
rises_to uses starts s k zero h = omega (arith, ap (λ m. get_or starts m 0) (add-zero k))
rises_to uses starts s k (suc n) h =
    let e : k + suc n ≡ suc (k + n) = omega arith in
    omega (
      arith,
      ap (λ m. get_or starts m 0) e,
      s.rises (k + n) (omega arith),
      rises_to uses starts s k n (omega arith),
    )

start_rises : (uses : List EdgeUse) (starts : List ℕ) → Cuts uses starts → (k j : ℕ) → k ≤ j → j < length starts →
    get_or starts k 0 ≤ get_or starts j 0
start_rises uses starts s k j h i =
    let e : k + (j - k) ≡ j = omega arith in
    omega (arith, ap (λ m. get_or starts m 0) e, rises_to uses starts s k (j - k) (omega arith))

start_within : (uses : List EdgeUse) (starts : List ℕ) → Cuts uses starts → (k : ℕ) → k < length starts →
    get_or starts k 0 ≤ length uses
start_within uses starts s k h =
    omega (arith, s.ends, start_rises uses starts s k (length starts - 1) (omega arith) (omega arith))

pub are_starts : (uses : List EdgeUse) (starts : List ℕ) → Cuts uses starts → AreStarts (ranks_in uses) starts
are_starts uses starts s = record {
  ascend =
      λ i j d h k. omega (
        arith,
        get_or_default starts i d 0 (omega arith),
        get_or_default starts j d 0 k,
        start_rises uses starts s i j h k,
      );
  within =
      λ k d h. omega (
        arith,
        get_or_default starts k d 0 h,
        start_within uses starts s k h,
        length-map uses (λ (s : EdgeUse). s.rank),
      );
}

-- ---- what a shared edge has

-- position m of shared edge k is the edge use at start k + m
pub record ReadsAt (uses : List EdgeUse) (starts : List ℕ) (k m : ℕ) (rank : ℕ) : Type 0 where
  pub before_end : get_or starts k 0 + m < get_or starts (suc k) 0
  pub is : rank ≡ (use_at uses (get_or starts k 0 + m)).rank

length-edge : (uses : List EdgeUse) (starts : List ℕ) → Cuts uses starts → (k : ℕ) → suc k < length starts →
    length (shared_edge_at (ranks_in uses) starts k) ≡ get_or starts (suc k) 0 - get_or starts k 0
length-edge uses starts s k h =
    let e : get_or starts (k + 1) 0 ≡ get_or starts (suc k) 0 = ap (λ m. get_or starts m 0) (add-one k) in
    let l = length-map uses (λ (s : EdgeUse). s.rank) in
    omega (
      arith,
      length-take (get_or starts (k + 1) 0 - get_or starts k 0) (drop (get_or starts k 0) (ranks_in uses)),
      length-drop (get_or starts k 0) (ranks_in uses),
      l,
      start_within uses starts s (suc k) h,
    )

reads_at : (uses : List EdgeUse) (starts : List ℕ) → Cuts uses starts → (k m d : ℕ) → suc k < length starts →
    m < length (shared_edge_at (ranks_in uses) starts k) →
    ReadsAt uses starts k m (get_or (shared_edge_at (ranks_in uses) starts k) m d)
reads_at uses starts s k m d h i =
    let e : get_or starts (k + 1) 0 ≡ get_or starts (suc k) 0 = ap (λ m. get_or starts m 0) (add-one k) in
    let l = length-edge uses starts s k h in
    let within = start_within uses starts s (suc k) h in
    let m_below : m < get_or starts (k + 1) 0 - get_or starts k 0 = omega arith in
    record {
      before_end = omega arith;
      is =
          get_or-take (get_or starts (k + 1) 0 - get_or starts k 0)
          (drop (get_or starts k 0) (ranks_in uses)) m d m_below
          ∙ (get_or-drop (get_or starts k 0) (ranks_in uses) m d
          ∙ get_or-map (λ (s : EdgeUse). s.rank) uses (get_or starts k 0 + m) no_use d (omega arith));
    }

-- all edge uses of a shared edge lie on the edge that begins it
not_begun : (uses : List EdgeUse) (p : ℕ) → begins_edge uses (suc p) ≡ false →
    (use_at uses (suc p)).edge ≡ (use_at uses p).edge
not_begun uses p e =
    let same : suc p - 1 ≡ p = omega arith in
    let h = or_parts (suc p == 0) (not (on_one_edge (use_at uses (suc p - 1)) (use_at uses (suc p)))) e in
    sym (edges_from_one (use_at uses (suc p - 1)) (use_at uses (suc p))
    (not-false (on_one_edge (use_at uses (suc p - 1)) (use_at uses (suc p))) h.1))
    ∙ ap (λ q. (use_at uses q).edge) same

begun_apart : (uses : List EdgeUse) (p : ℕ) → begins_edge uses (suc p) ≡ true →
    (use_at uses p).edge ≡ (use_at uses (suc p)).edge → ⊥
begun_apart uses p e same_edge =
    let same : suc p - 1 ≡ p = omega arith in
    let one =
    on_one_edge-from (use_at uses (suc p - 1)) (use_at uses (suc p))
    (ap (λ q. (use_at uses q).edge) same ∙ same_edge) in
    let not_zero : (suc p == 0) ≡ false = ne_eqb (suc p) 0 (λ z. absurd (omega arith)) in
    false≢true (sym (or_from (suc p == 0) (not (on_one_edge (use_at uses (suc p - 1)) (use_at uses (suc p)))) not_zero
    (not_from_true (on_one_edge (use_at uses (suc p - 1)) (use_at uses (suc p))) one)) ∙ e)

start_zero : (uses : List EdgeUse) (starts : List ℕ) → Cuts uses starts → get_or starts 0 0 ≡ 0
start_zero uses starts s = by_place (cases_lt 0 (get_or starts 0 0))
  where
    by_place : (0 < get_or starts 0 0) ⊎ (get_or starts 0 0 ≤ 0) → get_or starts 0 0 ≡ 0
    by_place (inl h) = absurd (false≢true (sym (s.before 0 (omega arith) h)))
    by_place (inr h) = omega arith

edge_from_start : (uses : List EdgeUse) (starts : List ℕ) → Cuts uses starts → (k m : ℕ) → suc k < length starts →
    get_or starts k 0 + m < get_or starts (suc k) 0 →
    (use_at uses (get_or starts k 0 + m)).edge ≡ (use_at uses (get_or starts k 0)).edge
edge_from_start uses starts s k zero h i = ap (λ p. (use_at uses p).edge) (add-zero (get_or starts k 0))
edge_from_start uses starts s k (suc m) h i =
    let e : get_or starts k 0 + suc m ≡ suc (get_or starts k 0 + m) = omega arith in
    ap (λ p. (use_at uses p).edge) e
    ∙ (not_begun uses (get_or starts k 0 + m) (s.between k (suc (get_or starts k 0 + m)) h (omega arith) (omega arith))
    ∙ edge_from_start uses starts s k m h (omega arith))

-- ---- items of one shared edge have uses of one edge, and the other way round

-- where an item of a shared edge is among the edge uses
record IsOnEdge (uses : List EdgeUse) (starts : List ℕ) (k i : ℕ) : Type 0 where
  pub place : ℕ
  pub to : place < get_or starts (suc k) 0
  pub rank : (use_at uses place).rank ≡ i
  pub edge : (use_at uses place).edge ≡ (use_at uses (get_or starts k 0)).edge

found_on_edge : (uses : List EdgeUse) (starts : List ℕ) → Cuts uses starts → (k i : ℕ) → suc k < length starts →
    is_in (shared_edge_at (ranks_in uses) starts k) i ≡ true →
    IsOnEdge uses starts k i
found_on_edge uses starts s k i h e =
    let w = Any-from_list_any (λ j. j == i) (shared_edge_at (ranks_in uses) starts k) e in
    let r = reads_at uses starts s k w.0 w.1 h w.2 in
    record {
      place = get_or starts k 0 + w.0;
      to = r.before_end;
      rank = sym r.is ∙ (w.3 ∙ eqb-true w.1 i w.4);
      edge = edge_from_start uses starts s k w.0 h r.before_end;
    }

found_at : (uses : List EdgeUse) (i j a b : ℕ) → a < length uses → b < length uses → (use_at uses a).rank ≡ i →
    (use_at uses b).rank ≡ j →
    (use_at uses a).edge ≡ (use_at uses b).edge → are_adjacent_in uses i j ≡ true
found_at uses i j a b ha hb ra rb e =
    list_any_at (λ (s : EdgeUse). s.rank == i && list_any (λ (t : EdgeUse). t.rank == j && on_one_edge s t) uses) uses a
    no_use ha
    (and_from ((use_at uses a).rank == i) (list_any
    (λ (t : EdgeUse). t.rank == j && on_one_edge (use_at uses a) t) uses)
    (eq-eqb (use_at uses a).rank i ra)
    (list_any_at (λ (t : EdgeUse). t.rank == j && on_one_edge (use_at uses a) t) uses b no_use hb
    (and_from ((use_at uses b).rank == j) (on_one_edge (use_at uses a) (use_at uses b))
    (eq-eqb (use_at uses b).rank j rb)
    (on_one_edge-from (use_at uses a) (use_at uses b) e))))

are_adjacent_in-from_are_adjacent : (uses : List EdgeUse) (starts : List ℕ) → Cuts uses starts → (i j : ℕ) →
    are_adjacent (shared_edges_of (ranks_in uses) starts) i j ≡ true → are_adjacent_in uses i j ≡ true
are_adjacent_in-from_are_adjacent uses starts s i j e =
    let shared : List (List ℕ) = shared_edges_of (ranks_in uses) starts in
    let w = Any-from_list_any (λ edge. is_in edge i && is_in edge j) shared e in
    let inside : suc w.0 < length starts = omega (arith, length-shared_edges_of (ranks_in uses) starts) in
    let is : w.1 ≡ shared_edge_at (ranks_in uses) starts w.0 =
    sym w.3 ∙ (get_or_default shared w.0 w.1 [] w.2 ∙
    get_or-shared_edges_of (ranks_in uses) starts w.0 (omega arith)) in
    let both = and_parts (is_in w.1 i) (is_in w.1 j) w.4 in
    let a = found_on_edge uses starts s w.0 i inside (ap (λ edge. is_in edge i) (sym is) ∙ both.0) in
    let b = found_on_edge uses starts s w.0 j inside (ap (λ edge. is_in edge j) (sym is) ∙ both.1) in
    let within = start_within uses starts s (suc w.0) inside in
    found_at uses i j a.place b.place (omega (arith, a.to)) (omega (arith, b.to)) a.rank b.rank (a.edge ∙ sym b.edge)

-- ---- uses of one edge are in one shared edge

record OnOneEdge (starts : List ℕ) (a b : ℕ) : Type 0 where
  pub edge : ℕ
  pub inside : suc edge < length starts
  pub from : get_or starts edge 0 ≤ a
  pub to : b < get_or starts (suc edge) 0

begins_beyond : (uses : List EdgeUse) (starts : List ℕ) → Cuts uses starts → (b k q : ℕ) → b < length uses →
    suc k < length starts →
    get_or starts (suc k) 0 ≡ suc q → suc q ≤ b → (suc (suc k) < length starts) ⊎ (length starts ≤ suc (suc k)) →
    begins_edge uses (suc q) ≡ true
begins_beyond uses starts s b k q hb inside e m (inl h) =
    let P : ℕ → Type 0 = λ p. begins_edge uses p ≡ true in subst P e (s.begins (suc k) h)
begins_beyond uses starts s b k q hb inside e m (inr h) =
    let last : length starts - 1 ≡ suc k = omega arith in
    absurd (omega (arith, s.ends, ap (λ m. get_or starts m 0) last))

not_beyond : (uses : List EdgeUse) (starts : List ℕ) → Cuts uses starts → AreInOrder uses → (a b k q : ℕ) →
    b < length uses →
    on_one_edge (use_at uses a) (use_at uses b) ≡ true → suc k < length starts → get_or starts (suc k) 0 ≡ suc q →
    a ≤ q → suc q ≤ b → ⊥
not_beyond uses starts s o a b k q hb one inside e l m =
    let begins = begins_beyond uses starts s b k q hb inside e m (cases_lt (suc (suc k)) (length starts)) in
    let before = edges_from_one (use_at uses a) (use_at uses q) (o.grouped a q b l (omega arith) hb one) in
    let behind = edges_from_one (use_at uses a) (use_at uses (suc q)) (o.grouped a (suc q) b (omega arith) m hb one) in
    begun_apart uses q begins (sym before ∙ behind)

on_one_shared_edge : (uses : List EdgeUse) (starts : List ℕ) → Cuts uses starts → AreInOrder uses → (a b : ℕ) → a ≤ b →
    b < length uses →
    on_one_edge (use_at uses a) (use_at uses b) ≡ true → OnOneEdge starts a b
on_one_shared_edge uses starts s o a b h hb one =
    let r = segment_at starts a (omega (arith, start_zero uses starts s)) (omega (arith, s.ends)) in
    record {
      edge = r.number;
      inside = r.inside;
      from = r.from;
      to = to r (cases_lt b (get_or starts (suc r.number) 0));
    }
  where
    to : (r : SegmentAt starts a) → (b < get_or starts (suc r.number) 0) ⊎ (get_or starts (suc r.number) 0 ≤ b) →
        b < get_or starts (suc r.number) 0
    to r (inl l) = l
    to r (inr l) =
        let e : get_or starts (suc r.number) 0 ≡ suc (get_or starts (suc r.number) 0 - 1) = omega (arith, r.to) in
        absurd (not_beyond uses starts s o a b r.number (get_or starts (suc r.number) 0 - 1) hb one r.inside e
        (omega (arith, r.to)) (omega arith))

is_on_edge : (uses : List EdgeUse) (starts : List ℕ) → Cuts uses starts → (k a i : ℕ) → suc k < length starts →
    get_or starts k 0 ≤ a → a < get_or starts (suc k) 0 →
    (use_at uses a).rank ≡ i → is_in (shared_edge_at (ranks_in uses) starts k) i ≡ true
is_on_edge uses starts s k a i inside h l e =
    let there : a - get_or starts k 0 < length (shared_edge_at (ranks_in uses) starts k) =
    omega (arith, length-edge uses starts s k inside) in
    let r = reads_at uses starts s k (a - get_or starts k 0) 0 inside there in
    let same : get_or starts k 0 + (a - get_or starts k 0) ≡ a = omega arith in
    list_any_at (λ j. j == i) (shared_edge_at (ranks_in uses) starts k) (a - get_or starts k 0) 0 there
    (eq-eqb (get_or (shared_edge_at (ranks_in uses) starts k) (a - get_or starts k 0) 0) i
    (r.is ∙ (ap (λ p. (use_at uses p).rank) same ∙ e)))

adjacent_on_edge : (uses : List EdgeUse) (starts : List ℕ) → Cuts uses starts → (i j k : ℕ) → suc k < length starts →
    is_in (shared_edge_at (ranks_in uses) starts k) i ≡ true →
    is_in (shared_edge_at (ranks_in uses) starts k) j ≡ true →
    are_adjacent (shared_edges_of (ranks_in uses) starts) i j ≡ true
adjacent_on_edge uses starts s i j k inside e f =
    let shared : List (List ℕ) = shared_edges_of (ranks_in uses) starts in
    let P : List ℕ → Type 0 = λ edge. (is_in edge i && is_in edge j) ≡ true in
    list_any_at (λ edge. is_in edge i && is_in edge j) shared k []
    (omega (arith, length-shared_edges_of (ranks_in uses) starts))
    (subst P (sym (get_or-shared_edges_of (ranks_in uses) starts k (omega arith)))
    (and_from (is_in (shared_edge_at (ranks_in uses) starts k) i)
    (is_in (shared_edge_at (ranks_in uses) starts k) j) e f))

adjacent_from_places : (uses : List EdgeUse) (starts : List ℕ) → Cuts uses starts → AreInOrder uses → (i j a b : ℕ) →
    a < length uses → b < length uses →
    (use_at uses a).rank ≡ i → (use_at uses b).rank ≡ j → on_one_edge (use_at uses a) (use_at uses b) ≡ true →
    (a ≤ b) ⊎ (b < a) →
    are_adjacent (shared_edges_of (ranks_in uses) starts) i j ≡ true
adjacent_from_places uses starts s o i j a b ha hb ra rb one (inl h) =
    let r = on_one_shared_edge uses starts s o a b h hb one in
    adjacent_on_edge uses starts s i j r.edge r.inside
    (is_on_edge uses starts s r.edge a i r.inside r.from (omega (arith, r.to)) ra)
    (is_on_edge uses starts s r.edge b j r.inside (omega (arith, r.from)) r.to rb)
adjacent_from_places uses starts s o i j a b ha hb ra rb one (inr h) =
    let back =
    on_one_edge-from (use_at uses b) (use_at uses a) (sym (edges_from_one (use_at uses a) (use_at uses b) one)) in
    let r = on_one_shared_edge uses starts s o b a (omega arith) ha back in
    adjacent_on_edge uses starts s i j r.edge r.inside
    (is_on_edge uses starts s r.edge a i r.inside (omega (arith, r.from)) r.to ra)
    (is_on_edge uses starts s r.edge b j r.inside r.from (omega (arith, r.to)) rb)

le_or_lt : (a b : ℕ) → (a < b + 1) ⊎ (b + 1 ≤ a) → (a ≤ b) ⊎ (b < a)
le_or_lt a b (inl h) = inl (omega arith)
le_or_lt a b (inr h) = inr (omega arith)

are_adjacent-from_are_adjacent_in : (uses : List EdgeUse) (starts : List ℕ) → Cuts uses starts → AreInOrder uses →
    (i j : ℕ) → are_adjacent_in uses i j ≡ true → are_adjacent (shared_edges_of (ranks_in uses) starts) i j ≡ true
are_adjacent-from_are_adjacent_in uses starts s o i j e =
    let w =
    Any-from_list_any (λ (s : EdgeUse). s.rank == i && list_any
    (λ (t : EdgeUse). t.rank == j && on_one_edge s t) uses) uses e in
    let first = and_parts (w.1.rank == i) (list_any (λ (t : EdgeUse). t.rank == j && on_one_edge w.1 t) uses) w.4 in
    let v = Any-from_list_any (λ (t : EdgeUse). t.rank == j && on_one_edge w.1 t) uses first.1 in
    let second = and_parts (v.1.rank == j) (on_one_edge w.1 v.1) v.4 in
    let a : use_at uses w.0 ≡ w.1 = get_or_default uses w.0 no_use w.1 w.2 ∙ w.3 in
    let b : use_at uses v.0 ≡ v.1 = get_or_default uses v.0 no_use v.1 v.2 ∙ v.3 in
    let rank_of : EdgeUse → ℕ = λ s. s.rank in
    adjacent_from_places uses starts s o i j w.0 v.0 w.2 v.2
    (ap rank_of a ∙ eqb-true w.1.rank i first.0) (ap rank_of b ∙ eqb-true v.1.rank j second.0)
    (ap (λ s. on_one_edge s (use_at uses v.0)) a ∙ (ap (λ t. on_one_edge w.1 t) b ∙ second.1))
    (le_or_lt w.0 v.0 (cases_lt w.0 (v.0 + 1)))

pub adjacent_both_ways : (uses : List EdgeUse) (starts : List ℕ) → Cuts uses starts → AreInOrder uses → (i j : ℕ) →
    are_adjacent (shared_edges_of (ranks_in uses) starts) i j ≡ are_adjacent_in uses i j
adjacent_both_ways uses starts s o i j =
    both_ways (are_adjacent (shared_edges_of (ranks_in uses) starts) i j) (are_adjacent_in uses i j)
    (are_adjacent_in-from_are_adjacent uses starts s i j) (are_adjacent-from_are_adjacent_in uses starts s o i j)

is_shared_edge : (uses : List EdgeUse) (starts : List ℕ) (n : ℕ) → Cuts uses starts → AreInOrder uses →
    All (IsUseBelow n) uses → (k : ℕ) → suc k < length starts →
    IsSharedEdge n (shared_edge_at (ranks_in uses) starts k)
is_shared_edge uses starts n s o below k inside =
    let within = start_within uses starts s (suc k) inside in
    record {
      ascends = λ i j d h l.
          let a = reads_at uses starts s k i d inside (omega arith) in
          let b = reads_at uses starts s k j d inside l in
          let first = get_or starts k 0 in
          let one = on_one_edge-from (use_at uses (first + i)) (use_at uses (first + j))
          (edge_from_start uses starts s k i inside a.before_end ∙
          sym (edge_from_start uses starts s k j inside b.before_end)) in
          omega (arith, a.is, b.is, o.ascend (first + i) (first + j) (omega arith) (omega (arith, b.before_end)) one);
      below = λ m d l.
          let a = reads_at uses starts s k m d inside l in
          omega (arith, a.is, (below (get_or starts k 0 + m) no_use (omega (arith, a.before_end))).rank);
    }

pub are_shared_edges : (uses : List EdgeUse) (starts : List ℕ) (n : ℕ) → Cuts uses starts → AreInOrder uses →
    All (IsUseBelow n) uses → All (IsSharedEdge n) (shared_edges_of (ranks_in uses) starts)
are_shared_edges uses starts n s o below k d h =
    let shared : List (List ℕ) = shared_edges_of (ranks_in uses) starts in
    let inside : suc k < length starts = omega (arith, length-shared_edges_of (ranks_in uses) starts) in
    let is : get_or shared k d ≡ shared_edge_at (ranks_in uses) starts k =
    get_or_default shared k d [] h ∙ get_or-shared_edges_of (ranks_in uses) starts k (omega arith) in
    subst (IsSharedEdge n) (sym is) (is_shared_edge uses starts n s o below k inside)
