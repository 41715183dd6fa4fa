-- Laid-out heads keep the rule of pages: each page has some triangles and not too many, terminal groups stand on root
-- pages, and no page depends on a later one.
use Rattle.std.proofs.Common.{◌≡◌, ℕ, zero, suc, ◌+◌, ◌-◌, ◌<◌, ◌≤◌, Bool, true, false, not, cond, eqb, leb, List, []}
use Rattle.std.proofs.Common.{◌++◌, length, filter, refl, sym, ap, ◌∙◌, inl, inr, arith, add-one, zero-add}
use Rattle.std.specs.List.{range_with_len, sum_by}
use Rattle.std.proofs.lemmas.Bool.{cases_lt, false≢true}
use Rattle.std.proofs.lemmas.Bool.Decides.{nat_tests}
use Rattle.std.proofs.lemmas.List.Elements.{filter-append}
use Rattle.std.proofs.lemmas.List.Sums.{sum_by-append}
use Rattle.dag_core.specs.declared.groups.Group.{Group}
use Rattle.dag_core.specs.declared.heads.Heads.{Heads}
use Rattle.dag_core.specs.Members.{group_at, cluster_at}
use Rattle.dag_core.specs.Pages.{page_of_cluster, tris_on}
use Rattle.dag_core.specs.Ranges.{IsInRange}
use Rattle.dag_core.specs.Rules.{KeepsRulesBelow, members_before}
use Rattle.dag_core.proofs.MemberLaws.{AreMembersInTurn, in_turn, first_is, home_is, members_none, members_more}
use Rattle.dag_core.proofs.MemberLaws.{members_are_all}
use Rattle.page_codec.proofs.Homes.{range-append, filter-range}
use Rattle.page_file.specs.declared.fillings.Filling.{Filling}
use Rattle.page_file.specs.PagesRule.{place, group_size, is_terminal, root_filling, root_count, other_filling}
use Rattle.page_file.specs.PagesRule.{page_count, page_of_group, laid_heads}
use Rattle.page_file.proofs.GroupSizes.{fewer, group_size-bounds}
use Rattle.page_file.proofs.LaidHeads.{laid_at, laid_count, laid_in_turn, same_size}
use Rattle.page_file.proofs.NextFit.{IsPart, placed_if, root_part, other_part, root_filling-more, other_filling-more}
use Rattle.page_file.proofs.PageLoads.{IsLoaded, ArePlaced, fitted, on_new, load, loaded, part-rises-to, share}

-- ---- the groups' pages

placed-from : (start n size : ℕ) (filling : Filling) → IsPart start n filling → 1 ≤ size →
    start + 1 ≤ (place filling size).begun
unfolding place
placed-from start n size filling known some = by (leb size filling.room) refl
  where
    by : (b : Bool) → leb size filling.room ≡ b → start + 1 ≤ (cond b (fitted filling size) (on_new filling size)).begun
    by true is = elim (cases_lt start filling.begun) [
      | inl below ↦ omega (arith, below)
      | inr from ↦
          let least = known.from in
          let none = known.none (omega (arith, from, least)) in
          absurd (let room : size ≤ filling.room = grind (arith, nat_tests) in omega (arith, room, none, some))
    ]
    by false is = omega (arith, known.from)

root-page : (heads : Heads) (g : ℕ) → is_terminal heads g ≡ true →
    page_of_group heads g ≡ (root_filling heads (g + 1)).begun - 1
unfolding page_of_group
root-page heads g terminal = rw terminal refl

other-page : (heads : Heads) (g : ℕ) → is_terminal heads g ≡ false →
    page_of_group heads g ≡ (other_filling heads (g + 1)).begun - 1
unfolding page_of_group
other-page heads g terminal = rw terminal refl

root-begun : (heads : Heads) (g : ℕ) → is_terminal heads g ≡ true → 1 ≤ group_size heads g →
    1 ≤ (root_filling heads (g + 1)).begun
root-begun heads g terminal some =
    let from = placed-from 0 g (group_size heads g) (root_filling heads g) (root_part heads g) some in
    let more =
    ap (λ (f : Filling). f.begun) (root_filling-more heads g ∙
    ap (λ b. placed_if b (group_size heads g) (root_filling heads g)) terminal) in
    omega (arith, from, more)

other-begun : (heads : Heads) (g : ℕ) → is_terminal heads g ≡ false → 1 ≤ group_size heads g →
    root_count heads + 1 ≤ (other_filling heads (g + 1)).begun
other-begun heads g terminal some =
    let from =
    placed-from (root_count heads) g (group_size heads g) (other_filling heads g) (other_part heads g) some in
    let more =
    ap (λ (f : Filling). f.begun) (other_filling-more heads g ∙
    ap (λ b. placed_if (not b) (group_size heads g) (other_filling heads g)) terminal) in
    omega (arith, from, more)

root-rises : (heads : Heads) (n later : ℕ) → n ≤ later → (root_filling heads n).begun ≤ (root_filling heads later).begun
unfolding root_filling
root-rises heads n later before = part-rises-to 0 (is_terminal heads) heads n later before

other-rises : (heads : Heads) (n later : ℕ) → n ≤ later →
    (other_filling heads n).begun ≤ (other_filling heads later).begun
unfolding other_filling
other-rises heads n later before =
    part-rises-to (root_count heads) (λ g. not (is_terminal heads g)) heads n later before

root_count-is : (heads : Heads) → (root_filling heads (length heads.groups)).begun ≡ root_count heads
unfolding root_count
root_count-is heads = refl

page_count-is : (heads : Heads) → (other_filling heads (length heads.groups)).begun ≡ page_count heads
unfolding page_count
page_count-is heads = refl

-- a terminal group is on a root page
pub root-below : (heads : Heads) (g : ℕ) → g < length heads.groups → is_terminal heads g ≡ true →
    1 ≤ group_size heads g → page_of_group heads g < root_count heads
root-below heads g below terminal some =
    omega (
      arith,
      root-page heads g terminal,
      root-begun heads g terminal some,
      root-rises heads (g + 1) (length heads.groups) (omega (arith, below)),
      root_count-is heads,
    )

-- any other group is on a page after them
pub other-from : (heads : Heads) (g : ℕ) → is_terminal heads g ≡ false → 1 ≤ group_size heads g →
    root_count heads ≤ page_of_group heads g
other-from heads g terminal some = omega (arith, other-page heads g terminal, other-begun heads g terminal some)

pub other-below : (heads : Heads) (g : ℕ) → g < length heads.groups → is_terminal heads g ≡ false →
    1 ≤ group_size heads g → page_of_group heads g < page_count heads
other-below heads g below terminal some =
    omega (
      arith,
      other-page heads g terminal,
      other-begun heads g terminal some,
      other-rises heads (g + 1) (length heads.groups) (omega (arith, below)),
      page_count-is heads,
    )

-- of two groups that are not terminal the greater has no lesser page
pub other-order : (heads : Heads) (g later : ℕ) → g ≤ later → is_terminal heads g ≡ false →
    is_terminal heads later ≡ false → page_of_group heads g ≤ page_of_group heads later
other-order heads g later before here there =
    omega (
      arith,
      other-page heads g here,
      other-page heads later there,
      other-rises heads (g + 1) (later + 1) (omega (arith, before)),
    )

pub roots-first : (heads : Heads) → root_count heads ≤ page_count heads
roots-first heads = let known = other_part heads (length heads.groups) in omega (arith, known.from, page_count-is heads)

pub page-below : (heads : Heads) (g : ℕ) → g < length heads.groups → 1 ≤ group_size heads g →
    page_of_group heads g < page_count heads
page-below heads g below some = by (is_terminal heads g) refl
  where
    by : (b : Bool) → is_terminal heads g ≡ b → page_of_group heads g < page_count heads
    by true is = omega (arith, root-below heads g below is some, roots-first heads)
    by false is = other-below heads g below is some

-- ---- no more pages than groups

place-adds : (filling : Filling) (size : ℕ) → (place filling size).begun ≤ filling.begun + 1
unfolding place
place-adds filling size = by (leb size filling.room)
  where
    by : (b : Bool) → (cond b (fitted filling size) (on_new filling size)).begun ≤ filling.begun + 1
    by true = omega arith
    by false = omega arith

pages-step : (roots others : Filling) (size n most : ℕ) (b : Bool) → roots.begun + others.begun ≤ n + most →
    (placed_if b size roots).begun + (placed_if (not b) size others).begun ≤ (n + 1) + most
pages-step roots others size n most true before = omega (arith, place-adds roots size, before)
pages-step roots others size n most false before = omega (arith, place-adds others size, before)

starts : (heads : Heads) → (root_filling heads 0).begun + (other_filling heads 0).begun ≡ root_count heads
unfolding root_filling other_filling
starts heads = omega arith

pages-so-far : (heads : Heads) (n : ℕ) →
    (root_filling heads n).begun + (other_filling heads n).begun ≤ n + root_count heads
pages-so-far heads zero = omega (arith, starts heads)
pages-so-far heads (suc n) =
    let e : suc n ≡ n + 1 = sym (add-one n) in
    let root = ap (λ (f : Filling). f.begun) (ap (root_filling heads) e ∙ root_filling-more heads n) in
    let other = ap (λ (f : Filling). f.begun) (ap (other_filling heads) e ∙ other_filling-more heads n) in
    omega (
      arith,
      root,
      other,
      pages-step (root_filling heads n) (other_filling heads n) (group_size heads n) n
          (root_count heads) (is_terminal heads n) (pages-so-far heads n),
    )

pub page_count-le : (heads : Heads) → page_count heads ≤ length heads.groups
page_count-le heads = omega (arith, pages-so-far heads (length heads.groups), root_count-is heads, page_count-is heads)

-- ---- the triangles on a page

sum-if : (f : ℕ → ℕ) (xs : List ℕ) (b : Bool) → sum_by f (cond b xs []) ≡ cond b (sum_by f xs) 0
sum-if f xs true = refl
sum-if f xs false = refl

either : (b : Bool) (n : ℕ) → cond b n 0 + cond (not b) n 0 ≡ n
either true n = omega arith
either false n = omega arith

-- those of the first n groups, by the two parts
abbrev both : Heads → ℕ → ℕ → ℕ
both heads p n =
    load (is_terminal heads) (page_of_group heads) (group_size heads) p n + load (λ g. not (is_terminal heads g))
    (page_of_group heads) (group_size heads) p n

both-more : (heads : Heads) (p n : ℕ) → both heads p (suc n) ≡ both heads p n + share (page_of_group heads n)
    (group_size heads n) p
both-more heads p n =
    let all = either (is_terminal heads n) (share (page_of_group heads n) (group_size heads n) p) in omega (arith, all)

-- the triangles of a group's members
members-size : (heads : Heads) (g : ℕ) → AreMembersInTurn (laid_heads heads) → g < length heads.groups →
    sum_by (λ c. (cluster_at (laid_heads heads) c).tris)
    (range_with_len (members_before (laid_heads heads) g) (group_at (laid_heads heads) g).count) ≡ group_size heads g
unfolding group_size
members-size heads g turn below =
    ap (λ first. sum_by (λ c. (cluster_at (laid_heads heads) c).tris)
    (range_with_len first (group_at (laid_heads heads) g).count))
    (sym (first_is (laid_heads heads) g turn (omega (arith, below, laid_count heads))))
    ∙ same_size heads g

-- those of the members of the first g groups that are on page p
tris-up-to : (heads : Heads) → AreMembersInTurn (laid_heads heads) → (p g : ℕ) → g ≤ length heads.groups →
    sum_by (λ c. (cluster_at (laid_heads heads) c).tris)
    (filter (λ c. eqb (page_of_cluster (laid_heads heads) c) p)
    (range_with_len 0 (members_before (laid_heads heads) g))) ≡ both heads p g
tris-up-to heads turn p zero within =
    ap (λ n. sum_by (λ c. (cluster_at (laid_heads heads) c).tris)
    (filter (λ c. eqb (page_of_cluster (laid_heads heads) c) p) (range_with_len 0 n)))
    (members_none (laid_heads heads))
tris-up-to heads turn p (suc g) within =
    let laid = laid_heads heads in
    let f : ℕ → ℕ = λ c. (cluster_at laid c).tris in
    let on : ℕ → Bool = λ c. eqb (page_of_cluster laid c) p in
    let m = members_before laid g in
    let k = (group_at laid g).count in
    let below : g < length heads.groups = omega (arith, within) in
    let inside : g < length laid.groups = omega (arith, below, laid_count heads) in
    let first = first_is laid g turn inside in
    let more : members_before laid (suc g) ≡ m + k =
    ap (members_before laid) (sym (add-one g)) ∙ members_more laid g inside in
    let here : (c : ℕ) → m ≤ c → c < m + k → on c ≡ eqb (page_of_group heads g) p = λ c from to.
    ap (λ h. eqb (group_at laid h).page p) (home_is laid g c turn inside (omega (arith, first, from))
    (omega (arith, first, to)))
    ∙ ap (λ (group : Group). eqb group.page p) (laid_at heads g below) in
    let tail : sum_by f (filter on (range_with_len m k)) ≡ share (page_of_group heads g) (group_size heads g) p =
    ap (sum_by f) (filter-range on (eqb (page_of_group heads g) p) m k here)
    ∙ sum-if f (range_with_len m k) (eqb (page_of_group heads g) p)
    ∙ ap (λ n. cond (eqb (page_of_group heads g) p) n 0) (members-size heads g turn below) in
    let split : sum_by f (filter on (range_with_len 0 (m + k))) ≡ sum_by f (filter on (range_with_len 0 m)) + sum_by f
    (filter on (range_with_len m k)) =
    ap (λ xs. sum_by f (filter on xs)) (range-append 0 m k ∙
    ap (λ a. range_with_len 0 m ++ range_with_len a k) (zero-add m))
    ∙ ap (sum_by f) (filter-append on (range_with_len 0 m) (range_with_len m k))
    ∙ sum_by-append f (filter on (range_with_len 0 m)) (filter on (range_with_len m k)) in
    ap (λ n. sum_by f (filter on (range_with_len 0 n))) more ∙ split
    ∙ ap (λ n. n + sum_by f (filter on (range_with_len m k))) (tris-up-to heads turn p g (omega (arith, within)))
    ∙ ap (λ n. both heads p g + n) tail ∙ sym (both-more heads p g)

pub tris_on-laid : (heads : Heads) → AreMembersInTurn heads → (p : ℕ) →
    tris_on (laid_heads heads) p ≡ both heads p (length heads.groups)
unfolding tris_on
tris_on-laid heads turn p =
    let laid = laid_heads heads in
    let whole : members_before laid (length heads.groups) ≡ length laid.clusters =
    ap (members_before laid) (sym (laid_count heads)) ∙ members_are_all laid (laid_in_turn heads turn) in
    ap (λ n. sum_by (λ c. (cluster_at laid c).tris) (filter (λ c. eqb (page_of_cluster laid c) p) (range_with_len 0 n)))
    (sym whole)
    ∙ tris-up-to heads (laid_in_turn heads turn) p (length heads.groups) (omega arith)

-- ---- each page has some triangles, and not too many

placed-roots : (heads : Heads) → IsInRange heads → KeepsRulesBelow 5 heads →
    ArePlaced 0 (is_terminal heads) heads (page_of_group heads) (length heads.groups)
unfolding root_filling
placed-roots heads range kept = record {
  pages = λ g below is. root-page heads g is;
  some = λ g below. (group_size-bounds heads range kept g below).0;
  most = λ g below. omega (arith, (group_size-bounds heads range kept g below).1);
}

placed-others : (heads : Heads) → IsInRange heads → KeepsRulesBelow 5 heads →
    ArePlaced (root_count heads) (λ g. not (is_terminal heads g)) heads (page_of_group heads) (length heads.groups)
unfolding other_filling
placed-others heads range kept = record {
  pages = λ g below is. other-page heads g (flip (is_terminal heads g) is);
  some = λ g below. (group_size-bounds heads range kept g below).0;
  most = λ g below. omega (arith, (group_size-bounds heads range kept g below).1);
}
  where
    flip : (b : Bool) → not b ≡ true → b ≡ false
    flip true is = absurd (false≢true is)
    flip false is = refl

root-load : (heads : Heads) → IsInRange heads → KeepsRulesBelow 5 heads →
    IsLoaded 0 (λ p. load (is_terminal heads) (page_of_group heads) (group_size heads) p (length heads.groups))
    (root_filling heads (length heads.groups))
unfolding root_filling
root-load heads range kept =
    loaded 0 (is_terminal heads) heads (page_of_group heads) (length heads.groups) (placed-roots heads range kept)

other-load : (heads : Heads) → IsInRange heads → KeepsRulesBelow 5 heads →
    IsLoaded (root_count heads) (λ p. load (λ g. not (is_terminal heads g)) (page_of_group heads) (group_size heads) p
    (length heads.groups)) (other_filling heads (length heads.groups))
unfolding other_filling
other-load heads range kept =
    loaded (root_count heads) (λ g. not (is_terminal heads g)) heads (page_of_group heads) (length heads.groups)
    (placed-others heads range kept)

pub page-fits : (heads : Heads) → IsInRange heads → KeepsRulesBelow 5 heads → (p : ℕ) → p < page_count heads →
    (1 ≤ tris_on (laid_heads heads) p) × (tris_on (laid_heads heads) p ≤ 1638)
page-fits heads range kept p below =
    let total = tris_on-laid heads (in_turn heads (fewer heads 5 2 (omega arith) kept)) p in
    let roots = root-load heads range kept in
    let others = other-load heads range kept in
    let root_end = root_count-is heads in
    let other_end = page_count-is heads in
    elim (cases_lt p (root_count heads)) [
      | inl inside ↦
          let none = others.before p inside in
          let some = roots.some p (omega arith) (omega (arith, inside, root_end)) in
          let most = roots.most p (omega arith) (omega (arith, inside, root_end)) in
          (omega (arith, total, none, some), omega (arith, total, none, most))
      | inr from ↦
          let none = roots.after p (omega (arith, from, root_end)) in
          let some = others.some p from (omega (arith, below, other_end)) in
          let most = others.most p from (omega (arith, below, other_end)) in
          (omega (arith, total, none, some), omega (arith, total, none, most))
    ]
