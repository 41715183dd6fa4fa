-- Closing a set of pages: the uppers of a page are marked by a chain of clusters, and pages are judged in falling
-- order.
use Rattle.std.proofs.Common.{◌≡◌, ◌==◌, ◌<◌, ◌≤◌, ◌+◌, ◌⊎◌, ◌≢◌, ℕ, zero, suc, Bool, true, false, not, ◌&&◌, ◌||◌}
use Rattle.std.proofs.Common.{cond, List, [], ◌∷◌, ◌++◌, length, get_or, map, filter, Option, Some, None, ap, sym, ◌∙◌}
use Rattle.std.proofs.Common.{refl, arith, subst, inl, inr, nat_le, nat_lt, zero-add}
use Rattle.std.specs.List.{list_any, range_with_len}
use Rattle.std.proofs.lemmas.Bool.{and_parts, and_from, cases_lt, false≢true}
use Rattle.std.proofs.lemmas.Bool.Decides.{nat_tests}
use Rattle.std.proofs.lemmas.List.{get_or_default, get_or_past}
use Rattle.std.proofs.lemmas.List.FromFn.{map-range_with_len_more}
use Rattle.dag_core.specs.declared.heads.Heads.{Heads}
use Rattle.dag_core.specs.declared.groups.Group.{Group}
use Rattle.geom_core.specs.declared.views.Lens.{Lens}
use Rattle.geom_core.specs.declared.limits.TheConstants.{PAGE_TRIANGLES}
use Rattle.dag_core.specs.Coarse.{is_coarse_group}
use Rattle.dag_core.specs.Members.{cluster_at, group_at, is_maker}
use Rattle.dag_core.specs.PageSets.{IsLeastClosed, coarse_pages, has_page}
use Rattle.dag_core.specs.Pages.{has_terminal_on, is_maker_on, is_upper, page_of_cluster, tris_on, uppers_of}
use Rattle.dag_core.specs.Ranges.{IsInRange, is_count_to}
use Rattle.dag_core.specs.Rules.{Checked}
use Rattle.dag_core.specs.Internal.Marks.{IsClosureOf, entry_of, is_made_onto, is_marked, last_made, made_before}
use Rattle.dag_core.specs.Internal.Marks.{maker_page, marked_of}
use Rattle.dag_core.specs.Internal.Tables.{is_bad_page}
use Rattle.dag_core.proofs.HalvingLaws.{checked_in_turn}
use Rattle.dag_core.proofs.ListSteps.{list_any-filter, range_any, range_found, same_bools}
use Rattle.dag_core.proofs.MarkLaws.{filter_ascends, filter_from, filter_has}
use Rattle.dag_core.proofs.PageSetLaws.{upper_page}
use Rattle.dag_core.proofs.RangeLaws.{group_bounds, maker_below}
use Rattle.dag_core.proofs.RuleLaws.{page_at}
use Rattle.dag_core.proofs.UpperLaws.{made_on, upper_from}

last_is : (a b x : Bool) → ((a || b) || x) ≡ false → x ≡ false
last_is false false x none = none
last_is true b x none = absurd (false≢true (sym none))
last_is false true x none = absurd (false≢true (sym none))

no_later : (heads : Heads) (p : ℕ) → Checked heads → p < heads.pages → list_any (nat_lt p) (uppers_of heads p) ≡ false
unfolding is_bad_page
no_later heads p checked below =
    last_is (not (is_count_to PAGE_TRIANGLES (tris_on heads p))) (nat_le heads.roots p && has_terminal_on heads p)
    (list_any (nat_lt p) (uppers_of heads p)) (sym (page_at heads p below) ∙ checked 5 p)

-- no upper is greater than its page
pub upper_is_less : (heads : Heads) (p q : ℕ) → Checked heads → p < heads.pages → IsInRange heads →
    is_upper heads p q ≡ true → q < p
unfolding is_upper
upper_is_less heads p q checked below range upper =
    let turn = checked_in_turn heads checked in
    elim (cases_lt p q) [
      | inl later ↦
          let page = upper_page heads p q range turn upper in
          absurd (false≢true (sym (no_later heads p checked below)
          ∙ (list_any-filter (nat_lt p) (is_upper heads p) (range_with_len 0 heads.pages)
          ∙ range_any (λ k. is_upper heads p k && nat_lt p k) heads.pages q page
          (and_from (is_upper heads p q) (nat_lt p q) upper (grind (arith, nat_tests))))))
      | inr not_later ↦
          let parts = and_parts (not (q == p)) _ upper in
          let other : q ≢ p = λ same. differ q p same parts.0 in
          less q p other (omega arith)
    ]
  where
    differ : (q p : ℕ) → q ≡ p → not (q == p) ≡ true → ⊥
    differ q p same apart = grind (arith, nat_tests)

    less : (q p : ℕ) → (q ≡ p → ⊥) → q ≤ p → q < p
    less q p apart most = elim (cases_lt q p) [ inl lt ↦ lt | inr ge ↦ absurd (apart (omega arith)) ]

-- ---- chains of clusters by their maker's page

value_of : Option ℕ → ℕ
value_of None = 0
value_of (Some c) = suc c

none_is_some : (c : ℕ) → None ≡ Some c → ⊥
unfolding value_of
none_is_some c same = let values : 0 ≡ suc c = ap value_of same in omega arith

pub same_some : (n c : ℕ) → Some n ≡ Some c → n ≡ c
unfolding value_of
same_some n c same = let values : suc n ≡ suc c = ap value_of same in omega arith

-- cluster c is the last of the first n that a group of page p made
pub record LastMade (heads : Heads) (p n c : ℕ) : Type 0 where
  pub below : c < n
  pub maker : is_maker_on heads p (cluster_at heads c).made ≡ true
  pub after : (k : ℕ) → c < k → k < n → is_maker_on heads p (cluster_at heads k).made ≡ false

pub last_found : (heads : Heads) (p n c : ℕ) → last_made heads p n ≡ Some c → LastMade heads p n c
last_found heads p zero c is = absurd (none_is_some c is)
last_found heads p (suc n) c is =
    at (λ told. last_found heads p n c told) (is_maker_on heads p (cluster_at heads n).made) refl is
  where
    at : (last_made heads p n ≡ Some c → LastMade heads p n c) → (b : Bool) →
        is_maker_on heads p (cluster_at heads n).made ≡ b → cond b (Some n) (last_made heads p n) ≡ Some c →
        LastMade heads p (suc n) c
    at found true made told =
        let same : n ≡ c = same_some n c told in
        record {
          below = omega arith;
          maker = subst (λ k. is_maker_on heads p (cluster_at heads k).made ≡ true) same made;
          after = λ k later below. absurd (omega arith);
        }
    at found false unmade told =
        let last = found told in
        let before = last.below in
        record {
          below = omega arith;
          maker = last.maker;
          after = λ k later below. elim (cases_lt k n) [
            | inl less ↦ last.after k later less
            | inr here ↦ let e : n ≡ k =
                omega arith in subst (λ j. is_maker_on heads p (cluster_at heads j).made ≡ false) e unmade
          ];
        }

pub none_found : (heads : Heads) (p n : ℕ) → last_made heads p n ≡ None → (k : ℕ) → k < n →
    is_maker_on heads p (cluster_at heads k).made ≡ false
none_found heads p zero is k below = absurd (omega arith)
none_found heads p (suc n) is k below =
    at (λ told less. none_found heads p n told k less) (is_maker_on heads p (cluster_at heads n).made) refl is
  where
    at : (last_made heads p n ≡ None → k < n → is_maker_on heads p (cluster_at heads k).made ≡ false) → (b : Bool) →
        is_maker_on heads p (cluster_at heads n).made ≡ b → cond b (Some n) (last_made heads p n) ≡ None →
        is_maker_on heads p (cluster_at heads k).made ≡ false
    at found true made told = absurd (none_is_some n (sym told))
    at found false unmade told = elim (cases_lt k n) [
      | inl less ↦ found told less
      | inr here ↦ let e : n ≡ k =
          omega arith in subst (λ j. is_maker_on heads p (cluster_at heads j).made ≡ false) e unmade
    ]

-- the cluster before a maker's page's cluster in the chain
pub before_is : (heads : Heads) (p c : ℕ) (made : Option ℕ) → is_maker_on heads p made ≡ true →
    made_before heads c made ≡ last_made heads p c
before_is heads p c None is = absurd (false≢true is)
before_is heads p c (Some maker) is = ap (λ q. last_made heads q c) (same_page (group_at heads maker).page p is)
  where
    same_page : (q p : ℕ) → (q == p) ≡ true → q ≡ p
    same_page q p same = grind (arith, nat_tests)

-- the number of steps that a chain has left, at most
abbrev pub left_of : Option ℕ → ℕ
left_of None = 0
left_of (Some c) = suc c

pub left_less : (heads : Heads) (p c : ℕ) → left_of (last_made heads p c) < suc c
left_less heads p c = at (last_made heads p c) refl
  where
    at : (next : Option ℕ) → last_made heads p c ≡ next → left_of next < suc c
    at None is = omega arith
    at (Some k) is = let last = last_found heads p c k is in let below = last.below in omega arith

-- ---- the chains' tables

last_more : (heads : Heads) (p n : ℕ) → last_made heads p (n + 1) ≡ cond (is_maker_on heads p (cluster_at heads n).made)
    (Some n) (last_made heads p n)
last_more heads p n = let e : n + 1 ≡ suc n = omega arith in ap (last_made heads p) e

maker_page_on : (heads : Heads) (p : ℕ) (made : Option ℕ) →
    is_maker p (maker_page heads made) ≡ is_maker_on heads p made
maker_page_on heads p None = refl
maker_page_on heads p (Some m) = refl

pub chain_last : (heads : Heads) (p c : ℕ) (page old_entry new_entry : Option ℕ) →
    page ≡ maker_page heads (cluster_at heads c).made → old_entry ≡ last_made heads p c →
    new_entry ≡ cond (is_maker p page) (Some c) old_entry → new_entry ≡ last_made heads p (c + 1)
chain_last heads p c page old_entry new_entry same before linked =
    linked
    ∙ (ap (λ o. cond (is_maker p o) (Some c) old_entry) same
    ∙ (ap (λ b. cond b (Some c) old_entry) (maker_page_on heads p (cluster_at heads c).made)
    ∙ (ap (λ o. cond (is_maker_on heads p (cluster_at heads c).made) (Some c) o) before
    ∙ sym (last_more heads p c))))

entry_before : (heads : Heads) (c : ℕ) (made : Option ℕ) (entries : List (Option ℕ)) → IsInRange heads →
    ((m : ℕ) → made ≡ Some m → m < length heads.groups) →
    ((p : ℕ) → p < heads.pages → get_or entries p None ≡ last_made heads p c) →
    entry_of entries (maker_page heads made) ≡ made_before heads c made
entry_before heads c None entries range below table = refl
entry_before heads c (Some m) entries range below table =
    let bounds = group_bounds heads m range (below m refl) in table (group_at heads m).page bounds.page

pub chain_before : (heads : Heads) (c : ℕ) (page told : Option ℕ) (entries before : List (Option ℕ)) → IsInRange heads →
    c < length heads.clusters →
    page ≡ maker_page heads (cluster_at heads c).made →
    ((p : ℕ) → p < heads.pages → get_or entries p None ≡ last_made heads p c) → told ≡ entry_of entries page →
    before ≡ map (λ k. made_before heads k (cluster_at heads k).made) (range_with_len 0 c) →
    before ++ told ∷ [] ≡ map (λ k. made_before heads k (cluster_at heads k).made) (range_with_len 0 (c + 1))
chain_before heads c page told entries before range below same table tells table_before =
    ap (λ xs. xs ++ told ∷ []) table_before
    ∙ (ap (λ o. map (λ k. made_before heads k (cluster_at heads k).made) (range_with_len 0 c) ++ o ∷ [])
    (tells ∙ (ap (entry_of entries) same ∙ entry_before heads c (cluster_at heads c).made entries range
    (λ m made. maker_below heads c m range below made) table))
    ∙ sym (map-range_with_len_more (λ k. made_before heads k (cluster_at heads k).made) 0 c c (zero-add c)))

-- a walk down the chain of page p: what was marked stays, what is new has a cluster that a group of p made, and of
-- those clusters all from `end` on are done
pub record IsChainWalk (heads : Heads) (p : ℕ) (old new : List Bool) (next : Option ℕ) : Type 0 where
  pub end : ℕ
  pub within : end ≤ length heads.clusters
  pub at : next ≡ last_made heads p end
  pub kept : (q : ℕ) → is_marked old q ≡ true → is_marked new q ≡ true
  pub from : (q : ℕ) → is_marked new q ≡ true → (is_marked old q || is_made_onto heads p q) ≡ true
  pub done : (c : ℕ) → end ≤ c → c < length heads.clusters → is_maker_on heads p (cluster_at heads c).made ≡ true →
      is_marked new (page_of_cluster heads c) ≡ true

or_old : (a b : Bool) → a ≡ true → (a || b) ≡ true
or_old true b is = refl
or_old false b is = absurd (false≢true is)

or_new : (a b : Bool) → b ≡ true → (a || b) ≡ true
or_new true b is = refl
or_new false b is = is

or_cases : (a b : Bool) → (a || b) ≡ true → (a ≡ true) ⊎ (b ≡ true)
or_cases true b is = inl refl
or_cases false b is = inr is

same_number : (p : ℕ) → (p == p) ≡ true
same_number p = grind (arith, nat_tests)

same_page : (q p : ℕ) → (q == p) ≡ true → q ≡ p
same_page q p same = grind (arith, nat_tests)

pub onto_from : (heads : Heads) (p c : ℕ) → c < length heads.clusters →
    is_maker_on heads p (cluster_at heads c).made ≡ true → is_made_onto heads p (page_of_cluster heads c) ≡ true
unfolding is_made_onto
onto_from heads p c below maker =
    range_any (λ k. is_maker_on heads p (cluster_at heads k).made && page_of_cluster heads k == page_of_cluster heads c)
    (length heads.clusters) c below
    (and_from (is_maker_on heads p (cluster_at heads c).made) (page_of_cluster heads c == page_of_cluster heads c) maker
    (same_number (page_of_cluster heads c)))

pub walk_starts : (heads : Heads) (p : ℕ) (marks : List Bool) (next : Option ℕ) →
    next ≡ last_made heads p (length heads.clusters) → IsChainWalk heads p marks marks next
walk_starts heads p marks next at = record {
  end = length heads.clusters;
  within = omega arith;
  at = at;
  kept = λ q is. is;
  from = λ q is. or_old (is_marked marks q) (is_made_onto heads p q) is;
  done = λ c from below maker. absurd (omega arith);
}

pub walk_below : (heads : Heads) (p c : ℕ) (old new : List Bool) (next : Option ℕ) → IsChainWalk heads p old new next →
    next ≡ Some c → c < length heads.clusters
walk_below heads p c old new next walk is =
    let last = last_found heads p walk.end c (sym walk.at ∙ is) in
    let below = last.below in
    let within = walk.within in
    omega arith

-- the walk comes to its end
pub walk_smaller : (heads : Heads) (p c : ℕ) (old new : List Bool) (next after : Option ℕ) →
    IsChainWalk heads p old new next → next ≡ Some c →
    after ≡ made_before heads c (cluster_at heads c).made → left_of after < left_of next
walk_smaller heads p c old new next after walk is before =
    let last = last_found heads p walk.end c (sym walk.at ∙ is) in
    let e : left_of next ≡ suc c = ap left_of is in
    let same : left_of after ≡ left_of (last_made heads p c) =
    ap left_of (before ∙ before_is heads p c (cluster_at heads c).made last.maker) in
    let less = left_less heads p c in
    omega arith

-- one step: the page of cluster c is marked
pub walk_steps : (heads : Heads) (p c page : ℕ) (old new newer : List Bool) (next : Option ℕ) →
    IsChainWalk heads p old new (Some c) → page ≡ page_of_cluster heads c →
    ((q : ℕ) → (is_marked newer q ≡ true → (is_marked new q ≡ true) ⊎ (q ≡ page)) ×
    (is_marked new q ≡ true → is_marked newer q ≡ true)) → is_marked newer page ≡ true →
    next ≡ made_before heads c (cluster_at heads c).made → IsChainWalk heads p old newer next
walk_steps heads p c page old new newer next walk here marks set before =
    let last = last_found heads p walk.end c (sym walk.at) in
    let below = last.below in
    let within = walk.within in
    record {
      end = c;
      within = omega arith;
      at = before ∙ before_is heads p c (cluster_at heads c).made last.maker;
      kept = λ q is. (marks q).1 (walk.kept q is);
      from = λ q is. elim ((marks q).0 is) [
        | inl old_mark ↦ walk.from q old_mark
        | inr same ↦ or_new (is_marked old q) (is_made_onto heads p q)
            (subst (λ k. is_made_onto heads p k ≡ true) (sym (same ∙ here))
            (onto_from heads p c (omega arith) last.maker))
      ];
      done = λ k from small maker. elim (cases_lt k walk.end) [
        | inl less ↦ elim (cases_lt c k) [
          | inl later ↦ absurd (false≢true (sym (last.after k later less) ∙ maker))
          | inr not_later ↦ let e : c ≡ k =
              omega arith in subst (λ j. is_marked newer (page_of_cluster heads j) ≡ true) e
              (subst (λ j. is_marked newer j ≡ true) here set)
        ]
        | inr over ↦ (marks (page_of_cluster heads k)).1 (walk.done k over small maker)
      ];
    }

-- a step by a mark on the page of cluster c
pub walk_marks : (heads : Heads) (p c page : ℕ) (old new newer : List Bool) (next after : Option ℕ) →
    IsChainWalk heads p old new next → next ≡ Some c →
    page ≡ page_of_cluster heads c → ((q : ℕ) → is_marked newer q ≡ (is_marked new q || page == q)) →
    after ≡ made_before heads c (cluster_at heads c).made → IsChainWalk heads p old newer after
walk_marks heads p c page old new newer next after walk is here marked before =
    walk_steps heads p c page old new newer after (subst (λ o. IsChainWalk heads p old new o) is walk) here
    (λ q. (
      λ set. cases q (or_cases (is_marked new q) (page == q) (sym (marked q) ∙ set)),
      λ was. marked q ∙ or_old (is_marked new q) (page == q) was,
    ))
    (marked page ∙ or_new (is_marked new page) (page == page) (same_number page)) before
  where
    cases : (q : ℕ) → (is_marked new q ≡ true) ⊎ ((page == q) ≡ true) → (is_marked new q ≡ true) ⊎ (q ≡ page)
    cases q (inl was) = inl was
    cases q (inr same) = inr (sym (same_page page q same))

-- the end of the chain: all pages with a cluster that a group of p made are marked
pub walk_ends : (heads : Heads) (p : ℕ) (old new : List Bool) → IsChainWalk heads p old new None → (q : ℕ) →
    is_marked new q ≡ (is_marked old q || is_made_onto heads p q)
unfolding is_made_onto
walk_ends heads p old new walk q =
    same_bools (is_marked new q) (is_marked old q || is_made_onto heads p q) (walk.from q)
    (λ is. elim (or_cases (is_marked old q) (is_made_onto heads p q) is) [
      | inl was ↦ walk.kept q was
      | inr onto ↦
          let found =
          range_found (λ c. is_maker_on heads p (cluster_at heads c).made && page_of_cluster heads c == q)
          (length heads.clusters) onto in
          let both =
          and_parts (is_maker_on heads p (cluster_at heads found.number).made)
          (page_of_cluster heads found.number == q) found.passes in
          subst (λ k. is_marked new k ≡ true) (same_page (page_of_cluster heads found.number) q both.1)
          (reached found.number found.below both.0)
    ])
  where
    reached : (c : ℕ) → c < length heads.clusters → is_maker_on heads p (cluster_at heads c).made ≡ true →
        is_marked new (page_of_cluster heads c) ≡ true
    reached c below maker = elim (cases_lt c walk.end) [
      | inl less ↦ absurd (false≢true (sym (none_found heads p walk.end (sym walk.at) c less) ∙ maker))
      | inr over ↦ walk.done c over below maker
    ]

-- ---- pages judged in falling order

-- from a page's mark on page q: q is p or an upper of p
pub onto_upper : (heads : Heads) (p q : ℕ) → is_made_onto heads p q ≡ true → (q ≡ p) ⊎ (is_upper heads p q ≡ true)
unfolding is_made_onto
onto_upper heads p q onto =
    let found =
    range_found (λ c. is_maker_on heads p (cluster_at heads c).made && page_of_cluster heads c == q)
    (length heads.clusters) onto in
    let both =
    and_parts (is_maker_on heads p (cluster_at heads found.number).made)
    (page_of_cluster heads found.number == q) found.passes in
    let page = same_page (page_of_cluster heads found.number) q both.1 in
    elim (cases_eq q p) [
      | inl same ↦ inl same
      | inr other ↦ inr (upper_from heads p q found.number found.below both.0 page other)
    ]
  where
    cases_eq : (q p : ℕ) → (q ≡ p) ⊎ (q ≡ p → ⊥)
    cases_eq q p = elim (cases_lt q p) [
      | inl less ↦ inr (λ same. omega arith)
      | inr from ↦ elim (cases_lt p q) [ inl more ↦ inr (λ same. omega arith) | inr to ↦ inl (omega arith) ]
    ]

pub upper_onto : (heads : Heads) (p q : ℕ) → is_upper heads p q ≡ true → is_made_onto heads p q ≡ true
upper_onto heads p q upper =
    let made = made_on heads p q upper in
    subst (λ k. is_made_onto heads p k ≡ true) made.page (onto_from heads p made.cluster made.below made.maker)

-- the last `judged` pages are judged: each marked one of them has its uppers marked; and all marks are owed to those at
-- the start
pub record IsJudged (heads : Heads) (start marks : List Bool) (judged : ℕ) : Type 0 where
  pub kept : (p : ℕ) → is_marked start p ≡ true → is_marked marks p ≡ true
  pub owed : (others : List ℕ) → ((p : ℕ) → is_marked start p ≡ true → has_page others p ≡ true) →
      ((p q : ℕ) → has_page others p ≡ true → is_upper heads p q ≡ true → has_page others q ≡ true) → (p : ℕ) →
      is_marked marks p ≡ true → has_page others p ≡ true
  pub closed : (p q : ℕ) → heads.pages ≤ p + judged → p < heads.pages → is_marked marks p ≡ true →
      is_upper heads p q ≡ true → is_marked marks q ≡ true

pub judged_none : (heads : Heads) (start : List Bool) → IsJudged heads start start 0
judged_none heads start = record {
  kept = λ p is. is;
  owed = λ others seeded closed p is. seeded p is;
  closed = λ p q from below marked upper. absurd (omega arith);
}

-- a page without a mark has nothing to mark
pub judged_unmarked : (heads : Heads) (start marks : List Bool) (judged p : ℕ) → IsJudged heads start marks judged →
    p + judged + 1 ≡ heads.pages → is_marked marks p ≡ false →
    IsJudged heads start marks (judged + 1)
judged_unmarked heads start marks judged p before at none = record {
  kept = before.kept;
  owed = before.owed;
  closed = λ r q from below marked upper. elim (cases_lt p r) [
    | inl later ↦ before.closed r q (omega arith) below marked upper
    | inr here ↦ let e : r ≡ p =
        omega arith in absurd (false≢true (sym none ∙ subst (λ k. is_marked marks k ≡ true) e marked))
  ];
}

pub judged_marked : (heads : Heads) (start marks newer : List Bool) (judged p : ℕ) → IsInRange heads → Checked heads →
    IsJudged heads start marks judged →
    p + judged + 1 ≡ heads.pages → is_marked marks p ≡ true →
    ((q : ℕ) → is_marked newer q ≡ (is_marked marks q || is_made_onto heads p q)) →
    IsJudged heads start newer (judged + 1)
judged_marked heads start marks newer judged p range checked before at is_set marked = record {
  kept = λ q is. stays q (before.kept q is);
  owed =
      λ others seeded closed q is. elim (or_cases (is_marked marks q) (is_made_onto heads p q) (sym (marked q) ∙ is)) [
        | inl was ↦ before.owed others seeded closed q was
        | inr onto ↦ elim (onto_upper heads p q onto) [
          | inl same ↦ before.owed others seeded closed q (subst (λ k. is_marked marks k ≡ true) (sym same) is_set)
          | inr upper ↦ closed p q (before.owed others seeded closed p is_set) upper
        ]
      ];
  closed = λ r q from below is upper. elim (cases_lt p r) [
    | inl later ↦ elim (or_cases (is_marked marks r) (is_made_onto heads p r) (sym (marked r) ∙ is)) [
      | inl was ↦ stays q (before.closed r q (omega arith) below was upper)
      | inr onto ↦ elim (onto_upper heads p r onto) [
        | inl same ↦ absurd (omega arith)
        | inr over ↦ let less = upper_is_less heads p r checked (omega arith) range over in absurd (omega arith)
      ]
    ]
    | inr here ↦
        let e : r ≡ p = omega arith in
        marked q ∙ or_new (is_marked marks q) (is_made_onto heads p q)
        (upper_onto heads p q (subst (λ k. is_upper heads k q ≡ true) e upper))
  ];
}
  where
    stays : (q : ℕ) → is_marked marks q ≡ true → is_marked newer q ≡ true
    stays q is = marked q ∙ or_old (is_marked marks q) (is_made_onto heads p q) is

-- all pages judged: the marked ones are the closure
pub closure_from : (heads : Heads) (start marks : List Bool) (pages : List ℕ) → IsInRange heads → Checked heads →
    length marks ≡ heads.pages →
    IsJudged heads start marks heads.pages → pages ≡ marked_of marks → IsClosureOf heads start pages
closure_from heads start marks pages range checked count judged is =
    let same : pages ≡ filter (is_marked marks) (range_with_len 0 heads.pages) =
    is ∙ ap (λ n. filter (is_marked marks) (range_with_len 0 n)) count in
    subst (λ (xs : List ℕ). IsClosureOf heads start xs) (sym same) (record {
      marked =
          λ p set. let is_set = judged.kept p set in filter_has (is_marked marks) heads.pages p
          (marked_below marks p heads.pages count is_set) is_set;
      uppers = λ p q has upper.
          let from = filter_from (is_marked marks) heads.pages p has in
          let page = upper_page heads p q range (checked_in_turn heads checked) upper in
          filter_has (is_marked marks) heads.pages q page (judged.closed p q (omega arith) from.0 from.1 upper);
      least =
          λ others seeded closed p has. let from =
          filter_from (is_marked marks) heads.pages p has in judged.owed others seeded closed p from.1;
      ascending = filter_ascends (is_marked marks) heads.pages;
    })
  where
    marked_below : (marks : List Bool) (p n : ℕ) → length marks ≡ n → is_marked marks p ≡ true → p < n
    marked_below marks p n count is = elim (cases_lt p n) [
      | inl less ↦ less
      | inr over ↦ absurd (false≢true (sym (get_or_past marks p false (omega arith)) ∙ is))
    ]

-- a mark that was read
pub mark_read : (marks : List Bool) (p : ℕ) (read told : Bool) → p < length marks → read ≡ get_or marks p read →
    read ≡ told → is_marked marks p ≡ told
mark_read marks p read told below reads is = sym (get_or_default marks p read false below) ∙ (sym reads ∙ is)

-- ---- the least closed set with some pages, and that of the pages of coarse groups

or_test : (p n : ℕ) (b : Bool) → p < n → (nat_lt p n || b) ≡ true
or_test p n b below = or_old (nat_lt p n) b (grind (arith, nat_tests))

tested : (p n : ℕ) → nat_lt p n ≡ true → p < n
tested p n is = grind (arith, nat_tests)

pub least_closed_from : (heads : Heads) (seeds : List ℕ) (marks : List Bool) (pages : List ℕ) →
    ((p : ℕ) → is_marked marks p ≡ (nat_lt p heads.roots || has_page seeds p)) → IsClosureOf heads marks pages →
    IsLeastClosed heads seeds pages
least_closed_from heads seeds marks pages marked closure = record {
  closed = record {
    roots = λ p below. closure.marked p (marked p ∙ or_test p heads.roots (has_page seeds p) below);
    uppers = closure.uppers;
  };
  seeded = λ p has. closure.marked p (marked p ∙ or_new (nat_lt p heads.roots) (has_page seeds p) has);
  least = λ others closed seeded. closure.least others
      (λ p is. elim (or_cases (nat_lt p heads.roots) (has_page seeds p) (sym (marked p) ∙ is)) [
        | inl root ↦ closed.roots p (tested p heads.roots root)
        | inr seed ↦ seeded p seed
      ]) closed.uppers;
  ascending = closure.ascending;
}

any_page : (p : ℕ) (groups : List Group) →
    list_any (λ q. q == p) (map (λ (group : Group). group.page) groups) ≡ list_any
    (λ (group : Group). group.page == p) groups
any_page p [] = refl
any_page p (group ∷ groups) = ap (λ b. group.page == p || b) (any_page p groups)

pub coarse_has : (heads : Heads) (lens : Lens) (p : ℕ) →
    has_page (coarse_pages heads lens) p ≡ list_any
    (λ (group : Group). is_coarse_group lens group && group.page == p) heads.groups
coarse_has heads lens p =
    any_page p (filter (is_coarse_group lens) heads.groups) ∙
    list_any-filter (λ (group : Group). group.page == p) (is_coarse_group lens) heads.groups
