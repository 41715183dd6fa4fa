-- What links lead through, and what a push and a removal leave of it.
use Rattle.std.proofs.Common.{◌≡◌, ◌≢◌, ℕ, zero, suc, ◌+◌, ◌<◌, ◌≤◌, List, [], ◌∷◌, ◌++◌, true, false, ⊎_elim, get_or}
use Rattle.std.proofs.Common.{set, length, replicate, refl, sym, ap, ◌∙◌, subst, arith, get_or-set_other}
use Rattle.std.proofs.Common.{get_or-set_same, length-set, eq-eqb}
use Rattle.std.specs.List.{AllByRecursion}
use Rattle.std.proofs.lemmas.Bool.{cases_eq}
use Rattle.std.proofs.lemmas.List.{get_or-replicate, length-replicate}
use Rattle.pool_rules.specs.Numbers.{is_among}
use Rattle.pool_tables.specs.ListedPages.{without}
use Rattle.pool_tables.specs.Internal.Links.{Lacks, AreApart, Leads, AreJoined, AreLinked, pages_after, IsPath, IsRing}
use Rattle.pool_tables.proofs.Apart.{ne-eqb, Lacks-from_among, all-among, without-head, without-other, without-lacking}
use Rattle.pool_tables.proofs.Apart.{all-without, AreApart-without, all-push, AreApart-push, length-apart}

-- ---- which list is found

-- the list that the links lead through is the one that is found
pub pages_after-leads : (next : List ℕ) (end count from : ℕ) (pages : List ℕ) → Leads next from pages end →
    Lacks pages end → length pages ≤ count → pages_after next end count from ≡ pages
pages_after-leads next end zero from [] leads lacks few = refl
pages_after-leads next end zero from (page ∷ pages) leads lacks few = absurd (omega (arith, few))
pages_after-leads next end (suc count) from [] leads lacks few = rw (eq-eqb (get_or next from 0) end leads) refl
pages_after-leads next end (suc count) from (page ∷ pages) leads lacks few =
    rw (leads.0, ne-eqb page end lacks.0) (ap (λ rest. page ∷ rest)
    (pages_after-leads next end count page pages leads.1 lacks.1 (omega (arith, few))))

pub Lacks-below : (end : ℕ) (pages : List ℕ) → AllByRecursion (λ page. page < end) pages → Lacks pages end
Lacks-below end [] h = tt
Lacks-below end (page ∷ pages) h = (λ e. omega (arith, e, h.0), Lacks-below end pages h.1)

pub pages_after-path : (next : List ℕ) (end from : ℕ) (pages : List ℕ) → IsPath next end from pages →
    pages_after next end end from ≡ pages
pages_after-path next end from pages path =
    pages_after-leads next end end from pages path.leads (Lacks-below end pages path.below)
    (length-apart end pages path.apart path.below)

pub Leads-from_linked : (next previous : List ℕ) (from : ℕ) (pages : List ℕ) (to : ℕ) →
    AreLinked next previous from pages to → Leads next from pages to
Leads-from_linked next previous from [] to h = h.0
Leads-from_linked next previous from (page ∷ pages) to h = (h.0.0, Leads-from_linked next previous page pages to h.1)

pub IsPath-from_ring : (next previous : List ℕ) (end : ℕ) (pages : List ℕ) → IsRing next previous end pages →
    IsPath next end end pages
IsPath-from_ring next previous end pages ring = record {
  links = ring.next_len;
  start = omega (arith, ring.next_len);
  leads = Leads-from_linked next previous end pages end ring.linked;
  below = ring.below;
  apart = ring.apart;
}

pub pages_after-ring : (next previous : List ℕ) (end : ℕ) (pages : List ℕ) → IsRing next previous end pages →
    pages_after next end end end ≡ pages
pages_after-ring next previous end pages ring =
    pages_after-path next end end pages (IsPath-from_ring next previous end pages ring)

-- a ring is one of the list that is found
pub IsRing-found : (next previous : List ℕ) (end : ℕ) (pages : List ℕ) → IsRing next previous end pages →
    IsRing next previous end (pages_after next end end end)
IsRing-found next previous end pages ring = rw (pages_after-ring next previous end pages ring) ring

-- ---- reading the pages one by one

-- the first page of a path, and the path after it
pub record IsStep (next : List ℕ) (end from : ℕ) (pages : List ℕ) : Type 0 where
  pub first : pages ≡ get_or next from 0 ∷ pages_after next end end (get_or next from 0)
  pub rest : IsPath next end (get_or next from 0) (pages_after next end end (get_or next from 0))

pub IsStep-from_path : (next : List ℕ) (end from : ℕ) (pages : List ℕ) → IsPath next end from pages →
    get_or next from 0 ≢ end → IsStep next end from pages
IsStep-from_path next end from [] path ne = absurd (ne path.leads)
IsStep-from_path next end from (page ∷ pages) path ne =
    let rest : IsPath next end page pages = record {
      links = path.links;
      start = omega (arith, path.below.0, path.links);
      leads = path.leads.1;
      below = path.below.1;
      apart = path.apart.1;
    } in
    let found = pages_after-path next end page pages rest in
    let whole : page ∷ pages ≡ page ∷ pages_after next end end page = ap (λ ps. page ∷ ps) (sym found) in
    let path_found : IsPath next end page (pages_after next end end page) =
    subst (λ ps. IsPath next end page ps) (sym found) rest in
    record {
      first = subst (λ p. page ∷ pages ≡ p ∷ pages_after next end end p) (sym path.leads.0) whole;
      rest = subst (λ p. IsPath next end p (pages_after next end end p)) (sym path.leads.0) path_found;
    }

-- without pages each link leads to the end
pub IsRing-none : (next previous : List ℕ) (end : ℕ) → next ≡ replicate (end + 1) end →
    previous ≡ replicate (end + 1) end → IsRing next previous end []
IsRing-none next previous end next_is previous_is = record {
  next_len = rw next_is (length-replicate (end + 1) end);
  previous_len = rw previous_is (length-replicate (end + 1) end);
  linked = (
    rw next_is (get_or-replicate (end + 1) end end 0 (omega arith)),
    rw previous_is
        (get_or-replicate (end + 1) end end 0 (omega arith)),
  );
  below = tt;
  apart = tt;
}

-- ---- links that are changed elsewhere

keep-next : (next previous : List ℕ) (from : ℕ) (pages : List ℕ) (to k v : ℕ) → AreLinked next previous from pages to →
    from ≢ k → Lacks pages k → AreLinked (set next k v) previous from pages to
keep-next next previous from [] to k v h ne lacks = (get_or-set_other next k from v 0 ne ∙ h.0, h.1)
keep-next next previous from (page ∷ pages) to k v h ne lacks = (
  (get_or-set_other next k from v 0 ne ∙ h.0.0, h.0.1),
  keep-next next previous page pages to k v h.1 lacks.0
      lacks.1,
)

keep-previous : (next previous : List ℕ) (from : ℕ) (pages : List ℕ) (to k v : ℕ) →
    AreLinked next previous from pages to → to ≢ k → Lacks pages k → AreLinked next (set previous k v) from pages to
keep-previous next previous from [] to k v h ne lacks = (h.0, get_or-set_other previous k to v 0 ne ∙ h.1)
keep-previous next previous from (page ∷ pages) to k v h ne lacks = (
  (h.0.0, get_or-set_other previous k page v 0 lacks.0 ∙ h.0.1),
  keep-previous next previous page pages to k v h.1 ne
      lacks.1,
)

-- two lists of links, one after the other
join : (next previous : List ℕ) (from : ℕ) (pages : List ℕ) (page to : ℕ) → AreLinked next previous from pages page →
    AreJoined next previous page to → AreLinked next previous from (pages ++ page ∷ []) to
join next previous from [] page to h k = (h, k)
join next previous from (p ∷ pages) page to h k = (h.0, join next previous p pages page to h.1 k)

-- ---- a push

last_of : ℕ → List ℕ → ℕ
last_of from [] = from
last_of from (page ∷ pages) = last_of page pages

previous-last : (next previous : List ℕ) (from : ℕ) (pages : List ℕ) (to : ℕ) → AreLinked next previous from pages to →
    get_or previous to 0 ≡ last_of from pages
unfolding last_of
previous-last next previous from [] to h = h.1
previous-last next previous from (page ∷ pages) to h = previous-last next previous page pages to h.1

last-lacks : (from : ℕ) (pages : List ℕ) (k : ℕ) → from ≢ k → Lacks pages k → last_of from pages ≢ k
unfolding last_of
last-lacks from [] k ne lacks = ne
last-lacks from (page ∷ pages) k ne lacks = last-lacks page pages k lacks.0 lacks.1

-- the links lead to another number, once the last one is changed
aim : (next previous : List ℕ) (from : ℕ) (pages : List ℕ) (to new : ℕ) → AreLinked next previous from pages to →
    AreApart (from ∷ pages) → Lacks pages new → AllByRecursion (λ page. page < length next) (from ∷ pages) →
    new < length previous → AreLinked (set next (last_of from pages) new) (set previous new (last_of from pages)) from
    pages new
unfolding last_of
aim next previous from [] to new h apart lacks below lt =
    (get_or-set_same next from new 0 below.0, get_or-set_same previous new from 0 lt)
aim next previous from (page ∷ pages) to new h apart lacks below lt =
    let last = last_of page pages in
    let ne : from ≢ last = λ e. last-lacks page pages from apart.0.0 apart.0.1 (sym e) in (
      (get_or-set_other next last from new 0 ne ∙ h.0.0, get_or-set_other previous new page last 0 lacks.0 ∙ h.0.1),
      aim
          next previous page pages to new h.1 apart.1 lacks.1 below.1 lt,
    )

below-longer : (n m : ℕ) (pages : List ℕ) → n < m → AllByRecursion (λ page. page < n) pages →
    AllByRecursion (λ page. page < m) pages
below-longer n m [] lt h = tt
below-longer n m (page ∷ pages) lt h = (omega (arith, lt, h.0), below-longer n m pages lt h.1)

pub IsRing-push : (next previous : List ℕ) (end page : ℕ) (pages : List ℕ) → IsRing next previous end pages →
    page < end → is_among pages page ≡ false → (last : ℕ) → get_or previous end 0 ≡ last →
    IsRing (set (set next last page) page end) (set (set previous page last) end page) end (pages ++ page ∷ [])
IsRing-push next previous end page pages ring below absent last is_last =
    let lacks = Lacks-from_among pages page absent in
    let lacks_end = Lacks-below end pages ring.below in
    let same : last ≡ last_of end pages = sym is_last ∙ previous-last next previous end pages end ring.linked in
    let in_next : AllByRecursion (λ p. p < length next) (end ∷ pages) = (
      omega (arith, ring.next_len),
      below-longer end (length next) pages (omega (arith, ring.next_len))
          ring.below,
    ) in
    let aimed : AreLinked (set next last page) (set previous page last) end pages page =
    subst (λ l. AreLinked (set next l page) (set previous page l) end pages page) (sym same)
    (aim next previous end pages end page ring.linked (lacks_end, ring.apart) lacks in_next
    (omega (arith, below, ring.previous_len))) in
    let ne : end ≢ page = λ e. omega (arith, below, e) in
    let with_next = keep-next (set next last page) (set previous page last) end pages page page end aimed ne lacks in
    let with_both = keep-previous (set (set next last page) page end) (set previous page last) end pages page end page
    with_next (λ e. ne (sym e)) lacks_end in
    record {
      next_len = length-set (set next last page) page end ∙ (length-set next last page ∙ ring.next_len);
      previous_len = length-set (set previous page last) end page ∙ (length-set previous page last ∙ ring.previous_len);
      linked = join _ _ end pages page end with_both (
        get_or-set_same (set next last page) page end 0
            (rw (length-set next last page) (omega (arith, below, ring.next_len))),
        get_or-set_same
            (set previous page last) end page 0 (rw (length-set previous page last) (omega (arith, ring.previous_len))),
      );
      below = all-push (λ p. p < end) pages page ring.below below;
      apart = AreApart-push pages page ring.apart lacks;
    }

last-bound : (end from : ℕ) (pages : List ℕ) → from < end + 1 → AllByRecursion (λ page. page < end) pages →
    last_of from pages < end + 1
unfolding last_of
last-bound end from [] lt h = lt
last-bound end from (page ∷ pages) lt h = last-bound end page pages (omega (arith, h.0)) h.1

-- the last page is below the end, or is the end
pub last-below : (next previous : List ℕ) (end : ℕ) (pages : List ℕ) → IsRing next previous end pages →
    get_or previous end 0 < end + 1
last-below next previous end pages ring =
    rw (previous-last next previous end pages end ring.linked) (last-bound end end pages (omega arith) ring.below)

-- ---- a removal

-- the page before one of the pages is `from` or one of the pages
previous-among : (P : ℕ → Type 0) (next previous : List ℕ) (from : ℕ) (pages : List ℕ) (to page : ℕ) →
    AreLinked next previous from pages to → is_among pages page ≡ true → P from → AllByRecursion P pages →
    P (get_or previous page 0)
previous-among P next previous from [] to page h among first all = cc
previous-among P next previous from (p ∷ pages) to page h among first all =
    ⊎_elim
    (λ same. subst (λ q. P (get_or previous q 0)) same (rw h.0.1 first))
    (λ other. let later : is_among pages page ≡ true = rw (ne-eqb p page other) at among in
    previous-among P next previous p pages to page h.1 later all.0 all.1)
    (cases_eq p page)

-- the page after one of the pages is one of the pages or `to`
next-first : (P : ℕ → Type 0) (next previous : List ℕ) (from : ℕ) (pages : List ℕ) (to : ℕ) →
    AreLinked next previous from pages to → AllByRecursion P pages → P to → P (get_or next from 0)
next-first P next previous from [] to h all last = rw h.0 last
next-first P next previous from (p ∷ pages) to h all last = rw h.0.0 all.0

next-among : (P : ℕ → Type 0) (next previous : List ℕ) (from : ℕ) (pages : List ℕ) (to page : ℕ) →
    AreLinked next previous from pages to → is_among pages page ≡ true → AllByRecursion P pages → P to →
    P (get_or next page 0)
next-among P next previous from [] to page h among all last = cc
next-among P next previous from (p ∷ pages) to page h among all last =
    ⊎_elim
    (λ same. subst (λ q. P (get_or next q 0)) same (next-first P next previous p pages to h.1 all.1 last))
    (λ other. let later : is_among pages page ≡ true = rw (ne-eqb p page other) at among in
    next-among P next previous p pages to page h.1 later all.1 last)
    (cases_eq p page)

-- the links pass over the page that came first
bypass : (next previous : List ℕ) (from page : ℕ) (pages : List ℕ) (to : ℕ) → AreLinked next previous page pages to →
    AreApart (from ∷ pages) → AreApart pages → Lacks pages to → from < length next →
    AllByRecursion (λ p. p < length previous) (to ∷ pages) →
    AreLinked (set next from (get_or next page 0)) (set previous (get_or next page 0) from) from pages to
bypass next previous from page [] to h apart rest lacks lt below =
    subst (λ q. AreLinked (set next from q) (set previous q from) from [] to) (sym h.0)
    (get_or-set_same next from to 0 lt, get_or-set_same previous to from 0 below.0)
bypass next previous from page (p ∷ pages) to h apart rest lacks lt below =
    let kept = keep-previous (set next from p) previous p pages to p from
    (keep-next next previous p pages to from p h.1 apart.0.0 apart.0.1) (λ e. lacks.0 (sym e)) rest.0 in
    subst (λ q. AreLinked (set next from q) (set previous q from) from (p ∷ pages) to) (sym h.0.0)
    ((get_or-set_same next from p 0 lt, get_or-set_same previous p from 0 below.1.0), kept)

unlink : (next previous : List ℕ) (from : ℕ) (pages : List ℕ) (to page : ℕ) → AreLinked next previous from pages to →
    AreApart (from ∷ pages) → Lacks pages to → AllByRecursion (λ p. p < length next) (from ∷ pages) →
    AllByRecursion (λ p. p < length previous) (to ∷ pages) → is_among pages page ≡ true →
    AreLinked (set next (get_or previous page 0) (get_or next page 0))
    (set previous (get_or next page 0) (get_or previous page 0)) from (without page pages) to
unlink next previous from [] to page h apart lacks in_next in_previous among = cc
unlink next previous from (p ∷ pages) to page h apart lacks in_next in_previous among =
    ⊎_elim
    (λ same.
    let passed = bypass next previous from p pages to h.1 (apart.0.1, apart.1.1) apart.1.1 lacks.1 in_next.0
    (in_previous.0, in_previous.1.1) in
    let here : AreLinked (set next (get_or previous p 0) (get_or next p 0))
    (set previous (get_or next p 0) (get_or previous p 0)) from pages to =
    subst (λ q. AreLinked (set next q (get_or next p 0)) (set previous (get_or next p 0) q) from pages to)
    (sym h.0.1) passed in
    let left = sym (without-head p pages ∙ without-lacking p pages apart.1.0) in
    let whole : AreLinked (set next (get_or previous p 0) (get_or next p 0))
    (set previous (get_or next p 0) (get_or previous p 0)) from (without p (p ∷ pages)) to =
    subst (λ ps. AreLinked (set next (get_or previous p 0) (get_or next p 0))
    (set previous (get_or next p 0) (get_or previous p 0)) from ps to) left here in
    subst (λ q. AreLinked (set next (get_or previous q 0) (get_or next q 0))
    (set previous (get_or next q 0) (get_or previous q 0)) from (without q (p ∷ pages)) to) same whole)
    (λ other.
    let later : is_among pages page ≡ true = rw (ne-eqb p page other) at among in
    let before = previous-among (λ q. q ≢ from) next previous p pages to page h.1 later apart.0.0 apart.0.1 in
    let after = next-among (λ q. q ≢ p) next previous p pages to page h.1 later apart.1.0 (λ e. lacks.0 (sym e)) in
    let rest = unlink next previous p pages to page h.1 apart.1 lacks.1 in_next.1 (in_previous.0, in_previous.1.1)
    later in
    subst (λ ps. AreLinked (set next (get_or previous page 0) (get_or next page 0))
    (set previous (get_or next page 0) (get_or previous page 0)) from ps to)
    (sym (without-other page p pages other)) (
      (
        get_or-set_other next _ from _ 0 (λ e. before (sym e))
            ∙ h.0.0,
        get_or-set_other previous _ p _ 0 (λ e. after (sym e)) ∙ h.0.1,
      ),
      rest,
    ))
    (cases_eq p page)

pub IsRing-remove : (next previous : List ℕ) (end page : ℕ) (pages : List ℕ) → IsRing next previous end pages →
    is_among pages page ≡ true →
    IsRing (set next (get_or previous page 0) (get_or next page 0))
    (set previous (get_or next page 0) (get_or previous page 0)) end (without page pages)
IsRing-remove next previous end page pages ring present =
    let lacks_end = Lacks-below end pages ring.below in
    let in_next : AllByRecursion (λ p. p < length next) (end ∷ pages) = (
      omega (arith, ring.next_len),
      below-longer end (length next) pages (omega (arith, ring.next_len))
          ring.below,
    ) in
    let in_previous : AllByRecursion (λ p. p < length previous) (end ∷ pages) = (
      omega (arith, ring.previous_len),
      below-longer end (length previous) pages (omega (arith, ring.previous_len))
          ring.below,
    ) in
    record {
      next_len = length-set next _ _ ∙ ring.next_len;
      previous_len = length-set previous _ _ ∙ ring.previous_len;
      linked = unlink next previous end pages end page ring.linked (lacks_end, ring.apart) lacks_end in_next in_previous
          present;
      below = all-without (λ p. p < end) page pages ring.below;
      apart = AreApart-without page pages ring.apart;
    }

-- both neighbours of one of the pages have links
pub neighbours-below : (next previous : List ℕ) (end page : ℕ) (pages : List ℕ) → IsRing next previous end pages →
    is_among pages page ≡ true → (get_or previous page 0 < end + 1) × (get_or next page 0 < end + 1)
neighbours-below next previous end page pages ring present =
    let P : ℕ → Type 0 = λ p. p < end + 1 in
    let all : AllByRecursion P pages = below-longer end (end + 1) pages (omega arith) ring.below in (
      previous-among P next previous end pages end page ring.linked present (omega arith) all,
      next-among P next previous
          end pages end page ring.linked present all (omega arith),
    )

pub page-below : (next previous : List ℕ) (end page : ℕ) (pages : List ℕ) → IsRing next previous end pages →
    is_among pages page ≡ true → page < end
page-below next previous end page pages ring present = all-among (λ p. p < end) pages page ring.below present
