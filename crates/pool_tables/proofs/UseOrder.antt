-- What a change of one page's record leaves of the order of use and of the count of held pages.
use Rattle.std.proofs.Common.{◌≡◌, ◌≢◌, ℕ, ◌+◌, ◌<◌, ◌≤◌, ◌==◌, nat_lt, List, [], ◌∷◌, ◌++◌, Bool, true, false, not}
use Rattle.std.proofs.Common.{cond, ◌||◌, ◌&&◌, ◌⊎◌, inl, inr, ⊎_elim, is_some, set, length, refl, sym, ap, ◌∙◌, subst}
use Rattle.std.proofs.Common.{arith, eq-eqb, get_or-set_other, get_or-set_same, length-set}
use Rattle.std.specs.List.{AllByRecursion, count_by}
use Rattle.std.proofs.lemmas.Bool.{cases_eq}
use Rattle.std.proofs.lemmas.Bool.Decides.{nat_tests}
use Rattle.std.proofs.lemmas.List.Sums.{sum_by-set}
use Rattle.pool_rules.specs.Numbers.{is_among}
use Rattle.pool_rules.proofs.Flags.{place-within}
use Rattle.pool_rules.proofs.Tests.{or-left, or-right}
use Rattle.pool_tables.specs.ListedPages.{ListedPages, without}
use Rattle.pool_tables.specs.PageRecords.{no_record, record_at, is_record_held}
use Rattle.pool_tables.specs.declared.page_record.PageRecord.{PageRecord}
use Rattle.pool_tables.specs.Eviction.{ComesBefore}
use Rattle.pool_tables.specs.Internal.UseOrder.{AreInOrder, used_at, IsUseOrder}
use Rattle.pool_tables.proofs.Apart.{ne-eqb, all-without, all-push, among-from_lacks, Lacks-without_same}

-- ---- a page that is among others

pub all-from_among : (P : ℕ → Type 0) (pages : List ℕ) → ((q : ℕ) → is_among pages q ≡ true → P q) →
    AllByRecursion P pages
all-from_among P [] h = tt
all-from_among P (page ∷ pages) h = (
  h page (or-left (page == page) (is_among pages page) (eq-eqb page page refl)),
  all-from_among P pages
      (λ q among. h q (or-right (page == q) (is_among pages q) among)),
)

pub among-without_other : (page q : ℕ) (pages : List ℕ) → q ≢ page → is_among (without page pages) q ≡ is_among pages q
among-without_other page q [] ne = refl
among-without_other page q (p ∷ pages) ne =
    ⊎_elim
    (λ same. let other : p ≢ q = λ e. ne (sym e ∙ same) in
    rw (eq-eqb p page same, ne-eqb p q other) (among-without_other page q pages ne))
    (λ other. rw (ne-eqb p page other) (ap (λ b. (p == q) || b) (among-without_other page q pages ne)))
    (cases_eq p page)

pub among-push_other : (page q : ℕ) (pages : List ℕ) → q ≢ page → is_among (pages ++ page ∷ []) q ≡ is_among pages q
among-push_other page q [] ne = rw (ne-eqb page q (λ e. ne (sym e))) refl
among-push_other page q (p ∷ pages) ne = ap (λ b. (p == q) || b) (among-push_other page q pages ne)

pub among-push_same : (page : ℕ) (pages : List ℕ) → is_among (pages ++ page ∷ []) page ≡ true
among-push_same page [] = rw (eq-eqb page page refl) refl
among-push_same page (p ∷ pages) = or-right (p == page) (is_among (pages ++ page ∷ []) page)
    (among-push_same page pages)

-- ---- lists in order

pub AreInOrder-same : (f g : ℕ → ℕ) (pages : List ℕ) → AreInOrder f pages →
    ((q : ℕ) → is_among pages q ≡ true → g q ≡ f q) → AreInOrder g pages
AreInOrder-same f g [] h same = tt
AreInOrder-same f g (page ∷ pages) h same =
    let here = same page (or-left (page == page) (is_among pages page) (eq-eqb page page refl)) in
    let later = λ (q : ℕ). λ (among : is_among pages q ≡ true). same q
    (or-right (page == q) (is_among pages q) among) in
    (moved pages h.0 here later, AreInOrder-same f g pages h.1 later)
  where
    moved : (qs : List ℕ) → AllByRecursion (ComesBefore f page) qs → g page ≡ f page →
        ((q : ℕ) → is_among qs q ≡ true → g q ≡ f q) → AllByRecursion (ComesBefore g page) qs
    moved [] k here later = tt
    moved (q ∷ qs) k here later =
        let at = later q (or-left (q == q) (is_among qs q) (eq-eqb q q refl)) in (
          ⊎_elim (λ less. inl (omega (arith, here, at, less))) (λ tie. inr (here ∙ tie.0 ∙ sym at, tie.1)) k.0,
          moved qs
              k.1 here (λ r among. later r (or-right (q == r) (is_among qs r) among)),
        )

pub AreInOrder-without : (f : ℕ → ℕ) (page : ℕ) (pages : List ℕ) → AreInOrder f pages →
    AreInOrder f (without page pages)
AreInOrder-without f page [] h = tt
AreInOrder-without f page (p ∷ pages) h =
    ⊎_elim
    (λ same. rw (eq-eqb p page same) (AreInOrder-without f page pages h.1))
    (λ other. rw (ne-eqb p page other) (
      all-without (ComesBefore f p) page pages h.0,
      AreInOrder-without f page pages
          h.1,
    ))
    (cases_eq p page)

pub AreInOrder-push : (f : ℕ → ℕ) (page : ℕ) (pages : List ℕ) → AreInOrder f pages →
    AllByRecursion (λ q. ComesBefore f q page) pages → AreInOrder f (pages ++ page ∷ [])
AreInOrder-push f page [] h last = (tt, tt)
AreInOrder-push f page (p ∷ pages) h last =
    (all-push (ComesBefore f p) pages page h.0 last.0, AreInOrder-push f page pages h.1 last.1)

-- ---- records

pub record-other : (records : List PageRecord) (page q : ℕ) (r : PageRecord) → q ≢ page →
    record_at (set records page r) q ≡ record_at records q
record-other records page q r ne = get_or-set_other records page q r no_record ne

pub record-same : (records : List PageRecord) (page : ℕ) (r : PageRecord) → page < length records →
    record_at (set records page r) page ≡ r
record-same records page r lt = get_or-set_same records page r no_record lt

-- a page that is resident, or being loaded, has a record
pub resident-below : (records : List PageRecord) (page : ℕ) → (record_at records page).resident ≡ true →
    page < length records
resident-below records page h = place-within (λ r. r.resident) records page no_record refl h

pub loading-below : (records : List PageRecord) (page : ℕ) → is_some (record_at records page).loader ≡ true →
    page < length records
loading-below records page h = place-within (λ r. is_some r.loader) records page no_record refl h

-- ---- how many are held

abbrev one : Bool → ℕ
one b = cond b 1 0

-- the count after one record is replaced
held-set : (records : List PageRecord) (page : ℕ) (r : PageRecord) → page < length records →
    count_by is_record_held (set records page r) + one (is_record_held (record_at records page))
    ≡ count_by is_record_held records + one (is_record_held r)
held-set records page r lt = sum_by-set (λ x. cond (is_record_held x) 1 0) records page r no_record lt

pub held-same : (records : List PageRecord) (page : ℕ) (r : PageRecord) → page < length records →
    is_record_held r ≡ is_record_held (record_at records page) →
    count_by is_record_held (set records page r) ≡ count_by is_record_held records
held-same records page r lt same =
    let h = held-set records page r lt in
    let k : one (is_record_held r) ≡ one (is_record_held (record_at records page)) = ap one same in
    omega (arith, h, k)

pub held-more : (records : List PageRecord) (page : ℕ) (r : PageRecord) → page < length records →
    is_record_held (record_at records page) ≡ false → is_record_held r ≡ true →
    count_by is_record_held (set records page r) ≡ count_by is_record_held records + 1
held-more records page r lt old new =
    let h = held-set records page r lt in
    let j : one (is_record_held (record_at records page)) ≡ 0 = ap one old in
    let k : one (is_record_held r) ≡ 1 = ap one new in
    omega (arith, h, j, k)

pub held-less : (records : List PageRecord) (page : ℕ) (r : PageRecord) → page < length records →
    is_record_held (record_at records page) ≡ true → is_record_held r ≡ false →
    count_by is_record_held (set records page r) + 1 ≡ count_by is_record_held records
held-less records page r lt old new =
    let h = held-set records page r lt in
    let j : one (is_record_held (record_at records page)) ≡ 1 = ap one old in
    let k : one (is_record_held r) ≡ 0 = ap one new in
    omega (arith, h, j, k)

-- ---- the order of use

by-page : (P : ℕ → Type 0) (page q : ℕ) → P page → (q ≢ page → P q) → P q
by-page P page q here other = ⊎_elim (λ same. subst P (sym same) here) other (cases_eq q page)

-- what is listed, after one record is replaced
abbrev ListsResident : ℕ → List PageRecord → List ℕ → ℕ → Type 0
ListsResident roots records pages q = is_among pages q ≡ ((record_at records q).resident && not (nat_lt q roots))

abbrev mark : ℕ → ℕ → PageRecord → Bool
mark roots q r = r.resident && not (nat_lt q roots)

-- the last use of each page but this one is as before
used-other : (records : List PageRecord) (page : ℕ) (r : PageRecord) (q : ℕ) → q ≢ page →
    used_at (set records page r) q ≡ used_at records q
used-other records page r q other = ap (λ (x : PageRecord). x.last_used) (record-other records page q r other)

used-same : (records : List PageRecord) (page : ℕ) (r : PageRecord) → page < length records →
    used_at (set records page r) page ≡ r.last_used
used-same records page r lt = ap (λ (x : PageRecord). x.last_used) (record-same records page r lt)

-- a record that is as resident and as much used
pub IsUseOrder-kept : (roots : ℕ) (records : List PageRecord) (order : ListedPages) (page : ℕ) (r : PageRecord) →
    page < length records → IsUseOrder roots records order → r.resident ≡ (record_at records page).resident →
    r.last_used ≡ (record_at records page).last_used → IsUseOrder roots (set records page r) order
IsUseOrder-kept roots records order page r lt old resident used =
    let new = set records page r in
    record {
      capacity = old.capacity ∙ sym (length-set records page r);
      listed = λ q. by-page (ListsResident roots new order.pages) page q
          (old.listed page ∙ (ap (λ b. b && not (nat_lt page roots)) (sym resident)
          ∙ ap (mark roots page) (sym (record-same records page r lt))))
          (λ other. old.listed q ∙ ap (mark roots q) (sym (record-other records page q r other)));
      ordered = AreInOrder-same (used_at records) (used_at new) order.pages old.ordered (λ q among.
          by-page (λ p. used_at new p ≡ used_at records p) page q (used-same records page r lt ∙ used)
          (used-other records page r q));
    }

-- what is left of the order without the page is in order, whatever its record says
without-page : (records : List PageRecord) (page : ℕ) (r : PageRecord) (pages : List ℕ) →
    AreInOrder (used_at records) pages → AreInOrder (used_at (set records page r)) (without page pages)
without-page records page r pages h =
    AreInOrder-same (used_at records) (used_at (set records page r)) (without page pages)
    (AreInOrder-without (used_at records) page pages h) (λ q among.
    ⊎_elim
    (λ same. let none = among-from_lacks (without page pages) page (Lacks-without_same page pages) in
    let some : is_among (without page pages) page ≡ true =
    subst (λ p. is_among (without page pages) p ≡ true) same among in cc)
    (λ other. used-other records page r q other)
    (cases_eq q page))

-- a page that is no more resident
pub IsUseOrder-evict : (roots : ℕ) (records : List PageRecord) (order : ListedPages) (page : ℕ) (r : PageRecord) →
    page < length records → IsUseOrder roots records order → r.resident ≡ false →
    IsUseOrder roots (set records page r) (record order { pages = without page order.pages })
IsUseOrder-evict roots records order page r lt old absent =
    let new = set records page r in
    let left = without page order.pages in
    record {
      capacity = old.capacity ∙ sym (length-set records page r);
      listed = λ q. by-page (ListsResident roots new left) page q
          (among-from_lacks left page (Lacks-without_same page order.pages)
          ∙ (ap (λ b. b && not (nat_lt page roots)) (sym absent)
          ∙ ap (mark roots page) (sym (record-same records page r lt))))
          (λ other. among-without_other page q order.pages other
          ∙ (old.listed q ∙ ap (mark roots q) (sym (record-other records page q r other))));
      ordered = without-page records page r order.pages old.ordered;
    }

pub above-roots : (page roots : ℕ) → roots ≤ page → not (nat_lt page roots) ≡ true
above-roots page roots h = let below : nat_lt page roots ≡ false = grind (arith, nat_tests) in rw below refl

-- each page in the list comes before one that was used later, or with it and has a smaller number
before-last : (records : List PageRecord) (page : ℕ) (r : PageRecord) (pages : List ℕ) → page < length records →
    is_among pages page ≡ false → ((q : ℕ) → q ≢ page → is_among pages q ≡ true →
    (used_at records q < r.last_used) ⊎ ((used_at records q ≡ r.last_used) × (page < q))) →
    AllByRecursion (λ q. ComesBefore (used_at (set records page r)) q page) pages
before-last records page r pages lt absent before =
    let here = used-same records page r lt in
    all-from_among (λ q. ComesBefore (used_at (set records page r)) q page) pages (λ q among.
    ⊎_elim
    (λ same. let some : is_among pages page ≡ true = subst (λ p. is_among pages p ≡ true) same among in cc)
    (λ other.
    let there = used-other records page r q other in
    ⊎_elim (λ less. inl (omega (arith, here, there, less))) (λ tie. inr (there ∙ (tie.0 ∙ sym here), tie.1))
    (before q other among))
    (cases_eq q page))

-- a page that becomes resident, and is used after all others
pub IsUseOrder-install : (roots : ℕ) (records : List PageRecord) (order : ListedPages) (page : ℕ) (r : PageRecord) →
    page < length records → IsUseOrder roots records order → is_among order.pages page ≡ false → roots ≤ page →
    r.resident ≡ true → ((q : ℕ) → used_at records q < r.last_used) →
    IsUseOrder roots (set records page r) (record order { pages = order.pages ++ page ∷ [] })
IsUseOrder-install roots records order page r lt old absent no_root resident later =
    let new = set records page r in
    let with_page = order.pages ++ page ∷ [] in
    record {
      capacity = old.capacity ∙ sym (length-set records page r);
      listed = λ q. by-page (ListsResident roots new with_page) page q
          (among-push_same page order.pages ∙ (sym (above-roots page roots no_root)
          ∙ (ap (λ b. b && not (nat_lt page roots)) (sym resident)
          ∙ ap (mark roots page) (sym (record-same records page r lt)))))
          (λ other. among-push_other page q order.pages other
          ∙ (old.listed q ∙ ap (mark roots q) (sym (record-other records page q r other))));
      ordered = AreInOrder-push (used_at new) page order.pages
          (AreInOrder-same (used_at records) (used_at new) order.pages old.ordered (λ q among. ⊎_elim
          (λ same. let some : is_among order.pages page ≡ true =
          subst (λ p. is_among order.pages p ≡ true) same among in cc)
          (λ other. used-other records page r q other)
          (cases_eq q page)))
          (before-last records page r order.pages lt absent (λ q other among. inl (later q)));
    }

-- a page that is used, after all that were used before it or with it
pub IsUseOrder-use : (roots : ℕ) (records : List PageRecord) (order : ListedPages) (page : ℕ) (r : PageRecord) →
    page < length records → IsUseOrder roots records order → is_among order.pages page ≡ true →
    r.resident ≡ (record_at records page).resident →
    ((q : ℕ) → q ≢ page → (used_at records q < r.last_used) ⊎ ((used_at records q ≡ r.last_used) × (page < q))) →
    IsUseOrder roots (set records page r) (record order { pages = without page order.pages ++ page ∷ [] })
IsUseOrder-use roots records order page r lt old present resident later =
    let new = set records page r in
    let left = without page order.pages in
    let absent = among-from_lacks left page (Lacks-without_same page order.pages) in
    record {
      capacity = old.capacity ∙ sym (length-set records page r);
      listed = λ q. by-page (ListsResident roots new (left ++ page ∷ [])) page q
          (among-push_same page left ∙ (sym present
          ∙ (old.listed page ∙ (ap (λ b. b && not (nat_lt page roots)) (sym resident)
          ∙ ap (mark roots page) (sym (record-same records page r lt))))))
          (λ other. among-push_other page q left other
          ∙ (among-without_other page q order.pages other
          ∙ (old.listed q ∙ ap (mark roots q) (sym (record-other records page q r other)))));
      ordered = AreInOrder-push (used_at new) page left
          (without-page records page r order.pages old.ordered)
          (before-last records page r left lt absent (λ q other among. later q other));
    }

-- a root page that is used is in no order
pub IsUseOrder-use_root : (roots : ℕ) (records : List PageRecord) (order : ListedPages) (page : ℕ) (r : PageRecord) →
    page < length records → IsUseOrder roots records order → page < roots →
    r.resident ≡ (record_at records page).resident → IsUseOrder roots (set records page r) order
IsUseOrder-use_root roots records order page r lt old root resident =
    let new = set records page r in
    let below : nat_lt page roots ≡ true = grind (arith, nat_tests) in
    let unlisted : is_among order.pages page ≡ false = old.listed page
    ∙ rw below (no-mark (record_at records page).resident) in
    record {
      capacity = old.capacity ∙ sym (length-set records page r);
      listed = λ q. by-page (ListsResident roots new order.pages) page q
          (old.listed page ∙ (ap (λ b. b && not (nat_lt page roots)) (sym resident)
          ∙ ap (mark roots page) (sym (record-same records page r lt))))
          (λ other. old.listed q ∙ ap (mark roots q) (sym (record-other records page q r other)));
      ordered = AreInOrder-same (used_at records) (used_at new) order.pages old.ordered (λ q among. ⊎_elim
          (λ same. let some : is_among order.pages page ≡ true =
          subst (λ p. is_among order.pages p ≡ true) same among in cc)
          (λ other. used-other records page r q other)
          (cases_eq q page));
    }
  where
    no-mark : (b : Bool) → (b && not true) ≡ false
    no-mark true = refl
    no-mark false = refl

-- ---- which records are held

pub held-resident : (r : PageRecord) → r.resident ≡ true → is_record_held r ≡ true
held-resident r h = or-left r.resident (is_some r.loader) h

pub held-loading : (r : PageRecord) → is_some r.loader ≡ true → is_record_held r ≡ true
held-loading r h = or-right r.resident (is_some r.loader) h

pub held-neither : (r : PageRecord) → r.resident ≡ false → is_some r.loader ≡ false → is_record_held r ≡ false
held-neither r h k = rw (h, k) refl

pub held-alike : (r q : PageRecord) → r.resident ≡ q.resident → r.loader ≡ q.loader →
    is_record_held r ≡ is_record_held q
held-alike r q h k = ap (λ b. b || is_some r.loader) h ∙ ap (λ loader. q.resident || is_some loader) k
