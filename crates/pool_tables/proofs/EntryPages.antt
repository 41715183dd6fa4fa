-- The records of the pages agree with the state after each kind of entry.
use Rattle.std.proofs.Common.{◌≡◌, ℕ, ◌+◌, ◌<◌, ◌≤◌, nat_lt, List, [], ◌∷◌, Bool, true, false, not, ◌||◌, ⊎_elim}
use Rattle.std.proofs.Common.{Option, Some, None, is_some, get_or, set, refl, sym, ap, ◌∙◌, arith, length-set}
use Rattle.std.specs.List.{list_all}
use Rattle.std.proofs.lemmas.Bool.Decides.{nat_tests, Decides-ltb}
use Rattle.journal.specs.declared.entries.What.TheVariants.{Settle, Narrow, Take, Install}
use Rattle.journal.specs.declared.layouts.Layout.{Layout}
use Rattle.journal.specs.Layout.{InBounds, uppers_of}
use Rattle.geom_core.specs.declared.digests.Digest32.{Digest32}
use Rattle.pool_rules.specs.Next.{can_take}
use Rattle.pool_rules.specs.Rules.{loads}
use Rattle.pool_rules.specs.Sound.{IsSound}
use Rattle.pool_rules.specs.State.{State, is_resident, is_loading, is_held, state_after, set_last_used}
use Rattle.pool_rules.specs.Victim.{is_evictable}
use Rattle.pool_rules.proofs.Allowed.{installed-absent, installed-below}
use Rattle.pool_rules.proofs.Flags.{get_or-set_cases, place-within}
use Rattle.pool_rules.proofs.Lengths.{HasItemAPage}
use Rattle.pool_rules.proofs.Soundness.{loose, loads-loading, held-not}
use Rattle.pool_rules.proofs.Tests.{and-both, not-false}
use Rattle.pool_tables.specs.Changes.{AreUsed, HaveMoreDependents, HaveFewerDependents}
use Rattle.pool_tables.specs.PageRecords.{PageRecords, record_at, with_record}
use Rattle.pool_tables.specs.PoolPages.{ArePagesOf}
use Rattle.pool_tables.proofs.PageEvents.{ArePagesOf-evicted, ArePagesOf-taken, ArePagesOf-ended, ArePagesOf-installed}
use Rattle.pool_tables.proofs.PageEvents.{ArePagesOf-used}
use Rattle.pool_tables.proofs.PoolPages.{dependents-same}

-- an entry that changes neither residency nor loads nor last uses
pub ArePagesOf-again : (layout : Layout) (s t : State) (table : PageRecords) → t.resident ≡ s.resident →
    t.loading ≡ s.loading → t.last_used ≡ s.last_used → ArePagesOf layout s table → ArePagesOf layout t table
ArePagesOf-again layout s t table resident loading last_used are = record {
  roots = are.roots;
  resident = are.resident ∙ sym resident;
  loading = are.loading ∙ sym loading;
  last_used = are.last_used ∙ sym last_used;
  dependents = λ page. are.dependents page ∙ sym (dependents-same layout s t page (λ q.
      ap (λ flags. get_or flags q false || is_some (get_or t.loading q None)) resident
      ∙ ap (λ makers. is_resident s q || is_some (get_or makers q None)) loading));
}

-- ---- which pages the entries change

-- a page that is not resident is no root page
pub no-root : (layout : Layout) (s : State) (page : ℕ) → IsSound layout s → is_resident s page ≡ false →
    layout.roots ≤ page
no-root layout s page sound absent = above (nat_lt page layout.roots) refl
  where
    above : (b : Bool) → nat_lt page layout.roots ≡ b → layout.roots ≤ page
    above true e = let resident : is_resident s page ≡ true =
        sound.roots_stay page ((Decides-ltb page layout.roots).0 e) in cc
    above false e = grind (arith, nat_tests)

-- a page that can be taken is not held
pub taken-absent : (layout : Layout) (s : State) (page : ℕ) → can_take layout s page ≡ true → is_held s page ≡ false
taken-absent layout s page can =
    not-false (is_held s page) (and-both (not (is_held s page)) (list_all (is_resident s) (uppers_of layout page))
    can).0

-- a resident page is not being loaded
pub resident-idle : (layout : Layout) (s : State) (page : ℕ) → IsSound layout s → is_resident s page ≡ true →
    is_loading s page ≡ false
resident-idle layout s page sound resident = idle (is_loading s page) refl
  where
    idle : (b : Bool) → is_loading s page ≡ b → is_loading s page ≡ false
    idle true loading = absurd (sound.apart page resident loading)
    idle false not_loading = not_loading

pub resident-page : (layout : Layout) (s : State) (page : ℕ) → HasItemAPage layout s → is_resident s page ≡ true →
    page < layout.pages
resident-page layout s page lists resident =
    omega (arith, place-within (λ (b : Bool). b) s.resident page false refl resident, lists.flag_a_page)

above-roots : (page roots : ℕ) → nat_lt page roots ≡ false → roots ≤ page
above-roots page roots h = grind (arith, nat_tests)

-- ---- Take

-- the state in which the victim is no longer resident, and the page not yet being loaded
abbrev pub without_victim : State → ℕ → State
without_victim s victim = record s { resident = set s.resident victim false }

pub HasItemAPage-without : (layout : Layout) (s : State) (victim : ℕ) → HasItemAPage layout s →
    HasItemAPage layout (without_victim s victim)
HasItemAPage-without layout s victim lists = record {
  flag_a_page = length-set s.resident victim false ∙ lists.flag_a_page;
  maker_a_page = lists.maker_a_page;
}

pub still-absent : (s : State) (victim page : ℕ) → is_held s page ≡ false →
    is_held (without_victim s victim) page ≡ false
still-absent s victim page absent =
    let parts = held-not (is_resident s page) (is_loading s page) absent in
    let gone : get_or (set s.resident victim false) page false ≡ false =
    ⊎_elim (λ same. same ∙ parts.0) (λ here. here.1) (get_or-set_cases s.resident victim page false false) in
    ap (λ b. b || is_loading s page) gone ∙ parts.1

pub ArePagesOf-victim : (layout : Layout) (s : State) (page victim : ℕ) (old new : PageRecords) → InBounds layout →
    HasItemAPage layout s → IsSound layout s → ArePagesOf layout s old → is_evictable layout s page victim ≡ true →
    HaveFewerDependents (uppers_of layout victim)
    (with_record old victim (record (record_at old.records victim) { resident = false })) new →
    ArePagesOf layout (without_victim s victim) new
ArePagesOf-victim layout s page victim old new bounds lists sound are evictable fewer =
    let free = loose layout s page victim evictable in
    ArePagesOf-evicted layout s victim old new bounds lists are free.resident
    (resident-idle layout s victim sound free.resident) (above-roots victim layout.roots free.no_root)
    (resident-page layout s victim lists free.resident) fewer

pub ArePagesOf-take : (layout : Layout) (s : State) (by : ℕ) (frame : Option ℕ) (page : ℕ) (old new : PageRecords) →
    InBounds layout → HasItemAPage layout s → IsSound layout s → ArePagesOf layout s old →
    can_take layout s page ≡ true →
    page < layout.pages →
    HaveMoreDependents (uppers_of layout page)
    (with_record old page (record (record_at old.records page) { loader = Some (record { 0 = by }) })) new →
    ArePagesOf layout (state_after s (record { by = by; what = Take frame page None })) new
ArePagesOf-take layout s by frame page old new bounds lists sound are can below more =
    let absent = taken-absent layout s page can in
    let no_root = no-root layout s page sound (held-not (is_resident s page) (is_loading s page) absent).0 in
    ArePagesOf-again layout (record s { loading = set s.loading page (Some by) }) _ new refl refl refl
    (ArePagesOf-taken layout s page by old new bounds lists are absent no_root below more)

pub ArePagesOf-take_for : (layout : Layout) (s : State) (by : ℕ) (frame : Option ℕ) (page victim : ℕ)
    (mid new : PageRecords) →
    InBounds layout → HasItemAPage layout s → IsSound layout s → ArePagesOf layout (without_victim s victim) mid →
    can_take layout s page ≡ true → page < layout.pages →
    HaveMoreDependents (uppers_of layout page)
    (with_record mid page (record (record_at mid.records page) { loader = Some (record { 0 = by }) })) new →
    ArePagesOf layout (state_after s (record { by = by; what = Take frame page (Some victim) })) new
ArePagesOf-take_for layout s by frame page victim mid new bounds lists sound are can below more =
    let t = without_victim s victim in
    let absent = taken-absent layout s page can in
    let no_root = no-root layout s page sound (held-not (is_resident s page) (is_loading s page) absent).0 in
    ArePagesOf-again layout (record t { loading = set s.loading page (Some by) }) _ new refl refl refl
    (ArePagesOf-taken layout t page by mid new bounds (HasItemAPage-without layout s victim lists) are
    (still-absent s victim page absent) no_root below more)

-- ---- Install, Fail, Spoil and Starve

pub ArePagesOf-install : (layout : Layout) (s : State) (by page : ℕ) (digest : Digest32) (old : PageRecords) →
    HasItemAPage layout s → ArePagesOf layout s old → loads s by page ≡ true →
    ArePagesOf layout (state_after s (record { by = by; what = Install page digest }))
    (with_record old page (record (record_at old.records page) {
      resident = true;
      loader = None;
      last_used = s.entries + 1;
      installed_at = s.entries + 1;
      load_ended_at = s.entries + 1;
    }))
ArePagesOf-install layout s by page digest old lists are loads =
    ArePagesOf-again layout
    (record s {
      resident = set s.resident page true;
      loading = set s.loading page None;
      last_used = set_last_used (s.entries + 1) (page ∷ []) s.last_used;
    }) _ _ refl refl refl
    (ArePagesOf-installed layout s page (s.entries + 1) old lists are (loads-loading s by page loads)
    (omega (arith, installed-below layout s by page lists loads, lists.flag_a_page)))

-- a load that ends without an Install
pub ArePagesOf-lost : (layout : Layout) (s : State) (by page : ℕ) (old new : PageRecords) → InBounds layout →
    HasItemAPage layout s → IsSound layout s → ArePagesOf layout s old → loads s by page ≡ true →
    HaveFewerDependents (uppers_of layout page)
    (with_record old page (record (record_at old.records page) { loader = None; load_ended_at = s.entries + 1 })) new →
    ArePagesOf layout (record s { loading = set s.loading page None }) new
ArePagesOf-lost layout s by page old new bounds lists sound are loads fewer =
    let absent = installed-absent layout s by page sound loads in
    ArePagesOf-ended layout s page (s.entries + 1) old new bounds lists are absent (loads-loading s by page loads)
    (no-root layout s page sound absent) (omega
    (arith, installed-below layout s by page lists loads, lists.flag_a_page)) fewer

-- ---- Settle and Narrow

pub ArePagesOf-settle : (layout : Layout) (s : State) (by frame : ℕ) (pages missing : List ℕ) (old new : PageRecords) →
    ArePagesOf layout s old → AreUsed (s.entries + 1) pages old new →
    ArePagesOf layout (state_after s (record { by = by; what = Settle frame pages missing })) new
ArePagesOf-settle layout s by frame pages missing old new are used =
    ArePagesOf-again layout (record s { last_used = set_last_used (s.entries + 1) pages s.last_used }) _ new refl refl
    refl
    (ArePagesOf-used layout s (s.entries + 1) pages old new are used)

pub ArePagesOf-narrow : (layout : Layout) (s : State) (by frame : ℕ) (pages : List ℕ) (old new : PageRecords) →
    ArePagesOf layout s old → AreUsed (s.entries + 1) pages old new →
    ArePagesOf layout (state_after s (record { by = by; what = Narrow frame pages })) new
ArePagesOf-narrow layout s by frame pages old new are used =
    ArePagesOf-again layout (record s { last_used = set_last_used (s.entries + 1) pages s.last_used }) _ new refl refl
    refl
    (ArePagesOf-used layout s (s.entries + 1) pages old new are used)
