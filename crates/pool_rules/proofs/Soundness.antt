-- Every legal journal leaves a sound state: the opening is sound, and each allowed entry keeps it so.
use Rattle.std.proofs.Common.{◌≡◌, ◌≢◌, ℕ, zero, suc, ◌+◌, ◌<◌, ◌≤◌, nat_lt, ◌==◌, List, [], ◌∷◌, Bool, true, false}
use Rattle.std.proofs.Common.{not, cond, ◌&&◌, ◌||◌, ◌⊎◌, inl, inr, ⊎_elim, Option, Some, None, is_some, get_or, set}
use Rattle.std.proofs.Common.{length, map, replicate, refl, sym, ap, ◌∙◌, arith, get_or-set_other, get_or-set_same}
use Rattle.std.specs.List.{count_by, list_any, list_all, range_with_len}
use Rattle.std.proofs.lemmas.Bool.Decides.{Decides-ltb}
use Rattle.std.proofs.lemmas.List.Folds.{list_any_at, sum_by-replicate}
use Rattle.std.proofs.lemmas.List.FromFn.{get_or-range_with_len, length-range_with_len, get_or-map-range_with_len}
use Rattle.std.proofs.lemmas.List.FromFn.{length-map-range_with_len, sum_by-map-range_with_len_more}
use Rattle.journal.specs.declared.entries.Entry.{Entry}
use Rattle.journal.specs.declared.entries.What.{What}
use Rattle.journal.specs.declared.entries.What.TheVariants.{Pin, Settle, Ask, Narrow, Unpin, Take, Install, Fail, Spoil}
use Rattle.journal.specs.declared.entries.What.TheVariants.{Starve, Full, Stop}
use Rattle.pool_rules.specs.Frame.{Frame}
use Rattle.pool_rules.specs.declared.want.Want.{Want}
use Rattle.journal.specs.declared.layouts.Layout.{Layout}
use Rattle.journal.specs.Layout.{InBounds, page_numbers, uppers_of, is_upper}
use Rattle.pool_rules.specs.Numbers.{holds}
use Rattle.pool_rules.specs.Next.{can_take, is_take, next_in}
use Rattle.pool_rules.specs.Rules.{allows, owns, pins, loads, all_resident, IsLegal}
use Rattle.pool_rules.specs.Sound.{IsSound}
use Rattle.pool_rules.specs.State.{State, is_resident, is_loading, is_held, held_count, initial_state, state_after}
use Rattle.pool_rules.specs.State.{state_of, replace_frame, marked, frame_after_install}
use Rattle.pool_rules.specs.Victim.{is_pinned, is_stood_on, is_evictable}
use Rattle.pool_rules.proofs.Arms.{settle-parts, narrow-pinned}
use Rattle.pool_rules.proofs.Choices.{IsTaken, IsTaken-from_next}
use Rattle.pool_rules.proofs.Flags.{get_or-set_cases, count_by-set_up, count_by-set_down, count_by-set_gone}
use Rattle.pool_rules.proofs.Flags.{place-within}
use Rattle.pool_rules.proofs.Lengths.{HasItemAPage, HasItemAPage-state_of}
use Rattle.pool_rules.proofs.LegalJournals.{state_of-push, legal-keeps}
use Rattle.pool_rules.proofs.Pinned.{pinned, pinned-put, pinned-installed, marked-listed}
use Rattle.pool_rules.proofs.Tests.{and-both, not-false, all-at_any, any-weaker, any-filter}

-- what is held is resident or loading
pub held-cases : (r l : Bool) → (r || l) ≡ true → (r ≡ true) ⊎ (l ≡ true)
held-cases true l h = inl refl
held-cases false l h = inr h

pub held-resident : (r l : Bool) → r ≡ true → (r || l) ≡ true
held-resident true l h = refl
held-resident false l h = cc

pub held-loading : (r l : Bool) → l ≡ true → (r || l) ≡ true
held-loading true l h = refl
held-loading false l h = h

pub held-not : (r l : Bool) → (r || l) ≡ false → (r ≡ false) × (l ≡ false)
held-not true l h = cc
held-not false l h = (refl, h)

-- a page that has an upper is a page of the layout
upper-page : (layout : Layout) (upper page : ℕ) → is_upper layout upper page ≡ true → page < length layout.uppers
upper-page layout upper page h = within layout.uppers page h
  where
    within : (all : List (List ℕ)) (p : ℕ) → list_any (λ u. u == upper) (get_or all p []) ≡ true → p < length all
    within [] p h = cc
    within (us ∷ all) zero h = omega arith
    within (us ∷ all) (suc p) h = omega (arith, within all p h)

-- a held page that stands on another shows in the test
stood_on : (layout : Layout) (s : State) (page q : ℕ) → q < layout.pages → is_held s q ≡ true →
    is_upper layout page q ≡ true → is_stood_on layout s page ≡ true
stood_on layout s page q below held upper =
    let test = λ (p : ℕ). is_held s p && is_upper layout page p in
    let at : get_or (range_with_len 0 layout.pages) q 0 ≡ q = get_or-range_with_len 0 layout.pages q 0 below
    ∙ omega arith in
    let here : (is_held s q && is_upper layout page q) ≡ true = rw (held, upper) in
    list_any_at test (page_numbers layout) q 0 (rw length-range_with_len below) (rw at here)

-- ---- the opening

pub root-resident : (layout : Layout) (page : ℕ) → page < layout.pages →
    is_resident (initial_state layout) page ≡ nat_lt page layout.roots
root-resident layout page below =
    get_or-map-range_with_len (λ p. nat_lt p layout.roots) 0 layout.pages page page false below (omega arith)

pub resident-root : (layout : Layout) (page : ℕ) → is_resident (initial_state layout) page ≡ true → page < layout.roots
resident-root layout page h =
    let flags = map (λ p. nat_lt p layout.roots) (page_numbers layout) in
    let below : page < layout.pages = rw length-map-range_with_len at (place-within (λ b. b) flags page false refl h) in
    (Decides-ltb page layout.roots).0 (sym (root-resident layout page below) ∙ h)

pub none-loading : (pages page : ℕ) → is_some {T = ℕ} (get_or (replicate pages None) page None) ≡ false
none-loading zero page = refl
none-loading (suc pages) zero = refl
none-loading (suc pages) (suc page) = none-loading pages page

none-counted : (pages : ℕ) → count_by (is_some {T = ℕ}) (replicate pages None) ≡ 0
none-counted pages = sum_by-replicate (λ maker. cond (is_some {T = ℕ} maker) 1 0) pages None ∙ omega arith

abbrev one : Bool → ℕ
one b = cond b 1 0

abbrev rooted : ℕ → ℕ → ℕ
rooted roots n = count_by (λ b. b) (map (λ p. nat_lt p roots) (range_with_len 0 n))

rooted-more : (roots n : ℕ) → rooted roots (suc n) ≡ rooted roots n + one (nat_lt n roots)
rooted-more roots n =
    let e : suc n ≡ n + 1 = omega arith in
    ap (rooted roots) e ∙ sum_by-map-range_with_len_more one (λ p. nat_lt p roots) 0 n n (omega arith)

-- at most the roots are below the roots
abbrev IsFew : ℕ → ℕ → ℕ → Type 0
IsFew roots n count = (count ≤ roots) × (count ≤ n)

few-more : (roots n count next : ℕ) (b : Bool) → nat_lt n roots ≡ b → next ≡ count + one b → IsFew roots n count →
    IsFew roots (suc n) next
few-more roots n count next true e step few =
    let below = (Decides-ltb n roots).0 e in
    (omega (arith, few.0, few.1), omega (arith, few.0, few.1))
few-more roots n count next false e step few = (omega (arith, few.0, few.1), omega (arith, few.0, few.1))

roots-counted : (roots n : ℕ) → IsFew roots n (rooted roots n)
roots-counted roots zero = (omega arith, omega arith)
roots-counted roots (suc n) =
    few-more roots n (rooted roots n) (rooted roots (suc n)) (nat_lt n roots) refl (rooted-more roots n)
    (roots-counted roots n)

-- an upper lies below its page
pub upper-below : (layout : Layout) (page upper : ℕ) → InBounds layout → page < layout.pages →
    is_upper layout upper page ≡ true → upper < page
upper-below layout page upper bounds below h =
    (Decides-ltb upper page).0 (all-at_any (λ u. nat_lt u page) (uppers_of layout page) upper
    (bounds.uppers page (omega (arith, below, bounds.list_a_page))).1 h)

opening-uppers : (layout : Layout) (page upper : ℕ) → InBounds layout → is_held (initial_state layout) page ≡ true →
    is_upper layout upper page ≡ true → is_resident (initial_state layout) upper ≡ true
opening-uppers layout page upper bounds held h =
    ⊎_elim
    (λ resident.
    let root = resident-root layout page resident in
    let below = upper-below layout page upper bounds (omega (arith, bounds.counts.roots_are_pages)) h in
    root-resident layout upper (omega (arith, bounds.counts.roots_are_pages))
    ∙ (Decides-ltb upper layout.roots).1 (omega arith))
    (λ loading. let none = none-loading layout.pages page in cc)
    (held-cases (is_resident (initial_state layout) page) (is_loading (initial_state layout) page) held)

pub IsSound-opening : (layout : Layout) → InBounds layout → IsSound layout (initial_state layout)
IsSound-opening layout bounds = record {
  roots_stay = λ page root. root-resident layout page (omega (arith, bounds.counts.roots_are_pages))
      ∙ (Decides-ltb page layout.roots).1 root;
  uppers_stay = λ page upper held h. opening-uppers layout page upper bounds held h;
  apart = λ page resident loading. let none = none-loading layout.pages page in cc;
  within_slots = omega (
    arith,
    (roots-counted layout.roots layout.pages).0,
    none-counted layout.pages,
    bounds.counts.roots_fit,
  );
  pins_stay = λ page pinned. cc;
}

-- ---- the entries

-- an entry that changes no more than the pins
repinned : (layout : Layout) (s : State) (frames : List Frame) (wants : List Want) (last_used : List ℕ) (stopped : Bool)
    (entries : ℕ) → IsSound layout s → ((page : ℕ) → pinned page frames ≡ true → is_resident s page ≡ true) →
    IsSound layout (record {
      resident = s.resident;
      loading = s.loading;
      frames = frames;
      wants = wants;
      last_used = last_used;
      stopped = stopped;
      entries = entries;
    })
repinned layout s frames wants last_used stopped entries sound pins = record {
  roots_stay = sound.roots_stay;
  uppers_stay = sound.uppers_stay;
  apart = sound.apart;
  within_slots = sound.within_slots;
  pins_stay = pins;
}

-- a page that is loading after the end of a load was before
was-loading : (loading : List (Option ℕ)) (ended page : ℕ) →
    is_some (get_or (set loading ended None) page None) ≡ true → is_some (get_or loading page None) ≡ true
was-loading loading ended page h =
    ⊎_elim (λ same. rw same at h) (λ here. let none : is_some {T = ℕ} None ≡ true = rw here.1 at h in cc)
    (get_or-set_cases loading ended page None None)

-- the end of a load
unloaded : (layout : Layout) (s : State) (ended : ℕ) (wants : List Want) (last_used : List ℕ) (stopped : Bool)
    (entries : ℕ) → IsSound layout s →
    IsSound layout (record {
      resident = s.resident;
      loading = set s.loading ended None;
      frames = s.frames;
      wants = wants;
      last_used = last_used;
      stopped = stopped;
      entries = entries;
    })
unloaded layout s ended wants last_used stopped entries sound = record {
  roots_stay = sound.roots_stay;
  uppers_stay = λ page upper held h. sound.uppers_stay page upper (was-held page held) h;
  apart = λ page resident loading. sound.apart page resident (was-loading s.loading ended page loading);
  within_slots = omega (arith, sound.within_slots, count_by-set_down is_some s.loading ended None refl);
  pins_stay = sound.pins_stay;
}
  where
    was-held : (page : ℕ) → (is_resident s page || is_some (get_or (set s.loading ended None) page None)) ≡ true →
        is_held s page ≡ true
    was-held page held =
        ⊎_elim
        (λ resident. held-resident (is_resident s page) (is_loading s page) resident)
        (λ loading. held-loading (is_resident s page) (is_loading s page) (was-loading s.loading ended page loading))
        (held-cases (is_resident s page) (is_some (get_or (set s.loading ended None) page None)) held)

-- a page that is loading after a Take was before, or is the one taken
loading-taken : (loading : List (Option ℕ)) (taken by page : ℕ) →
    is_some (get_or (set loading taken (Some by)) page None) ≡ true →
    (page ≡ taken) ⊎ (is_some (get_or loading page None) ≡ true)
loading-taken loading taken by page h =
    ⊎_elim (λ same. inr (rw same at h)) (λ here. inl here.0) (get_or-set_cases loading taken page (Some by) None)

-- the uppers of what is held after a Take were resident before it
taken-uppers : (layout : Layout) (s : State) (taken by : ℕ) → IsSound layout s → can_take layout s taken ≡ true →
    (r : Bool) (page upper : ℕ) → (r ≡ true → is_resident s page ≡ true) →
    (r || is_some (get_or (set s.loading taken (Some by)) page None)) ≡ true → is_upper layout upper page ≡ true →
    is_resident s upper ≡ true
taken-uppers layout s taken by sound can r page upper was held h =
    let all = (and-both (not (is_held s taken)) (list_all (is_resident s) (uppers_of layout taken)) can).1 in
    ⊎_elim
    (λ resident. sound.uppers_stay page upper (held-resident (is_resident s page) (is_loading s page) (was resident)) h)
    (λ loading.
    ⊎_elim
    (λ same. all-at_any (is_resident s) (uppers_of layout taken) upper all (rw same at h))
    (λ old. sound.uppers_stay page upper (held-loading (is_resident s page) (is_loading s page) old) h)
    (loading-taken s.loading taken by page loading))
    (held-cases r (is_some (get_or (set s.loading taken (Some by)) page None)) held)

-- a page that can be taken is not resident
taken-absent : (layout : Layout) (s : State) (taken : ℕ) → can_take layout s taken ≡ true → is_resident s taken ≡ false
taken-absent layout s taken can =
    (held-not (is_resident s taken) (is_loading s taken)
    (not-false (is_held s taken) (and-both (not (is_held s taken))
    (list_all (is_resident s) (uppers_of layout taken)) can).0)).0

-- a Take into a free slot
taken-free : (layout : Layout) (s : State) (taken by : ℕ) (entries : ℕ) → IsSound layout s →
    can_take layout s taken ≡ true → held_count s < layout.slots →
    IsSound layout (record {
      resident = s.resident;
      loading = set s.loading taken (Some by);
      frames = s.frames;
      wants = s.wants;
      last_used = s.last_used;
      stopped = s.stopped;
      entries = entries;
    })
taken-free layout s taken by entries sound can free = record {
  roots_stay = sound.roots_stay;
  uppers_stay = λ page upper held h. taken-uppers layout s taken by sound can (is_resident s page) page upper (λ r. r)
      held h;
  apart = λ page resident loading. ⊎_elim (λ same. let absent = taken-absent layout s taken can in
      let here : is_resident s taken ≡ true = rw same at resident in cc) (λ old. sound.apart page resident old)
      (loading-taken s.loading taken by page loading);
  within_slots = omega (arith, count_by-set_up is_some s.loading taken (Some by));
  pins_stay = sound.pins_stay;
}

-- what is known of a page that may be evicted
pub record IsLoose (layout : Layout) (s : State) (page victim : ℕ) : Type 0 where
  pub resident : is_resident s victim ≡ true
  pub no_root : nat_lt victim layout.roots ≡ false
  pub unpinned : is_pinned s victim ≡ false
  pub bare : is_stood_on layout s victim ≡ false
  pub no_upper : is_upper layout victim page ≡ false

pub loose : (layout : Layout) (s : State) (page victim : ℕ) → is_evictable layout s page victim ≡ true →
    IsLoose layout s page victim
loose layout s page victim h =
    let root = nat_lt victim layout.roots in
    let pin = is_pinned s victim in
    let stood = is_stood_on layout s victim in
    let upper = is_upper layout victim page in
    let a = and-both (is_resident s victim) (not root && (not pin && (not stood && not upper))) h in
    let b = and-both (not root) (not pin && (not stood && not upper)) a.1 in
    let c = and-both (not pin) (not stood && not upper) b.1 in
    let d = and-both (not stood) (not upper) c.1 in
    record {
      resident = a.0;
      no_root = not-false root b.0;
      unpinned = not-false pin c.0;
      bare = not-false stood d.0;
      no_upper = not-false upper d.1;
    }

-- a page that is resident after an eviction was before
was-resident : (resident : List Bool) (victim page : ℕ) → get_or (set resident victim false) page false ≡ true →
    get_or resident page false ≡ true
was-resident resident victim page h =
    ⊎_elim (λ same. rw same at h) (λ here. cc) (get_or-set_cases resident victim page false false)

-- every other page stays
still-resident : (resident : List Bool) (victim page : ℕ) → page ≢ victim → get_or resident page false ≡ true →
    get_or (set resident victim false) page false ≡ true
still-resident resident victim page other h = get_or-set_other resident victim page false false other ∙ h

-- an upper of what is held after the Take is no victim of it
no-victim : (layout : Layout) (s : State) (taken by victim : ℕ) → InBounds layout → IsLoose layout s taken victim →
    (r : Bool) (page upper : ℕ) → (r ≡ true → is_resident s page ≡ true) →
    (r || is_some (get_or (set s.loading taken (Some by)) page None)) ≡ true → is_upper layout upper page ≡ true →
    upper ≢ victim
no-victim layout s taken by victim bounds free r page upper was held h same =
    let up : is_upper layout victim page ≡ true = rw same at h in
    let below : page < layout.pages = omega (arith, upper-page layout victim page up, bounds.list_a_page) in
    ⊎_elim
    (λ resident. let stood = stood_on layout s victim page below
    (held-resident (is_resident s page) (is_loading s page) (was resident)) up in let bare = free.bare in cc)
    (λ loading.
    ⊎_elim
    (λ here. let no = free.no_upper in let yes : is_upper layout victim taken ≡ true = rw here at up in cc)
    (λ old. let stood = stood_on layout s victim page below (held-loading (is_resident s page) (is_loading s page) old)
    up in let bare = free.bare in cc)
    (loading-taken s.loading taken by page loading))
    (held-cases r (is_some (get_or (set s.loading taken (Some by)) page None)) held)

-- a Take for a victim
taken-for : (layout : Layout) (s : State) (taken by victim : ℕ) (entries : ℕ) → InBounds layout → IsSound layout s →
    can_take layout s taken ≡ true → IsLoose layout s taken victim →
    IsSound layout (record {
      resident = set s.resident victim false;
      loading = set s.loading taken (Some by);
      frames = s.frames;
      wants = s.wants;
      last_used = s.last_used;
      stopped = s.stopped;
      entries = entries;
    })
taken-for layout s taken by victim entries bounds sound can free = record {
  roots_stay = λ page root. still-resident s.resident victim page
      (λ same. let no = free.no_root in let yes : nat_lt victim layout.roots ≡ true =
      (Decides-ltb victim layout.roots).1 (rw same at root) in cc) (sound.roots_stay page root);
  uppers_stay = λ page upper held h. still-resident s.resident victim upper
      (no-victim layout s taken by victim bounds free (get_or (set s.resident victim false) page false) page upper
      (was-resident s.resident victim page) held h)
      (taken-uppers layout s taken by sound can (get_or (set s.resident victim false) page false) page upper
      (was-resident s.resident victim page) held h);
  apart = λ page resident loading. ⊎_elim (λ same. let absent = taken-absent layout s taken can in
      let here : is_resident s taken ≡ true = rw same at (was-resident s.resident victim page resident) in cc)
      (λ old. sound.apart page (was-resident s.resident victim page resident) old)
      (loading-taken s.loading taken by page loading);
  within_slots = omega (
    arith,
    sound.within_slots,
    count_by-set_up is_some s.loading taken (Some by),
    count_by-set_gone
        (λ b. b) s.resident victim false false refl refl free.resident,
  );
  pins_stay = λ page pins. still-resident s.resident victim page
      (λ same. let no = free.unpinned in let yes : is_pinned s victim ≡ true = rw same at pins in cc)
      (sound.pins_stay page pins);
}

-- a page that is resident stays so when another is installed
stays-resident : (resident : List Bool) (installed page : ℕ) → get_or resident page false ≡ true →
    get_or (set resident installed true) page false ≡ true
stays-resident resident installed page h =
    ⊎_elim (λ same. same ∙ h) (λ here. here.1) (get_or-set_cases resident installed page true false)

-- a page that is resident after an Install was before, or is the one installed
now-resident : (resident : List Bool) (installed page : ℕ) → get_or (set resident installed true) page false ≡ true →
    (page ≡ installed) ⊎ (get_or resident page false ≡ true)
now-resident resident installed page h =
    ⊎_elim (λ same. inr (rw same at h)) (λ here. inl here.0) (get_or-set_cases resident installed page true false)

-- an Install of a page that is being loaded
installed : (layout : Layout) (s : State) (page : ℕ) (wants : List Want) (last_used : List ℕ) (entries : ℕ) →
    HasItemAPage layout s → IsSound layout s → is_loading s page ≡ true →
    IsSound layout (record {
      resident = set s.resident page true;
      loading = set s.loading page None;
      frames = map (frame_after_install s.wants page) s.frames;
      wants = wants;
      last_used = last_used;
      stopped = s.stopped;
      entries = entries;
    })
installed layout s page wants last_used entries lists sound loads = record {
  roots_stay = λ p root. stays-resident s.resident page p (sound.roots_stay p root);
  uppers_stay = λ p upper held h. stays-resident s.resident page upper (sound.uppers_stay p upper (was-held p held) h);
  apart = λ p resident loading. ⊎_elim (λ same. gone p same loading)
      (λ old. sound.apart p old (was-loading s.loading page p loading)) (now-resident s.resident page p resident);
  within_slots = omega (
    arith,
    sound.within_slots,
    count_by-set_up (λ b. b) s.resident page true,
    count_by-set_gone
        is_some s.loading page None None refl refl loads,
  );
  pins_stay = λ p pins. ⊎_elim (λ same. rw same here) (λ old. stays-resident s.resident page p (sound.pins_stay p old))
      (pinned-installed s.wants page p s.frames pins);
}
  where
    within : page < length s.loading
    within = place-within is_some s.loading page None refl loads

    here : get_or (set s.resident page true) page false ≡ true
    here = get_or-set_same s.resident page true false (omega (arith, within, lists.flag_a_page, lists.maker_a_page))

    gone : (p : ℕ) → p ≡ page → is_some (get_or (set s.loading page None) p None) ≡ true → ⊥
    gone p same loading =
        let none : get_or (set s.loading page None) page None ≡ None =
        get_or-set_same s.loading page None None within in
        let some : is_some (get_or (set s.loading page None) page None) ≡ true = rw same at loading in
        let never : is_some {T = ℕ} None ≡ true = rw none at some in
        cc

    was-held : (p : ℕ) → (get_or (set s.resident page true) p false || is_some
        (get_or (set s.loading page None) p None)) ≡ true → is_held s p ≡ true
    was-held p held =
        ⊎_elim
        (λ resident. ⊎_elim
        (λ same. held-loading (is_resident s p) (is_loading s p) (rw same loads))
        (λ old. held-resident (is_resident s p) (is_loading s p) old)
        (now-resident s.resident page p resident))
        (λ loading. held-loading (is_resident s p) (is_loading s p) (was-loading s.loading page p loading))
        (held-cases (get_or (set s.resident page true) p false) (is_some (get_or (set s.loading page None) p None))
        held)

holds-some : (maker : Option ℕ) (by : ℕ) → holds maker by ≡ true → is_some maker ≡ true
holds-some None by h = cc
holds-some (Some m) by h = refl

pub loads-loading : (s : State) (by page : ℕ) → loads s by page ≡ true → is_loading s page ≡ true
loads-loading s by page h = holds-some (get_or s.loading page None) by h

-- the pages of a Settle are resident, so its pins are
settled-pins : (layout : Layout) (s : State) (f : Frame) (pages : List ℕ) → IsSound layout s →
    f.pins ≡ marked (length s.resident) pages → all_resident s pages ≡ true → (page : ℕ) →
    pinned page (replace_frame f s.frames) ≡ true → is_resident s page ≡ true
settled-pins layout s f pages sound pins all page h =
    ⊎_elim
    (λ new. all-at_any (is_resident s) pages page all (marked-listed (length s.resident) pages page (rw pins at new)))
    (λ old. sound.pins_stay page old)
    (pinned-put page f s.frames h)

-- the pages of a Narrow are pinned, so they are resident
narrowed-pins : (layout : Layout) (s : State) (f : Frame) (pages : List ℕ) → IsSound layout s →
    f.pins ≡ marked (length s.resident) pages → list_all (pins s f.number) pages ≡ true → (page : ℕ) →
    pinned page (replace_frame f s.frames) ≡ true → is_resident s page ≡ true
narrowed-pins layout s f pages sound own all page h =
    ⊎_elim
    (λ new.
    let listed = marked-listed (length s.resident) pages page (rw own at new) in
    let was : pins s f.number page ≡ true = all-at_any (pins s f.number) pages page all listed in
    sound.pins_stay page (any-weaker (λ g. (g.number == f.number) && get_or g.pins page false)
    (λ g. get_or g.pins page false) s.frames
    (λ g k. (and-both (g.number == f.number) (get_or g.pins page false) k).1) was))
    (λ old. sound.pins_stay page old)
    (pinned-put page f s.frames h)

pinned-now : (layout : Layout) (s : State) (by frame : ℕ) → IsSound layout s → (page : ℕ) →
    pinned page (replace_frame (record { number = frame; owner = by; pins = s.resident }) s.frames) ≡ true →
    is_resident s page ≡ true
pinned-now layout s by frame sound page h =
    ⊎_elim (λ new. new) (λ old. sound.pins_stay page old)
    (pinned-put page (record { number = frame; owner = by; pins = s.resident }) s.frames h)

-- a Take, whichever its frame
taken : (layout : Layout) (s : State) (by : ℕ) (frame : Option ℕ) (page : ℕ) (victim : Option ℕ) → InBounds layout →
    IsSound layout s → IsTaken layout s page victim →
    IsSound layout (state_after s (record { by = by; what = Take frame page victim }))
taken layout s by frame page None bounds sound told =
    ⊎_elim (λ free. taken-free layout s page by (s.entries + 1) sound told.takeable free.1) (λ evicts. cc) told.room
taken layout s by frame page (Some victim) bounds sound told =
    ⊎_elim
    (λ free. cc)
    (λ evicts.
    let same : evicts.0 ≡ victim = cc in
    taken-for layout s page by victim (s.entries + 1) bounds sound told.takeable
    (loose layout s page victim (rw same at evicts.2)))
    told.room

-- each allowed entry leaves a sound state sound
pub IsSound-after : (layout : Layout) (s : State) (journal : List Entry) (by : ℕ) (what : What) → InBounds layout →
    HasItemAPage layout s → IsSound layout s → allows layout s journal by what ≡ true →
    IsSound layout (state_after s (record { by = by; what = what }))
IsSound-after layout s journal by (Pin frame) bounds lists sound h =
    repinned layout s _ s.wants s.last_used s.stopped (s.entries + 1) sound (pinned-now layout s by frame sound)
IsSound-after layout s journal by (Settle frame pages missing) bounds lists sound h =
    let parts = settle-parts layout s journal by frame pages missing h in
    repinned layout s _ _ _ s.stopped (s.entries + 1) sound
    (settled-pins layout s (record { number = frame; owner = by; pins = marked (length s.resident) pages }) pages
    sound refl parts.resident)
IsSound-after layout s journal by (Ask frame pages) bounds lists sound h =
    repinned layout s s.frames _ s.last_used s.stopped (s.entries + 1) sound sound.pins_stay
IsSound-after layout s journal by (Narrow frame pages) bounds lists sound h =
    repinned layout s _ s.wants _ s.stopped (s.entries + 1) sound
    (narrowed-pins layout s (record { number = frame; owner = by; pins = marked (length s.resident) pages }) pages
    sound refl (narrow-pinned layout s journal by frame pages h))
IsSound-after layout s journal by (Unpin frame) bounds lists sound h =
    repinned layout s _ s.wants s.last_used s.stopped (s.entries + 1) sound
    (λ page k. sound.pins_stay page (any-filter (λ f. get_or f.pins page false) (λ f. not (f.number == frame))
    s.frames k))
IsSound-after layout s journal by (Take None page victim) bounds lists sound h =
    taken layout s by None page victim bounds sound
    (IsTaken-from_next layout s None page victim
    (and-both (not s.stopped) (is_take (next_in layout s None) page victim) h).1)
IsSound-after layout s journal by (Take (Some frame) page victim) bounds lists sound h =
    let a = and-both (not s.stopped) (is_take (next_in layout s (Some frame)) page victim && owns s by frame) h in
    let b = and-both (is_take (next_in layout s (Some frame)) page victim) (owns s by frame) a.1 in
    taken layout s by (Some frame) page victim bounds sound (IsTaken-from_next layout s (Some frame) page victim b.0)
IsSound-after layout s journal by (Install page digest) bounds lists sound h =
    installed layout s page _ _ (s.entries + 1) lists sound (loads-loading s by page h)
IsSound-after layout s journal by (Fail page before after) bounds lists sound h =
    unloaded layout s page _ s.last_used s.stopped (s.entries + 1) sound
IsSound-after layout s journal by (Spoil page why) bounds lists sound h =
    unloaded layout s page _ s.last_used s.stopped (s.entries + 1) sound
IsSound-after layout s journal by (Starve page) bounds lists sound h =
    unloaded layout s page _ s.last_used s.stopped (s.entries + 1) sound
IsSound-after layout s journal by (Full frame) bounds lists sound h =
    repinned layout s s.frames s.wants s.last_used s.stopped (s.entries + 1) sound sound.pins_stay
IsSound-after layout s journal by Stop bounds lists sound h =
    repinned layout s s.frames s.wants s.last_used true (s.entries + 1) sound sound.pins_stay

-- after every legal journal the state is sound
pub IsSound-state_of : (layout : Layout) (journal : List Entry) → InBounds layout → IsLegal layout journal →
    IsSound layout (state_of layout journal)
IsSound-state_of layout journal bounds legal =
    legal-keeps layout (λ j. IsSound layout (state_of layout j))
    (λ j e allowed sound. rw (state_of-push layout j e)
    (IsSound-after layout (state_of layout j) j e.by e.what bounds (HasItemAPage-state_of layout j) sound allowed))
    (IsSound-opening layout bounds) journal legal
