-- A frame that has settled and is left alone: each page that it misses is still wanted, or pinned, or failed.
use Rattle.std.proofs.Common.{◌≡◌, ℕ, ◌==◌, ◌<◌, nat_lt, List, [], ◌∷◌, ◌++◌, Bool, true, false, not, cond, ◌&&◌, ◌||◌}
use Rattle.std.proofs.Common.{◌⊎◌, inl, inr, ⊎_elim, get_or, set, replicate, length, map, refl, ap, ◌∙◌, arith}
use Rattle.std.proofs.Common.{append-nil, append_assoc, get_or-set_same, length-set}
use Rattle.std.proofs.lemmas.Bool.Decides.{Decides-eqb, Decides-ltb}
use Rattle.std.proofs.lemmas.List.{length-replicate}
use Rattle.std.proofs.lemmas.List.Elements.{All-nil, All-cons, All-head, All-tail, All-filter}
use Rattle.std.specs.List.{All, list_any}
use Rattle.journal.specs.declared.entries.Entry.{Entry}
use Rattle.journal.specs.declared.entries.What.{What}
use Rattle.journal.specs.declared.entries.What.TheVariants.{Pin, Settle, Ask, Narrow, Unpin, Take, Install, Fail, Spoil}
use Rattle.journal.specs.declared.entries.What.TheVariants.{Starve, Full, Stop}
use Rattle.journal.specs.declared.layouts.Layout.{Layout}
use Rattle.journal.specs.Layout.{all_below}
use Rattle.pool_rules.specs.Events.{changes_frame, has_failed, page_failed}
use Rattle.pool_rules.specs.Frame.{Frame}
use Rattle.pool_rules.specs.declared.want.Want.{Want}
use Rattle.pool_rules.specs.Numbers.{holds, is_among}
use Rattle.pool_rules.specs.Rules.{pins, all_resident}
use Rattle.pool_rules.specs.State.{State, is_resident, is_live, waits_for, marked, replace_frame, frame_after_install}
use Rattle.pool_rules.specs.State.{frames_after, wants_after, wants_of, wants_of_others, wants_without, state_after}
use Rattle.pool_rules.specs.State.{state_of}
use Rattle.pool_rules.specs.Settled.{is_left_alone}
use Rattle.pool_rules.proofs.Flags.{get_or-set_cases, place-within}
use Rattle.pool_rules.proofs.LegalJournals.{state_of-push}
use Rattle.pool_rules.proofs.Lengths.{HasItemAPage-state_of}
use Rattle.pool_rules.proofs.Pinned.{mark_all}
use Rattle.pool_rules.proofs.Tests.{both, eqb-refl, and-both, same-eqb, or-cases, or-left, or-right, all-at_any}
use Rattle.pool_rules.proofs.Tests.{any-filter_kept, any-map, any-append_left, any-append_right}

-- ---- each frame has a mark for each page

abbrev HaveMarks : ℕ → List Frame → Type 0
HaveMarks count frames = All (λ f. length f.pins ≡ count) frames

length-mark_all : (start : List Bool) (pages : List ℕ) → length (mark_all start pages) ≡ length start
length-mark_all start [] = refl
length-mark_all start (p ∷ pages) = length-mark_all (set start p true) pages ∙ length-set start p true

length-marked : (count : ℕ) (pages : List ℕ) → length (marked count pages) ≡ count
length-marked count pages = length-mark_all (replicate count false) pages ∙ length-replicate count false

HaveMarks-replaced : (count : ℕ) (f : Frame) (frames : List Frame) → length f.pins ≡ count → HaveMarks count frames →
    HaveMarks count (replace_frame f frames)
HaveMarks-replaced count f [] own marks = All-cons (λ g. length g.pins ≡ count) f [] own marks
HaveMarks-replaced count f (g ∷ frames) own marks =
    let first = All-head (λ h. length h.pins ≡ count) g frames marks in
    let rest = All-tail (λ h. length h.pins ≡ count) g frames marks in
    elim (g.number == f.number) as (λ b. HaveMarks count (cond b (f ∷ frames) (g ∷ replace_frame f frames))) [
      | true ↦ All-cons (λ h. length h.pins ≡ count) f frames own rest
      | false ↦ All-cons (λ h. length h.pins ≡ count) g (replace_frame f frames) first
          (HaveMarks-replaced count f frames own rest)
    ]

length-installed : (wants : List Want) (page : ℕ) (f : Frame) →
    length (frame_after_install wants page f).pins ≡ length f.pins
length-installed wants page f =
    elim (waits_for wants f.number page) as (λ b. length (cond b (record f { pins = set f.pins page true }) f).pins
    ≡ length f.pins)
    [ true ↦ length-set f.pins page true | false ↦ refl ]

HaveMarks-installed : (count : ℕ) (wants : List Want) (page : ℕ) (frames : List Frame) → HaveMarks count frames →
    HaveMarks count (map (frame_after_install wants page) frames)
HaveMarks-installed count wants page [] marks = All-nil (λ g. length g.pins ≡ count)
HaveMarks-installed count wants page (f ∷ frames) marks =
    All-cons (λ g. length g.pins ≡ count) (frame_after_install wants page f)
    (map (frame_after_install wants page) frames)
    (length-installed wants page f ∙ All-head (λ g. length g.pins ≡ count) f frames marks)
    (HaveMarks-installed count wants page frames (All-tail (λ g. length g.pins ≡ count) f frames marks))

HaveMarks-after : (count : ℕ) (s : State) (by : ℕ) (what : What) → length s.resident ≡ count →
    HaveMarks count s.frames → HaveMarks count (frames_after s by what)
HaveMarks-after count s by (Pin frame) lists marks = HaveMarks-replaced count _ s.frames lists marks
HaveMarks-after count s by (Settle frame pages missing) lists marks =
    HaveMarks-replaced count _ s.frames (length-marked (length s.resident) pages ∙ lists) marks
HaveMarks-after count s by (Ask frame pages) lists marks = marks
HaveMarks-after count s by (Narrow frame pages) lists marks =
    HaveMarks-replaced count _ s.frames (length-marked (length s.resident) pages ∙ lists) marks
HaveMarks-after count s by (Unpin frame) lists marks =
    All-filter (λ f. not (f.number == frame)) (λ g. length g.pins ≡ count) s.frames marks
HaveMarks-after count s by (Take frame page victim) lists marks = marks
HaveMarks-after count s by (Install page digest) lists marks = HaveMarks-installed count s.wants page s.frames marks
HaveMarks-after count s by (Fail page before after) lists marks = marks
HaveMarks-after count s by (Spoil page why) lists marks = marks
HaveMarks-after count s by (Starve page) lists marks = marks
HaveMarks-after count s by (Full frame) lists marks = marks
HaveMarks-after count s by Stop lists marks = marks

marks-through : (layout : Layout) (earlier later : List Entry) →
    HaveMarks layout.pages (state_of layout earlier).frames →
    HaveMarks layout.pages (state_of layout (earlier ++ later)).frames
marks-through layout earlier [] marks = rw append-nil marks
marks-through layout earlier (e ∷ later) marks =
    let s = state_of layout earlier in
    let next : HaveMarks layout.pages (state_of layout (earlier ++ e ∷ [])).frames =
    rw state_of-push (HaveMarks-after layout.pages s e.by e.what (HasItemAPage-state_of layout earlier).flag_a_page
    marks) in
    let rest = marks-through layout (earlier ++ e ∷ []) later next in
    rw append_assoc at rest

pub HaveMarks-state_of : (layout : Layout) (journal : List Entry) →
    HaveMarks layout.pages (state_of layout journal).frames
HaveMarks-state_of layout journal = marks-through layout [] journal (All-nil (λ g. length g.pins ≡ layout.pages))

-- ---- what an event leaves of a frame that it does not change

-- a frame of this number that passes a test
record IsOfFrame (frame : ℕ) (test : Frame → Bool) : Type 0 where
  numbered : (f : Frame) → test f ≡ true → f.number ≡ frame
  installs : (wants : List Want) (page : ℕ) (f : Frame) → test f ≡ true → test (frame_after_install wants page f) ≡ true

replaced-other : (frame : ℕ) (test : Frame → Bool) (f : Frame) (frames : List Frame) → IsOfFrame frame test →
    (f.number == frame) ≡ false → list_any test frames ≡ true → list_any test (replace_frame f frames) ≡ true
replaced-other frame test f [] own other h = cc
replaced-other frame test f (g ∷ frames) own other h =
    elim (g.number == f.number) as (λ b. (g.number == f.number) ≡ b →
    list_any test (cond b (f ∷ frames) (g ∷ replace_frame f frames)) ≡ true) [
      | true ↦ λ e. ⊎_elim (λ here. let same = own.numbered g here in let at = same-eqb g.number f.number e in
          let yes = (Decides-eqb f.number frame).1 cc in cc) (λ later. or-right (test f) (list_any test frames) later)
          (or-cases (test g) (list_any test frames) h)
      | false ↦ λ e. ⊎_elim (λ here. or-left (test g) (list_any test (replace_frame f frames)) here)
          (λ later. or-right (test g) (list_any test (replace_frame f frames))
          (replaced-other frame test f frames own other later)) (or-cases (test g) (list_any test frames) h)
    ] refl

not-other : (frame : ℕ) (number ended : ℕ) → number ≡ frame → (ended == frame) ≡ false → not (number == ended) ≡ true
not-other frame number ended same other =
    elim (number == ended) as (λ b. (number == ended) ≡ b →
    not b ≡ true) [
      | true ↦ λ e. let at = same-eqb number ended e in let yes = (Decides-eqb ended frame).1 cc in
          cc
      | false ↦ λ e. refl
    ] refl

-- a frame that an event does not change still passes
frames-keep : (frame : ℕ) (test : Frame → Bool) (s : State) (by : ℕ) (what : What) → IsOfFrame frame test →
    changes_frame what frame ≡ false → list_any test s.frames ≡ true → list_any test (frames_after s by what) ≡ true
frames-keep frame test s by (Pin f) own other h = replaced-other frame test _ s.frames own other h
frames-keep frame test s by (Settle f pages missing) own other h = replaced-other frame test _ s.frames own other h
frames-keep frame test s by (Ask f pages) own other h = h
frames-keep frame test s by (Narrow f pages) own other h = replaced-other frame test _ s.frames own other h
frames-keep frame test s by (Unpin f) own other h =
    any-filter_kept test (λ g. not (g.number == f)) s.frames
    (λ g k. not-other frame g.number f (own.numbered g k) other) h
frames-keep frame test s by (Take f page victim) own other h = h
frames-keep frame test s by (Install page digest) own other h =
    any-map test test (frame_after_install s.wants page) s.frames (λ g k. own.installs s.wants page g k) h
frames-keep frame test s by (Fail page before after) own other h = h
frames-keep frame test s by (Spoil page why) own other h = h
frames-keep frame test s by (Starve page) own other h = h
frames-keep frame test s by (Full f) own other h = h
frames-keep frame test s by Stop own other h = h

number-installed : (wants : List Want) (page : ℕ) (f : Frame) → (frame_after_install wants page f).number ≡ f.number
number-installed wants page f =
    elim (waits_for wants f.number page) as (λ b. (cond b (record f { pins = set f.pins page true }) f).number
    ≡ f.number)
    [ true ↦ refl | false ↦ refl ]

marks-installed : (wants : List Want) (installed page : ℕ) (f : Frame) → get_or f.pins page false ≡ true →
    get_or (frame_after_install wants installed f).pins page false ≡ true
marks-installed wants installed page f h =
    elim (waits_for wants f.number installed) as (λ b. get_or
    (cond b (record f { pins = set f.pins installed true }) f).pins page false ≡ true) [
      | true ↦ ⊎_elim (λ same. same ∙ h) (λ here. here.1) (get_or-set_cases f.pins installed page true false)
      | false ↦ h
    ]

abbrev is_numbered : ℕ → Frame → Bool
is_numbered frame f = f.number == frame

abbrev does_pin : ℕ → ℕ → Frame → Bool
does_pin frame page f = (f.number == frame) && get_or f.pins page false

live-of_frame : (frame : ℕ) → IsOfFrame frame (is_numbered frame)
live-of_frame frame = record {
  numbered = λ f h. same-eqb f.number frame h;
  installs = λ wants page f h. ap (λ n. n == frame) (number-installed wants page f) ∙ h;
}

pins-of_frame : (frame page : ℕ) → IsOfFrame frame (does_pin frame page)
pins-of_frame frame page = record {
  numbered = λ f h. same-eqb f.number frame (and-both (f.number == frame) (get_or f.pins page false) h).0;
  installs = λ wants installed f h.
      let parts = and-both (f.number == frame) (get_or f.pins page false) h in
      both ((frame_after_install wants installed f).number == frame)
      (get_or (frame_after_install wants installed f).pins page false)
      (ap (λ n. n == frame) (number-installed wants installed f) ∙ parts.0)
      (marks-installed wants installed page f parts.1);
}

-- a live frame that waits for the page pins it once it is installed
installed-pin : (count frame page : ℕ) (wants : List Want) (frames : List Frame) → HaveMarks count frames →
    page < count → waits_for wants frame page ≡ true → is_live frames frame ≡ true →
    list_any (does_pin frame page) (map (frame_after_install wants page) frames) ≡ true
installed-pin count frame page wants [] marks below waits live = cc
installed-pin count frame page wants (f ∷ frames) marks below waits live =
    ⊎_elim
    (λ here. or-left (does_pin frame page (frame_after_install wants page f))
    (list_any (does_pin frame page) (map (frame_after_install wants page) frames)) (pinned-now here))
    (λ later. or-right (does_pin frame page (frame_after_install wants page f))
    (list_any (does_pin frame page) (map (frame_after_install wants page) frames))
    (installed-pin count frame page wants frames (All-tail (λ g. length g.pins ≡ count) f frames marks) below waits
    later))
    (or-cases (f.number == frame) (is_live frames frame) live)
  where
    pinned-now : (f.number == frame) ≡ true → does_pin frame page (frame_after_install wants page f) ≡ true
    pinned-now here =
        let same : f.number ≡ frame = same-eqb f.number frame here in
        let wait : waits_for wants f.number page ≡ true = rw same waits in
        let own : length f.pins ≡ count = All-head (λ g. length g.pins ≡ count) f frames marks in
        let set_here : get_or (set f.pins page true) page false ≡ true =
        get_or-set_same f.pins page true false (omega arith) in
        ap (λ b. does_pin frame page (cond b (record f { pins = set f.pins page true }) f)) wait
        ∙ both (f.number == frame) (get_or (set f.pins page true) page false) here set_here

-- ---- the wants of a frame that an event does not change

abbrev pub is_wait : ℕ → ℕ → Want → Bool
is_wait frame page w = (w.frame == frame) && ((w.page == page) && w.settled)

pub wait-frame : (frame page : ℕ) (w : Want) → is_wait frame page w ≡ true → w.frame ≡ frame
wait-frame frame page w h = same-eqb w.frame frame (and-both (w.frame == frame) ((w.page == page) && w.settled) h).0

pub wait-page : (frame page : ℕ) (w : Want) → is_wait frame page w ≡ true → w.page ≡ page
wait-page frame page w h =
    same-eqb w.page page (and-both (w.page == page) w.settled
    (and-both (w.frame == frame) ((w.page == page) && w.settled) h).1).0

others-wait : (s : State) (frame page f : ℕ) (more : List Want) → is_live s.frames frame ≡ true → (f == frame) ≡ false →
    waits_for s.wants frame page ≡ true → waits_for (wants_of_others s f ++ more) frame page ≡ true
others-wait s frame page f more live other h =
    any-append_left (is_wait frame page) (wants_of_others s f) more
    (any-filter_kept (is_wait frame page) (λ w. not (w.frame == f) && is_live s.frames w.frame) s.wants
    (λ w k. let same : w.frame ≡ frame = wait-frame frame page w k in
    both (not (w.frame == f)) (is_live s.frames w.frame) (not-other frame w.frame f same other) (rw same live))
    h)

without-wait : (wants : List Want) (frame page ended : ℕ) → (ended == page) ≡ false →
    waits_for wants frame page ≡ true → waits_for (wants_without ended wants) frame page ≡ true
without-wait wants frame page ended other h =
    any-filter_kept (is_wait frame page) (λ w. not (w.page == ended)) wants
    (λ w k. not-other page w.page ended (wait-page frame page w k) other) h

-- ---- the frame waits, pins, or a load failed

abbrev pub IsHandled : State → ℕ → List Entry → ℕ → Type 0
IsHandled s frame since page =
    (waits_for s.wants frame page ≡ true) ⊎ ((pins s frame page ≡ true) ⊎ (has_failed page since ≡ true))

-- the frame is live, and pins its pages; each missing one it waits for, or pins, or a load of it failed since
pub record IsWaiting (frame : ℕ) (pages missing : List ℕ) (s : State) (since : List Entry) : Type 0 where
  pub live : is_live s.frames frame ≡ true
  pub pinned : (page : ℕ) → is_among pages page ≡ true → pins s frame page ≡ true
  pub handled : (page : ℕ) → is_among missing page ≡ true → IsHandled s frame since page

abbrev entered : ℕ → What → Entry
entered by what = record { by = by; what = what }

abbrev IsHandledThen : State → ℕ → List Entry → ℕ → What → ℕ → Type 0
IsHandledThen s frame since by what page =
    IsHandled (state_after s (entered by what)) frame (since ++ entered by what ∷ []) page

failed-now : (s : State) (frame : ℕ) (since : List Entry) (by : ℕ) (what : What) (page : ℕ) →
    holds (page_failed what) page ≡ true → IsHandledThen s frame since by what page
failed-now s frame since by what page h =
    inr (inr (any-append_right (λ d. holds (page_failed d.what) page) since (entered by what ∷ [])
    (or-left (holds (page_failed what) page) false h)))

-- a page whose load ends: it is the one for which the frame waits, or another
by-page : (s : State) (frame : ℕ) (since : List Entry) (by : ℕ) (what : What) (page ended : ℕ) →
    wants_after s what ≡ wants_without ended s.wants → waits_for s.wants frame page ≡ true →
    ((ended == page) ≡ true → IsHandledThen s frame since by what page) → IsHandledThen s frame since by what page
by-page s frame since by what page ended wants waits here =
    elim (ended == page) as (λ b. (ended == page) ≡ b → IsHandledThen s frame since by what page)
    [ true ↦ λ e. here e | false ↦ λ e. inl (rw wants (without-wait s.wants frame page ended e waits)) ] refl

waiting-handled : (layout : Layout) (s : State) (frame : ℕ) (since : List Entry) (by : ℕ) (what : What) (page : ℕ) →
    HaveMarks layout.pages s.frames → page < layout.pages → is_live s.frames frame ≡ true →
    changes_frame what frame ≡ false → waits_for s.wants frame page ≡ true → IsHandledThen s frame since by what page
waiting-handled layout s frame since by (Pin f) page marks below live other waits = inl waits
waiting-handled layout s frame since by (Settle f pages missing) page marks below live other waits =
    inl (others-wait s frame page f (wants_of f true missing) live other waits)
waiting-handled layout s frame since by (Ask f pages) page marks below live other waits =
    inl (others-wait s frame page f (wants_of f false pages) live other waits)
waiting-handled layout s frame since by (Narrow f pages) page marks below live other waits = inl waits
waiting-handled layout s frame since by (Unpin f) page marks below live other waits = inl waits
waiting-handled layout s frame since by (Take f taken victim) page marks below live other waits = inl waits
waiting-handled layout s frame since by (Install ended digest) page marks below live other waits =
    by-page s frame since by (Install ended digest) page ended refl waits
    (λ same. let e : ended ≡ page = same-eqb ended page same in
    inr (inl (rw e (installed-pin layout.pages frame page s.wants s.frames marks below waits live))))
waiting-handled layout s frame since by (Fail ended before after) page marks below live other waits =
    by-page s frame since by (Fail ended before after) page ended refl waits
    (failed-now s frame since by (Fail ended before after) page)
waiting-handled layout s frame since by (Spoil ended why) page marks below live other waits =
    by-page s frame since by (Spoil ended why) page ended refl waits
    (failed-now s frame since by (Spoil ended why) page)
waiting-handled layout s frame since by (Starve ended) page marks below live other waits =
    by-page s frame since by (Starve ended) page ended refl waits (failed-now s frame since by (Starve ended) page)
waiting-handled layout s frame since by (Full f) page marks below live other waits = inl waits
waiting-handled layout s frame since by Stop page marks below live other waits = inl waits

handled-after : (layout : Layout) (frame : ℕ) (s : State) (since : List Entry) (e : Entry) (page : ℕ) →
    HaveMarks layout.pages s.frames → page < layout.pages → is_live s.frames frame ≡ true →
    changes_frame e.what frame ≡ false → IsHandled s frame since page →
    IsHandled (state_after s e) frame (since ++ e ∷ []) page
handled-after layout frame s since e page marks below live other (inl waits) =
    waiting-handled layout s frame since e.by e.what page marks below live other waits
handled-after layout frame s since e page marks below live other (inr (inl pinned)) =
    inr (inl (frames-keep frame (does_pin frame page) s e.by e.what (pins-of_frame frame page) other pinned))
handled-after layout frame s since e page marks below live other (inr (inr failed)) =
    inr (inr (any-append_left (λ d. holds (page_failed d.what) page) since (e ∷ []) failed))

pub IsWaiting-after : (layout : Layout) (frame : ℕ) (pages missing : List ℕ) (s : State) (since : List Entry)
    (e : Entry) → HaveMarks layout.pages s.frames → all_below layout.pages missing ≡ true →
    changes_frame e.what frame ≡ false → IsWaiting frame pages missing s since →
    IsWaiting frame pages missing (state_after s e) (since ++ e ∷ [])
IsWaiting-after layout frame pages missing s since e marks below other waiting = record {
  live = frames-keep frame (is_numbered frame) s e.by e.what (live-of_frame frame) other waiting.live;
  pinned = λ page among. frames-keep frame (does_pin frame page) s e.by e.what (pins-of_frame frame page) other
      (waiting.pinned page among);
  handled = λ page among. handled-after layout frame s since e page marks
      ((Decides-ltb page layout.pages).0 (all-at_any (λ n. nat_lt n layout.pages) missing page below among))
      waiting.live other (waiting.handled page among);
}

left-parts : (frame : ℕ) (e : Entry) (later : List Entry) → is_left_alone frame (e ∷ later) ≡ true →
    (changes_frame e.what frame ≡ false) × (is_left_alone frame later ≡ true)
left-parts frame e later h = neither (changes_frame e.what frame) (list_any (λ d. changes_frame d.what frame) later) h
  where
    neither : (a b : Bool) → not (a || b) ≡ true → (a ≡ false) × (not b ≡ true)
    neither true b k = cc
    neither false b k = (refl, k)

pub waiting-through : (layout : Layout) (frame : ℕ) (pages missing : List ℕ) (earlier since later : List Entry) →
    all_below layout.pages missing ≡ true → is_left_alone frame later ≡ true →
    IsWaiting frame pages missing (state_of layout earlier) since →
    IsWaiting frame pages missing (state_of layout (earlier ++ later)) (since ++ later)
waiting-through layout frame pages missing earlier since [] below alone waiting = simp append-nil waiting
waiting-through layout frame pages missing earlier since (e ∷ later) below alone waiting =
    let parts = left-parts frame e later alone in
    let s = state_of layout earlier in
    let next : IsWaiting frame pages missing (state_of layout (earlier ++ e ∷ [])) (since ++ e ∷ []) =
    rw (state_of-push layout earlier e) (IsWaiting-after layout frame pages missing s since e
    (HaveMarks-state_of layout earlier) below parts.0 waiting) in
    let rest = waiting-through layout frame pages missing (earlier ++ e ∷ []) (since ++ e ∷ []) later below parts.1
    next in
    simp append_assoc at rest

-- ---- the Settle itself

pub replaced-has : (test : Frame → Bool) (f : Frame) (frames : List Frame) → test f ≡ true →
    list_any test (replace_frame f frames) ≡ true
replaced-has test f [] h = or-left (test f) false h
replaced-has test f (g ∷ frames) h =
    elim (g.number == f.number) as (λ b. list_any test (cond b (f ∷ frames) (g ∷ replace_frame f frames)) ≡ true) [
      | true ↦ or-left (test f) (list_any test frames) h
      | false ↦ or-right (test g)
          (list_any test (replace_frame f frames)) (replaced-has test f frames h)
    ]

mark_all-has : (start : List Bool) (pages : List ℕ) (page : ℕ) → page < length start →
    (get_or start page false ≡ true) ⊎ (is_among pages page ≡ true) → get_or (mark_all start pages) page false ≡ true
mark_all-has start [] page below (inl marked) = marked
mark_all-has start [] page below (inr among) = cc
mark_all-has start (p ∷ pages) page below (inl marked) =
    mark_all-has (set start p true) pages page (rw length-set below)
    (inl (⊎_elim (λ same. same ∙ marked) (λ here. here.1) (get_or-set_cases start p page true false)))
mark_all-has start (p ∷ pages) page below (inr among) =
    mark_all-has (set start p true) pages page (rw length-set below)
    (⊎_elim
    (λ here. let same : p ≡ page = same-eqb p page here in inl (rw same (get_or-set_same start page true false below)))
    (λ later. inr later)
    (or-cases (p == page) (is_among pages page) among))

wants_of-wait : (frame : ℕ) (missing : List ℕ) (page : ℕ) → is_among missing page ≡ true →
    waits_for (wants_of frame true missing) frame page ≡ true
wants_of-wait frame missing page among =
    any-map (λ m. m == page) (is_wait frame page) (λ m. record { frame = frame; page = m; settled = true }) missing
    (λ m h. both (frame == frame) ((m == page) && true) (eqb-refl frame) (both (m == page) true h refl)) among

-- a Settle whose pages are resident makes the frame wait
pub IsWaiting-settled : (s : State) (by frame : ℕ) (pages missing : List ℕ) → all_resident s pages ≡ true →
    IsWaiting frame pages missing (state_after s (record { by = by; what = Settle frame pages missing })) []
IsWaiting-settled s by frame pages missing resident = record {
  live = replaced-has (is_numbered frame) own s.frames (eqb-refl frame);
  pinned = λ page among. replaced-has (does_pin frame page) own s.frames
      (both (frame == frame) (get_or (marked (length s.resident) pages) page false) (eqb-refl frame)
      (marked-now page among));
  handled = λ page among. inl (any-append_right (is_wait frame page) (wants_of_others s frame)
      (wants_of frame true missing) (wants_of-wait frame missing page among));
}
  where
    own : Frame
    own = record { number = frame; owner = by; pins = marked (length s.resident) pages }

    marked-now : (page : ℕ) → is_among pages page ≡ true → get_or (marked (length s.resident) pages) page false ≡ true
    marked-now page among =
        let here : is_resident s page ≡ true = all-at_any (is_resident s) pages page resident among in
        let within = place-within (λ b. b) s.resident page false refl here in
        mark_all-has (replicate (length s.resident) false) pages page (rw length-replicate within) (inr among)
