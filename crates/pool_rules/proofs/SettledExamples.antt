-- Frames that settled, and what is left for them, by worked journals, computed.
use Rattle.std.proofs.Common.{◌≡◌, ℕ, ◌+◌, Bool, true, false, List, [], ◌∷◌, ◌++◌, map, length, Some, None, refl}
use Rattle.std.specs.Option.{option_map}
use Rattle.journal.specs.declared.entries.Entry.{Entry}
use Rattle.journal.specs.declared.entries.Spoilt.TheVariants.{Short}
use Rattle.journal.specs.declared.entries.What.{What}
use Rattle.journal.specs.declared.entries.What.TheVariants.{Pin, Settle, Ask, Narrow, Unpin, Take, Install, Fail, Spoil}
use Rattle.journal.specs.declared.entries.What.TheVariants.{Starve, Full, Stop}
use Rattle.journal.specs.declared.layouts.Layout.{Layout}
use Rattle.pool_rules.proofs.Examples.{entry, digest, flat, load, queued, shared}
use Rattle.pool_rules.specs.declared.next_load.Next.TheVariants as Next
use Rattle.pool_rules.specs.Events.{has_failed}
use Rattle.pool_rules.specs.Next.{next_after}
use Rattle.pool_rules.specs.Rules.{first_refused}
use Rattle.pool_rules.specs.Settled.{has_failed_need, is_left_alone, is_settled, last_settle, lists_uppers, needs}
use Rattle.pool_rules.specs.Settled.{needs_within}
use Rattle.pool_rules.specs.State.{residency}

-- The last Settle: frame 0 settles twice, then frame 1 does.
abbrev twice : List Entry
twice =
    entry 0 (Pin 0) ∷ entry 1 (Pin 1) ∷ entry 0 (Settle 0 (0 ∷ []) (1 ∷ 2 ∷ [])) ∷ entry 0 (Settle 0 [] (3 ∷ []))
    ∷ entry 1 (Settle 1 (0 ∷ []) (2 ∷ [])) ∷ entry 0 Stop ∷ []

pub last_of_two : last_settle 0 twice ≡ Some
    (record { pages = []; missing = 3 ∷ []; after = entry 1 (Settle 1 (0 ∷ []) (2 ∷ [])) ∷ entry 0 Stop ∷ [] })
last_of_two = refl

pub last_of_other : last_settle 1 twice ≡ Some (record { pages = 0 ∷ []; missing = 2 ∷ []; after = entry 0 Stop ∷ [] })
last_of_other = refl

pub last_of_none : map (λ frame. last_settle frame
    (entry 0 (Pin 0) ∷ entry 0 (Ask 0 (1 ∷ [])) ∷ entry 0 (Settle 1 [] []) ∷ [])) (0 ∷ 2 ∷ []) ≡ None ∷ None ∷ []
last_of_none = refl

-- a frame is left alone by what is of other frames, and by what takes and loads its pages
pub alone_by : map (λ what. is_left_alone 3 (entry 0 (Pin 2) ∷ entry 3 what ∷ []))
    (Pin 3 ∷ Settle 3 [] [] ∷ Ask 3 [] ∷ Narrow 3 [] ∷ Unpin 3 ∷ []) ≡ false ∷ false ∷ false ∷ false ∷ false ∷ []
alone_by = refl

pub alone_beside : is_left_alone 3 (entry 0 (Take (Some 3) 1 None) ∷ entry 0 (Full 3) ∷ entry 0 (Install 3 digest)
    ∷ entry 0 (Settle 2 (3 ∷ []) (3 ∷ [])) ∷ entry 0 Stop ∷ []) ≡ true
alone_beside = refl

-- Each page stands on the one below it.
abbrev chain : Layout
chain = record { pages = 4; roots = 1; slots = 4; uppers = [] ∷ (0 ∷ []) ∷ (1 ∷ []) ∷ (2 ∷ []) ∷ [] }

-- a page needs itself and the pages below it, and none above it
pub needs_each : map (needs chain 2) (0 ∷ 1 ∷ 2 ∷ 3 ∷ []) ≡ true ∷ true ∷ true ∷ false ∷ []
needs_each = refl

-- by one step there are no more than the uppers
pub needs_by_one : map (needs_within chain 1 3) (1 ∷ 2 ∷ 3 ∷ []) ≡ false ∷ true ∷ true ∷ []
needs_by_one = refl

-- a page whose number is not of the layout needs itself alone
pub needs_beyond : map (needs flat 9) (0 ∷ 9 ∷ []) ≡ false ∷ true ∷ []
needs_beyond = refl

-- the uppers of the missing pages 2 and 3 are 1 and 2
pub listed_each : map (λ pages. lists_uppers chain pages (2 ∷ 3 ∷ [])) ((1 ∷ []) ∷ (2 ∷ []) ∷ (0 ∷ []) ∷ [])
    ≡ true ∷ false ∷ false ∷ []
listed_each = refl

pub listed_all : map (lists_uppers chain (0 ∷ [])) ([] ∷ (1 ∷ []) ∷ (1 ∷ 2 ∷ 3 ∷ []) ∷ (1 ∷ 3 ∷ []) ∷ [])
    ≡ true ∷ true ∷ true ∷ false ∷ []
listed_all = refl

-- Frame 0 waits for the pages 1 to 3 of the chain.
abbrev waiting : List Entry
waiting = entry 0 (Pin 0) ∷ entry 0 (Settle 0 (0 ∷ []) (1 ∷ 2 ∷ 3 ∷ [])) ∷ []

-- the load of a page that ends so
abbrev ending : ℕ → What → List Entry
ending page what = entry 0 (Take (Some 0) page None) ∷ entry 0 what ∷ []

-- Page 1 failed, so that page 2 can't be taken, though no load of it failed: page 2 needs page 1.
abbrev failed_1 : List Entry
failed_1 = ending 1 (Fail 1 0 1)

pub nothing_after_fail : next_after chain (waiting ++ failed_1) (Some 0) ≡ Next.Nothing
nothing_after_fail = refl

pub legal_after_fail : first_refused chain (waiting ++ failed_1) ≡ None
legal_after_fail = refl

pub absent_after_fail : residency chain (waiting ++ failed_1) ≡ 0 ∷ []
absent_after_fail = refl

pub failed_alone : map (λ page. has_failed page failed_1) (1 ∷ 2 ∷ []) ≡ true ∷ false ∷ []
failed_alone = refl

pub failed_needs : map (has_failed_need chain (1 ∷ 2 ∷ 3 ∷ []) failed_1) (0 ∷ 1 ∷ 2 ∷ 3 ∷ [])
    ≡ false ∷ true ∷ true ∷ true ∷ []
failed_needs = refl

-- but not where the page that failed is not missed
pub failed_not_missed : has_failed_need chain (2 ∷ 3 ∷ []) failed_1 2 ≡ false
failed_not_missed = refl

-- each load that ends without its page counts, and no Install and no failure of a page that is not needed
pub failed_by : map (λ what. has_failed_need chain (1 ∷ 2 ∷ []) (entry 5 what ∷ []) 2)
    (Fail 1 0 1 ∷ Spoil 1 (Short 9) ∷ Starve 2 ∷ Install 1 digest ∷ Fail 3 0 1 ∷ Take None 1 None ∷ [])
    ≡ true ∷ true ∷ true ∷ false ∷ false ∷ false ∷ []
failed_by = refl

-- An Ask after the Settle replaces the frame's wants: nothing is left, and no load failed.
abbrev pair : Layout
pair = record { pages = 2; roots = 1; slots = 2; uppers = [] ∷ (0 ∷ []) ∷ [] }

abbrev asked : List Entry
asked = entry 0 (Pin 0) ∷ entry 0 (Settle 0 (0 ∷ []) (1 ∷ [])) ∷ entry 0 (Ask 0 []) ∷ []

pub asked_legal : first_refused pair asked ≡ None
asked_legal = refl

pub asked_nothing : next_after pair asked (Some 0) ≡ Next.Nothing
asked_nothing = refl

pub asked_absent : residency pair asked ≡ 0 ∷ []
asked_absent = refl

pub asked_not_failed : has_failed_need pair (1 ∷ []) (entry 0 (Ask 0 []) ∷ []) 1 ≡ false
asked_not_failed = refl

-- an upper that is neither among the pages nor missed: nothing is left for frame 0, and no load failed
pub unlisted_nothing : next_after shared queued (Some 0) ≡ Next.Nothing
unlisted_nothing = refl

pub unlisted_legal : first_refused shared queued ≡ None
unlisted_legal = refl

pub unlisted : option_map (λ settle. lists_uppers shared settle.pages settle.missing) (last_settle 0 queued)
    ≡ Some false
unlisted = refl

-- Records: the frame looks again after these entries, then others follow.
abbrev looks_again : List Entry → List Entry → List ℕ → Bool
looks_again entries later missing =
    is_settled chain (waiting ++ entries ++ entry 0 (Pin 0) ∷ later) 0 (length (waiting ++ entries) + 1) missing

-- nothing is missed once all came
pub settled_all_came : looks_again (load 1 ++ load 2 ++ load 3) [] [] ≡ true
settled_all_came = refl

-- the page itself failed, or one that it needs
pub settled_failed : map (λ missing. looks_again (load 1 ++ ending 2 (Starve 2)) [] missing)
    ((2 ∷ 3 ∷ []) ∷ (3 ∷ []) ∷ (1 ∷ 2 ∷ []) ∷ []) ≡ true ∷ true ∷ false ∷ []
settled_failed = refl

-- the pool was full
pub settled_full : map (λ frame. looks_again (entry 0 (Full frame) ∷ []) [] (1 ∷ 2 ∷ 3 ∷ [])) (0 ∷ 1 ∷ [])
    ≡ true ∷ false ∷ []
settled_full = refl

-- no load has failed yet
pub unsettled : looks_again (entry 0 (Take (Some 0) 1 None) ∷ []) [] (1 ∷ 2 ∷ 3 ∷ []) ≡ false
unsettled = refl

-- a load that fails later, or a pool that is full later, is too late
pub settled_late : map (λ what. looks_again [] (entry 0 what ∷ []) (1 ∷ [])) (Starve 1 ∷ Full 0 ∷ [])
    ≡ false ∷ false ∷ []
settled_late = refl

-- one that failed before the Settle is too early
pub settled_early : is_settled chain (entry 0 (Pin 0) ∷ entry 0 (Starve 1) ∷ entry 0 (Full 0) ∷ entry 0
    (Settle 0 (0 ∷ []) (1 ∷ [])) ∷ entry 0 (Pin 0) ∷ []) 0 5 (1 ∷ []) ≡ false
settled_early = refl

-- the frame settles once more after the record, or never did before
pub settled_again : map (λ frame. looks_again (load 1 ++ load 2 ++ load 3) (entry 0 (Settle frame [] []) ∷ []) [])
    (0 ∷ 1 ∷ []) ≡ false ∷ true ∷ []
settled_again = refl

pub settled_never : is_settled chain (entry 0 (Pin 0) ∷ entry 0 (Ask 0 []) ∷ entry 0 (Pin 0) ∷ []) 0 3 [] ≡ false
settled_never = refl

-- the record's place is the Settle's own, or right after it
pub settled_at : map (λ at. is_settled chain waiting 0 at []) (1 ∷ 2 ∷ 3 ∷ []) ≡ false ∷ false ∷ true ∷ []
settled_at = refl
