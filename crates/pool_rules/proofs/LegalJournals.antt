-- A journal with one entry more: its state, and that it is legal.
use Rattle.std.proofs.Common.{◌≡◌, ℕ, ◌+◌, List, [], ◌∷◌, ◌++◌, Bool, true, false, Option, None, Some, length, refl, ap}
use Rattle.std.proofs.Common.{arith, append_assoc, append-nil, fold}
use Rattle.std.proofs.lemmas.List.Sums.{fold_push}
use Rattle.journal.specs.declared.entries.Entry.{Entry}
use Rattle.journal.specs.declared.layouts.Layout.{Layout}
use Rattle.pool_rules.specs.Rules.{is_allowed, refused_or, first_refused_after, IsLegal}
use Rattle.pool_rules.specs.State.{State, initial_state, state_after, state_of}

pub state_of-push : (layout : Layout) (journal : List Entry) (e : Entry) →
    state_of layout (journal ++ e ∷ []) ≡ state_after (state_of layout journal) e
state_of-push layout journal e = fold_push state_after (initial_state layout) journal e

-- the count of entries is the journal's length
entries-from : (journal : List Entry) (s : State) → (fold state_after s journal).entries ≡ s.entries + length journal
entries-from [] s = omega arith
entries-from (e ∷ journal) s = omega (arith, entries-from journal (state_after s e))

pub entries-state_of : (layout : Layout) (journal : List Entry) → (state_of layout journal).entries ≡ length journal
entries-state_of layout journal = omega (arith, entries-from journal (initial_state layout))

-- where the first of some entries is allowed, and the others after it, so are they all
pub refused_or-none : (t : Bool) (n : ℕ) (later : Option ℕ) → refused_or t n later ≡ None → (t ≡ true) × (later ≡ None)
refused_or-none true n later h = (refl, h)
refused_or-none false n later h = cc

pub none-refused_or : (t : Bool) (n : ℕ) (later : Option ℕ) → t ≡ true → later ≡ None → refused_or t n later ≡ None
none-refused_or true n later h none = none
none-refused_or false n later h none = cc

legal-after : (layout : Layout) (before entries : List Entry) (e : Entry) →
    first_refused_after layout before entries ≡ None → is_allowed layout (before ++ entries) e ≡ true →
    first_refused_after layout before (entries ++ e ∷ []) ≡ None
legal-after layout before [] e legal allowed =
    let here : is_allowed layout before e ≡ true = rw append-nil at allowed in
    none-refused_or (is_allowed layout before e) (length before) None here refl
legal-after layout before (x ∷ entries) e legal allowed =
    let parts = refused_or-none (is_allowed layout before x) (length before)
    (first_refused_after layout (before ++ x ∷ []) entries) legal in
    none-refused_or (is_allowed layout before x) (length before)
    (first_refused_after layout (before ++ x ∷ []) (entries ++ e ∷ [])) parts.0
    (legal-after layout (before ++ x ∷ []) entries e parts.1 (rw append_assoc allowed))

-- a legal journal with an allowed entry more is legal
pub IsLegal-push : (layout : Layout) (journal : List Entry) (e : Entry) → IsLegal layout journal →
    is_allowed layout journal e ≡ true → IsLegal layout (journal ++ e ∷ [])
IsLegal-push layout journal e legal allowed = legal-after layout [] journal e legal allowed

pub refused-here : (layout : Layout) (before rest : List Entry) (e : Entry) → is_allowed layout before e ≡ false →
    first_refused_after layout before (e ∷ rest) ≡ Some (length before)
refused-here layout before rest e h =
    ap (λ b. refused_or b (length before) (first_refused_after layout (before ++ e ∷ []) rest)) h

pub allowed-here : (layout : Layout) (before rest : List Entry) (e : Entry) → is_allowed layout before e ≡ true →
    first_refused_after layout before (e ∷ rest) ≡ first_refused_after layout (before ++ e ∷ []) rest
allowed-here layout before rest e h =
    ap (λ b. refused_or b (length before) (first_refused_after layout (before ++ e ∷ []) rest)) h

-- a legal journal is legal up to each of its entries, and on from there
pub legal-split : (layout : Layout) (before first later : List Entry) →
    first_refused_after layout before (first ++ later) ≡ None →
    (first_refused_after layout before first ≡ None) × (first_refused_after layout (before ++ first) later ≡ None)
legal-split layout before [] later legal = (refl, rw append-nil legal)
legal-split layout before (e ∷ first) later legal =
    let parts = refused_or-none (is_allowed layout before e) (length before)
    (first_refused_after layout (before ++ e ∷ []) (first ++ later)) legal in
    let rest = legal-split layout (before ++ e ∷ []) first later parts.1 in (
      none-refused_or (is_allowed layout before e) (length before) (first_refused_after layout (before ++ e ∷ []) first)
          parts.0 rest.0,
      rw append_assoc at rest.1,
    )

-- what each allowed entry keeps holds after every legal journal
keeps-through : (layout : Layout) (P : List Entry → Type 0) →
    ((journal : List Entry) (e : Entry) → is_allowed layout journal e ≡ true → P journal → P (journal ++ e ∷ [])) →
    (earlier later : List Entry) → P earlier → first_refused_after layout earlier later ≡ None → P (earlier ++ later)
keeps-through layout P keeps earlier [] held legal = rw append-nil held
keeps-through layout P keeps earlier (e ∷ later) held legal =
    let parts = refused_or-none (is_allowed layout earlier e) (length earlier)
    (first_refused_after layout (earlier ++ e ∷ []) later) legal in
    let all = keeps-through layout P keeps (earlier ++ e ∷ []) later (keeps earlier e parts.0 held) parts.1 in
    rw append_assoc at all

pub legal-keeps : (layout : Layout) (P : List Entry → Type 0) →
    ((journal : List Entry) (e : Entry) → is_allowed layout journal e ≡ true → P journal → P (journal ++ e ∷ [])) →
    P [] → (journal : List Entry) → IsLegal layout journal → P journal
legal-keeps layout P keeps start journal legal = keeps-through layout P keeps [] journal start legal
