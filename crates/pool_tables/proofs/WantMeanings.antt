-- Each event keeps the wants that stand those of the state.
use Rattle.std.proofs.Common.{◌≡◌, ◌≢◌, ℕ, ◌+◌, ◌<◌, ◌≤◌, ◌==◌, nat_le, nat_lt, List, [], ◌∷◌, ◌++◌, Bool, true, false}
use Rattle.std.proofs.Common.{not, ◌&&◌, ⊎_elim, Option, Some, None, is_some, filter, map, refl, sym, ap, ◌∙◌, arith}
use Rattle.std.proofs.Common.{eq-eqb}
use Rattle.std.proofs.lemmas.Bool.{cases_eq}
use Rattle.std.proofs.lemmas.Bool.Decides.{nat_tests}
use Rattle.std.specs.List.{AllByRecursion}
use Rattle.pool_rules.specs.State.{State, is_live, wants_of, wants_of_others, wants_without}
use Rattle.pool_rules.specs.declared.want.Want.{Want}
use Rattle.pool_tables.specs.WantMeaning.{AreTimelyCounts, AreWants, Asks, EndsFrame, EndsLoad, IsTimelyWant}
use Rattle.pool_tables.specs.WantMeaning.{KeepsCounts}
use Rattle.pool_tables.specs.WantQueue.{WantCounts, closed_up, is_before, of_page, standing, stands, want_of}
use Rattle.pool_tables.specs.declared.queued_want.QueuedWant.{QueuedWant}
use Rattle.pool_tables.proofs.Apart.{ne-eqb}
use Rattle.pool_tables.proofs.WantLists.{all-append, all-closed_up, all-weaker, filter-alike, filter-joined}
use Rattle.pool_tables.proofs.WantLists.{filter-narrower, map-joined, standing-closed_up}

no-le : (a b : ℕ) → b < a → nat_le a b ≡ false
no-le a b h = grind (arith, nat_tests)

yes-le : (a b : ℕ) → a ≤ b → nat_le a b ≡ true
yes-le a b h = grind (arith, nat_tests)

yes-lt : (a b : ℕ) → a < b → nat_lt a b ≡ true
yes-lt a b h = grind (arith, nat_tests)

no-lt : (a b : ℕ) → b ≤ a → nat_lt a b ≡ false
no-lt a b h = grind (arith, nat_tests)

-- whether a want stands, by its three parts
abbrev by_parts : ℕ → ℕ → Option ℕ → ℕ → ℕ → Bool
by_parts load asked ended last made = nat_le load made && (nat_le asked made && not (is_before ended last))

stands-parts : (counts : WantCounts) (w : QueuedWant) (load asked : ℕ) (ended : Option ℕ) (last : ℕ)
    → counts.load_ended_at w.page ≡ load → counts.asked_at w.frame.0 ≡ asked → counts.ended_at w.frame.0 ≡ ended
    → counts.last_asked ≡ last → stands counts w ≡ by_parts load asked ended last w.made_at
stands-parts counts w load asked ended last a b c d = rw (a, b, c, d) refl

and-false : (a : Bool) → (a && false) ≡ false
and-false true = refl
and-false false = refl

and-true : (a : Bool) → (a && true) ≡ a
and-true true = refl
and-true false = refl

-- ---- a Settle or an Ask

-- a want stands after it if it stood, is of another frame, and that is live
stands-asked : (entries frame : ℕ) (old new : WantCounts) (s : State) (w : QueuedWant)
    → Asks frame (entries + 1) old new → AreTimelyCounts entries old → IsTimelyWant entries old w
    → is_live s.frames w.frame.0 ≡ not (is_some (old.ended_at w.frame.0))
    → stands new w ≡ (stands old w && (not (w.frame.0 == frame) && is_live s.frames w.frame.0))
stands-asked entries frame old new s w asks counts timely live = ⊎_elim own other (cases_eq w.frame.0 frame)
  where
    made : w.made_at < entries + 1
    made = omega (arith, timely.made)

    own : w.frame.0 ≡ frame → stands new w ≡ (stands old w && (not (w.frame.0 == frame) && is_live s.frames w.frame.0))
    own same =
        let asked : new.asked_at w.frame.0 ≡ entries + 1 = ap new.asked_at same ∙ asks.own in
        let over : nat_le (new.asked_at w.frame.0) w.made_at ≡ false =
        ap (λ k. nat_le k w.made_at) asked ∙ no-le (entries + 1) w.made_at made in
        (ap (λ b. nat_le (new.load_ended_at w.page) w.made_at &&
        (b && not (is_before (new.ended_at w.frame.0) new.last_asked))) over ∙
        and-false (nat_le (new.load_ended_at w.page) w.made_at))
        ∙ sym (ap (λ b. stands old w && (not b && is_live s.frames w.frame.0)) (eq-eqb w.frame.0 frame same) ∙
        and-false (stands old w))

    parts : (a b : Bool) (o : Option ℕ) → ((e : ℕ) → o ≡ Some e → e ≤ entries)
        → (a && (b && not (is_before o (entries + 1)))) ≡
        ((a && (b && not (is_before o old.last_asked))) && not (is_some o))
    parts a b None past = sym (and-true (a && (b && true)))
    parts a b (Some e) past =
        ap (λ t. a && (b && not t)) (yes-lt e (entries + 1) (omega (arith, past e refl))) ∙
        (ap (λ t. a && t) (and-false b) ∙ (and-false a ∙
        sym (and-false (a && (b && not (nat_lt e old.last_asked))))))

    other : w.frame.0 ≢ frame
        → stands new w ≡ (stands old w && (not (w.frame.0 == frame) && is_live s.frames w.frame.0))
    other ne =
        stands-parts new w (old.load_ended_at w.page) (old.asked_at w.frame.0) (old.ended_at w.frame.0) (entries + 1)
        (asks.loads w.page) (asks.others w.frame.0 ne) (asks.ends w.frame.0) asks.last_asked
        ∙ (parts (nat_le (old.load_ended_at w.page) w.made_at) (nat_le (old.asked_at w.frame.0) w.made_at)
        (old.ended_at w.frame.0) (λ e at. counts.ends w.frame.0 e at)
        ∙ (ap (λ b. stands old w && b) (sym live) ∙
        ap (λ b. stands old w && (not b && is_live s.frames w.frame.0)) (sym (ne-eqb w.frame.0 frame ne))))

-- the wants that it makes stand
standing-new : (frame : ℕ) (counts : WantCounts) (like : QueuedWant) (pages : List ℕ) → like.frame.0 ≡ frame
    → ((p : ℕ) → counts.load_ended_at p ≤ like.made_at) → counts.asked_at frame ≡ like.made_at
    → counts.ended_at frame ≡ None → standing counts (map (of_page like) pages) ≡ wants_of frame like.settled pages
standing-new frame counts like [] is loads asked live = refl
standing-new frame counts like (p ∷ pages) is loads asked live =
    let yes : stands counts (of_page like p) ≡ true =
    stands-parts counts (of_page like p) (counts.load_ended_at p) like.made_at None counts.last_asked refl
    (ap counts.asked_at is ∙ asked) (ap counts.ended_at is ∙ live) refl
    ∙ ap (λ b. b && (nat_le like.made_at like.made_at && true)) (yes-le (counts.load_ended_at p) like.made_at (loads p))
    ∙ ap (λ b. b && true) (yes-le like.made_at like.made_at (omega arith)) in
    let here : want_of (of_page like p) ≡ record { frame = frame; page = p; settled = like.settled } =
    ap (λ n. record { frame = n; page = p; settled = like.settled }) is in
    rw yes (ap (λ w. w ∷ standing counts (map (of_page like) pages)) here ∙
    ap (λ ws. record { frame = frame; page = p; settled = like.settled } ∷ ws)
    (standing-new frame counts like pages is loads asked live))

all-new : (P : QueuedWant → Type 0) (like : QueuedWant) (pages : List ℕ) → ((p : ℕ) → P (of_page like p))
    → AllByRecursion P (map (of_page like) pages)
all-new P like [] each = tt
all-new P like (p ∷ pages) each = (each p, all-new P like pages each)

-- whether the frames of the wants are live is what their ends say
abbrev pub KnowsLive : State → WantCounts → List QueuedWant → Type 0
KnowsLive s counts list =
    AllByRecursion (λ w. is_live s.frames w.frame.0 ≡ not (is_some (counts.ended_at w.frame.0))) list

all-both : (P Q : QueuedWant → Type 0) (ws : List QueuedWant) → AllByRecursion P ws → AllByRecursion Q ws
    → AllByRecursion (λ w. P w × Q w) ws
all-both P Q [] ps qs = tt
all-both P Q (w ∷ ws) ps qs = ((ps.0, qs.0), all-both P Q ws ps.1 qs.1)

pub AreWants-asked : (entries frame : ℕ) (old new : WantCounts) (list : List QueuedWant) (s : State) (like : QueuedWant)
    (pages : List ℕ)
    → AreWants entries old list s.wants → Asks frame (entries + 1) old new → AreTimelyCounts entries old
    → KnowsLive s old list → old.ended_at frame ≡ None → like.frame.0 ≡ frame → like.made_at ≡ entries + 1
    → AreWants (entries + 1) new (closed_up new list ++ map (of_page like) pages)
    (wants_of_others s frame ++ wants_of frame like.settled pages)
AreWants-asked entries frame old new list s like pages are asks counts live none is made = record {
  standing = ap (map want_of) (filter-joined (stands new) (closed_up new list) (map (of_page like) pages))
      ∙ (map-joined (filter (stands new) (closed_up new list)) (filter (stands new) (map (of_page like) pages))
      ∙ (ap (λ ws. ws ++ standing new (map (of_page like) pages)) (standing-closed_up new list ∙ old_ones)
      ∙ ap (λ ws. wants_of_others s frame ++ ws) new_ones));
  timely = all-append (IsTimelyWant (entries + 1) new) (closed_up new list) (map (of_page like) pages)
      (all-closed_up (IsTimelyWant (entries + 1) new) new list
      (all-weaker (IsTimelyWant entries old) (IsTimelyWant (entries + 1) new) later list are.timely))
      (all-new (IsTimelyWant (entries + 1) new) like pages (λ p. record {
        some = omega (arith, made);
        made = omega (arith, made);
        asked =
            let e : new.asked_at like.frame.0 ≡ entries + 1 = ap new.asked_at is ∙ asks.own in omega (arith, made, e);
      }));
}
  where
    later : (w : QueuedWant) → IsTimelyWant entries old w → IsTimelyWant (entries + 1) new w
    later w t = record {
      some = t.some;
      made = omega (arith, t.made);
      asked = ⊎_elim
          (λ same. let e : new.asked_at w.frame.0 ≡ entries + 1 = ap new.asked_at same ∙
          asks.own in omega (arith, e, t.made))
          (λ ne. omega (arith, asks.others w.frame.0 ne, t.asked))
          (cases_eq w.frame.0 frame);
    }

    old_ones : standing new list ≡ wants_of_others s frame
    old_ones =
        filter-narrower (stands old) (stands new)
        (λ (w : Want). not (w.frame == frame) && is_live s.frames w.frame) list
        (all-weaker (λ w. IsTimelyWant entries old w ×
        (is_live s.frames w.frame.0 ≡ not (is_some (old.ended_at w.frame.0))))
        (λ w. stands new w ≡ (stands old w && (not (w.frame.0 == frame) && is_live s.frames w.frame.0)))
        (λ w h. stands-asked entries frame old new s w asks counts h.0 h.1) list
        (all-both (IsTimelyWant entries old) (λ w. is_live s.frames w.frame.0 ≡ not (is_some (old.ended_at w.frame.0)))
        list are.timely live))
        ∙ ap (filter (λ (w : Want). not (w.frame == frame) && is_live s.frames w.frame)) are.standing

    new_ones : standing new (map (of_page like) pages) ≡ wants_of frame like.settled pages
    new_ones =
        standing-new frame new like pages is
        (λ p. omega (arith, asks.loads p, counts.loads p, made))
        (asks.own ∙ sym made)
        (asks.ends frame ∙ none)

-- ---- the end of a load

stands-load_ended : (entries page : ℕ) (old new : WantCounts) (w : QueuedWant) → EndsLoad page (entries + 1) old new
    → IsTimelyWant entries old w → stands new w ≡ (stands old w && not (w.page == page))
stands-load_ended entries page old new w ends timely = ⊎_elim own other (cases_eq w.page page)
  where
    own : w.page ≡ page → stands new w ≡ (stands old w && not (w.page == page))
    own same =
        let ended : new.load_ended_at w.page ≡ entries + 1 = ap new.load_ended_at same ∙ ends.own in
        let over : nat_le (new.load_ended_at w.page) w.made_at ≡ false =
        ap (λ k. nat_le k w.made_at) ended ∙ no-le (entries + 1) w.made_at (omega (arith, timely.made)) in
        ap (λ b. b && (nat_le (new.asked_at w.frame.0) w.made_at && not
        (is_before (new.ended_at w.frame.0) new.last_asked))) over
        ∙ sym (ap (λ b. stands old w && not b) (eq-eqb w.page page same) ∙ and-false (stands old w))

    other : w.page ≢ page → stands new w ≡ (stands old w && not (w.page == page))
    other ne =
        stands-parts new w (old.load_ended_at w.page) (old.asked_at w.frame.0) (old.ended_at w.frame.0) old.last_asked
        (ends.others w.page ne) (ends.asked w.frame.0) (ends.ends w.frame.0) ends.last_asked
        ∙ sym (ap (λ b. stands old w && not b) (ne-eqb w.page page ne) ∙ and-true (stands old w))

pub AreWants-load_ended : (entries page : ℕ) (old new : WantCounts) (list : List QueuedWant) (wants : List Want)
    → AreWants entries old list wants → EndsLoad page (entries + 1) old new
    → AreWants (entries + 1) new list (wants_without page wants)
AreWants-load_ended entries page old new list wants are ends = record {
  standing =
      filter-narrower (stands old) (stands new) (λ (w : Want). not (w.page == page)) list
      (all-weaker (IsTimelyWant entries old) (λ w. stands new w ≡ (stands old w && not (w.page == page)))
      (λ w t. stands-load_ended entries page old new w ends t) list are.timely)
      ∙ ap (filter (λ (w : Want). not (w.page == page))) are.standing;
  timely =
      all-weaker (IsTimelyWant entries old) (IsTimelyWant (entries + 1) new)
      (λ w t. record {
        some = t.some;
        made = omega (arith, t.made);
        asked = omega (arith, ends.asked w.frame.0, t.asked);
      }) list are.timely;
}

-- ---- an Unpin

stands-ended : (entries frame : ℕ) (old new : WantCounts) (w : QueuedWant) → EndsFrame frame (entries + 1) old new
    → AreTimelyCounts entries old → stands new w ≡ stands old w
stands-ended entries frame old new w ends counts = ⊎_elim own other (cases_eq w.frame.0 frame)
  where
    own : w.frame.0 ≡ frame → stands new w ≡ stands old w
    own same =
        stands-parts new w (old.load_ended_at w.page) (old.asked_at w.frame.0) (Some (entries + 1)) old.last_asked
        (ends.loads w.page) (ends.asked w.frame.0) (ap new.ended_at same ∙ ends.own) ends.last_asked
        ∙ (ap (λ b. nat_le (old.load_ended_at w.page) w.made_at && (nat_le (old.asked_at w.frame.0) w.made_at && not b))
        (no-lt (entries + 1) old.last_asked (omega (arith, counts.last_asked)))
        ∙ sym (stands-parts old w (old.load_ended_at w.page) (old.asked_at w.frame.0) None old.last_asked refl refl
        (ap old.ended_at same ∙ ends.live) refl))

    other : w.frame.0 ≢ frame → stands new w ≡ stands old w
    other ne =
        stands-parts new w (old.load_ended_at w.page) (old.asked_at w.frame.0) (old.ended_at w.frame.0) old.last_asked
        (ends.loads w.page) (ends.asked w.frame.0) (ends.others w.frame.0 ne) ends.last_asked

all-each : (P : QueuedWant → Type 0) (ws : List QueuedWant) → ((w : QueuedWant) → P w) → AllByRecursion P ws
all-each P [] each = tt
all-each P (w ∷ ws) each = (each w, all-each P ws each)

pub AreWants-ended : (entries frame : ℕ) (old new : WantCounts) (list : List QueuedWant) (wants : List Want)
    → AreWants entries old list wants → EndsFrame frame (entries + 1) old new → AreTimelyCounts entries old
    → AreWants (entries + 1) new list wants
AreWants-ended entries frame old new list wants are ends counts = record {
  standing =
      ap (map want_of) (filter-alike (stands old) (stands new) list
      (all-each (λ w. stands new w ≡ stands old w) list (λ w. stands-ended entries frame old new w ends counts))) ∙
      are.standing;
  timely =
      all-weaker (IsTimelyWant entries old) (IsTimelyWant (entries + 1) new)
      (λ w t. record {
        some = t.some;
        made = omega (arith, t.made);
        asked = omega (arith, ends.asked w.frame.0, t.asked);
      }) list are.timely;
}

-- ---- all other events

pub AreWants-kept : (entries : ℕ) (old new : WantCounts) (list : List QueuedWant) (wants : List Want)
    → AreWants entries old list wants → KeepsCounts old new → AreWants (entries + 1) new list wants
AreWants-kept entries old new list wants are keeps = record {
  standing =
      ap (map want_of) (filter-alike (stands old) (stands new) list
      (all-each (λ w. stands new w ≡ stands old w) list
      (λ w. stands-parts new w (old.load_ended_at w.page) (old.asked_at w.frame.0)
      (old.ended_at w.frame.0) old.last_asked (keeps.loads w.page) (keeps.asked w.frame.0)
      (keeps.ends w.frame.0) keeps.last_asked))) ∙ are.standing;
  timely =
      all-weaker (IsTimelyWant entries old) (IsTimelyWant (entries + 1) new)
      (λ w t. record {
        some = t.some;
        made = omega (arith, t.made);
        asked = omega (arith, keeps.asked w.frame.0, t.asked);
      }) list are.timely;
}
