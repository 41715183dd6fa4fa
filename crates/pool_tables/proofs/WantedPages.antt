-- After every legal journal each page that may be taken is one of the layout.
use Rattle.std.proofs.Common.{◌≡◌, ℕ, suc, ◌<◌, nat_lt, List, [], ◌∷◌, Bool, true, false, cond, Option, Some, None}
use Rattle.std.proofs.Common.{find, refl, subst, arith}
use Rattle.std.specs.List.{All}
use Rattle.std.proofs.lemmas.Bool.Decides.{Decides-ltb}
use Rattle.journal.specs.declared.entries.Entry.{Entry}
use Rattle.journal.specs.declared.layouts.Layout.{Layout}
use Rattle.pool_rules.specs.Next.{next_in, next_of, is_take, is_takeable, first_takeable}
use Rattle.pool_rules.specs.Rules.{IsLegal}
use Rattle.pool_rules.specs.State.{State, state_of}
use Rattle.pool_rules.specs.declared.want.Want.{Want}
use Rattle.pool_rules.proofs.Choices.{take-at, without-no_take}
use Rattle.pool_rules.proofs.LargePool.{wants-pages}

find-has : (P : Want → Type 0) (test : Want → Bool) (wants : List Want) (want : Want) → All P wants →
    find test wants ≡ Some want → P want
find-has P test [] want all found = cc
find-has P test (w ∷ wants) want all found =
    elim (test w) as (λ b. test w ≡ b → cond b (Some w) (find test wants) ≡ Some want → P want) [
      | true ↦ λ passes k. let same : w ≡ want = cc in subst P same (all 0 w (omega arith))
      | false ↦ λ fails k. find-has P test wants want (λ i d below. all (suc i) d (omega (arith, below))) k
    ] refl found

taken-of : (layout : Layout) (s : State) (frame : Option ℕ) (page : ℕ) (victim : Option ℕ) (want : Option Want) →
    first_takeable layout s frame ≡ want → is_take (next_of layout s frame want) page victim ≡ true →
    All (λ (want : Want). nat_lt want.page layout.pages ≡ true) s.wants → page < layout.pages
taken-of layout s frame page victim None first h within = absurd (without-no_take s frame page victim h)
taken-of layout s frame page victim (Some want) first h within =
    let at = take-at layout s want.page page victim h in
    let found = find-has (λ (w : Want). nat_lt w.page layout.pages ≡ true) (is_takeable layout s frame) s.wants want
    within first in
    omega (arith, at.0, (Decides-ltb want.page layout.pages).0 found)

-- a page that may be taken after a legal journal is one of the layout
pub taken-within : (layout : Layout) (journal : List Entry) (frame : Option ℕ) (page : ℕ) (victim : Option ℕ) →
    IsLegal layout journal → is_take (next_in layout (state_of layout journal) frame) page victim ≡ true →
    page < layout.pages
taken-within layout journal frame page victim legal h =
    let s = state_of layout journal in
    taken-of layout s frame page victim (first_takeable layout s frame) refl h (wants-pages layout journal legal)
