-- One group more is linked to the next one on its page.
use Rattle.std.proofs.Common.{◌≡◌, ℕ, ◌+◌, ◌<◌, ◌≤◌, true, false, eqb, List, length, get_or, set, refl, sym, ◌∙◌, inl}
use Rattle.std.proofs.Common.{inr, arith}
use Rattle.std.proofs.lemmas.Bool.{cases_eq}
use Rattle.std.proofs.lemmas.Bool.Decides.{nat_tests}
use Rattle.std.proofs.lemmas.List.{get_or-set_same, get_or-set_other, length-set}
use Rattle.dag_core.specs.declared.groups.Group.{Group}
use Rattle.dag_core.specs.Members.{no_group}
use Rattle.page_codec.specs.PageLinks.{next_on}
use Rattle.page_codec.proofs.Links.{next_on-at}

-- where each page begins, from group g on
abbrev pub FirstsLinked : List Group → List ℕ → ℕ → Type 0
FirstsLinked groups firsts g = (p : ℕ) → p < length firsts → get_or firsts p 0 ≡ next_on groups p g

-- how it goes on after each group from g on
abbrev pub NextsLinked : List Group → List ℕ → ℕ → Type 0
NextsLinked groups nexts g =
    (j : ℕ) → g ≤ j → j < length groups → get_or nexts j 0 ≡ next_on groups (get_or groups j no_group).page (j + 1)

pub next_on-here : (groups : List Group) (p g : ℕ) → g < length groups → (get_or groups g no_group).page ≡ p →
    next_on groups p g ≡ g
next_on-here groups p g below here =
    let test : eqb (get_or groups g no_group).page p ≡ true =
    grind (arith, nat_tests) in next_on-at groups p g below ∙ rw test refl

pub next_on-later : (groups : List Group) (p g : ℕ) → g < length groups → ((get_or groups g no_group).page ≡ p → ⊥) →
    next_on groups p g ≡ next_on groups p (g + 1)
next_on-later groups p g below other =
    let test : eqb (get_or groups g no_group).page p ≡ false =
    grind (arith, nat_tests) in next_on-at groups p g below ∙ rw test refl

pub FirstsLinked-more : (groups : List Group) (firsts : List ℕ) (g : ℕ) → g < length groups →
    (get_or groups g no_group).page < length firsts
    → FirstsLinked groups firsts (g + 1) → FirstsLinked groups (set firsts (get_or groups g no_group).page g) g
FirstsLinked-more groups firsts g below within linked =
    let page = (get_or groups g no_group).page in
    λ p inside. elim (cases_eq page p) [
      | inl here ↦ rw (← here) (get_or-set_same firsts page g 0 within ∙ sym (next_on-here groups page g below refl))
      | inr other ↦
          get_or-set_other firsts page p g 0 (λ e. other (sym e))
          ∙ linked p (omega (arith, length-set firsts page g)) ∙ sym (next_on-later groups p g below other)
    ]

pub NextsLinked-more : (groups : List Group) (firsts nexts : List ℕ) (g : ℕ) → g < length groups →
    (get_or groups g no_group).page < length firsts → length nexts ≡ length groups
    → FirstsLinked groups firsts (g + 1) → NextsLinked groups nexts (g + 1) →
    NextsLinked groups (set nexts g (get_or firsts (get_or groups g no_group).page 0)) g
NextsLinked-more groups firsts nexts g below within len linked after =
    let page = (get_or groups g no_group).page in
    λ j from to. elim (cases_eq g j) [
      | inl here ↦ rw (← here) (get_or-set_same nexts g (get_or firsts page 0) 0 (omega arith) ∙ linked page within)
      | inr other ↦ get_or-set_other nexts g j (get_or firsts page 0) 0 (λ e. other (sym e)) ∙ after j (omega arith) to
    ]
