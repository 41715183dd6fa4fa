-- The list by page that marks some pages, and what a change of one page leaves of lists by page.
use Rattle.std.proofs.Common.{◌≡◌, ℕ, ◌<◌, ◌==◌, nat_lt, List, [], ◌∷◌, Bool, true, false, ⊎_elim, fold, get_or, length}
use Rattle.std.proofs.Common.{replicate, set, refl, ◌∙◌, arith, length-set, get_or-set_same}
use Rattle.std.proofs.lemmas.Bool.Decides.{nat_tests}
use Rattle.std.proofs.lemmas.List.{length-replicate}
use Rattle.journal.specs.Layout.{all_below}
use Rattle.pool_rules.specs.Numbers.{is_among}
use Rattle.pool_rules.specs.State.{marked}
use Rattle.pool_rules.proofs.Flags.{get_or-set_cases}
use Rattle.pool_rules.proofs.Pinned.{marked-listed}
use Rattle.pool_rules.proofs.Tests.{all-at_any, or-cases, same-bools, same-eqb}

still-marked : (start : List Bool) (pages : List ℕ) (p : ℕ) → get_or start p false ≡ true
    → get_or (fold (λ marks page. set marks page true) start pages) p false ≡ true
still-marked start [] p h = h
still-marked start (q ∷ pages) p h =
    still-marked (set start q true) pages p (⊎_elim (λ same. same ∙ h) (λ here. here.1)
    (get_or-set_cases start q p true false))

now-marked : (start : List Bool) (pages : List ℕ) (p : ℕ) → p < length start → is_among pages p ≡ true
    → get_or (fold (λ marks page. set marks page true) start pages) p false ≡ true
now-marked start [] p below h = cc
now-marked start (q ∷ pages) p below h =
    ⊎_elim
    (λ here. let same : q ≡ p = same-eqb q p here in still-marked (set start q true) pages p
    (rw same (get_or-set_same start p true false below)))
    (λ later. now-marked (set start q true) pages p (omega (arith, below, length-set start q true)) later)
    (or-cases (q == p) (is_among pages p) h)

-- the pages of a list that are all pages are those that its marks tell
pub get_or-marked : (n : ℕ) (pages : List ℕ) (p : ℕ) → all_below n pages ≡ true
    → get_or (marked n pages) p false ≡ is_among pages p
get_or-marked n pages p all =
    same-bools _ _
    (λ h. marked-listed n pages p h)
    (λ h.
    let test = all-at_any (λ q. nat_lt q n) pages p all h in
    let below : p < n = grind (arith, nat_tests) in
    now-marked (replicate n false) pages p (omega (arith, below, length-replicate n false)) h)

length-fold : (start : List Bool) (pages : List ℕ)
    → length (fold (λ marks page. set marks page true) start pages) ≡ length start
length-fold start [] = refl
length-fold start (q ∷ pages) = length-fold (set start q true) pages ∙ length-set start q true

pub length-marked : (n : ℕ) (pages : List ℕ) → length (marked n pages) ≡ n
length-marked n pages = length-fold (replicate n false) pages ∙ length-replicate n false
