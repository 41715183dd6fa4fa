-- What rule 5 and the ranges give for a page: its clusters are clusters of the heads, and its triangles fit.
use Rattle.std.proofs.Common.{◌≡◌, ℕ, ◌<◌, ◌≤◌, Bool, true, false, not, ◌&&◌, ◌||◌, ltb, leb, length, refl, arith}
use Rattle.std.specs.List.{All, range_with_len, list_any}
use Rattle.std.proofs.lemmas.Bool.Decides.{nat_tests}
use Rattle.std.proofs.lemmas.List.Elements.{All-filter}
use Rattle.std.proofs.lemmas.List.FromFn.{get_or-range_with_len, length-range_with_len}
use Rattle.dag_core.specs.declared.heads.Heads.{Heads}
use Rattle.dag_core.specs.Pages.{clusters_on, tris_on, has_terminal_on, uppers_of}
use Rattle.dag_core.specs.Rules.{Checked, breaks_page}

-- a page's clusters are clusters of the heads
pub clusters_on-below : (heads : Heads) (p : ℕ) → All (λ c. c < length heads.clusters) (clusters_on heads p)
clusters_on-below heads p =
    All-filter _ (λ c. c < length heads.clusters) (range_with_len 0 (length heads.clusters))
    (λ k d below.
    let n = length-range_with_len 0 (length heads.clusters) in
    let at = get_or-range_with_len 0 (length heads.clusters) k d (omega arith) in
    omega (arith, at, n))

-- the first of three facts that a rule joins
kept : (b c d : Bool) → (not b || c || d) ≡ false → b ≡ true
kept true c d rule = refl
kept false c d rule = cc

within : (a b : Bool) → a && b ≡ true → b ≡ true
within true b both = both
within false b both = cc

-- the rule holds where the page is one of the file's
inside : (a b : Bool) → a ≡ true → a && b ≡ false → b ≡ false
inside true b is rule = rule
inside false b is rule = cc

-- a checked page has at most 1,638 triangles
pub tris_on-le : (heads : Heads) → Checked heads → (p : ℕ) → p < heads.pages → tris_on heads p ≤ 1638
unfolding breaks_page
tris_on-le heads checked p below =
    let page : ltb p heads.pages ≡ true = grind (arith, nat_tests) in
    let count =
    kept (leb 1 (tris_on heads p) && leb (tris_on heads p) 1638) (leb heads.roots p && has_terminal_on heads p)
    (list_any (ltb p) (uppers_of heads p)) (inside (ltb p heads.pages) _ page (checked 5 p)) in
    let most = within (leb 1 (tris_on heads p)) (leb (tris_on heads p) 1638) count in
    grind (arith, nat_tests)
