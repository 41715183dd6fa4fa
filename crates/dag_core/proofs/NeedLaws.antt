-- What a lens needs is enough: more pages than these change no cut.
use Rattle.std.proofs.Common.{◌≡◌, ◌==◌, ◌<◌, ◌+◌, ◌∙◌, ◌++◌, ◌∷◌, [], ap, sym, refl, filter, ℕ, zero, suc, Bool, true}
use Rattle.std.proofs.Common.{false, not, ◌&&◌, ◌||◌, List, length, map, Option, None, Some, arith, cond}
use Rattle.std.specs.List.{list_any, range_with_len}
use Rattle.std.proofs.lemmas.Bool.{and_from, false≢true}
use Rattle.std.proofs.lemmas.Bool.Decides.{nat_tests}
use Rattle.std.proofs.lemmas.List.Folds.{list_any_at}
use Rattle.std.proofs.lemmas.List.Elements.{filter-append}
use Rattle.geom_core.specs.declared.views.Lens.{Lens}
use Rattle.dag_core.specs.declared.groups.Group.{Group}
use Rattle.dag_core.specs.declared.heads.Heads.{Heads}
use Rattle.dag_core.specs.Coarse.{is_coarse_group}
use Rattle.dag_core.specs.Cuts.{cut_of, is_in_cut, is_maker_open, is_open}
use Rattle.dag_core.specs.Members.{cluster_at, group_at, home, no_group}
use Rattle.dag_core.specs.PageSets.{AreIn, IsNeed, coarse_pages, has_page}
use Rattle.dag_core.specs.Ranges.{IsInRange}
use Rattle.dag_core.specs.Rules.{Checked}
use Rattle.dag_core.proofs.ListSteps.{list_any-filter, range_more}
use Rattle.dag_core.proofs.MemberLaws.{home_below, in_turn}
use Rattle.dag_core.proofs.OpenLaws.{terminal_is_root}
use Rattle.dag_core.proofs.PageSetLaws.{in_all}
use Rattle.dag_core.proofs.RangeLaws.{group_bounds, maker_below}

same_number : (n : ℕ) → (n == n) ≡ true
same_number n = grind (arith, nat_tests)

-- ---- filters by tests that agree

one_alike : (test other : ℕ → Bool) (c : ℕ) → test c ≡ other c → filter test (c ∷ []) ≡ filter other (c ∷ [])
one_alike test other c same = ap (λ b. cond b (c ∷ []) []) same

pub filter_alike : (test other : ℕ → Bool) (n : ℕ) → ((c : ℕ) → c < n → test c ≡ other c) →
    filter test (range_with_len 0 n) ≡ filter other (range_with_len 0 n)
filter_alike test other zero same = refl
filter_alike test other (suc n) same =
    let next : suc n ≡ n + 1 = omega arith in
    let more : range_with_len 0 (suc n) ≡ range_with_len 0 n ++ n ∷ [] =
    ap (range_with_len 0) next ∙ range_more n in
    ap (filter test) more
    ∙ (filter-append test (range_with_len 0 n) (n ∷ [])
    ∙ (ap (λ xs. xs ++ filter test (n ∷ [])) (filter_alike test other n (λ c below. same c (omega arith)))
    ∙ (ap (λ xs. filter other (range_with_len 0 n) ++ xs) (one_alike test other n (same n (omega arith)))
    ∙ (sym (filter-append other (range_with_len 0 n) (n ∷ [])) ∙ ap (filter other) (sym more)))))

-- ---- groups that are open over what is needed

any_map : {X : Type 0} (test : ℕ → Bool) (f : X → ℕ) (xs : List X) →
    list_any test (map f xs) ≡ list_any (λ x. test (f x)) xs
any_map test f [] = refl
any_map test f (x ∷ xs) = ap (λ b. test (f x) || b) (any_map test f xs)

-- the page of a coarse group is among the seeds
coarse_seed : (heads : Heads) (lens : Lens) (g : ℕ) → g < length heads.groups →
    is_coarse_group lens (group_at heads g) ≡ true →
    has_page (coarse_pages heads lens) (group_at heads g).page ≡ true
coarse_seed heads lens g below coarse =
    let p : ℕ = (group_at heads g).page in
    any_map (λ q. q == p) (λ (group : Group). group.page) (filter (is_coarse_group lens) heads.groups)
    ∙ (list_any-filter (λ (group : Group). group.page == p) (is_coarse_group lens) heads.groups
    ∙ list_any_at (λ (group : Group). is_coarse_group lens group && group.page == p) heads.groups g no_group below
    (and_from (is_coarse_group lens (group_at heads g)) (p == p) coarse (same_number p)))

same_open : (has all terminal coarse : Bool) → all ≡ true → (terminal ≡ true → has ≡ true) → (coarse ≡ true →
    has ≡ true) →
    (has && (terminal || coarse)) ≡ (all && (terminal || coarse))
same_open true true terminal coarse is by_terminal by_coarse = refl
same_open false true true coarse is by_terminal by_coarse = by_terminal refl
same_open false true false true is by_terminal by_coarse = by_coarse refl
same_open false true false false is by_terminal by_coarse = refl
same_open has false terminal coarse is by_terminal by_coarse = absurd (false≢true is)

-- a group is open over needed pages exactly where it is over all pages
open_alike : (heads : Heads) (lens : Lens) (need resident : List ℕ) (g : ℕ) → IsInRange heads → Checked heads →
    IsNeed heads lens need → AreIn need resident → g < length heads.groups →
    is_open heads lens resident g ≡ is_open heads lens (range_with_len 0 heads.pages) g
unfolding is_open
open_alike heads lens need resident g range checked is_need enough below =
    let group : Group = group_at heads g in
    let bounds = group_bounds heads g range below in
    same_open (has_page resident group.page) (has_page (range_with_len 0 heads.pages) group.page) group.terminal
    (is_coarse_group lens group)
    (in_all heads.pages group.page bounds.page)
    (λ terminal. enough group.page (is_need.closed.roots group.page
    (terminal_is_root heads g range checked below terminal)))
    (λ coarse. enough group.page (is_need.seeded group.page (coarse_seed heads lens g below coarse)))

maker_alike : (heads : Heads) (lens : Lens) (need resident : List ℕ) (c : ℕ) (made : Option ℕ) → IsInRange heads →
    Checked heads →
    IsNeed heads lens need → AreIn need resident → c < length heads.clusters → (cluster_at heads c).made ≡ made →
    is_maker_open heads lens resident made ≡ is_maker_open heads lens (range_with_len 0 heads.pages) made
maker_alike heads lens need resident c None range checked is_need enough below made = refl
maker_alike heads lens need resident c (Some m) range checked is_need enough below made =
    open_alike heads lens need resident m range checked is_need enough (maker_below heads c m range below made)

both_alike : (a b c d : Bool) → a ≡ b → c ≡ d → (a && not c) ≡ (b && not d)
both_alike a b c d same other = ap (λ x. x && not c) same ∙ ap (λ x. b && not x) other

-- over pages that have all that the lens needs, the cut is the one over all pages
pub need_is_enough : (heads : Heads) (lens : Lens) (need resident : List ℕ) → IsInRange heads → Checked heads →
    IsNeed heads lens need → AreIn need resident →
    cut_of heads lens resident ≡ cut_of heads lens (range_with_len 0 heads.pages)
need_is_enough heads lens need resident range checked is_need enough =
    let turn = in_turn heads (λ rule index below. checked rule index) in
    filter_alike (is_in_cut heads lens resident) (is_in_cut heads lens (range_with_len 0 heads.pages))
    (length heads.clusters)
    (λ c below. both_alike _ _ _ _
    (open_alike heads lens need resident (home heads c) range checked is_need enough (home_below heads c turn below))
    (maker_alike heads lens need resident c (cluster_at heads c).made range checked is_need enough below refl))
