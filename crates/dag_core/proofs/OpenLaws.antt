-- Which groups are open: a greater error in a wider box stays coarse, terminal groups are open over closed sets of
-- pages,
-- and so is the home of a cluster whose maker is open.
use Rattle.std.proofs.Common.{◌≡◌, ◌==◌, ◌<◌, ◌≤◌, ◌*◌, ◌∙◌, ap, sym, refl, subst, inl, inr, ℕ, Bool, true, false, not}
use Rattle.std.proofs.Common.{◌&&◌, ◌||◌, ◌⊎◌, List, length, max, Some, nat_lt, nat_le, IsTrue, arith, cond}
use Rattle.std.specs.List.{list_any}
use Rattle.std.proofs.Math.Nat.{mul-le-mul_left, mul-le-mul_right}
use Rattle.std.proofs.lemmas.Bool.{and_parts, and_from}
use Rattle.std.proofs.lemmas.List.Folds.{list_any_at}
use Rattle.std.proofs.lemmas.List.Elements.{All-get_or}
use Rattle.std.proofs.lemmas.Bool.Decides.{nat_tests}
use Rattle.geom_core.specs.declared.boxes.Cube.{Cube}
use Rattle.geom_core.specs.declared.views.Lens.{Lens}
use Rattle.geom_core.specs.declared.limits.TheConstants.{PAGE_TRIANGLES, SUBPIXELS}
use Rattle.geom_core.specs.Boxes.{holds_box, is_under}
use Rattle.geom_core.specs.Limits.{is_grid_point}
use Rattle.geom_core.specs.Distance.{box_distance}
use Rattle.geom_core.proofs.BoxLaws.{Holds-from, Under-from, box_distance-wider}
use Rattle.dag_core.specs.declared.groups.Group.{Group}
use Rattle.dag_core.specs.declared.heads.Heads.{Heads}
use Rattle.dag_core.specs.Coarse.{is_coarse, is_coarse_group}
use Rattle.dag_core.specs.Cuts.{is_open}
use Rattle.dag_core.specs.Members.{cluster_at, group_at, home, is_made_by, is_maker, no_cluster, no_group}
use Rattle.dag_core.specs.PageSets.{IsClosed, has_page}
use Rattle.dag_core.specs.Pages.{has_terminal_on, is_maker_on, page_of_cluster, tris_on, uppers_of}
use Rattle.dag_core.specs.Ranges.{IsInRange, is_count_to, IsGroupInRange, counts_of}
use Rattle.dag_core.specs.Rules.{Checked, has_made, is_maker_outside, is_outgrown}
use Rattle.dag_core.specs.Internal.Tables.{is_bad_page}
use Rattle.dag_core.proofs.RangeLaws.{group_bounds, maker_below}
use Rattle.dag_core.proofs.RuleLaws.{bound_at, page_at, terminal_at}
use Rattle.dag_core.proofs.UpperLaws.{upper_from}

-- ---- coarse

wider_product : (tolerance far near : ℕ) → far ≤ near → tolerance * max 1 far ≤ tolerance * max 1 near
wider_product tolerance far near le = mul-le-mul_left tolerance (omega arith)

greater_product : (error greater focal : ℕ) → error ≤ greater → error * focal * SUBPIXELS ≤ greater * focal * SUBPIXELS
greater_product error greater focal le = mul-le-mul_right SUBPIXELS (mul-le-mul_right focal le)

below_test : (a b : ℕ) → nat_lt a b ≡ true → a < b
below_test a b is = grind (arith, nat_tests)

test_below : (a b : ℕ) → a < b → nat_lt a b ≡ true
test_below a b lt = grind (arith, nat_tests)

-- a greater error in a wider box is coarse where the lesser one in the box is
pub coarse_grows : (error greater : ℕ) (box wider : Cube) (lens : Lens) → error ≤ greater →
    IsTrue (is_under box.lo box.hi) →
    IsTrue (holds_box wider box) → IsTrue (is_coarse error box lens) → IsTrue (is_coarse greater wider lens)
unfolding is_coarse
coarse_grows error greater box wider lens le corners holds coarse =
    let near : box_distance wider lens.eye ≤ box_distance box lens.eye =
    box_distance-wider wider box lens.eye (Under-from box.lo box.hi corners) (Holds-from wider box holds) in
    let left = wider_product lens.tolerance (box_distance wider lens.eye) (box_distance box lens.eye) near in
    let right = greater_product error greater lens.focal le in
    let below = below_test (lens.tolerance * max 1 (box_distance box lens.eye))
    (error * lens.focal * SUBPIXELS) coarse in
    test_below (lens.tolerance * max 1 (box_distance wider lens.eye)) (greater * lens.focal * SUBPIXELS) (omega arith)

same_number : (p : ℕ) → (p == p) ≡ true
same_number p = grind (arith, nat_tests)

-- ---- what rules 3, 4 and 5 say of a maker and a home

-- a terminal group is on a root page
terminal_on : (heads : Heads) (g : ℕ) → g < length heads.groups → IsTrue (group_at heads g).terminal →
    has_terminal_on heads (group_at heads g).page ≡ true
unfolding has_terminal_on
terminal_on heads g below terminal =
    list_any_at (λ (group : Group). group.terminal && group.page ==
    (group_at heads g).page) heads.groups g no_group below
    (and_from (group_at heads g).terminal ((group_at heads g).page == (group_at heads g).page) terminal (grind
    (arith, nat_tests)))

root_page : (roots p : ℕ) (counts later : Bool) → (not counts || nat_le roots p && true || later) ≡ false → p < roots
root_page roots p true later kept = grind (arith, nat_tests)
root_page roots p false later kept = grind (arith, nat_tests)

pub terminal_is_root : (heads : Heads) (g : ℕ) → IsInRange heads → Checked heads → g < length heads.groups →
    IsTrue (group_at heads g).terminal → (group_at heads g).page < heads.roots
unfolding is_bad_page
terminal_is_root heads g range checked below terminal =
    let p = (group_at heads g).page in
    let page = group_bounds heads g range below in
    let kept = sym (page_at heads p page.page) ∙ checked 5 p in
    root_page heads.roots p (is_count_to PAGE_TRIANGLES (tris_on heads p)) (list_any (nat_lt p) (uppers_of heads p))
    (subst (λ b. (not (is_count_to PAGE_TRIANGLES (tris_on heads p)) || nat_le heads.roots p && b || list_any
    (nat_lt p) (uppers_of heads p)) ≡ false)
    (terminal_on heads g below terminal) kept)

-- a group that made a cluster isn't terminal
made_test : (heads : Heads) (c m : ℕ) → c < length heads.clusters → (cluster_at heads c).made ≡ Some m →
    has_made heads m ≡ true
unfolding has_made
made_test heads c m below made =
    list_any_at (is_made_by m) heads.clusters c no_cluster below
    (ap (is_maker m) made ∙ same_number m)

not_terminal : (terminal made : Bool) → made ≡ true → cond terminal made (not made) ≡ false → terminal ≡ false
not_terminal true true made kept = kept
not_terminal false true made kept = refl
not_terminal true false made kept = sym made
not_terminal false false made kept = refl

pub maker_goes_on : (heads : Heads) (c m : ℕ) → IsInRange heads → Checked heads → c < length heads.clusters →
    (cluster_at heads c).made ≡ Some m → (group_at heads m).terminal ≡ false
maker_goes_on heads c m range checked below made =
    let m_below = maker_below heads c m range below made in
    not_terminal (group_at heads m).terminal (has_made heads m) (made_test heads c m below made)
    (sym (terminal_at heads m m_below) ∙ checked 3 m)

-- the home of a cluster bounds its maker
record Bounds (home maker : Group) : Type 0 where
  holds : holds_box home.cube maker.cube ≡ true
  error : home.terminal ≡ false → maker.error ≤ home.error

bounds_by : (terminal greater holds : Bool) → (not terminal && greater || not holds) ≡ false →
    (holds ≡ true) × (terminal ≡ false → greater ≡ false)
bounds_by true true true kept = (refl, λ t. t)
bounds_by true true false kept = (sym kept, λ t. t)
bounds_by true false true kept = (refl, λ t. refl)
bounds_by true false false kept = (sym kept, λ t. refl)
bounds_by false true true kept = (refl, λ t. kept)
bounds_by false true false kept = (sym kept, λ t. kept)
bounds_by false false true kept = (refl, λ t. refl)
bounds_by false false false kept = (sym kept, λ t. refl)

not_less : (a b : ℕ) → nat_lt a b ≡ false → b ≤ a
not_less a b is = grind (arith, nat_tests)

bounded : (home maker : Group) → is_outgrown home maker ≡ false → Bounds home maker
unfolding is_outgrown
bounded home maker kept =
    let parts = bounds_by home.terminal (nat_lt home.error maker.error) (holds_box home.cube maker.cube) kept in
    record { holds = parts.0; error = λ goes_on. not_less home.error maker.error (parts.1 goes_on) }

home_bounds : (heads : Heads) (c m : ℕ) → Checked heads → c < length heads.clusters →
    (cluster_at heads c).made ≡ Some m →
    Bounds (group_at heads (home heads c)) (group_at heads m)
home_bounds heads c m checked below made =
    bounded (group_at heads (home heads c)) (group_at heads m)
    (sym (ap (is_maker_outside heads (home heads c)) made) ∙ (sym (bound_at heads c below) ∙ checked 4 c))

-- ---- open groups

cases_eq : (p q : ℕ) → (p ≡ q) ⊎ (p ≡ q → ⊥)
cases_eq p q = grind arith

-- the low corner of a group's box isn't above the high one
box_corners : (heads : Heads) (g : ℕ) → IsInRange heads → g < length heads.groups →
    is_under (group_at heads g).cube.lo (group_at heads g).cube.hi ≡ true
box_corners heads g range below =
    let here = All-get_or (IsGroupInRange (counts_of heads)) heads.groups g no_group below range.groups in
    (and_parts (is_grid_point (group_at heads g).cube.lo && is_grid_point (group_at heads g).cube.hi)
    (is_under (group_at heads g).cube.lo (group_at heads g).cube.hi) here.box).1

-- the page of a cluster's home is resident where that of its maker is
home_page : (heads : Heads) (resident : List ℕ) (c m : ℕ) → IsClosed heads resident → c < length heads.clusters →
    (cluster_at heads c).made ≡ Some m → has_page resident (group_at heads m).page ≡ true →
    has_page resident (group_at heads (home heads c)).page ≡ true
home_page heads resident c m closed below made has =
    elim (cases_eq (page_of_cluster heads c) (group_at heads m).page) [
      | inl same ↦ subst (λ p. has_page resident p ≡ true) (sym same) has
      | inr other ↦
          closed.uppers (group_at heads m).page (page_of_cluster heads c) has
          (upper_from heads (group_at heads m).page (page_of_cluster heads c) c below
          (ap (is_maker_on heads (group_at heads m).page) made ∙ same_number (group_at heads m).page) refl other)
    ]

open_parts : (heads : Heads) (lens : Lens) (resident : List ℕ) (g : ℕ) → is_open heads lens resident g ≡ true →
    (has_page resident (group_at heads g).page ≡ true) × (((group_at heads g).terminal || is_coarse_group lens
    (group_at heads g)) ≡ true)
unfolding is_open
open_parts heads lens resident g is =
    and_parts (has_page resident (group_at heads g).page) ((group_at heads g).terminal || is_coarse_group lens
    (group_at heads g)) is

open_from : (heads : Heads) (lens : Lens) (resident : List ℕ) (g : ℕ) →
    has_page resident (group_at heads g).page ≡ true →
    ((group_at heads g).terminal || is_coarse_group lens (group_at heads g)) ≡ true →
    is_open heads lens resident g ≡ true
unfolding is_open
open_from heads lens resident g has detail =
    and_from (has_page resident (group_at heads g).page) ((group_at heads g).terminal || is_coarse_group lens
    (group_at heads g)) has detail

whatever : (a b : Bool) → true ≡ false → a ≡ b
whatever true true contrary = refl
whatever true false contrary = contrary
whatever false true contrary = sym contrary
whatever false false contrary = refl

or_second : (a b : Bool) → (a || b) ≡ true → a ≡ false → b ≡ true
or_second true b is fails = whatever b true fails
or_second false b is fails = is

or_by : (a b : Bool) → (a ≡ false → b ≡ true) → (a || b) ≡ true
or_by true b is = refl
or_by false b is = is refl

-- a terminal group is open
pub terminal_is_open : (heads : Heads) (lens : Lens) (resident : List ℕ) (g : ℕ) → IsInRange heads → Checked heads →
    IsClosed heads resident →
    g < length heads.groups → IsTrue (group_at heads g).terminal → is_open heads lens resident g ≡ true
terminal_is_open heads lens resident g range checked closed below terminal =
    open_from heads lens resident g
    (closed.roots (group_at heads g).page (terminal_is_root heads g range checked below terminal))
    (or_by (group_at heads g).terminal (is_coarse_group lens (group_at heads g)) (λ fails. whatever
    (is_coarse_group lens (group_at heads g)) true (sym terminal ∙ fails)))

-- where the maker of a cluster is open, so is its home
pub home_is_open : (heads : Heads) (lens : Lens) (resident : List ℕ) (c m : ℕ) → IsInRange heads → Checked heads →
    IsClosed heads resident →
    c < length heads.clusters → (cluster_at heads c).made ≡ Some m → is_open heads lens resident m ≡ true →
    is_open heads lens resident (home heads c) ≡ true
home_is_open heads lens resident c m range checked closed below made is =
    let parts = open_parts heads lens resident m is in
    let coarse = or_second (group_at heads m).terminal (is_coarse_group lens (group_at heads m)) parts.1
    (maker_goes_on heads c m range checked below made) in
    let bounds = home_bounds heads c m checked below made in
    let maker : Group = group_at heads m in
    let at_home : Group = group_at heads (home heads c) in
    open_from heads lens resident (home heads c)
    (home_page heads resident c m closed below made parts.0)
    (or_by at_home.terminal (is_coarse_group lens at_home) (λ goes_on.
    coarse_grows maker.error at_home.error maker.cube at_home.cube lens (bounds.error goes_on)
    (box_corners heads m range (maker_below heads c m range below made)) bounds.holds coarse))
