-- In heads that keep rule 1 the clusters on a page are the members of its groups, in order.
use Rattle.std.proofs.Common.{◌≡◌, ℕ, zero, suc, ◌+◌, ◌-◌, ◌<◌, ◌≤◌, Bool, true, false, cond, eqb, List, [], ◌∷◌, ◌++◌}
use Rattle.std.proofs.Common.{length, get_or, take, refl, sym, ap, ◌∙◌, arith}
use Rattle.std.specs.List.{filter, flat_map, range_with_len, sum_by}
use Rattle.std.proofs.lemmas.Bool.Decides.{nat_tests}
use Rattle.std.proofs.lemmas.Grind.{flat_map-append, common_steps}
use Rattle.std.proofs.lemmas.List.{append-nil, take_more, take_all}
use Rattle.std.proofs.lemmas.List.Elements.{filter-append}
use Rattle.std.proofs.lemmas.List.Sums.{position_or_len_is}
use Rattle.dag_core.specs.declared.groups.Group.{Group}
use Rattle.dag_core.specs.declared.heads.Heads.{Heads}
use Rattle.dag_core.specs.Members.{no_group, group_at, has_member, home}
use Rattle.dag_core.specs.Pages.{page_of_cluster, clusters_on}
use Rattle.dag_core.specs.Rules.{Checked, breaks_members, members_before}

-- the members of a group, if it is on page p
abbrev pub members_of : ℕ → Group → List ℕ
members_of p group = cond (eqb group.page p) (range_with_len group.first group.count) []

-- a range in two pieces
pub range-append : (a m n : ℕ) → range_with_len a (m + n) ≡ range_with_len a m ++ range_with_len (a + m) n
range-append a zero n = let e : 0 + n ≡ n = omega arith in let f : a + 0 ≡ a = omega arith in rw (e, f) refl
range-append a (suc m) n =
    let e : suc m + n ≡ suc (m + n) = omega arith in
    let f : a + suc m ≡ (a + 1) + m = omega arith in
    rw (e, f) (ap (λ xs. a ∷ xs) (range-append (a + 1) m n))

-- a test that is the same all over a range keeps all of it or nothing
pub filter-range : (test : ℕ → Bool) (b : Bool) (m n : ℕ) → ((c : ℕ) → m ≤ c → c < m + n → test c ≡ b)
    → filter test (range_with_len m n) ≡ cond b (range_with_len m n) []
filter-range test true m zero same = refl
filter-range test false m zero same = refl
filter-range test true m (suc n) same =
    let head = same m (omega arith) (omega arith) in
    rw head (ap (λ xs. m ∷ xs) (filter-range test true (m + 1) n (λ c from below. same c (omega arith) (omega arith))))
filter-range test false m (suc n) same =
    let head = same m (omega arith) (omega arith) in
    rw head (filter-range test false (m + 1) n (λ c from below. same c (omega arith) (omega arith)))

-- the members of the groups before g
abbrev pub counted : List Group → ℕ → ℕ
counted groups g = sum_by (λ group. group.count) (take g groups)

pub counted-more : (groups : List Group) (g : ℕ) → g < length groups →
    counted groups (g + 1) ≡ counted groups g + (get_or groups g no_group).count
counted-more groups g below = rw (take_more groups g no_group below) (grind (arith, common_steps))

-- they are no fewer for a greater number
pub counted-le : (groups : List Group) (k n : ℕ) → k + n ≤ length groups → counted groups k ≤ counted groups (k + n)
counted-le groups k zero within = let e : k + 0 ≡ k = omega arith in rw e (omega arith)
counted-le groups k (suc n) within =
    let e : k + suc n ≡ (k + n) + 1 = omega arith in
    let before = counted-le groups k n (omega arith) in
    let more = counted-more groups (k + n) (omega arith) in
    rw e (omega arith)

-- rule 1 at a group: its members follow those before it
pub first-counted : (heads : Heads) → Checked heads → (g : ℕ) → g < length heads.groups →
    (group_at heads g).first ≡ counted heads.groups g
unfolding breaks_members members_before
first-counted heads checked g below = let rule = checked 1 g in grind (arith, nat_tests)

-- rule 1 at the end: all clusters are members
pub all-counted : (heads : Heads) → Checked heads → counted heads.groups (length heads.groups) ≡ length heads.clusters
unfolding breaks_members members_before
all-counted heads checked = let rule = checked 1 (length heads.groups) in grind (arith, nat_tests)

-- a member's home is the group
pub home-member : (heads : Heads) → Checked heads → (g c : ℕ) → g < length heads.groups → counted heads.groups g ≤ c →
    c < counted heads.groups (g + 1) → home heads c ≡ g
unfolding home
home-member heads checked g c below from to =
    position_or_len_is (has_member c) heads.groups g no_group (omega arith)
    (λ k earlier.
    let first = first-counted heads checked k (omega arith) in
    let more = counted-more heads.groups k (omega arith) in
    let gap : (k + 1) + (g - (k + 1)) ≡ g = omega arith in
    let ahead : counted heads.groups (k + 1) ≤ counted heads.groups g =
    rw gap at (counted-le heads.groups (k + 1) (g - (k + 1)) (omega arith)) in
    grind (arith, nat_tests))
    (λ within.
    let first = first-counted heads checked g below in
    let more = counted-more heads.groups g below in
    grind (arith, nat_tests))

-- the clusters on page p among the members of the first g groups
pub listed-below : (heads : Heads) → Checked heads → (p g : ℕ) → g ≤ length heads.groups
    → flat_map (members_of p) (take g heads.groups) ≡ filter (λ c. eqb (page_of_cluster heads c) p)
    (range_with_len 0 (counted heads.groups g))
listed-below heads checked p zero within = refl
listed-below heads checked p (suc g) within =
    let groups = heads.groups in
    let on : ℕ → Bool = λ c. eqb (page_of_cluster heads c) p in
    let below : g < length groups = omega arith in
    let e : suc g ≡ g + 1 = omega arith in
    let group = get_or groups g no_group in
    let more = counted-more groups g below in
    let first = first-counted heads checked g below in
    let same : filter on (range_with_len (counted groups g) group.count) ≡ cond (eqb group.page p)
    (range_with_len (counted groups g) group.count) [] =
    filter-range on (eqb group.page p) (counted groups g) group.count
    (λ c from to. ap (λ h. eqb (group_at heads h).page p) (home-member heads checked g c below from (omega arith))) in
    let left : flat_map (members_of p) (take (g + 1) groups) ≡ flat_map (members_of p)
    (take g groups) ++ members_of p group =
    rw (
      take_more groups g no_group below,
      flat_map-append (members_of p) (take g groups) (group ∷ []),
      append-nil (members_of p group),
    ) refl in
    let right : filter on (range_with_len 0 (counted groups (g + 1))) ≡ filter on
    (range_with_len 0 (counted groups g)) ++ filter on (range_with_len (counted groups g) group.count) =
    rw (
      more,
      range-append 0 (counted groups g) group.count,
      filter-append on (range_with_len 0 (counted groups g)) (range_with_len (0 + counted groups g) group.count),
    )
    (ap (λ m. filter on (range_with_len 0 (counted groups g)) ++ filter on (range_with_len m group.count))
    (omega arith)) in
    let members : members_of p group ≡ filter on (range_with_len (counted groups g) group.count) =
    ap (λ m. cond (eqb group.page p) (range_with_len m group.count) []) first ∙ sym same in
    rw e (left ∙ ap (λ xs. xs ++ members_of p group) (listed-below heads checked p g (omega arith))
    ∙ ap (λ ys. filter on (range_with_len 0 (counted groups g)) ++ ys) members ∙ sym right)

-- the clusters on a page are the members of its groups
pub clusters_on-members : (heads : Heads) → Checked heads → (p : ℕ) →
    flat_map (members_of p) heads.groups ≡ clusters_on heads p
clusters_on-members heads checked p =
    ap (flat_map (members_of p)) (sym (take_all (length heads.groups) heads.groups (omega arith)))
    ∙ listed-below heads checked p (length heads.groups) (omega arith)
    ∙ ap (λ n. filter (λ c. eqb (page_of_cluster heads c) p) (range_with_len 0 n)) (all-counted heads checked)
