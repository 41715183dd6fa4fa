-- The entries of the tables, and what the rules say by them.
use Rattle.std.proofs.Common.{◌≡◌, ◌==◌, ◌<◌, ℕ, zero, suc, replicate, filter, sum_by, Bool, true, false, not, ◌&&◌}
use Rattle.std.proofs.Common.{cond, List, length, map, get_or, refl, sym, ap, ◌∙◌, arith, nat_lt, zero-add}
use mathlib.Core.Bool.{beq}
use Rattle.std.specs.List.{range_with_len, list_any}
use Rattle.std.proofs.lemmas.Bool.{true≢false, false≢true}
use Rattle.std.proofs.lemmas.List.FromFn.{fill_by_all}
use Rattle.std.proofs.lemmas.List.FromFn.{get_or-map-range_with_len, length-map-range_with_len}
use Rattle.dag_core.specs.declared.groups.Group.{Group}
use Rattle.dag_core.specs.declared.cluster_heads.ClusterHead.{ClusterHead}
use Rattle.dag_core.specs.declared.heads.Heads.{Heads}
use Rattle.dag_core.specs.Members.{group_at, cluster_at, home}
use Rattle.dag_core.specs.Rules.{breaks_bound, breaks_maker, breaks_terminal, has_made, is_maker_at_most}
use Rattle.dag_core.specs.Rules.{is_maker_outside}
use Rattle.dag_core.specs.Pages.{has_terminal_on, is_maker_on, page_of_cluster, tris_on}
use Rattle.dag_core.specs.Members.{is_made_by, all_clusters}
use Rattle.dag_core.specs.Internal.Tables.{has_later_upper, homes_of, makers_of}
use Rattle.dag_core.proofs.MemberLaws.{AreMembersInTurn, home_below}
use Rattle.dag_core.proofs.RuleLaws.{bound_at, maker_at, terminal_at}

-- ---- a table of a function

pub table_at : {X : Type 0} (f : ℕ → X) (n : ℕ) (items : List X) (k : ℕ) (d : X) → items ≡ map f (range_with_len 0 n) →
    k < n → get_or items k d ≡ f k
table_at {X} f n items k d table below =
    ap (λ (xs : List X). get_or xs k d) table ∙ get_or-map-range_with_len f 0 n k k d below (zero-add k)

pub table_length : {X : Type 0} (f : ℕ → X) (n : ℕ) (items : List X) → items ≡ map f (range_with_len 0 n) →
    length items ≡ n
table_length {X} f n items table = ap (λ (xs : List X). length xs) table ∙ length-map-range_with_len f 0 n

pub homes_length : (heads : Heads) (homes : List ℕ) → homes ≡ homes_of heads → length homes ≡ length heads.clusters
homes_length heads homes table = table_length (home heads) (length heads.clusters) homes table

pub home_at : (heads : Heads) (homes : List ℕ) (c : ℕ) → homes ≡ homes_of heads → c < length heads.clusters →
    get_or homes c 0 ≡ home heads c
home_at heads homes c table below = table_at (home heads) (length heads.clusters) homes c 0 table below

pub makers_length : (heads : Heads) (makers : List Bool) → makers ≡ makers_of heads →
    length makers ≡ length heads.groups
makers_length heads makers table = table_length (has_made heads) (length heads.groups) makers table

-- ---- rules 2, 3 and 4 at a place, as the tables tell

pub maker_by : (heads : Heads) (homes : List ℕ) (c : ℕ) (cluster : ClusterHead) (told : Bool) → homes ≡ homes_of heads →
    cluster ≡ cluster_at heads c → c < length heads.clusters → told ≡ is_maker_at_most (get_or homes c 0) cluster.made →
    breaks_maker heads c ≡ told
maker_by heads homes c cluster told table same below tells =
    maker_at heads c below
    ∙ (ap (λ h. is_maker_at_most h (cluster_at heads c).made) (sym (home_at heads homes c table below))
    ∙ (ap (λ (k : ClusterHead). is_maker_at_most (get_or homes c 0) k.made) (sym same)
    ∙ sym tells))

pub bound_by : (heads : Heads) (homes : List ℕ) (c : ℕ) (cluster : ClusterHead) (told : Bool) → homes ≡ homes_of heads →
    cluster ≡ cluster_at heads c → c < length heads.clusters →
    told ≡ is_maker_outside heads (get_or homes c 0) cluster.made → breaks_bound heads c ≡ told
bound_by heads homes c cluster told table same below tells =
    bound_at heads c below
    ∙ (ap (λ h. is_maker_outside heads h (cluster_at heads c).made) (sym (home_at heads homes c table below))
    ∙ (ap (λ (k : ClusterHead). is_maker_outside heads (get_or homes c 0) k.made) (sym same)
    ∙ sym tells))

both_alike : (terminal made : Bool) → beq terminal made ≡ true → cond terminal made (not made) ≡ true
both_alike true true same = refl
both_alike false false same = refl
both_alike true false same = absurd (false≢true same)
both_alike false true same = absurd (false≢true same)

one_of_two : (terminal made : Bool) → beq terminal made ≡ false → cond terminal made (not made) ≡ false
one_of_two true true differ = absurd (true≢false differ)
one_of_two false false differ = absurd (true≢false differ)
one_of_two true false differ = refl
one_of_two false true differ = refl

terminal_told : (heads : Heads) (makers : List Bool) (g : ℕ) (group : Group) → makers ≡ makers_of heads →
    group ≡ group_at heads g →
    g < length heads.groups → breaks_terminal heads g ≡ cond group.terminal (get_or makers g false)
    (not (get_or makers g false))
terminal_told heads makers g group table same below =
    terminal_at heads g below
    ∙ (ap (λ (k : Group). cond k.terminal (has_made heads g) (not (has_made heads g))) (sym same)
    ∙ ap (λ made. cond group.terminal made (not made))
    (sym (table_at (has_made heads) (length heads.groups) makers g false table below)))

pub terminal_broken : (heads : Heads) (makers : List Bool) (g : ℕ) (group : Group) → makers ≡ makers_of heads →
    group ≡ group_at heads g →
    g < length heads.groups → beq group.terminal (get_or makers g false) ≡ true → breaks_terminal heads g ≡ true
terminal_broken heads makers g group table same below alike =
    terminal_told heads makers g group table same below ∙ both_alike group.terminal (get_or makers g false) alike

pub terminal_kept : (heads : Heads) (makers : List Bool) (g : ℕ) (group : Group) → makers ≡ makers_of heads →
    group ≡ group_at heads g →
    g < length heads.groups → beq group.terminal (get_or makers g false) ≡ false → breaks_terminal heads g ≡ false
terminal_kept heads makers g group table same below differ =
    terminal_told heads makers g group table same below ∙ one_of_two group.terminal (get_or makers g false) differ

-- ---- a table from its entries

pub all_marked : (f : ℕ → Bool) (n : ℕ) (marks : List Bool) → length marks ≡ n →
    ((k : ℕ) → get_or marks k false ≡ f k) → marks ≡ map f (range_with_len 0 n)
all_marked f n marks count each = fill_by_all f marks n false count (λ k below. each k)

pub unmarked : (n k : ℕ) → get_or (replicate n false) k false ≡ false
unmarked zero k = refl
unmarked (suc n) zero = refl
unmarked (suc n) (suc k) = unmarked n k

pub unsummed : (n k : ℕ) → get_or {A = ℕ} (replicate n 0) k 0 ≡ 0
unsummed zero k = refl
unsummed (suc n) zero = refl
unsummed (suc n) (suc k) = unsummed n k

-- ---- what the tables' entries are

pub has_made-is : (heads : Heads) (g : ℕ) → has_made heads g ≡ list_any (is_made_by g) heads.clusters
unfolding has_made
has_made-is heads g = refl

pub has_terminal_on-is : (heads : Heads) (p : ℕ) →
    has_terminal_on heads p ≡ list_any (λ group. group.terminal && group.page == p) heads.groups
unfolding has_terminal_on
has_terminal_on-is heads p = refl

-- a cluster that a group of page p made, on a page of a greater number
abbrev pub is_made_for_later : Heads → ℕ → ℕ → Bool
is_made_for_later heads p c = is_maker_on heads p (cluster_at heads c).made && nat_lt p (page_of_cluster heads c)

pub has_later_upper-is : (heads : Heads) (p : ℕ) →
    has_later_upper heads p ≡ list_any (is_made_for_later heads p) (all_clusters heads)
unfolding has_later_upper
has_later_upper-is heads p = refl

-- the triangles on page p of the clusters before c
abbrev pub tris_before : Heads → ℕ → ℕ → ℕ
tris_before heads p c =
    sum_by (λ k. (cluster_at heads k).tris) (filter (λ k. page_of_cluster heads k == p) (range_with_len 0 c))

pub tris_on-is : (heads : Heads) (p : ℕ) → tris_on heads p ≡ tris_before heads p (length heads.clusters)
unfolding tris_on
tris_on-is heads p = refl

-- the home of a cluster, by the table, is a group
pub home_in : (heads : Heads) (homes : List ℕ) (c : ℕ) → AreMembersInTurn heads → homes ≡ homes_of heads →
    c < length homes → get_or homes c 0 < length heads.groups
home_in heads homes c turn table below =
    let all = homes_length heads homes table in
    let here = home_at heads homes c table (omega arith) in
    let home = home_below heads c turn (omega arith) in
    omega arith
