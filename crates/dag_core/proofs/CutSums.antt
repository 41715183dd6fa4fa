-- The weight of a cut: whatever groups are open, as long as terminal ones are, and the homes of clusters whose makers
-- are,
-- it is that of the members of the terminal groups.
use Rattle.std.proofs.Common.{◌≡◌, ◌==◌, ◌<◌, ◌≤◌, ◌+◌, ◌∙◌, ◌++◌, ◌∷◌, [], ap, sym, refl, subst, filter, map, ℕ, zero}
use Rattle.std.proofs.Common.{suc, ℤ, pos, ◌+ℤ◌, Bool, true, false, not, ◌&&◌, List, length, Option, None, Some, All}
use Rattle.std.proofs.Common.{arith, cond}
use Rattle.std.specs.List.{range_with_len}
use Rattle.std.proofs.lemmas.Int.{ints}
use Rattle.std.proofs.lemmas.Bool.{true≢false}
use Rattle.std.proofs.lemmas.Bool.Decides.{nat_tests}
use Rattle.std.proofs.lemmas.List.Elements.{All-from_get_or, All-head, All-tail}
use Rattle.std.proofs.lemmas.List.FromFn.{get_or-range_with_len, length-range_with_len, map-range_with_len_more}
use Rattle.dag_core.specs.declared.heads.Heads.{Heads}
use Rattle.dag_core.specs.Members.{all_clusters, cluster_at, group_at, home, is_made_by, is_maker, made_by, members}
use Rattle.dag_core.specs.Ranges.{IsInRange}
use Rattle.dag_core.specs.Rules.{members_before}
use Rattle.dag_core.proofs.MemberLaws.{AreMembersInTurn, first_is, home_is, members_are_all, members_more, members_none}
use Rattle.dag_core.proofs.RangeLaws.{maker_below}
use Rattle.dag_core.proofs.WeightSums.{if_so, weigh, weigh-alike, weigh-append, weigh-filter, weigh-if_so, weigh-more}
use Rattle.dag_core.proofs.WeightSums.{weigh-nothing, weigh-one, weigh-plus}

-- the maker is one of the open groups
abbrev pub is_made_open : (ℕ → Bool) → Option ℕ → Bool
is_made_open open_group None = false
is_made_open open_group (Some m) = open_group m

-- the home is open and no open group is the maker
abbrev pub is_cut : Heads → (ℕ → Bool) → ℕ → Bool
is_cut heads open_group c = open_group (home heads c) && not (is_made_open open_group (cluster_at heads c).made)

-- ---- weights over ranges

one_later : (a n : ℕ) → range_with_len a (n + 1) ≡ range_with_len a n ++ (a + n) ∷ []
one_later a n =
    sym (map-same (range_with_len a (n + 1))) ∙ (map-range_with_len_more (λ k. k) a n (a + n) refl
    ∙ ap (λ xs. xs ++ (a + n) ∷ []) (map-same (range_with_len a n))) where
      map-same : (xs : List ℕ) → map (λ k. k) xs ≡ xs
      map-same [] = refl
      map-same (x ∷ xs) = ap (λ ys. x ∷ ys) (map-same xs)

last_weight : (a w : ℤ) → a +ℤ (w +ℤ pos 0) ≡ a +ℤ w
last_weight a w = omega (arith, ints)

nothing_more : (a : ℤ) → a ≡ a +ℤ pos 0
nothing_more a = omega (arith, ints)

regrouped : (a b w : ℤ) → (a +ℤ b) +ℤ w ≡ a +ℤ (b +ℤ w)
regrouped a b w = omega (arith, ints)

weigh-later : (weight : ℕ → ℤ) (a n : ℕ) → weigh weight (range_with_len a (n + 1)) ≡ weigh weight
    (range_with_len a n) +ℤ weight (a + n)
weigh-later weight a n =
    ap (weigh weight) (one_later a n)
    ∙ (weigh-append weight (range_with_len a n) ((a + n) ∷ []) ∙ last_weight (weigh weight (range_with_len a n))
    (weight (a + n)))

-- the numbers below a + n are those below a and the n from a on
weigh-joined : (weight : ℕ → ℤ) (a n : ℕ) →
    weigh weight (range_with_len 0 (a + n)) ≡ weigh weight (range_with_len 0 a) +ℤ weigh weight (range_with_len a n)
weigh-joined weight a zero =
    let same : a + 0 ≡ a = omega arith in
    ap (λ m. weigh weight (range_with_len 0 m)) same ∙ nothing_more (weigh weight (range_with_len 0 a))
weigh-joined weight a (suc n) =
    let next : a + suc n ≡ a + n + 1 = omega arith in
    let grown : n + 1 ≡ suc n = omega arith in
    ap (λ m. weigh weight (range_with_len 0 m)) next
    ∙ (weigh-more weight (a + n)
    ∙ (ap (λ w. w +ℤ weight (a + n)) (weigh-joined weight a n)
    ∙ (regrouped (weigh weight (range_with_len 0 a)) (weigh weight (range_with_len a n)) (weight (a + n))
    ∙ ap (λ w. weigh weight (range_with_len 0 a) +ℤ w)
    (sym (weigh-later weight a n) ∙ ap (λ m. weigh weight (range_with_len a m)) grown))))

-- weights that are alike from a on
alike-later : (weight other : ℕ → ℤ) (a n : ℕ) → ((k : ℕ) → a ≤ k → k < a + n → weight k ≡ other k) →
    weigh weight (range_with_len a n) ≡ weigh other (range_with_len a n)
alike-later weight other a zero same = refl
alike-later weight other a (suc n) same =
    let grown : n + 1 ≡ suc n = omega arith in
    subst (λ m. weigh weight (range_with_len a m) ≡ weigh other (range_with_len a m)) grown
    (weigh-later weight a n
    ∙ (ap (λ w. w +ℤ weight (a + n)) (alike-later weight other a n (λ k from below. same k from (omega arith)))
    ∙ (ap (λ w. weigh other (range_with_len a n) +ℤ w) (same (a + n) (omega arith) (omega arith)) ∙ sym
    (weigh-later other a n))))

-- ---- by homes

-- the weight of the members of the first k groups, those of open groups alone
by_homes : (heads : Heads) (open_group : ℕ → Bool) (weight : ℕ → ℤ) (k : ℕ) → AreMembersInTurn heads →
    k ≤ length heads.groups →
    weigh (λ c. if_so (open_group (home heads c)) (weight c)) (range_with_len 0 (members_before heads k))
    ≡ weigh (λ g. if_so (open_group g) (weigh weight (members heads g))) (range_with_len 0 k)
by_homes heads open_group weight zero turn le =
    ap (λ n. weigh (λ c. if_so (open_group (home heads c)) (weight c)) (range_with_len 0 n)) (members_none heads)
by_homes heads open_group weight (suc k) turn le =
    let here : ℕ → ℤ = λ c. if_so (open_group (home heads c)) (weight c) in
    let there : ℕ → ℤ = λ g. if_so (open_group g) (weigh weight (members heads g)) in
    let grown : k + 1 ≡ suc k = omega arith in
    let first = first_is heads k turn (omega arith) in
    subst (λ m. weigh here (range_with_len 0 (members_before heads m)) ≡ weigh there (range_with_len 0 m)) grown
    (ap (λ n. weigh here (range_with_len 0 n)) (members_more heads k (omega arith))
    ∙ (weigh-joined here (members_before heads k) (group_at heads k).count
    ∙ (ap (λ w. w +ℤ weigh here (range_with_len (members_before heads k) (group_at heads k).count))
    (by_homes heads open_group weight k turn (omega arith))
    ∙ (ap (λ w. weigh there (range_with_len 0 k) +ℤ w)
    (ap (λ n. weigh here (range_with_len n (group_at heads k).count)) (sym first)
    ∙ (alike-later here (λ c. if_so (open_group k) (weight c)) (group_at heads k).first (group_at heads k).count
    (λ c from below. ap (λ h. if_so (open_group h) (weight c)) (home_is heads k c turn (omega arith) from below))
    ∙ weigh-if_so weight (open_group k) (members heads k)))
    ∙ sym (weigh-more there k)))))

-- ---- by makers

made_alone : (m g : ℕ) (open_group : ℕ → Bool) (w a : ℤ) (same : Bool) → (m == g) ≡ same →
    if_so (open_group g) (cond same (w +ℤ a) a) ≡ if_so same (if_so (open_group m) w) +ℤ if_so (open_group g) a
made_alone m g open_group w a true is =
    ap (λ k. if_so (open_group k) (w +ℤ a)) (sym (number m g is))
    ∙ (both (open_group m) ∙ ap (λ k. if_so (open_group m) w +ℤ if_so (open_group k) a) (number m g is)) where
      number : (m g : ℕ) → (m == g) ≡ true → m ≡ g
      number m g is = grind (arith, nat_tests)

      nothing : pos 0 ≡ pos 0 +ℤ pos 0
      nothing = omega (arith, ints)

      both : (b : Bool) → if_so b (w +ℤ a) ≡ if_so b w +ℤ if_so b a
      both true = refl
      both false = nothing
made_alone m g open_group w a false is = nothing_before (if_so (open_group g) a) where
  nothing_before : (b : ℤ) → b ≡ pos 0 +ℤ b
  nothing_before b = omega (arith, ints)

-- what the groups made of these clusters, those of open groups alone
abbrev made_weight : Heads → (ℕ → Bool) → (ℕ → ℤ) → List ℕ → ℕ → ℤ
made_weight heads open_group weight clusters g = if_so (open_group g) (weigh weight (filter (λ c. is_made_by g
    (cluster_at heads c)) clusters))

makers_of_one : (heads : Heads) (open_group : ℕ → Bool) (weight : ℕ → ℤ) (c : ℕ) (clusters : List ℕ) (made : Option ℕ) →
    (cluster_at heads c).made ≡ made → ((m : ℕ) → made ≡ Some m → m < length heads.groups) →
    weigh (made_weight heads open_group weight (c ∷ clusters)) (range_with_len 0 (length heads.groups))
    ≡ if_so (is_made_open open_group made) (weight c)
    +ℤ weigh (made_weight heads open_group weight clusters) (range_with_len 0 (length heads.groups))
makers_of_one heads open_group weight c clusters None is below =
    weigh-alike (made_weight heads open_group weight (c ∷ clusters)) (made_weight heads open_group weight clusters)
    (length heads.groups)
    (λ g within. ap (λ made. if_so (open_group g) (weigh weight (cond (is_maker g made) (c ∷ filter
    (λ d. is_made_by g (cluster_at heads d)) clusters)
    (filter (λ d. is_made_by g (cluster_at heads d)) clusters)))) is)
    ∙ before (weigh (made_weight heads open_group weight clusters) (range_with_len 0 (length heads.groups))) where
      before : (b : ℤ) → b ≡ pos 0 +ℤ b
      before b = omega (arith, ints)
makers_of_one heads open_group weight c clusters (Some m) is below =
    weigh-alike (made_weight heads open_group weight (c ∷ clusters))
    (λ g. if_so (m == g) (if_so (open_group m) (weight c)) +ℤ made_weight heads open_group weight clusters g)
    (length heads.groups)
    (λ g within.
    ap (λ made. if_so (open_group g) (weigh weight (cond (is_maker g made) (c ∷ filter (λ d. is_made_by g
    (cluster_at heads d)) clusters)
    (filter (λ d. is_made_by g (cluster_at heads d)) clusters)))) is
    ∙ (ap (if_so (open_group g)) (weighed (m == g) (filter (λ d. is_made_by g (cluster_at heads d)) clusters))
    ∙ made_alone m g open_group (weight c) (weigh weight (filter (λ d. is_made_by g (cluster_at heads d)) clusters))
    (m == g) refl))
    ∙ (weigh-plus (λ g. if_so (m == g) (if_so (open_group m) (weight c))) (made_weight heads open_group weight clusters)
    (range_with_len 0 (length heads.groups))
    ∙ ap (λ w. w +ℤ weigh (made_weight heads open_group weight clusters) (range_with_len 0 (length heads.groups)))
    (weigh-one m (length heads.groups) (if_so (open_group m) (weight c)) (below m refl))) where
      weighed : (b : Bool) (xs : List ℕ) → weigh weight (cond b (c ∷ xs) xs) ≡ cond b (weight c +ℤ weigh weight xs)
          (weigh weight xs)
      weighed true xs = refl
      weighed false xs = refl

makers_of : (heads : Heads) (open_group : ℕ → Bool) (weight : ℕ → ℤ) (clusters : List ℕ) → IsInRange heads →
    All (λ c. c < length heads.clusters) clusters →
    weigh (made_weight heads open_group weight clusters) (range_with_len 0 (length heads.groups))
    ≡ weigh (λ c. if_so (is_made_open open_group (cluster_at heads c).made) (weight c)) clusters
makers_of heads open_group weight [] range below =
    weigh-alike (made_weight heads open_group weight []) (λ g. pos 0) (length heads.groups) (λ g within. nothing
    (open_group g))
    ∙ weigh-nothing (range_with_len 0 (length heads.groups)) where
      nothing : (b : Bool) → if_so b (pos 0) ≡ pos 0
      nothing true = refl
      nothing false = refl
makers_of heads open_group weight (c ∷ clusters) range below =
    let here = All-head (λ c. c < length heads.clusters) c clusters below in
    makers_of_one heads open_group weight c clusters (cluster_at heads c).made refl
    (λ m made. maker_below heads c m range here made)
    ∙ ap (λ w. if_so (is_made_open open_group (cluster_at heads c).made) (weight c) +ℤ w)
    (makers_of heads open_group weight clusters range (All-tail (λ c. c < length heads.clusters) c clusters below))

-- ---- together

-- what the cut's weight follows from
pub record Opens (heads : Heads) (open_group : ℕ → Bool) (weight : ℕ → ℤ) : Type 0 where
  pub home : (c : ℕ) → c < length heads.clusters → is_made_open open_group (cluster_at heads c).made ≡ true →
      open_group (home heads c) ≡ true
  pub terminal : (g : ℕ) → g < length heads.groups → (group_at heads g).terminal ≡ true → open_group g ≡ true
  pub same : (g : ℕ) → g < length heads.groups → (group_at heads g).terminal ≡ false →
      weigh weight (members heads g) ≡ weigh weight (made_by heads g)
  pub none : (g : ℕ) → g < length heads.groups → (group_at heads g).terminal ≡ true →
      weigh weight (made_by heads g) ≡ pos 0

cut_or_made : (at_home by_maker : Bool) (w : ℤ) → (by_maker ≡ true → at_home ≡ true) →
    if_so (at_home && not by_maker) w +ℤ if_so by_maker w ≡ if_so at_home w
cut_or_made true true w implied = omega (arith, ints)
cut_or_made true false w implied = omega (arith, ints)
cut_or_made false true w implied = absurd (true≢false (sym (implied refl)))
cut_or_made false false w implied = omega (arith, ints)

terminal_or_made : (terminal opened : Bool) (members made : ℤ) → (terminal ≡ true → opened ≡ true) →
    (terminal ≡ false → members ≡ made) → (terminal ≡ true → made ≡ pos 0) →
    if_so opened members ≡ if_so terminal members +ℤ if_so opened made
terminal_or_made true true members made opens same none = let nothing = none refl in omega (arith, ints)
terminal_or_made true false members made opens same none = absurd (true≢false (sym (opens refl)))
terminal_or_made false true members made opens same none = let alike = same refl in omega (arith, ints)
terminal_or_made false false members made opens same none = omega (arith, ints)

cancelled : (cut made terminal : ℤ) → cut +ℤ made ≡ terminal +ℤ made → cut ≡ terminal
cancelled cut made terminal same = omega (arith, ints)

all_below : (n : ℕ) → All (λ c. c < n) (range_with_len 0 n)
all_below n =
    All-from_get_or (λ c. c < n) (range_with_len 0 n) 0
    (λ i within.
    let below : i < n = subst (λ m. i < m) (length-range_with_len 0 n) within in
    subst (λ c. c < n) (sym (get_or-range_with_len 0 n i 0 below)) (plus_none n i below)) where
      plus_none : (n i : ℕ) → i < n → 0 + i < n
      plus_none n i below = omega arith

-- the members of terminal groups
abbrev pub terminal_weight : Heads → (ℕ → ℤ) → ℤ
terminal_weight heads weight =
    weigh (λ g. if_so (group_at heads g).terminal (weigh weight (members heads g))) (range_with_len 0
    (length heads.groups))

pub cut_weight : (heads : Heads) (open_group : ℕ → Bool) (weight : ℕ → ℤ) → IsInRange heads → AreMembersInTurn heads →
    Opens heads open_group weight →
    weigh weight (filter (is_cut heads open_group) (all_clusters heads)) ≡ terminal_weight heads weight
cut_weight heads open_group weight range turn opens =
    let n : ℕ = length heads.clusters in
    let groups : ℕ = length heads.groups in
    let cut : ℕ → ℤ = λ c. if_so (is_cut heads open_group c) (weight c) in
    let made : ℕ → ℤ = λ c. if_so (is_made_open open_group (cluster_at heads c).made) (weight c) in
    let at_home : ℕ → ℤ = λ c. if_so (open_group (home heads c)) (weight c) in
    let terminal : ℕ → ℤ = λ g. if_so (group_at heads g).terminal (weigh weight (members heads g)) in
    let both : weigh cut (range_with_len 0 n) +ℤ weigh made (range_with_len 0 n) ≡ weigh at_home (range_with_len 0 n) =
    sym (weigh-plus cut made (range_with_len 0 n))
    ∙ weigh-alike (λ c. cut c +ℤ made c) at_home n
    (λ c below. cut_or_made (open_group (home heads c)) (is_made_open open_group (cluster_at heads c).made)
    (weight c) (opens.home c below)) in
    let homes : weigh at_home (range_with_len 0 n)
    ≡ weigh (λ g. if_so (open_group g) (weigh weight (members heads g))) (range_with_len 0 groups) =
    ap (λ k. weigh at_home (range_with_len 0 k)) (sym (members_are_all heads turn))
    ∙ by_homes heads open_group weight groups turn (omega arith) in
    let groups_alike : weigh (λ g. if_so (open_group g) (weigh weight (members heads g))) (range_with_len 0 groups)
    ≡ weigh terminal (range_with_len 0 groups) +ℤ weigh (made_weight heads open_group weight (all_clusters heads))
    (range_with_len 0 groups) =
    weigh-alike (λ g. if_so (open_group g) (weigh weight (members heads g)))
    (λ g. terminal g +ℤ made_weight heads open_group weight (all_clusters heads) g) groups
    (λ g below. terminal_or_made (group_at heads g).terminal (open_group g) (weigh weight (members heads g))
    (weigh weight (made_by heads g))
    (opens.terminal g below) (opens.same g below) (opens.none g below))
    ∙ weigh-plus terminal (made_weight heads open_group weight (all_clusters heads)) (range_with_len 0 groups) in
    let makers = makers_of heads open_group weight (all_clusters heads) range (all_below n) in
    weigh-filter weight (is_cut heads open_group) (all_clusters heads)
    ∙ cancelled (weigh cut (range_with_len 0 n)) (weigh made (range_with_len 0 n)) (weigh terminal
    (range_with_len 0 groups))
    (both ∙ (homes ∙ (groups_alike ∙ ap (λ w. weigh terminal (range_with_len 0 groups) +ℤ w) makers)))
