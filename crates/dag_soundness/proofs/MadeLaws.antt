-- The next cluster that a group made, and the links of an index of them.
use Rattle.std.proofs.Common.{◌≡◌, ◌==◌, ◌≢◌, ◌⊎◌, ◌≤◌, ◌<◌, ◌+◌, ◌-◌, ℕ, zero, suc, Bool, true, false, Some, None}
use Rattle.std.proofs.Common.{Option, List, []}
use Rattle.std.proofs.Common.{All, ◌∷◌, length, drop, filter, set, get_or, cond, refl, sym, ap, ◌∙◌, subst, arith, inl}
use Rattle.std.proofs.Common.{inr}
use Rattle.std.specs.List.{range_with_len}
use Rattle.std.proofs.Math.Seq.{drop-cons}
use Rattle.std.proofs.lemmas.Bool.{cases_lt}
use Rattle.std.proofs.lemmas.Bool.Decides.{nat_tests}
use Rattle.std.proofs.lemmas.List.{get_or_default, get_or-set_other, get_or-set_same, length-set}
use Rattle.dag_core.specs.declared.cluster_heads.ClusterHead.{ClusterHead}
use Rattle.dag_core.specs.declared.heads.Heads.{Heads}
use Rattle.dag_core.specs.Members.{cluster_at, is_made_by, is_maker, no_cluster}
use Rattle.dag_core.proofs.MarkLaws.{filter_skip}
use Rattle.dag_soundness.specs.Internal.MadeLinks.{IsMadeIndexOf, MadeLinks, next_in, next_made}

-- ---- the maker

pub maker-is : (g : ℕ) (made : Option ℕ) → made ≡ Some g → is_maker g made ≡ true
maker-is g made is = subst (λ m. is_maker g m ≡ true) (sym is) (same g) where
  same : (n : ℕ) → (n == n) ≡ true
  same n = grind (arith, nat_tests)

pub maker-from : (g : ℕ) (made : Option ℕ) → is_maker g made ≡ true → made ≡ Some g
maker-from g None is = cc
maker-from g (Some m) is = ap (λ (k : ℕ). Some k) (same m g is) where
  same : (m n : ℕ) → (m == n) ≡ true → m ≡ n
  same m n is = grind (arith, nat_tests)

other_maker : (g m : ℕ) → (g ≡ m → ⊥) → is_maker g (Some m) ≡ false
other_maker g m differ = grind (arith, nat_tests)

-- ---- the next cluster

pub next-here : (clusters : List ClusterHead) (g c : ℕ) (none : ClusterHead) → c < length clusters →
    is_made_by g (get_or clusters c none) ≡ true → next_made clusters g c ≡ c
unfolding next_made
next-here clusters g c none below is =
    ap (next_in g c) (drop-cons clusters c none below)
    ∙ ap (λ b. cond b c (next_in g (c + 1) (drop (suc c) clusters))) is

pub next-on : (clusters : List ClusterHead) (g c : ℕ) (none : ClusterHead) → c < length clusters →
    is_made_by g (get_or clusters c none) ≡ false → next_made clusters g c ≡ next_made clusters g (c + 1)
unfolding next_made
next-on clusters g c none below not =
    let more : suc c ≡ c + 1 = omega arith in
    ap (next_in g c) (drop-cons clusters c none below)
    ∙ (ap (λ b. cond b c (next_in g (c + 1) (drop (suc c) clusters))) not
    ∙ ap (λ k. next_in g (c + 1) (drop k clusters)) more)

drop-whole : {X : Type 0} (xs : List X) → drop (length xs) xs ≡ []
drop-whole {X} [] = refl
drop-whole {X} (x ∷ xs) = drop-whole xs

pub next-end : (clusters : List ClusterHead) (g : ℕ) → next_made clusters g (length clusters) ≡ length clusters
unfolding next_made
next-end clusters g = ap (next_in g (length clusters)) (drop-whole clusters)

-- ---- the links of the clusters from c on

pub record AreLinked (clusters : List ClusterHead) (firsts nexts : List ℕ) (groups c : ℕ) : Type 0 where
  pub first_count : length firsts ≡ groups
  pub next_count : length nexts ≡ length clusters
  pub first : (g : ℕ) → g < groups → get_or firsts g 0 ≡ next_made clusters g c
  pub next : (g k : ℕ) (none : ClusterHead) → c ≤ k → k < length clusters →
      (get_or clusters k none).made ≡ Some g → get_or nexts k 0 ≡ next_made clusters g (k + 1)

-- no cluster is linked yet
pub linked-end : (clusters : List ClusterHead) (firsts nexts : List ℕ) → length nexts ≡ length clusters →
    All (λ first. first ≡ length clusters) firsts →
    AreLinked clusters firsts nexts (length firsts) (length clusters)
linked-end clusters firsts nexts count all = record {
  first_count = refl;
  next_count = count;
  first = λ g range. all g 0 range ∙ sym (next-end clusters g);
  next = λ g k none from below is. absurd (omega arith);
}

-- a cluster that none made
pub linked-none : (clusters : List ClusterHead) (firsts nexts : List ℕ) (groups c : ℕ) (here : ClusterHead) →
    c < length clusters → here ≡ get_or clusters c here → here.made ≡ None →
    AreLinked clusters firsts nexts groups (c + 1) → AreLinked clusters firsts nexts groups c
linked-none clusters firsts nexts groups c here below at made links =
    let maker : (g : ℕ) → is_made_by g (get_or clusters c here) ≡ false = λ g.
    subst (λ (k : ClusterHead). is_made_by g k ≡ false) at (ap (is_maker g) made) in
    record {
      first_count = links.first_count;
      next_count = links.next_count;
      first = λ g within. links.first g within ∙ sym (next-on clusters g c here below (maker g));
      next = λ g k none from within is.
          elim (cases_lt c k) [
            | inl after ↦ links.next g k none (omega arith) within is
            | inr upto ↦
                let same : k ≡ c = omega arith in
                let other : (get_or clusters c none).made ≡ Some g =
                subst (λ j. (get_or clusters j none).made ≡ Some g) same is in
                absurd (nothing g
                (ap (λ (k : ClusterHead). k.made) (at_any clusters c here none below at) ∙ made) other)
          ];
    }
  where
    at_any : (xs : List ClusterHead) (i : ℕ) (x d : ClusterHead) → i < length xs → x ≡ get_or xs i x → get_or xs i d ≡ x
    at_any xs i x d below at = get_or_default xs i d x below ∙ sym at

    nothing : (g : ℕ) {made : Option ℕ} → made ≡ None → made ≡ Some g → ⊥
    nothing g {made} none some = cc

-- a cluster that a group made
pub linked-some : (clusters : List ClusterHead) (firsts nexts : List ℕ) (groups c m : ℕ) (here : ClusterHead) →
    c < length clusters → here ≡ get_or clusters c here → here.made ≡ Some m → m < groups →
    AreLinked clusters firsts nexts groups (c + 1) →
    AreLinked clusters (set firsts m c) (set nexts c (get_or firsts m 0)) groups c
linked-some clusters firsts nexts groups c m here below at made within links =
    let made_here : (get_or clusters c here).made ≡ Some m = subst (λ (k : ClusterHead). k.made ≡ Some m) at made in
    let count = links.first_count in
    let all = links.next_count in
    record {
      first_count = length-set firsts m c ∙ links.first_count;
      next_count = length-set nexts c (get_or firsts m 0) ∙ links.next_count;
      first = λ g range. elim (same_or_not g m) [
        | inl same ↦
            subst (λ k. get_or (set firsts m c) k 0 ≡ next_made clusters k c) (sym same)
            (get_or-set_same firsts m c 0 (omega arith)
            ∙ sym (next-here clusters m c here below (maker-is m (get_or clusters c here).made made_here)))
        | inr differ ↦
            get_or-set_other firsts m g c 0 differ
            ∙ (links.first g range
            ∙ sym (next-on clusters g c here below (ap (is_maker g) made_here ∙ other_maker g m differ)))
      ];
      next = λ g k none from range is. elim (cases_lt c k) [
        | inl after ↦
            get_or-set_other nexts c k (get_or firsts m 0) 0 (λ same. absurd (omega arith))
            ∙ links.next g k none (omega arith) range is
        | inr upto ↦
            let same : k ≡ c = omega arith in
            let other : (get_or clusters c here).made ≡ Some g =
            ap (λ (h : ClusterHead). h.made) (get_or_default clusters c here none below)
            ∙ subst (λ j. (get_or clusters j none).made ≡ Some g) same is in
            let group : m ≡ g = one_maker m g (get_or clusters c here).made made_here other in
            subst (λ j. get_or (set nexts c (get_or firsts m 0)) j 0 ≡ next_made clusters g (j + 1)) (sym same)
            (get_or-set_same nexts c (get_or firsts m 0) 0 (omega arith)
            ∙ (links.first m within ∙ ap (λ h. next_made clusters h (c + 1)) group))
      ];
    }
  where
    same_or_not : (a b : ℕ) → (a ≡ b) ⊎ (a ≢ b)
    same_or_not a b = grind arith

    one_maker : (a b : ℕ) (made : Option ℕ) → made ≡ Some a → made ≡ Some b → a ≡ b
    one_maker a b made is also = cc

-- ---- the clusters that a group made, one after the other

-- of the clusters before c, those that the group made
abbrev pub made_before : Heads → ℕ → ℕ → List ℕ
made_before heads g c = filter (λ k. is_made_by g (cluster_at heads k)) (range_with_len 0 c)

-- the next cluster of the group from c on: it made none between them
pub record IsNext (heads : Heads) (g c next : ℕ) : Type 0 where
  pub from : c ≤ next
  pub within : next ≤ length heads.clusters
  pub made : next < length heads.clusters → (cluster_at heads next).made ≡ Some g
  pub none : made_before heads g next ≡ made_before heads g c

next_after : (heads : Heads) (g more c : ℕ) → c + more ≡ length heads.clusters →
    IsNext heads g c (next_made heads.clusters g c)
next_after heads g zero c end =
    let whole : length heads.clusters ≡ c = omega arith in
    let is : next_made heads.clusters g c ≡ c =
    subst (λ n. next_made heads.clusters g n ≡ n) whole (next-end heads.clusters g) in
    subst (IsNext heads g c) (sym is) (record {
      from = omega arith;
      within = omega arith;
      made = λ below. absurd (omega arith);
      none = refl;
    })
next_after heads g (suc more) c end =
    at (is_made_by g (cluster_at heads c)) refl (next_after heads g more (c + 1) (omega arith))
  where
    at : (b : Bool) → is_made_by g (cluster_at heads c) ≡ b →
        IsNext heads g (c + 1) (next_made heads.clusters g (c + 1)) → IsNext heads g c (next_made heads.clusters g c)
    at true is later =
        subst (IsNext heads g c) (sym (next-here heads.clusters g c no_cluster (omega arith) is)) (record {
          from = omega arith;
          within = omega arith;
          made = λ below. maker-from g (cluster_at heads c).made is;
          none = refl;
        })
    at false not later =
        let from = later.from in
        subst (IsNext heads g c) (sym (next-on heads.clusters g c no_cluster (omega arith) not)) (record {
          from = omega arith;
          within = later.within;
          made = later.made;
          none = later.none
              ∙ sym (filter_skip (λ k. is_made_by g (cluster_at heads k)) c (made_before heads g c) refl not);
        })

pub next-is : (heads : Heads) (g c : ℕ) → c ≤ length heads.clusters → IsNext heads g c (next_made heads.clusters g c)
next-is heads g c within = next_after heads g (length heads.clusters - c) c (omega arith)

-- ---- what the index gives

-- the first cluster of a group, as it is read
pub first-read : (heads : Heads) (links : MadeLinks) (firsts : List ℕ) (g next : ℕ) → IsMadeIndexOf heads links →
    firsts ≡ links.firsts → g < length heads.groups → next ≡ get_or firsts g next → IsNext heads g 0 next
first-read heads links firsts g next index view below at =
    let count : length firsts ≡ length heads.groups = ap length view ∙ index.first_count in
    let is : next ≡ next_made heads.clusters g 0 =
    at
    ∙ (get_or_default firsts g next 0 (omega arith)
    ∙ (ap (λ (xs : List ℕ). get_or xs g 0) view ∙ index.firsts g below)) in
    subst (IsNext heads g 0) (sym is) (next-is heads g 0 (omega arith))

-- the next cluster of the same group, as it is read
pub next-read : (heads : Heads) (links : MadeLinks) (nexts : List ℕ) (g c next : ℕ) → IsMadeIndexOf heads links →
    nexts ≡ links.nexts → c < length heads.clusters → (cluster_at heads c).made ≡ Some g → next ≡ get_or nexts c next →
    IsNext heads g (c + 1) next
next-read heads links nexts g c next index view below made at =
    let count : length nexts ≡ length heads.clusters = ap length view ∙ index.next_count in
    let is : next ≡ next_made heads.clusters g (c + 1) =
    at
    ∙ (get_or_default nexts c next 0 (omega arith)
    ∙ (ap (λ (xs : List ℕ). get_or xs c 0) view ∙ index.nexts g c below made)) in
    subst (IsNext heads g (c + 1)) (sym is) (next-is heads g (c + 1) (omega arith))
