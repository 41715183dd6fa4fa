-- The walk along the groups of a page, from each to the next one.
use Rattle.std.proofs.Common.{◌≡◌, ℕ, zero, suc, ◌+◌, ◌<◌, ◌≤◌, Bool, true, false, cond, eqb, List, [], ◌++◌, length}
use Rattle.std.proofs.Common.{get_or, drop, refl, sym, ap, ◌∙◌, subst, arith}
use Rattle.std.specs.List.{flat_map, range_with_len}
use Rattle.std.proofs.lemmas.Bool.Decides.{nat_tests}
use Rattle.std.proofs.lemmas.List.{append_assoc, drop_more, drop_all}
use Rattle.dag_core.specs.declared.groups.Group.{Group}
use Rattle.dag_core.specs.Members.{no_group}
use Rattle.page_codec.specs.PageLinks.{next_in, next_on}
use Rattle.page_codec.proofs.Homes.{members_of}

-- the first group from g on is g, or it is the first one after it
pub next_on-at : (groups : List Group) (p g : ℕ) → g < length groups
    → next_on groups p g ≡ cond (eqb (get_or groups g no_group).page p) g (next_on groups p (g + 1))
unfolding next_on
next_on-at groups p g below = ap (next_in p g) (drop_more groups g no_group below)

-- there is none after the last
pub next_on-end : (groups : List Group) (p g : ℕ) → length groups ≤ g → next_on groups p g ≡ g
unfolding next_on
next_on-end groups p g past = ap (next_in p g) (drop_all g groups past)

-- n is the first group on page p from g on, so no members of the page are left out
pub record IsNext (groups : List Group) (p g n : ℕ) : Type 0 where
  pub members : flat_map (members_of p) (drop g groups) ≡ flat_map (members_of p) (drop n groups)
  pub from : g ≤ n
  pub within : n ≤ length groups
  pub here : n < length groups → (get_or groups n no_group).page ≡ p

IsNext-step : (groups : List Group) (p g : ℕ) (b : Bool) → eqb (get_or groups g no_group).page p ≡ b → g < length groups
    → IsNext groups p (g + 1) (next_on groups p (g + 1)) → IsNext groups p g (next_on groups p g)
IsNext-step groups p g true test below next =
    let e : next_on groups p g ≡ g = next_on-at groups p g below ∙ rw test refl in
    let P : ℕ → Type 0 = λ n. IsNext groups p g n in
    subst P (sym e) (record {
      members = refl;
      from = omega arith;
      within = omega arith;
      here = λ within. grind (arith, nat_tests);
    })
IsNext-step groups p g false test below next =
    let e : next_on groups p g ≡ next_on groups p (g + 1) = next_on-at groups p g below ∙ rw test refl in
    let P : ℕ → Type 0 = λ n. IsNext groups p g n in
    let none : members_of p (get_or groups g no_group) ≡ [] = rw test refl in
    let skip : flat_map (members_of p) (drop g groups) ≡ flat_map (members_of p) (drop (g + 1) groups) =
    ap (flat_map (members_of p)) (drop_more groups g no_group below) ∙
    ap (λ xs. xs ++ flat_map (members_of p) (drop (g + 1) groups)) none in
    subst P (sym e) (record {
      members = skip ∙ next.members;
      from = omega (arith, next.from);
      within = next.within;
      here = next.here;
    })

pub IsNext-next_on : (groups : List Group) (p n g : ℕ) → g + n ≡ length groups → IsNext groups p g (next_on groups p g)
IsNext-next_on groups p zero g end =
    let e = next_on-end groups p g (omega arith) in
    let P : ℕ → Type 0 = λ n. IsNext groups p g n in
    subst P (sym e) (record {
      members = refl;
      from = omega arith;
      within = omega arith;
      here = λ within. absurd (omega arith);
    })
IsNext-next_on groups p (suc n) g end =
    IsNext-step groups p g (eqb (get_or groups g no_group).page p) refl (omega arith)
    (IsNext-next_on groups p n (g + 1) (omega arith))

-- the members of a group on the page, then those of the next one
pub members-step : (groups : List Group) (p g n : ℕ) (items pushed whole : List ℕ) → g < length groups
    → (get_or groups g no_group).page ≡ p → IsNext groups p (g + 1) n
    → pushed ≡ items ++ range_with_len (get_or groups g no_group).first (get_or groups g no_group).count
    → items ++ flat_map (members_of p) (drop g groups) ≡ whole
    → pushed ++ flat_map (members_of p) (drop n groups) ≡ whole
members-step groups p g n items pushed whole below here next push all =
    let group = get_or groups g no_group in
    let test : eqb group.page p ≡ true = grind (arith, nat_tests) in
    let listed : members_of p group ≡ range_with_len group.first group.count = rw test refl in
    let more : flat_map (members_of p) (drop g groups) ≡ range_with_len group.first group.count ++ flat_map
    (members_of p) (drop n groups) =
    ap (flat_map (members_of p)) (drop_more groups g no_group below)
    ∙ ap (λ xs. xs ++ flat_map (members_of p) (drop (g + 1) groups)) listed
    ∙ ap (λ xs. range_with_len group.first group.count ++ xs) next.members in
    ap (λ xs. xs ++ flat_map (members_of p) (drop n groups)) push
    ∙ append_assoc items (range_with_len group.first group.count) (flat_map (members_of p) (drop n groups))
    ∙ ap (λ xs. items ++ xs) (sym more) ∙ all
