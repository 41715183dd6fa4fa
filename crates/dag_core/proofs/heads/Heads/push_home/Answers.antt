use Rattle.std.proofs.Common.{◌≡◌, ◌+◌, ◌<◌, ◌++◌, ◌∷◌, [], ℕ, List, length, map, ap, sym, ◌∙◌, arith, add-zero}
use Rattle.std.specs.List.{range_with_len}
use Rattle.dag_core.specs.declared.heads.Heads.{Heads}
use Rattle.dag_core.specs.declared.groups.Group.{Group}
use Rattle.dag_core.specs.Members.{group_at, home}
use Rattle.dag_core.proofs.MemberLaws.{AreMembersInTurn, home_is, homes_more, in_turn}
use Rattle.dag_core.proofs.heads.Heads.push_home.Goals as goal

-- the homes before a member, and the member's
one_more : (heads : Heads) (g member : ℕ) (group : Group) (homes : List ℕ) → AreMembersInTurn heads →
    g < length heads.groups →
    group ≡ group_at heads g → member < group.count →
    homes ≡ map (home heads) (range_with_len 0 ((group_at heads g).first + member)) →
    homes ++ g ∷ [] ≡ map (home heads) (range_with_len 0 ((group_at heads g).first + (member + 1)))
one_more heads g member group homes turn below same within before =
    let first = (group_at heads g).first in
    let count : group.count ≡ (group_at heads g).count = ap (λ (k : Group). k.count) same in
    let here : home heads (first + member) ≡ g =
    home_is heads g (first + member) turn below (omega arith) (omega arith) in
    let e : first + (member + 1) ≡ (first + member) + 1 = omega arith in
    ap (λ xs. xs ++ g ∷ []) before
    ∙ (ap (λ k. map (home heads) (range_with_len 0 (first + member)) ++ k ∷ []) (sym here)
    ∙ (sym (homes_more heads (first + member))
    ∙ ap (λ n. map (home heads) (range_with_len 0 n)) (sym e)))

pub group-member-end-requires : goal.group-member-end-requires
group-member-end-requires c = record { group = c.requires.group }

pub loop-member-init : goal.loop-member-init
loop-member-init c =
    c.requires.before
    ∙ ap (λ n. map (home c.args.self.now) (range_with_len 0 n))
    (sym (add-zero (group_at c.args.self.now c.args.g).first))

pub loop-member-preserved : goal.loop-member-preserved
loop-member-preserved c =
    c.in_ok-push.ensures.items
    ∙ one_more c.args.self.now c.args.g c.loop-member._member c.group-member-end.result c.loop-member.homes.items
    (in_turn c.args.self.now c.requires.members) c.requires.group c.group-member-end.ensures.group
    c.loop-member-test.true c.loop-member.invariant

pub returns : goal.returns
returns c =
    let count : c.group-member-end.result.count ≡ (group_at c.args.self.now c.args.g).count =
    ap (λ (k : Group). k.count) c.group-member-end.ensures.group in
    let e : (group_at c.args.self.now c.args.g).first + c.loop-member._member ≡
    (group_at c.args.self.now c.args.g).first + (group_at c.args.self.now c.args.g).count = omega arith in
    record { homes = c.loop-member.invariant ∙ ap (λ n. map (home c.args.self.now) (range_with_len 0 n)) e }
