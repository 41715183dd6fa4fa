use Rattle.std.proofs.Common.{◌≡◌, ◌∷◌, [], ◌∙◌, map, take, length, get_or, ap, sym, subst, arith}
use Rattle.std.proofs.lemmas.List.{length-append, length-map, map-append, take_all}
use Rattle.geom_core.specs.declared.triangles.Tagged.{Tagged}
use Rattle.geom_core.specs.declared.triangles.Tri.{Tri}
use Rattle.geom_core.specs.TaggedLists.{tris_of}
use Rattle.half_mesh.specs.Rim.{AreRimsOf, IsRimOf}
use Rattle.half_mesh.proofs.RimLaws.{few_have_small_sums}
use Rattle.dag_build.specs.declared.level_clusters.LevelCluster.{LevelCluster}
use Rattle.dag_build.specs.Levels.{tris_in}
use Rattle.dag_build.proofs.MemberLaws.{lists_of, lists_of-all, rims-more, rims-none, tris_in-more}
use Rattle.dag_build.proofs.PointLaws.{rim_points-from}
use Rattle.dag_build.proofs.outcomes.locked_points.Goals as goal

pub loop-member-init : goal.loop-member-init
loop-member-init c = record {
  rims = subst (AreRimsOf []) (sym (ap (map (λ part. part.now)) c.in_ok-rims.ensures.items)) rims-none;
  few = omega arith;
}

pub loop-member-preserved : goal.loop-member-preserved
loop-member-preserved c =
    let i = c.loop-member.member-index in
    let members = c.args.members.now in
    let here = c.member-item.result in
    let grown = ap (map (λ part. part.now)) c.in_ok-push.ensures.items ∙ map-append (λ part. part.now)
    c.loop-member.rims.items (c.rim.result ∷ []) in
    let more = ap length (tris_in-more members i here c.loop-member-test.true) in
    let size = ap (λ (m : LevelCluster). length m.tris) c.member-item.is in
    let len = length-append (tris_in (take i members)) (get_or members i here).tris in
    let limit = c.rim.ensures.triangle_limit in
    let few = c.loop-member.invariant.few in
    record {
      rims = rims-more members i here (map (λ part. part.now) c.loop-member.rims.items) (map (λ part. part.now)
          c.push.new.self.items)
          c.rim.result.now c.loop-member-test.true c.member-item.is c.loop-member.invariant.rims c.rim.ensures.rim
          grown;
      few = omega arith;
    }

all_members : (c : goal.After-deref) → take c.loop-member.member-index c.args.members.now ≡ c.args.members.now
all_members c = take_all c.loop-member.member-index c.args.members.now c.loop-member-test.false

are_rims : (c : goal.After-deref) → AreRimsOf (lists_of c.args.members.now) (map (λ part. part.now) c.deref.result.now)
are_rims c =
    subst (AreRimsOf (lists_of c.args.members.now)) (sym (ap (map (λ part. part.now)) c.deref.ensures.value))
    (subst (λ xs. AreRimsOf (lists_of xs) (map (λ part. part.now) c.loop-member.rims.items)) (all_members c)
    c.loop-member.invariant.rims)

pub joined-requires : goal.joined-requires
joined-requires c =
    let plain : Tagged → Tri = λ t. t.tri in
    let all = ap length (lists_of-all c.args.members.now) in
    let len = length-map (tris_in c.args.members.now) plain in
    let few = c.loop-member.invariant.few in
    let same = ap (λ xs. length (tris_in xs)) (all_members c) in
    let limit = c.requires.member_limit in
    let end = c.loop-member.auto.member-index-end in
    record {
      sum_range = few_have_small_sums (lists_of c.args.members.now) (map (λ part. part.now) c.deref.result.now)
          (are_rims c) (omega arith);
    }

pub returns : goal.returns
returns c =
    let members = c.args.members.now in
    let rims : AreRimsOf (lists_of members) (map (λ part. part.now) c.deref.result.now) =
    subst (AreRimsOf (lists_of members)) (sym (ap (map (λ part. part.now)) c.deref.ensures.value))
    (subst (λ xs. AreRimsOf (lists_of xs) (map (λ part. part.now) c.loop-member.rims.items))
    (take_all c.loop-member.member-index members c.loop-member-test.false) c.loop-member.invariant.rims) in
    let is = subst (λ tris. IsRimOf tris c.in_ok-rim.rim.edges c.in_ok-rim.rim.sums) (lists_of-all members)
    (c.in_ok-rim.ensures.rim (lists_of members) rims) in
    record {
      points = rim_points-from (tris_of (tris_in members)) c.in_ok-points.points.items c.in_ok-set.set.keys
          (c.in_ok-points.ensures.on_rim (tris_of (tris_in members)) is) c.in_ok-set.ensures.points;
    }
