use Rattle.std.proofs.Common.{◌≤◌, List, [], ◌∷◌, ◌++◌, length, arith}
use Rattle.std.proofs.lemmas.List.{length-append}
use Rattle.geom_core.specs.declared.triangles.Tri.{Tri}
use Rattle.half_mesh.specs.Rim.{EdgeSums, IsRimOf, AreRimsOf, HaveSmallSums}
use Rattle.half_mesh.proofs.RimLaws.{few_have_small_sums}
use Rattle.half_mesh.proofs.tests.joined_rim.Goals as goal

-- the rims of three short lists
parts_are_small : (one two three : List Tri) (first second third : EdgeSums) → IsRimOf one first.edges first.sums →
    IsRimOf two second.edges second.sums → IsRimOf three third.edges third.sums → length one ≤ 4 → length two ≤ 4 →
    length three ≤ 4 →
    HaveSmallSums (first ∷ second ∷ third ∷ [])
unfolding AreRimsOf
parts_are_small one two three first second third a b c x y z =
    let none : List Tri = [] in
    few_have_small_sums (one ∷ two ∷ three ∷ []) (first ∷ second ∷ third ∷ []) (a, (b, (c, tt)))
    (omega (
      arith,
      length-append one (two ++ (three ++ none)),
      length-append two (three ++ none),
      length-append three none,
    ))

pub joined-requires : goal.joined-requires
joined-requires c = record {
  sum_range = parts_are_small c.args.first.now c.args.second.now c.args.third.now c.in_ok-a.a c.in_ok-b.b c.in_ok-c.c
      c.in_ok-a.ensures.rim c.in_ok-b.ensures.rim c.in_ok-c.ensures.rim c.if-first-gt4.false c.if-second-gt4.false
      c.if-third-gt4.false;
}
