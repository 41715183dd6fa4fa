use Rattle.std.proofs.Common.{◌≡◌, take, map}
use Rattle.half_mesh.specs.Rim.{EdgeSums}
use Rattle.half_mesh.specs.Terms.{AreSmall, terms_in_all}
use Rattle.half_mesh.proofs.rims.Rim.joined.Given as goal

-- the terms of the parts so far
abbrev pub invariant-loop-part : goal.invariant-loop-part
invariant-loop-part l =
    (l.terms.items ≡ terms_in_all (take l.part-index (map (λ part. part.now) l.parts))) × AreSmall l.terms.items
