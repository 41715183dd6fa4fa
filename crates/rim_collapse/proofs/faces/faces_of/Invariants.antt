use Rattle.std.proofs.Common.{◌≡◌, ◌<◌, length, take, All}
use Rattle.rim_collapse.specs.Internal.Faces.{IsNumbered, state_of}
use Rattle.rim_collapse.specs.States.{begun}
use Rattle.rim_collapse.proofs.faces.faces_of.Given as goal

-- the faces so far
abbrev pub invariant-loop-i : goal.invariant-loop-i
invariant-loop-i l = record {
  numbers : All (IsNumbered (length l.points)) l.faces.items;
  was : All (λ f. f.was < length l.tris) l.faces.items;
  triangles : state_of l.tris l.points l.faces.items ≡ begun (take l.i l.tris);
}
