-- What the end of a line came to.
use Rattle.std.proofs.Common.{◌≡◌, ◌≢◌, ℕ, ◌+◌, List, [], Ok, Err, ap, sym, inl, inr, ◌∙◌}
use Rattle.obj_source.specs.declared.mesh_builder.MeshBuilder.{MeshBuilder}
use Rattle.obj_source.specs.declared.faults.ObjFault.{ObjFault}
use Rattle.obj_source.specs.declared.faults.ObjFault.TheVariants.{Line, TooMany, TooLong, Empty, Read, Memory}
use Rattle.obj_source.specs.declared.faults.ObjWhy.{ObjWhy}
use Rattle.obj_source.specs.Builder.{so_far, Stands}
use Rattle.obj_source.specs.Mesh.{MeshSoFar, with_line}
use Rattle.obj_source.specs.Scanner.{StandsOn, LineJudged, OnLineFault}
use Rattle.obj_source.proofs.LinesInTurn.{with_line-fault}

pub LineJudged-from : (before builder : MeshBuilder) (scale : ℕ) (mesh_so_far : MeshSoFar) (line : ℕ)
    (words : List (List ℕ)) → StandsOn before scale mesh_so_far line words → builder.scale ≡ before.scale →
    (with_line before.scale mesh_so_far line words ≡ Ok (so_far builder)) ×
    Stands builder (so_far builder) (line + 1) [] → LineJudged builder scale mesh_so_far line words
LineJudged-from before builder scale mesh_so_far line words stands same judged = record {
  judged = ap (λ s. with_line s mesh_so_far line words) (sym stands.0) ∙ judged.0;
  stands = (same ∙ stands.0, judged.1);
}

-- a line has no other fault
other_fault : (scale : ℕ) (mesh_so_far : MeshSoFar) (line : ℕ) (words : List (List ℕ)) (fault : ObjFault) →
    ((why : ObjWhy) → fault ≢ Line line why) → fault ≢ TooMany → with_line scale mesh_so_far line words ≡ Err fault → ⊥
other_fault scale mesh_so_far line words fault no_line no_many e =
    elim (with_line-fault scale mesh_so_far line words fault e)
    [ inl own ↦ no_line own.0 own.1 | inr many ↦ no_many many ]

pub OnLineFault-from : (before : MeshBuilder) (scale : ℕ) (mesh_so_far : MeshSoFar) (line : ℕ) (words : List (List ℕ))
    (fault : ObjFault) → StandsOn before scale mesh_so_far line words →
    (fault ≢ Memory → with_line before.scale mesh_so_far line words ≡ Err fault) →
    OnLineFault (λ f. with_line scale mesh_so_far line words ≡ Err f) fault
OnLineFault-from before scale mesh_so_far line words fault stands says =
    go fault (λ other. ap (λ s. with_line s mesh_so_far line words) (sym stands.0) ∙ says other)
  where
    go : (f : ObjFault) → (f ≢ Memory → with_line scale mesh_so_far line words ≡ Err f) →
        OnLineFault (λ f. with_line scale mesh_so_far line words ≡ Err f) f
    go (Line n why) e = e (λ never. cc)
    go TooMany e = e (λ never. cc)
    go TooLong e = other_fault scale mesh_so_far line words TooLong (λ why never. cc) (λ never. cc) (e (λ never. cc))
    go Empty e = other_fault scale mesh_so_far line words Empty (λ why never. cc) (λ never. cc) (e (λ never. cc))
    go Read e = other_fault scale mesh_so_far line words Read (λ why never. cc) (λ never. cc) (e (λ never. cc))
    go Memory e = tt
