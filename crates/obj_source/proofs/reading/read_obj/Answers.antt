use Rattle.std.proofs.Common.{ℕ, Vec, Global, subst}
use Rattle.std.proofs.lemmas.Result.{IfOk-weaker, MatchResult-weaker}
use Rattle.geom_core.specs.declared.limits.TheConstants.{MAX_OBJ_BYTES}
use Rattle.geom_core.specs.declared.triangles.Tri.{Tri}
use Rattle.span_io.specs.Consumers.{FedToEnd, FedToFailure, FedToLimit, FedToStop}
use Rattle.obj_source.specs.declared.faults.ObjFault.{ObjFault}
use Rattle.geom_core.specs.Limits.{AreGridTriangles}
use Rattle.obj_source.proofs.Gathered.{Takes, StopsAt, refused_at_end, refused_at_stop, refused_long, end-reads_up_to}
use Rattle.obj_source.proofs.Gathered.{failure-reads_up_to, limit-reads_up_to, stop-reads_up_to}
use Rattle.obj_source.proofs.SoundMeshes.{mesh_sound}
use Rattle.obj_source.proofs.reading.read_obj.Goals as goal

pub returns-in-End-clause-sound : goal.returns-in-End-clause-sound
returns-in-End-clause-sound g c =
    let all = c.in-End.ensures.outcome.all in
    IfOk-weaker c.end.result _ (λ tris. AreGridTriangles tris.items)
    (λ (tris : Vec Tri Global) says. mesh_sound _ all.bytes tris.items
    (says c.of-scanner.result.builder.scale all.bytes all.fed all.limited))
    c.end.ensures.listed

pub returns-in-End-clause-refused : goal.returns-in-End-clause-refused
returns-in-End-clause-refused g c =
    let end = subst (λ (s : ℕ). FedToEnd (Takes s) MAX_OBJ_BYTES (g.S.Source.left c.args.src.now)
    (g.S.Source.left c.read_into.new.src) (g.S.Source.faults c.args.src.now)
    (g.S.Source.faults c.read_into.new.src) c.read_into.new.consumer)
    c.of-scanner.ensures.scale c.in-End.ensures.outcome in
    MatchResult-weaker c.end.result c.end.ensures.refused (λ tris none. none)
    (λ (fault : ObjFault) says. refused_at_end c.args.scale _ _ _ _ c.read_into.new.consumer fault end says)

pub returns-in-Stopped-clause-refused : goal.returns-in-Stopped-clause-refused
returns-in-Stopped-clause-refused g c =
    refused_at_stop c.args.scale _ _ _ _ c.in-Stopped.fault
    (subst (λ (s : ℕ). FedToStop (Takes s) (StopsAt s) MAX_OBJ_BYTES (g.S.Source.left c.args.src.now)
    (g.S.Source.left c.read_into.new.src) (g.S.Source.faults c.args.src.now)
    (g.S.Source.faults c.read_into.new.src) c.in-Stopped.fault)
    c.of-scanner.ensures.scale c.in-Stopped.ensures.outcome)

pub returns-in-TooLong-clause-refused : goal.returns-in-TooLong-clause-refused
returns-in-TooLong-clause-refused g c =
    refused_long c.args.scale _ _ _ _ c.read_into.new.consumer
    (subst (λ (s : ℕ). FedToLimit (Takes s) MAX_OBJ_BYTES (g.S.Source.left c.args.src.now)
    (g.S.Source.left c.read_into.new.src) (g.S.Source.faults c.args.src.now)
    (g.S.Source.faults c.read_into.new.src) c.read_into.new.consumer)
    c.of-scanner.ensures.scale c.in-TooLong.ensures.outcome)

pub returns-in-End-clause-read_up_to : goal.returns-in-End-clause-read_up_to
returns-in-End-clause-read_up_to g c =
    let end = subst (λ (s : ℕ). FedToEnd (Takes s) MAX_OBJ_BYTES (g.S.Source.left c.args.src.now)
    (g.S.Source.left c.read_into.new.src) (g.S.Source.faults c.args.src.now)
    (g.S.Source.faults c.read_into.new.src) c.read_into.new.consumer)
    c.of-scanner.ensures.scale c.in-End.ensures.outcome in
    MatchResult-weaker c.end.result c.end.ensures.refused (λ tris none. none)
    (λ (fault : ObjFault) says. end-reads_up_to c.args.scale _ _ _ _ c.read_into.new.consumer fault end says)

pub returns-in-Stopped-clause-read_up_to : goal.returns-in-Stopped-clause-read_up_to
returns-in-Stopped-clause-read_up_to g c =
    stop-reads_up_to c.args.scale _ _ _ _ c.in-Stopped.fault
    (subst (λ (s : ℕ). FedToStop (Takes s) (StopsAt s) MAX_OBJ_BYTES (g.S.Source.left c.args.src.now)
    (g.S.Source.left c.read_into.new.src) (g.S.Source.faults c.args.src.now)
    (g.S.Source.faults c.read_into.new.src) c.in-Stopped.fault)
    c.of-scanner.ensures.scale c.in-Stopped.ensures.outcome)

pub returns-in-Failed-clause-read_up_to : goal.returns-in-Failed-clause-read_up_to
returns-in-Failed-clause-read_up_to g c =
    failure-reads_up_to c.args.scale _ _ _ _ c.read_into.new.consumer
    (subst (λ (s : ℕ). FedToFailure (Takes s) MAX_OBJ_BYTES (g.S.Source.left c.args.src.now)
    (g.S.Source.left c.read_into.new.src) (g.S.Source.faults c.args.src.now)
    (g.S.Source.faults c.read_into.new.src) c.read_into.new.consumer)
    c.of-scanner.ensures.scale c.in-Failed.ensures.outcome)

pub returns-in-TooLong-clause-read_up_to : goal.returns-in-TooLong-clause-read_up_to
returns-in-TooLong-clause-read_up_to g c =
    limit-reads_up_to c.args.scale _ _ _ _ c.read_into.new.consumer
    (subst (λ (s : ℕ). FedToLimit (Takes s) MAX_OBJ_BYTES (g.S.Source.left c.args.src.now)
    (g.S.Source.left c.read_into.new.src) (g.S.Source.faults c.args.src.now)
    (g.S.Source.faults c.read_into.new.src) c.read_into.new.consumer)
    c.of-scanner.ensures.scale c.in-TooLong.ensures.outcome)
