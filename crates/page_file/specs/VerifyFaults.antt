-- What a refusal of the triangles' rules is called where a file is verified.
use Rattle.dag_soundness.specs.declared.faults.TriangleFault.{TriangleFault}
use Rattle.dag_soundness.specs.declared.faults.TriangleFault.TheVariants as triangles
use Rattle.page_file.specs.declared.open_faults.OpenFault.TheVariants as opens
use Rattle.page_file.specs.declared.verify_faults.VerifyFault.{VerifyFault}
use Rattle.page_file.specs.declared.verify_faults.VerifyFault.TheVariants.{Open, Broken}

abbrev pub fault_of : TriangleFault → VerifyFault
fault_of (triangles.Broken broken) = Broken broken.rule broken.index
fault_of triangles.Memory = Open opens.Memory
