-- What the calls of `make` say of its promise.
use Rattle.std.proofs.Common.{◌≡◌, ℕ, List, Option, inl, refl}
use Rattle.geode_tool.specs.declared.commands.BoxRequest.{BoxRequest}
use Rattle.geode_tool.specs.declared.commands.Command.TheVariants.{Make}
use Rattle.geode_tool.specs.declared.faults.Done.TheVariants.{Made}
use Rattle.geode_tool.specs.declared.faults.Fault.TheVariants.{Memory}
use Rattle.geode_tool.specs.Inputs.{inputs_of}
use Rattle.geode_tool.specs.Internal.Unwritten.{StopsUnwritten}
use Rattle.geode_tool.proofs.Promise.{IsMade}
use Rattle.shape_gen.specs.BoxText.{text_of_box}

-- no memory for the text
pub box-stops : (request : BoxRequest) (left : Option (List ℕ)) (faults : ℕ) →
    StopsUnwritten (Make request) (inputs_of left) (inputs_of left) faults faults Memory
box-stops request left faults = record {
  answered = refl;
  may_return = inl refl;
  cause = λ is. cc;
  reads = refl;
  no_write = λ is. cc;
}

-- the text of the box
pub box_made : (request : BoxRequest) (left : Option (List ℕ)) (faults : ℕ) (text : List ℕ) →
    text ≡ text_of_box request.size request.number → IsMade (Make request) left left faults faults Made text
box_made request left faults text shown = record {
  does = (refl, shown);
  accepted = tt;
  input_read = refl;
  reads = refl;
  may_fail = inl refl;
  no_fault = refl;
}
