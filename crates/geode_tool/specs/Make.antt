-- `make`: it is accepted whatever the input is, and what a success is. It reads nothing.
use Rattle.std.specs.Prelude.{◌≡◌, ℕ, List}
use Rattle.shape_gen.specs.BoxText.{text_of_box}
use Rattle.geode_tool.specs.declared.commands.BoxRequest.{BoxRequest}
use Rattle.geode_tool.specs.declared.faults.Done.{Done}
use Rattle.geode_tool.specs.declared.faults.Done.TheVariants.{Made}
use Rattle.geode_tool.specs.Inputs.{Inputs}
use Rattle.geode_tool.specs.Verdicts.{Verdict}
use Rattle.geode_tool.specs.Verdicts.Verdict.{Accepts}

-- the words alone decide
abbrev pub make_verdict : Inputs → Verdict
make_verdict inputs = Accepts

-- what a success is, and the text that it writes: that of the requested box
abbrev pub DoesMake : BoxRequest → Done → List ℕ → Type 0
DoesMake request done text = (done ≡ Made) × (text ≡ text_of_box request.size request.number)

-- nothing of the inputs is read, neither before a success nor before a refusal
abbrev pub ReadsNothing : Inputs → Inputs → Type 0
ReadsNothing before after = after ≡ before
