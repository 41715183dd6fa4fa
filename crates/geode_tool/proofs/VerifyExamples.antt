-- Worked examples of `verify`, computed.
use Rattle.std.proofs.Common.{◌≡◌, ℕ, List, [], ◌∷◌, Some, None, false, codes, refl}
use Rattle.std.specs.Fmt.{digits}
use Rattle.dag_core.specs.declared.counts.Counts.{Counts}
use Rattle.geode_tool.specs.declared.commands.Command.TheVariants.{Verify}
use Rattle.geode_tool.specs.declared.faults.Fault.TheVariants.{NoSource}
use Rattle.geode_tool.specs.Places.{file_named}
use Rattle.geode_tool.specs.Verdicts.Verdict.{Refuses}
use Rattle.geode_tool.specs.Verify.{sound_text, verify_verdict}
use Rattle.geode_tool.specs.Words.{is_verify}

abbrev squares : Counts
squares = record { groups = 3; clusters = 4; pages = 3; roots = 1; sources = 8 }

pub sound_text-squares : sound_text squares ≡ codes "sound groups 3 clusters 4 pages 3 roots 1 sources 8\n"
unfolding sound_text digits
sound_text-squares = refl

pub no_source : verify_verdict (record { text = None; pages = None; sources = 0 }) ≡ Refuses (NoSource 1 0)
no_source = refl

pub file_named-any : file_named Verify (codes "verify" ∷ codes "--scale" ∷ []) ≡ Some (codes "--scale")
file_named-any = refl

pub is_verify-two_files : is_verify (codes "verify" ∷ codes "a" ∷ codes "b" ∷ []) ≡ false
is_verify-two_files = refl
