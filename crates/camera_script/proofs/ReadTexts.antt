-- The JSON value of a text, as the library reads it.
use Rattle.std.specs.Prelude.{◌≡◌, ◌⊎◌, ℕ, List, Bool, true, false, if◌then◌else◌, Option, None, Some, Result, Err}
use Rattle.std.specs.Prelude.{IsUtf8, refl}
use Rattle.std.proofs.Common.{ap, sym, ◌∙◌, inl, inr}
use Rattle.std.specs.Str.{is_utf8}
use Rattle.std.proofs.lemmas.Str.{IsUtf8-from_is_utf8, is_utf8-from_IsUtf8}
use Rattle.serde_json.specs.Data.{Data}
use Rattle.serde_json.specs.Errors.{IsMemory}
use Rattle.serde_json.specs.Read.{read as read_text}
use Rattle.serde_json.specs.declared.error.Error.{Error}
use Rattle.camera_script.specs.Internal.Answers.{AnswersOrMemory}
use Rattle.camera_script.specs.Script.{script_in, script_of, script_of_value, value_of}
use Rattle.camera_script.specs.declared.faults.ScriptFault.{ScriptFault}
use Rattle.camera_script.specs.declared.faults.ScriptFault.TheVariants.{Bad, Memory}
use Rattle.camera_script.specs.declared.faults.ScriptWhy.TheVariants.{Text}
use Rattle.camera_script.specs.declared.scripts.Script.{Script}

none_if : (b : Bool) (read : Option Data) → (b ≡ true → read ≡ None) → (if b then read else None) ≡ None
none_if true read h = h refl
none_if false read h = refl

-- a text with a value
pub script_of-value : (text : List ℕ) (value : Data) (result : Result Script ScriptFault) → IsUtf8 text →
    read_text text ≡ Some value → AnswersOrMemory (script_in value) result → AnswersOrMemory (script_of text) result
unfolding script_of value_of
script_of-value text value result utf8 read (inl e) =
    inl (e ∙ sym (ap (λ (b : Bool). script_of_value (if b then read_text text else None))
    (is_utf8-from_IsUtf8 text utf8)
    ∙ ap script_of_value read))
script_of-value text value result utf8 read (inr e) = inr e

-- a text without one
script_of-none : (text : List ℕ) → (IsUtf8 text → read_text text ≡ None) → script_of text ≡ Err (Bad None Text)
unfolding script_of value_of
script_of-none text none =
    ap script_of_value (none_if (is_utf8 text) (read_text text) (λ e. none (IsUtf8-from_is_utf8 text e)))

-- why a text gave no value
pub script_of-refused : (text : List ℕ) (error : Error) (fault : ScriptFault) →
    (¬ IsMemory error → IsUtf8 text → read_text text ≡ None) →
    (IsMemory error × (fault ≡ Memory)) ⊎ ((¬ IsMemory error) × (fault ≡ Bad None Text)) →
    AnswersOrMemory (script_of text) (Err fault)
script_of-refused text error fault refused (inl found) = inr (ap Err found.1)
script_of-refused text error fault refused (inr found) =
    inl (ap Err found.1 ∙ sym (script_of-none text (refused found.0)))
