-- What every script of a text has.
use Rattle.std.specs.Prelude.{◌≡◌, ◌+◌, ◌≤◌, ◌&&◌, ◌⊎◌, ℕ, ℤ, pos, negsuc, List, [], ◌∷◌, ◌++◌, Bool, true, false}
use Rattle.std.specs.Prelude.{cond, if◌then◌else◌, nat_le, length, Option, None, Some, Result, Ok, Err, IfOk}
use Rattle.std.specs.Prelude.{IfSome, refl}
use Rattle.std.proofs.Common.{arith, ap, sym, subst, ◌∙◌, inl, inr, length-append}
use Rattle.geom_core.specs.Limits.{IsPicture, IsSide, is_side}
use Rattle.geom_core.specs.declared.screens.Size.{Size}
use Rattle.serde_json.specs.Data.{Data}
use Rattle.camera_script.specs.Internal.Answers.{AnswersOrMemory}
use Rattle.camera_script.specs.IsScript.{IsScript, printed}
use Rattle.camera_script.specs.Members.{◌>>=◌, numbers_in}
use Rattle.camera_script.specs.Script.{after_shot, is_shot_count, prints_after, script_in, script_of}
use Rattle.camera_script.specs.Script.{script_of_sections, script_of_shots}
use Rattle.camera_script.specs.Script.{script_of_size, script_of_value, sections_in, shot_at, shot_in, shots_from}
use Rattle.camera_script.specs.Script.{side_from, size_from, size_in, value_of, within_prints}
use Rattle.camera_script.specs.declared.faults.ScriptFault.{ScriptFault}
use Rattle.camera_script.specs.declared.faults.ScriptFault.TheVariants.{Bad, Memory}
use Rattle.camera_script.specs.declared.faults.ScriptWhy.{ScriptWhy}
use Rattle.camera_script.specs.declared.faults.ScriptWhy.TheVariants.{Count, Prints}
use Rattle.camera_script.specs.declared.scripts.Script.{Script}
use Rattle.camera_script.specs.declared.scripts.Shot.{Shot}
use Rattle.camera_script.specs.declared.scripts.TheConstants.{MAX_SHOTS, MAX_PRINTS}

-- a size is a picture's
side_if : (b : Bool) (n : ℕ) → (b ≡ true → IsSide n) → IfSome (if b then Some n else None) IsSide
side_if true n h = h refl
side_if false n h = tt

side_ok : (n : ℤ) → IfSome (side_from n) IsSide
side_ok (pos n) = side_if (is_side n) n (λ e. e)
side_ok (negsuc n) = tt

abbrev size_with : Option ℕ → Option ℕ → Option Size
size_with width height = width >>= (λ w. height >>= (λ h. Some (record { width = w; height = h })))

both_sides : (width height : ℕ) → IsSide width → IsSide height → (is_side width && is_side height) ≡ true
both_sides width height w h = rw (w, h) refl

size_with-picture : (width height : Option ℕ) → IfSome width IsSide → IfSome height IsSide →
    IfSome (size_with width height) IsPicture
size_with-picture None height w h = tt
size_with-picture (Some width) None w h = tt
size_with-picture (Some width) (Some height) w h = both_sides width height w h

size_from-picture : (ns : List ℤ) → IfSome (size_from ns) IsPicture
size_from-picture [] = tt
size_from-picture (first ∷ []) = tt
size_from-picture (first ∷ second ∷ []) =
    size_with-picture (side_from first) (side_from second) (side_ok first) (side_ok second)
size_from-picture (first ∷ second ∷ third ∷ rest) = tt

size_after-picture : (ns : Option (List ℤ)) → IfSome (ns >>= size_from) IsPicture
size_after-picture None = tt
size_after-picture (Some ns) = size_from-picture ns

-- how many shots are printed, with one more
length_if : (b : Bool) (shot : Shot) (shots : List Shot) →
    length (cond b (shot ∷ shots) shots) ≡ (if b then length shots + 1 else length shots)
length_if true shot shots = omega arith
length_if false shot shots = refl

abbrev more_if : Bool → ℕ → ℕ
more_if b n = if b then n + 1 else n

more_if-swap : (a b : Bool) (n : ℕ) → more_if a (more_if b n) ≡ more_if b (more_if a n)
more_if-swap true true n = refl
more_if-swap true false n = refl
more_if-swap false true n = refl
more_if-swap false false n = refl

printed_more : (shots : List Shot) (shot : Shot) →
    length (printed (shots ++ shot ∷ [])) ≡ prints_after (length (printed shots)) shot
printed_more [] shot = length_if shot.print shot []
printed_more (first ∷ shots) shot =
    length_if first.print first (printed (shots ++ shot ∷ []))
    ∙ ap (more_if first.print) (printed_more shots shot)
    ∙ more_if-swap first.print shot.print (length (printed shots))
    ∙ ap (more_if shot.print) (sym (length_if first.print first (printed shots)))

-- a shot is within the number of printed ones
few_prints : (b : Bool) (prints : ℕ) → prints ≤ MAX_PRINTS → (b && nat_le MAX_PRINTS prints) ≡ false →
    more_if b prints ≤ MAX_PRINTS
few_prints true prints few e = grind arith
few_prints false prints few e = few

shot_if : (b : Bool) (fault : ScriptFault) (prints : ℕ) (shot : Shot) → (b ≡ false →
    prints_after prints shot ≤ MAX_PRINTS) →
    IfOk (if b then Err fault else Ok shot) (λ s. prints_after prints s ≤ MAX_PRINTS)
shot_if true fault prints shot h = tt
shot_if false fault prints shot h = h refl

within_limit : (frame prints : ℕ) (shot : Result Shot ScriptWhy) → prints ≤ MAX_PRINTS →
    IfOk (within_prints frame prints shot) (λ s. prints_after prints s ≤ MAX_PRINTS)
within_limit frame prints (Err why) few = tt
within_limit frame prints (Ok shot) few =
    shot_if (shot.print && nat_le MAX_PRINTS prints) (Bad (Some frame) Prints) prints shot
    (few_prints shot.print prints few)

shot_limit : (frame prints : ℕ) (value : Data) → prints ≤ MAX_PRINTS →
    IfOk (shot_at frame prints value) (λ s. prints_after prints s ≤ MAX_PRINTS)
unfolding shot_at
shot_limit frame prints value few = within_limit frame prints (shot_in value) few

-- as many shots as frames, and few printed ones
abbrev AreShots : ℕ → List Shot → Type 0
AreShots count shots = (length shots ≡ count) × (length (printed shots) ≤ MAX_PRINTS)

shots_next : (count prints : ℕ) (shot : Result Shot ScriptFault) (next : Shot → Result (List Shot) ScriptFault) →
    IfOk shot (λ s. prints_after prints s ≤ MAX_PRINTS) →
    ((s : Shot) → prints_after prints s ≤ MAX_PRINTS → IfOk (next s) (AreShots count)) →
    IfOk (after_shot shot next) (AreShots count)
shots_next count prints (Err fault) next limit each = tt
shots_next count prints (Ok shot) next limit each = each shot limit

shots_ok : (frames : List Data) (shots : List Shot) (frame prints count : ℕ) → prints ≡ length (printed shots) →
    prints ≤ MAX_PRINTS → length shots + length frames ≡ count →
    IfOk (shots_from shots frame prints frames) (AreShots count)
shots_ok [] shots frame prints count e limit all = (omega (arith, all), omega (arith, e, limit))
shots_ok (value ∷ rest) shots frame prints count e limit all =
    shots_next count prints (shot_at frame prints value)
    (λ (s : Shot). shots_from (shots ++ s ∷ []) (frame + 1) (prints_after prints s) rest)
    (shot_limit frame prints value limit)
    (λ (s : Shot) few. shots_ok rest (shots ++ s ∷ []) (frame + 1) (prints_after prints s) count
    (ap (λ (n : ℕ). prints_after n s) e ∙ sym (printed_more shots s)) few
    (omega (arith, length-append shots (s ∷ []), all)))

-- the script
both_hold : (a b : Bool) → (a && b) ≡ true → (a ≡ true) × (b ≡ true)
both_hold true b e = (refl, e)
both_hold false b e = cc

at_most : (n most : ℕ) → nat_le n most ≡ true → n ≤ most
at_most n most e = grind arith

of_shots : (size : Size) (count : ℕ) (shots : Result (List Shot) ScriptFault) → IsPicture size →
    is_shot_count count ≡ true → IfOk shots (AreShots count) → IfOk (script_of_shots size shots) IsScript
of_shots size count (Err fault) picture counted h = tt
of_shots size count (Ok shots) picture counted h =
    let both = both_hold (nat_le 1 count) (nat_le count MAX_SHOTS) counted in
    let low : 1 ≤ count = at_most 1 count both.0 in
    let high : count ≤ MAX_SHOTS = at_most count MAX_SHOTS both.1 in
    let as_many : length shots ≡ count = h.0 in record {
      picture = picture;
      some = omega (arith, low, as_many);
      shot_limit = omega (arith, high, as_many);
      print_limit = h.1;
    }

of_count : (b : Bool) (size : Size) (frames : List Data) → IsPicture size →
    (b ≡ true → is_shot_count (length frames) ≡ true) →
    IfOk (if b then script_of_shots size (shots_from [] 0 0 frames) else Err (Bad None Count)) IsScript
of_count true size frames picture h =
    of_shots size (length frames) (shots_from [] 0 0 frames) picture (h refl)
    (shots_ok frames [] 0 0 (length frames) refl (omega arith) (omega arith))
of_count false size frames picture h = tt

of_size : (size : Option Size) (frames : List Data) → IfSome size IsPicture → IfOk (script_of_size size frames) IsScript
of_size None frames h = tt
of_size (Some size) frames h = of_count (is_shot_count (length frames)) size frames h (λ e. e)

of_sections : (found : Option (Data × List Data)) → IfOk (script_of_sections found) IsScript
of_sections None = tt
of_sections (Some found) = of_size (size_in found.0) found.1 (size_after-picture (numbers_in 2 found.0))

of_value : (value : Option Data) → IfOk (script_of_value value) IsScript
unfolding script_in
of_value None = tt
of_value (Some value) = of_sections (sections_in value)

pub script_of-sound : (text : List ℕ) → IfOk (script_of text) IsScript
unfolding script_of
script_of-sound text = of_value (value_of text)

-- the clauses of an answer
pub accepted : (defined result : Result Script ScriptFault) → AnswersOrMemory defined result → (script : Script) →
    defined ≡ Ok script → (result ≡ Ok script) ⊎ (result ≡ Err Memory)
accepted defined result (inl e) script is = inl (e ∙ is)
accepted defined result (inr e) script is = inr e

pub refused : (defined result : Result Script ScriptFault) → AnswersOrMemory defined result → (frame : Option ℕ)
    (why : ScriptWhy) → defined ≡ Err (Bad frame why) → (result ≡ Err (Bad frame why)) ⊎ (result ≡ Err Memory)
refused defined result (inl e) frame why is = inl (e ∙ is)
refused defined result (inr e) frame why is = inr e

pub bad : (defined result : Result Script ScriptFault) → AnswersOrMemory defined result → (frame : Option ℕ)
    (why : ScriptWhy) → result ≡ Err (Bad frame why) → defined ≡ Err (Bad frame why)
bad defined result (inl e) frame why is = sym e ∙ is
bad defined result (inr e) frame why is = cc

pub sound : (text : List ℕ) (result : Result Script ScriptFault) → AnswersOrMemory (script_of text) result →
    IfOk result IsScript
sound text result (inl e) = subst (λ (r : Result Script ScriptFault). IfOk r IsScript) (sym e) (script_of-sound text)
sound text result (inr e) = subst (λ (r : Result Script ScriptFault). IfOk r IsScript) (sym e) tt
