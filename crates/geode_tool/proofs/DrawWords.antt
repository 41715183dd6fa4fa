-- The words of `draw`, one after another.
use Rattle.std.specs.Prelude.{◌≡◌, ◌≢◌, ◌<◌, ◌≤◌, ℕ, List, [], ◌∷◌, length, map, Option, Some, None, option_and_then}
use Rattle.std.specs.Prelude.{bytes_eq, codes, Bool, true, false, not, refl}
use Rattle.std.specs.Borrow.{Bor}
use Rattle.std.proofs.Common.{arith, sym, ◌∙◌, get_or}
use Rattle.std.proofs.lemmas.List.{length-map}
use Rattle.geom_core.specs.Camera.{View}
use Rattle.geode_tool.specs.declared.commands.DrawRequest.{DrawRequest}
use Rattle.geode_tool.specs.Words.{draw_words, side, camera}

-- other than four words
draw_words-count : (words : List (List ℕ)) → length words ≢ 4 → None ≡ draw_words words
unfolding draw_words
draw_words-count [] h = refl
draw_words-count (a ∷ []) h = refl
draw_words-count (a ∷ b ∷ []) h = refl
draw_words-count (a ∷ b ∷ c ∷ []) h = refl
draw_words-count (a ∷ b ∷ c ∷ d ∷ []) h = absurd (h refl)
draw_words-count (a ∷ b ∷ c ∷ d ∷ e ∷ rest) h = refl

pub draw_words-other : (words : List (Bor (List ℕ))) → length words ≢ 4 → None ≡ draw_words (map (λ w. w.now) words)
draw_words-other words h =
    draw_words-count (map (λ w. w.now) words) (λ e. h (sym (length-map words (λ w. w.now)) ∙ e))

-- the word at a place, as the code reads it; past the end there is an empty one
abbrev pub word : List (Bor (List ℕ)) → ℕ → List ℕ
word words place = (get_or words place (record { ref_ptr = (0, 0); now = [] })).now

four_words : (words : List (Bor (List ℕ))) → 4 ≤ length words → length words < 5 →
    map (λ w. w.now) words ≡ word words 0 ∷ word words 1 ∷ word words 2 ∷ word words 3 ∷ []
four_words [] p q = absurd (omega arith)
four_words (a ∷ []) p q = absurd (omega arith)
four_words (a ∷ b ∷ []) p q = absurd (omega arith)
four_words (a ∷ b ∷ c ∷ []) p q = absurd (omega arith)
four_words (a ∷ b ∷ c ∷ d ∷ []) p q = refl
four_words (a ∷ b ∷ c ∷ d ∷ e ∷ rest) p q = absurd (omega arith)

pub flipped : (b c : Bool) → c ≡ not b → c ≡ true → b ≡ false
flipped true c e h = absurd (cc)
flipped false c e h = refl

pub kept : (b c : Bool) → c ≡ not b → c ≡ false → b ≡ true
kept true c e h = refl
kept false c e h = absurd (cc)

-- another command
pub draw_words-named : (words : List (Bor (List ℕ))) (is_other : Bool) → 4 ≤ length words → length words < 5 →
    is_other ≡ not (bytes_eq (word words 0) (codes "draw")) → is_other ≡ true →
    None ≡ draw_words (map (λ w. w.now) words)
unfolding draw_words
draw_words-named words is_other p q e o = rw (four_words words p q, flipped _ is_other e o) refl

abbrev the_request : ℕ → ℕ → View → DrawRequest
the_request width height view = record { size = record { width = width; height = height }; camera = view }

-- the three values together, where all are there
abbrev request_of : Option ℕ → Option ℕ → Option View → Option DrawRequest
request_of (Some width) (Some height) (Some view) = Some (the_request width height view)
request_of width height view = None

together : (width height : Option ℕ) (view : Option View) →
    request_of width height view ≡ option_and_then
    (λ w. option_and_then (λ h. option_and_then (λ v. Some (the_request w h v)) view) height) width
together None height view = refl
together (Some w) None view = refl
together (Some w) (Some h) None = refl
together (Some w) (Some h) (Some v) = refl

-- `draw`, and its three values
pub draw_words-values : (words : List (Bor (List ℕ))) (is_other : Bool) (width height : Option ℕ) (view : Option View) →
    4 ≤ length words → length words < 5 → is_other ≡ not (bytes_eq (word words 0) (codes "draw")) → is_other ≡ false →
    side (word words 1) ≡ width → side (word words 2) ≡ height → camera (word words 3) ≡ view →
    request_of width height view ≡ draw_words (map (λ w. w.now) words)
unfolding draw_words
draw_words-values words is_other width height view p q e o w h v =
    rw (four_words words p q, kept _ is_other e o, w, h, v) (together width height view)
