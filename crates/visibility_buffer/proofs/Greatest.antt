-- The greatest word at each pixel, one word further.
use Rattle.std.proofs.Common.{◌≡◌, ℕ, ◌<◌, ◌*◌, Bool, true, false, cond, eqb, List, [], ◌∷◌, ◌++◌, length, map, get_or}
use Rattle.std.proofs.Common.{set, max, refl, sym, ◌∙◌, ap, subst, zero-add, ⊎_elim}
use Rattle.std.specs.List.{filter, fold}
use Rattle.std.proofs.lemmas.Bool.{cases_eq, eq-eqb, ne_eqb}
use Rattle.std.proofs.lemmas.List.{length-set, get_or-set_same, get_or-set_other, map-append}
use Rattle.std.proofs.lemmas.List.Elements.{filter-append}
use Rattle.std.proofs.lemmas.List.Sums.{fold-append}
use Rattle.std.proofs.lemmas.List.FromFn.{length-map-range_with_len, get_or-map-range_with_len, fill_by_all}
use Rattle.geom_core.specs.declared.screens.Size.{Size}
use Rattle.geom_core.specs.Picture.{greatest_at, picture_of_words}

abbrev Put : Type 0
Put = ℕ × ℕ

single : (pixel word place least : ℕ) →
    fold max least (map (λ (draw : Put). draw.1) (filter (λ (draw : Put). eqb draw.0 place) ((pixel, word) ∷ []))) ≡
    cond (eqb pixel place) (max least word) least
single pixel word place least = go (eqb pixel place) where
  go : (here : Bool) → fold max least (map (λ (draw : Put). draw.1) (cond here ((pixel, word) ∷ []) []))
      ≡ cond here (max least word) least
  go true = refl
  go false = refl

-- one word more, at some pixel
greatest_at-push : (before : List Put) (pixel word place : ℕ) →
    greatest_at (before ++ (pixel, word) ∷ []) place
    ≡ cond (eqb pixel place) (max (greatest_at before place) word) (greatest_at before place)
unfolding greatest_at
greatest_at-push before pixel word place =
    let here : Put → Bool = λ (draw : Put). eqb draw.0 place in
    let kept = filter-append here before ((pixel, word) ∷ []) in
    ap (λ (draws : List Put). fold max 0 (map (λ (draw : Put). draw.1) draws)) kept
    ∙ ap (fold max 0) (map-append (λ (draw : Put). draw.1) (filter here before) (filter here ((pixel, word) ∷ [])))
    ∙ fold-append max 0 (map (λ (draw : Put). draw.1) (filter here before))
    (map (λ (draw : Put). draw.1) (filter here ((pixel, word) ∷ [])))
    ∙ single pixel word place _

-- nothing drawn
pub picture_of_nothing : (size : Size) (words : List ℕ) → length words ≡ size.width * size.height →
    ((k : ℕ) → k < size.width * size.height → get_or words k 0 ≡ 0) → words ≡ picture_of_words size []
unfolding greatest_at
picture_of_nothing size words long dark = fill_by_all (greatest_at []) words (size.width * size.height) 0 long dark

-- a write of the greater word at one place, read at another or there
write_read : (words : List ℕ) (pixel word k now : ℕ) → pixel < length words → get_or words k 0 ≡ now →
    get_or (set words pixel (max (get_or words pixel 0) word)) k 0 ≡ cond (eqb pixel k) (max now word) now
write_read words pixel word k now within read = ⊎_elim
    (λ (same : pixel ≡ k).
    let most : ℕ → ℕ = λ n. max n word in
    ap (λ (place : ℕ). get_or (set words pixel (most (get_or words pixel 0))) place 0) (sym same)
    ∙ get_or-set_same words pixel (most (get_or words pixel 0)) 0 within
    ∙ ap most (ap (λ (place : ℕ). get_or words place 0) same ∙ read)
    ∙ sym (ap (λ (b : Bool). cond b (max now word) now) (eq-eqb pixel k same)))
    (λ (other : pixel ≡ k → ⊥).
    get_or-set_other words pixel k (max (get_or words pixel 0) word) 0 (λ e. other (sym e))
    ∙ read ∙ sym (ap (λ (b : Bool). cond b (max now word) now) (ne_eqb pixel k other)))
    (cases_eq pixel k)

-- one word put
pub picture_of_words-push : (size : Size) (words : List ℕ) (before : List Put) (pixel word : ℕ) →
    words ≡ picture_of_words size before → pixel < size.width * size.height →
    set words pixel (max (get_or words pixel 0) word) ≡ picture_of_words size (before ++ (pixel, word) ∷ [])
picture_of_words-push size words before pixel word shown within =
    let count : ℕ = size.width * size.height in
    let long : length words ≡ count = ap length shown ∙ length-map-range_with_len (greatest_at before) 0 count in
    let most : ℕ = max (get_or words pixel 0) word in
    let read : (k : ℕ) → k < count → get_or words k 0 ≡ greatest_at before k =
    λ k below. ap (λ (l : List ℕ). get_or l k 0) shown ∙
    get_or-map-range_with_len (greatest_at before) 0 count k k 0 below (zero-add k) in
    let each : (k : ℕ) → k < count → get_or (set words pixel most) k 0 ≡ greatest_at (before ++ (pixel, word) ∷ []) k =
    λ k below. write_read words pixel word k (greatest_at before k) (subst (λ (n : ℕ). pixel < n) (sym long) within)
    (read k below)
    ∙ sym (greatest_at-push before pixel word k) in
    fill_by_all (greatest_at (before ++ (pixel, word) ∷ [])) (set words pixel most) count 0
    (length-set words pixel most ∙ long) each
