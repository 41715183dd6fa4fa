-- What a builder stands for, when the open line has some bytes more.
use Rattle.std.proofs.Common.{◌≡◌, ◌≢◌, ℕ, ◌+◌, ◌≤◌, true, false, List, [], ◌∷◌, ◌++◌, length, refl, ap, sym, subst}
use Rattle.std.proofs.Common.{◌∙◌, append_assoc, length-append, arith}
use Rattle.std.proofs.lemmas.List.{append-nil}
use Rattle.std.proofs.lemmas.List.Elements.{All-nil, All-append}
use Rattle.obj_source.specs.declared.mesh_builder.MeshBuilder.{MeshBuilder}
use Rattle.obj_source.specs.declared.obj_scanner.ScanState.{ScanState}
use Rattle.obj_source.specs.declared.obj_scanner.ScanState.TheVariants.{First, Later, Skipping}
use Rattle.obj_source.specs.Lines.{is_blank, words_of, without_return}
use Rattle.obj_source.specs.Mesh.{MeshSoFar}
use Rattle.obj_source.specs.Scanner.{parts_words, kept, WordsRead, StandsOn, StandsAt, LineRead}
use Rattle.obj_source.proofs.LineWords.{IsInside, kept-some, kept-none, words_of-blank, words_of-hash, words_of-last}
use Rattle.obj_source.proofs.LineWords.{words_of-long}

pub WordsRead-nil : WordsRead [] [] []
WordsRead-nil = record { inside = All-nil (λ b. parts_words b ≡ false); go_on = λ rest. refl }

-- bytes of the open word
pub WordsRead-span : (begun word span : List ℕ) (words : List (List ℕ)) → WordsRead begun word words → IsInside span →
    WordsRead (begun ++ span) (word ++ span) words
WordsRead-span begun word span words so_far inside = record {
  inside = All-append (λ b. parts_words b ≡ false) word span so_far.inside inside;
  go_on = λ rest. rw (append_assoc begun span rest, append_assoc word span rest) (so_far.go_on (span ++ rest));
}

-- the words with a blank behind the open one
blank_more : (begun word rest : List ℕ) (words : List (List ℕ)) (b : ℕ) → WordsRead begun word words →
    is_blank b ≡ true → words_of ((begun ++ b ∷ []) ++ rest) ≡ (words ++ kept word) ++ words_of rest
blank_more begun word rest words b so_far blank =
    rw (append_assoc begun (b ∷ []) rest) (so_far.go_on (b ∷ rest)
    ∙ ap (λ l. words ++ l) (words_of-blank word b rest so_far.inside blank)
    ∙ sym (append_assoc words (kept word) (words_of rest)))

hash_more : (begun word rest : List ℕ) (words : List (List ℕ)) → WordsRead begun word words →
    words_of ((begun ++ 35 ∷ []) ++ rest) ≡ words ++ kept word
hash_more begun word rest words so_far =
    rw (append_assoc begun (35 ∷ []) rest) (so_far.go_on (35 ∷ rest)
    ∙ ap (λ l. words ++ l) (words_of-hash word rest so_far.inside))

at_last : (begun word : List ℕ) (words : List (List ℕ)) → WordsRead begun word words →
    words_of begun ≡ words ++ kept (without_return word)
at_last begun word words so_far =
    ap words_of (sym (append-nil begun)) ∙ so_far.go_on []
    ∙ ap (λ l. words ++ words_of l) (append-nil word)
    ∙ ap (λ l. words ++ l) (words_of-last word so_far.inside)

-- a word that ended at a blank
pub LineRead-blank : (part : ScanState) (builder : MeshBuilder) (scale : ℕ) (mesh_so_far : MeshSoFar) (line : ℕ)
    (begun word : List ℕ) (words : List (List ℕ)) (b : ℕ) →
    StandsAt part builder scale mesh_so_far line (words ++ kept word) → WordsRead begun word words → is_blank b ≡ true →
    LineRead part builder [] scale mesh_so_far line (begun ++ b ∷ [])
LineRead-blank First builder scale mesh_so_far line begun word words b stands so_far blank = (
  stands.1,
  record {
    inside = All-nil (λ b. parts_words b ≡ false);
    go_on = λ rest. blank_more begun word rest words b so_far blank ∙ ap (λ l. l ++ words_of rest) stands.0;
  },
)
LineRead-blank Later builder scale mesh_so_far line begun word words b stands so_far blank = (
  words ++ kept word,
  stands,
  record {
    inside = All-nil (λ b. parts_words b ≡ false);
    go_on = λ rest. blank_more begun word rest words b so_far blank;
  },
)
LineRead-blank Skipping builder scale mesh_so_far line begun word words b stands so_far blank =
    (refl, λ rest. rw (blank_more begun word rest words b so_far blank) (stands (words_of rest)))

-- what stands for some words, whatever part is open
pub stands_for : (part : ScanState) (builder : MeshBuilder) (scale : ℕ) (mesh_so_far : MeshSoFar) (line : ℕ)
    (words : List (List ℕ)) → StandsAt part builder scale mesh_so_far line words →
    StandsOn builder scale mesh_so_far line words
stands_for First builder scale mesh_so_far line words stands = rw stands.0 stands.1
stands_for Later builder scale mesh_so_far line words stands = stands
stands_for Skipping builder scale mesh_so_far line words stands =
    subst (λ l. StandsOn builder scale mesh_so_far line l) (append-nil words) (stands [])

-- a word that ended at a `#`
pub LineRead-hash : (part : ScanState) (builder : MeshBuilder) (scale : ℕ) (mesh_so_far : MeshSoFar) (line : ℕ)
    (begun word : List ℕ) (words : List (List ℕ)) → StandsAt part builder scale mesh_so_far line (words ++ kept word) →
    WordsRead begun word words → LineRead Skipping builder [] scale mesh_so_far line (begun ++ 35 ∷ [])
LineRead-hash part builder scale mesh_so_far line begun word words stands so_far = (
  refl,
  λ rest. rw (hash_more begun word rest words so_far)
      (stands_for part builder scale mesh_so_far line (words ++ kept word) stands),
)

-- bytes of a line that is passed over
pub LineRead-passed : (builder : MeshBuilder) (scale : ℕ) (mesh_so_far : MeshSoFar) (line : ℕ)
    (begun word span : List ℕ) → LineRead Skipping builder word scale mesh_so_far line begun →
    LineRead Skipping builder word scale mesh_so_far line (begun ++ span)
LineRead-passed builder scale mesh_so_far line begun word span so_far =
    (so_far.0, λ rest. rw (append_assoc begun span rest) (so_far.1 (span ++ rest)))

-- bytes of the open word
pub LineRead-span : (part : ScanState) (builder : MeshBuilder) (scale : ℕ) (mesh_so_far : MeshSoFar) (line : ℕ)
    (begun word span : List ℕ) → part ≢ Skipping → LineRead part builder word scale mesh_so_far line begun →
    IsInside span → LineRead part builder (word ++ span) scale mesh_so_far line (begun ++ span)
LineRead-span First builder scale mesh_so_far line begun word span not_passed read inside =
    (read.0, WordsRead-span begun word span [] read.1 inside)
LineRead-span Later builder scale mesh_so_far line begun word span not_passed read inside =
    (read.0, read.1, WordsRead-span begun word span read.0 read.2 inside)
LineRead-span Skipping builder scale mesh_so_far line begun word span not_passed read inside = absurd (not_passed refl)

-- a first word that is too long
pub LineRead-long : (before builder : MeshBuilder) (scale : ℕ) (mesh_so_far : MeshSoFar) (line : ℕ)
    (begun word span : List ℕ) → 3 ≤ length word + length span →
    LineRead First before word scale mesh_so_far line begun → IsInside span →
    ((first : List ℕ) (more : List (List ℕ)) → 2 ≤ length first →
    StandsOn builder scale mesh_so_far line (first ∷ more)) →
    LineRead Skipping builder [] scale mesh_so_far line (begun ++ span)
LineRead-long before builder scale mesh_so_far line begun word span long read inside stands = (
  refl,
  λ rest.
      let so_far = WordsRead-span begun word span [] read.1 inside in
      let first = words_of-long (word ++ span) rest so_far.inside (omega (arith, length-append word span)) in
      rw (so_far.go_on rest, first.parted) (stands first.first first.more first.long),
)

-- what ended the word does, where one is open and where the line is passed over
pub LineRead-cases : (part : ScanState) (builder : MeshBuilder) (scale : ℕ) (mesh_so_far : MeshSoFar) (line : ℕ)
    (begun word : List ℕ) (P : Type 0) → LineRead part builder word scale mesh_so_far line begun →
    ((words : List (List ℕ)) → StandsAt part builder scale mesh_so_far line words → WordsRead begun word words → P) →
    ((part ≡ Skipping) → LineRead Skipping builder word scale mesh_so_far line begun → P) → P
LineRead-cases First builder scale mesh_so_far line begun word P so_far more passed = more [] (refl, so_far.0) so_far.1
LineRead-cases Later builder scale mesh_so_far line begun word P so_far more passed = more so_far.0 so_far.1 so_far.2
LineRead-cases Skipping builder scale mesh_so_far line begun word P so_far more passed = passed refl so_far

-- a word more
pub StandsAt-settled : (part next : ScanState) (before builder : MeshBuilder) (scale : ℕ) (mesh_so_far : MeshSoFar)
    (line : ℕ) (words : List (List ℕ)) (word : List ℕ) → 1 ≤ length word → next ≡ Skipping →
    (StandsOn before scale mesh_so_far line words → StandsOn builder scale mesh_so_far line (words ++ word ∷ [])) →
    ((more : List (List ℕ)) → StandsOn builder scale mesh_so_far line (words ++ word ∷ []) →
    StandsOn builder scale mesh_so_far line ((words ++ word ∷ []) ++ more)) →
    StandsAt part before scale mesh_so_far line words →
    StandsAt next builder scale mesh_so_far line (words ++ kept word)
StandsAt-settled part next before builder scale mesh_so_far line words word some passed took settled stands =
    rw (passed, kept-some word some) (λ more. settled more
    (took (stands_for part before scale mesh_so_far line words stands)))

pub StandsAt-later : (part next : ScanState) (before builder : MeshBuilder) (scale : ℕ) (mesh_so_far : MeshSoFar)
    (line : ℕ) (words : List (List ℕ)) (word : List ℕ) → 1 ≤ length word → next ≡ Later →
    (StandsOn before scale mesh_so_far line words → StandsOn builder scale mesh_so_far line (words ++ word ∷ [])) →
    StandsAt part before scale mesh_so_far line words →
    StandsAt next builder scale mesh_so_far line (words ++ kept word)
StandsAt-later part next before builder scale mesh_so_far line words word some later took stands =
    rw (later, kept-some word some) (took (stands_for part before scale mesh_so_far line words stands))

-- no word
pub StandsAt-none : (part : ScanState) (builder : MeshBuilder) (scale : ℕ) (mesh_so_far : MeshSoFar) (line : ℕ)
    (words : List (List ℕ)) (word : List ℕ) → length word ≡ 0 → StandsAt part builder scale mesh_so_far line words →
    StandsAt part builder scale mesh_so_far line (words ++ kept word)
StandsAt-none part builder scale mesh_so_far line words word none stands =
    rw (kept-none word none, append-nil words) stands

-- the line ended, and its last word lost its CR
pub LineRead-ended : (part now next : ScanState) (before same builder : MeshBuilder) (scale : ℕ)
    (mesh_so_far : MeshSoFar) (line : ℕ) (begun word last : List ℕ) →
    LineRead part before word scale mesh_so_far line begun → now ≡ part → same ≡ before → last ≡ without_return word →
    ((words : List (List ℕ)) → StandsAt now same scale mesh_so_far line words →
    StandsAt next builder scale mesh_so_far line (words ++ kept last)) → (last ≡ [] → builder ≡ same) →
    StandsOn builder scale mesh_so_far line (words_of begun)
unfolding without_return
LineRead-ended part now next before same builder scale mesh_so_far line begun word last read is_now is_same is_last took
    idle =
    LineRead-cases part before scale mesh_so_far line begun word
    (StandsOn builder scale mesh_so_far line (words_of begun)) read
    (λ words stands so_far.
    let came = took words (rw (is_now, is_same) stands) in
    rw (at_last begun word words so_far) (stands_for next builder scale mesh_so_far line
    (words ++ kept (without_return word)) (rw is_last at came)))
    (λ passed over.
    let none : last ≡ [] = is_last ∙ ap without_return over.0 in
    let stays = over.1 [] in
    rw (idle none, is_same) (rw (append-nil begun) at stays))
