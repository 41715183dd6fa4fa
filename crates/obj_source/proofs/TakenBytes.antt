-- The bytes of a text that were taken in, and some more.
use Rattle.std.proofs.Common.{◌≡◌, ◌≢◌, ℕ, ◌+◌, ◌≤◌, true, false, eqb, List, [], ◌∷◌, ◌++◌, length, get_or, Result, Ok}
use Rattle.std.proofs.Common.{Err, refl, ap, sym, subst, ◌∙◌, length-append, arith}
use Rattle.std.specs.List.{All}
use Rattle.std.specs.Result.{MatchResult, OnOk, IfErr}
use Rattle.std.proofs.lemmas.List.Elements.{All-nil, All-cons}
use Rattle.std.proofs.lemmas.Grind.{common_steps}
use Rattle.std.proofs.lemmas.Bool.Decides.{nat_tests}
use Rattle.geom_core.specs.declared.limits.TheConstants.{MAX_OBJ_BYTES}
use Rattle.obj_source.specs.declared.mesh_builder.MeshBuilder.{MeshBuilder}
use Rattle.obj_source.specs.declared.faults.ObjFault.{ObjFault}
use Rattle.obj_source.specs.declared.faults.ObjFault.TheVariants.{Line, TooMany, TooLong, Empty, Read, Memory}
use Rattle.obj_source.specs.declared.obj_scanner.ScanState.{ScanState}
use Rattle.obj_source.specs.declared.obj_scanner.ScanState.TheVariants.{First, Later, Skipping}
use Rattle.obj_source.specs.declared.obj_scanner.ObjScanner.{ObjScanner}
use Rattle.obj_source.specs.Builder.{so_far}
use Rattle.obj_source.specs.Lines.{is_blank, is_line_feed, words_of}
use Rattle.obj_source.specs.Mesh.{MeshSoFar, mesh, some_triangles, with_line, ◌>>=◌}
use Rattle.obj_source.specs.Scanner.{parts_words, ends_word, ends_token, kept, StandsOn, StandsAt, LineRead, LineJudged}
use Rattle.obj_source.specs.Scanner.{IsReady, HasTaken, IsFirstFault, OnLineFault, RefusedAtEnd}
use Rattle.obj_source.proofs.LineSteps.{LineRead-cases, LineRead-blank, LineRead-hash, LineRead-passed, LineRead-span}
use Rattle.obj_source.proofs.LineSteps.{LineRead-long, WordsRead-nil}
use Rattle.obj_source.proofs.LineWords.{IsInside, or-left, or-right}
use Rattle.obj_source.proofs.TextLines.{IsOneLine, LinesRead-span, LinesRead-feed, IsFirstFault-feed, mesh-last}

IsReady-more : (builder : MeshBuilder) (line corners line' corners' : ℕ) → IsReady builder line corners → line ≤ line' →
    corners ≤ corners' → IsReady builder line' corners'
IsReady-more builder line corners line' corners' ready lines some = record {
  scale_range = ready.scale_range;
  triangle_limit = ready.triangle_limit;
  line_fits = omega (arith, ready.line_fits);
  corners_fit = omega (arith, ready.corners_fit);
}

one_byte : (b : ℕ) → is_line_feed b ≡ false → IsOneLine (b ∷ [])
one_byte b e = All-cons (λ b. is_line_feed b ≡ false) b [] e (All-nil (λ b. is_line_feed b ≡ false))

blank_is_no_feed : (b : ℕ) → is_blank b ≡ true → is_line_feed b ≡ false
blank_is_no_feed b blank = grind (arith, common_steps, nat_tests)

-- of the bytes that end a word only two are no blanks
pub blank_else : (b : ℕ) → ends_word b ≡ true → b ≢ 10 → b ≢ 35 → is_blank b ≡ true
blank_else b ends no_feed no_hash = grind (arith, common_steps, nat_tests)

-- what the end of a word does
abbrev pub EndsWord : ObjScanner → ObjScanner → Type 0
EndsWord old new =
    ((scale : ℕ) (mesh_so_far : MeshSoFar) (line : ℕ) (words : List (List ℕ)) →
    StandsAt old.state old.builder scale mesh_so_far line words →
    StandsAt new.state new.builder scale mesh_so_far line (words ++ kept old.word.items))
    × (old.word.items ≡ [] → (new.builder ≡ old.builder) × (new.state ≡ old.state))
    × ((line corners : ℕ) → IsReady old.builder line corners → IsReady new.builder line (corners + 1))
    × (new.word.items ≡ [])

-- a blank behind a word
pub HasTaken-blank : (old new : ObjScanner) (b : ℕ) → EndsWord old new → is_blank b ≡ true →
    (scale : ℕ) (text : List ℕ) → HasTaken old scale text → HasTaken new scale (text ++ b ∷ [])
HasTaken-blank old new b ends blank scale text t = record {
  mesh_so_far = t.mesh_so_far;
  line = t.line;
  begun = t.begun ++ b ∷ [];
  lines =
      LinesRead-span scale text t.mesh_so_far t.line t.begun (b ∷ []) t.lines (one_byte b (blank_is_no_feed b blank));
  words = rw ends.3 (LineRead-cases old.state old.builder scale t.mesh_so_far t.line t.begun old.word.items
      (LineRead new.state new.builder [] scale t.mesh_so_far t.line (t.begun ++ b ∷ [])) t.words
      (λ words stands so_far. LineRead-blank new.state new.builder scale t.mesh_so_far t.line t.begun old.word.items
      words b (ends.0 scale t.mesh_so_far t.line words stands) so_far blank)
      (λ passed over. let same = ends.1 over.0 in
      rw (same.1, same.0, passed) (
        refl,
        (LineRead-passed old.builder scale t.mesh_so_far t.line t.begun old.word.items
            (b ∷ []) over).1,
      )));
  ready =
      IsReady-more new.builder _ _ _ _ (ends.2 (length text + 1) (length text) t.ready)
      (omega (arith, length-append text (b ∷ []))) (omega (arith, length-append text (b ∷ [])));
}

-- a `#` behind a word
pub HasTaken-hash : (old mid new : ObjScanner) → EndsWord old mid → new.builder ≡ mid.builder → new.word.items ≡ [] →
    new.state ≡ Skipping → (scale : ℕ) (text : List ℕ) → HasTaken old scale text → HasTaken new scale (text ++ 35 ∷ [])
HasTaken-hash old mid new ends builder word part scale text t = record {
  mesh_so_far = t.mesh_so_far;
  line = t.line;
  begun = t.begun ++ 35 ∷ [];
  lines = LinesRead-span scale text t.mesh_so_far t.line t.begun (35 ∷ []) t.lines (one_byte 35 refl);
  words =
      rw (word, part, builder) (LineRead-cases old.state old.builder scale t.mesh_so_far t.line t.begun old.word.items
      (LineRead Skipping mid.builder [] scale t.mesh_so_far t.line (t.begun ++ 35 ∷ [])) t.words
      (λ words stands so_far. LineRead-hash mid.state mid.builder scale t.mesh_so_far t.line t.begun old.word.items
      words (ends.0 scale t.mesh_so_far t.line words stands) so_far)
      (λ passed over. let same = ends.1 over.0 in
      rw same.0 (
        refl,
        (LineRead-passed old.builder scale t.mesh_so_far t.line t.begun old.word.items
            (35 ∷ []) over).1,
      )));
  ready =
      rw builder (IsReady-more mid.builder _ _ _ _ (ends.2 (length text + 1) (length text) t.ready)
      (omega (arith, length-append text (35 ∷ []))) (omega (arith, length-append text (35 ∷ []))));
}

-- an LF behind a line that was judged
pub HasTaken-feed : (old new : ObjScanner) (scale : ℕ) (text : List ℕ) → (t : HasTaken old scale text) →
    LineJudged new.builder scale t.mesh_so_far t.line (words_of t.begun) →
    ((line corners : ℕ) → IsReady old.builder line corners → IsReady new.builder (line + 1) 0) → new.word.items ≡ [] →
    new.state ≡ First → HasTaken new scale (text ++ 10 ∷ [])
HasTaken-feed old new scale text t judged ready word part = record {
  mesh_so_far = so_far new.builder;
  line = t.line + 1;
  begun = [];
  lines = LinesRead-feed scale text t.mesh_so_far (so_far new.builder) t.line t.begun t.lines judged.judged;
  words = rw (word, part) (judged.stands, WordsRead-nil);
  ready =
      IsReady-more new.builder _ _ _ _ (ready (length text + 1) (length text) t.ready)
      (omega (arith, length-append text (10 ∷ []))) (omega arith);
}

pub OnLineFault-weaker : (P Q : ObjFault → Type 0) → ((f : ObjFault) → P f → Q f) → (fault : ObjFault) →
    OnLineFault P fault → OnLineFault Q fault
OnLineFault-weaker P Q weaker (Line line why) holds = weaker _ holds
OnLineFault-weaker P Q weaker TooMany holds = weaker _ holds
OnLineFault-weaker P Q weaker TooLong holds = holds
OnLineFault-weaker P Q weaker Empty holds = holds
OnLineFault-weaker P Q weaker Read holds = holds
OnLineFault-weaker P Q weaker Memory holds = holds

-- what the end of a line came to, where its answer is handed on
abbrev pub EndsLine : ObjScanner → ObjScanner → Result (Unit {0}) ObjFault → Type 0
EndsLine old new result =
    ((scale : ℕ) (mesh_so_far : MeshSoFar) (line : ℕ) (begun : List ℕ) →
    LineRead old.state old.builder old.word.items scale mesh_so_far line begun →
    MatchResult result (λ _. LineJudged new.builder scale mesh_so_far line (words_of begun))
    (OnLineFault (λ fault. with_line scale mesh_so_far line (words_of begun) ≡ Err fault)))
    × OnOk result ((line corners : ℕ) → IsReady old.builder line corners → IsReady new.builder (line + 1) 0)
    × OnOk result (new.word.items ≡ [])
    × OnOk result (new.state ≡ First)

pub taken_feed : (old new : ObjScanner) (result : Result (Unit {0}) ObjFault) → EndsLine old new result →
    OnOk result ((scale : ℕ) (text : List ℕ) → HasTaken old scale text → HasTaken new scale (text ++ 10 ∷ []))
taken_feed old new (Ok done) ends = λ scale text t.
    HasTaken-feed old new scale text t (ends.0 scale t.mesh_so_far t.line t.begun t.words) ends.1 ends.2 ends.3
taken_feed old new (Err fault) ends = tt

pub refused_feed : (old new : ObjScanner) (result : Result (Unit {0}) ObjFault) → EndsLine old new result →
    IfErr result (λ fault. (scale : ℕ) (text : List ℕ) → HasTaken old scale text →
    OnLineFault (IsFirstFault scale (text ++ 10 ∷ [])) fault)
refused_feed old new (Ok done) ends = tt
refused_feed old new (Err fault) ends = λ scale text t.
    OnLineFault-weaker (λ f. with_line scale t.mesh_so_far t.line (words_of t.begun) ≡ Err f)
    (IsFirstFault scale (text ++ 10 ∷ []))
    (λ f judged. IsFirstFault-feed scale text t.mesh_so_far t.line t.begun f t.lines judged) fault
    (ends.0 scale t.mesh_so_far t.line t.begun t.words)

-- bytes among which no word ends
no_end : (span : List ℕ) → All (λ b. ends_word b ≡ false) span → IsInside span × IsOneLine span
no_end span none = (
  λ k d h. or-left _ _ (none k d h),
  λ k d h. or-right (parts_words (get_or span k d)) _ (none k d h),
)

part_ends : (part : ScanState) (span : List ℕ) → part ≢ Skipping → All (λ b. ends_token part b ≡ false) span →
    All (λ b. ends_word b ≡ false) span
part_ends First span not_passed none = none
part_ends Later span not_passed none = none
part_ends Skipping span not_passed none = absurd (not_passed refl)

IsReady-span : (builder : MeshBuilder) (text span : List ℕ) → IsReady builder (length text + 1) (length text) →
    IsReady builder (length (text ++ span) + 1) (length (text ++ span))
IsReady-span builder text span ready =
    IsReady-more builder _ _ _ _ ready (omega (arith, length-append text span)) (omega (arith, length-append text span))

-- bytes of the open word
pub HasTaken-span : (old new : ObjScanner) (span : List ℕ) → old.state ≢ Skipping → new.state ≡ old.state →
    new.builder ≡ old.builder → new.word.items ≡ old.word.items ++ span → (scale : ℕ) (text : List ℕ) →
    HasTaken old scale text → All (λ b. ends_token old.state b ≡ false) span → HasTaken new scale (text ++ span)
HasTaken-span old new span not_passed part builder word scale text t none =
    let inner = no_end span (part_ends old.state span not_passed none) in record {
      mesh_so_far = t.mesh_so_far;
      line = t.line;
      begun = t.begun ++ span;
      lines = LinesRead-span scale text t.mesh_so_far t.line t.begun span t.lines inner.1;
      words =
          rw (word, part, builder) (LineRead-span old.state old.builder scale t.mesh_so_far t.line t.begun
          old.word.items span not_passed t.words inner.0);
      ready = rw builder (IsReady-span old.builder text span t.ready);
    }

-- bytes of a line that is passed over
pub HasTaken-passed : (old : ObjScanner) (span : List ℕ) → old.state ≡ Skipping → (scale : ℕ) (text : List ℕ) →
    HasTaken old scale text → All (λ b. ends_token old.state b ≡ false) span → HasTaken old scale (text ++ span)
HasTaken-passed old span passed scale text t none = record {
  mesh_so_far = t.mesh_so_far;
  line = t.line;
  begun = t.begun ++ span;
  lines =
      LinesRead-span scale text t.mesh_so_far t.line t.begun span t.lines
      (subst (λ (p : ScanState). All (λ b. ends_token p b ≡ false) span) passed none);
  words =
      subst (λ (p : ScanState). LineRead p old.builder old.word.items scale t.mesh_so_far t.line (t.begun ++ span))
      (sym passed)
      (LineRead-passed old.builder scale t.mesh_so_far t.line t.begun old.word.items span
      (subst (λ (p : ScanState). LineRead p old.builder old.word.items scale t.mesh_so_far t.line t.begun) passed
      t.words));
  ready = IsReady-span old.builder text span t.ready;
}

-- a first word that is too long
pub HasTaken-long : (old new : ObjScanner) (span : List ℕ) → old.state ≡ First →
    3 ≤ length old.word.items + length span →
    ((scale : ℕ) (mesh_so_far : MeshSoFar) (line : ℕ) (first : List ℕ) (more : List (List ℕ)) →
    StandsOn old.builder scale mesh_so_far line [] → 2 ≤ length first →
    StandsOn new.builder scale mesh_so_far line (first ∷ more)) →
    ((line corners : ℕ) → IsReady old.builder line corners → IsReady new.builder line corners) → new.word.items ≡ [] →
    new.state ≡ Skipping → (scale : ℕ) (text : List ℕ) → HasTaken old scale text →
    All (λ b. ends_token old.state b ≡ false) span → HasTaken new scale (text ++ span)
HasTaken-long old new span first long stands ready word part scale text t none =
    let inner = no_end span (subst (λ (p : ScanState). All (λ b. ends_token p b ≡ false) span) first none) in
    let read =
    subst (λ (p : ScanState). LineRead p old.builder old.word.items scale t.mesh_so_far t.line t.begun) first
    t.words in record {
      mesh_so_far = t.mesh_so_far;
      line = t.line;
      begun = t.begun ++ span;
      lines = LinesRead-span scale text t.mesh_so_far t.line t.begun span t.lines inner.1;
      words =
          rw (word, part) (LineRead-long old.builder new.builder scale t.mesh_so_far t.line t.begun old.word.items span
          long read inner.0 (λ first more two. stands scale t.mesh_so_far t.line first more read.0 two));
      ready = IsReady-span new.builder text span (ready (length text + 1) (length text) t.ready);
    }

-- what the text came to, where its last line has no LF
pub mesh_at_end : (scanner : ObjScanner) (builder : MeshBuilder) (scale : ℕ) (text : List ℕ) →
    (t : HasTaken scanner scale text) → length text ≤ MAX_OBJ_BYTES →
    LineJudged builder scale t.mesh_so_far t.line (words_of t.begun) → mesh scale text ≡ some_triangles (so_far builder)
mesh_at_end scanner builder scale text t short judged =
    mesh-last scale text t.mesh_so_far t.line t.begun short t.lines
    ∙ ap (λ r. (r >>= (λ more. Ok more)) >>= some_triangles) judged.judged

refused_end : (scale : ℕ) (text : List ℕ) (fault : ObjFault) → OnLineFault (λ f. mesh scale text ≡ Err f) fault →
    RefusedAtEnd scale text fault
refused_end scale text (Line line why) holds = holds
refused_end scale text TooMany holds = holds
refused_end scale text TooLong holds = holds
refused_end scale text Empty holds = absurd holds
refused_end scale text Read holds = holds
refused_end scale text Memory holds = holds

pub refused_at_end : (scanner : ObjScanner) (scale : ℕ) (text : List ℕ) (fault : ObjFault) →
    (t : HasTaken scanner scale text) → length text ≤ MAX_OBJ_BYTES →
    OnLineFault (λ f. with_line scale t.mesh_so_far t.line (words_of t.begun) ≡ Err f) fault →
    RefusedAtEnd scale text fault
refused_at_end scanner scale text fault t short refused =
    refused_end scale text fault (OnLineFault-weaker
    (λ f. with_line scale t.mesh_so_far t.line (words_of t.begun) ≡ Err f) (λ f. mesh scale text ≡ Err f)
    (λ f judged. mesh-last scale text t.mesh_so_far t.line t.begun short t.lines ∙
    ap (λ r. (r >>= (λ more. Ok more)) >>= some_triangles) judged) fault refused)

pub empty_at_end : (mesh_so_far : MeshSoFar) → length mesh_so_far.triangles ≡ 0 → some_triangles mesh_so_far ≡ Err Empty
empty_at_end mesh_so_far none = let e : eqb (length mesh_so_far.triangles) 0 ≡ true = grind (arith, nat_tests) in rw e

pub some_at_end : (mesh_so_far : MeshSoFar) → 1 ≤ length mesh_so_far.triangles →
    some_triangles mesh_so_far ≡ Ok mesh_so_far.triangles
some_at_end mesh_so_far some = let e : eqb (length mesh_so_far.triangles) 0 ≡ false = grind (arith, nat_tests) in rw e
