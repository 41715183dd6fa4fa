-- The steps of an opening: what the reads showed decides each step's answer.
use Rattle.std.proofs.Common.{◌≡◌, ℕ, zero, suc, ◌+◌, ◌*◌, ◌<◌, ◌≤◌, List, [], ◌∷◌, ◌++◌, length, drop, Option, None}
use Rattle.std.proofs.Common.{Some, IfSome, Result, Ok, Err, IfErr, refl, sym, ap, ◌∙◌, subst, arith, inl, inr}
use Rattle.std.proofs.Common.{length-append, slice_index_or, flat_map, append-nil, append_assoc}
use Rattle.std.proofs.lemmas.Bool.{cases_lt}
use Rattle.std.proofs.Math.Nat.{eq-or-lt_of_le}
use Rattle.std.proofs.lemmas.List.{get_or_append_left}
use Rattle.std.proofs.Math.Seq.{get_or-append_seam}
use Rattle.geom_core.specs.declared.limits.TheConstants.{PAGE_BYTES}
use Rattle.dag_core.specs.declared.counts.Counts.{Counts}
use Rattle.dag_core.specs.Ranges.{counts_of}
use Rattle.page_codec.specs.declared.headers.Header.{Header}
use Rattle.page_codec.specs.declared.directories.Directory.{Directory}
use Rattle.page_codec.specs.declared.pages.Page.{Page}
use Rattle.page_codec.specs.Spelling.{directory_length, page_at, page_bytes}
use Rattle.span_io.specs.Faults.{Rose}
use Rattle.page_file.specs.declared.open_faults.OpenFault.{OpenFault}
use Rattle.page_file.specs.declared.open_faults.OpenFault.TheVariants.{Magic, Version, Truncated, DirectoryDigest}
use Rattle.page_file.specs.declared.open_faults.OpenFault.TheVariants.{DirectoryBad, Rule, PageDigest, PageBad}
use Rattle.page_file.specs.declared.open_faults.OpenFault.TheVariants.{PageFault, Memory}
use Rattle.page_file.specs.declared.opened.Opened.{Opened}
use Rattle.page_file.specs.Internal.Seen.{StandsAt, EndsWithin, ReadRefused, JudgedTo, PageRefused, Decides}
use Rattle.page_file.specs.Internal.Seen.{DecidesPages, Answers, StepRefused}
use Rattle.page_file.specs.IsOpened.{IsPageOf, ArePagesOf}
use Rattle.page_file.specs.Judging.{header_judged, directory_judged, page_judged}
use Rattle.page_file.specs.Opening.{cut, followed_by, header_opened, directory_opened, page_opened, pages_opened}
use Rattle.page_file.specs.Opening.{opening}
use Rattle.page_file.specs.Refusals.{Opens, Refuses}
use Rattle.page_file.proofs.StepRefusals.{step-read, step-judged, step-page}
use Rattle.page_file.proofs.Texts.{if_both, text_and_rest, stands-from, rest-from, stands-first, stands-second}
use Rattle.page_file.proofs.Texts.{rest-join, stands-join, stands-within, reached-more, cut-text, cut-end}

-- ---- all the bytes from a place on

-- what was seen, and what follows it
pub record Whole (known : Option (List ℕ)) (at : ℕ) (seen : List ℕ) : Type 0 where
  pub more : List ℕ
  pub told : IfSome known (λ bytes. drop at bytes ≡ seen ++ more)

pub whole : (known : Option (List ℕ)) (at : ℕ) (seen : List ℕ) → IfSome known (StandsAt at seen) → Whole known at seen
whole None at seen told = record { more = []; told = tt }
whole (Some bytes) at seen told =
    record { more = drop (length seen) (drop at bytes); told = text_and_rest at seen bytes told }

pub told-none : (known : Option (List ℕ)) (at : ℕ) → IfSome known (StandsAt at [])
told-none None at = tt
told-none (Some bytes) at = refl

-- an answer that what was seen decides
pub answers-seen : {X : Type 0} (known : Option (List ℕ)) (at : ℕ) (seen : List ℕ) (step : List ℕ → Result X OpenFault)
    (found : Result X OpenFault)
    → IfSome known (StandsAt at seen) → ((bytes : List ℕ) → StandsAt at seen bytes → step bytes ≡ found) →
    Answers known at step found
answers-seen known at seen step found told answer =
    let all = whole known at seen told in record {
      rest = seen ++ all.more;
      told = all.told;
      answer = λ bytes reached is. answer bytes (stands-from at seen all.more bytes is);
    }

-- an answer that what was seen and the end after it decide
pub answers-end : {X : Type 0} (known : Option (List ℕ)) (at len count : ℕ) (seen : List ℕ)
    (step : List ℕ → Result X OpenFault)
    → IfSome known (StandsAt at seen) → (ends : EndsWithin known (at + length seen) len count)
    → ((bytes : List ℕ) → StandsAt at seen bytes → at + length seen ≤ length bytes →
    drop (at + length seen) bytes ≡ ends.rest → step bytes ≡ Err (Truncated count))
    → Answers known at step (Err (Truncated count))
answers-end known at len count seen step told ends answer = record {
  rest = seen ++ ends.rest;
  told =
      if_both known (StandsAt at seen) (λ bytes. drop (at + length seen) bytes ≡ ends.rest)
      (λ bytes. drop at bytes ≡ seen ++ ends.rest)
      (λ bytes stands is. rest-join at seen ends.rest bytes stands is) told ends.bytes;
  answer =
      λ bytes reached is. answer bytes (stands-from at seen ends.rest bytes is)
      (reached-more at seen ends.rest bytes reached is) (rest-from at seen ends.rest bytes is);
}

-- ---- the header and the directory

pub header-seen : (head bytes : List ℕ) → length head ≡ 64 → StandsAt 0 head bytes →
    header_opened bytes ≡ header_judged head
unfolding header_opened
header-seen head bytes size stands =
    ap (λ (found : Result (List ℕ) OpenFault). followed_by found header_judged)
    (cut-text 0 64 head bytes size (omega arith) stands)

header-end : (rest bytes : List ℕ) (count : ℕ) → drop 0 bytes ≡ rest → length rest < 64 → count ≡ 0 + length rest →
    directory_opened bytes ≡ Err (Truncated count)
unfolding header_opened directory_opened
header-end rest bytes count is fewer count_is = rw (cut-end 0 64 rest bytes (omega arith) is fewer, count_is) refl

pub header-unread : (known : Option (List ℕ)) (faults new_faults : ℕ) (fault : OpenFault) →
    ReadRefused known 0 64 faults new_faults fault → StepRefused known 0 directory_opened faults new_faults fault
header-unread known faults new_faults fault refused = step-read known 0 0 64 directory_opened faults new_faults fault
    (λ count ends. record {
      rest = ends.rest;
      told = ends.bytes;
      answer =
          λ bytes reached is. header-end ends.rest bytes count is ends.fewer ends.count_is;
    }) refused

pub header-refused : (known : Option (List ℕ)) (head : List ℕ) (faults new_faults : ℕ) (fault : OpenFault) →
    length head ≡ 64 → IfSome known (StandsAt 0 head)
    → JudgedTo (header_judged head) fault → StepRefused known 0 directory_opened faults new_faults fault
unfolding directory_opened
header-refused known head faults new_faults fault size told refused =
    step-judged known 0 directory_opened faults new_faults (header_judged head) fault
    (λ judged. answers-seen known 0 head directory_opened (Err fault) told
    (λ bytes stands. rw (header-seen head bytes size stands, judged) refl)) refused

-- the directory is cut once the header is known
directory-after : (header : Header) (head bytes : List ℕ) → length head ≡ 64 → header_judged head ≡ Ok header →
    StandsAt 0 head bytes
    → directory_opened bytes ≡ followed_by (cut 64 (directory_length header.counts) bytes) (directory_judged header)
unfolding directory_opened
directory-after header head bytes size judged stands = rw (header-seen head bytes size stands, judged) refl

reached-head : (head bytes : List ℕ) → length head ≡ 64 → StandsAt 0 head bytes → 64 ≤ length bytes
reached-head head bytes size stands = omega (arith, size, stands-within 0 head bytes stands (omega (arith, size)))

pub directory-unread : (known : Option (List ℕ)) (header : Header) (head : List ℕ) (faults new_faults : ℕ)
    (fault : OpenFault) → length head ≡ 64 → IfSome known (StandsAt 0 head)
    → header_judged head ≡ Ok header → ReadRefused known 64 (directory_length header.counts) faults new_faults fault →
    StepRefused known 0 directory_opened faults new_faults fault
directory-unread known header head faults new_faults fault size told judged refused =
    let place : 64 ≡ 0 + length head = omega (arith, size) in
    let len = directory_length header.counts in
    step-read known 0 64 len directory_opened faults new_faults fault
    (λ count ends.
    let more : EndsWithin known (0 + length head) len count =
    subst (λ (n : ℕ). EndsWithin known n len count) place ends in
    answers-end known 0 len count head directory_opened told more
    (λ bytes stands reached is.
    let is64 : drop 64 bytes ≡ more.rest = subst (λ (n : ℕ). drop n bytes ≡ more.rest) (sym place) is in
    directory-after header head bytes size judged stands
    ∙ ap (λ (found : Result (List ℕ) OpenFault). followed_by found (directory_judged header))
    (cut-end 64 len more.rest bytes (reached-head head bytes size stands) is64 more.fewer)
    ∙ ap (λ (n : ℕ). Err (Truncated n)) (omega (arith, more.count_is, size))))
    refused

-- what the directory's text decides
pub directory-seen : (header : Header) (head text bytes : List ℕ) → length head ≡ 64 → header_judged head ≡ Ok header →
    length text ≡ directory_length header.counts
    → StandsAt 0 (head ++ text) bytes → directory_opened bytes ≡ directory_judged header text
directory-seen header head text bytes size judged sized stands =
    let first = stands-first 0 head text bytes stands in
    let place : 0 + length head ≡ 64 = omega (arith, size) in
    let second : StandsAt 64 text bytes =
    subst (λ (n : ℕ). StandsAt n text bytes) place (stands-second 0 head text bytes stands) in
    directory-after header head bytes size judged first
    ∙ ap (λ (found : Result (List ℕ) OpenFault). followed_by found (directory_judged header))
    (cut-text 64 (directory_length header.counts) text bytes sized (reached-head head bytes size first) second)

both-told : (known : Option (List ℕ)) (head text : List ℕ) → length head ≡ 64 → IfSome known (StandsAt 0 head) →
    IfSome known (StandsAt 64 text) → IfSome known (StandsAt 0 (head ++ text))
both-told known head text size one two =
    let place : 64 ≡ 0 + length head = omega (arith, size) in
    if_both known (StandsAt 0 head) (StandsAt 64 text) (StandsAt 0 (head ++ text))
    (λ bytes first second. stands-join 0 head text bytes first (subst (λ (n : ℕ). StandsAt n text bytes) place second))
    one two

pub directory-refused : (known : Option (List ℕ)) (header : Header) (head text : List ℕ) (faults new_faults : ℕ)
    (fault : OpenFault) → length head ≡ 64 → IfSome known (StandsAt 0 head)
    → header_judged head ≡ Ok header → length text ≡ directory_length header.counts → IfSome known (StandsAt 64 text)
    → JudgedTo (directory_judged header text) fault → StepRefused known 0 directory_opened faults new_faults fault
directory-refused known header head text faults new_faults fault size told judged sized told_text refused =
    step-judged known 0 directory_opened faults new_faults (directory_judged header text) fault
    (λ found. answers-seen known 0 (head ++ text) directory_opened (Err fault)
    (both-told known head text size told told_text)
    (λ bytes stands. directory-seen header head text bytes size judged sized stands ∙ found))
    refused

pub directory-decides : (known : Option (List ℕ)) (header : Header) (head text : List ℕ) (directory : Directory) →
    length head ≡ 64 → IfSome known (StandsAt 0 head)
    → header_judged head ≡ Ok header → length text ≡ directory_length header.counts → IfSome known (StandsAt 64 text)
    → directory_judged header text ≡ Ok directory → counts_of directory.heads ≡ header.counts
    → Decides known directory_opened directory (page_at (counts_of directory.heads) 0)
directory-decides known header head text directory size told judged sized told_text found counts = record {
  seen = head ++ text;
  size =
      subst (λ (cs : Counts). length (head ++ text) ≡ page_at cs 0) (sym counts)
      (omega (arith, length-append head text, size, sized));
  told = both-told known head text size told told_text;
  answer = λ bytes stands. directory-seen header head text bytes size judged sized stands ∙ found;
}

-- ---- pages

page-place : (counts : Counts) (p : ℕ) → page_at counts p ≡ page_at counts 0 + PAGE_BYTES * p
page-place counts p = omega arith

pub page-seen : (directory : Directory) (p : ℕ) (text bytes : List ℕ) → length text ≡ PAGE_BYTES →
    StandsAt (page_at (counts_of directory.heads) p) text bytes
    → page_opened directory p bytes ≡ page_judged directory p text
unfolding page_opened
page-seen directory p text bytes size stands =
    let place = page_at (counts_of directory.heads) p in
    ap (λ (found : Result (List ℕ) OpenFault). followed_by found (page_judged directory p))
    (cut-text place PAGE_BYTES text bytes size
    (omega (arith, stands-within place text bytes stands (omega (arith, size)))) stands)

page-end : (directory : Directory) (p count : ℕ) (rest bytes : List ℕ) →
    page_at (counts_of directory.heads) p ≤ length bytes → drop (page_at (counts_of directory.heads) p) bytes ≡ rest
    → length rest < PAGE_BYTES → count ≡ page_at (counts_of directory.heads) p + length rest →
    page_opened directory p bytes ≡ Err (Truncated count)
unfolding page_opened
page-end directory p count rest bytes reached is fewer count_is =
    rw (cut-end (page_at (counts_of directory.heads) p) PAGE_BYTES rest bytes reached is fewer, count_is) refl

pub pages-next : (directory : Directory) (p : ℕ) (bytes : List ℕ) (pages : List Page) (page : Page) →
    pages_opened directory p bytes ≡ Ok pages → page_opened directory p bytes ≡ Ok page
    → pages_opened directory (suc p) bytes ≡ Ok (pages ++ page ∷ [])
pages-next directory p bytes pages page before is = rw (before, is) refl

pages-stop : (directory : Directory) (p n : ℕ) (bytes : List ℕ) (pages : List Page) (fault : OpenFault) → p < n →
    pages_opened directory p bytes ≡ Ok pages → page_opened directory p bytes ≡ Err fault
    → pages_opened directory n bytes ≡ Err fault
pages-stop directory p zero bytes pages fault below before is = absurd (omega arith)
pages-stop directory p (suc n) bytes pages fault below before is =
    let most : p ≤ n = omega arith in elim (eq-or-lt_of_le most) [
      | inl same ↦ subst (λ (k : ℕ). pages_opened directory (suc k) bytes ≡ Err fault) same (rw (before, is) refl)
      | inr later ↦ rw (pages-stop directory p n bytes pages fault later before is) refl
    ]

pub pages-none : (known : Option (List ℕ)) (directory : Directory) → DecidesPages known directory 0 []
pages-none known directory =
    record {
      seen = [];
      size = omega arith;
      told = told-none known (page_at (counts_of directory.heads) 0);
      answer =
          λ bytes stands. refl;
      spelt = refl;
    }

spelt-more : (pages : List Page) (page : Page) (seen text : List ℕ) → seen ≡ flat_map page_bytes pages →
    page_bytes page ≡ text → seen ++ text ≡ flat_map page_bytes (pages ++ page ∷ [])
spelt-more [] page seen text is spells =
    ap (λ (seen : List ℕ). seen ++ text) is ∙ sym spells ∙ sym (append-nil (page_bytes page))
spelt-more (first ∷ pages) page seen text is spells =
    ap (λ (seen : List ℕ). seen ++ text) is ∙ append_assoc (page_bytes first) (flat_map page_bytes pages) text
    ∙ ap (λ (rest : List ℕ). page_bytes first ++ rest)
    (spelt-more pages page (flat_map page_bytes pages) text refl spells)

pub pages-more : (known : Option (List ℕ)) (directory : Directory) (p : ℕ) (pages : List Page) (page : Page)
    (text : List ℕ) → DecidesPages known directory p pages → length text ≡ PAGE_BYTES
    → IfSome known (StandsAt (page_at (counts_of directory.heads) p) text) → page_judged directory p text ≡ Ok page →
    page_bytes page ≡ text → DecidesPages known directory (suc p) (pages ++ page ∷ [])
pages-more known directory p pages page text decided size told judged spells =
    let counts = counts_of directory.heads in
    let at = page_at counts 0 in
    let place : page_at counts p ≡ at + length decided.seen = omega (arith, decided.size) in record {
      seen = decided.seen ++ text;
      size = omega (arith, length-append decided.seen text, decided.size, size);
      told =
          if_both known (StandsAt at decided.seen) (StandsAt (page_at counts p) text)
          (StandsAt at (decided.seen ++ text))
          (λ bytes one two. stands-join at decided.seen text bytes one
          (subst (λ (n : ℕ). StandsAt n text bytes) place two)) decided.told told;
      answer =
          λ bytes stands. pages-next directory p bytes pages page
          (decided.answer bytes (stands-first at decided.seen text bytes stands))
          (page-seen directory p text bytes size (subst (λ (n : ℕ). StandsAt n text bytes) (sym place)
          (stands-second at decided.seen text bytes stands)) ∙ judged);
      spelt = spelt-more pages page decided.seen text decided.spelt spells;
    }

-- the told bytes are those that the pages spell
pub pages-spelt : (known : Option (List ℕ)) (directory : Directory) (n : ℕ) (pages : List Page) →
    DecidesPages known directory n pages
    → IfSome known (StandsAt (page_at (counts_of directory.heads) 0) (flat_map page_bytes pages))
pages-spelt known directory n pages decided =
    subst (λ (seen : List ℕ). IfSome known (StandsAt (page_at (counts_of directory.heads) 0) seen)) decided.spelt
    decided.told

pub pages-refused : (known : Option (List ℕ)) (directory : Directory) (p n : ℕ) (pages : List Page) (text : List ℕ)
    (faults new_faults : ℕ) (fault : OpenFault) → DecidesPages known directory p pages → p < n
    → length text ≡ PAGE_BYTES → PageRefused known (page_at (counts_of directory.heads) p)
    (page_judged directory p) text faults new_faults fault
    → StepRefused known (page_at (counts_of directory.heads) 0) (pages_opened directory n) faults new_faults fault
pages-refused known directory p n pages text faults new_faults fault decided below size refused =
    let counts = counts_of directory.heads in
    let at = page_at counts 0 in
    let place : page_at counts p ≡ at + length decided.seen = omega (arith, decided.size) in
    step-page known at (page_at counts p) (pages_opened directory n)
    (page_judged directory p) text faults new_faults fault
    (λ count ends.
    let more : EndsWithin known (at + length decided.seen) PAGE_BYTES count =
    subst (λ (k : ℕ). EndsWithin known k PAGE_BYTES count) place ends in
    answers-end known at PAGE_BYTES count decided.seen (pages_opened directory n) decided.told more
    (λ bytes stands reached is. pages-stop directory p n bytes pages (Truncated count) below
    (decided.answer bytes stands)
    (page-end directory p count more.rest bytes (omega (arith, place, reached))
    (subst (λ (k : ℕ). drop k bytes ≡ more.rest) (sym place) is) more.fewer
    (more.count_is ∙ ap (λ (k : ℕ). k + length more.rest) (sym place)))))
    (λ told judged. answers-seen known at (decided.seen ++ text) (pages_opened directory n) (Err fault)
    (if_both known (StandsAt at decided.seen) (StandsAt (page_at counts p) text) (StandsAt at (decided.seen ++ text))
    (λ bytes one two. stands-join at decided.seen text bytes one (subst (λ (k : ℕ). StandsAt k text bytes) place two))
    decided.told told)
    (λ bytes stands. pages-stop directory p n bytes pages fault below
    (decided.answer bytes (stands-first at decided.seen text bytes stands))
    (page-seen directory p text bytes size (subst (λ (k : ℕ). StandsAt k text bytes) (sym place)
    (stands-second at decided.seen text bytes stands)) ∙ judged)))
    refused

pub pages-decided : (known : Option (List ℕ)) (directory : Directory) (n : ℕ) (pages : List Page) →
    DecidesPages known directory n pages
    → Answers known (page_at (counts_of directory.heads) 0) (pages_opened directory n) (Ok pages)
pages-decided known directory n pages decided =
    answers-seen known (page_at (counts_of directory.heads) 0) decided.seen (pages_opened directory n)
    (Ok pages) decided.told decided.answer

-- ---- the whole opening

pub opening-stops : (known : Option (List ℕ)) (which : Counts → ℕ) (fault : OpenFault) →
    Answers known 0 directory_opened (Err fault) → Opens which known (Err fault)
unfolding opening
opening-stops known which fault answers = record {
  bytes = answers.rest;
  told = answers.told;
  answer = rw (answers.answer answers.rest (omega arith) refl) refl;
}

pub opening-goes-on : (known : Option (List ℕ)) (which : Counts → ℕ) (directory : Directory)
    (found : Result (List Page) OpenFault)
    → Decides known directory_opened directory (page_at (counts_of directory.heads) 0)
    → Answers known (page_at (counts_of directory.heads) 0)
    (pages_opened directory (which (counts_of directory.heads))) found
    → Opens which known (followed_by found (λ pages. Ok (record { directory = directory; roots = pages })))
unfolding opening
opening-goes-on known which directory found decides answers =
    let bytes = decides.seen ++ answers.rest in
    let at = page_at (counts_of directory.heads) 0 in
    let stands : StandsAt 0 decides.seen bytes = stands-from 0 decides.seen answers.rest bytes refl in
    let place : 0 + length decides.seen ≡ at = omega (arith, decides.size) in
    let is : drop at bytes ≡ answers.rest =
    subst (λ (n : ℕ). drop n bytes ≡ answers.rest) place (rest-from 0 decides.seen answers.rest bytes refl) in
    record {
      bytes = bytes;
      told = if_both known (StandsAt 0 decides.seen) (λ told. drop at told ≡ answers.rest) (λ told. told ≡ bytes)
          (λ told one two. rest-join 0 decides.seen answers.rest told one
          (subst (λ (n : ℕ). drop n told ≡ answers.rest) (sym place) two)) decides.told answers.told;
      answer =
          rw (
            decides.answer bytes stands,
            answers.answer bytes
                (omega (arith, length-append decides.seen answers.rest, decides.size)) is,
          ) refl;
    }

-- ---- the pages that were opened

last-of : (xs : List Page) (x : Page) (i : ℕ) (d : Page) → length xs ≡ i → slice_index_or (xs ++ x ∷ []) i d ≡ x
last-of xs x i d is = subst (λ (i : ℕ). slice_index_or (xs ++ x ∷ []) i d ≡ x) is (get_or-append_seam xs x [] d)

pub pages-checked : (directory : Directory) (p : ℕ) (pages : List Page) (page : Page) → ArePagesOf directory p pages →
    IsPageOf directory p page → ArePagesOf directory (suc p) (pages ++ page ∷ [])
pages-checked directory p pages page so_far next = record {
  count = omega (arith, length-append pages (page ∷ []), so_far.count);
  each = λ q none below. elim (cases_lt q p) [
    | inl earlier ↦ subst (λ (found : Page). IsPageOf directory q found)
        (sym (get_or_append_left pages (page ∷ []) none q (omega (arith, so_far.count)))) (so_far.each q none earlier)
    | inr late ↦
        let same : q ≡ p = omega (arith, late, below) in
        let here : length pages ≡ q = omega (arith, so_far.count, same) in
        subst (λ (found : Page). IsPageOf directory q found) (sym (last-of pages page q none here))
        (subst (λ (k : ℕ). IsPageOf directory k page) (sym same) next)
  ];
}

-- ---- completeness

never : {which : Counts → ℕ} (known : Option (List ℕ)) (bytes : List ℕ) (opened : Opened) (fault : OpenFault) →
    known ≡ Some bytes → opening which bytes ≡ Ok opened → Opens which known (Err fault) → ⊥
never {which = which} known bytes opened fault told is opens =
    let same : bytes ≡ opens.bytes =
    subst (λ (known : Option (List ℕ)). IfSome known (λ told. told ≡ opens.bytes)) told opens.told in
    let other : opening which bytes ≡ Err fault = ap (opening which) same ∙ opens.answer in
    let differ : Ok opened ≡ Err fault = sym is ∙ other in
    cc

pub complete-from : (which : Counts → ℕ) (r : Result Opened OpenFault) (known : Option (List ℕ)) (faults new_faults : ℕ)
    (bytes : List ℕ) (opened : Opened) → known ≡ Some bytes
    → opening which bytes ≡ Ok opened → (Rose faults new_faults → ⊥) → IfErr r (Refuses which known faults new_faults) →
    IfErr r (λ fault. fault ≡ Memory)
complete-from which (Ok found) known faults new_faults bytes opened told is quiet refused = tt
complete-from which (Err (Magic found)) known faults new_faults bytes opened told is quiet refused =
    absurd (never known bytes opened (Magic found) told is refused)
complete-from which (Err (Version found)) known faults new_faults bytes opened told is quiet refused =
    absurd (never known bytes opened (Version found) told is refused)
complete-from which (Err (Truncated count)) known faults new_faults bytes opened told is quiet refused =
    absurd (never known bytes opened (Truncated count) told is refused)
complete-from which (Err (DirectoryDigest stated found)) known faults new_faults bytes opened told is quiet refused =
    absurd (never known bytes opened (DirectoryDigest stated found) told is refused)
complete-from which (Err (DirectoryBad rule offset)) known faults new_faults bytes opened told is quiet refused =
    absurd (never known bytes opened (DirectoryBad rule offset) told is refused)
complete-from which (Err (Rule number index)) known faults new_faults bytes opened told is quiet refused =
    absurd (never known bytes opened (Rule number index) told is refused)
complete-from which (Err (PageDigest page stated found)) known faults new_faults bytes opened told is quiet refused =
    absurd (never known bytes opened (PageDigest page stated found) told is refused)
complete-from which (Err (PageBad page rule offset)) known faults new_faults bytes opened told is quiet refused =
    absurd (never known bytes opened (PageBad page rule offset) told is refused)
complete-from which (Err PageFault) known faults new_faults bytes opened told is quiet refused = absurd (quiet refused)
complete-from which (Err Memory) known faults new_faults bytes opened told is quiet refused = refl
