-- Bytes that open with all their pages, and break no rule of the triangles, are the file of a sound DAG.
use Rattle.std.proofs.Common.{◌≡◌, ◌≤◌, ◌<◌, ◌+◌, ℕ, zero, suc, Bool, true, false, ltb, List, [], ◌++◌}
use Rattle.std.proofs.Common.{length, drop, flat_map, Option, Some, None, IfSome, refl, sym, ap, ◌∙◌, subst, arith, inl}
use Rattle.std.proofs.Common.{inr, cond}
use Rattle.std.proofs.lemmas.Bool.Decides.{nat_tests}
use Rattle.std.proofs.lemmas.Bool.{cases_lt, cases_eq}
use Rattle.std.proofs.Math.Nat.{eq-or-lt_of_le}
use Rattle.std.specs.List.{find, range_with_len}
use Rattle.std.specs.Option.{option_map, option_or}
use Rattle.dag_core.specs.declared.dags.Dag.{Dag}
use Rattle.dag_core.specs.Ranges.{counts_of}
use Rattle.dag_core.specs.Rules.{Checked}
use Rattle.dag_core.specs.TriangleRules.{Sound, dag_breaks, breaks_sums, breaks_source, breaks_corners}
use Rattle.dag_soundness.specs.declared.faults.RuleBreak.{RuleBreak}
use Rattle.dag_soundness.specs.FirstBreaks.{first_rule_break, first_dag_break}
use Rattle.page_codec.specs.declared.directories.Directory.{Directory}
use Rattle.page_codec.specs.declared.pages.Page.{Page}
use Rattle.page_codec.specs.Fits.{FitsDirectory}
use Rattle.page_codec.specs.Spelling.{page_at, page_bytes}
use Rattle.page_file.specs.Internal.Fronts.{front_bytes}
use Rattle.page_file.specs.Internal.Seen.{StandsAt}
use Rattle.page_file.specs.IsOpened.{ArePagesOf}
use Rattle.page_file.specs.SoundFiles.{HoldsSound, IsSoundFile}
use Rattle.page_file.specs.Verifying.{dag_on}
use Rattle.page_file.proofs.Texts.{stands-join, text_and_rest}
use Rattle.page_file.proofs.WholeFiles.{file-of-pages, is-laid-out}

-- ---- no break

-- a search of a range that finds nothing: the test holds nowhere in it
none-below : (test : ℕ → Bool) (a n i : ℕ) → find test (range_with_len a n) ≡ None → a ≤ i → i < a + n → test i ≡ false
none-below test a zero i none from below = absurd (omega arith)
none-below test a (suc n) i none from below =
    elim (test a) as (λ b. test a ≡ b →
    cond b (Some a) (find test (range_with_len (a + 1) n)) ≡ None → test i ≡ false) [
      | true ↦ λ e h. cc
      | false ↦ λ e h. elim (eq-or-lt_of_le from) [
        | inl same ↦ ap test (sym same) ∙ e
        | inr later ↦ none-below test (a + 1) n i h (omega arith) (omega arith)
      ]
    ] refl none

rule-none : (rule : ℕ) (dag : Dag) (n i : ℕ) → first_rule_break rule dag n ≡ None → i < n →
    dag_breaks rule dag i ≡ false
unfolding first_rule_break
rule-none rule dag n i none below =
    none-below (dag_breaks rule dag) 0 n i (unmapped (find (dag_breaks rule dag) (range_with_len 0 n)) none)
    (omega arith) (omega (arith, below))
  where
    unmapped : (found : Option ℕ) →
        option_map {U = RuleBreak} (λ index. record { rule = rule; index = index }) found ≡ None → found ≡ None
    unmapped None is = refl
    unmapped (Some i) is = cc

-- of three searches none found anything
all-none : (a b c : Option RuleBreak) → option_or a (option_or b c) ≡ None → (a ≡ None) × (b ≡ None) × (c ≡ None)
all-none None None None is = (refl, refl, refl)
all-none None None (Some f) is = cc
all-none None (Some f) c is = cc
all-none (Some f) b c is = cc

other-rule : (dag : Dag) (rule i : ℕ) → (rule ≡ 6 → ⊥) → (rule ≡ 7 → ⊥) → (rule ≡ 8 → ⊥) →
    dag_breaks rule dag i ≡ false
other-rule dag rule i not_6 not_7 not_8 = grind (arith, nat_tests)

sums-beyond : (dag : Dag) (i : ℕ) → length dag.heads.groups ≤ i → breaks_sums dag i ≡ false
unfolding breaks_sums
sums-beyond dag i past =
    let out : ltb i (length dag.heads.groups) ≡ false = grind (arith, nat_tests) in rw out refl

source-beyond : (dag : Dag) (i : ℕ) → dag.heads.sources ≤ i → breaks_source dag i ≡ false
unfolding breaks_source
source-beyond dag i past = let out : ltb i dag.heads.sources ≡ false = grind (arith, nat_tests) in rw out refl

corners-beyond : (dag : Dag) (i : ℕ) → length dag.heads.clusters ≤ i → breaks_corners dag i ≡ false
unfolding breaks_corners
corners-beyond dag i past =
    let out : ltb i (length dag.heads.clusters) ≡ false = grind (arith, nat_tests) in rw out refl

pub no-break : (dag : Dag) → first_dag_break dag ≡ None → (rule i : ℕ) → dag_breaks rule dag i ≡ false
unfolding first_dag_break
no-break dag none rule i =
    let three = all-none (first_rule_break 6 dag (length dag.heads.groups))
    (first_rule_break 7 dag dag.heads.sources) (first_rule_break 8 dag (length dag.heads.clusters)) none in
    elim (cases_eq rule 6) [
      | inl is_6 ↦ ap (λ (r : ℕ). dag_breaks r dag i) is_6 ∙ elim (cases_lt i (length dag.heads.groups)) [
        | inl below ↦ rule-none 6 dag (length dag.heads.groups) i three.0 below
        | inr past ↦ sums-beyond dag i past
      ]
      | inr not_6 ↦ elim (cases_eq rule 7) [
        | inl is_7 ↦ ap (λ (r : ℕ). dag_breaks r dag i) is_7 ∙ elim (cases_lt i dag.heads.sources) [
          | inl below ↦ rule-none 7 dag dag.heads.sources i three.1 below
          | inr past ↦ source-beyond dag i past
        ]
        | inr not_7 ↦ elim (cases_eq rule 8) [
          | inl is_8 ↦ ap (λ (r : ℕ). dag_breaks r dag i) is_8 ∙ elim (cases_lt i (length dag.heads.clusters)) [
            | inl below ↦ rule-none 8 dag (length dag.heads.clusters) i three.2 below
            | inr past ↦ corners-beyond dag i past
          ]
          | inr not_8 ↦ other-rule dag rule i (λ is. grind (arith, nat_tests)) (λ is. grind (arith, nat_tests))
              (λ is. grind (arith, nat_tests))
        ]
      ]
    ]

-- ---- the bytes

sound-dag : (directory : Directory) (pages : List Page) → FitsDirectory directory → Checked directory.heads →
    ArePagesOf directory directory.heads.pages pages → first_dag_break (dag_on directory.heads pages) ≡ None →
    Sound (dag_on directory.heads pages)
sound-dag directory pages fits checked are none = record {
  laid_out = is-laid-out directory pages fits checked are;
  rules = no-break (dag_on directory.heads pages) none;
}

heads-on : (directory : Directory) (pages : List Page) → (dag_on directory.heads pages).heads ≡ directory.heads
unfolding dag_on
heads-on directory pages = refl

sound-file : (directory : Directory) (pages : List Page) (bytes more : List ℕ) → FitsDirectory directory →
    Checked directory.heads → ArePagesOf directory directory.heads.pages pages →
    first_dag_break (dag_on directory.heads pages) ≡ None →
    bytes ≡ (front_bytes directory ++ flat_map page_bytes pages) ++ more →
    IsSoundFile (counts_of directory.heads) bytes
sound-file directory pages bytes more fits checked are none is = record {
  dag = dag_on directory.heads pages;
  sound = sound-dag directory pages fits checked are none;
  counted = ap counts_of (heads-on directory pages);
  more = more;
  spelt = is ∙ ap (λ (file : List ℕ). file ++ more) (file-of-pages directory pages fits are);
}

-- the told bytes are such a file; if none are told, the file itself is such bytes
pub holds-sound : (known : Option (List ℕ)) (directory : Directory) (pages : List Page) → FitsDirectory directory →
    Checked directory.heads → ArePagesOf directory directory.heads.pages pages →
    first_dag_break (dag_on directory.heads pages) ≡ None →
    length (front_bytes directory) ≡ page_at (counts_of directory.heads) 0 →
    IfSome known (StandsAt 0 (front_bytes directory)) →
    IfSome known (StandsAt (page_at (counts_of directory.heads) 0) (flat_map page_bytes pages)) →
    HoldsSound known (counts_of directory.heads)
holds-sound None directory pages fits checked are none size front rest =
    let bytes = (front_bytes directory ++ flat_map page_bytes pages) ++ [] in record {
      bytes = bytes;
      told = tt;
      file = sound-file directory pages bytes [] fits checked are none refl;
    }
holds-sound (Some bytes) directory pages fits checked are none size front rest =
    let text = front_bytes directory ++ flat_map page_bytes pages in
    let place : page_at (counts_of directory.heads) 0 ≡ 0 + length (front_bytes directory) = omega (arith, size) in
    let whole : StandsAt 0 text bytes =
    stands-join 0 (front_bytes directory) (flat_map page_bytes pages) bytes front
    (subst (λ (n : ℕ). StandsAt n (flat_map page_bytes pages) bytes) place rest) in
    record {
      bytes = bytes;
      told = refl;
      file = sound-file directory pages bytes (drop (length text) bytes) fits checked are none
          (text_and_rest 0 text bytes whole);
    }
