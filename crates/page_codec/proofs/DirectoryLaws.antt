-- A directory without a break is what the directory that it reads as spells.
use Rattle.std.proofs.Common.{◌≡◌, ℕ, zero, suc, ◌+◌, ◌*◌, Bool, true, false, cond, eqb, leb, Some, None, List, []}
use Rattle.std.proofs.Common.{◌++◌, length, get_or, take, drop, refl, sym, ap, ◌∙◌, arith}
use Rattle.std.specs.List.{flat_map}
use Rattle.std.specs.Int.{w32}
use Rattle.std.proofs.lemmas.Bool.Decides.{nat_tests}
use Rattle.std.proofs.lemmas.Int.{of_z-to_z}
use Rattle.std.proofs.lemmas.List.{take_all, length-drop}
use Rattle.std.proofs.Math.Seq.{take-add}
use Rattle.dag_core.specs.declared.counts.Counts.{Counts}
use Rattle.dag_core.specs.Ranges.{is_error, is_group_box, is_page, are_members}
use Rattle.page_codec.specs.Numbers.{numbers_of, numbers_bytes, records, IsBytes}
use Rattle.page_codec.specs.Records.{terminal_number, maker_number, group_numbers, group_from, group_bytes, group_of}
use Rattle.page_codec.specs.Records.{head_numbers, head_from, head_bytes, head_of}
use Rattle.page_codec.specs.Breaks.{unless, breaks_in, group_rules, head_rules, directory_breaks, first_directory_break}
use Rattle.page_codec.specs.Reading.{digest_of, directory_of}
use Rattle.page_codec.specs.Spelling.{digest_bytes, directory_bytes, directory_length}
use Rattle.page_codec.proofs.NumberLaws.{numbers_bytes-read}
use Rattle.page_codec.proofs.RecordLaws.{IsBytes-drop, spelt-records, nil-left, nil-right}
use Rattle.page_codec.proofs.RecordLists.{none-first}
use Rattle.page_codec.proofs.TriangleLaws.{Are32, listed, length-numbers, numbers-small}

-- a rule that isn't broken holds
pub kept-unless : (b : Bool) (rule : ℕ) → unless b rule ≡ [] → b ≡ true
kept-unless true rule none = refl
kept-unless false rule none = cc

terminal-read : (n : ℕ) → leb n 1 ≡ true → terminal_number (eqb n 1) ≡ n
terminal-read zero small = refl
terminal-read (suc zero) small = refl
terminal-read (suc (suc n)) small = absurd (grind (arith, nat_tests))

maker-read : (n : ℕ) (t : Bool) → eqb n 4294967295 ≡ t → maker_number (cond t None (Some n)) ≡ n
maker-read n true test = grind (arith, nat_tests)
maker-read n false test = refl

-- rule 2 of a group
terminal-kept : (counts : Counts) (ns : List ℕ) → group_rules counts ns ≡ [] → leb (get_or ns 1 0) 1 ≡ true
unfolding group_rules
terminal-kept counts ns none =
    let one = unless (is_error (group_from ns).error) 1 in
    let two = unless (leb (get_or ns 1 0) 1) 2 in
    let three = unless (is_group_box (group_from ns).cube) 3 in
    let four = unless (is_page counts (group_from ns).page) 4 in
    let five = unless (are_members counts (group_from ns).first (group_from ns).count) 5 in
    kept-unless (leb (get_or ns 1 0) 1) 2 (nil-right one two
    (nil-left (one ++ two) three (nil-left ((one ++ two) ++ three) four
    (nil-left (((one ++ two) ++ three) ++ four) five none))))

group_numbers-read : (ns : List ℕ) → length ns ≡ 11 → Are32 ns → leb (get_or ns 1 0) 1 ≡ true →
    group_numbers (group_from ns) ≡ ns
unfolding group_numbers group_from
group_numbers-read ns len small terminal =
    rw (
      terminal-read (get_or ns 1 0) terminal,
      of_z-to_z w32 (get_or ns 2 0) (small 2),
      of_z-to_z w32 (get_or ns 3 0) (small 3),
      of_z-to_z w32 (get_or ns 4 0) (small 4),
      of_z-to_z w32 (get_or ns 5 0) (small 5),
      of_z-to_z w32 (get_or ns 6 0) (small 6),
      of_z-to_z w32 (get_or ns 7 0) (small 7),
    )
    (listed 11 ns len)

head_numbers-read : (ns : List ℕ) → length ns ≡ 2 → head_numbers (head_from ns) ≡ ns
unfolding head_numbers head_from
head_numbers-read ns len = rw (maker-read (get_or ns 0 0) (eqb (get_or ns 0 0) 4294967295) refl) (listed 2 ns len)

-- a group's record that keeps its rules is that of the group that it reads as
pub group_bytes-read : (counts : Counts) (b : List ℕ) → length b ≡ 44 → IsBytes b →
    group_rules counts (numbers_of 11 b) ≡ [] → group_bytes (group_of b) ≡ b
group_bytes-read counts b len are none =
    ap numbers_bytes (group_numbers-read (numbers_of 11 b) (length-numbers 11 b) (numbers-small 11 b are)
    (terminal-kept counts (numbers_of 11 b) none))
    ∙ numbers_bytes-read 11 b (omega arith) are

-- a cluster's record is that of the cluster that it reads as
pub head_bytes-read : (b : List ℕ) → length b ≡ 8 → IsBytes b → head_bytes (head_of b) ≡ b
head_bytes-read b len are =
    ap numbers_bytes (head_numbers-read (numbers_of 2 b) (length-numbers 2 b)) ∙
    numbers_bytes-read 2 b (omega arith) are

no-rules : (size n offset : ℕ) (bytes : List ℕ) → breaks_in (λ b. []) size offset n bytes ≡ []
no-rules size zero offset bytes = refl
no-rules size (suc n) offset bytes = no-rules size n (offset + size) (drop size bytes)

pub directory_bytes-read : (counts : Counts) (bytes : List ℕ) → length bytes ≡ directory_length counts → IsBytes bytes
    → first_directory_break counts bytes ≡ None → directory_bytes (directory_of counts bytes) ≡ bytes
unfolding directory_bytes directory_of directory_breaks
directory_bytes-read counts bytes size are found =
    let g = 44 * counts.groups in
    let c = 8 * counts.clusters in
    let p = 32 * counts.pages in
    let groups = breaks_in (λ b. group_rules counts (numbers_of 11 b)) 44 0 counts.groups bytes in
    let heads = breaks_in (λ b. head_rules counts (head_of b)) 8 g counts.clusters (drop g bytes) in
    let none = none-first (groups ++ heads) (sym found) in
    let first : flat_map group_bytes (records group_of 44 counts.groups bytes) ≡ take g bytes =
    spelt-records group_of group_bytes 44 (λ b. group_rules counts (numbers_of 11 b))
    (λ b len are good. group_bytes-read counts b len are good)
    counts.groups 0 bytes (omega arith) are (nil-left groups heads none) in
    let second : flat_map head_bytes (records head_of 8 counts.clusters (drop g bytes)) ≡ take c (drop g bytes) =
    spelt-records head_of head_bytes 8 (λ b. head_rules counts (head_of b))
    (λ b len are good. head_bytes-read b len are)
    counts.clusters g (drop g bytes) (omega (arith, length-drop g bytes)) (IsBytes-drop g bytes are)
    (nil-right groups heads none) in
    let third : flat_map digest_bytes (records digest_of 32 counts.pages (drop (g + c) bytes)) ≡ take p
    (drop (g + c) bytes) =
    spelt-records digest_of digest_bytes 32 (λ b. []) (λ b len are good. refl)
    counts.pages 0 (drop (g + c) bytes) (omega (arith, length-drop (g + c) bytes)) (IsBytes-drop (g + c) bytes are)
    (no-rules 32 counts.pages 0 (drop (g + c) bytes)) in
    rw (first, second, third, ← take-add g c bytes, ← take-add (g + c) p bytes)
    (take_all (g + c + p) bytes (omega arith))
