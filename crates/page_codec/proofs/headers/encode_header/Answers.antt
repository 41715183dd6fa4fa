use Rattle.std.proofs.Common.{◌≡◌, ℕ, length, replicate, refl, ap, ◌∙◌}
use Rattle.dag_core.specs.declared.counts.Counts.{Counts}
use Rattle.page_codec.specs.Numbers.{numbers_bytes}
use Rattle.page_codec.specs.Spelling.{counts_bytes}
use Rattle.page_codec.proofs.Seams.{header-joined}
use Rattle.page_codec.proofs.headers.encode_header.Goals as goal

length-counts_bytes : (version : ℕ) (counts : Counts) → length (counts_bytes version counts) ≡ 24
unfolding counts_bytes numbers_bytes
length-counts_bytes version counts = refl

pub returns : goal.returns
returns c =
    let front : length c.copy_from_slice.new.self ≡ 8 = ap length c.copy_from_slice.ensures.after in
    let counts : length c.copy_from_slice-2.new.self ≡ 24 =
    ap length (c.copy_from_slice-2.ensures.after ∙ c.counts_record.ensures.spelling) ∙ length-counts_bytes _ _ in
    record {
      header =
          header-joined c.copy_from_slice.new.self (replicate 24 0)
          (replicate 32 0) c.copy_from_slice-2.new.self c.copy_from_slice-3.new.self front refl refl counts
          ∙ rw (
            c.copy_from_slice.ensures.after,
            c.copy_from_slice-2.ensures.after,
            c.copy_from_slice-3.ensures.after,
            c.counts_record.ensures.spelling,
          ) refl;
    }
