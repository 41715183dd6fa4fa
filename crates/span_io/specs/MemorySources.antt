-- A source in memory, and what a read of it comes to.
use Rattle.std.specs.Prelude.{ℕ, List, length, drop, min, if◌then◌else◌, ◌==◌}
use Rattle.span_io.specs.declared.sources.Got.{Got}
use Rattle.span_io.specs.declared.sources.Got.TheVariants.{Bytes, End, Failed}
use Rattle.span_io.specs.Plans.{Plan, next_fails, called}

-- the bytes left, the most that one read gives, and which reads fail
pub record SourceState : Type 0 where
  pub left : List ℕ
  pub most : ℕ
  pub plan : Plan

-- how many bytes a read into a buffer of this length gives, if it doesn't fail
abbrev pub read_count : SourceState → ℕ → ℕ
read_count source room = min (min room source.most) (length source.left)

-- a read fails exactly where the plan says so, and comes to the end exactly where no byte is left
abbrev pub read_answer : SourceState → ℕ → Got
read_answer source room =
    if next_fails source.plan then Failed
    else (if length source.left == 0 then End else Bytes (read_count source room))

-- a read that fails leaves the bytes, and any other takes those that it gives
abbrev pub after_read : SourceState → ℕ → SourceState
after_read source room = record source {
  left = if next_fails source.plan then source.left else drop (read_count source room) source.left;
  plan = called source.plan (next_fails source.plan);
}
