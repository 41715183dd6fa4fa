-- A page source in memory, and what a read of it comes to.
use Rattle.std.specs.Prelude.{ℕ, List, length, drop, nat_le, if◌then◌else◌}
use Rattle.page_sources.specs.declared.page_sources.PageGot.{PageGot}
use Rattle.page_sources.specs.declared.page_sources.PageGot.TheVariants.{All, Short, Failed}
use Rattle.span_io.specs.Plans.{Plan, next_fails, called}

-- the bytes, and which reads fail
pub record MemoryState : Type 0 where
  pub bytes : List ℕ
  pub plan : Plan

-- the answer to a read of `wanted` bytes that doesn't fail, where `left` bytes stand from its place on
abbrev pub got_of : ℕ → ℕ → PageGot
got_of left wanted = if nat_le wanted left then All else Short left

-- a read fails exactly if the plan says so
abbrev pub memory_answer : MemoryState → ℕ → ℕ → PageGot
memory_answer source at wanted =
    if next_fails source.plan then Failed else got_of (length (drop at source.bytes)) wanted

-- a read changes the plan alone
abbrev pub after_read : MemoryState → MemoryState
after_read source = record source { plan = called source.plan (next_fails source.plan) }
