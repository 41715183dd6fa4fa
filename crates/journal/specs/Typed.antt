-- The entries whose numbers are within their types.
use Rattle.std.specs.Prelude.{◌≡◌, ℕ, ◌<◌, ◌^◌, length, IfSome}
use Rattle.std.specs.List.{All}
use Rattle.geom_core.specs.declared.digests.Digest32.{Digest32}
use Rattle.journal.specs.declared.entries.Entry.{Entry}
use Rattle.journal.specs.declared.entries.Spoilt.{Spoilt}
use Rattle.journal.specs.declared.entries.Spoilt.TheVariants.{Digest, Grammar, Short}
use Rattle.journal.specs.declared.entries.What.{What}
use Rattle.journal.specs.declared.entries.What.TheVariants.{Pin, Settle, Ask, Narrow, Unpin, Take, Install, Fail, Spoil}
use Rattle.journal.specs.declared.entries.What.TheVariants.{Starve, Full, Stop}

-- a number of 32 bits
abbrev pub Is32 : ℕ → Type 0
Is32 number = number < 2 ^ 32

-- 32 bytes
abbrev pub IsDigest : Digest32 → Type 0
IsDigest digest = (length digest.bytes ≡ 32) × All (λ byte. byte < 256) digest.bytes

-- what was wrong with a page's bytes
abbrev pub IsTypedSpoilt : Spoilt → Type 0
IsTypedSpoilt (Digest stated found) = IsDigest stated × IsDigest found
IsTypedSpoilt (Grammar rule offset) = (rule < 2 ^ 8) × Is32 offset
IsTypedSpoilt (Short got) = Is32 got

-- what a maker did
abbrev pub IsTypedWhat : What → Type 0
IsTypedWhat (Pin frame) = Is32 frame
IsTypedWhat (Settle frame pages missing) = Is32 frame × All Is32 pages × All Is32 missing
IsTypedWhat (Ask frame pages) = Is32 frame × All Is32 pages
IsTypedWhat (Narrow frame pages) = Is32 frame × All Is32 pages
IsTypedWhat (Unpin frame) = Is32 frame
IsTypedWhat (Take frame page victim) = IfSome frame Is32 × Is32 page × IfSome victim Is32
IsTypedWhat (Install page digest) = Is32 page × IsDigest digest
IsTypedWhat (Fail page before after) = Is32 page × (before < 2 ^ 64) × (after < 2 ^ 64)
IsTypedWhat (Spoil page why) = Is32 page × IsTypedSpoilt why
IsTypedWhat (Starve page) = Is32 page
IsTypedWhat (Full frame) = Is32 frame
IsTypedWhat Stop = Unit {0}

-- an entry
abbrev pub IsTyped : Entry → Type 0
IsTyped entry = Is32 entry.by × IsTypedWhat entry.what
