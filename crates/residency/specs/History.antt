-- What a contract sees of a pool: the layout, the journal, and for how many entries it has room in any case.
use Rattle.std.specs.Prelude.{◌+◌, ◌-◌, ℕ, Bool, true, false, List, [], ◌∷◌, ◌++◌}
use Rattle.journal.specs.declared.entries.Entry.{Entry}
use Rattle.journal.specs.declared.entries.What.{What}
use Rattle.journal.specs.declared.entries.What.TheVariants.{Unpin, Install, Fail, Spoil, Starve, Stop}
use Rattle.journal.specs.declared.layouts.Layout.{Layout}

pub record History : Type 0 where
  pub layout : Layout
  pub journal : List Entry
  -- how many entries of the kinds that need no memory can be entered without a failure
  pub spare : ℕ

-- a pool that has no entry; it has room for a Stop
abbrev pub begun : Layout → History
begun layout = record { layout = layout; journal = []; spare = 1 }

abbrev pub replayed : Layout → List Entry → History
replayed layout journal = record { layout = layout; journal = journal; spare = 0 }

-- the pool with one entry more
abbrev pub entered : History → Entry → History
entered pool entry = record pool { journal = pool.journal ++ entry ∷ [] }

-- the pool with one entry more, in the room that was spare
abbrev pub entered_in_spare : History → Entry → History
entered_in_spare pool entry = record pool { journal = pool.journal ++ entry ∷ []; spare = pool.spare - 1 }

abbrev pub with_spare : ℕ → History → History
with_spare more pool = record pool { spare = pool.spare + more }

-- whether an event of this kind needs no memory but its place in the journal
abbrev pub needs_no_memory : What → Bool
needs_no_memory (Unpin frame) = true
needs_no_memory (Install page digest) = true
needs_no_memory (Fail page before after) = true
needs_no_memory (Spoil page why) = true
needs_no_memory (Starve page) = true
needs_no_memory Stop = true
needs_no_memory _ = false
