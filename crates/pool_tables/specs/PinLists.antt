-- The pages that a frame pins explicitly, and not by a snapshot.
use Rattle.std.specs.Prelude.{◌==◌, ◌||◌, ◌++◌, ℕ, Bool, false, List, [], ◌∷◌, length, replicate, if◌then◌else◌}

pub record PinLists : Type 0 where
  -- the pages of the frame's last Settle or Narrow, ascending; none after a Pin
  pub named : List ℕ
  -- the missing pages of its last Settle, ascending
  pub missing : List ℕ
  -- for each missing page: whether the frame pins it, since it was installed while the frame waited for it
  pub flags : List Bool

abbrev pub no_pins : PinLists
no_pins = record { named = []; missing = []; flags = [] }

-- the missing pages with a flag
abbrev pub flagged : List ℕ → List Bool → List ℕ
flagged [] flags = []
flagged (page ∷ pages) [] = []
flagged (page ∷ pages) (flag ∷ flags) = if flag then (page ∷ flagged pages flags) else flagged pages flags

-- all pages that the frame pins explicitly
abbrev pub pinned_pages : PinLists → List ℕ
pinned_pages pins = pins.named ++ flagged pins.missing pins.flags

-- after a Settle: no missing page has a flag
abbrev pub settled_pins : List ℕ → List ℕ → PinLists
settled_pins pages missing = record { named = pages; missing = missing; flags = replicate (length missing) false }

-- after a Narrow to these pages, or a Pin without any: the missing pages stay, and none has a flag
abbrev pub narrowed_pins : List ℕ → PinLists → PinLists
narrowed_pins pages pins =
    record { named = pages; missing = pins.missing; flags = replicate (length pins.flags) false }

-- the flags with that of this page
abbrev pub with_flag : ℕ → List ℕ → List Bool → List Bool
with_flag page [] flags = flags
with_flag page (p ∷ pages) [] = []
with_flag page (p ∷ pages) (flag ∷ flags) = ((p == page) || flag) ∷ with_flag page pages flags

-- after an Install of this page for the frame: it is pinned if it is one of the missing pages
abbrev pub installed_pins : ℕ → PinLists → PinLists
installed_pins page pins = record pins { flags = with_flag page pins.missing pins.flags }
