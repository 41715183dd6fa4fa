-- A live frame: it has a Pin and no Unpin.
use Rattle.std.specs.Prelude.{ℕ, Bool, List}

pub record Frame : Type 0 where
  -- the frame's number
  pub number : ℕ
  -- the maker that pinned it
  pub owner : ℕ
  -- by page: whether the frame pins it
  pub pins : List Bool
