-- Links, lists and what is left of them, at numbers.
use Rattle.std.proofs.Common.{◌≡◌, [], ◌∷◌, refl}
use Rattle.pool_tables.specs.ListedPages.{without, no_pages}
use Rattle.pool_tables.specs.Internal.Links.{AreLinked, pages_after}

pub without-one : without 4 (7 ∷ 4 ∷ 2 ∷ []) ≡ 7 ∷ 2 ∷ []
without-one = refl

pub without-none : without 5 (7 ∷ 4 ∷ []) ≡ 7 ∷ 4 ∷ []
without-none = refl

pub no_pages-capacity : (no_pages 3).capacity ≡ 3
no_pages-capacity = refl

-- the links of the list 1, 0, with 2 as the end
pub found : pages_after (2 ∷ 0 ∷ 1 ∷ []) 2 2 2 ≡ 1 ∷ 0 ∷ []
found = refl

-- at most as many pages as are asked for
pub found-few : pages_after (2 ∷ 0 ∷ 1 ∷ []) 2 1 2 ≡ 1 ∷ []
found-few = refl

-- the pages after one that is not the end
pub found-rest : pages_after (2 ∷ 0 ∷ 1 ∷ []) 2 2 1 ≡ 0 ∷ []
found-rest = refl

pub linked : AreLinked (2 ∷ 0 ∷ 1 ∷ []) (1 ∷ 2 ∷ 0 ∷ []) 2 (1 ∷ 0 ∷ []) 2
linked = ((refl, refl), ((refl, refl), (refl, refl)))
