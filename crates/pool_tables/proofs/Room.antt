-- A push into a vector with room succeeds.
use Rattle.std.proofs.Common.{◌≡◌, ℕ, ◌+◌, ◌≤◌, List, [], ◌∷◌, ◌++◌, Result, Ok, Err, cond, refl, arith}
use Rattle.std.specs.Result.{OnErr, is_ok}

pub push-room : {X T E : Type 0} (r : Result T E) (old : List X) (x : X) (len capacity : ℕ)
    → OnErr r (capacity ≤ len) → len + 1 ≤ capacity → cond (is_ok r) (old ++ x ∷ []) old ≡ old ++ x ∷ []
push-room (Ok done) old x len capacity full room = refl
push-room (Err error) old x len capacity full room = absurd (omega (arith, full, room))
