-- Division rounded down.
use Rattle.std.specs.Prelude.{ℤ, pos, negsuc, suc, neg_ℤ}
use Rattle.std.specs.Int.{int_div_euclid}

-- the greatest whole number that is not above n / d; d isn't 0
abbrev pub floor_div : ℤ → ℤ → ℤ
floor_div n (pos d) = int_div_euclid n (pos d)
floor_div n (negsuc d) = int_div_euclid (neg_ℤ n) (pos (suc d))
