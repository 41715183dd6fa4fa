-- The sizes of powers of ten.
use Rattle.std.proofs.Common.{ℕ, ◌^◌, ◌≤◌, arith}
use Rattle.std.proofs.Math.Nat.{pow-le-pow_right}

pub power_small : (k most : ℕ) → k ≤ most → 10 ^ k ≤ 10 ^ most
power_small k most h = pow-le-pow_right {n = 10} (omega arith) {i = k} {j = most} h

pub power_some : (k : ℕ) → 1 ≤ 10 ^ k
power_some k = power_small 0 k (omega arith)
