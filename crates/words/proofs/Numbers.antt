-- Numbers of at most eight digits.
use Rattle.std.proofs.Common.{ℕ, ◌^◌, ◌≤◌, arith}
use native.Mathlib.Nat.{pow-le-pow_right}

pub eight_digits_fit : (i : ℕ) → i ≤ 8 → 10 ^ i ≤ 100000000
eight_digits_fit i few = pow-le-pow_right {n = 10} (omega arith) few
