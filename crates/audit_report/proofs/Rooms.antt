-- The longest line of a tally fits into 160 bytes.
use Rattle.std.proofs.Common.{ℕ, ◌^◌, ◌<◌, ◌≤◌, decimal, length, arith}
use Rattle.std.proofs.lemmas.Fmt.{length-decimal-le_wide}

pub pid_digits : (n : ℕ) → n < 2 ^ 32 → length (decimal n) ≤ 10
pid_digits n fits = length-decimal-le_wide 10 n (omega arith) (omega (arith, fits)) (omega (arith, fits))

pub picks_digits : (n : ℕ) → n < 2 ^ 64 → length (decimal n) ≤ 20
picks_digits n fits = length-decimal-le_wide 20 n (omega arith) (omega (arith, fits)) (omega (arith, fits))

pub sum_digits : (n : ℕ) → n < 2 ^ 128 → length (decimal n) ≤ 39
sum_digits n fits = length-decimal-le_wide 39 n (omega arith) (omega (arith, fits)) (omega (arith, fits))
