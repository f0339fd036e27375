-- Digits that are the bytes of a word: pairs of them are joined, and pairs of these.
use Rattle.std.proofs.Common.{◌≡◌, ℕ, ◌+◌, ◌*◌, ◌/◌, ◌%◌, ◌<◌, ◌≤◌, bit_and, refl, ap, ◌∙◌, arith}
use Rattle.std.proofs.lemmas.Nat.{and_block, and_mask}

-- a mask of one byte of each two
masked_once : (a b r : ℕ) → r < 65536 → bit_and (a * 65536 + r) (b * 65536 + 255) ≡ bit_and a b * 65536 + r % 256
masked_once a b r lt =
    let block : bit_and (a * 65536 + r) (b * 65536 + 255) ≡ bit_and a b * 65536 + bit_and r 255 =
    and_block 16 a b r 255 lt (omega arith) in
    let low : bit_and r 255 ≡ r % 256 = and_mask r 8 in
    omega (arith, block, low)

pub masked : (p q r s : ℕ) → p < 65536 → q < 65536 → r < 65536 → s < 256 →
    bit_and (((s * 65536 + r) * 65536 + q) * 65536 + p) 71777214294589695
    ≡ ((s * 65536 + r % 256) * 65536 + q % 256) * 65536 + p % 256
masked p q r s p-fits q-fits r-fits s-fits =
    let high : bit_and s 255 ≡ s = (let mask : bit_and s 255 ≡ s % 256 = and_mask s 8 in omega (arith, mask)) in
    let three : bit_and (s * 65536 + r) 16711935 ≡ bit_and s 255 * 65536 + r % 256 = masked_once s 255 r r-fits in
    let two : bit_and ((s * 65536 + r) * 65536 + q) 1095233372415 ≡ bit_and (s * 65536 + r) 16711935 * 65536 + q % 256 =
    masked_once (s * 65536 + r) 16711935 q q-fits in
    let one : bit_and (((s * 65536 + r) * 65536 + q) * 65536 + p) 71777214294589695
    ≡ bit_and ((s * 65536 + r) * 65536 + q) 1095233372415 * 65536 + p % 256 =
    masked_once ((s * 65536 + r) * 65536 + q) 1095233372415 p p-fits in
    omega (arith, high, three, two, one)

-- pairs of digits, each in two bytes of its own
pub pairs_joined : (word a b c d e f g h : ℕ) → a ≤ 9 → b ≤ 9 → c ≤ 9 → d ≤ 9 → e ≤ 9 → f ≤ 9 → g ≤ 9 → h ≤ 9
    → word ≡ a + 256 * (b + 256 * (c + 256 * (d + 256 * (e + 256 * (f + 256 * (g + 256 * h)))))) →
    bit_and (word * 2561 % 18446744073709551616 / 256) 71777214294589695
    ≡ (((10 * g + h) * 65536 + (10 * e + f)) * 65536 + (10 * c + d)) * 65536 + (10 * a + b)
pairs_joined word a b c d e f g h la lb lc ld le lf lg lh is =
    let p : ℕ = 10 * a + b + 256 * (10 * b + c) in
    let q : ℕ = 10 * c + d + 256 * (10 * d + e) in
    let r : ℕ = 10 * e + f + 256 * (10 * f + g) in
    let s : ℕ = 10 * g + h in
    let bytes : word * 2561 % 18446744073709551616 / 256 ≡ ((s * 65536 + r) * 65536 + q) * 65536 + p = omega arith in
    let mask = masked p q r s (omega arith) (omega arith) (omega arith) (omega arith) in
    let p-low : p % 256 ≡ 10 * a + b = omega arith in
    let q-low : q % 256 ≡ 10 * c + d = omega arith in
    let r-low : r % 256 ≡ 10 * e + f = omega arith in
    ap (λ n. bit_and n 71777214294589695) bytes ∙ mask ∙ rw (p-low, q-low, r-low) refl

-- fours of digits, by their pairs
pub fours_joined : (pairs p q r s : ℕ) → p ≤ 99 → q ≤ 99 → r ≤ 99 → s ≤ 99
    → pairs ≡ ((s * 65536 + r) * 65536 + q) * 65536 + p →
    bit_and (pairs * 6553601 % 18446744073709551616 / 65536) 65535 * 10000
    + pairs * 6553601 % 18446744073709551616 / 281474976710656
    ≡ 1000000 * p + 10000 * q + 100 * r + s
fours_joined pairs p q r s lp lq lr ls is =
    let fours : ℕ = pairs * 6553601 % 18446744073709551616 in
    let fields : fours ≡ (((100 * r + s) * 65536 + (100 * q + r)) * 65536 + (100 * p + q)) * 65536 + p = omega arith in
    let low : bit_and (fours / 65536) 65535 ≡ fours / 65536 % 65536 = and_mask (fours / 65536) 16 in
    let second : fours / 65536 % 65536 ≡ 100 * p + q = omega arith in
    let last : fours / 281474976710656 ≡ 100 * r + s = omega arith in
    omega (arith, low, second, last)
