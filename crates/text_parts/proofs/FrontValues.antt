-- Digits in front of a text, as bytes of a word that moves up until they are its last.
use Rattle.std.proofs.Common.{◌≡◌, ℕ, zero, suc, ◌+◌, ◌*◌, ◌-◌, ◌%◌, ◌^◌, ◌<◌, ◌≤◌, true, leb}
use Rattle.std.proofs.Common.{List, [], ◌∷◌, map, length, take, get_or, ap, arith, w8, Fits}
use Rattle.std.proofs.Common.{pow-suc}
use Rattle.std.proofs.lemmas.Bool.{and_parts, leb-true}
use Rattle.std.specs.Simd.Lanes.{number_l, Each1}
use Rattle.text_parts.specs.Numerals.{is_digit, value_of}
use Rattle.text_parts.specs.Packed.{less_zero, Joins}

-- the value of a byte that is a digit
pub record DigitByte (byte : ℕ) : Type 0 where
  pub less : (byte + 208) % 256 ≡ byte - 48
  pub nine : byte - 48 ≤ 9

pub digit_byte : (byte : ℕ) → is_digit byte ≡ true → DigitByte byte
digit_byte byte digit =
    let parts = and_parts (leb 48 byte) (leb byte 57) digit in
    let least : 48 ≤ byte = leb-true 48 byte parts.0 in
    let most : byte ≤ 57 = leb-true byte 57 parts.1 in
    record { less = omega (arith, least, most); nine = omega (arith, most) }

-- by how many digits there are in front of eight bytes
front_value : (count a b c d e f g h : ℕ) (rest : List ℕ) (value : ℕ) → 0 < count → count ≤ 8
    → ((k : ℕ) → k < count → is_digit (get_or (a ∷ b ∷ c ∷ d ∷ e ∷ f ∷ g ∷ h ∷ rest) k 0) ≡ true) →
    Joins (number_l 256 (map less_zero (a ∷ b ∷ c ∷ d ∷ e ∷ f ∷ g ∷ h ∷ [])) * 2 ^ (64 - 8 * count)
    % 18446744073709551616) value
    → value ≡ value_of (take count (a ∷ b ∷ c ∷ d ∷ e ∷ f ∷ g ∷ h ∷ rest))
front_value zero a b c d e f g h rest value some few passed joins = absurd (omega arith)
front_value (suc zero) a b c d e f g h rest value some few passed joins =
    let digit_a = digit_byte a (passed 0 (omega arith)) in
    let found = joins 0 0 0 0 0 0 0 (a - 48)
    (omega arith) (omega arith) (omega arith) (omega arith) (omega arith) (omega arith) (omega arith) digit_a.nine
    (omega (arith, digit_a.less)) in
    omega (arith, found)
front_value (suc (suc zero)) a b c d e f g h rest value some few passed joins =
    let digit_a = digit_byte a (passed 0 (omega arith)) in
    let digit_b = digit_byte b (passed 1 (omega arith)) in
    let found = joins 0 0 0 0 0 0 (a - 48) (b - 48)
    (omega arith) (omega arith) (omega arith) (omega arith) (omega arith) (omega arith) digit_a.nine digit_b.nine
    (omega (arith, digit_a.less, digit_b.less)) in
    omega (arith, found)
front_value (suc (suc (suc zero))) a b c d e f g h rest value some few passed joins =
    let digit_a = digit_byte a (passed 0 (omega arith)) in
    let digit_b = digit_byte b (passed 1 (omega arith)) in
    let digit_c = digit_byte c (passed 2 (omega arith)) in
    let found = joins 0 0 0 0 0 (a - 48) (b - 48) (c - 48)
    (omega arith) (omega arith) (omega arith) (omega arith) (omega arith) digit_a.nine digit_b.nine digit_c.nine
    (omega (arith, digit_a.less, digit_b.less, digit_c.less)) in
    omega (arith, found)
front_value (suc (suc (suc (suc zero)))) a b c d e f g h rest value some few passed joins =
    let digit_a = digit_byte a (passed 0 (omega arith)) in
    let digit_b = digit_byte b (passed 1 (omega arith)) in
    let digit_c = digit_byte c (passed 2 (omega arith)) in
    let digit_d = digit_byte d (passed 3 (omega arith)) in
    let found = joins 0 0 0 0 (a - 48) (b - 48) (c - 48) (d - 48)
    (omega arith) (omega arith) (omega arith) (omega arith) digit_a.nine digit_b.nine digit_c.nine digit_d.nine
    (omega (arith, digit_a.less, digit_b.less, digit_c.less, digit_d.less)) in
    omega (arith, found)
front_value (suc (suc (suc (suc (suc zero))))) a b c d e f g h rest value some few passed joins =
    let digit_a = digit_byte a (passed 0 (omega arith)) in
    let digit_b = digit_byte b (passed 1 (omega arith)) in
    let digit_c = digit_byte c (passed 2 (omega arith)) in
    let digit_d = digit_byte d (passed 3 (omega arith)) in
    let digit_e = digit_byte e (passed 4 (omega arith)) in
    let found = joins 0 0 0 (a - 48) (b - 48) (c - 48) (d - 48) (e - 48)
    (omega arith) (omega arith) (omega arith) digit_a.nine digit_b.nine digit_c.nine digit_d.nine digit_e.nine
    (omega (arith, digit_a.less, digit_b.less, digit_c.less, digit_d.less, digit_e.less)) in
    omega (arith, found)
front_value (suc (suc (suc (suc (suc (suc zero)))))) a b c d e f g h rest value some few passed joins =
    let digit_a = digit_byte a (passed 0 (omega arith)) in
    let digit_b = digit_byte b (passed 1 (omega arith)) in
    let digit_c = digit_byte c (passed 2 (omega arith)) in
    let digit_d = digit_byte d (passed 3 (omega arith)) in
    let digit_e = digit_byte e (passed 4 (omega arith)) in
    let digit_f = digit_byte f (passed 5 (omega arith)) in
    let found = joins 0 0 (a - 48) (b - 48) (c - 48) (d - 48) (e - 48) (f - 48)
    (omega arith) (omega arith) digit_a.nine digit_b.nine digit_c.nine digit_d.nine digit_e.nine digit_f.nine
    (omega (arith, digit_a.less, digit_b.less, digit_c.less, digit_d.less, digit_e.less, digit_f.less)) in
    omega (arith, found)
front_value (suc (suc (suc (suc (suc (suc (suc zero))))))) a b c d e f g h rest value some few passed joins =
    let digit_a = digit_byte a (passed 0 (omega arith)) in
    let digit_b = digit_byte b (passed 1 (omega arith)) in
    let digit_c = digit_byte c (passed 2 (omega arith)) in
    let digit_d = digit_byte d (passed 3 (omega arith)) in
    let digit_e = digit_byte e (passed 4 (omega arith)) in
    let digit_f = digit_byte f (passed 5 (omega arith)) in
    let digit_g = digit_byte g (passed 6 (omega arith)) in
    let found = joins 0 (a - 48) (b - 48) (c - 48) (d - 48) (e - 48) (f - 48) (g - 48)
    (omega arith) digit_a.nine digit_b.nine digit_c.nine digit_d.nine digit_e.nine digit_f.nine digit_g.nine
    (omega (arith, digit_a.less, digit_b.less, digit_c.less, digit_d.less, digit_e.less, digit_f.less, digit_g.less)) in
    omega (arith, found)
front_value (suc (suc (suc (suc (suc (suc (suc (suc zero)))))))) a b c d e f g h rest value some few passed joins =
    let digit_a = digit_byte a (passed 0 (omega arith)) in
    let digit_b = digit_byte b (passed 1 (omega arith)) in
    let digit_c = digit_byte c (passed 2 (omega arith)) in
    let digit_d = digit_byte d (passed 3 (omega arith)) in
    let digit_e = digit_byte e (passed 4 (omega arith)) in
    let digit_f = digit_byte f (passed 5 (omega arith)) in
    let digit_g = digit_byte g (passed 6 (omega arith)) in
    let digit_h = digit_byte h (passed 7 (omega arith)) in
    let found = joins (a - 48) (b - 48) (c - 48) (d - 48) (e - 48) (f - 48) (g - 48) (h - 48)
    digit_a.nine digit_b.nine digit_c.nine digit_d.nine digit_e.nine digit_f.nine digit_g.nine digit_h.nine
    (omega (
      arith,
      digit_a.less,
      digit_b.less,
      digit_c.less,
      digit_d.less,
      digit_e.less,
      digit_f.less,
      digit_g.less,
      digit_h.less,
    )) in
    omega (arith, found)
front_value (suc (suc (suc (suc (suc (suc (suc (suc (suc count))))))))) a b c d e f g h rest value some few
    passed joins =
    absurd (omega arith)

pub value_in_front : (count : ℕ) (text : List ℕ) (value : ℕ) → 8 ≤ length text → 0 < count → count ≤ 8
    → ((k : ℕ) → k < count → is_digit (get_or text k 0) ≡ true) →
    Joins (number_l 256 (map less_zero (take 8 text)) * 2 ^ (64 - 8 * count) % 18446744073709551616) value
    → value ≡ value_of (take count text)
value_in_front count [] value le some few passed joins = absurd (omega arith)
value_in_front count (a ∷ []) value le some few passed joins = absurd (omega arith)
value_in_front count (a ∷ b ∷ []) value le some few passed joins = absurd (omega arith)
value_in_front count (a ∷ b ∷ c ∷ []) value le some few passed joins = absurd (omega arith)
value_in_front count (a ∷ b ∷ c ∷ d ∷ []) value le some few passed joins = absurd (omega arith)
value_in_front count (a ∷ b ∷ c ∷ d ∷ e ∷ []) value le some few passed joins = absurd (omega arith)
value_in_front count (a ∷ b ∷ c ∷ d ∷ e ∷ f ∷ []) value le some few passed joins = absurd (omega arith)
value_in_front count (a ∷ b ∷ c ∷ d ∷ e ∷ f ∷ g ∷ []) value le some few passed joins = absurd (omega arith)
value_in_front count (a ∷ b ∷ c ∷ d ∷ e ∷ f ∷ g ∷ h ∷ rest) value le some few passed joins =
    front_value count a b c d e f g h rest value some few passed joins

-- eight bytes are a word
word_below : (bytes : List ℕ) → Each1 (Fits w8) bytes → number_l 256 bytes < 256 ^ length bytes
word_below [] fits = omega arith
word_below (byte ∷ bytes) fits =
    let rest = word_below bytes fits.1 in
    let first : byte < 256 = fits.0.fits in
    let power : 256 ^ suc (length bytes) ≡ 256 ^ length bytes * 256 = pow-suc 256 (length bytes) in
    let count : length (byte ∷ bytes) ≡ suc (length bytes) = omega arith in
    rw count (omega (arith, rest, first, power))

pub number_below : (bytes : List ℕ) → length bytes ≡ 8 → Each1 (Fits w8) bytes
    → number_l 256 bytes < 18446744073709551616
number_below bytes eight fits =
    let power : 256 ^ length bytes ≡ 18446744073709551616 = ap (λ n. 256 ^ n) eight in
    omega (arith, word_below bytes fits, power)
