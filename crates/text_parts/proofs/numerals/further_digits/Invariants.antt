-- So far all bytes are digits, and the value is theirs while they are few.
use Rattle.std.proofs.Common.{◌≡◌, ℕ, ◌<◌, ◌≤◌, ◌^◌, ◌-◌, length, take, get_or, true}
use Rattle.text_parts.specs.Numerals.{is_digit, value_of}
use Rattle.text_parts.proofs.numerals.further_digits.Given as goal

abbrev pub invariant-loop-digits : goal.invariant-loop-digits
invariant-loop-digits l = record {
  within : l.digits ≤ length l.text;
  passed : (k : ℕ) → k < l.digits → is_digit (get_or l.text k 0) ≡ true;
  value : l.digits ≤ 18 → l.value ≡ value_of (take l.digits l.text);
  below : l.digits ≤ 18 → l.value < 10 ^ l.digits;
}

abbrev pub decreases-loop-digits : goal.decreases-loop-digits
decreases-loop-digits l = length l.text - l.digits
