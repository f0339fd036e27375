-- So far all bytes are digits, and the value is theirs.
use Rattle.std.proofs.Common.{◌≡◌, ℕ, ◌<◌, ◌≤◌, ◌^◌, ◌-◌, take, get_or, true}
use Rattle.text_parts.specs.Numerals.{is_digit, value_of}
use Rattle.text_parts.proofs.numerals.digits_at.Given as goal

abbrev pub invariant-loop-digits : goal.invariant-loop-digits
invariant-loop-digits l = record {
  few : l.digits ≤ 8;
  passed : (k : ℕ) → k < l.digits → is_digit (get_or l.text k 0) ≡ true;
  value : l.value ≡ value_of (take l.digits l.text);
  below : l.value < 10 ^ l.digits;
}

abbrev pub decreases-loop-digits : goal.decreases-loop-digits
decreases-loop-digits l = 8 - l.digits
