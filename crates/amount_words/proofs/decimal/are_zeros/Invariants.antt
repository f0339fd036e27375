-- All are zeros where those that are still to be gone over are.
use Rattle.std.proofs.Common.{◌≡◌, drop}
use Rattle.std.specs.List.{list_all}
use Rattle.amount_words.specs.Amount.{is_zero}
use Rattle.amount_words.proofs.decimal.are_zeros.Given as goal

abbrev pub invariant-loop-digit : goal.invariant-loop-digit
invariant-loop-digit l = list_all is_zero (drop l.digit-index l.digits) ≡ list_all is_zero l.fn.digits
