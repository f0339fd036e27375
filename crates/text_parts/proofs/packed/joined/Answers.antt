use Rattle.std.proofs.Common.{ℕ, ◌+◌, ◌*◌, ◌/◌, ◌%◌, bit_and, arith}
use Rattle.text_parts.proofs.Packing.{pairs_joined, fours_joined}
use Rattle.text_parts.proofs.packed.joined.Goals as goal

pub returns : goal.returns
returns run = λ a b c d e f g h la lb lc ld le lf lg lh is.
    let word = run.args.word in
    let pairs : ℕ = bit_and (word * 2561 % 18446744073709551616 / 256) 71777214294589695 in
    let all = fours_joined pairs (10 * a + b) (10 * c + d) (10 * e + f) (10 * g + h)
    (omega arith) (omega arith) (omega arith) (omega arith)
    (pairs_joined word a b c d e f g h la lb lc ld le lf lg lh is) in
    omega (arith, all)
