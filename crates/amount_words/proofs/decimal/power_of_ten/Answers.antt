use Rattle.std.proofs.Common.{◌≤◌, ◌^◌, subst, sym, arith}
use Rattle.std.proofs.Math.Nat.{pow-le-pow_right}
use Rattle.amount_words.proofs.decimal.power_of_ten.Goals as goal

pub returns-clause-few : goal.returns-clause-few
returns-clause-few c =
    let most : 10 ^ c.args.zeros ≤ 10 ^ 12 =
    pow-le-pow_right {n = 10} (omega arith) {i = c.args.zeros} {j = 12} c.requires in
    subst (λ n. n ≤ 10 ^ 12) (sym c.pow.ensures) most
