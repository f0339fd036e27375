-- Fewer than eight more digits: both parts' value is exact.
use Rattle.std.proofs.Common.{◌≡◌, ◌-◌, ◌<◌, ◌≤◌, length, take, drop, get_or, ap, subst, arith}
use Rattle.std.proofs.lemmas.List.{take_all, length-drop}
use Rattle.text_parts.specs.Packed.{BeginsWithDigits}
use Rattle.text_parts.proofs.LongFronts.{powers, tens, few_below, long_front}
use Rattle.text_parts.proofs.packed.behind_eight.Goals as goal

pub further_digits-requires-then-more-eq-TOGETHER-clause-below :
    goal.further_digits-requires-then-more-eq-TOGETHER-clause-below
further_digits-requires-then-more-eq-TOGETHER-clause-below c =
    let front = c.requires.front in
    omega (arith, front.value_is, few_below c.args.text.now 8 c.requires.within (omega arith) front.passed)

pub overflow_mul-result : goal.overflow_mul-result
overflow_mul-result c =
    let text = c.args.text.now in
    let more = c.eight_at-more.result.0 in
    let value = c.eight_at-more.result.1 in
    let rest : take (length text - 8) (drop 8 text) ≡ drop 8 text =
    take_all (length text - 8) (drop 8 text) (omega (arith, length-drop 8 text)) in
    let le : 16 ≤ length text = omega (arith, c.if-rest-lt-TOGETHER.false, ap length rest, length-drop 8 text) in
    let later : BeginsWithDigits (drop 8 text) more value =
    subst (λ l. BeginsWithDigits l more value) rest c.eight_at-more.ensures in
    let few : more < 8 = omega (arith, later.few, c.if-more-eq-TOGETHER.false) in
    let all = long_front text c.args.front more value (get_or powers more 0) le c.requires.front later few
    (tens more few) in
    record { fits = omega (arith, all.below) }

pub overflow_add-result-2 : goal.overflow_add-result-2
overflow_add-result-2 c =
    let text = c.args.text.now in
    let more = c.eight_at-more.result.0 in
    let value = c.eight_at-more.result.1 in
    let rest : take (length text - 8) (drop 8 text) ≡ drop 8 text =
    take_all (length text - 8) (drop 8 text) (omega (arith, length-drop 8 text)) in
    let le : 16 ≤ length text = omega (arith, c.if-rest-lt-TOGETHER.false, ap length rest, length-drop 8 text) in
    let later : BeginsWithDigits (drop 8 text) more value =
    subst (λ l. BeginsWithDigits l more value) rest c.eight_at-more.ensures in
    let few : more < 8 = omega (arith, later.few, c.if-more-eq-TOGETHER.false) in
    let all = long_front text c.args.front more value (get_or powers more 0) le c.requires.front later few
    (tens more few) in
    record { fits = omega (arith, all.below) }

pub returns-clause-count : goal.returns-clause-count
returns-clause-count c =
    let text = c.args.text.now in
    let more = c.eight_at-more.result.0 in
    let value = c.eight_at-more.result.1 in
    let rest : take (length text - 8) (drop 8 text) ≡ drop 8 text =
    take_all (length text - 8) (drop 8 text) (omega (arith, length-drop 8 text)) in
    let le : 16 ≤ length text = omega (arith, c.if-rest-lt-TOGETHER.false, ap length rest, length-drop 8 text) in
    let later : BeginsWithDigits (drop 8 text) more value =
    subst (λ l. BeginsWithDigits l more value) rest c.eight_at-more.ensures in
    let few : more < 8 = omega (arith, later.few, c.if-more-eq-TOGETHER.false) in
    let all = long_front text c.args.front more value (get_or powers more 0) le c.requires.front later few
    (tens more few) in
    all.count_is

pub returns-clause-value : goal.returns-clause-value
returns-clause-value c =
    let text = c.args.text.now in
    let more = c.eight_at-more.result.0 in
    let value = c.eight_at-more.result.1 in
    let rest : take (length text - 8) (drop 8 text) ≡ drop 8 text =
    take_all (length text - 8) (drop 8 text) (omega (arith, length-drop 8 text)) in
    let le : 16 ≤ length text = omega (arith, c.if-rest-lt-TOGETHER.false, ap length rest, length-drop 8 text) in
    let later : BeginsWithDigits (drop 8 text) more value =
    subst (λ l. BeginsWithDigits l more value) rest c.eight_at-more.ensures in
    let few : more < 8 = omega (arith, later.few, c.if-more-eq-TOGETHER.false) in
    let all = long_front text c.args.front more value (get_or powers more 0) le c.requires.front later few
    (tens more few) in
    all.value_is
