use Rattle.std.proofs.Common.{◌≡◌, get_or, Some, sym, ap, ◌∙◌, rules}
use Rattle.std.proofs.lemmas.List.{take_rest}
use Rattle.ftrace_line.proofs.Columns.{narrow_processor}
use Rattle.ftrace_line.proofs.head.narrow_processor_at.Goals as goal

pub returns : goal.returns
returns c =
    let text = c.args.text.now in
    let cpu = c.in_ok-cpu.cpu in
    let digits = c.in_ok-cpu.ensures in
    let bracket : get_or text 0 0 ≡ 91 = search rules in
    let close : get_or text 4 0 ≡ 93 = search rules in
    narrow_processor text cpu c.in-91.len_at_least bracket close digits.first digits.second digits.third digits.value
    digits.below
    ∙ ap (λ rest. Some (cpu, rest)) (sym (take_rest text 5))
