use Rattle.std.proofs.Common.{sym, subst}
use Rattle.std.proofs.lemmas.Bool.{OnTrue_at}
use Rattle.std.proofs.lemmas.List.{take_rest}
use Rattle.text_parts.specs.Packed.{BeginsWithColumn}
use Rattle.ftrace_line.specs.Usual.{HasPid}
use Rattle.ftrace_line.proofs.usual.after_pid_column.Goals as goal

pub returns : goal.returns
returns c =
    let text = c.args.text.now in
    let column : BeginsWithColumn text =
    OnTrue_at c.if-not-begins_with_column.false c.begins_with_column.ensures in
    subst (HasPid text) (sym (take_rest text 8)) (record {
      digits = column.digits;
      form = column.form;
      gap = column.gap;
      gap_form = column.gap_form;
      parts = column.parts;
    })
