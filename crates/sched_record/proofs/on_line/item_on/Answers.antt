use Rattle.std.proofs.Common.{Some, sym, ap, ◌∙◌}
use Rattle.std.proofs.lemmas.List.{get_or_default}
use Rattle.sched_record.proofs.Dealt.{item_found, item_missing}
use Rattle.sched_record.proofs.Walk.{apart_from, below_end, below_other}
use Rattle.sched_record.proofs.on_line.item_on.Goals as goal
use Rattle.sched_record.proofs.on_line.item_on.Goals.{else-index-items-via-then-index-items+else-line}
use Rattle.sched_record.proofs.on_line.item_on.Goals.{else-index-items-via-else-index-items}

pub returns-then-line : goal.returns-then-line
returns-then-line g c =
    let line_of = g.T.OnLine.line in
    let items = c.args.items.now in
    let index = c.args.index in
    let read = c.index-items-index.result in
    let item = c.index-items-index-then-line.result in
    let same = get_or_default items index item read c.if-index-items.true in
    ap Some c.index-items-index-then-line.is
    ∙ sym (item_found line_of items c.args.line index item c.requires.above c.if-index-items.true
    (ap line_of same ∙ sym (ap line_of c.index-items-index.is) ∙ sym c.line.ensures ∙ c.if-line.true))

pub returns-else-index-items : goal.returns-else-index-items
returns-else-index-items g c =
    let line_of = g.T.OnLine.line in
    let index = c.args.index in
    sym (item_missing line_of _ _ (apart_from line_of _ _ index c.requires.rise c.requires.above
    (elim c.else-index-items.branch [
      | else-index-items-via-then-index-items+else-line w ↦
          below_other line_of _ _ index w.index-items-index.result c.requires.reached
          (λ same. w.if-line.false (w.line.ensures ∙ ap line_of w.index-items-index.is ∙ same))
      | else-index-items-via-else-index-items w ↦ below_end line_of _ _ index w.if-index-items.false
    ])))
