use Rattle.std.proofs.Common.{Some, ◌-◌, ◌<◌, length, refl, sym, ap, ◌∙◌, arith}
use Rattle.std.proofs.lemmas.List.{get_or_default}
use Rattle.window_joining.proofs.Firsts.{last_found, last_missing, none_found}
use Rattle.window_joining.proofs.between.last_on.Goals as goal
use Rattle.window_joining.proofs.between.last_on.Goals.{else-count-gt0-via-then-count-gt0+else-line}
use Rattle.window_joining.proofs.between.last_on.Goals.{else-count-gt0-via-else-count-gt0}

pub returns-then-line : goal.returns-then-line
returns-then-line g c =
    let line_of = g.T.OnLine.line in
    let items = c.args.items.now in
    let count = length items in
    let read = c.index-items-count.result in
    let item = c.index-items-count-then-line.result in
    let within : count - 1 < length items = omega (arith, c.if-count-gt0.true) in
    ap Some (c.index-items-count-then-line.is ∙ get_or_default items (count - 1) item read within
    ∙ sym c.index-items-count.is)
    ∙ sym (last_found line_of items c.args.line count read c.requires.rise refl
    c.if-count-gt0.true c.index-items-count.is (sym c.line.ensures ∙ c.if-line.true))

pub returns-else-count-gt0 : goal.returns-else-count-gt0
returns-else-count-gt0 g c =
    let line_of = g.T.OnLine.line in
    let items = c.args.items.now in
    elim c.else-count-gt0.branch [
      | else-count-gt0-via-then-count-gt0+else-line w ↦
          sym (last_missing line_of items c.args.line (length items) w.index-items-count.result c.requires.rise
          c.requires.within refl w.index-items-count.is
          (λ same. w.if-line.false (w.line.ensures ∙ same)))
      | else-count-gt0-via-else-count-gt0 w ↦
          sym (none_found line_of items c.args.line (length items) refl w.if-count-gt0.false)
    ]
