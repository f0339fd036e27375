use Rattle.std.proofs.Common.{◌++◌, take, drop, take-append-drop, sym, ap, ◌∙◌}
use Rattle.text_parts.specs.Lines.{lines_of}
use Rattle.companion_file.specs.Seen.{companion_view}
use Rattle.companion_file.proofs.GoodLines.{nothing_order}
use Rattle.companion_file.proofs.Piecewise.{order_on, said_then, read_on}
use Rattle.companion_file.proofs.reading_wide.good_companion_of.Goals as goal

pub drafts_of-requires-after_bounds : goal.drafts_of-requires-after_bounds
drafts_of-requires-after_bounds g c κs within = order_on c.new-draft.result c.take_all.new.self
    (lines_of c.split_at.result.0.now) (rw c.new-draft.ensures nothing_order) c.in_ok-take_all.ensures

pub put_together-requires : goal.put_together-requires
put_together-requires g c = order_on c.new-draft.result c.take_all.new.self (lines_of c.split_at.result.0.now)
    (rw c.new-draft.ensures nothing_order) c.in_ok-take_all.ensures

pub spans-requires : goal.spans-requires
spans-requires g c =
    let order = order_on c.new-draft.result c.take_all.new.self (lines_of c.split_at.result.0.now)
    (rw c.new-draft.ensures nothing_order) c.in_ok-take_all.ensures in
    order_on c.take_all.new.self c.put_together.new.draft (lines_of c.split_at.result.1.now) order
    (c.in_ok-put_together.ensures (lines_of c.split_at.result.1.now) c.in_ok-drafts.ensures)

pub finish-requires-clause-order : goal.finish-requires-clause-order
finish-requires-clause-order g c =
    let order = order_on c.new-draft.result c.take_all.new.self (lines_of c.split_at.result.0.now)
    (rw c.new-draft.ensures nothing_order) c.in_ok-take_all.ensures in
    order_on c.take_all.new.self c.put_together.new.draft (lines_of c.split_at.result.1.now) order
    (c.in_ok-put_together.ensures (lines_of c.split_at.result.1.now) c.in_ok-drafts.ensures)

pub returns-in-Some : goal.returns-in-Some
returns-in-Some g c =
    let text = c.args.text.now in
    let size = c.head_length.result in
    let head = lines_of c.split_at.result.0.now in
    let tail = lines_of c.split_at.result.1.now in
    let parts = ap lines_of (sym (take-append-drop size text))
    ∙ c.lines_after_whole.ensures (take size text) (drop size text) c.head_length.ensures.whole in
    let says = said_then c.new-draft.result c.take_all.new.self c.put_together.new.draft head tail
    c.in_ok-take_all.ensures (c.in_ok-put_together.ensures tail c.in_ok-drafts.ensures) in
    rw (parts, ← c.split_at.ensures.front, ← c.split_at.ensures.back)
    (read_on (head ++ tail) c.put_together.new.draft (companion_view c.in-Some.companion)
    (rw c.new-draft.ensures at says) c.in-Some.ensures)
