use Rattle.std.proofs.Common.{IfOk, ap, ◌∙◌}
use Rattle.rayon.proofs.ToStd.{slice-AllZip}
use Rattle.text_parts.specs.Lines.{lines_of}
use Rattle.text_parts.proofs.Collected.{collected}
use Rattle.companion_file.specs.Piecewise.{SaysOn, head_of}
use Rattle.companion_file.proofs.Piecewise.{all_read_apart}
use Rattle.companion_file.proofs.reading_wide.drafts_of.Goals as goal

pub returns : goal.returns
returns g c =
    let h = c.in_ok-collect.ensures in
    let chain = h.1 in
    let head = head_of c.args.head.now in
    let pieces = c.in_ok-pieces.pieces.items in
    let slice = ap (λ it. it.base.slice.now) c.map.ensures.base ∙ ap (λ it. it.slice.now) c.with_min_len.ensures.base
    ∙ c.par_iter.ensures in
    all_read_apart head (λ piece. lines_of piece.now) (lines_of c.args.text.now) pieces c.in_ok-collect.field-0
    c.in_ok-pieces.ensures
    (collected (λ piece later. SaysOn head (lines_of piece.now) later) pieces h.0 c.in_ok-collect.field-0 h.2
    (slice-AllZip chain.0 pieces (chain.1 ∙ slice) (λ piece r. IfOk r (λ later. SaysOn head (lines_of piece.now) later))
    h.0 (rw c.map.ensures.f at chain.2)))
