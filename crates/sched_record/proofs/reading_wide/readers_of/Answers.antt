use Rattle.std.proofs.Common.{IfOk, ap, ◌∙◌}
use Rattle.rayon.proofs.ToStd.{slice-AllZip}
use Rattle.text_parts.specs.Lines.{lines_of}
use Rattle.text_parts.proofs.Collected.{collected}
use Rattle.sched_record.specs.Reader.{HasRead}
use Rattle.sched_record.proofs.reading_wide.readers_of.Goals as goal

pub returns : goal.returns
returns g c =
    let h = c.in_ok-collect.ensures in
    let chain = h.1 in
    let slice = ap (λ it. it.base.slice.now) c.map.ensures.base ∙ ap (λ it. it.slice.now) c.with_min_len.ensures.base
    ∙ c.par_iter.ensures in
    collected (λ piece reader. HasRead reader (lines_of piece.now)) c.args.pieces.now h.0 c.in_ok-collect.field-0 h.2
    (slice-AllZip chain.0 c.args.pieces.now (chain.1 ∙ slice)
    (λ piece r. IfOk r (λ reader. HasRead reader (lines_of piece.now))) h.0 chain.2)
