use Rattle.std.proofs.Common.{Err, IsTrue, Ok, sym, subst}
use Rattle.companion_file.specs.Seen.{IsReturned, companion_view}
use Rattle.sched_record.specs.Join.{GoTogether}
use Rattle.sched_record.specs.Seen.{trace_view}
use Rattle.companion_maker.proofs.Fits.{joins_where_fits, same_view, never_both}
use Rattle.companion_maker.proofs.making.go_together.Goals as goal

pub returns-in-Ok : goal.returns-in-Ok
returns-in-Ok g c =
    let events = trace_view c.args.trace in
    let view = companion_view c.in-Ok.companion in
    let fits = joins_where_fits events view c.join.result c.join.ensures.answered c.join.ensures.only in (
      (λ yes. (view, c.in-Ok.ensures.answered, fits.0 (subst IsTrue c.is_ok.ensures.value yes))),
      (λ reads.
          let is = same_view reads.0 view (c.in-Ok.ensures.only (Ok reads.0) reads.1) in
          subst IsTrue (sym c.is_ok.ensures.value) (fits.1 (subst (GoTogether events) is reads.2))),
    )

pub returns-in-Err-Text : goal.returns-in-Err-Text
returns-in-Err-Text g c = (
  (λ yes. absurd cc),
  (λ reads.
      let fault = c.in-Err-Text in
      let returned = subst (λ f. IsReturned (Err f) (Ok reads.0)) fault.field-0-is
      (fault.ensures.only (Ok reads.0) reads.1) in
      absurd (never_both reads.0 (fault.field-0-0, fault.field-0-1) returned)),
)
