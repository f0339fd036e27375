-- The fault by a nanosecond less of a setting is at the place of its figure: the events before its line are a run with
-- less, and where those up to it were one with less, they were one at the lesser of that and of the least.
use Rattle.std.proofs.Common.{◌≡◌, ℕ, ◌<◌, Option, inl, inr, [], ◌∷◌, ◌++◌, sym, ◌∙◌, subst, append_assoc, arith}
use Rattle.std.proofs.lemmas.Bool.{cases_lt}
use Rattle.cfs_model.specs.Knobs.{KnobsView, value_at}
use Rattle.cfs_model.specs.Laws.{LesserKeepsRun, MoreKeepsRun, RunPrefix}
use Rattle.cfs_model.specs.Least.{lesser}
use Rattle.cfs_model.specs.Run.{IsFirstBad, IsRun}
use Rattle.cfs_model.specs.Start.{start_machine}
use Rattle.cfs_model.specs.declared.setting.Setting.{Setting}
use Rattle.least_places.proofs.Lessened.{is_less, lesser_at_most}
use Rattle.least_places.specs.Left.{IsOver}
use Rattle.least_places.specs.Place.{IsNeededFirst, IsPlace, one_less, time_on_line}
use Rattle.replay_model.specs.declared.first_fault.FirstFault.{FirstFault}
use Rattle.sched_record.specs.Record.{RecordView}
use Rattle.ticket_book.specs.LeastAnswer.{IsLeastAnswer}
use Rattle.ticket_book.specs.SaidEvents.{events_of}
use Rattle.ticket_book.specs.Verdict.{IsFaulty}
use Rattle.ticket_book.specs.declared.least_settings.LeastSettings.TheVariants.{Found}

module _ (more : MoreKeepsRun) (both : LesserKeepsRun) (prefix : RunPrefix) (r : RecordView) (knobs : KnobsView)
    (which : Setting) (least : IsLeastAnswer r (Found knobs)) (some : 0 < value_at knobs which) where
  -- the first bad line by a nanosecond less is where the setting is needed first
  needed_at : (line : ℕ)
      → IsFirstBad (one_less knobs which) r.start (start_machine r.start r.floors r.tasks) (events_of r) line
      → IsNeededFirst r which (value_at knobs which) line
  needed_at line bad =
      let first = start_machine r.start r.floors r.tasks in
      let upto = bad.before ++ bad.event ∷ [] in
      let own : IsRun knobs r.start first upto = prefix knobs r.start first upto bad.rest
      (subst (IsRun knobs r.start first) (bad.whole ∙ sym (append_assoc bad.before (bad.event ∷ []) bad.rest))
      least.0.run) in
      record {
        before = bad.before;
        event = bad.event;
        rest = bad.rest;
        whole = bad.whole;
        line_is = bad.line_is;
        less = (one_less knobs which, is_less knobs which some, bad.runs);
        needs = λ other run. elim (cases_lt (value_at other which) (value_at knobs which)) [
          | inl h ↦ absurd (bad.ends (more (lesser other knobs) (one_less knobs which) r.start first upto
              (lesser_at_most other knobs which h) (both other knobs r.start first upto run own)))
          | inr h ↦ omega (arith, h)
        ];
      }

  pub place_is : (fault : FirstFault) (time : ℕ) (over : Option ℕ) → IsFaulty (one_less knobs which) r fault
      → time ≡ time_on_line r.events fault.line → IsOver r knobs which fault.line over
      → IsPlace r knobs which (record { line = fault.line; time = time; cpu = fault.cpu; pid = fault.pid; over = over })
  place_is fault time over faulty told left = record {
    needed = needed_at fault.line faulty.line;
    time = told;
    kind = fault.kind;
    fault = faulty.cause;
    over = left;
  }

-- by a nanosecond less than the least it is no run
pub no_run : (r : RecordView) (knobs : KnobsView) (which : Setting)
    → IsLeastAnswer r (Found knobs) → 0 < value_at knobs which
    → IsRun (one_less knobs which) r.start (start_machine r.start r.floors r.tasks) (events_of r) → ⊥
no_run r knobs which least some run =
    omega (arith, is_less knobs which some, least.0.least (one_less knobs which) run which)
