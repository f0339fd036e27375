-- Of a record's fronts up to a line each leaves the same task waiting.
use Rattle.std.proofs.Common.{◌≡◌, ℕ, Option, Some, None, ℤ, ◌⊎◌, inl, inr, [], ◌∷◌, ◌++◌, refl, sym, ap, ◌∙◌, subst}
use Rattle.std.proofs.Common.{append_assoc, arith, ◌≤◌}
use Rattle.std.specs.Prelude.{◌<ℤ◌}
use Rattle.std.proofs.lemmas.Int.{ints}
use Rattle.cfs_model.specs.Knobs.{KnobsView}
use Rattle.cfs_model.specs.Laws.{RunPrefix}
use Rattle.cfs_model.specs.Machine.{Machine}
use Rattle.cfs_model.specs.Run.{IsRun}
use Rattle.cfs_model.specs.Start.{start_machine}
use Rattle.cfs_model.specs.declared.act.Act.{Act}
use Rattle.cfs_model.specs.declared.act.Act.TheVariants.{Switch, Wake, Born, Shift}
use Rattle.cfs_model.specs.declared.setting.Setting.{Setting}
use Rattle.cfs_model.specs.declared.setting.Setting.TheVariants.{Granularity, Credit, Debit, Slack, Drift}
use Rattle.least_places.specs.Left.{IsFront, IsLeastIfAny, IsLeft, IsOver, end_of}
use Rattle.least_places.specs.Place.{IsNeededFirst}
use Rattle.sched_record.specs.Record.{RecordView}
use Rattle.ticket_book.specs.SaidEvents.{events_of}

-- the front up to where a setting is needed first, of a run
pub front_at : RunPrefix → (r : RecordView) (knobs : KnobsView)
    → IsRun knobs r.start (start_machine r.start r.floors r.tasks) (events_of r)
    → {which : Setting} {value line : ℕ} → IsNeededFirst r which value line → IsFront r knobs line
front_at prefix r knobs run needed =
    let first = start_machine r.start r.floors r.tasks in
    record {
      before = needed.before;
      event = needed.event;
      rest = needed.rest;
      whole = needed.whole;
      line_is = needed.line_is;
      run = prefix knobs r.start first (needed.before ++ needed.event ∷ []) needed.rest
          (subst (IsRun knobs r.start first)
          (needed.whole ∙ sym (append_assoc needed.before (needed.event ∷ []) needed.rest)) run);
    }

-- two values of which neither is less are one
either : (p q : ℕ) (v w : ℤ) → (v <ℤ w) ⊎ ((v ≡ w) × (p ≤ q)) → (w <ℤ v) ⊎ ((w ≡ v) × (q ≤ p)) → p ≡ q
either p q v w (inl h) (inl k) = absurd (omega (arith, ints, h, k))
either p q v w (inl h) (inr k) = absurd (omega (arith, ints, h, k.0))
either p q v w (inr h) (inl k) = absurd (omega (arith, ints, h.0, k))
either p q v w (inr h) (inr k) = omega (arith, h.1, k.1)

one_least : (m : Machine) (cpu : ℕ) (one other : Option ℕ) → IsLeastIfAny m cpu one → IsLeastIfAny m cpu other
    → one ≡ other
one_least m cpu None None h k = refl
one_least m cpu None (Some q) h k = absurd (h q k.waits)
one_least m cpu (Some p) None h k = absurd (k p h.waits)
one_least m cpu (Some p) (Some q) h k =
    ap Some (either p q h.runtime k.runtime (h.least q k.runtime k.waits k.has) (k.least p h.runtime h.waits h.has))

one_left : (m : Machine) (act : Act) (one other : Option ℕ) → IsLeft m act one → IsLeft m act other → one ≡ other
one_left m (Switch cpu prev prev_nice way next next_nice) one other h k = one_least m cpu one other h k
one_left m (Wake cpu pid nice) one other h k = h ∙ sym k
one_left m (Born cpu pid nice) one other h k = h ∙ sym k
one_left m (Shift orig dest pid nice) one other h k = h ∙ sym k

pub one_over : (r : RecordView) (knobs : KnobsView) (which : Setting) (line : ℕ) (one other : Option ℕ)
    → IsFront r knobs line → IsOver r knobs which line one → IsOver r knobs which line other → one ≡ other
one_over r knobs Granularity line one other front h k =
    one_left (end_of r knobs line front) front.event.entry.act one other (h front) (k front)
one_over r knobs Credit line one other front h k = h ∙ sym k
one_over r knobs Debit line one other front h k = h ∙ sym k
one_over r knobs Slack line one other front h k = h ∙ sym k
one_over r knobs Drift line one other front h k = h ∙ sym k
