use Rattle.std.proofs.Common.{not, sym, subst, ap, ◌∙◌, true≢false}
use Rattle.std.specs.Prelude.{is_some}
use Rattle.std.specs.Bool.{OnTrue}
use Rattle.sched_record.specs.Join.{IsInside}
use Rattle.window_joining.proofs.Refused.{outside_stays}
use Rattle.window_joining.proofs.refusing.note_outside.Goals as goal
use Rattle.window_joining.proofs.refusing.note_outside.Goals.{else-not-is_within-via-then-not-is_within+else-is_none}
use Rattle.window_joining.proofs.refusing.note_outside.Goals.{else-not-is_within-via-else-not-is_within}

pub returns-else-not-is_within-clause-told : goal.returns-else-not-is_within-clause-told
returns-else-not-is_within-clause-told c = elim c.else-not-is_within.branch [
  | else-not-is_within-via-then-not-is_within+else-is_none w ↦
      outside_stays c.args.cpus c.args.event.now c.args.outside.now
      (λ none. absurd (true≢false (sym (w.is_none.ensures ∙ ap not w.if-is_none.false) ∙ ap is_some none)))
  | else-not-is_within-via-else-not-is_within w ↦
      outside_stays c.args.cpus c.args.event.now c.args.outside.now
      (λ none. subst (λ within. OnTrue within (IsInside c.args.cpus c.args.event.now)) w.if-not-is_within.false
      c.is_within.ensures.within)
]
