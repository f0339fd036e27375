use Rattle.std.proofs.Common.{◌≡◌, ℕ, get_or, ap, ◌∙◌, sym, subst, refl, inl, inr, rules, arith}
use Rattle.std.proofs.lemmas.Bool.{cases_lt}
use Rattle.std.proofs.lemmas.List.{get_or_default}
use Rattle.cfs_model.specs.declared.act.Entry.{Entry}
use Rattle.cfs_model.specs.declared.idle_line.IdleLine.{IdleLine}
use Rattle.sched_record.specs.Join.{NamesBirth}
use Rattle.sched_record.proofs.Straying.{birth_there, least_stray_idle, no_birth_there, passed_idles}
use Rattle.sched_record.proofs.Walk.{above_here}
use Rattle.sched_record.proofs.joining.first_stray_idle.Goals as goal
use Rattle.sched_record.proofs.joining.first_stray_idle.Goals.{else-idle-ne-NO_LINE-via-then-idle-ne-NO_LINE+else-not-is_birth_at}
use Rattle.sched_record.proofs.joining.first_stray_idle.Goals.{else-idle-ne-NO_LINE-via-else-idle-ne-NO_LINE}

abbrev line_of_event : Entry → ℕ
line_of_event event = event.line

abbrev line_of_idle : IdleLine → ℕ
line_of_idle idle = idle.line

abbrev no_idle : IdleLine
no_idle = record { line = 0; pid = 0 }

pub returns-then-not-is_birth_at : goal.returns-then-not-is_birth_at
returns-then-not-is_birth_at c =
    let events = c.args.events.now in
    let idles = c.args.idles.now in
    let i = c.loop-idle.idle-index in
    let idle = get_or idles i no_idle in
    let same = get_or_default idles i idle no_idle c.loop-idle-test.true in
    least_stray_idle events idles i idle c.requires.idles_rise c.loop-idle-test.true (sym same)
    (no_birth_there events c.index_from-index.result idle c.requires.events_rise
    (above_here line_of_event line_of_idle events idles c.loop-idle.index c.index_from-index.result i idle.line no_idle
    refl
    c.loop-idle-test.true c.loop-idle.invariant.passed c.index_from-index.ensures.below)
    c.index_from-index.ensures.reached (omega (arith, c.if-idle-ne-NO_LINE.true)) (search rules))
    c.loop-idle.invariant.born

pub loop-idle-preserved : goal.loop-idle-preserved
loop-idle-preserved c =
    let events = c.args.events.now in
    let idles = c.args.idles.now in
    let i = c.loop-idle.idle-index in
    let idle = get_or idles i no_idle in
    let same = get_or_default idles i idle no_idle c.loop-idle-test.true in
    let here : NamesBirth events idle = elim c.else-idle-ne-NO_LINE.branch [
      | else-idle-ne-NO_LINE-via-then-idle-ne-NO_LINE+else-not-is_birth_at w ↦
          birth_there events c.index_from-index.result idle (search rules)
      | else-idle-ne-NO_LINE-via-else-idle-ne-NO_LINE w ↦
          (λ some. absurd (omega (arith, some, w.if-idle-ne-NO_LINE.false)))
    ] in record {
      within = c.index_from-index.ensures.within.1;
      passed = passed_idles events idles c.loop-idle.index c.index_from-index.result i idle c.requires.idles_rise
          (sym same) c.loop-idle-test.true
          c.loop-idle.invariant.passed c.index_from-index.ensures.below;
      born = λ k d lt.
          elim (cases_lt k i) [
            | inl less ↦ c.loop-idle.invariant.born k d less
            | inr ge ↦ (
                let is : i ≡ k = omega arith in
                subst (NamesBirth events) (get_or_default idles i no_idle d c.loop-idle-test.true
                ∙ ap (λ n. get_or idles n d) is) here)
          ];
    }
