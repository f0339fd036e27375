use Rattle.std.proofs.Common.{◌≡◌, get_or, ap, ◌∙◌, sym, inl, inr, arith}
use Rattle.std.proofs.lemmas.Bool.{cases_lt}
use Rattle.std.proofs.lemmas.List.{get_or_default}
use Rattle.cfs_model.specs.declared.idle_line.IdleLine.{IdleLine}
use Rattle.window_joining.specs.News.{is_named_by}
use Rattle.window_joining.proofs.Idle.{least_beside, none_beside}
use Rattle.window_joining.proofs.strays.stray_idle.Goals as goal

abbrev no_idle : IdleLine
no_idle = record { line = 0; pid = 0 }

pub returns-then-not-is_birth : goal.returns-then-not-is_birth
returns-then-not-is_birth c =
    let idles = c.args.idles.now in
    let i = c.loop-idle.idle-index in
    let idle = get_or idles i no_idle in
    let same = get_or_default idles i idle no_idle c.loop-idle-test.true in
    least_beside c.args.event.now idles i idle c.requires c.loop-idle-test.true (sym same)
    (sym c.is_birth.ensures ∙ c.if-not-is_birth.true) c.loop-idle.invariant

pub loop-idle-preserved : goal.loop-idle-preserved
loop-idle-preserved c = λ k d lt.
    let idles = c.args.idles.now in
    let i = c.loop-idle.idle-index in
    elim (cases_lt k i) [
      | inl less ↦ c.loop-idle.invariant k d less
      | inr ge ↦ (
          let is : i ≡ k = omega arith in
          ap (is_named_by c.args.event.now)
          (sym (ap (λ n. get_or idles n d) is) ∙ get_or_default idles i d no_idle c.loop-idle-test.true)
          ∙ sym c.is_birth.ensures ∙ c.if-not-is_birth.false)
    ]

pub returns : goal.returns
returns c =
    none_beside c.args.event.now c.args.idles.now
    (λ k d h. c.loop-idle.invariant k d (omega (arith, h, c.loop-idle-test.false)))
