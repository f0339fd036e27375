use Rattle.std.proofs.Common.{All, ◌≡◌, ◌+◌, ◌^◌, ◌<◌, ◌++◌, ◌∙◌, refl, length, sym, ap, subst, arith, Vec, Global}
use Rattle.queue_replay.specs.Windowed.{windowed_view}
use Rattle.replay_model.specs.Cut.{steps_at}
use Rattle.sched_record.specs.Window.{window_view}
use Rattle.window_audit.proofs.Lists.{with_all}
use Rattle.least_audit.specs.Pursuers.{AllPursuedOn, IsWindowPursued}
use Rattle.least_audit.specs.SoFar.{AreFiguresOf}
use Rattle.least_audit.specs.declared.pursuer.Pursuer.{Pursuer}
use Rattle.least_audit.proofs.Going.{audit_next, few_steps, told_fault, went_on, window_pursued}
use Rattle.least_audit.proofs.audit.LeastAudit.go_through.Goals as goal

pub go_through-requires-clause-next : goal.go_through-requires-clause-next
go_through-requires-clause-next g c κs within =
    let next = c.requires.next in
    (next.0, next.1, audit_next next.0 next.1 (window_view c.args.window.now) c.args.self.now next.2)

pub pursue_all-requires : goal.pursue_all-requires
pursue_all-requires g c =
    let next = c.requires.next in
    let window = window_view c.args.window.now in
    record {
      few = subst (All (λ (p : Pursuer). (windowed_view p.replay).made
          + length (steps_at (windowed_view p.replay).cpu window) < 2 ^ 64)) (sym c.deref_mut.ensures.value)
          (few_steps next.0 next.1 window c.args.self.now next.2);
    }

full : (v : Vec Pursuer Global) → length v.items ≡ v.len
full v = let k = v.ok in omega (arith, k)

pub returns-then-is_some : goal.returns-then-is_some
returns-then-is_some g c = λ of so_far next.
    told_fault of so_far (window_view c.args.window.now) c.args.self.now next c.in_ok-told.told c.go_through.new.self _
    (sym c.is_some.ensures ∙ c.if-is_some.true) (c.in_ok-told.ensures of so_far
    (audit_next of so_far (window_view c.args.window.now) c.args.self.now next))

pub returns : goal.returns
returns g c = λ of so_far next.
    let window = window_view c.args.window.now in
    let audit = c.args.self.now in
    let old = audit.pursuers in
    let after = c.pursue_all.new.pursuers in
    let told = c.in_ok-told.told in
    let none = sym c.is_some.ensures ∙ c.if-is_some.false in
    let same = c.pursue_all.auto.pursuers ∙ ap length c.deref_mut.ensures.value in
    let all = subst (λ ps. AllPursuedOn window ps after) c.deref_mut.ensures.value c.in_ok-pursue_all.ensures in
    let written = with_all after old.items old.len same (full old) in
    let told_so = c.in_ok-told.ensures of so_far (audit_next of so_far window audit next) in
    let w = window_pursued of so_far window audit next told c.go_through.new.self after none told_so same all in
    let given = c.deref.ensures.value ∙ written in
    let figures = c.behind-self.ensures of so_far old.items c.requires.some
    (subst (IsWindowPursued of so_far window old.items) (sym given) w) next.audit_is.figures in
    went_on of so_far window audit next told c.go_through.new.self _ none told_so refl
    (subst (IsWindowPursued of so_far window old.items) (sym written) w)
    (subst (λ ps. AreFiguresOf of (so_far ++ window) ps c.behind-self.result) c.deref.ensures.value figures)
