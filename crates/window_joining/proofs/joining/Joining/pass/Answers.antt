use Rattle.std.proofs.Common.{◌≡◌, Some, not, refl, sym, ap, subst, ◌∙◌}
use Rattle.sched_record.specs.Join.{IsLeastOf}
use Rattle.window_joining.proofs.Passed.{IsMidway, at_none, at_some, passes_by}
use Rattle.window_joining.specs.News.{IsStrayBeside, ListsView}
use Rattle.window_joining.specs.Passing.{IsLateWith, IsOutsideWith}
use Rattle.window_joining.proofs.joining.Joining.pass.Goals as goal
use Rattle.window_joining.proofs.joining.Joining.pass.Goals.{then-is_none, else-is_none}

pub returns : goal.returns
returns c =
    let before = c.args.self.now in
    let event = c.args.event.now in
    let now = c.if-is_none.self in
    let news : ListsView = record {
      claims = c.args.claims.now;
      nices = c.args.nices.now;
      charges = c.args.charges.now;
      idles = c.args.idles.now;
    } in
    let mid : IsMidway news event before now = elim c.if-is_none.branch [
      | then-is_none w ↦ subst (IsMidway news event before) (sym w.self-is) (record {
        policies = c.in_ok-pass.ensures;
        stray = at_none (λ line. w.stray_in-self.result ≡ Some line) before.stray
            (c.is_none.ensures ∙ ap not w.if-is_none.true) w.stray_in-self.ensures;
        outside = refl;
        late = refl;
        line = refl;
      })
      | else-is_none w ↦ subst (IsMidway news event before) (sym w.self-is) (record {
        policies = c.in_ok-pass.ensures;
        stray = at_some (IsLeastOf (IsStrayBeside news event) before.stray) before.stray
            (c.is_none.ensures ∙ ap not w.if-is_none.false);
        outside = refl;
        late = refl;
        line = refl;
      })
    ] in
    passes_by c.args.head.now.cpus c.args.head.now.start news event before now _ mid refl refl
    (subst (λ n. IsOutsideWith n event now.outside c.note_outside.new.outside) c.cpus.ensures
    c.note_outside.ensures.told) c.note_outside.ensures.stays
    (subst (λ n. IsLateWith n now.line event now.late c.note_late.new.late) c.start.ensures
    c.note_late.ensures.told) c.note_late.ensures.stays refl
