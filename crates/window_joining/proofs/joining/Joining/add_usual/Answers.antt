use Rattle.std.proofs.Common.{refl, subst}
use Rattle.window_joining.proofs.Passed.{IsMidway, passes_by}
use Rattle.window_joining.proofs.Usual.{policies_stay, stray_stays}
use Rattle.window_joining.specs.Look.{news_of, told}
use Rattle.window_joining.specs.Passing.{IsLateWith, IsOutsideWith}
use Rattle.window_joining.specs.Policies.{policies_view}
use Rattle.window_joining.proofs.joining.Joining.add_usual.Goals as goal

pub returns-clause-passed : goal.returns-clause-passed
returns-clause-passed c =
    let before = c.args.self.now in
    let event = c.args.event.now in
    let claim = told c.args.is_said c.args.claim.now in
    let news = news_of claim in
    let mid : IsMidway news event before before = record {
      policies = policies_stay (policies_view before.policies) event c.requires.usual;
      stray = stray_stays event claim before.stray c.requires.on_line;
      outside = refl;
      late = refl;
      line = refl;
    } in
    passes_by c.args.head.now.cpus c.args.head.now.start news event before before _ mid refl refl
    (subst (λ n. IsOutsideWith n event before.outside c.note_outside.new.outside) c.cpus.ensures
    c.note_outside.ensures.told) c.note_outside.ensures.stays
    (subst (λ n. IsLateWith n before.line event before.late c.note_late.new.late) c.start.ensures
    c.note_late.ensures.told) c.note_late.ensures.stays refl
