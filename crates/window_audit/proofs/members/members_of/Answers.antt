use Rattle.std.proofs.Common.{◌≡◌, ◌<◌, ◌+◌, ◌++◌, ◌∷◌, [], ℕ, length, get_or, sym, ap, subst, arith, ◌∙◌}
use Rattle.std.proofs.lemmas.List.{length_push}
use Rattle.companion_file.specs.Seen.{companion_view}
use Rattle.replay_model.specs.Cut.{cut}
use Rattle.replay_model.specs.Page.{IsStartOf}
use Rattle.window_audit.specs.Member.{replay_of}
use Rattle.window_audit.specs.States.{IsOwn}
use Rattle.window_audit.specs.declared.member.Member.{Member}
use Rattle.window_audit.proofs.Lists.{at_more}
use Rattle.window_audit.proofs.members.members_of.Goals as goal

pub loop-cpu-preserved : goal.loop-cpu-preserved
loop-cpu-preserved c =
    let of = companion_view c.args.companion.now in
    let before = c.loop-cpu.invariant in
    let old = c.loop-cpu.members.items in
    let member = c.in_ok-member_of.field-0 in
    let e = c.in_ok-member_of.ensures in
    let pushed : c.push.new.self.items ≡ old ++ member ∷ [] = c.in_ok-push.ensures.items in
    let Own : ℕ → Member → Type 0 = λ k m. IsOwn c.args.knobs k 0 (replay_of m) in
    let Starts : ℕ → Member → Type 0 =
    λ k m. IsStartOf (cut of.start of.floors of.tasks [] k) (replay_of m).state in
    record {
      count = ap length pushed ∙ length_push old member ∙ ap (λ n. n + 1) before.count;
      own = subst (λ xs. (k : ℕ) (d : Member) → k < length xs → Own k (get_or xs k d)) (sym pushed)
          (at_more Own old member before.own
          (record {
            cpu_is = e.cpu ∙ sym before.count;
            knobs_are = e.knobs;
            made = (let m = e.made in omega (arith, m));
          }));
      start = subst (λ xs. (k : ℕ) (d : Member) → k < length xs → Starts k (get_or xs k d)) (sym pushed)
          (at_more Starts old member before.start
          (subst (λ n. IsStartOf (cut of.start of.floors of.tasks [] n) (replay_of member).state) (sym before.count)
          e.start));
    }
