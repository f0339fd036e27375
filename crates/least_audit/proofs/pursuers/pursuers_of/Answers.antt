use Rattle.std.proofs.Common.{◌≡◌, ◌<◌, ◌+◌, ◌++◌, ◌∷◌, [], ℕ, List, length, sym, ap, subst, ◌∙◌}
use Rattle.std.proofs.lemmas.List.{length_push}
use Rattle.cfs_model.specs.Least.{greatest_settings}
use Rattle.companion_file.specs.Seen.{companion_view}
use Rattle.queue_replay.specs.Windowed.{WindowedView, windowed_view}
use Rattle.replay_model.specs.Cut.{cut}
use Rattle.replay_model.specs.Needs.{only_slack}
use Rattle.replay_model.specs.Page.{IsStartOf}
use Rattle.window_audit.specs.States.{IsOwn}
use Rattle.least_audit.specs.Pursuers.{view_at}
use Rattle.least_audit.specs.declared.pursuer.Pursuer.{Pursuer}
use Rattle.least_audit.proofs.Lists.{each_more}
use Rattle.least_audit.proofs.pursuers.pursuers_of.Goals as goal

pub loop-cpu-preserved : goal.loop-cpu-preserved
loop-cpu-preserved c =
    let of = companion_view c.args.companion.now in
    let before = c.loop-cpu.invariant in
    let old = c.loop-cpu.pursuers.items in
    let one = c.in_ok-pursuer_of.field-0 in
    let e = c.in_ok-pursuer_of.ensures in
    let pushed : c.push.new.self.items ≡ old ++ one ∷ [] = c.in_ok-push.ensures.items in
    let Own : ℕ → WindowedView → Type 0 = λ k v. IsOwn greatest_settings k 0 v in
    let Starts : ℕ → WindowedView → Type 0 =
    λ k v. IsStartOf (cut of.start of.floors of.tasks [] k) v.state in
    let Needs : ℕ → WindowedView → Type 0 = λ k v. v.needs ≡ only_slack 0 in
    record {
      count = ap length pushed ∙ length_push old one ∙ ap (λ n. n + 1) before.count;
      own = subst (λ (xs : List Pursuer). (k : ℕ) → k < length xs → Own k (view_at xs k)) (sym pushed)
          (each_more Own old one before.own
          (subst (λ n. IsOwn greatest_settings n 0 (windowed_view one.replay)) (sym before.count) e.own));
      start = subst (λ (xs : List Pursuer). (k : ℕ) → k < length xs → Starts k (view_at xs k)) (sym pushed)
          (each_more Starts old one before.start
          (subst (λ n. IsStartOf (cut of.start of.floors of.tasks [] n) (windowed_view one.replay).state)
          (sym before.count) e.start));
      needs = subst (λ (xs : List Pursuer). (k : ℕ) → k < length xs → Needs k (view_at xs k)) (sym pushed)
          (each_more Needs old one before.needs e.needs);
    }
