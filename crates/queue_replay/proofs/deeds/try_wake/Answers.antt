use Rattle.std.proofs.Common.{◌≡◌, ◌∙◌, sym, ap, subst, refl, rules, to_z, of_z, w64, Option}
use Rattle.cfs_model.specs.declared.claim.Claim.{Claim}
use Rattle.replay_model.specs.AfterDeed.{after_deed}
use Rattle.replay_model.specs.Needs.{IsExcess}
use Rattle.replay_model.specs.declared.step.Deed.{Deed}
use Rattle.replay_model.specs.declared.step.Deed.TheVariants.{Wake}
use Rattle.queue_replay.specs.Needing.{IsNeed}
use Rattle.runqueue.specs.Queue.{runqueue_view}
use Rattle.queue_replay.specs.Rows.{pids_after, wake_tests}
use Rattle.queue_replay.proofs.Passed.{unwoken}
use Rattle.queue_replay.proofs.Rows.{wake_row, fails, passes}
use Rattle.queue_replay.proofs.deeds.try_wake.Goals as goal

pub returns-in-Some-clause-tried : goal.returns-in-Some-clause-tried
returns-in-Some-clause-tried c cpu =
    let part = runqueue_view c.args.queue.now in
    let step = c.args.step.now in
    let deed = Wake c.args.pid c.args.nice in
    fails c.args.knobs.now cpu part step deed step.claim (wake_tests c.args.knobs.now.credit part deed step.claim)
    (wake_row c.args.knobs.now cpu part c.args.pid c.args.nice step.claim) c.requires refl part c.in-Some.fault
    c.in-Some.ensures.line c.in-Some.ensures.first

pub returns-in_default-claim-clause-tried : goal.returns-in_default-claim-clause-tried
returns-in_default-claim-clause-tried c cpu =
    let part = runqueue_view c.args.queue.now in
    let step = c.args.step.now in
    let deed = Wake c.args.pid c.args.nice in
    passes c.args.knobs.now cpu part step deed step.claim (wake_tests c.args.knobs.now.credit part deed step.claim)
    (wake_row c.args.knobs.now cpu part c.args.pid c.args.nice step.claim) c.requires refl part _
    c.in_default.ensures.first
    (sym (unwoken part c.args.pid) ∙ ap (after_deed part deed) (sym c.in_default-claim.is)) refl
    (subst (λ (x : Option Claim). IsNeed part deed x 0) (sym c.in_default-claim.is) refl)

pub returns-clause-tried : goal.returns-clause-tried
returns-clause-tried c cpu =
    let part = runqueue_view c.args.queue.now in
    let step = c.args.step.now in
    let deed = Wake c.args.pid c.args.nice in
    let claim = c.in-Some-claim.claim in
    let at : to_z w64 (of_z w64 claim.v) ≡ claim.v = search rules in
    let floor : to_z w64 (of_z w64 c.floor.result) ≡ c.floor.result = search rules in
    passes c.args.knobs.now cpu part step deed step.claim (wake_tests c.args.knobs.now.credit part deed step.claim)
    (wake_row c.args.knobs.now cpu part c.args.pid c.args.nice step.claim) c.requires refl _ _
    c.in_default.ensures.first
    (c.in_ok-wake.ensures.part ∙ ap (after_deed part deed) (sym c.in-Some-claim.is)) refl
    (subst (λ (x : Option Claim). IsNeed part deed x c.excess-need.result) (sym c.in-Some-claim.is)
    (subst (λ v. IsExcess part.floor v c.excess-need.result) at
    (subst (λ v. IsExcess v (to_z w64 (of_z w64 claim.v)) c.excess-need.result) (floor
    ∙ c.floor.ensures) c.excess-need.ensures)))

pub returns-in_default-claim-clause-pids : goal.returns-in_default-claim-clause-pids
returns-in_default-claim-clause-pids c = ap (λ (d : Deed). pids_after d c.args.queue.now.tasks.pids) (sym c.requires)

pub returns-clause-pids : goal.returns-clause-pids
returns-clause-pids c =
    c.in_ok-wake.ensures.pids ∙ ap (λ (d : Deed). pids_after d c.args.queue.now.tasks.pids) (sym c.requires)
