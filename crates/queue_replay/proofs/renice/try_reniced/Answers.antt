use Rattle.std.proofs.Common.{Ok, ap, subst, sym, ◌∙◌}
use Rattle.cfs_model.specs.declared.memory.Memory.{Memory}
use Rattle.queue_replay.specs.Rows.{HoldsUnmade, IsDeedTried, NamesMade, pids_after}
use Rattle.queue_replay.specs.declared.outcome.Outcome.{Outcome}
use Rattle.queue_replay.specs.declared.outcome.Outcome.TheVariants.{Made, Failed}
use Rattle.replay_model.specs.Part.{Part}
use Rattle.runqueue.specs.Queue.{runqueue_view}
use Rattle.queue_replay.proofs.Renices.{deed_after, strange_first}
use Rattle.runqueue.proofs.Renices.{renice_undone}
use Rattle.queue_replay.proofs.renice.try_reniced.Goals as goal

pub returns-in_default-clause-tried : goal.returns-in_default-clause-tried
returns-in_default-clause-tried c =
    strange_first c.args.knobs.now c.args.cpu (runqueue_view c.args.queue.now) c.args.step.now c.args.change
    (runqueue_view c.renice.new.self) c.requires
    (c.renice.ensures.strange c.in_default.is)

pub returns-in-Ok-Made-clause-tried : goal.returns-in-Ok-Made-clause-tried
returns-in-Ok-Made-clause-tried c =
    let after = runqueue_view c.try_deed.new.queue in
    let outcome = Made c.in-Ok-Made.deed in
    let T : Part → Outcome → Type 0 = λ part o. IsDeedTried c.args.knobs.now c.args.cpu part c.args.step.now
    (runqueue_view c.try_deed.new.queue) o in
    deed_after c.args.knobs.now c.args.cpu (runqueue_view c.args.queue.now) c.args.step.now c.args.change after outcome
    c.requires
    (c.renice.ensures.stands (λ e. let f = sym c.in-Some.is ∙ e in cc))
    (subst (λ (part : Part). T part (Made c.in-Ok-Made.deed)) c.renice.ensures.part
    (subst (T (runqueue_view c.renice.new.self)) c.in-Ok-Made.field-0-is c.in-Ok-Made.ensures.tried))

pub returns-in-Ok-Failed-clause-tried : goal.returns-in-Ok-Failed-clause-tried
returns-in-Ok-Failed-clause-tried c =
    let after = runqueue_view c.try_deed.new.queue in
    let outcome = Failed c.in-Ok-Failed.fault in
    let T : Part → Outcome → Type 0 = λ part o. IsDeedTried c.args.knobs.now c.args.cpu part c.args.step.now
    (runqueue_view c.try_deed.new.queue) o in
    deed_after c.args.knobs.now c.args.cpu (runqueue_view c.args.queue.now) c.args.step.now c.args.change after outcome
    c.requires
    (c.renice.ensures.stands (λ e. let f = sym c.in-Some.is ∙ e in cc))
    (subst (λ (part : Part). T part (Failed c.in-Ok-Failed.fault)) c.renice.ensures.part
    (subst (T (runqueue_view c.renice.new.self)) c.in-Ok-Failed.field-0-is c.in-Ok-Failed.ensures.tried))

pub returns-in-Ok-Failed-clause-same : goal.returns-in-Ok-Failed-clause-same
returns-in-Ok-Failed-clause-same c =
    let lifted = c.renice.new.self in
    let tried = c.try_deed.new.queue in
    let S : Outcome → Type 0 = λ o. HoldsUnmade {E = Memory} (Ok o) c.renice.new.self c.try_deed.new.queue in
    renice_undone c.args.queue.now lifted tried c.renice-in-Ok-Failed.new.self c.args.change.pid c.args.change.nice
    c.in-Some.before
    c.renice.ensures.reniced (subst S c.in-Ok-Failed.field-0-is c.in-Ok-Failed.ensures.same)
    c.renice-in-Ok-Failed.ensures.reniced
    (sym c.in-Some.is ∙ c.renice.ensures.before)

pub returns-in-Err-clause-same : goal.returns-in-Err-clause-same
returns-in-Err-clause-same c =
    renice_undone c.args.queue.now c.renice.new.self c.try_deed.new.queue c.renice-in-Err.new.self c.args.change.pid
    c.args.change.nice c.in-Some.before
    c.renice.ensures.reniced c.in-Err.ensures.same c.renice-in-Err.ensures.reniced (sym c.in-Some.is
    ∙ c.renice.ensures.before)

pub returns-in-Ok-Made-clause-pids : goal.returns-in-Ok-Made-clause-pids
returns-in-Ok-Made-clause-pids c =
    let N : Outcome → Type 0 = λ o. NamesMade {E = Memory} (Ok o) c.args.step.now.deed c.renice.new.self
    c.try_deed.new.queue in
    subst N c.in-Ok-Made.field-0-is c.in-Ok-Made.ensures.pids
    ∙ ap (pids_after c.args.step.now.deed) c.renice.ensures.reniced.pids
