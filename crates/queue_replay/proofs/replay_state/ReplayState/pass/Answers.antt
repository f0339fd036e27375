use Rattle.std.proofs.Common.{◌≡◌, ◌≢◌, ℕ, Ok, ◌∙◌, ◌+◌, ◌-◌, List, All, Option, Some, None, IfSome, option_map, sym}
use Rattle.std.proofs.Common.{ap, subst, inr, refl, nat_eq}
use Rattle.cfs_model.specs.declared.charge_line.ChargeLine.{ChargeLine}
use Rattle.cfs_model.specs.Least.{larger}
use Rattle.cfs_model.specs.declared.memory.Memory.{Memory}
use Rattle.replay_model.specs.Deeds.{reniced}
use Rattle.replay_model.specs.Part.{Part, Entity, IsLiftedPart}
use Rattle.replay_model.specs.QueueTests.{IsWrongCharge}
use Rattle.replay_model.proofs.Clear.{is_told}
use Rattle.replay_model.proofs.PartFacts.{place_lifted}
use Rattle.replay_model.specs.declared.page.Tally.{Tally}
use Rattle.replay_model.specs.declared.step.Deed.{Deed}
use Rattle.queue_replay.specs.Stretches.{IsWithin, stretch_between, stretched}
use Rattle.queue_replay.specs.declared.stretch.Stretch.{Stretch}
use Rattle.queue_replay.specs.Needing.{step_needs}
use Rattle.queue_replay.specs.ReplayState.{replay_state_view}
use Rattle.queue_replay.specs.Rows.{HoldsUnmade, IsTried, NamesMade}
use Rattle.runqueue.specs.Queue.{runqueue_view}
use Rattle.queue_replay.specs.declared.outcome.Outcome.{Outcome}
use Rattle.queue_replay.proofs.Counts.{charged_same}
use Rattle.queue_replay.proofs.Faults.{fails_later}
use Rattle.std.specs.List.{IsDistinct}
use Rattle.queue_replay.specs.Indices.{pids_of}
use Rattle.queue_replay.proofs.Indexed.{rows_after, tallied_pids}
use Rattle.queue_replay.proofs.Growing.{IsRan, ran_picks, stretched_ran, tallied_within}
use Rattle.queue_replay.proofs.Needed.{need_reniced, needs_of_step}
use Rattle.queue_replay.proofs.Noting.{page_is}
use Rattle.queue_replay.proofs.Rows.{is_later}
use Rattle.runqueue.proofs.Renices.{holds_both}
use Rattle.queue_replay.proofs.replay_state.ReplayState.pass.Goals as goal

pub returns-in-Ok-Failed-clause-fails : goal.returns-in-Ok-Failed-clause-fails
returns-in-Ok-Failed-clause-fails g c =
    let l = c.in_default.ensures in
    let right : (pid : ℕ) → ¬ IsWrongCharge c.args.knobs.now.drift (runqueue_view c.args.self.now.queue)
    c.args.step.now.time c.args.step.now.charge pid = λ pid. subst
    (λ n. ¬ IsWrongCharge n (runqueue_view c.args.self.now.queue) c.args.step.now.time c.args.step.now.charge pid)
    c.drift.ensures.same (l.told pid) in
    let lifted = runqueue_view c.lift.new.self in
    let found = reniced c.args.step.now.nice lifted in
    let fault = c.in-Ok-Failed.fault in
    let T : Outcome → Type 0 = λ o. IsTried c.args.knobs.now c.args.cpu found c.args.step.now
    (runqueue_view c.try_on.new.queue) o in
    let tried = subst T c.in-Ok-Failed.field-0-is c.in-Ok-Failed.ensures.tried in
    fails_later c.args.knobs.now c.args.cpu (replay_state_view c.args.self.now) c.args.step.now fault
    (inr (
      found,
      (c.requires.in_time, (l.in_range, (right, tt))),
      record { lifted = lifted; is_lifted = l.lifted; is_reniced = refl },
      tried.0,
    )) tried.1
    (is_later c.args.knobs.now c.args.cpu found c.args.step.now fault.kind fault.pid tried.0)

pub restore-requires : goal.restore-requires
restore-requires g c =
    let q = c.args.self.now.queue in
    let S : Outcome → Type 0 = λ o. HoldsUnmade {E = Memory} (Ok o) c.lift.new.self c.try_on.new.queue in (
      q,
      c.unlifted-before.ensures,
      holds_both q c.lift.new.self c.try_on.new.queue c.lift.ensures.same
          (subst S c.in-Ok-Failed.field-0-is c.in-Ok-Failed.ensures.same),
    )

pub restore-requires-in-Err-try_on : goal.restore-requires-in-Err-try_on
restore-requires-in-Err-try_on g c =
    let q = c.args.self.now.queue in (
      q,
      c.unlifted-before.ensures,
      holds_both q c.lift.new.self c.try_on.new.queue c.lift.ensures.same
          c.in-Err-try_on.ensures.same,
    )

-- a charge that may be told is of a task that stands here after it
stands_after : (bound time : ℕ) (part lifted : Part) (charge : Option ChargeLine)
    → ((pid : ℕ) → ¬ IsWrongCharge bound part time charge pid) → IsLiftedPart time charge part lifted
    → IfSome charge (λ line. lifted.tasks line.pid ≢ None)
stands_after bound time part lifted None right l = tt
stands_after bound time part lifted (Some line) right l = λ none.
    let told = is_told bound part time line right in
    let place : Some told.task.place ≡ None = sym (ap (option_map (λ (s : Entity). s.place)) told.stands)
    ∙ sym (place_lifted time (Some line) part lifted l line.pid) ∙ ap (option_map (λ (s : Entity). s.place)) none in
    absurd cc

pub drift_need-drift-requires : goal.drift_need-drift-requires
drift_need-drift-requires g c =
    let l = c.in_default.ensures in
    stands_after c.drift.result c.args.step.now.time (runqueue_view c.args.self.now.queue)
    (runqueue_view c.lift.new.self) c.args.step.now.charge l.told l.lifted

pub note_stretch-requires-clause-apart : goal.note_stretch-requires-clause-apart
note_stretch-requires-clause-apart g c =
    subst (IsDistinct nat_eq) (sym c.requires.going.by_rows) c.pids-pids.ensures.apart

pub note-requires-clause-by_rows : goal.note-requires-clause-by_rows
note-requires-clause-by_rows g c =
    let old = c.args.self.now in
    let deed = c.args.step.now.deed in
    let N : Outcome → Type 0 = λ o. NamesMade {E = Memory} (Ok o) deed c.lift.new.self c.try_on.new.queue in
    rows_after deed c.stretch_between-stretch.result old.queue.tasks.pids c.lift.new.self.tasks.pids
    c.try_on.new.queue.tasks.pids old.draft.tallies.list.items c.note_stretch.new.self.tallies.list.items
    (subst N c.in-Ok-Made.field-0-is c.in-Ok-Made.ensures.pids) c.lift.ensures.same.pids c.requires.going.by_rows
    c.note_stretch.ensures.tallies

pub note-requires-clause-within : goal.note-requires-clause-within
note-requires-clause-within g c =
    let old = c.args.self.now in
    let ran = stretched_ran old.made c.stretch_between-stretch.result old.draft.tallies.list.items
    c.stretch_between-stretch.ensures.bounds c.requires.going.within in
    let P : List Tally → Type 0 = λ l. All (IsRan old.made) l in
    ran_picks old.made c.note_stretch.new.self.tallies.list.items (subst P (sym c.note_stretch.ensures.tallies) ran)

pub returns-clause-passes : goal.returns-clause-passes
returns-clause-passes g c _ =
    let old = c.args.self.now in
    let q = old.queue in
    let step = c.args.step.now in
    let lifted = runqueue_view c.lift.new.self in
    let l = c.in_default.ensures in
    let right : (pid : ℕ) → ¬ IsWrongCharge c.args.knobs.now.drift (runqueue_view c.args.self.now.queue)
    c.args.step.now.time c.args.step.now.charge pid = λ pid. subst
    (λ n. ¬ IsWrongCharge n (runqueue_view c.args.self.now.queue) c.args.step.now.time c.args.step.now.charge pid)
    c.drift.ensures.same (l.told pid) in
    let T : Outcome → Type 0 = λ o. IsTried c.args.knobs.now c.args.cpu (reniced step.nice lifted) step
    (runqueue_view c.try_on.new.queue) o in
    let tried = subst T c.in-Ok-Made.field-0-is c.in-Ok-Made.ensures.tried in
    let made = c.in-Ok-Made.made in
    let needs = step_needs step.deed made.need c.idled_time-idled.result c.drift_need-drift.result in
    let mid = c.note_stretch.new.self in
    let s = c.note_stretch.ensures.same in
    let ran = stretched_ran old.made c.stretch_between-stretch.result old.draft.tallies.list.items
    c.stretch_between-stretch.ensures.bounds c.requires.going.within in
    let P : List Tally → Type 0 = λ x. All (IsRan old.made) x in
    let W : List Tally → Type 0 = λ x. All (IsWithin (old.made + 1)) x in
    let N : Outcome → Type 0 = λ o. NamesMade {E = Memory} (Ok o) step.deed c.lift.new.self c.try_on.new.queue in
    record {
      passes = (
        needs,
        record {
          passes = record {
            in_time = c.requires.in_time;
            found = reniced step.nice lifted;
            passes = record {
              in_range = l.in_range;
              told = right;
              is_found = record { lifted = lifted; is_lifted = l.lifted; is_reniced = refl };
              none = tried.0;
            };
            part = tried.1;
            since = c.since_after-self.ensures;
            page = page_is old.draft mid c.note.new.self (runqueue_view q)
                (reniced step.nice lifted) step c.in-Ok-Made.made.ticket c.requires.going.fault
                (record { line = s.0; fault = s.1; left = s.2; came = s.3; births = s.4; deaths = s.5 })
                (c.note_stretch.ensures.tallies
                ∙ ap (λ (s : Option Stretch). stretched s old.draft.tallies.list.items)
                (c.stretch_between-stretch.ensures.same
                ∙ ap (λ n. stretch_between c.runner-runner.result c.runner.result n) (c.saturating_sub-time.ensures
                ∙ ap (λ n. step.time - n) c.mark.ensures))
                ∙ sym (charged_same (runqueue_view q) lifted step.time step.charge c.runner-runner.result
                c.runner.result c.runner-runner.ensures l.lifted c.runner.ensures
                old.draft.tallies.list.items))
                tried.2
                (let n = c.note.ensures in record {
                  line = n.line;
                  fault = n.fault;
                  left = n.left;
                  came = n.came;
                  births = n.births;
                  deaths = n.deaths;
                  tallies = n.tallies;
                });
          };
          needs_are = needs_of_step old.since
              (reniced step.nice lifted) step made.need c.idled_time-idled.result c.drift_need-drift.result tried.3
              c.idled_time-idled.ensures
              (need_reniced step.nice lifted step.charge c.drift_need-drift.result c.drift_need-drift.ensures);
        },
        subst (λ (d : Deed). c.raise.new.needs ≡ larger old.needs (step_needs d made.need c.idled_time-idled.result
            c.drift_need-drift.result)) c.requires.deed c.raise.ensures,
      );
      within = subst W (sym c.note.ensures.tallies)
          (tallied_within old.made step.deed mid.tallies.list.items (subst P (sym c.note_stretch.ensures.tallies) ran));
      by_rows = ap pids_of c.note.ensures.tallies ∙ tallied_pids step.deed mid.tallies.list.items
          ∙ sym (rows_after step.deed c.stretch_between-stretch.result q.tasks.pids c.lift.new.self.tasks.pids
          c.try_on.new.queue.tasks.pids old.draft.tallies.list.items mid.tallies.list.items
          (subst N c.in-Ok-Made.field-0-is c.in-Ok-Made.ensures.pids) c.lift.ensures.same.pids
          c.requires.going.by_rows c.note_stretch.ensures.tallies);
    }
