use Rattle.std.proofs.Common.{List, All, map, rules, sym, subst, ap, ◌∙◌}
use Rattle.cfs_model.specs.declared.task.Task.{Task}
use Rattle.replay_model.specs.Noted.{new_tally}
use Rattle.replay_model.specs.Page.{start_page}
use Rattle.replay_model.specs.declared.page.Tally.{Tally}
use Rattle.processor_stream.specs.Stream.{stream_view}
use Rattle.queue_replay.specs.Counting.{page_draft_view}
use Rattle.queue_replay.specs.Indices.{pids_of}
use Rattle.queue_replay.specs.declared.row_tallies.RowTallies.{RowTallies}
use Rattle.queue_replay.specs.Stretches.{IsWithin}
use Rattle.queue_replay.proofs.Growing.{new_within}
use Rattle.queue_replay.proofs.Indexed.{new_of_tasks, new_pids}
use Rattle.queue_replay.proofs.Noting.{same_page}
use Rattle.queue_replay.proofs.running.before_steps.Goals as goal

pub returns-clause-start : goal.returns-clause-start
returns-clause-start c =
    let e = c.state_before.ensures in
    record {
      part = search rules;
      since = search rules;
      page = same_page (page_draft_view c.state_before.result.draft) (start_page (stream_view c.args.stream.now))
          e.line e.fault e.lists.0 e.lists.1 e.lists.2 e.lists.3
          (ap (λ (t : RowTallies). t.list.items) e.tallies ∙ c.in_ok-tallies.ensures
          ∙ ap (map new_tally) (c.pids.ensures.pids ∙ c.in_ok-queue.ensures.pids)
          ∙ new_of_tasks c.tasks.result.now ∙ ap (map (λ (t : Task). new_tally t.pid)) c.tasks.ensures);
    }

pub returns-clause-going : goal.returns-clause-going
returns-clause-going c =
    let W : List Tally → Type 0 = λ l. All (IsWithin 0) l in
    record {
      fault = c.state_before.ensures.fault;
      within = rw (c.state_before.ensures.made, c.state_before.ensures.tallies)
          (subst W (sym c.in_ok-tallies.ensures) (new_within c.pids.result.now));
      by_rows = ap (λ (t : RowTallies). pids_of t.list.items) c.state_before.ensures.tallies
          ∙ ap pids_of c.in_ok-tallies.ensures ∙ new_pids c.pids.result.now ∙ c.pids.ensures.pids
          ∙ sym c.state_before.ensures.pids;
    }
