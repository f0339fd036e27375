use Rattle.std.proofs.Common.{List, All, sym, subst, ap, ◌∙◌}
use Rattle.replay_model.specs.declared.page.Tally.{Tally}
use Rattle.queue_replay.specs.Indices.{pids_of}
use Rattle.queue_replay.specs.declared.row_tallies.RowTallies.{RowTallies}
use Rattle.queue_replay.specs.Stretches.{IsWithin}
use Rattle.queue_replay.proofs.Growing.{new_within}
use Rattle.queue_replay.proofs.Indexed.{new_pids}
use Rattle.queue_replay.proofs.windowed.WindowedReplay.of_runqueue.Goals as goal

pub invariant_of-result : goal.invariant_of-result
invariant_of-result c =
    let W : List Tally → Type 0 = λ l. All (IsWithin 0) l in
    record {
      going = λ _. record {
        fault = c.state_before.ensures.fault;
        within = rw (c.state_before.ensures.made, c.state_before.ensures.tallies)
            (subst W (sym c.in_ok-tallies.ensures) (new_within c.pids.result.now));
        by_rows = ap (λ (t : RowTallies). pids_of t.list.items) c.state_before.ensures.tallies
            ∙ ap pids_of c.in_ok-tallies.ensures ∙ new_pids c.pids.result.now ∙ c.pids.ensures.pids
            ∙ sym c.state_before.ensures.pids;
      };
    }
