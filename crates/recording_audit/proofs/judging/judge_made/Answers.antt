use Rattle.std.proofs.Common.{rules}
use Rattle.sched_record.specs.Record.{record_view}
use Rattle.recording_audit.proofs.judging.judge_made.Goals as goal

-- the figures are those of the record that was joined
pub returns-in_ok-over-in-Found : goal.returns-in_ok-over-in-Found
returns-in_ok-over-in-Found g c = record {
  events = c.requires.events;
  means = c.requires.means;
  counted = c.requires.counted;
  times = c.requires.times;
  joined = record_view c.in-Ok.joined;
  is_record = search rules;
  least = search rules;
  tells = search rules;
  over = search rules;
}

-- and so is the fault
pub returns-in-Fault : goal.returns-in-Fault
returns-in-Fault g c = (c.args.companion.items, (record_view c.in-Ok.joined, search rules, search rules), search rules)
