-- Events that are read one after another are in order: each line's number is above those before it.
use Rattle.std.proofs.Common.{ℕ, ◌+◌, ◌<◌, ◌≤◌, List, [], ◌∷◌, ◌++◌, Some, Ok, arith}
use Rattle.std.proofs.lemmas.List.Elements.{All-nil, All-push, All-weaker}
use Rattle.std.proofs.lemmas.List.Quantifiers.{all_pairs_push}
use Rattle.cfs_model.specs.declared.act.Entry.{Entry}
use Rattle.sched_record.specs.Kept.{IsNamed}
use Rattle.sched_record.specs.ReadLines.{AreKept}
use Rattle.sched_record.specs.Said.{LineSays}
use Rattle.sched_record.proofs.Named.{says_named}

-- no event yet
pub none_kept : AreKept [] 0 0
none_kept = record {
  in_order = record {
    from_one = All-nil (λ event. 0 < event.line);
    lines_rise = λ i j d lt h. absurd (omega arith);
    never_falls = λ i j d lt h. absurd (omega arith);
    named = All-nil (λ event. IsNamed event.act);
  };
  lines = All-nil (λ event. event.line ≤ 0);
  times = All-nil (λ event. event.time ≤ 0);
}

-- a line more, with no event on it
pub keeps_on : (events : List Entry) (count last : ℕ) → AreKept events count last → AreKept events (count + 1) last
keeps_on events count last kept = record {
  in_order = kept.in_order;
  lines = All-weaker (λ event. event.line ≤ count) (λ event. event.line ≤ count + 1) (λ event le. omega arith) events
      kept.lines;
  times = kept.times;
}

-- a line more, with an event that isn't earlier than the last
pub keeps_event : (events : List Entry) (count last : ℕ) (line : List ℕ) (event : Entry) → AreKept events count last
    → LineSays (count + 1) line (Ok (Some event)) → last ≤ event.time
    → AreKept (events ++ event ∷ []) (count + 1) event.time
keeps_event events count last line event kept says le =
    let indexed = says.1.indexed in
    record {
      in_order = record {
        from_one = All-push (λ e. 0 < e.line) events event kept.in_order.from_one (omega (arith, indexed));
        lines_rise = all_pairs_push (λ a b. a.line < b.line) events event kept.in_order.lines_rise
            (λ k d h. let before = kept.lines k d h in omega (arith, before, indexed));
        never_falls = all_pairs_push (λ a b. a.time ≤ b.time) events event kept.in_order.never_falls
            (λ k d h. let before = kept.times k d h in omega (arith, before, le));
        named = All-push (λ e. IsNamed e.act) events event kept.in_order.named
            (says_named (count + 1) line event says.1);
      };
      lines = All-push (λ e. e.line ≤ count + 1) events event
          (All-weaker (λ e. e.line ≤ count) (λ e. e.line ≤ count + 1) (λ e below. omega arith) events kept.lines)
          (omega (arith, indexed));
      times = All-push (λ e. e.time ≤ event.time) events event
          (All-weaker (λ e. e.time ≤ last) (λ e. e.time ≤ event.time) (λ e below. omega (arith, below, le)) events
          kept.times)
          (omega arith);
    }
