use Rattle.std.proofs.Common.{rules, true≢false, sym, ◌∙◌, arith}
use Rattle.std.proofs.lemmas.List.Sorted.{IsPartitionPoint-from_clause}
use Rattle.sched_record.specs.Policies.{stands_before}
use Rattle.sched_record.proofs.SpanIndex.{parted}
use Rattle.sched_record.proofs.policies.span_index.Goals as goal

pub returns : goal.returns
returns c =
    let point = IsPartitionPoint-from_clause (stands_before c.args.line c.args.pid) c.args.spans.now
    c.partition_point.result
    c.partition_point.ensures.partitioned (parted c.args.spans.now c.args.line c.args.pid c.requires)
    (λ a r q k. search rules) in
    record {
      within = c.partition_point.ensures.bound;
      before = λ k d lt. point.0 k d (omega arith) lt;
      behind = λ k d le h passes. absurd (true≢false (sym passes ∙ point.1 k d le h));
    }
