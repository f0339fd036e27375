use Rattle.std.proofs.Common.{rules}
use Rattle.std.proofs.lemmas.List.Sorted.{answers_always}
use Rattle.companion_file.proofs.Sorting.{sorted_spans}
use Rattle.companion_file.proofs.spans.IdleSpans.of.Goals as goal

-- the closure gives a span's pid and first line
pub returns : goal.returns
returns c =
    sorted_spans c.args.idles.now c.in_ok-items.items.items c.sort_unstable_by_key.new.self.items c.requires
    c.in_ok-items.ensures c.sort_unstable_by_key.ensures.permutation
    (c.sort_unstable_by_key.ensures.sorted (λ span. (span.pid, span.from))
    (answers_always _ _ _ (λ f a r g called. search rules)))
