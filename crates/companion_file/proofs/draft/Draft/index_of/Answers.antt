use Rattle.std.proofs.Common.{rules}
use Rattle.std.proofs.lemmas.List.Sorted.{answers_always}
use Rattle.companion_file.proofs.TaskIndices.{found_task}
use Rattle.companion_file.proofs.draft.Draft.index_of.Goals as goal

-- the closure gives a task's pid
pub returns : goal.returns
returns c =
    let by_pid = c.binary_search_by_key.ensures.position (λ task. task.pid)
    (answers_always _ _ _ (λ f a r g called. search rules)) in
    rw (← c.self.view_is, c.ok.ensures.value, ← c.deref.ensures.value)
    (found_task _ c.args.pid _ (rw (← c.self.view_is, ← c.deref.ensures.value) at c.requires)
    c.binary_search_by_key.ensures.bound by_pid)
