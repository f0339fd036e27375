use Rattle.cfs_model.specs.Limits.{most_processors}
use Rattle.companion_file.proofs.Finishing.{nothing_runs}
use Rattle.companion_file.proofs.draft.Draft.new.Goals as goal

pub invariant_of-result : goal.invariant_of-result
invariant_of-result c = record {
  few = λ n e. absurd cc;
  known = λ cpu h. rw c.new-2.ensures.items (nothing_runs most_processors cpu);
}
