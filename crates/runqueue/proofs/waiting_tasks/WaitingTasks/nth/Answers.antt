use Rattle.std.proofs.Common.{◌≡◌, refl, true≢false, ℕ, zero, suc, ◌++◌, reverse}
use Rattle.std.proofs.Common.{ap, ◌∙◌, sym, subst, slice_get, length, ◌<◌, arith}
use Rattle.std.specs.List.Sorted.{IsStrictlySortedBy}
use Rattle.std.proofs.lemmas.List.{append-nil, nil_from_length}
use Rattle.std.proofs.lemmas.Iterator.Consumers.{YieldsList-from_rest, nth_from_yields_List}
use Rattle.runqueue.specs.Entities.{by_runtime}
use Rattle.runqueue.proofs.WaitingOrder.{ascends}
use Rattle.runqueue.proofs.waiting_tasks.WaitingTasks.nth.Goals as goal

pub returns-then-is_empty-clause-ordered : goal.returns-then-is_empty-clause-ordered
returns-then-is_empty-clause-ordered c =
    let self = c.self.inside in
    let items = self.list.items in
    let none = nil_from_length self.tree.keys (c.is_empty.ensures.0 c.if-is_empty.true) in
    subst (λ set. IsStrictlySortedBy by_runtime set.keys) c.self.view_is
    (subst (IsStrictlySortedBy by_runtime)
    (sym (append-nil (reverse items)) ∙ ap (λ keys. reverse items ++ keys) (sym none))
    (ascends items self.in_order))

pub returns-else-is_empty-clause-at : goal.returns-else-is_empty-clause-at
returns-else-is_empty-clause-at c =
    let self = c.self.inside in
    let keys = self.tree.keys in
    let index = c.args.index in
    let none = nil_from_length self.list.items (self.apart (more (length keys)
    (λ empty. true≢false (sym (c.is_empty.ensures.1 empty) ∙ c.if-is_empty.false)))) in
    c.copied.ensures
    ∙ nth_from_yields_List c.nth.result c.nth.new.self index c.nth.ensures.ran
    (YieldsList-from_rest keys c.iter.ensures.rest)
    ∙ ap (λ items. slice_get (reverse items ++ keys) index) (sym none)
    ∙ ap (λ set. slice_get set.keys index) c.self.view_is
  where
    more : (count : ℕ) → (count ≡ 0 → ⊥) → 0 < count
    more zero some = absurd (some refl)
    more (suc count) some = omega arith
