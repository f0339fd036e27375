use Rattle.std.proofs.Common.{◌≡◌, ◌≢◌, suc, ◌-◌, ◌<◌, true, false, length, drop, ap, ◌∙◌, sym, subst}
use Rattle.std.proofs.Common.{refl, Some, pos, slice_set, slice_index_or, arith}
use Rattle.std.specs.List.{insert, list_all}
use Rattle.std.specs.Ordering.{int_cmp, is_gt, is_lt, is_some_and, nat_cmp, ordering_then, partial_ordering_then}
use Rattle.std.specs.declared.cmp.Ordering.{Ordering}
use Rattle.std.specs.declared.cmp.Ordering.TheVariants.{Less, Equal, Greater}
use Rattle.std.proofs.lemmas.List.{drop_all, get_or-set_other, get_or_default, length-set, length_push, set-set}
use Rattle.std.proofs.lemmas.List.Edits.{get_or-insert_below}
use Rattle.runqueue.specs.Entities.{by_runtime}
use Rattle.runqueue.specs.declared.waiting_task.WaitingTask.{WaitingTask}
use Rattle.runqueue.proofs.WaitingLists.{above_less}
use Rattle.runqueue.proofs.WaitingOrder.{less_before, not_above, one_before, set_last}
use Rattle.runqueue.proofs.waiting_tasks.settle.Goals as goal
use Rattle.runqueue.proofs.waiting_tasks.settle.Goals.{then-loop-place-test+else-lt, else-loop-place-test}

abbrev zero_task : WaitingTask
zero_task = record { v = pos 0; pid = 0 }

is_less : (a b : Ordering) → is_some_and is_lt (partial_ordering_then (Some a) (Some b)) ≡ is_lt (ordering_then a b)
is_less Less b = refl
is_less Equal b = refl
is_less Greater b = refl

pub loop-place-init : goal.loop-place-init
loop-place-init c =
    let list = c.args.list.now in
    let task = c.args.task in
    let some = ap length c.requires.1 ∙ length_push c.requires.0 task in
    record {
      within = omega (arith, some);
      settled = λ tasks is.
          let n = ap length is ∙ length_push tasks task in
          let last : length list - 1 ≡ length tasks = omega (arith, n) in (
            omega (arith, last),
            ap (λ k. slice_set list k task) last ∙ ap (λ l. slice_set l (length tasks) task) is ∙ set_last tasks task
                ∙ ap (λ k. insert tasks k task) (sym last),
            subst (λ k. list_all (λ other. is_gt (by_runtime task other)) (drop k tasks) ≡ true) (sym last)
                (ap (list_all (λ other. is_gt (by_runtime task other))) (drop_all (length tasks) tasks (omega arith))),
          );
    }

pub loop-place-preserved : goal.loop-place-preserved
loop-place-preserved c =
    let place = c.loop-place.place in
    let list = c.loop-place.list in
    let task = c.args.task in
    let i = place - 1 in
    let other = slice_index_or list i zero_task in
    let some = c.loop-place-test.true in
    let at : place ≡ suc i = omega (arith, some) in
    let apart : i ≢ place = λ e. omega (arith, some, e) in
    let lt : c.lt.result ≡ is_lt (by_runtime other task) =
    c.lt.ensures ∙ is_less (int_cmp other.v task.v) (nat_cmp other.pid task.pid) in
    let above : is_gt (by_runtime task other) ≡ true = above_less other task (sym lt ∙ c.if-lt.true) in
    record {
      within = (let w = c.loop-place.invariant.within in let n = length-set list place other in
          omega (arith, w, n));
      settled = λ tasks is.
          let h = c.loop-place.invariant.settled tasks is in
          let w = h.0 in
          let within : i < length tasks = omega (arith, w, some) in
          let all : slice_set list place task ≡ insert tasks (suc i) task = h.1 ∙ ap (λ k. insert tasks k task) at in
          let same : slice_index_or (insert tasks (suc i) task) i zero_task ≡ other =
          ap (λ l. slice_index_or l i zero_task) (sym all) ∙ get_or-set_other list place i task zero_task apart in
          let moved : slice_set (slice_set list place other) i task ≡ insert tasks i task =
          ap (λ l. slice_set l i task) (sym (set-set list place task other) ∙ ap (λ l. slice_set l place other) all
          ∙ ap (λ k. slice_set (insert tasks (suc i) task) k other) at
          ∙ ap (slice_set (insert tasks (suc i) task) (suc i)) (sym same))
          ∙ one_before tasks i task zero_task within in
          let less = less_before tasks i task zero_task within
          (subst (λ x. is_gt (by_runtime task x) ≡ true) (sym same) above)
          (subst (λ k. list_all (λ other. is_gt (by_runtime task other)) (drop k tasks) ≡ true) at h.2) in
          (omega (arith, w), moved, less);
    }

pub returns : goal.returns
returns c tasks is =
    let place = c.loop-place.place in
    let list = c.loop-place.list in
    let task = c.args.task in
    let h = c.loop-place.invariant.settled tasks is in
    record {
      within = h.0;
      all_is = h.1;
      less = h.2;
      stops = λ d some.
          elim c.loop-place-test.branch [
            | then-loop-place-test+else-lt w ↦
                let i = place - 1 in
                let within = h.0 in
                let before : i < place = omega (arith, some) in
                let there : i < length tasks = omega (arith, within, some) in
                let apart : i ≢ place = λ e. omega (arith, some, e) in
                let other = slice_index_or list i zero_task in
                let same : other ≡ slice_index_or tasks i d =
                sym (get_or-set_other list place i task zero_task apart) ∙ ap (λ l. slice_index_or l i zero_task) h.1
                ∙ get_or-insert_below tasks place task zero_task i before within
                ∙ get_or_default tasks i zero_task d there in
                let lt : w.lt.result ≡ is_lt (by_runtime other task) =
                w.lt.ensures ∙ is_less (int_cmp other.v task.v) (nat_cmp other.pid task.pid) in
                subst (λ x. is_gt (by_runtime task x) ≡ false) same
                (not_above task other (sym lt ∙ w.if-lt.false))
            | else-loop-place-test w ↦ (let none = w.loop-place-test.false in absurd (omega (arith, none, some)))
          ];
    }
