use Rattle.std.proofs.Common.{◌≡◌, ◌<◌, ◌≤◌, ◌-◌, take, length, vec_len, ap, ◌∙◌, sym, subst, true, false, get_or, refl}
use Rattle.std.proofs.Common.{arith}
use Rattle.std.specs.Ordering.{is_eq}
use Rattle.std.proofs.lemmas.List.{get_or_default}
use Rattle.runqueue.specs.Entities.{by_runtime}
use Rattle.runqueue.specs.WaitingTasks.{Updates, falls, set_of}
use Rattle.runqueue.proofs.WaitingLists.{StandsAt, Walked, absent, differs, equals, removed_falls, removed_here}
use Rattle.runqueue.proofs.WaitingLists.{last_removed, removed_there, stands_at}
use Rattle.runqueue.proofs.waiting_tasks.remove_listed.Goals as goal
use Rattle.runqueue.proofs.waiting_tasks.remove_listed.Goals.{else-place-gt0-via-then-place-gt0+else-eq-2}
use Rattle.runqueue.proofs.waiting_tasks.remove_listed.Goals.{else-place-gt0-via-else-place-gt0}

pub returns-then-eq-clause-falls : goal.returns-then-eq-clause-falls
returns-then-eq-clause-falls c =
    let items = c.args.list.now.items in
    let n = c.len-count.ensures in
    let t = c.if-count-gt0.true in
    let some : 0 < length items = omega (arith, n, t) in
    let count : length items ≡ vec_len c.args.list.now = omega arith in
    subst (λ tasks. falls tasks ≡ true)
    (last_removed items some ∙ ap (λ count. take (count - 1) items) count ∙ sym c.pop-least.ensures.rest)
    (removed_falls (length items - 1) items c.requires)

pub returns-then-eq-clause-updates : goal.returns-then-eq-clause-updates
returns-then-eq-clause-updates c =
    let items = c.args.list.now.items in
    let index = length items - 1 in
    let n = c.len-count.ensures in
    let t = c.if-count-gt0.true in
    let some : 0 < length items = omega (arith, n, t) in
    let within : index < length items = omega (arith, n, t) in
    let count : length items ≡ vec_len c.args.list.now = omega arith in
    let known : c.len-count.result ≡ length items = omega (arith, n) in
    let is : c.args.task ≡ get_or items index c.args.task =
    subst (λ other. other ≡ get_or items index other)
    (equals c.args.task c.index.result.now (sym c.if-eq.ensures))
    (c.index.ensures ∙ ap (λ count. get_or items (count - 1) c.index.result.now) known) in
    subst (λ tasks. Updates (set_of items) (set_of tasks) c.args.task false)
    (last_removed items some ∙ ap (λ count. take (count - 1) items) count ∙ sym c.pop-least.ensures.rest)
    (record {
      here = removed_here c.args.task index items c.requires within is;
      there = λ other apart. removed_there c.args.task other index items apart within is;
    })

pub returns-then-eq-2-clause-falls : goal.returns-then-eq-2-clause-falls
returns-then-eq-2-clause-falls c =
    let items = c.args.list.now.items in
    subst (λ tasks. falls tasks ≡ true) (sym c.remove.ensures.items)
    (removed_falls (c.place_in-place.result - 1) items c.requires)

pub returns-then-eq-2-clause-updates : goal.returns-then-eq-2-clause-updates
returns-then-eq-2-clause-updates c =
    let items = c.args.list.now.items in
    let index = c.place_in-place.result - 1 in
    let walked : c.place_in-place.result ≤ length items =
    subst (λ tasks. c.place_in-place.result ≤ length tasks) c.deref.ensures.value c.place_in-place.ensures.within in
    let t = c.if-place-gt0.true in
    let within : index < length items = omega (arith, walked, t) in
    let is : c.args.task ≡ get_or items index c.args.task =
    subst (λ other. other ≡ get_or items index other)
    (equals c.args.task c.index-then-place-gt0.result.now (sym c.if-eq-2.ensures)) c.index-then-place-gt0.ensures in
    subst (λ tasks. Updates (set_of items) (set_of tasks) c.args.task false) (sym c.remove.ensures.items)
    (record {
      here = removed_here c.args.task index items c.requires within is;
      there = λ other apart. removed_there c.args.task other index items apart within is;
    })

pub returns-else-place-gt0-clause-updates : goal.returns-else-place-gt0-clause-updates
returns-else-place-gt0-clause-updates c =
    let items = c.args.list.now.items in
    let task = c.args.task in
    let i = c.place_in-place.result in
    let found = c.place_in-place.ensures in
    let walked : Walked task items i =
    subst (λ tasks. Walked task tasks i) c.deref.ensures.value (found.within, found.less, found.stops) in
    let at : StandsAt task items i =
    elim c.else-place-gt0.branch [
      | else-place-gt0-via-then-place-gt0+else-eq-2 w ↦ stands_at task items i walked (λ d some.
          let other = w.index-then-place-gt0.result.now in
          let n = walked.0 in
          let last : i - 1 < length items = omega (arith, n, some) in
          subst (λ other. is_eq (by_runtime task other) ≡ false)
          (w.index-then-place-gt0.ensures ∙ get_or_default items (i - 1) other d last)
          (differs task other (sym w.eq-then-place-gt0.ensures ∙ w.if-eq-2.false)))
      | else-place-gt0-via-else-place-gt0 w ↦ stands_at task items i walked (λ d some.
          (let none = w.if-place-gt0.false in absurd (omega (arith, none, some))))
    ] in
    record {
      here = absent task items i c.requires at;
      there = λ other apart. refl;
    }
