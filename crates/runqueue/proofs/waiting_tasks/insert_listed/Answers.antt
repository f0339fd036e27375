use Rattle.std.proofs.Common.{◌≡◌, ◌<◌, ◌-◌, ◌++◌, ◌∷◌, [], length, drop, ap, ◌∙◌, sym, subst, true, false}
use Rattle.std.proofs.Common.{get_or, refl, arith}
use Rattle.std.specs.BTreeMap.{is_at}
use Rattle.std.specs.List.{remove}
use Rattle.std.specs.Ordering.{is_eq}
use Rattle.std.proofs.lemmas.List.{get_or_default}
use Rattle.std.proofs.lemmas.List.Edits.{get_or-insert_below}
use Rattle.std.proofs.lemmas.List.Folds.{list_any_at}
use Rattle.runqueue.specs.Entities.{by_runtime}
use Rattle.runqueue.specs.WaitingTasks.{Updates, falls, set_of}
use Rattle.runqueue.proofs.WaitingLists.{StandsAt, Walked, differs, equals, inserted_falls, inserted_here}
use Rattle.runqueue.proofs.WaitingLists.{inserted_there}
use Rattle.runqueue.proofs.WaitingLists.{itself, stands_at}
use Rattle.runqueue.proofs.WaitingOrder.{removed_again, settled_all}
use Rattle.runqueue.proofs.waiting_tasks.insert_listed.Goals as goal
use Rattle.runqueue.proofs.waiting_tasks.insert_listed.Goals.{else-place-gt0-via-then-place-gt0+else-eq}
use Rattle.runqueue.proofs.waiting_tasks.insert_listed.Goals.{else-place-gt0-via-else-place-gt0}

pub returns-then-eq-clause-falls : goal.returns-then-eq-clause-falls
returns-then-eq-clause-falls c =
    let items = c.args.list.now.items in
    let task = c.args.task in
    let place = c.settle-place.result in
    let new = c.settle-place.new.list in
    let pushed = c.push_reserved.ensures.items ∙ ap (λ tasks. tasks ++ task ∷ []) c.in_ok-reserve.ensures.items in
    let is = c.deref_mut.ensures.value ∙ pushed in
    let settled = c.settle-place.ensures items is in
    let all = settled_all items new (drop (length new) c.push_reserved.new.self.items) c.deref_mut.result.now task place
    c.push_reserved.new.self.len settled is c.deref_mut.ensures.len in
    subst (λ tasks. falls tasks ≡ true)
    (sym (c.remove.ensures.items ∙ ap (λ tasks. remove tasks place) all
    ∙ removed_again items place task settled.within)) c.requires

pub returns-then-eq-clause-updates : goal.returns-then-eq-clause-updates
returns-then-eq-clause-updates c =
    let items = c.args.list.now.items in
    let task = c.args.task in
    let place = c.settle-place.result in
    let new = c.settle-place.new.list in
    let pushed = c.push_reserved.ensures.items ∙ ap (λ tasks. tasks ++ task ∷ []) c.in_ok-reserve.ensures.items in
    let is = c.deref_mut.ensures.value ∙ pushed in
    let settled = c.settle-place.ensures items is in
    let all = settled_all items new (drop (length new) c.push_reserved.new.self.items) c.deref_mut.result.now task place
    c.push_reserved.new.self.len settled is c.deref_mut.ensures.len in
    let other = c.index.result.now in
    let some = c.if-place-gt0.true in
    let within = settled.within in
    let before : place - 1 < place = omega (arith, some) in
    let found : task ≡ get_or items (place - 1) other =
    sym (equals task other (sym c.if-eq.ensures)) ∙ c.index.ensures
    ∙ ap (λ tasks. get_or tasks (place - 1) other) all
    ∙ get_or-insert_below items place task other (place - 1) before within in
    subst (λ tasks. Updates (set_of items) (set_of tasks) task true)
    (sym (c.remove.ensures.items ∙ ap (λ tasks. remove tasks place) all ∙ removed_again items place task within))
    (record {
      here = list_any_at (is_at (by_runtime task)) items (place - 1) other (omega (arith, some, within))
          (subst (λ x. is_eq (by_runtime task x) ≡ true) found (itself task));
      there = λ other apart. refl;
    })

pub returns-else-place-gt0-clause-falls : goal.returns-else-place-gt0-clause-falls
returns-else-place-gt0-clause-falls c =
    let items = c.args.list.now.items in
    let task = c.args.task in
    let place = c.settle-place.result in
    let new = c.settle-place.new.list in
    let pushed = c.push_reserved.ensures.items ∙ ap (λ tasks. tasks ++ task ∷ []) c.in_ok-reserve.ensures.items in
    let is = c.deref_mut.ensures.value ∙ pushed in
    let settled = c.settle-place.ensures items is in
    let all = settled_all items new (drop (length new) c.push_reserved.new.self.items) c.deref_mut.result.now task place
    c.push_reserved.new.self.len settled is c.deref_mut.ensures.len in
    let walked : Walked task items place = (settled.within, settled.less, settled.stops) in
    let at : StandsAt task items place =
    elim c.else-place-gt0.branch [
      | else-place-gt0-via-then-place-gt0+else-eq w ↦ stands_at task items place walked (λ d some.
          let other = w.index.result.now in
          let within = settled.within in
          let last : place - 1 < length items = omega (arith, within, some) in
          let before : place - 1 < place = omega (arith, some) in
          subst (λ other. is_eq (by_runtime task other) ≡ false)
          (w.index.ensures ∙ ap (λ tasks. get_or tasks (place - 1) other) all
          ∙ get_or-insert_below items place task other (place - 1) before within
          ∙ get_or_default items (place - 1) other d last)
          (differs task other (sym w.eq.ensures ∙ w.if-eq.false)))
      | else-place-gt0-via-else-place-gt0 w ↦ stands_at task items place walked (λ d some.
          (let none = w.if-place-gt0.false in absurd (omega (arith, none, some))))
    ] in
    subst (λ tasks. falls tasks ≡ true) (sym all) (inserted_falls task items place c.requires at)

pub returns-else-place-gt0-clause-updates : goal.returns-else-place-gt0-clause-updates
returns-else-place-gt0-clause-updates c =
    let items = c.args.list.now.items in
    let task = c.args.task in
    let place = c.settle-place.result in
    let new = c.settle-place.new.list in
    let pushed = c.push_reserved.ensures.items ∙ ap (λ tasks. tasks ++ task ∷ []) c.in_ok-reserve.ensures.items in
    let is = c.deref_mut.ensures.value ∙ pushed in
    let settled = c.settle-place.ensures items is in
    let all = settled_all items new (drop (length new) c.push_reserved.new.self.items) c.deref_mut.result.now task place
    c.push_reserved.new.self.len settled is c.deref_mut.ensures.len in
    subst (λ tasks. Updates (set_of items) (set_of tasks) task true) (sym all) (record {
      here = inserted_here task place items;
      there = λ other apart. inserted_there task other place items apart;
    })
