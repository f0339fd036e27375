use Rattle.std.proofs.Common.{◌<◌, ◌+◌, ◌-◌, ◌^◌, ◌++◌, length, map, refl, sym, ap, subst, ◌∙◌, arith}
use Rattle.std.proofs.Math.Path.{fun_ext}
use Rattle.std.proofs.lemmas.List.{map-append, take_all}
use Rattle.std.specs.Bool.{OnTrue}
use Rattle.cfs_model.specs.Claimed.{Claimed}
use Rattle.cfs_model.specs.declared.act.Entry.{Entry}
use Rattle.replay_model.specs.Roll.{named, roll_after, roll_of}
use Rattle.ticket_book.specs.Alive.{alive_view}
use Rattle.ticket_book.specs.EventCounts.{AreCountsBelow, counts_of}
use Rattle.ticket_book.specs.Naming.{births_in, with_named}
use Rattle.ticket_book.specs.RunSums.{AreSumsOf}
use Rattle.ticket_book.specs.Told.{TellFaultFrom, cause_view, view_at}
use Rattle.ticket_book.specs.Walk.{IsPlain, NoneFaulty, StandsAt}
use Rattle.window_laws.specs.InWindow.{SayNothingInWindow}
use Rattle.window_laws.proofs.Appended.{roll_append}
use Rattle.ticket_book.proofs.Counted.{all_counted, one_counted}
use Rattle.ticket_book.proofs.Counting.{counts_below}
use Rattle.ticket_book.proofs.Plain.{none_named, plain_allowed, plain_roll}
use Rattle.ticket_book.proofs.Walked.{alive_is_done, said_at, said_rises, walk_ends, walk_goes_on, walk_is_done}
use Rattle.ticket_book.proofs.Walked.{walk_stands, walk_starts, said_length}
use Rattle.ticket_book.proofs.window_book.WindowBook.close.Goals as goal

pub loop-event-init : goal.loop-event-init
loop-event-init g c = record {
  sums = record { events_before = refl; counts_before = refl; counted = refl; named = refl };
  come = λ said are.
      walk_starts (map g.P.Paged.page c.args.pages.now) (length c.args.pages.now) (alive_view c.args.self.now.alive)
      said c.in_ok-walk.walk c.args.self.now.alive (λ pid. refl) c.in_ok-walk.ensures;
}

pub with-counts-requires : goal.with-counts-requires
with-counts-requires g c =
    subst (AreCountsBelow (2 ^ 64 - 1)) (sym c.loop-event.invariant.sums.counted)
    (counts_below c.args.events.now c.loop-event.event-index (2 ^ 64 - 1) c.loop-event-test.true (omega arith))

pub fault-requires-clause-stands : goal.fault-requires-clause-stands
fault-requires-clause-stands g c =
    walk_stands (map g.P.Paged.page c.args.pages.now) (length c.args.pages.now) (alive_view c.args.self.now.alive)
    c.args.events.now c.loop-event.event-index c.event-item.result c.loop-event.walk c.loop-event.self.alive
    c.loop-event.invariant.come c.loop-event-test.true c.event-item.is

pub loop-event-preserved-then-is_plain : goal.loop-event-preserved-then-is_plain
loop-event-preserved-then-is_plain g c =
    let sums = c.loop-event.self.sums in
    let alive = c.loop-event.self.alive in
    let event = c.event-item.result in
    record {
      sums = one_counted c.args.events.now c.args.self.now.sums c.loop-event.event-index event c.loop-event-test.true
          c.event-item.is c.loop-event.counts c.with_plain-counts.result sums sums c.loop-event.invariant.sums
          c.with_plain-counts.ensures refl refl (none_named event.act c.if-is_plain.ensures sums.tallies.table.rows);
      come = λ said are.
          let pages = map g.P.Paged.page c.args.pages.now in
          let i = c.loop-event.event-index in
          let here = said_at said c.args.events.now i event are c.loop-event-test.true c.event-item.is in
          let stands = subst (λ (e : Entry). StandsAt pages e.line c.loop-event.walk) (sym here.1)
          (walk_stands pages (length c.args.pages.now) (alive_view c.args.self.now.alive) c.args.events.now i event
          c.loop-event.walk alive c.loop-event.invariant.come c.loop-event-test.true c.event-item.is) in
          let plain = subst (λ (e : Entry). IsPlain e.act) (sym here.1) c.if-is_plain.ensures in
          let none = subst (λ b. OnTrue b (NoneFaulty pages (length pages))) c.if-walk.true stands.faultless in
          walk_goes_on pages (length c.args.pages.now) (alive_view c.args.self.now.alive) said i here.0 here.2 here.3
          c.loop-event.walk c.loop-event.walk alive alive (said_rises said c.args.events.now are c.requires.in_order)
          (c.loop-event.invariant.come said are) stands
          (plain_allowed pages (length c.args.pages.now) (alive_view alive) here.0 plain none)
          (plain_roll (alive_view alive) here.0.entry.act plain);
    }

pub loop-event-preserved : goal.loop-event-preserved
loop-event-preserved g c = record {
  sums = one_counted c.args.events.now c.args.self.now.sums c.loop-event.event-index c.event-item.result
      c.loop-event-test.true c.event-item.is c.loop-event.counts c.with-counts.result c.loop-event.self.sums _
      c.loop-event.invariant.sums c.with-counts.ensures refl refl c.in_ok-name_born.ensures;
  come = λ said are.
      let pages = map g.P.Paged.page c.args.pages.now in
      let alive = c.loop-event.self.alive in
      let here = said_at said c.args.events.now c.loop-event.event-index c.event-item.result are c.loop-event-test.true
      c.event-item.is in
      walk_goes_on pages (length c.args.pages.now) (alive_view c.args.self.now.alive) said c.loop-event.event-index
      here.0 here.2 here.3 c.loop-event.walk c.fault.new.self alive c.pass.new.self
      (said_rises said c.args.events.now are c.requires.in_order) (c.loop-event.invariant.come said are)
      (subst (λ (e : Entry). StandsAt pages e.line c.fault.new.self) (sym here.1) c.fault.ensures.stands)
      (c.in_default.ensures.said here.0 here.1)
      (λ pid. c.in_ok-pass.ensures pid ∙ ap (λ (e : Entry). roll_after (alive_view alive) e.act pid) (sym here.1));
}

pub returns-in-Some-clause-told : goal.returns-in-Some-clause-told
returns-in-Some-clause-told g c = λ tasks so_far window are of.
    let pages = view_at (map g.P.Paged.page c.args.pages.now) in
    let cpus = length c.args.pages.now in
    let first = alive_view c.args.self.now.alive in
    let fault = c.in-Some.fault in
    let here = said_at window c.args.events.now c.loop-event.event-index c.event-item.result are c.loop-event-test.true
    c.event-item.is in
    subst (λ alive. TellFaultFrom pages cpus alive window fault.line (cause_view fault)) (fun_ext of.alive)
    (subst (λ n. TellFaultFrom pages cpus first window n (cause_view fault))
    (ap (λ (e : Entry). e.line) here.1 ∙ sym c.in-Some.ensures.line)
    (walk_ends (map g.P.Paged.page c.args.pages.now) cpus first window c.loop-event.event-index here.0 here.2 here.3
    c.loop-event.walk c.loop-event.self.alive (cause_view fault) (c.loop-event.invariant.come window are)
    (c.in-Some.ensures.said here.0 here.1)))

pub add-requires-clause-fit : goal.add-requires-clause-fit
add-requires-clause-fit g c =
    subst (λ n. n + length c.args.events.now < 2 ^ 64) (sym c.loop-event.invariant.sums.events_before) c.requires.fit

pub add-requires-clause-counted : goal.add-requires-clause-counted
add-requires-clause-counted g c =
    c.loop-event.invariant.sums.counted
    ∙ ap counts_of (take_all c.loop-event.event-index c.args.events.now c.loop-event-test.false)

pub returns-clause-told : goal.returns-clause-told
returns-clause-told g c = λ tasks so_far window are of.
    let pages = map g.P.Paged.page c.args.pages.now in
    let cpus = length c.args.pages.now in
    subst (λ alive. SayNothingInWindow (view_at pages) cpus alive window) (fun_ext of.alive)
    (walk_is_done pages cpus (alive_view c.args.self.now.alive) window c.loop-event.event-index c.loop-event.walk
    c.loop-event.self.alive (said_length window c.args.events.now c.loop-event.event-index are c.loop-event-test.false)
    (c.loop-event.invariant.come window are))

pub returns-clause-passed : goal.returns-clause-passed
returns-clause-passed g c = λ tasks so_far window are of none.
    let events = c.args.events.now in
    let i = c.loop-event.event-index in
    let sums = c.loop-event.invariant.sums in
    let come = map (λ (s : Claimed). s.entry) so_far in
    record {
      alive = λ pid.
          alive_is_done (map g.P.Paged.page c.args.pages.now) (length c.args.pages.now)
          (alive_view c.args.self.now.alive) window i c.loop-event.walk c.loop-event.self.alive
          (said_length window events i are c.loop-event-test.false) (c.loop-event.invariant.come window are) pid
          ∙ ap (λ alive. roll_of alive window pid) (fun_ext of.alive)
          ∙ sym (ap (λ roll. roll pid) (roll_append (named tasks) so_far window));
      sums = subst (λ es. AreSumsOf tasks es c.add.new.self)
          (ap (λ es. come ++ es) (sym are) ∙ sym (map-append (λ (s : Claimed). s.entry) so_far window))
          (all_counted tasks come events c.args.self.now.sums c.add.new.self of.sums
          (c.add.ensures.events ∙ ap (λ n. n + length events) sums.events_before)
          (c.add.ensures.counts come (sums.counts_before ∙ of.sums.counts))
          (ap (λ t. t.table.rows) c.add.ensures.named ∙ sums.named
          ∙ ap (λ es. with_named (births_in es) c.args.self.now.sums.tallies.table.rows)
          (take_all i events c.loop-event-test.false)));
    }
