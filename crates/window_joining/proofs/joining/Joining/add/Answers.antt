use Rattle.std.proofs.Common.{◌<◌, ◌+◌, ◌++◌, List, drop, length, get_or, take}
use Rattle.std.proofs.Common.{[], refl, append-nil, sym, ap, subst, arith, ◌∙◌}
use Rattle.cfs_model.specs.declared.act.Entry.{Entry}
use Rattle.window_joining.proofs.Adding.{after_one, held_on, next_waits, rest_behind}
use Rattle.window_joining.proofs.Joined.{edge_more}
use Rattle.window_joining.specs.Joining.{HasJoined, edge_from, joined_events}
use Rattle.window_joining.proofs.joining.Joining.add.Goals as goal

pub loop-index-init : goal.loop-index-init
loop-index-init c = record {
  looks = c.passed_claims-passed.ensures;
  waits = c.in_ok-bring.ensures.brought;
  refused = λ e. e;
  grown = omega arith;
  line = refl;
  above = λ k d from within. c.requires.later k d within;
  joined = λ of before was alike holds. subst (λ (es : List Entry). HasJoined c.args.self.now of es)
      (sym (append-nil before)) was;
  window = λ of before was alike holds earlier so_far.
      ap (λ xs. earlier ++ xs) c.in_ok-bring.ensures.same ∙ so_far
      ∙ ap (joined_events of) (sym (append-nil before));
}

pub add_next-requires-clause-first : goal.add_next-requires-clause-first
add_next-requires-clause-first c = (
  drop (c.loop-index.index + 1) c.args.events.now,
  c.loop-index.invariant.waits ∙ next_waits c.args.events.now c.loop-index.index c.index-events-index.result
      (let t = c.loop-index-test.true in omega (arith, t)) c.index-events-index.is,
)

pub loop-index-preserved : goal.loop-index-preserved
loop-index-preserved c =
    let before = c.loop-index.invariant in
    let first = c.args.self.now in
    let i = c.loop-index.index in
    let events = c.args.events.now in
    let event = c.index-events-index.result in
    let is = c.index-events-index.is in
    let within : i < length events = (let t = c.loop-index-test.true in omega (arith, t)) in
    let e = c.in_ok-passed.ensures in
    record {
      looks = e.looks;
      waits = e.rest (drop (i + 1) events) (before.waits ∙ next_waits events i event within is);
      refused = λ was. e.refused (before.refused was);
      grown = (let g = before.grown in let l = e.line in
          let below : c.loop-index.self.line < event.line =
          subst (λ (x : Entry). c.loop-index.self.line < x.line) (sym is) (before.above i event (omega arith) within) in
          omega (arith, g, l, below));
      line = e.line ∙ sym (edge_more first.line (take i events) event)
          ∙ ap (edge_from first.line) (after_one [] events i event within is);
      above = λ k d from inside. subst (λ line. line < (get_or events k d).line) (sym e.line)
          (rest_behind events i k event d c.requires.rise (omega (arith, from)) inside is);
      joined = λ of so_far was alike holds.
          subst (HasJoined c.add_next.new.self of) (after_one so_far events i event within is)
          (e.joined of (so_far ++ take i events) (before.joined of so_far was alike holds) alike
          (held_on first.line c.loop-index.self.line of c.args.claims.now c.args.nices.now c.args.charges.now
          before.grown holds));
      window = λ of so_far was alike holds earlier parts.
          e.window of (so_far ++ take i events) (before.joined of so_far was alike holds) alike
          (held_on first.line c.loop-index.self.line of c.args.claims.now c.args.nices.now c.args.charges.now
          before.grown holds) earlier (before.window of so_far was alike holds earlier parts)
          ∙ ap (joined_events of) (after_one so_far events i event within is);
    }
