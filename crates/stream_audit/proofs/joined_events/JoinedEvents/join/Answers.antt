use Rattle.std.proofs.Common.{◌<◌, get_or, subst, sym}
use Rattle.cfs_model.specs.declared.act.Entry.{Entry}
use Rattle.stream_audit.proofs.Joined.{charges_rise, claims_rise, next_below, nices_rise, pairs_behind}
use Rattle.stream_audit.proofs.joined_events.JoinedEvents.join.Goals as goal

pub add-requires-clause-rise : goal.add-requires-clause-rise
add-requires-clause-rise c =
    pairs_behind (λ (a : Entry) (b : Entry). a.line < b.line) c.requires.1 c.args.events.now
    c.requires.3.next.trace.lines_rise

pub add-requires-clause-later : goal.add-requires-clause-later
add-requires-clause-later c = λ k d within.
    subst (λ line. line < (get_or c.args.events.now k d).line) (sym c.requires.3.so_far.joining.edge)
    (next_below c.requires.1 c.args.events.now c.requires.3.next.trace k d within)

pub add-requires-clause-claims_rise : goal.add-requires-clause-claims_rise
add-requires-clause-claims_rise c =
    claims_rise c.args.self.now.joining.line c.requires.0 c.args.claims.now c.args.nices.now c.args.charges.now
    c.requires.3.next.companion c.requires.3.held

pub add-requires-clause-nices_rise : goal.add-requires-clause-nices_rise
add-requires-clause-nices_rise c =
    nices_rise c.args.self.now.joining.line c.requires.0 c.args.claims.now c.args.nices.now c.args.charges.now
    c.requires.3.next.companion c.requires.3.held

pub add-requires-clause-charges_rise : goal.add-requires-clause-charges_rise
add-requires-clause-charges_rise c =
    charges_rise c.args.self.now.joining.line c.requires.0 c.args.claims.now c.args.nices.now c.args.charges.now
    c.requires.3.next.companion c.requires.3.held
