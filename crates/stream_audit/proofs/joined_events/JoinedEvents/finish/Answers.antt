use Rattle.window_joining.specs.Joining.{is_refused}
use Rattle.stream_audit.proofs.Joined.{calm, charges_rise, claims_rise, nices_rise}
use Rattle.stream_audit.proofs.joined_events.JoinedEvents.finish.Goals as goal

pub finish-requires-clause-claims_rise : goal.finish-requires-clause-claims_rise
finish-requires-clause-claims_rise c =
    claims_rise c.args.self.now.joining.line c.requires.0 c.args.claims.now c.args.nices.now c.args.charges.now
    c.requires.3.companion c.requires.3.held

pub finish-requires-clause-nices_rise : goal.finish-requires-clause-nices_rise
finish-requires-clause-nices_rise c =
    nices_rise c.args.self.now.joining.line c.requires.0 c.args.claims.now c.args.nices.now c.args.charges.now
    c.requires.3.companion c.requires.3.held

pub finish-requires-clause-charges_rise : goal.finish-requires-clause-charges_rise
finish-requires-clause-charges_rise c =
    charges_rise c.args.self.now.joining.line c.requires.0 c.args.claims.now c.args.nices.now c.args.charges.now
    c.requires.3.companion c.requires.3.held

pub returns-clause-answered : goal.returns-clause-answered
returns-clause-answered c = λ of events handed last.
    c.finish.ensures.answered of events last.so_far.joining last.so_far.head last.held

pub returns-clause-calm : goal.returns-clause-calm
returns-clause-calm c none = calm (is_refused c.args.self.now.joining) c.finish.result c.finish.ensures.refused none
