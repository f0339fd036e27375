-- Where a look tells what is new, an event is added by that; so what is known goes on as by all lists.
use Rattle.std.proofs.Common.{◌++◌, refl, ap, ◌∙◌, subst}
use Rattle.std.specs.Prelude.{IfSome}
use Rattle.companion_file.specs.Seen.{companion_view}
use Rattle.window_joining.proofs.Joined.{adds_on, held, joins_on}
use Rattle.window_joining.proofs.Looks.{news_by_look}
use Rattle.window_joining.specs.Look.{MayLook, news_of, told}
use Rattle.window_joining.proofs.joining.Joining.add_next.Goals as goal

pub returns-in_ok-add_usual-in-Clear-clause-joined : goal.returns-in_ok-add_usual-in-Clear-clause-joined
returns-in_ok-add_usual-in-Clear-clause-joined c companion events joined alike holds =
    let head = companion_view c.args.head.now in
    let before = c.args.self.now in
    let claim = told c.in-Clear.is_said c.in-Clear.claim.now in
    let lists = held head c.args.claims.now c.args.nices.now c.args.charges.now in
    let new = news_by_look lists before c.in-Some.next before.line c.args.event.now.line claim
    (subst (λ passed. IfSome passed (MayLook lists before)) c.in-Some.is c.requires.looks) c.in-Clear.ensures.seen.1 in
    joins_on head companion alike c.args.claims.now c.args.nices.now c.args.charges.now (news_of claim) events
    c.args.event.now before joined c.requires.later holds new c.add_usual.new.self
    c.in_ok-add_usual-in-Clear.ensures.passed

pub returns-in_ok-add_usual-in-Clear-clause-window : goal.returns-in_ok-add_usual-in-Clear-clause-window
returns-in_ok-add_usual-in-Clear-clause-window c companion events joined alike holds earlier so_far =
    let head = companion_view c.args.head.now in
    let before = c.args.self.now in
    let claim = told c.in-Clear.is_said c.in-Clear.claim.now in
    let lists = held head c.args.claims.now c.args.nices.now c.args.charges.now in
    let new = news_by_look lists before c.in-Some.next before.line c.args.event.now.line claim
    (subst (λ passed. IfSome passed (MayLook lists before)) c.in-Some.is c.requires.looks) c.in-Clear.ensures.seen.1 in
    ap (λ xs. earlier ++ xs) c.in_ok-add_usual-in-Clear.ensures.said
    ∙ adds_on head companion alike c.args.claims.now c.args.nices.now c.args.charges.now (news_of claim) events
    c.args.event.now before joined c.requires.later holds new earlier _ _ refl so_far
