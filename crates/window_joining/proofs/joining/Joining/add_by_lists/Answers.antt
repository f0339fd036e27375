-- What is new is cut out of what is held; so what is said on the event's line by it is what the companion says there.
use Rattle.std.proofs.Common.{◌++◌, ◌≤◌, ap, ◌∙◌, subst, sym}
use Rattle.std.specs.List.{AllPairs}
use Rattle.cfs_model.specs.declared.charge_line.ChargeLine.{ChargeLine}
use Rattle.cfs_model.specs.declared.claim.Claim.{Claim}
use Rattle.cfs_model.specs.declared.idle_line.IdleLine.{IdleLine}
use Rattle.cfs_model.specs.declared.nice_line.NiceLine.{NiceLine}
use Rattle.companion_file.specs.Seen.{companion_view}
use Rattle.window_joining.proofs.Firsts.{rise_weak}
use Rattle.window_joining.proofs.Idle.{idles_weak}
use Rattle.window_joining.proofs.Joined.{adds_on, held, joins_on, news_rise}
use Rattle.window_joining.specs.Between.{IsCut}
use Rattle.window_joining.specs.News.{AreRising, IsNews, ListsView}
use Rattle.window_joining.proofs.joining.Joining.add_by_lists.Goals as goal

pub between-claim-requires-clause-rise : goal.between-claim-requires-clause-rise
between-claim-requires-clause-rise c = rise_weak (λ (x : Claim). x.line) c.args.claims.now c.requires.claims_rise

pub between-nice-requires-clause-rise : goal.between-nice-requires-clause-rise
between-nice-requires-clause-rise c = rise_weak (λ (x : NiceLine). x.line) c.args.nices.now c.requires.nices_rise

pub between-charge-requires-clause-rise : goal.between-charge-requires-clause-rise
between-charge-requires-clause-rise c =
    rise_weak (λ (x : ChargeLine). x.line) c.args.charges.now c.requires.charges_rise

pub between-idle-requires-clause-rise : goal.between-idle-requires-clause-rise
between-idle-requires-clause-rise c =
    subst (λ xs. AllPairs (λ (a b : IdleLine). a.line ≤ b.line) xs) (sym c.idles.ensures)
    (idles_weak c.args.head.now.idles c.args.head.now.in_order.idles_rise)

pub saying-saying-requires-clause-rise : goal.saying-saying-requires-clause-rise
saying-saying-requires-clause-rise c =
    let edge = c.args.self.now.line in
    let line = c.args.event.now.line in
    let head = companion_view c.args.head.now in
    let lists = held head c.args.claims.now c.args.nices.now c.args.charges.now in
    let news : ListsView = record {
      claims = c.between-claim.result.0.now;
      nices = c.between-nice.result.0.now;
      charges = c.between-charge.result.0.now;
      idles = c.between-idle.result.0.now;
    } in
    let idles : IsCut IdleLine (λ (x : IdleLine). x.line) edge line c.args.head.now.idles news.idles =
    subst (λ xs. IsCut IdleLine (λ (x : IdleLine). x.line) edge line xs news.idles) c.idles.ensures
    c.between-idle.ensures in
    let rise : AreRising lists = record {
      claims = c.requires.claims_rise;
      nices = c.requires.nices_rise;
      charges = c.requires.charges_rise;
      idles = c.args.head.now.in_order.idles_rise;
    } in
    news_rise edge line lists news rise c.between-claim.ensures c.between-nice.ensures c.between-charge.ensures idles

pub saying-saying-requires-clause-claims : goal.saying-saying-requires-clause-claims
saying-saying-requires-clause-claims c = c.between-claim.ensures.within

pub saying-saying-requires-clause-nices : goal.saying-saying-requires-clause-nices
saying-saying-requires-clause-nices c = c.between-nice.ensures.within

pub saying-saying-requires-clause-charges : goal.saying-saying-requires-clause-charges
saying-saying-requires-clause-charges c = c.between-charge.ensures.within

pub pass-requires : goal.pass-requires
pass-requires c =
    let edge = c.args.self.now.line in
    let line = c.args.event.now.line in
    let head = companion_view c.args.head.now in
    let lists = held head c.args.claims.now c.args.nices.now c.args.charges.now in
    let news : ListsView = record {
      claims = c.between-claim.result.0.now;
      nices = c.between-nice.result.0.now;
      charges = c.between-charge.result.0.now;
      idles = c.between-idle.result.0.now;
    } in
    let idles : IsCut IdleLine (λ (x : IdleLine). x.line) edge line c.args.head.now.idles news.idles =
    subst (λ xs. IsCut IdleLine (λ (x : IdleLine). x.line) edge line xs news.idles) c.idles.ensures
    c.between-idle.ensures in
    let rise : AreRising lists = record {
      claims = c.requires.claims_rise;
      nices = c.requires.nices_rise;
      charges = c.requires.charges_rise;
      idles = c.args.head.now.in_order.idles_rise;
    } in
    news_rise edge line lists news rise c.between-claim.ensures c.between-nice.ensures c.between-charge.ensures idles

pub returns-clause-joined : goal.returns-clause-joined
returns-clause-joined c companion events joined alike holds =
    let edge = c.args.self.now.line in
    let line = c.args.event.now.line in
    let head = companion_view c.args.head.now in
    let lists = held head c.args.claims.now c.args.nices.now c.args.charges.now in
    let news : ListsView = record {
      claims = c.between-claim.result.0.now;
      nices = c.between-nice.result.0.now;
      charges = c.between-charge.result.0.now;
      idles = c.between-idle.result.0.now;
    } in
    let idles : IsCut IdleLine (λ (x : IdleLine). x.line) edge line c.args.head.now.idles news.idles =
    subst (λ xs. IsCut IdleLine (λ (x : IdleLine). x.line) edge line xs news.idles) c.idles.ensures
    c.between-idle.ensures in
    let new : IsNews edge line lists news = record {
      claims = c.between-claim.ensures;
      nices = c.between-nice.ensures;
      charges = c.between-charge.ensures;
      idles = idles;
    } in
    let p = c.in_ok-pass.ensures in
    joins_on head companion alike c.args.claims.now c.args.nices.now c.args.charges.now news events c.args.event.now
    c.args.self.now joined c.requires.later holds new _
    (record {
      policies = p.policies;
      stray = p.stray;
      outside = p.outside;
      late = p.late;
      line = p.line;
      refused = p.refused;
    })

pub returns-clause-window : goal.returns-clause-window
returns-clause-window c companion events joined alike holds before so_far =
    let edge = c.args.self.now.line in
    let line = c.args.event.now.line in
    let head = companion_view c.args.head.now in
    let lists = held head c.args.claims.now c.args.nices.now c.args.charges.now in
    let news : ListsView = record {
      claims = c.between-claim.result.0.now;
      nices = c.between-nice.result.0.now;
      charges = c.between-charge.result.0.now;
      idles = c.between-idle.result.0.now;
    } in
    let idles : IsCut IdleLine (λ (x : IdleLine). x.line) edge line c.args.head.now.idles news.idles =
    subst (λ xs. IsCut IdleLine (λ (x : IdleLine). x.line) edge line xs news.idles) c.idles.ensures
    c.between-idle.ensures in
    let new : IsNews edge line lists news = record {
      claims = c.between-claim.ensures;
      nices = c.between-nice.ensures;
      charges = c.between-charge.ensures;
      idles = idles;
    } in
    ap (λ xs. before ++ xs) c.in_ok-say.ensures.added
    ∙ adds_on head companion alike c.args.claims.now c.args.nices.now c.args.charges.now news events c.args.event.now
    c.args.self.now joined c.requires.later holds new before _ _ c.saying-saying.ensures so_far
