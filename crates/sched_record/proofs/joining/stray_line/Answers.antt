use Rattle.std.proofs.Common.{sym, subst, ◌⊎◌}
use Rattle.cfs_model.specs.declared.claim.Claim.{Claim}
use Rattle.cfs_model.specs.declared.nice_line.NiceLine.{NiceLine}
use Rattle.cfs_model.specs.declared.charge_line.ChargeLine.{ChargeLine}
use Rattle.companion_file.specs.Seen.{companion_view}
use Rattle.sched_record.specs.Join.{HasStrayCharge, HasStrayClaim, HasStrayIdle, HasStrayNice, IsLeastOf, IsStray}
use Rattle.sched_record.proofs.Straying.{charges_on_events, claims_on_events, idles_on_births, least_found}
use Rattle.sched_record.proofs.Straying.{least_of_both, least_stray, nices_on_events, none_found}
use Rattle.sched_record.proofs.joining.stray_line.Goals as goal
use Rattle.sched_record.proofs.joining.stray_line.Goals.{After-lesser-3}

least_line : (c : After-lesser-3) → IsLeastOf (IsStray c.args.events.now (companion_view c.args.companion.now))
    c.lesser-3.result
least_line c =
    let events = c.args.events.now in
    let companion = companion_view c.args.companion.now in
    let claim = c.first_stray-claim.ensures in
    let change = c.first_stray-change.ensures in
    let charge = c.first_stray-charge.ensures in
    let StrayClaim = HasStrayClaim events companion.claims in
    let StrayNice = HasStrayNice events companion.nices in
    let StrayIdle = HasStrayIdle events companion.idles in
    let StrayCharge = HasStrayCharge events companion.charges in
    let claims : IsLeastOf StrayClaim c.first_stray-claim.result =
    subst (λ cs. IsLeastOf (HasStrayClaim events cs) c.first_stray-claim.result) c.claims.ensures
    (least_stray Claim (λ x. x.line) events c.claims.result.now _ claim.none claim.said claim.stray claim.earlier) in
    let nices : IsLeastOf StrayNice c.first_stray-change.result =
    subst (λ ns. IsLeastOf (HasStrayNice events ns) c.first_stray-change.result) c.nices.ensures
    (least_stray NiceLine (λ x. x.line) events c.nices.result.now _ change.none change.said change.stray
    change.earlier) in
    let idles : IsLeastOf StrayIdle c.first_stray_idle-idle.result =
    subst (λ is. IsLeastOf (HasStrayIdle events is) c.first_stray_idle-idle.result) c.idles.ensures
    c.first_stray_idle-idle.ensures in
    let charges : IsLeastOf StrayCharge c.first_stray-charge.result =
    subst (λ cs. IsLeastOf (HasStrayCharge events cs) c.first_stray-charge.result) c.charges.ensures
    (least_stray ChargeLine (λ x. x.line) events c.charges.result.now _ charge.none charge.said charge.stray
    charge.earlier) in
    let last : IsLeastOf (λ n. StrayIdle n ⊎ StrayCharge n) c.lesser.result =
    subst (IsLeastOf (λ n. StrayIdle n ⊎ StrayCharge n)) (sym c.lesser.ensures)
    (least_of_both StrayIdle StrayCharge _ _ idles charges) in
    let later : IsLeastOf (λ n. StrayNice n ⊎ StrayIdle n ⊎ StrayCharge n) c.lesser-2.result =
    subst (IsLeastOf (λ n. StrayNice n ⊎ StrayIdle n ⊎ StrayCharge n)) (sym c.lesser-2.ensures)
    (least_of_both StrayNice (λ n. StrayIdle n ⊎ StrayCharge n) _ _ nices last) in
    subst (IsLeastOf (IsStray events companion)) (sym c.lesser-3.ensures)
    (least_of_both StrayClaim (λ n. StrayNice n ⊎ StrayIdle n ⊎ StrayCharge n) _ _ claims later)

pub returns-clause-claimed : goal.returns-clause-claimed
returns-clause-claimed c =
    none_found (IsStray c.args.events.now (companion_view c.args.companion.now)) _ c.lesser-3.result (least_line c)
    (claims_on_events c.args.events.now (companion_view c.args.companion.now))

pub returns-clause-reniced : goal.returns-clause-reniced
returns-clause-reniced c =
    none_found (IsStray c.args.events.now (companion_view c.args.companion.now)) _ c.lesser-3.result (least_line c)
    (nices_on_events c.args.events.now (companion_view c.args.companion.now))

pub returns-clause-born : goal.returns-clause-born
returns-clause-born c =
    none_found (IsStray c.args.events.now (companion_view c.args.companion.now)) _ c.lesser-3.result (least_line c)
    (idles_on_births c.args.events.now (companion_view c.args.companion.now))

pub returns-clause-charged : goal.returns-clause-charged
returns-clause-charged c =
    none_found (IsStray c.args.events.now (companion_view c.args.companion.now)) _ c.lesser-3.result (least_line c)
    (charges_on_events c.args.events.now (companion_view c.args.companion.now))

pub returns-clause-found : goal.returns-clause-found
returns-clause-found c =
    least_found (IsStray c.args.events.now (companion_view c.args.companion.now)) c.lesser-3.result (least_line c)
