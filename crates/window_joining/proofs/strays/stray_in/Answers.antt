-- The least of each list, and of all four.
use Rattle.std.proofs.Common.{ℕ, sym, subst, ◌⊎◌}
use Rattle.std.specs.Prelude.{Any, ◌≡◌}
use Rattle.cfs_model.specs.declared.charge_line.ChargeLine.{ChargeLine}
use Rattle.cfs_model.specs.declared.claim.Claim.{Claim}
use Rattle.cfs_model.specs.declared.nice_line.NiceLine.{NiceLine}
use Rattle.sched_record.proofs.Straying.{least_of_both}
use Rattle.sched_record.specs.Join.{IsLeastOf}
use Rattle.window_joining.proofs.Firsts.{rise_weak}
use Rattle.window_joining.proofs.OnlyClaims.{only_claims}
use Rattle.window_joining.proofs.Straying.{least_above}
use Rattle.window_joining.specs.News.{IsChargeAbove, IsClaimAbove, IsIdleBeside, IsNiceAbove}
use Rattle.window_joining.proofs.strays.stray_in.Goals as goal

pub first_line-requires : goal.first_line-requires
first_line-requires c = rise_weak (λ (x : Claim). x.line) c.args.claims.now c.requires.claims

pub first_line-requires-2 : goal.first_line-requires-2
first_line-requires-2 c = rise_weak (λ (x : NiceLine). x.line) c.args.nices.now c.requires.nices

pub first_line-requires-3 : goal.first_line-requires-3
first_line-requires-3 c = rise_weak (λ (x : ChargeLine). x.line) c.args.charges.now c.requires.charges

pub returns-then-are_only_claims : goal.returns-then-are_only_claims
returns-then-are_only_claims c =
    let event = c.args.event.now in
    let Claims : ℕ → Type 0 = IsClaimAbove c.args.claims.now event in
    let empty = c.are_only_claims.ensures c.if-are_only_claims.true in
    only_claims _ event empty.0 empty.1 empty.2 c.above-claim.result
    (subst (IsLeastOf Claims) (sym c.above-claim.ensures)
    (least_above (λ n. Any (λ (x : Claim). x.line ≡ n) c.args.claims.now) event.line c.first_line.result
    c.first_line.ensures))

pub returns : goal.returns
returns c =
    let event = c.args.event.now in
    let Claims : ℕ → Type 0 = IsClaimAbove c.args.claims.now event in
    let Nices : ℕ → Type 0 = IsNiceAbove c.args.nices.now event in
    let Idles : ℕ → Type 0 = IsIdleBeside c.args.idles.now event in
    let Charges : ℕ → Type 0 = IsChargeAbove c.args.charges.now event in
    let claims : IsLeastOf Claims c.above-claim.result =
    subst (IsLeastOf Claims) (sym c.above-claim.ensures)
    (least_above (λ n. Any (λ (x : Claim). x.line ≡ n) c.args.claims.now) event.line c.first_line.result
    c.first_line.ensures) in
    let nices : IsLeastOf Nices c.above-change.result =
    subst (IsLeastOf Nices) (sym c.above-change.ensures)
    (least_above (λ n. Any (λ (x : NiceLine). x.line ≡ n) c.args.nices.now) event.line c.first_line-2.result
    c.first_line-2.ensures) in
    let charges : IsLeastOf Charges c.above-charge.result =
    subst (IsLeastOf Charges) (sym c.above-charge.ensures)
    (least_above (λ n. Any (λ (x : ChargeLine). x.line ≡ n) c.args.charges.now) event.line c.first_line-3.result
    c.first_line-3.ensures) in
    let last : IsLeastOf (λ n. Idles n ⊎ Charges n) c.lesser.result =
    subst (IsLeastOf (λ n. Idles n ⊎ Charges n)) (sym c.lesser.ensures)
    (least_of_both Idles Charges _ _ c.stray_idle-idle.ensures charges) in
    let later : IsLeastOf (λ n. Nices n ⊎ Idles n ⊎ Charges n) c.lesser-2.result =
    subst (IsLeastOf (λ n. Nices n ⊎ Idles n ⊎ Charges n)) (sym c.lesser-2.ensures)
    (least_of_both Nices (λ n. Idles n ⊎ Charges n) _ _ nices last) in
    subst (IsLeastOf (λ n. Claims n ⊎ Nices n ⊎ Idles n ⊎ Charges n)) (sym c.lesser-3.ensures)
    (least_of_both Claims (λ n. Nices n ⊎ Idles n ⊎ Charges n) _ _ claims later)
