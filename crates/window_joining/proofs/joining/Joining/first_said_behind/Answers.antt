-- The least of each list, and of all four.
use Rattle.std.proofs.Common.{ℕ, ◌<◌, ◌≤◌, sym, subst, ◌⊎◌}
use Rattle.std.specs.Prelude.{Any, ◌≡◌}
use Rattle.std.specs.List.{AllPairs}
use Rattle.cfs_model.specs.declared.charge_line.ChargeLine.{ChargeLine}
use Rattle.cfs_model.specs.declared.claim.Claim.{Claim}
use Rattle.cfs_model.specs.declared.idle_line.IdleLine.{IdleLine}
use Rattle.cfs_model.specs.declared.nice_line.NiceLine.{NiceLine}
use Rattle.sched_record.proofs.Straying.{least_of_both}
use Rattle.sched_record.specs.Join.{IsLeastOf}
use Rattle.window_joining.proofs.Firsts.{rise_weak}
use Rattle.window_joining.proofs.Idle.{idles_weak}
use Rattle.window_joining.proofs.joining.Joining.first_said_behind.Goals as goal

pub first_behind-claim-requires : goal.first_behind-claim-requires
first_behind-claim-requires c = rise_weak (λ (x : Claim). x.line) c.args.claims.now c.requires.claims_rise

pub first_behind-change-requires : goal.first_behind-change-requires
first_behind-change-requires c = rise_weak (λ (x : NiceLine). x.line) c.args.nices.now c.requires.nices_rise

pub first_behind-charge-requires : goal.first_behind-charge-requires
first_behind-charge-requires c = rise_weak (λ (x : ChargeLine). x.line) c.args.charges.now c.requires.charges_rise

pub first_behind-idle-requires : goal.first_behind-idle-requires
first_behind-idle-requires c =
    subst (λ xs. AllPairs (λ (a b : IdleLine). a.line ≤ b.line) xs) (sym c.idles.ensures)
    (idles_weak c.args.head.now.idles c.args.head.now.in_order.idles_rise)

pub returns : goal.returns
returns c =
    let edge = c.args.self.now.line in
    let Claims : ℕ → Type 0 = λ n. (edge < n) × Any (λ (x : Claim). x.line ≡ n) c.args.claims.now in
    let Nices : ℕ → Type 0 = λ n. (edge < n) × Any (λ (x : NiceLine). x.line ≡ n) c.args.nices.now in
    let Idles : ℕ → Type 0 = λ n. (edge < n) × Any (λ (x : IdleLine). x.line ≡ n) c.args.head.now.idles in
    let Charges : ℕ → Type 0 = λ n. (edge < n) × Any (λ (x : ChargeLine). x.line ≡ n) c.args.charges.now in
    let idles : IsLeastOf Idles c.first_behind-idle.result =
    subst (λ xs. IsLeastOf (λ n. (edge < n) × Any (λ (x : IdleLine). x.line ≡ n) xs) c.first_behind-idle.result)
    c.idles.ensures c.first_behind-idle.ensures in
    let last : IsLeastOf (λ n. Idles n ⊎ Charges n) c.lesser.result =
    subst (IsLeastOf (λ n. Idles n ⊎ Charges n)) (sym c.lesser.ensures)
    (least_of_both Idles Charges _ _ idles c.first_behind-charge.ensures) in
    let later : IsLeastOf (λ n. Nices n ⊎ Idles n ⊎ Charges n) c.lesser-2.result =
    subst (IsLeastOf (λ n. Nices n ⊎ Idles n ⊎ Charges n)) (sym c.lesser-2.ensures)
    (least_of_both Nices (λ n. Idles n ⊎ Charges n) _ _ c.first_behind-change.ensures last) in
    subst (IsLeastOf (λ n. Claims n ⊎ Nices n ⊎ Idles n ⊎ Charges n)) (sym c.lesser-3.ensures)
    (least_of_both Claims (λ n. Nices n ⊎ Idles n ⊎ Charges n) _ _ c.first_behind-claim.ensures later)
