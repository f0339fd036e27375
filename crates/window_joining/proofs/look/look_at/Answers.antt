use Rattle.std.proofs.Common.{◌<◌, eqb, get_or, length, refl, sym, true≢false, arith}
use Rattle.std.proofs.lemmas.List.{get_or_default}
use Rattle.cfs_model.specs.declared.claim.Claim.{Claim}
use Rattle.window_joining.proofs.Looks.{no_claim, nothing_new, seen_at}
use Rattle.window_joining.proofs.look.look_at.Goals as goal

pub returns-then-next-claims-clause-seen : goal.returns-then-next-claims-clause-seen
returns-then-next-claims-clause-seen c =
    let passed = c.requires.passed in
    let end = c.if-next-claims.true in (
      (λ said. absurd (true≢false (sym said))),
      nothing_new (λ (x : Claim). x.line) c.args.claims.now c.args.next c.args.low c.args.line c.requires.rise
          c.requires.order passed.0 passed.1 (λ d h. absurd (omega (arith, h, end))),
    )

pub returns-clause-seen : goal.returns-clause-seen
returns-clause-seen c =
    let passed = c.requires.passed in
    let claims = c.args.claims.now in
    let next = c.args.next in
    let claim : Claim = get_or claims next no_claim in
    let apart = c.if-next-claims.false in
    let beyond = c.if-claim-line.false in
    let le = passed.0 in
    let h : next < length claims = omega (arith, le, apart) in
    seen_at claims next c.args.low c.args.line claim (eqb claim.line c.args.line) c.requires.rise c.requires.order h
    passed.1 (get_or_default claims next no_claim claim h) (omega (arith, beyond)) refl
