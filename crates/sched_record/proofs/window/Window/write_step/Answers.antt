-- What is kept of a line tells what is said there: nothing, or a claim.
use Rattle.std.proofs.Common.{◌<◌, Option, None, ap, ◌∙◌, length, arith}
use Rattle.cfs_model.specs.declared.claim.Claim.{Claim}
use Rattle.cfs_model.specs.declared.policy.Policy.TheVariants.{Normal}
use Rattle.replay_model.specs.StepAt.{step_at}
use Rattle.sched_record.specs.Sayings.{alone_of}
use Rattle.sched_record.specs.declared.window.Saying.{Saying}
use Rattle.sched_record.proofs.Windows.{said_length}
use Rattle.sched_record.proofs.WindowIndices.{said_is, stands_as}
use Rattle.sched_record.proofs.window.Window.write_step.Goals as goal

pub said_at-said-requires : goal.said_at-said-requires
said_at-said-requires c =
    let self = c.args.self.now in
    let n = said_length self.events.items self.sayings self.paired in
    let p = self.paired in
    let h = c.requires in
    omega (arith, n, p, h)

pub write_whole-requires : goal.write_whole-requires
write_whole-requires c =
    let self = c.args.self.now in
    let n = said_length self.events.items self.sayings self.paired in
    let h = c.requires in
    omega (arith, n, h)

pub index-requires : goal.index-requires
index-requires c =
    let self = c.args.self.now in
    let n = said_length self.events.items self.sayings self.paired in
    let p = self.paired in
    let h = c.requires in
    omega (arith, n, p, h)

pub returns : goal.returns
returns c here stands =
    let self = c.args.self.now in
    let n = said_length self.events.items self.sayings self.paired in
    let h = c.requires in
    let within : c.args.index < length self.sayings = omega (arith, n, h) in
    let event = c.index.result.now in
    let usual : Option Claim → Saying =
    λ claim. record { claim = claim; nice = None; charge = None; policy = Normal } in
    let alone : Option Claim = alone_of c.said_at-said.result in
    c.write_usual.ensures
    ∙ ap (λ claim. step_at c.args.cpu (record {
      entry = event;
      claim = claim;
      nice = None;
      charge = None;
      policy = Normal;
    })) c.claim-step.ensures
    ∙ ap (step_at c.args.cpu) (said_is self.events.items self.sayings c.args.index event (usual alone) here self.paired
    within c.index.ensures (stands_as self.sayings c.args.index (usual alone) within (λ saying is.
    c.is_more.ensures c.if-is_more.false saying (c.said_at-said.ensures saying is))) stands)
