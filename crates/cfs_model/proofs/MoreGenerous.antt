-- Knobs and runs: what an event does asks for one setting alone, the one that it names, and the charge told on its
-- line for the drift; so a step under some settings is one under others that give it at least as much of both.
use Rattle.std.proofs.Common.{ℕ, zero, suc, ◌≤◌, Option, None, ℤ, pos, ◌+ℤ◌, ◌-ℤ◌, ◌≤ℤ◌, inl, inr, List, [], ◌∷◌}
use Rattle.std.proofs.Common.{arith}
use Rattle.std.proofs.lemmas.Int.{ints, clamps}
use Rattle.std.specs.Int.{int_max}
use Rattle.cfs_model.specs.Knobs.{KnobsView}
use Rattle.cfs_model.specs.declared.setting.Setting.TheVariants.{Granularity, Credit, Debit, Slack, Drift}
use Rattle.cfs_model.specs.Machine.{Machine}
use Rattle.cfs_model.specs.Claimed.{Claimed}
use Rattle.cfs_model.specs.Touch.{touched}
use Rattle.cfs_model.specs.Lifted.{charged, IsLifted}
use Rattle.cfs_model.specs.Step.{IsPick, after_prev, Changes, IsStep}
use Rattle.cfs_model.specs.Idling.{KeepsSlack}
use Rattle.cfs_model.specs.Run.{AreSteps, times_of, IsRun}
use Rattle.cfs_model.specs.Least.{AtMost}
use Rattle.cfs_model.proofs.ToldCharge.{told_more}
use Rattle.cfs_model.specs.declared.act.Act.{Act}
use Rattle.cfs_model.specs.declared.act.Act.TheVariants.{Switch, Wake, Born, Shift}
use Rattle.cfs_model.specs.declared.charge_line.ChargeLine.{ChargeLine}
use Rattle.cfs_model.specs.declared.claim.Claim.{Claim}
use Rattle.cfs_model.specs.declared.policy.Policy.{Policy}

-- the setting that what an event does asks for; a migration asks for none
abbrev pub asked : Act → KnobsView → ℕ
asked (Switch cpu prev prev_nice way next next_nice) knobs = knobs.granularity
asked (Wake cpu pid nice) knobs = knobs.credit
asked (Born cpu pid nice) knobs = knobs.debit
asked (Shift orig dest pid nice) knobs = 0

more_above : (v w : ℤ) (less more : ℕ) → less ≤ more → v ≤ℤ (w +ℤ pos less) → v ≤ℤ (w +ℤ pos more)
more_above v w less more h k = omega (arith, ints)

more_below : (own floor v : ℤ) (less more : ℕ) → less ≤ more → int_max own (floor -ℤ pos less) ≤ℤ v
    → int_max own (floor -ℤ pos more) ≤ℤ v
more_below own floor v less more h k = omega (arith, ints, clamps)

pick_more : (less more : ℕ) (m : Machine) (cpu next : ℕ) → less ≤ more → IsPick less m cpu next → IsPick more m cpu next
pick_more less more m cpu zero h pick = pick
pick_more less more m cpu (suc n) h pick =
    (pick.0, pick.1, pick.2, λ other w waits e. more_above pick.0 w less more h (pick.3 other w waits e))

pub changes_more : (knobs more : KnobsView) (m : Machine) (act : Act) (claim : Option Claim) (policy : Policy)
    (after : Machine)
    → asked act knobs ≤ asked act more → Changes knobs m act claim policy after → Changes more m act claim policy after
changes_more knobs more m (Switch cpu prev prev_nice way next next_nice) claim policy after h s = record {
  differ = s.differ;
  current = s.current;
  prev_prio = s.prev_prio;
  next_prio = s.next_prio;
  put_back = s.put_back;
  pick = pick_more knobs.granularity more.granularity (after_prev m cpu prev way) cpu next h s.pick;
  result = s.result;
}
changes_more knobs more m (Wake cpu pid nice) claim policy after h (inl s) = inl s
changes_more knobs more m (Wake cpu pid nice) claim policy after h (inr s) = inr (record {
  rests = s.rests;
  prio = s.prio;
  own = s.own;
  runtime = s.runtime;
  placed = s.placed;
  claimed = s.claimed;
  from = more_below s.own (m.floor cpu) s.placed knobs.credit more.credit h s.from;
  to = s.to;
  result = s.result;
})
changes_more knobs more m (Born cpu pid nice) claim policy after h s = record {
  nowhere = s.nowhere;
  placed = s.placed;
  claimed = s.claimed;
  from = s.from;
  to = more_above s.placed (m.floor cpu) knobs.debit more.debit h s.to;
  result = s.result;
}
changes_more knobs more m (Shift orig dest pid nice) claim policy after h s = s

-- a lift under a bound that is at least as great
pub lifted_more : (bound more time : ℕ) (charge : Option ChargeLine) (cpus : List ℕ) (before after : Machine)
    → bound ≤ more → IsLifted bound time charge cpus before after → IsLifted more time charge cpus before after
lifted_more bound more time charge [] before after h l = l
lifted_more bound more time charge (cpu ∷ cpus) before after h l = (
  l.0,
  record {
    can_charge = l.1.can_charge;
    told = l.1.told;
    charges = told_more bound more charge cpu before (charged before cpu time) l.1.told h l.1.charges;
    floor = l.1.floor;
    raised = l.1.raised;
    result = l.1.result;
  },
  lifted_more bound more time None cpus l.0 after h l.2,
)

-- a step under settings that give its event at least as much
pub step_more : (knobs more : KnobsView) (before : Machine) (event : Claimed) (after : Machine)
    → asked event.entry.act knobs ≤ asked event.entry.act more → knobs.drift ≤ more.drift
    → IsStep knobs before event after → IsStep more before event after
step_more knobs more before event after h d s = record {
  lifted = s.lifted;
  is_lifted = lifted_more knobs.drift more.drift event.entry.time event.charge (touched event.entry.act) before s.lifted
      d s.is_lifted;
  found = s.found;
  is_reniced = s.is_reniced;
  changes = changes_more knobs more s.found event.entry.act event.claim event.policy after h s.changes;
  in_range = s.in_range;
}

pub asked_most : (less more : KnobsView) (act : Act) → AtMost less more → asked act less ≤ asked act more
asked_most less more (Switch cpu prev prev_nice way next next_nice) h = h Granularity
asked_most less more (Wake cpu pid nice) h = h Credit
asked_most less more (Born cpu pid nice) h = h Debit
asked_most less more (Shift orig dest pid nice) h = omega arith

pub steps_more : (less more : KnobsView) (before : Machine) (events : List Claimed) (states : List Machine)
    → AtMost less more → AreSteps less before events states → AreSteps more before events states
steps_more less more before [] [] h steps = tt
steps_more less more before [] (m ∷ states) h steps = absurd steps
steps_more less more before (event ∷ events) [] h steps = absurd steps
steps_more less more before (event ∷ events) (m ∷ states) h steps = (
  step_more less more before event m (asked_most less more event.entry.act h) (h Drift) steps.0,
  steps_more less more m events states h steps.1,
)

slack_more : (less more : ℕ) (times : List ℕ) (states : List Machine) → less ≤ more → KeepsSlack less times states
    → KeepsSlack more times states
slack_more less more times states h keeps cpu i j below within idles =
    let k = keeps cpu i j below within idles in omega arith

pub run_more : (less more : KnobsView) (start : ℕ) (first : Machine) (events : List Claimed) → AtMost less more
    → IsRun less start first events → IsRun more start first events
run_more less more start first events h run = record {
  states = run.states;
  steps = steps_more less more first events run.states h run.steps;
  slack = slack_more less.slack more.slack (times_of start events) (first ∷ run.states) (h Slack) run.slack;
}
