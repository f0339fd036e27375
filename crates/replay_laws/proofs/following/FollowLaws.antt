-- The replay follows a run from its start, and tells where the slack fails with one more event.
use Rattle.std.proofs.Common.{◌≡◌, ℕ, ◌+◌, ◌<◌, ◌≤◌, Option, Some, None, IsSomeAnd, ℤ, inl, inr, List, [], ◌∷◌, length}
use Rattle.std.proofs.Common.{slice_get, slice_index, refl, sym, ap, ◌∙◌, subst, arith}
use Rattle.cfs_model.specs.Knobs.{KnobsView}
use Rattle.cfs_model.specs.Machine.{Machine}
use Rattle.cfs_model.specs.Start.{start_machine}
use Rattle.cfs_model.specs.Claimed.{Claimed}
use Rattle.cfs_model.specs.Idling.{Idles, IdlesFrom, KeepsSlack}
use Rattle.cfs_model.specs.Run.{times_of, IsRun, last_of}
use Rattle.cfs_model.specs.Order.{IsStart}
use Rattle.replay_model.specs.Part.{Part}
use Rattle.replay_model.specs.QueueTests.{IsIdleTooLong}
use Rattle.replay_model.specs.Cut.{cut}
use Rattle.replay_model.specs.Record.{TimesRise}
use Rattle.replay_model.specs.Cause.{SlackFails}
use Rattle.replay_model.specs.Page.{ReplayStateView, IsSince, IsStartOf}
use Rattle.replay_laws.specs.CutReplay.{IsCutReplay}
use Rattle.replay_laws.specs.Replays.{ReplayFollows, SlackFollows}
use Rattle.cfs_model.proofs.StartOrder.{start_in_order}
use Rattle.replay_model.proofs.Options.{no_some}
use Rattle.replay_laws.proofs.following.StartPart.{start_part_is}
use Rattle.replay_laws.proofs.following.Follow.{KeepsUp, since_idles, since_told, since_begun, replay_idles}
use Rattle.replay_laws.proofs.following.Followed.{Still, Followed, follow}
use Rattle.cfs_model.specs.declared.task.Task.{Task}

-- at the start a processor idles since the start, if it does
pub starts_at : (start : ℕ) (part : Part) (since : Option ℕ) → IsSince None start part since → (x : ℕ) → since ≡ Some x
    → x ≡ start
starts_at start part since h x e = elim (since_begun None start part since h x e) [ inl k ↦ no_some x k | inr k ↦ k ]

pub follows_start : (start : ℕ) (floors : List ℤ) (tasks : List Task) (events : List Claimed) (cpu : ℕ)
    (first : ReplayStateView) → IsStart floors tasks
    → IsStartOf (cut start floors tasks events cpu) first → KeepsUp cpu (start_machine start floors tasks) start first
follows_start start floors tasks events cpu first s h = record {
  order = start_in_order start floors tasks s;
  part = start_part_is start floors tasks s cpu ∙ sym h.part;
  told = λ i. (start, since_told None start first.part first.since h.since i);
  idles = since_idles None start first.part first.since h.since;
  early = λ x e. (let k : x ≡ start = starts_at start first.part first.since h.since x e in omega arith);
  fault = ap (λ p. p.fault) h.page;
}

pub still_start : (slack start : ℕ) (m : Machine) (cpu : ℕ) (first : ReplayStateView) (events : List Claimed)
    (states : List Machine) → IsSince None start first.part first.since
    → KeepsSlack slack (times_of start events) (m ∷ states) → Still slack cpu m start first events states
still_start slack start m cpu first events states h keeps x e j a b idles =
    subst (λ y. slice_index (times_of start events) j ≤ y + slack) (sym (starts_at start first.part first.since h x e))
    (keeps cpu 0 j a b idles)

pub followed_run : (knobs : KnobsView) (start : ℕ) (floors : List ℤ) (tasks : List Task) (events : List Claimed)
    (cpu : ℕ) (last : ReplayStateView)
    → IsStart floors tasks → TimesRise start events
    → (run : IsRun knobs start (start_machine start floors tasks) events)
    → (r : IsCutReplay knobs start floors tasks events cpu last)
    → Followed cpu (start_machine start floors tasks) start r.first events run.states last
followed_run knobs start floors tasks events cpu last s rise run r =
    follow knobs cpu (start_machine start floors tasks) start r.first events run.states last
    (follows_start start floors tasks events cpu r.first s r.is_start) run.steps rise
    (still_start knobs.slack start
    (start_machine start floors tasks) cpu r.first events run.states r.is_start.since run.slack) run.slack r.replay

pub replay_follows : ReplayFollows
replay_follows knobs start floors tasks events cpu last s rise run r =
    let f = followed_run knobs start floors tasks events cpu last s rise run r in
    (f.at.fault, f.at.part)

-- the last of the states
pub last_state : (m : Machine) (states : List Machine)
    → slice_get (m ∷ states) (length states) ≡ Some (last_of m states)
last_state m [] = refl
last_state m (after ∷ states) = last_state after states

pub last_idles : (m : Machine) (states : List Machine) (cpu i : ℕ) → i < length (m ∷ states)
    → IdlesFrom (m ∷ states) cpu i (length (m ∷ states)) → Idles (last_of m states) cpu
last_idles m states cpu i h idles =
    subst (λ o. IsSomeAnd o (λ x. Idles x cpu)) (last_state m states)
    (idles (length states) (omega arith) (omega arith))

too_long : (slack : ℕ) (since : Option ℕ) (x time : ℕ) → since ≡ Some x → x + slack < time
    → IsIdleTooLong slack since time 0
too_long slack since x time e h = subst (λ o. IsIdleTooLong slack o time 0) (sym e) (h, refl)

pub slack_follows : SlackFollows
slack_follows knobs start floors tasks events cpu last time s rise run r = (down, (λ h. up last.since refl h))
  where
    f : Followed cpu (start_machine start floors tasks) start r.first events run.states last
    f = followed_run knobs start floors tasks events cpu last s rise run r

    down : SlackFails knobs.slack (times_of start events) (start_machine start floors tasks ∷ run.states) cpu time
        → IsIdleTooLong knobs.slack last.since time 0
    down h =
        let x = f.at.told (replay_idles cpu _ _ last f.at
        (last_idles (start_machine start floors tasks) run.states cpu h.from h.is_state h.idles)) in
        let early = f.longest h.from h.is_state h.idles x.0 x.1 in
        let late = h.late in
        too_long knobs.slack last.since x.0 time x.1 (omega arith)

    up : (o : Option ℕ) → last.since ≡ o → IsIdleTooLong knobs.slack o time 0
        → SlackFails knobs.slack (times_of start events) (start_machine start floors tasks ∷ run.states) cpu time
    up None e h = absurd h
    up (Some x) e h = elim (f.begun x e) [
      | inl k ↦ record {
        from = 0;
        is_state = omega arith;
        idles = k.1;
        late = subst (λ y. y + knobs.slack < time)
            (starts_at start r.first.part r.first.since r.is_start.since x k.0) h.0;
      }
      | inr k ↦ record {
        from = k.at;
        is_state = k.below;
        idles = k.idles;
        late = subst (λ y. y + knobs.slack < time)
            (sym k.time) h.0;
      }
    ]
