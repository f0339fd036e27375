-- While events are a run, the replay of a processor's cut of them passes and keeps up with the processor's part.
use Rattle.std.proofs.Common.{◌≡◌, ℕ, ◌+◌, ◌<◌, ◌≤◌, true, false, cond, Option, Some, None, unwrap_or, ◌⊎◌, inl, inr}
use Rattle.std.proofs.Common.{List, ◌∷◌, map, filter, refl, sym, ap, ◌∙◌, subst, arith}
use Rattle.cfs_model.specs.Knobs.{KnobsView}
use Rattle.cfs_model.specs.Machine.{Machine}
use Rattle.cfs_model.specs.Claimed.{Claimed}
use Rattle.cfs_model.specs.Step.{IsStep}
use Rattle.cfs_model.specs.Idling.{Idles}
use Rattle.cfs_model.specs.Order.{IsInOrder}
use Rattle.replay_model.specs.Part.{Part, part_of}
use Rattle.replay_model.specs.PartWords.{PartIdles}
use Rattle.replay_model.specs.QueueTests.{IsIdleTooLong}
use Rattle.replay_model.specs.Cut.{touches, steps_at}
use Rattle.replay_model.specs.StepAt.{step_at}
use Rattle.replay_model.specs.Noted.{noted}
use Rattle.replay_model.specs.Page.{ReplayStateView, IsSince, PassesStep, FailsStep, IsReplayStep, IsReplay}
use Rattle.part_laws.specs.TouchedParts.{PartStep}
use Rattle.cfs_model.proofs.StepOrder.{apart_of, step_in_order}
use Rattle.replay_model.proofs.Options.{no_some, same_some}
use Rattle.part_laws.proofs.one_page.OneLift.{step_no_fault, step_same_part}
use Rattle.part_laws.proofs.Touching.{steps_at_cpu}
use Rattle.replay_laws.proofs.following.PartIdling.{idles_in_part, idles_in_machine}

-- a replay is where the machine is: its part, and since when the processor has idled, if it does
pub record KeepsUp (cpu : ℕ) (m : Machine) (time : ℕ) (s : ReplayStateView) : Type 0 where
  pub order : IsInOrder m
  pub part : part_of m cpu ≡ s.part
  pub told : PartIdles s.part → (x : ℕ) × (s.since ≡ Some x)
  pub idles : (x : ℕ) → s.since ≡ Some x → PartIdles s.part
  pub early : (x : ℕ) → s.since ≡ Some x → x ≤ time
  pub fault : s.page.fault ≡ None

-- the machine's state idles where the replay tells since when
pub machine_idles : (cpu : ℕ) (m : Machine) (time : ℕ) (s : ReplayStateView) → KeepsUp cpu m time s → (x : ℕ)
    → s.since ≡ Some x
    → Idles m cpu
machine_idles cpu m time s f x e = idles_in_machine m (apart_of m f.order) cpu (subst PartIdles (sym f.part) (f.idles
    x e))

pub replay_idles : (cpu : ℕ) (m : Machine) (time : ℕ) (s : ReplayStateView) → KeepsUp cpu m time s → Idles m cpu
    → PartIdles s.part
replay_idles cpu m time s f i = subst PartIdles f.part (idles_in_part m (apart_of m f.order) cpu i)

-- the replay one event later
pub record Advanced (knobs : KnobsView) (cpu : ℕ) (event : Claimed) (after : Machine) (s : ReplayStateView)
    (events : List Claimed) (last : ReplayStateView) : Type 0 where
  pub next : ReplayStateView
  pub follows : KeepsUp cpu after event.entry.time next
  pub replay : IsReplay knobs cpu next (steps_at cpu events) last
  pub begun : (x : ℕ) → next.since ≡ Some x → (s.since ≡ Some x) ⊎ (x ≡ event.entry.time)
  pub kept : (x : ℕ) → s.since ≡ Some x → PartIdles next.part → next.since ≡ Some x
  pub page : (next.page ≡ s.page) ⊎ ((found : Part) × (next.page ≡ noted s.page s.part found (step_at cpu event)))

-- what a since says of the one before
pub since_idles : (before : Option ℕ) (time : ℕ) (part : Part) (since : Option ℕ) → IsSince before time part since
    → (x : ℕ) → since ≡ Some x → PartIdles part
since_idles before time part since (inl h) x e = h.0
since_idles before time part since (inr h) x e = no_some x (sym h.1 ∙ e)

pub since_told : (before : Option ℕ) (time : ℕ) (part : Part) (since : Option ℕ) → IsSince before time part since
    → PartIdles part → since ≡ Some (unwrap_or before time)
since_told before time part since (inl h) i = h.1
since_told before time part since (inr h) i = absurd (h.0 i)

pub since_begun : (before : Option ℕ) (time : ℕ) (part : Part) (since : Option ℕ) → IsSince before time part since
    → (x : ℕ) → since ≡ Some x → (before ≡ Some x) ⊎ (x ≡ time)
since_begun before time part since h x e = go before refl
    (same_some since x (unwrap_or before time) e
    (since_told before time part since h (since_idles before time part since h x e)))
  where
    go : (o : Option ℕ) → before ≡ o → x ≡ unwrap_or o time → (before ≡ Some x) ⊎ (x ≡ time)
    go None f k = inr k
    go (Some y) f k = inl (f ∙ ap Some (sym k))

pub touched_steps : (cpu : ℕ) (event : Claimed) (events : List Claimed) → touches cpu event ≡ true
    → steps_at cpu (event ∷ events) ≡ step_at cpu event ∷ steps_at cpu events
touched_steps cpu event events e = ap
    (λ b. map (step_at cpu) (cond b (event ∷ filter (touches cpu) events) (filter (touches cpu) events))) e

pub untouched_steps : (cpu : ℕ) (event : Claimed) (events : List Claimed) → touches cpu event ≡ false
    → steps_at cpu (event ∷ events) ≡ steps_at cpu events
untouched_steps cpu event events e = ap
    (λ b. map (step_at cpu) (cond b (event ∷ filter (touches cpu) events) (filter (touches cpu) events))) e

pub not_too_long : (slack : ℕ) (since : Option ℕ) (time pid : ℕ) → ((x : ℕ) → since ≡ Some x → time ≤ x + slack)
    → ¬ IsIdleTooLong slack since time pid
not_too_long slack None time pid h k = k
not_too_long slack (Some x) time pid h k = let a : time ≤ x + slack = h x refl in let b : x + slack < time = k.0 in
    absurd (omega arith)

-- an event that touches the processor
advance_here : (knobs : KnobsView) (cpu : ℕ) (m : Machine) (time : ℕ) (s : ReplayStateView) (event : Claimed)
    (after : Machine)
    (events : List Claimed) (last : ReplayStateView)
    → KeepsUp cpu m time s → IsInOrder after → time ≤ event.entry.time
    → ((x : ℕ) → s.since ≡ Some x → event.entry.time ≤ x + knobs.slack)
    → PartStep knobs cpu (part_of m cpu) (step_at cpu event) (part_of after cpu)
    → IsReplay knobs cpu s (step_at cpu event ∷ steps_at cpu events) last → Advanced knobs cpu event after s events last
advance_here knobs cpu m time s event after events last f o late slack step r = go
    (subst (λ x. IsReplayStep knobs cpu x s (step_at cpu event) r.0) f.fault r.1)
  where
    mine : PartStep knobs cpu s.part (step_at cpu event) (part_of after cpu)
    mine = subst (λ p. PartStep knobs cpu p (step_at cpu event) (part_of after cpu)) f.part step

    earlier : (x : ℕ) → (s.since ≡ Some x) ⊎ (x ≡ event.entry.time) → x ≤ event.entry.time
    earlier x (inl e) = let k : x ≤ time = f.early x e in omega arith
    earlier x (inr e) = omega arith

    go : PassesStep knobs cpu s (step_at cpu event) r.0 ⊎ FailsStep knobs cpu s (step_at cpu event) r.0
        → Advanced knobs cpu event after s events last
    go (inr k) = absurd (step_no_fault knobs cpu s (step_at cpu event) (part_of after cpu) r.0 mine
        (λ pid. not_too_long knobs.slack s.since event.entry.time pid slack) k)
    go (inl k) = record {
      next = r.0;
      follows = record {
        order = o;
        part = sym (step_same_part knobs cpu s (step_at cpu event) (part_of after cpu) r.0 mine k);
        told = λ i. (
          unwrap_or s.since event.entry.time,
          since_told s.since event.entry.time r.0.part r.0.since k.since
              i,
        );
        idles = since_idles s.since event.entry.time r.0.part r.0.since k.since;
        early = λ x e. earlier x (since_begun s.since event.entry.time r.0.part r.0.since k.since x e);
        fault = ap (λ x. x.fault) k.page;
      };
      replay = r.2;
      begun = since_begun s.since event.entry.time r.0.part r.0.since k.since;
      kept = λ x e i. since_told s.since event.entry.time r.0.part r.0.since k.since i
          ∙ ap (λ y. Some (unwrap_or y event.entry.time)) e;
      page = inr (k.found, k.page);
    }

-- an event that touches another
advance_away : (knobs : KnobsView) (cpu : ℕ) (m : Machine) (time : ℕ) (s : ReplayStateView) (event : Claimed)
    (after : Machine)
    (events : List Claimed) (last : ReplayStateView)
    → KeepsUp cpu m time s → IsInOrder after → time ≤ event.entry.time → part_of after cpu ≡ part_of m cpu
    → IsReplay knobs cpu s (steps_at cpu events) last → Advanced knobs cpu event after s events last
advance_away knobs cpu m time s event after events last f o late same r = record {
  next = s;
  follows = record {
    order = o;
    part = same ∙ f.part;
    told = f.told;
    idles = f.idles;
    early = λ x e. (let k : x ≤ time = f.early x e in omega arith);
    fault = f.fault;
  };
  replay = r;
  begun = λ x e. inl e;
  kept = λ x e i. e;
  page = inl refl;
}

pub advance : (knobs : KnobsView) (cpu : ℕ) (m : Machine) (time : ℕ) (s : ReplayStateView) (event : Claimed)
    (after : Machine)
    (events : List Claimed) (last : ReplayStateView)
    → KeepsUp cpu m time s → IsStep knobs m event after → time ≤ event.entry.time
    → ((x : ℕ) → s.since ≡ Some x → event.entry.time ≤ x + knobs.slack)
    → IsReplay knobs cpu s (steps_at cpu (event ∷ events)) last → Advanced knobs cpu event after s events last
advance knobs cpu m time s event after events last f step late slack r =
    let o = step_in_order knobs m event after f.order step in
    elim (steps_at_cpu knobs m event after f.order step cpu) [
      | inl h ↦ advance_here knobs cpu m time s event after events last f o late slack h.1
          (subst (λ xs. IsReplay knobs cpu s xs last) (touched_steps cpu event events h.0) r)
      | inr h ↦ advance_away knobs cpu m time s event after events last f o late h.1
          (subst (λ xs. IsReplay knobs cpu s xs last) (untouched_steps cpu event events h.0) r)
    ]
