-- The replay along a whole run, and since when it says that a processor has idled.
use Rattle.std.proofs.Common.{◌≡◌, ℕ, zero, suc, ◌+◌, ◌<◌, ◌≤◌, Some, ◌⊎◌, inl, inr, List, [], ◌∷◌, length, slice_index}
use Rattle.std.proofs.Common.{sym, subst, arith}
use Rattle.cfs_model.specs.Knobs.{KnobsView}
use Rattle.cfs_model.specs.Machine.{Machine}
use Rattle.cfs_model.specs.Claimed.{Claimed}
use Rattle.cfs_model.specs.Idling.{Idles, IdlesFrom, KeepsSlack}
use Rattle.cfs_model.specs.Run.{AreSteps, times_of, last_of}
use Rattle.replay_model.specs.Cut.{steps_at, last_time_of}
use Rattle.replay_model.specs.Record.{TimesRise}
use Rattle.replay_model.specs.Page.{ReplayStateView, IsReplay}
use Rattle.replay_model.proofs.Options.{same_some}
use Rattle.replay_laws.proofs.following.Follow.{KeepsUp, machine_idles, replay_idles, advance}

-- more idle states: one before, and all but the first
pub idles_before : (m : Machine) (states : List Machine) (cpu k : ℕ) → Idles m cpu → IdlesFrom states cpu 0 k
    → IdlesFrom (m ∷ states) cpu 0 (suc k)
idles_before m states cpu k i h zero a b = i
idles_before m states cpu k i h (suc n) a b = h n (omega arith) (omega arith)

pub idles_later : (m : Machine) (states : List Machine) (cpu i k : ℕ) → IdlesFrom states cpu i k
    → IdlesFrom (m ∷ states) cpu (suc i) (suc k)
idles_later m states cpu i k h zero a b = absurd (omega arith)
idles_later m states cpu i k h (suc n) a b = h n (omega arith) (omega arith)

pub idles_tail : (m : Machine) (states : List Machine) (cpu i k : ℕ) → IdlesFrom (m ∷ states) cpu (suc i) (suc k)
    → IdlesFrom states cpu i k
idles_tail m states cpu i k h n a b = h (suc n) (omega arith) (omega arith)

pub idles_rest : (m : Machine) (states : List Machine) (cpu k : ℕ) → IdlesFrom (m ∷ states) cpu 0 (suc k)
    → IdlesFrom states cpu 0 k
idles_rest m states cpu k h n a b = h (suc n) (omega arith) (omega arith)

pub idles_one : (m : Machine) (states : List Machine) (cpu : ℕ) → Idles m cpu → IdlesFrom (m ∷ states) cpu 0 1
idles_one m states cpu i zero a b = i
idles_one m states cpu i (suc n) a b = absurd (omega arith)

-- a processor that has idled since before doesn't do so for too long
abbrev pub Still : ℕ → ℕ → Machine → ℕ → ReplayStateView → List Claimed → List Machine → Type 0
Still slack cpu m time s events states =
    (x : ℕ) → s.since ≡ Some x → (j : ℕ) → 0 < j → j < length (m ∷ states) → IdlesFrom (m ∷ states) cpu 0 j
    → slice_index (times_of time events) j ≤ x + slack

-- the state from which on a processor has idled
pub record BeginsAt (cpu : ℕ) (times : List ℕ) (states : List Machine) (x : ℕ) : Type 0 where
  pub at : ℕ
  pub below : at < length states
  pub time : slice_index times at ≡ x
  pub idles : IdlesFrom states cpu at (length states)

pub record Followed (cpu : ℕ) (m : Machine) (time : ℕ) (s : ReplayStateView) (events : List Claimed)
    (states : List Machine)
    (last : ReplayStateView) : Type 0 where
  pub at : KeepsUp cpu (last_of m states) (last_time_of time events) last
  pub begun : (x : ℕ) → last.since ≡ Some x
      → ((s.since ≡ Some x) × IdlesFrom (m ∷ states) cpu 0 (length (m ∷ states)))
      ⊎ BeginsAt cpu (times_of time events) (m ∷ states) x
  pub kept : (x : ℕ) → s.since ≡ Some x → IdlesFrom (m ∷ states) cpu 0 (length (m ∷ states)) → last.since ≡ Some x
  pub longest : (i : ℕ) → i < length (m ∷ states) → IdlesFrom (m ∷ states) cpu i (length (m ∷ states)) → (x : ℕ)
      → last.since ≡ Some x → x ≤ slice_index (times_of time events) i

followed_none : (cpu : ℕ) (m : Machine) (time : ℕ) (s last : ReplayStateView) → KeepsUp cpu m time s → last ≡ s
    → Followed cpu m time s [] [] last
followed_none cpu m time s last f e = subst (Followed cpu m time s [] []) (sym e) (record {
  at = f;
  begun = λ x h. inl (h, idles_one m [] cpu (machine_idles cpu m time s f x h));
  kept = λ x h k. h;
  longest = λ i below h x e. early i below x e;
})
  where
    early : (i : ℕ) → i < 1 → (x : ℕ) → s.since ≡ Some x → x ≤ slice_index (time ∷ []) i
    early zero below x e = f.early x e
    early (suc i) below x e = absurd (omega arith)

-- the slack of a processor one event later
pub still_more : (slack cpu : ℕ) (m : Machine) (time : ℕ) (s : ReplayStateView) (event : Claimed)
    (events : List Claimed)
    (after : Machine) (states : List Machine) (next : ReplayStateView)
    → KeepsUp cpu m time s → Still slack cpu m time s (event ∷ events) (after ∷ states)
    → KeepsSlack slack (times_of time (event ∷ events)) (m ∷ after ∷ states)
    → ((x : ℕ) → next.since ≡ Some x → (s.since ≡ Some x) ⊎ (x ≡ event.entry.time))
    → Still slack cpu after event.entry.time next events states
still_more slack cpu m time s event events after states next f still keeps begun x e j a b idles = go (begun x e)
  where
    go : (s.since ≡ Some x) ⊎ (x ≡ event.entry.time) → slice_index (times_of event.entry.time events) j ≤ x + slack
    go (inl h) = still x h (suc j) (omega arith) (omega arith)
        (idles_before m (after ∷ states) cpu j (machine_idles cpu m time s f x h) idles)
    go (inr h) = subst (λ y. slice_index (times_of event.entry.time events) j ≤ y + slack) (sym h)
        (keeps cpu 1 (suc j) (omega arith) (omega arith) (idles_later m (after ∷ states) cpu 0 j idles))

pub keeps_more : (slack time : ℕ) (times : List ℕ) (m : Machine) (states : List Machine)
    → KeepsSlack slack (time ∷ times) (m ∷ states) → KeepsSlack slack times states
keeps_more slack time times m states h cpu i j a b idles = h cpu (suc i) (suc j) (omega arith) (omega arith)
    (idles_later m states cpu i j idles)

-- one more event before what was followed
followed_more : (cpu : ℕ) (m : Machine) (time : ℕ) (s : ReplayStateView) (event : Claimed) (events : List Claimed)
    (after : Machine) (states : List Machine) (next last : ReplayStateView)
    → KeepsUp cpu m time s → KeepsUp cpu after event.entry.time next
    → ((x : ℕ) → next.since ≡ Some x → (s.since ≡ Some x) ⊎ (x ≡ event.entry.time))
    → ((x : ℕ) → s.since ≡ Some x → Idles after cpu → next.since ≡ Some x)
    → Followed cpu after event.entry.time next events states last
    → Followed cpu m time s (event ∷ events) (after ∷ states) last
followed_more cpu m time s event events after states next last f g begun kept h =
    record { at = h.at; begun = begun_now; kept = kept_now; longest = longest_now }
  where
    begun_now : (x : ℕ) → last.since ≡ Some x
        → ((s.since ≡ Some x) × IdlesFrom (m ∷ after ∷ states) cpu 0 (length (m ∷ after ∷ states)))
        ⊎ BeginsAt cpu (times_of time (event ∷ events)) (m ∷ after ∷ states) x
    begun_now x e = elim (h.begun x e) [
      | inl k ↦ elim (begun x k.0) [
        | inl l ↦ inl (
          l,
          idles_before m (after ∷ states) cpu (length (after ∷ states))
              (machine_idles cpu m time s f x l) k.1,
        )
        | inr l ↦ inr (record {
          at = 1;
          below = omega arith;
          time = sym l;
          idles = idles_later m (after ∷ states) cpu 0
              (length (after ∷ states)) k.1;
        })
      ]
      | inr k ↦ inr (record {
        at = suc k.at;
        below = (let b = k.below in omega arith);
        time = k.time;
        idles = idles_later m
            (after ∷ states) cpu k.at (length (after ∷ states)) k.idles;
      })
    ]

    kept_now : (x : ℕ) → s.since ≡ Some x → IdlesFrom (m ∷ after ∷ states) cpu 0 (length (m ∷ after ∷ states))
        → last.since ≡ Some x
    kept_now x e idles = h.kept x (kept x e (idles 1 (omega arith) (omega arith)))
        (idles_rest m (after ∷ states) cpu (length (after ∷ states)) idles)

    longest_now : (i : ℕ) → i < length (m ∷ after ∷ states)
        → IdlesFrom (m ∷ after ∷ states) cpu i (length (m ∷ after ∷ states)) → (x : ℕ) → last.since ≡ Some x
        → x ≤ slice_index (times_of time (event ∷ events)) i
    longest_now zero below idles x e =
        let y = f.told (replay_idles cpu m time s f (idles 0 (omega arith) (omega arith))) in
        subst (λ z. z ≤ time) (same_some last.since y.0 x (kept_now y.0 y.1 idles) e) (f.early y.0 y.1)
    longest_now (suc i) below idles x e = h.longest i (omega arith)
        (idles_tail m (after ∷ states) cpu i (length (after ∷ states)) idles) x e

pub follow : (knobs : KnobsView) (cpu : ℕ) (m : Machine) (time : ℕ) (s : ReplayStateView) (events : List Claimed)
    (states : List Machine) (last : ReplayStateView)
    → KeepsUp cpu m time s → AreSteps knobs m events states → TimesRise time events
    → Still knobs.slack cpu m time s events states
    → KeepsSlack knobs.slack (times_of time events) (m ∷ states) → IsReplay knobs cpu s (steps_at cpu events) last
    → Followed cpu m time s events states last
follow knobs cpu m time s [] [] last f steps rise still keeps r = followed_none cpu m time s last f r
follow knobs cpu m time s [] (after ∷ states) last f steps rise still keeps r = absurd steps
follow knobs cpu m time s (event ∷ events) [] last f steps rise still keeps r = absurd steps
follow knobs cpu m time s (event ∷ events) (after ∷ states) last f steps rise still keeps r =
    let adv = advance knobs cpu m time s event after events last f steps.0 rise.0
    (λ x e. still x e 1 (omega arith) (omega arith) (idles_one m (after ∷ states) cpu (machine_idles cpu m time s f x
    e)))
    r in
    followed_more cpu m time s event events after states adv.next last f adv.follows adv.begun
    (λ x e i. adv.kept x e (replay_idles cpu after event.entry.time adv.next adv.follows i))
    (follow knobs cpu after event.entry.time adv.next events states last adv.follows steps.1 rise.1
    (still_more knobs.slack cpu m time s event events after states adv.next f still keeps adv.begun)
    (keeps_more knobs.slack time (times_of event.entry.time events) m (after ∷ states) keeps) adv.replay)
