-- The place of a setting's figure in the windows seen so far.
use Rattle.std.proofs.Common.{◌≡◌, ℕ, ◌+◌, ◌<◌, ◌≤◌, ◌⊎◌, inl, inr, ◌∷◌, ◌++◌, sym, ◌∙◌, subst}
use Rattle.std.proofs.Common.{arith}
use Rattle.std.specs.List.{AllByRecursion}
use Rattle.cfs_model.specs.Claimed.{Claimed}
use Rattle.cfs_model.specs.Knobs.{value_at}
use Rattle.cfs_model.specs.Start.{start_machine}
use Rattle.replay_model.specs.Cut.{last_time_of, steps_at}
use Rattle.replay_model.specs.declared.step.Step.{Step}
use Rattle.need_laws.specs.Places.{PlaceStays, WindowHasIdling, WindowHasPlace}
use Rattle.need_laws.specs.Reaching.{IdlesAtEnd, IdlesAtStep, IdlesFrom, ReachesAt, ReachesFrom}
use Rattle.need_laws.specs.Short.{kind_of}
use Rattle.window_laws.proofs.Stays.{fault_stays}
use Rattle.need_laws.proofs.FirstReach.{le_through}
use Rattle.need_laws.proofs.IdleFaults.{idling_is_fault}
use Rattle.need_laws.proofs.ReachFaults.{reached_is_fault}

pub place_stays : PlaceStays
place_stays start floors tasks events more knobs wider which line cpu pid most same at other lack =
    fault_stays other start (start_machine start floors tasks) events more line
    (record { cpu = cpu; pid = pid; kind = kind_of which })
    (at other (record {
      one = lack.one ∙ sym same;
      others = λ setting. elim (lack.others setting) [
        | inl e ↦ inl e
        | inr le ↦ inr (le_through (value_at knobs setting) (value_at wider setting) (value_at other setting)
            (most setting) le)
      ];
    }))

less_by_one : (n m l : ℕ) → n < l → m + 1 ≡ l → n ≤ m
less_by_one n m l k e = omega arith

same_bound : (b n m l : ℕ) → n ≡ b + 1 → n ≡ l → m + 1 ≡ l → b ≡ m
same_bound b n m l e f g = omega arith

pub window_has_place : WindowHasPlace
window_has_place knobs least start floors tasks before window cpus kept ends had here behind alive which cpu step since
    left saw low rises not_slack k full rose other lack =
    reached_is_fault knobs least other start floors tasks before window cpus kept ends had here behind alive which cpu
    step saw.is_record saw.so_far saw.run (record {
      so_far = saw.needs_before;
      reaches = reaches;
      had_wider = saw.had_most;
      here_wider = saw.here_most;
      had_which = λ one k. less_by_one (value_at (had one) which) (value_at other which) (value_at least which) (low
          one k)
          lack.one;
      others = lack.others;
    }) not_slack k (reach cpu step rose.bound
    (same_bound rose.bound (value_at (here cpu) which) (value_at other which) (value_at least which) rose.above full
    lack.one) rose.reaches)
  where
    reach : (one : ℕ) (at : Step) (bound : ℕ) → bound ≡ value_at other which
        → ReachesAt knobs one (kept one) (steps_at one window) (ends one) (here one) which bound at
        → ReachesAt knobs one (kept one) (steps_at one window) (ends one) (here one) which (value_at other which) at
    reach one at bound e r = subst (λ n. ReachesAt knobs one (kept one) (steps_at one window) (ends one) (here one)
        which n
        at) e r

    reaches : (one : ℕ) → one < cpus → ReachesFrom knobs one (kept one) (steps_at one window) (ends one) (here one)
        which
        (value_at other which) step.line
    reaches one k = elim (rises one k) [
      | inl less ↦ inl (
        saw.passes one k,
        less_by_one (value_at (here one) which) (value_at other which) (value_at least which) less lack.one,
      )
      | inr at ↦ inr (
        at.0,
        at.4,
        reach one at.0 at.5.bound
            (same_bound at.5.bound (value_at (here one) which) (value_at other which) (value_at least which)
            at.5.above at.3
            lack.one) at.5.reaches,
      )
    ]

same_slack : (bound slack least : ℕ) → least ≡ bound + 1 → slack + 1 ≡ least → bound ≡ slack
same_slack bound slack least e f = omega arith

one_more : (slack least : ℕ) → slack + 1 ≡ least → least ≤ slack + 1
one_more slack least e = omega arith

pub window_has_idling : WindowHasIdling
window_has_idling knobs least start floors tasks before front rest event cpus kept ends had here behind alive cpu bound
    first saw top low_had low_time idles low late k since lowest other lack =
    let same = same_slack bound other.slack least.slack top lack.one in
    let last = last_time_of start (before ++ (front ++ event ∷ rest)) in
    idling_is_fault knobs least other start floors tasks before front rest event cpus kept ends had here behind
    alive cpu
    first saw.is_record saw.so_far saw.run (one_more other.slack least.slack lack.one) (record {
      so_far = saw.needs_before;
      idles = λ one within. subst (λ n. IdlesFrom knobs one (kept one) (steps_at one (front ++ event ∷ rest)) (ends one)
          (here one) n last first) same (idles one within);
      had_wider = saw.had_most;
      here_wider = saw.here_most;
      had_slack = λ one within. subst (λ n. (had one).slack ≤ n) same (low_had one within);
      had_time = λ one since within e. subst (λ n. last_time_of start before ≤ since + n) same
          (low_time one since within e);
      others = lack.others;
    }) (subst (λ n. AllByRecursion (λ (x : Claimed). x.entry.time ≤ first + n) front) same low)
    (subst (λ n. first + n < event.entry.time) same late) k
    (subst (λ n. IdlesAtEnd knobs cpu (kept cpu) (steps_at cpu (front ++ event ∷ rest)) (ends cpu) (here cpu) n first
    ⊎ IdlesAtStep knobs cpu (kept cpu) (steps_at cpu (front ++ event ∷ rest)) (ends cpu) (here cpu) n first) same since)
    (λ lower below. subst (λ n. IdlesFrom knobs lower (kept lower) (steps_at lower (front ++ event ∷ rest)) (ends lower)
    (here lower) n last (first + 1)) same (lowest lower below))
