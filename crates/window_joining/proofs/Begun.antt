-- What is known before the first event.
use Rattle.std.proofs.Common.{◌≡◌, ℕ, ◌<◌, ◌≤◌, [], List, None, inl, inr, ap, ◌∙◌, arith}
use Rattle.std.specs.Prelude.{All, Any}
use Rattle.std.proofs.lemmas.List.Elements.{All-contains, All-nil}
use Rattle.cfs_model.specs.Claimed.{named_policy}
use Rattle.cfs_model.specs.Limits.{no_line}
use Rattle.cfs_model.specs.Start.{policies_at_start}
use Rattle.cfs_model.specs.declared.charge_line.ChargeLine.{ChargeLine}
use Rattle.cfs_model.specs.declared.claim.Claim.{Claim}
use Rattle.cfs_model.specs.declared.nice_line.NiceLine.{NiceLine}
use Rattle.cfs_model.specs.declared.task.Task.{Task}
use Rattle.companion_file.specs.Companion.{CompanionView}
use Rattle.sched_record.specs.Join.{IsInside, IsStray}
use Rattle.window_joining.specs.Joining.{HasJoined, IsHeadOf, StandBehind}
use Rattle.window_joining.specs.Policies.{policies_view}
use Rattle.window_joining.specs.declared.joining.Joining.{Joining}

none_on : {X : Type 0} (f : X → ℕ) (items : List X) (n : ℕ) → All (λ x. no_line < f x) items → n ≤ no_line
    → Any (λ x. f x ≡ n) items → ⊥
none_on f items n all le (k, x, h, at, is) =
    let lt = All-contains (λ y. no_line < f y) items x all (k, h, at) in absurd (omega (arith, lt, is, le))

-- nothing stands up to the first line
none_stray : (c : CompanionView) → StandBehind no_line c → (n : ℕ) → (n ≤ no_line) × IsStray [] c n → ⊥
none_stray c behind n (le, inl claim) = none_on (λ (x : Claim). x.line) c.claims n behind.claims le claim.0
none_stray c behind n (le, inr (inl change)) = none_on (λ (x : NiceLine). x.line) c.nices n behind.nices le change.0
none_stray c behind n (le, inr (inr (inl (k, idle, h, at, (is, stray))))) =
    stray (λ some. absurd (omega (arith, some, is, le)))
none_stray c behind n (le, inr (inr (inr charge))) =
    none_on (λ (x : ChargeLine). x.line) c.charges n behind.charges le charge.0

pub begun : (head c : CompanionView) (joining : Joining) → joining.line ≡ no_line → joining.outside ≡ None
    → joining.late ≡ None → joining.stray ≡ None
    → ((pid : ℕ) → policies_view joining.policies pid ≡ named_policy head.idles no_line pid)
    → ((pid : ℕ) → named_policy head.idles no_line pid ≡ policies_at_start head.tasks pid)
    → IsHeadOf head c → StandBehind no_line c → HasJoined joining c []
begun head c joining line outside late stray held told alike behind = record {
  edge = line;
  lines = All-nil (λ event. (no_line < event.line) × (event.line ≤ joining.line));
  policies = λ pid. held pid ∙ told pid ∙ ap (λ (ts : List Task). policies_at_start ts pid) alike.tasks;
  outside = rw outside (All-nil (IsInside c.cpus));
  late = rw late tt;
  stray = rw stray (λ n has. none_stray c behind n ((let le = has.0 in omega (arith, le, line)), has.1));
}
