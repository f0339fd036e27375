-- Going on over an event: first the policies and the least stray line, then whether it is outside or early.
use Rattle.std.proofs.Common.{◌≡◌, ℕ, ◌||◌, Bool, true, false, Option, Some, None, refl, sym, ap, ◌∙◌, subst, inl}
use Rattle.std.proofs.Common.{inr}
use Rattle.std.specs.Prelude.{MatchOption, is_some}
use Rattle.std.proofs.lemmas.Bool.{false≢true, or_cases, or_left, or_right, true≢false}
use Rattle.cfs_model.specs.Claimed.{policies_after}
use Rattle.cfs_model.specs.declared.act.Entry.{Entry}
use Rattle.sched_record.specs.Join.{IsLeastOf}
use Rattle.window_joining.specs.News.{IsStrayBeside, ListsView}
use Rattle.window_joining.specs.Passing.{IsLateWith, IsOutsideWith, Passes}
use Rattle.window_joining.specs.Policies.{policies_view}
use Rattle.window_joining.specs.declared.joining.Joining.{Joining}

-- the policies and the least stray line are those behind the event, all else is as before
pub record IsMidway (news : ListsView) (event : Entry) (before now : Joining) : Type 0 where
  pub policies : (pid : ℕ) → policies_view now.policies pid
      ≡ policies_after news.idles (policies_view before.policies) event.line event.act pid
  pub stray : MatchOption before.stray (IsLeastOf (IsStrayBeside news event) now.stray) (λ line. now.stray ≡ Some line)
  pub outside : now.outside ≡ before.outside
  pub late : now.late ≡ before.late
  pub line : now.line ≡ before.line

-- what holds where there is no line, and where there is one
pub at_none : {A : Type 0} (B : ℕ → Type 0) (o : Option ℕ) → is_some o ≡ false → A → MatchOption o A B
at_none B None none holds = holds
at_none B (Some x) none holds = absurd (true≢false none)

pub at_some : (A : Type 0) (o : Option ℕ) → is_some o ≡ true → MatchOption o A (λ line. o ≡ Some line)
at_some A None some = absurd (false≢true some)
at_some A (Some x) some = refl

any_stays : (a b c d e f : Bool) → (a ≡ true → d ≡ true) → (b ≡ true → e ≡ true) → (c ≡ true → f ≡ true)
    → ((a || b) || c) ≡ true → ((d || e) || f) ≡ true
any_stays a b c d e f p q r is = elim (or_cases (a || b) c is) [
  | inr last ↦ or_right (d || e) f (r last)
  | inl first ↦ or_left (d || e) f (elim (or_cases a b first) [
    | inl x ↦ or_left d e (p x)
    | inr y ↦ or_right d e (q y)
  ])
]

stray_stays : (A : Type 0) (before after : Option ℕ) → MatchOption before A (λ line. after ≡ Some line)
    → is_some before ≡ true → is_some after ≡ true
stray_stays A None after is some = absurd (false≢true some)
stray_stays A (Some line) after is some = ap is_some is

pub passes_by : (cpus start : ℕ) (news : ListsView) (event : Entry) (before now after : Joining)
    → IsMidway news event before now → after.policies ≡ now.policies → after.stray ≡ now.stray
    → IsOutsideWith cpus event now.outside after.outside
    → (is_some now.outside ≡ true → is_some after.outside ≡ true)
    → IsLateWith start now.line event now.late after.late → (is_some now.late ≡ true → is_some after.late ≡ true)
    → after.line ≡ event.line → Passes cpus start news event before after
passes_by cpus start news event before now after mid policies stray outside outside_stays late late_stays line =
    let stray_is : MatchOption before.stray (IsLeastOf (IsStrayBeside news event) after.stray)
    (λ line. after.stray ≡ Some line) =
    subst (λ o. MatchOption before.stray (IsLeastOf (IsStrayBeside news event) o) (λ line. o ≡ Some line)) (sym stray)
    mid.stray in
    record {
      policies = λ pid. ap (λ ps. policies_view ps pid) policies ∙ mid.policies pid;
      stray = stray_is;
      outside = subst (λ o. IsOutsideWith cpus event o after.outside) mid.outside outside;
      late = subst (λ o. IsLateWith start before.line event o after.late) mid.late
          (subst (λ n. IsLateWith start n event now.late after.late) mid.line late);
      line = line;
      refused = any_stays (is_some before.outside) (is_some before.late) (is_some before.stray)
          (is_some after.outside) (is_some after.late) (is_some after.stray)
          (λ some. outside_stays (ap is_some mid.outside ∙ some))
          (λ some. late_stays (ap is_some mid.late ∙ some))
          (stray_stays (IsLeastOf (IsStrayBeside news event) after.stray) before.stray after.stray stray_is);
    }
