-- What was found stays found, and what is known of what was handed on stays known as more comes in.
use Rattle.std.proofs.Common.{◌≡◌, Bool, true, false, List, [], Option, Some, None, refl, sym, ap, subst, ◌∙◌}
use Rattle.std.specs.Prelude.{IsNone, IsSome, MatchOption}
use Rattle.cfs_model.specs.Claimed.{Claimed}
use Rattle.stream_audit.specs.Aim.{AimView}
use Rattle.companion_file.specs.declared.companion.Companion.{Companion}
use Rattle.stream_audit.specs.Aim.{Begun}
use Rattle.window_joining.specs.Joining.{is_refused}
use Rattle.stream_audit.proofs.Joined.{still}
use Rattle.stream_audit.specs.Course.{AreJudged, IsCalm, IsSettledBy, StartStays, WereJudged}
use Rattle.stream_audit.specs.Judge.{IsAwaiting, begun}
use Rattle.stream_audit.specs.Progress.{IsKnownOf}
use Rattle.stream_audit.specs.declared.course.Course.{Course}
use Rattle.stream_audit.specs.declared.joined_events.JoinedEvents.{JoinedEvents}
use Rattle.stream_audit.specs.declared.judge.Judge.{Judge}

-- ---- what was found

-- what is refused stays so
abbrev pub RefusalStays : Option JoinedEvents → Option JoinedEvents → Type 0
RefusalStays old new =
    MatchOption old (Unit {0})
    (λ a. MatchOption new ⊥ (λ b. is_refused a.joining ≡ true → is_refused b.joining ≡ true))

calm_before : (old new : Option JoinedEvents) → RefusalStays old new
    → MatchOption new (Unit {0}) (λ joined. is_refused joined.joining ≡ false)
    → MatchOption old (Unit {0}) (λ joined. is_refused joined.joining ≡ false)
calm_before None new stays calm = tt
calm_before (Some a) None stays calm = absurd stays
calm_before (Some a) (Some b) stays calm = still (is_refused a.joining) (is_refused b.joining) stays calm

-- where nothing was found by now nothing was found before
pub calm_from : (old new : Course) → (IsNone new.companion.reader.bad → IsNone old.companion.reader.bad)
    → RefusalStays old.joined new.joined → IsCalm new → IsCalm old
calm_from old new good stays calm = (good calm.0, calm_before old.joined new.joined stays calm.1)

pub same_refusal : (old new : Option JoinedEvents) → new ≡ old → RefusalStays old new
same_refusal None new same = tt
same_refusal (Some a) None same = absurd cc
same_refusal (Some a) (Some b) same = λ refused.
    (let e : b ≡ a = cc in subst (λ (j : JoinedEvents). is_refused j.joining ≡ true) (sym e) refused)

pub same_start : (old new : Option JoinedEvents) → new ≡ old → StartStays old new
same_start None new same = tt
same_start (Some a) None same = absurd cc
same_start (Some a) (Some b) same = (let e : b ≡ a = cc in ap (λ (j : JoinedEvents). j.start) e)

-- what holds of one that is there
pub at_some : {A : Type 0} (N : Type 0) (P : A → Type 0) (o : Option A) (x : A) → o ≡ Some x → MatchOption o N P → P x
at_some N P o x is holds = subst (λ (p : Option _). MatchOption p N P) is holds

pub begun_start : (old new : Option JoinedEvents) → (IsSome old → new ≡ old) → StartStays old new
begun_start None new same = tt
begun_start (Some a) new same = same_start (Some a) new (same refl)

-- where joining begins nothing else changes
pub begun_refusal : (old new : Option JoinedEvents) → (IsSome old → new ≡ old) → RefusalStays old new
begun_refusal None new same = tt
begun_refusal (Some a) new same = same_refusal (Some a) new (same refl)

-- and then more is joined
pub joined_refusal : (old mid : Option JoinedEvents) (a b : JoinedEvents) → (IsSome old → mid ≡ old) → mid ≡ Some a
    → (is_refused a.joining ≡ true → is_refused b.joining ≡ true) → RefusalStays old (Some b)
joined_refusal None mid a b same is stays = tt
joined_refusal (Some o) mid a b same is stays = λ refused.
    (let e : ◌≡◌ {A = Option JoinedEvents} (Some a) (Some o) = sym is ∙ same refl in
    let one : a ≡ o = cc in
    stays (subst (λ (j : JoinedEvents). is_refused j.joining ≡ true) (sym one) refused))

-- ---- what is known

settled_stays : (P : Begun → List Claimed → Judge → Type 0) (aim later : AimView)
    (old new : Option JoinedEvents) (handed : List Claimed) (judge : Option Judge) → later ≡ aim
    → StartStays old new → IsSettledBy P aim old handed judge → IsSettledBy P later new handed judge
settled_stays P aim later None None handed judge same starts settled = settled
settled_stays P aim later None (Some b) handed None same starts settled = settled.0
settled_stays P aim later None (Some b) handed (Some j) same starts settled = absurd (let e = settled.1 in cc)
settled_stays P aim later (Some a) None handed judge same starts settled = absurd starts
settled_stays P aim later (Some a) (Some b) handed judge same starts settled =
    subst (λ (k : AimView). MatchOption judge (handed ≡ []) (λ j. P (begun k b.start) handed j)) (sym same)
    (subst (λ (s : Companion). MatchOption judge (handed ≡ []) (λ j. P (begun aim s) handed j)) (sym starts) settled)

pub judged_stays : (old new : Course) (handed : List Claimed) (judge : Option Judge) → new.aim ≡ old.aim
    → (IsCalm new → IsCalm old) → StartStays old.joined new.joined → AreJudged old handed judge
    → AreJudged new handed judge
judged_stays old new handed judge same calm starts judged now =
    settled_stays IsAwaiting old.aim new.aim old.joined new.joined handed judge same starts (judged (calm now))

pub known_stays : (old new : Course) (handed : List Claimed) (judge : Option Judge) → new.aim ≡ old.aim
    → (IsCalm new → IsCalm old) → StartStays old.joined new.joined → WereJudged old handed judge
    → WereJudged new handed judge
known_stays old new handed judge same calm starts judged now =
    settled_stays (λ of handed j. IsKnownOf of handed j.progress) old.aim new.aim old.joined new.joined handed judge
    same starts (judged (calm now))

-- where it isn't told otherwise nothing was found
pub calm_told : (A : Type 0) (told : Bool) → (told ≡ false → A → ⊥) → A → told ≡ true
calm_told A true found calm = refl
calm_told A false found calm = absurd (found refl calm)

-- of each that was handed on something else follows
pub settled_as : (P Q : Begun → List Claimed → Judge → Type 0) (aim : AimView) (joined : Option JoinedEvents)
    (handed : List Claimed) (old new : Option Judge)
    → MatchOption old (IsNone new) (λ a. MatchOption new ⊥ (λ b. (of : Begun) → P of handed a → Q of handed b))
    → IsSettledBy P aim joined handed old → IsSettledBy Q aim joined handed new
settled_as P Q aim None handed None new follows settled = (settled.0, follows)
settled_as P Q aim None handed (Some a) new follows settled = absurd (let e = settled.1 in cc)
settled_as P Q aim (Some j) handed None None follows settled = settled
settled_as P Q aim (Some j) handed None (Some b) follows settled = absurd (let e = follows in cc)
settled_as P Q aim (Some j) handed (Some a) None follows settled = absurd follows
settled_as P Q aim (Some j) handed (Some a) (Some b) follows settled = follows (begun aim j.start) settled
