-- What was joined so far: the window's events are those that come behind what was handed on.
use Rattle.std.proofs.Common.{◌≡◌, ℕ, suc, ◌<◌, ◌≤◌, Bool, true, false, ℤ, List, [], ◌∷◌, ◌++◌}
use Rattle.std.proofs.Common.{length, All, AllPairs, Option, None, IsSome, refl, sym, ap, ◌∙◌, subst}
use Rattle.std.proofs.Common.{arith}
use Rattle.std.proofs.Common.{suc-le-suc, append-nil, length-append}
use Rattle.std.proofs.lemmas.Bool.{false≢true}
use Rattle.cfs_model.specs.Claimed.{Claimed}
use Rattle.stream_audit.specs.Aim.{AimView, audited_at, begun_of}
use Rattle.cfs_model.specs.Limits.{greatest_line, greatest_setting, no_line}
use Rattle.cfs_model.specs.declared.act.Entry.{Entry}
use Rattle.cfs_model.specs.declared.charge_line.ChargeLine.{ChargeLine}
use Rattle.cfs_model.specs.declared.claim.Claim.{Claim}
use Rattle.cfs_model.specs.declared.nice_line.NiceLine.{NiceLine}
use Rattle.cfs_model.specs.declared.task.Task.{Task}
use Rattle.companion_file.specs.Companion.{CompanionView}
use Rattle.companion_file.specs.Order.{IsCompanionInOrder}
use Rattle.replay_model.specs.Record.{IsRecord}
use Rattle.sched_record.specs.Join.{joined_record}
use Rattle.sched_record.specs.Kept.{AreInOrder}
use Rattle.sched_record.specs.Record.{RecordView}
use Rattle.sched_record.specs.declared.joining.JoinFault.{JoinFault}
use Rattle.ticket_book.specs.SaidEvents.{events_of}
use Rattle.companion_file.specs.Seen.{companion_view}
use Rattle.sched_record.specs.Window.{window_view}
use Rattle.stream_audit.specs.Aim.{Begun}
use Rattle.window_joining.specs.Joining.{GoTogetherSoFar, IsHeadOf, IsHeld, StandBehind, edge_from}
use Rattle.window_joining.specs.Joining.{edge_of}
use Rattle.stream_laws.proofs.Prefix.{few_events, record_so_far, same_count, times_stay_below}
use Rattle.stream_audit.specs.Joined.{AreJoinedSoFar, IsLast}
use Rattle.stream_audit.specs.Judge.{IsAllOf, IsAwaiting, begun}
use Rattle.stream_audit.specs.Progress.{IsEnd, IsKnownOf, IsNext}
use Rattle.stream_audit.specs.declared.joined_events.JoinedEvents.{JoinedEvents}
use Rattle.stream_audit.specs.declared.judge.Judge.{Judge}
use Rattle.stream_audit.specs.declared.progress.Progress.{Progress}

-- ---- rising lists

pairs_head : {A : Type 0} (R : A → A → Type 0) (x : A) (xs : List A) → AllPairs R (x ∷ xs) → All (λ y. R x y) xs
pairs_head R x xs h = λ k d within. h 0 (suc k) d (omega arith) (suc-le-suc within)

pairs_tail : {A : Type 0} (R : A → A → Type 0) (x : A) (xs : List A) → AllPairs R (x ∷ xs) → AllPairs R xs
pairs_tail R x xs h = λ i j d below within. h (suc i) (suc j) d (suc-le-suc below) (suc-le-suc within)

-- what is left of a list rises as the list does
pub pairs_behind : {A : Type 0} (R : A → A → Type 0) (gone xs : List A) → AllPairs R (gone ++ xs) → AllPairs R xs
pairs_behind R [] xs h = h
pairs_behind R (x ∷ gone) xs h = pairs_behind R gone xs (pairs_tail R x (gone ++ xs) h)

-- events behind others stand below the last of those
edge_below : (line : ℕ) (before events : List Entry) → All (λ (event : Entry). line < event.line) (before ++ events)
    → AllPairs (λ (a : Entry) (b : Entry). a.line < b.line) (before ++ events)
    → All (λ (event : Entry). edge_from line before < event.line) events
edge_below line [] events above rise = above
edge_below line (event ∷ before) events above rise =
    edge_below event.line before events
    (pairs_head (λ (a : Entry) (b : Entry). a.line < b.line) event (before ++ events) rise)
    (pairs_tail (λ (a : Entry) (b : Entry). a.line < b.line) event (before ++ events) rise)

pub next_below : (before events : List Entry) → AreInOrder (before ++ events)
    → All (λ (event : Entry). edge_of before < event.line) events
next_below before events o = edge_below no_line before events o.from_one o.lines_rise

-- ---- what is held of a companion

-- what is held rises
pub claims_rise : (edge : ℕ) (c : CompanionView) (claims : List Claim) (nices : List NiceLine)
    (charges : List ChargeLine) → IsCompanionInOrder c → IsHeld edge c claims nices charges
    → AllPairs (λ (a : Claim) (b : Claim). a.line < b.line) claims
claims_rise edge c claims nices charges o h =
    pairs_behind (λ (a : Claim) (b : Claim). a.line < b.line) h.claims.gone claims
    (subst (AllPairs (λ (a : Claim) (b : Claim). a.line < b.line)) h.claims.parts o.lines_rise)

pub nices_rise : (edge : ℕ) (c : CompanionView) (claims : List Claim) (nices : List NiceLine)
    (charges : List ChargeLine) → IsCompanionInOrder c → IsHeld edge c claims nices charges
    → AllPairs (λ (a : NiceLine) (b : NiceLine). a.line < b.line) nices
nices_rise edge c claims nices charges o h =
    pairs_behind (λ (a : NiceLine) (b : NiceLine). a.line < b.line) h.nices.gone nices
    (subst (AllPairs (λ (a : NiceLine) (b : NiceLine). a.line < b.line)) h.nices.parts o.nice_lines_rise)

pub charges_rise : (edge : ℕ) (c : CompanionView) (claims : List Claim) (nices : List NiceLine)
    (charges : List ChargeLine) → IsCompanionInOrder c → IsHeld edge c claims nices charges
    → AllPairs (λ (a : ChargeLine) (b : ChargeLine). a.line < b.line) charges
charges_rise edge c claims nices charges o h =
    pairs_behind (λ (a : ChargeLine) (b : ChargeLine). a.line < b.line) h.charges.gone charges
    (subst (AllPairs (λ (a : ChargeLine) (b : ChargeLine). a.line < b.line)) h.charges.parts o.charge_lines_rise)

-- all that is said of lines stands behind none
pub all_behind : (c : CompanionView) → IsCompanionInOrder c → StandBehind no_line c
all_behind c o = record {
  claims = λ k d h. let line = (o.claims_in_limits k d h).line.0 in omega (arith, line);
  nices = λ k d h. let line = (o.nices_in_limits k d h).line.0 in omega (arith, line);
  charges = λ k d h. let line = (o.charges_in_limits k d h).line.0 in omega (arith, line);
}

-- ---- the beginning

abbrev beginning_by : AimView → ℕ → List ℤ → List Task → ℕ → Begun
beginning_by aim start floors tasks cpus =
    record {
      of = record { knobs = audited_at aim; start = start; floors = floors; tasks = tasks; cpus = cpus };
      least = aim.least;
    }

-- it is that of the head
pub same_beginning : (aim : AimView) (head c : CompanionView) (events : List Entry) → IsHeadOf head c
    → begun_of aim (joined_record [] head) ≡ begun_of aim (joined_record events c)
same_beginning aim head c events h =
    ap (λ s. beginning_by aim s head.floors head.tasks head.cpus) h.start
    ∙ ap (λ f. beginning_by aim c.start f head.tasks head.cpus) h.floors
    ∙ ap (λ t. beginning_by aim c.start c.floors t head.cpus) h.tasks
    ∙ ap (λ n. beginning_by aim c.start c.floors c.tasks n) h.cpus

-- ---- the window

pub still : (old new : Bool) → (old ≡ true → new ≡ true) → new ≡ false → old ≡ false
still false new stays e = refl
still true new stays e = let same = sym (stays refl) ∙ e in absurd cc

-- a window comes next behind what is known
pub window_next : (c : CompanionView) (events : List Entry) (so_far window : List Claimed) (aim : AimView)
    (progress : Progress) → IsCompanionInOrder c → AreInOrder events
    → All (λ (event : Entry). event.line ≤ greatest_line) events → GoTogetherSoFar events c
    → so_far ++ window ≡ events_of (joined_record events c)
    → IsKnownOf (begun_of aim (joined_record events c)) so_far progress
    → IsNext (begun_of aim (joined_record events c)) so_far window progress
window_next c events so_far window aim progress companion trace below together is known = record {
  known = known;
  is_record = subst (λ (es : List Claimed). IsRecord c.start c.floors c.tasks es c.cpus) (sym is)
      (record_so_far (joined_record events c) companion trace together.inside together.in_time);
  some = (let n = companion.cpus_in_limits.0 in omega (arith, n));
  few = (let n = companion.cpus_in_limits.1 in omega (arith, n));
  fit = (let n = few_events events greatest_line trace below in
      let m = same_count (joined_record events c) in
      let both = length-append so_far window in
      let whole = ap length is in omega (arith, n, m, both, whole));
}

-- what was joined is handed on to a judge for whom none waits
pub awaits : (c : CompanionView) (events : List Entry) (handed : List Claimed) (joined : JoinedEvents)
    (aim : AimView) (old new : Judge) → IsCompanionInOrder c → AreInOrder events
    → All (λ (event : Entry). event.line ≤ greatest_line) events → GoTogetherSoFar events c
    → AreJoinedSoFar c events handed joined → IsAwaiting (begun aim joined.start) handed old
    → window_view old.window ≡ [] → window_view new.window ≡ window_view joined.window → new.progress ≡ old.progress
    → IsAwaiting (begun aim joined.start) (handed ++ window_view joined.window) new
awaits c events handed joined aim old new companion trace few together so was none given same =
    let of = begun aim joined.start in
    let before : was.so_far ≡ handed =
    sym (append-nil was.so_far) ∙ ap (λ (w : List Claimed). was.so_far ++ w) (sym none) ∙ was.parts in
    let known : IsKnownOf of handed new.progress =
    subst (IsKnownOf of handed) (sym same)
    (subst (λ (es : List Claimed). IsKnownOf of es old.progress) before was.known) in
    let begins = same_beginning aim (companion_view joined.start) c events so.head in
    record {
      so_far = handed;
      parts = ap (λ (w : List Claimed). handed ++ w) given;
      known = known;
      next = λ some. subst (λ (b : Begun). IsNext b handed (window_view new.window) new.progress) (sym begins)
          (window_next c events handed (window_view new.window) aim new.progress companion trace few together
          (ap (λ (w : List Claimed). handed ++ w) given ∙ so.window)
          (subst (λ (b : Begun). IsKnownOf b handed new.progress) begins known));
    }

-- a judge for whom none waits knows all that was handed on
pub all_known : (of : Begun) (handed : List Claimed) (judge : Judge) → IsAwaiting of handed judge
    → window_view judge.window ≡ [] → IsKnownOf of handed judge.progress
all_known of handed judge was none =
    let before : was.so_far ≡ handed =
    sym (append-nil was.so_far) ∙ ap (λ (w : List Claimed). was.so_far ++ w) (sym none) ∙ was.parts in
    subst (λ (es : List Claimed). IsKnownOf of es judge.progress) before was.known

-- one of whom the window is let go that was judged
pub none_awaited : (of : Begun) (handed : List Claimed) (judge : Judge) → IsKnownOf of handed judge.progress
    → window_view judge.window ≡ [] → IsAwaiting of handed judge
none_awaited of handed judge known none = record {
  so_far = handed;
  parts = ap (λ (w : List Claimed). handed ++ w) none ∙ append-nil handed;
  known = known;
  next = λ some. absurd (some none);
}

-- ---- the end

pub calm : (refused : Bool) (answer : Option JoinFault) → (refused ≡ true → IsSome answer) → answer ≡ None
    → refused ≡ false
calm false answer tells none = refl
calm true answer tells none = absurd (false≢true (subst IsSome none (tells refl)))

pub at_end : (c : CompanionView) (events : List Entry) (handed : List Claimed) (claims : List Claim)
    (nices : List NiceLine) (charges : List ChargeLine) (joined : JoinedEvents) (aim : AimView) (judge : Judge)
    → IsLast c events handed claims nices charges joined → GoTogetherSoFar events c
    → IsKnownOf (begun aim joined.start) handed judge.progress → window_view joined.window ≡ []
    → IsAllOf aim (joined_record events c) judge
at_end c events handed claims nices charges joined aim judge last together known none =
    let begins = same_beginning aim (companion_view joined.start) c events last.so_far.head in
    let whole : handed ≡ events_of (joined_record events c) =
    sym (append-nil handed) ∙ ap (λ (w : List Claimed). handed ++ w) (sym none) ∙ last.so_far.window in
    record {
      known = subst (λ (es : List Claimed). IsKnownOf (begun_of aim (joined_record events c)) es judge.progress)
          whole (subst (λ (b : Begun). IsKnownOf b handed judge.progress) begins known);
      is_record = record_so_far (joined_record events c) last.companion last.trace together.inside together.in_time;
      last = last.last;
      times = times_stay_below (joined_record events c) last.last last.times;
      last_fits = last.last_fits;
      few_events = (let n = few_events events greatest_line last.trace last.few in
          let m = same_count (joined_record events c) in omega (arith, n, m));
    }

-- no sum over them is too great
pub end_of : (aim : AimView) (r : RecordView) (judge : Judge) → IsAllOf aim r judge
    → (audited_at aim).drift ≤ greatest_setting → IsEnd aim r judge.progress
end_of aim r judge all drift = record {
  known = all.known;
  is_record = all.is_record;
  last = all.last;
  times = all.times;
  last_fits = all.last_fits;
  few_events = all.few_events;
  drift = drift;
}
