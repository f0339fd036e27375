-- What is known of a recording both of whose texts were read to their ends. The reader's answer holds whatever the
-- lines may say, so that no line is bad.
use Rattle.std.proofs.Common.{◌≡◌, ℕ, true, List, [], Option, Some, None, refl, sym, subst, ◌∙◌}
use Rattle.std.specs.Prelude.{MatchOption, IsNone}
use Rattle.cfs_model.specs.Claimed.{Claimed}
use Rattle.stream_audit.specs.Aim.{AimView}
use Rattle.cfs_model.specs.declared.act.Entry.{Entry}
use Rattle.cfs_model.specs.declared.charge_line.ChargeLine.{ChargeLine}
use Rattle.cfs_model.specs.declared.claim.Claim.{Claim}
use Rattle.cfs_model.specs.declared.nice_line.NiceLine.{NiceLine}
use Rattle.companion_file.specs.Companion.{CompanionView, IsRead}
use Rattle.companion_file.specs.Earlier.{Said, has_all_floors, summed}
use Rattle.companion_file.specs.Reader.{HasNoStart, HasReadCompanion, IsBadSoFar, IsSaidSoFar, IsStartOf}
use Rattle.companion_file.specs.Reader.{AreCountable, with_all_said}
use Rattle.companion_file.specs.declared.bad_line.BadLine.{BadLine}
use Rattle.companion_file.specs.declared.companion_reader.CompanionReader.{CompanionReader}
use Rattle.text_parts.specs.Lines.{lines_of}
use Rattle.stream_audit.specs.Course.{AreAllEvents, IsAmidJoining, IsCourseOf, IsWholeCourse}
use Rattle.stream_audit.specs.Joined.{IsLast}
use Rattle.stream_audit.specs.declared.companion_input.CompanionInput.{CompanionInput}
use Rattle.stream_audit.specs.declared.course.Course.{Course}
use Rattle.stream_audit.specs.declared.joined_events.JoinedEvents.{JoinedEvents}
use Rattle.stream_audit.specs.declared.judge.Judge.{Judge}
use Rattle.stream_audit.proofs.Going.{amid_of, asks_for}

-- ---- the end

-- all floors are told of whatever the lines may say, so that no line is bad
good_by : (bad : Option BadLine) (lines : List (List ℕ)) (count : ℕ) (held said : Said) (edge : ℕ)
    → MatchOption bad (IsSaidSoFar lines count held said edge) (λ b. IsBadSoFar lines b held.version)
    → ((s : Said) → MatchOption bad (IsSaidSoFar lines count held s edge) (λ b. IsBadSoFar lines b held.version)
    → has_all_floors s ≡ true) → IsNone bad
good_by None lines count held said edge read all = refl
good_by (Some b) lines count held said edge read all = let wrong = all (summed []) read in absurd cc

-- this is all, and the audit comes to an end
pub comes_last : (aim : AimView) (gave left : Option (List ℕ)) (course : Course) (said : Said)
    (events : List Entry) (handed : List Claimed) (joined : JoinedEvents)
    → IsCourseOf aim gave left course said events handed → AreAllEvents events
    → IsNone course.companion.reader.bad → (amid : IsAmidJoining course said events handed joined)
    → IsLast (with_all_said amid.start said) events handed course.companion.reader.draft.claims
    course.companion.reader.draft.nices course.companion.reader.draft.charges joined
comes_last aim gave left course said events handed joined so all none amid =
    let asks = asks_for aim gave left course said events handed joined so none amid in
    record {
      so_far = amid.so_far;
      companion = asks.companion;
      trace = all.in_order;
      few = all.few;
      held = asks.held;
      last = all.last;
      times = all.times;
      last_fits = all.last_fits;
    }

-- what is known at the end of a course in which joining has begun
pub record EndsSo (course : Course) (text : List ℕ) (events : List Entry) (handed : List Claimed)
    (joined : JoinedEvents) : Type 0
  where
    pub start : CompanionView
    pub said : Said
    pub last : IsLast (with_all_said start said) events handed course.companion.reader.draft.claims
        course.companion.reader.draft.nices course.companion.reader.draft.charges joined
    pub answer : IsRead (lines_of text) (with_all_said start said)
    pub good : IsNone course.companion.reader.bad

-- what its reader tells of the lines, whatever they may say
abbrev pub ClosesWell : CompanionReader → Type 0
ClosesWell reader = (lines : List (List ℕ)) (said : Said) (edge : ℕ) → HasReadCompanion reader lines said edge
    → AreCountable lines → (has_all_floors said ≡ true)
    × ((start : CompanionView) → IsStartOf said start → IsRead lines (with_all_said start said))

pub ends_good : (aim : AimView) (course : Course) (text : List ℕ) (events : List Entry) (judge : Option Judge)
    → IsWholeCourse aim course text events judge → ClosesWell course.companion.reader
    → IsNone course.companion.reader.bad
ends_good aim course text events judge w closed =
    let reader = course.companion.reader in
    let at = w.so_far.stands in
    good_by reader.bad (lines_of at.done) reader.count reader.draft w.said w.so_far.edge at.read
    (λ said read. (closed (lines_of at.done) said w.so_far.edge read at.few).0)

pub ends_so : (aim : AimView) (first course : Course) (text : List ℕ) (events : List Entry) (judge : Option Judge)
    (joined : JoinedEvents) (w : IsWholeCourse aim first text events judge) → ClosesWell first.companion.reader
    → IsCourseOf aim w.gave w.left course w.said events w.handed → course.companion ≡ first.companion
    → course.joined ≡ Some joined → EndsSo course text events w.handed joined
ends_so aim first course text events judge joined w closed so same is =
    let at = w.so_far.stands in
    let lines = lines_of at.done in
    let good = ends_good aim first text events judge w closed in
    let none = subst (λ (input : CompanionInput). IsNone input.reader.bad) (sym same) good in
    let amid = amid_of aim w.gave w.left course w.said events w.handed joined so none is in
    record {
      start = amid.start;
      said = w.said;
      last = comes_last aim w.gave w.left course w.said events w.handed joined so w.all none amid;
      answer = subst (λ (bytes : List ℕ). IsRead (lines_of bytes) (with_all_said amid.start w.said)) w.is_text
          ((closed lines w.said w.so_far.edge at.read at.few).1 amid.start amid.starts);
      good = none;
    }

-- its audit has begun
pub ends_begun : (aim : AimView) (course : Course) (text : List ℕ) (events : List Entry) (judge : Option Judge)
    (w : IsWholeCourse aim course text events judge) → ClosesWell course.companion.reader → ¬ HasNoStart w.said
ends_begun aim course text events judge w closed no_start =
    let at = w.so_far.stands in
    let whole = (closed (lines_of at.done) w.said w.so_far.edge at.read at.few).0 in
    let wrong = sym whole ∙ no_start.missing in absurd cc

pub last_as : (c : CompanionView) (events : List Entry) (handed : List Claimed) (joined : JoinedEvents)
    (claims as_claims : List Claim)
    (nices as_nices : List NiceLine) (charges as_charges : List ChargeLine) → as_claims ≡ claims → as_nices ≡ nices
    → as_charges ≡ charges → IsLast c events handed claims nices charges joined
    → IsLast c events handed as_claims as_nices as_charges joined
last_as c events handed joined claims as_claims nices as_nices charges as_charges e f g last = rw (e, f, g) last
