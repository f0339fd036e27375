-- What a reader has read, one line on: while no line was bad, what they say and what is held of it; then the first bad
-- line. A line is tested on what is held, which answers as all that was said does.
use Rattle.std.proofs.Common.{◌≡◌, ℕ, ◌+◌, ◌-◌, ◌^◌, ◌<◌, ◌≤◌, suc, min, Bool, true, false, List, [], ◌∷◌, ◌++◌}
use Rattle.std.proofs.Common.{length, Option, Some, None, Ok, Err, refl, sym, ap, subst, ◌∙◌, append_assoc, inl}
use Rattle.std.proofs.Common.{inr, arith, length-append}
use Rattle.std.specs.Prelude.{All, AllPairs, MatchOption, is_some, ◌↔◌}
use Rattle.std.proofs.lemmas.List.{append-nil}
use Rattle.std.proofs.lemmas.List.Elements.{All-nil, All-cons, All-head, All-tail}
use Rattle.cfs_model.specs.declared.claim.Claim.{Claim}
use Rattle.cfs_model.specs.declared.nice_line.NiceLine.{NiceLine}
use Rattle.cfs_model.specs.declared.charge_line.ChargeLine.{ChargeLine}
use Rattle.text_parts.specs.Lines.{IsComment}
use Rattle.companion_file.specs.declared.bad_line.BadLine.{BadLine}
use Rattle.companion_file.specs.declared.companion.Companion.{Companion}
use Rattle.companion_file.specs.declared.companion_reader.CompanionReader.{CompanionReader}
use Rattle.companion_file.specs.declared.fault.CompanionCause.{CompanionCause}
use Rattle.companion_file.specs.declared.fault.CompanionCause.TheVariants.{Short}
use Rattle.companion_file.specs.declared.fault.Refusal.TheVariants as refusals
use Rattle.companion_file.specs.Shape.{Shape, version_line, cpus_line, start_line, floor_line, task_line, claim_line}
use Rattle.companion_file.specs.Shape.{nice_line, idle_line, charge_line}
use Rattle.companion_file.specs.Spelling.{IsFirstLine}
use Rattle.companion_file.specs.Order.{IsCompanionInOrder, IsClaimInLimits, IsNiceLineInLimits, IsChargeLineInLimits}
use Rattle.companion_file.specs.Earlier.{Said, summed, has_all_floors}
use Rattle.companion_file.specs.Tests.{IsJudgedFirst, IsJudgedLater, IsJudged}
use Rattle.companion_file.specs.Companion.{CompanionView, AreOfVersion, IsFirstBadCompanionLine, IsShort}
use Rattle.companion_file.specs.Companion.{IsRead}
use Rattle.companion_file.specs.Draft.{KeepsOrder, IsCompleted, Takes, with_line}
use Rattle.companion_file.specs.Piecewise.{SaysOn}
use Rattle.companion_file.specs.Seen.{companion_view}
use Rattle.companion_file.specs.Reader.{AreCountable, start_of, has_begun, HoldsOf, IsSaidSoFar, IsBadSoFar}
use Rattle.companion_file.specs.Reader.{HasReadCompanion, GoesOn, ReadsOn, IsStartOf, TellsStart, with_all_said}
use Rattle.companion_file.proofs.FirstLines.{past_comment, with_comment, first_names, named_first, first_no_comment}
use Rattle.companion_file.proofs.FirstLines.{of_no_version}
use Rattle.companion_file.proofs.Finishing.{in_order}
use Rattle.companion_file.proofs.GoodLines.{nothing_order}
use Rattle.companion_file.proofs.GoingOn.{goes_nothing, goes_then, goes_on, nothing_begins, begins_on, line_sort}
use Rattle.companion_file.proofs.Holding.{alike, judged_alike, floors_alike, holds_line, holds_then}
use Rattle.companion_file.proofs.KeptOrder.{Passes}
use Rattle.companion_file.proofs.OneAnswer.{one_version}
use Rattle.companion_file.proofs.Piecewise.{said_then, order_on, good_on}

-- ---- where there is one, and where there is none

pub where_none : {X A : Type 0} (B : X → Type 0) (o : Option X) → is_some o ≡ false → MatchOption o A B → A
where_none B None none holds = holds
where_none B (Some x) none holds = absurd cc

pub as_none : {X A : Type 0} (B : X → Type 0) (o : Option X) → is_some o ≡ false → A → MatchOption o A B
as_none B None none holds = holds
as_none B (Some x) none holds = absurd cc

pub as_some : {X : Type 0} (A : Type 0) (B : X → Type 0) (o : Option X) → is_some o ≡ true → ((x : X) → B x)
    → MatchOption o A B
as_some A B None some holds = absurd cc
as_some A B (Some x) some holds = holds x

changed : {X : Type 0} (A C : Type 0) (B D : X → Type 0) (o : Option X) → (A → C) → ((x : X) → B x → D x)
    → MatchOption o A B → MatchOption o C D
changed A C B D None none some holds = none holds
changed A C B D (Some x) none some holds = some x holds

-- ---- the order of what is held

all_behind : {A : Type 0} (P : A → Type 0) (gone held : List A) → All P (gone ++ held) → All P held
all_behind P [] held all = all
all_behind P (x ∷ gone) held all = all_behind P gone held (All-tail P x (gone ++ held) all)

pairs_behind : {A : Type 0} (R : A → A → Type 0) (gone held : List A) → AllPairs R (gone ++ held) → AllPairs R held
pairs_behind R [] held pairs = pairs
pairs_behind R (x ∷ gone) held pairs = pairs_behind R gone held (λ i j d before within.
    pairs (suc i) (suc j) d (omega (arith, before)) (omega (arith, within)))

pub order_held : (line : ℕ) (old new : Said) → KeepsOrder old → HoldsOf line old new → KeepsOrder new
order_held line old new order h =
    let same : new ≡ record old { claims = new.claims; nices = new.nices; charges = new.charges } =
    ap (λ (s : Said). record s { claims = new.claims; nices = new.nices; charges = new.charges }) (sym h.start) in
    rw same (record {
      cpus_kept = order.cpus_kept;
      start_kept = order.start_kept;
      floors_after_start = order.floors_after_start;
      floors_kept = order.floors_kept;
      tasks_kept = order.tasks_kept;
      pids_rise = order.pids_rise;
      one_runs_a_cpu = order.one_runs_a_cpu;
      claims_kept = all_behind IsClaimInLimits h.claims.gone new.claims (rw h.claims.parts at order.claims_kept);
      lines_rise = pairs_behind (λ (a b : Claim). a.line < b.line) h.claims.gone new.claims
          (rw h.claims.parts at order.lines_rise);
      nices_kept = all_behind IsNiceLineInLimits h.nices.gone new.nices (rw h.nices.parts at order.nices_kept);
      nice_lines_rise = pairs_behind (λ (a b : NiceLine). a.line < b.line) h.nices.gone new.nices
          (rw h.nices.parts at order.nice_lines_rise);
      idles_kept = order.idles_kept;
      idles_rise = order.idles_rise;
      charges_kept = all_behind IsChargeLineInLimits h.charges.gone new.charges
          (rw h.charges.parts at order.charges_kept);
      charge_lines_rise = pairs_behind (λ (a b : ChargeLine). a.line < b.line) h.charges.gone new.charges
          (rw h.charges.parts at order.charge_lines_rise);
      policies_kept = order.policies_kept;
      named_kept = order.named_kept;
    })

pub order_start : (said : Said) → KeepsOrder said → KeepsOrder (start_of said)
order_start said order = record {
  cpus_kept = order.cpus_kept;
  start_kept = order.start_kept;
  floors_after_start = order.floors_after_start;
  floors_kept = order.floors_kept;
  tasks_kept = order.tasks_kept;
  pids_rise = order.pids_rise;
  one_runs_a_cpu = order.one_runs_a_cpu;
  claims_kept = λ k d h. absurd (omega arith);
  lines_rise = λ i j d lt within. absurd (omega arith);
  nices_kept = λ k d h. absurd (omega arith);
  nice_lines_rise = λ i j d lt within. absurd (omega arith);
  idles_kept = order.idles_kept;
  idles_rise = order.idles_rise;
  charges_kept = λ k d h. absurd (omega arith);
  charge_lines_rise = λ i j d lt within. absurd (omega arith);
  policies_kept = order.policies_kept;
  named_kept = order.named_kept;
}

-- what good lines say is in order,
pub said_order : (lines : List (List ℕ)) (said : Said) → SaysOn (summed []) lines said → KeepsOrder said
said_order lines said says = order_on (summed []) said lines nothing_order says

-- and with its start it is a companion in order
pub said_in_order : (lines : List (List ℕ)) (said : Said) (start : CompanionView) → SaysOn (summed []) lines said
    → IsStartOf said start → IsCompanionInOrder (with_all_said start said)
said_in_order lines said start says of =
    let whole = in_order said start.cpus start.start (said_order lines said says) of.cpus_is of.start_is of.whole in
    rw (of.floors_is, of.tasks_is, of.idles_is) whole

-- ---- the version that lines name

-- lines that say this version are comments, or the first one of the others names it
abbrev pub IsNamed : List (List ℕ) → Option ℕ → Type 0
IsNamed lines None = All IsComment lines
IsNamed lines (Some version) = AreOfVersion lines version

named_behind : (line : List ℕ) (lines : List (List ℕ)) (version : Option ℕ) → IsComment line → IsNamed lines version
    → IsNamed (line ∷ lines) version
named_behind line lines None comment named = All-cons (λ (l : List ℕ). IsComment l) line lines comment named
named_behind line lines (Some version) comment named = with_comment line lines version comment named

-- no line but the first names a version
passed_version : (said : Said) (x : Shape) → Passes said x → (with_line said x).version ≡ said.version
passed_version said (version_line n) passes = let turn = passes.turn in absurd cc
passed_version said (cpus_line n) passes = refl
passed_version said (start_line seconds nanoseconds) passes = refl
passed_version said (floor_line cpu floor) passes = refl
passed_version said (task_line task) passes = refl
passed_version said (claim_line claim) passes = refl
passed_version said (nice_line change) passes = refl
passed_version said (idle_line idle) passes = refl
passed_version said (charge_line charge) passes = refl

version_stays : (said : Said) (line : List ℕ) (x : Shape) (version : ℕ) → said.version ≡ Some version
    → IsJudged said line (Ok x) → (with_line said x).version ≡ Some version
version_stays said line x version is judged =
    elim (line_sort said line x judged) [
      | inl p ↦ let none = p.0 in absurd cc
      | inr p ↦ passed_version said x p.1 ∙ is
    ]

version_after : (said after : Said) (lines : List (List ℕ)) (version : ℕ) → said.version ≡ Some version
    → SaysOn said lines after → after.version ≡ Some version
version_after said after [] version is says = rw says is
version_after said after (line ∷ lines) version is (inl p) = version_after said after lines version is p.1
version_after said after (line ∷ lines) version is (inr p) =
    version_after (with_line said p.1.0) after lines version (version_stays said line p.1.0 version is p.1.1) p.1.2

named_on : (said after : Said) (lines : List (List ℕ)) → said.version ≡ None → SaysOn said lines after
    → IsNamed lines after.version
named_on said after [] none says = rw (says, none) (All-nil (λ (l : List ℕ). IsComment l))
named_on said after (line ∷ lines) none (inl p) =
    named_behind line lines after.version p.0 (named_on said after lines none p.1)
named_on said after (line ∷ lines) none (inr p) =
    elim (line_sort said line p.1.0 p.1.1) [
      | inl q ↦
          let version = q.1.0 in
          let first : (with_line said p.1.0).version ≡ Some version = rw q.1.2 refl in
          rw (version_after (with_line said p.1.0) after lines version first p.1.2)
          (named_first line lines version q.1.1)
      | inr q ↦ let wrong = q.0 in absurd cc
    ]

-- lines name one version
one_named : (lines comments : List (List ℕ)) (line : List ℕ) (rest : List (List ℕ)) (v w : ℕ)
    → lines ≡ comments ++ line ∷ rest → All IsComment comments → IsFirstLine line v → AreOfVersion lines w → v ≡ w
one_named lines [] line rest v w parts comments first other =
    one_version line v w first
    (first_names line rest w (first_no_comment line v first)
    (subst (λ (ls : List (List ℕ)). AreOfVersion ls w) parts other))
one_named lines (c ∷ comments) line rest v w parts are first other =
    one_named (comments ++ line ∷ rest) comments line rest v w refl
    (All-tail (λ (l : List ℕ). IsComment l) c comments are) first
    (past_comment c (comments ++ line ∷ rest) w (All-head (λ (l : List ℕ). IsComment l) c comments are)
    (subst (λ (ls : List (List ℕ)). AreOfVersion ls w) parts other))

version_once : (lines : List (List ℕ)) (v w : ℕ) → AreOfVersion lines v → AreOfVersion lines w → v ≡ w
version_once lines v w a b = one_named lines a.comments a.line a.rest v w a.parts a.are_comments a.is_first b

version_of_more : (lines more : List (List ℕ)) (v : ℕ) → AreOfVersion lines v → AreOfVersion (lines ++ more) v
version_of_more lines more v a = record {
  comments = a.comments;
  line = a.line;
  rest = a.rest ++ more;
  parts = ap (λ (ls : List (List ℕ)). ls ++ more) a.parts ∙ append_assoc a.comments (a.line ∷ a.rest) more;
  are_comments = a.are_comments;
  is_first = a.is_first;
}

past_comments : (comments lines : List (List ℕ)) (v : ℕ) → All IsComment comments → AreOfVersion (comments ++ lines) v
    → AreOfVersion lines v
past_comments [] lines v are a = a
past_comments (c ∷ comments) lines v are a =
    past_comments comments lines v (All-tail (λ (l : List ℕ). IsComment l) c comments are)
    (past_comment c (comments ++ lines) v (All-head (λ (l : List ℕ). IsComment l) c comments are) a)

no_version : (lines : List (List ℕ)) (v : ℕ) → All IsComment lines → ¬ AreOfVersion lines v
no_version lines v are a = of_no_version [] v refl (past_comments lines [] v are
    (subst (λ (ls : List (List ℕ)). AreOfVersion ls v) (sym (append-nil lines)) a))

pub names_so : (lines : List (List ℕ)) (version : Option ℕ) (v : ℕ) → IsNamed lines version
    → (version ≡ Some v) ↔ AreOfVersion lines v
names_so lines None v named = (λ e. absurd cc, λ a. absurd (no_version lines v named a))
names_so lines (Some w) v named = (
  λ e. let same : w ≡ v = cc in subst (λ (n : ℕ). AreOfVersion lines n) same named,
  λ a. ap (λ (n : ℕ). Some n) (version_once lines w v named a),
)

pub said_names : (lines : List (List ℕ)) (said : Said) (v : ℕ) → SaysOn (summed []) lines said
    → (said.version ≡ Some v) ↔ AreOfVersion lines v
said_names lines said v says = names_so lines said.version v (named_on (summed []) said lines refl says)

-- the bad first line names none
no_first : (version : Option ℕ) (said : Said) (line : List ℕ) (cause : CompanionCause) → version ≡ None
    → MatchOption version (IsJudgedFirst line (Err cause)) (λ v. IsJudgedLater v said line (Err cause)) → (v : ℕ)
    → ¬ IsFirstLine line v
no_first None said line cause none (inl p) = let wrong = p.2 in absurd cc
no_first None said line cause none (inr p) = p.0
no_first (Some w) said line cause none judged = absurd cc

bad_names : (lines : List (List ℕ)) (line : List ℕ) (version : Option ℕ) → IsNamed lines version → ¬ IsComment line
    → (version ≡ None → (v : ℕ) → ¬ IsFirstLine line v) → (v : ℕ) (more : List (List ℕ))
    → (version ≡ Some v) ↔ AreOfVersion ((lines ++ line ∷ []) ++ more) v
bad_names lines line None named content first v more = (
  λ e. absurd cc,
  λ a. absurd (first refl v (first_names line more v content
      (past_comments lines (line ∷ more) v named
      (subst (λ (ls : List (List ℕ)). AreOfVersion ls v) (append_assoc lines (line ∷ []) more) a)))),
)
bad_names lines line (Some w) named content first v more =
    let longer = version_of_more (lines ++ line ∷ []) more w (version_of_more lines (line ∷ []) w named) in (
      λ e. let same : w ≡ v = cc in
          subst (λ (n : ℕ). AreOfVersion ((lines ++ line ∷ []) ++ more) n) same longer,
      λ a. ap (λ (n : ℕ). Some n) (version_once ((lines ++ line ∷ []) ++ more) w v longer a),
    )

-- ---- one line

-- so many lines, counted as far as a number goes
one_more : (lines : List (List ℕ)) (line : List ℕ) (count number : ℕ) → number ≡ min (count + 1) (2 ^ 64 - 1)
    → (AreCountable lines → count ≡ length lines) → AreCountable (lines ++ line ∷ [])
    → number ≡ length (lines ++ line ∷ [])
one_more lines line count number is counted few =
    let longer = length-append lines (line ∷ []) in
    let so = counted (omega (arith, longer, few)) in
    omega (arith, longer, few, so, is)

pub good_step : (lines : List (List ℕ)) (line : List ℕ) (count number : ℕ) (held new said : Said) (edge : ℕ)
    (u : Unit {0}) → number ≡ min (count + 1) (2 ^ 64 - 1) → IsSaidSoFar lines count held said edge
    → Takes held line (Ok u) new
    → (after : Said) × IsSaidSoFar (lines ++ line ∷ []) number new after edge × GoesOn said after
good_step lines line count number held new said edge u is so (inl p) =
    let same : SaysOn said (line ∷ []) said = inl (p.0, refl) in (
      said,
      record {
        good = said_then (summed []) said said lines (line ∷ []) so.good same;
        counted = one_more lines line count number is so.counted;
        holds = rw p.1 so.holds;
      },
      goes_nothing said,
    )
good_step lines line count number held new said edge u is so (inr p) =
    let x = p.1.0 in
    let judged = judged_alike said held line (Ok x) (alike edge said held so.holds) p.1.1 in
    let next : SaysOn said (line ∷ []) (with_line said x) = inr (p.0, (x, judged, refl)) in (
      with_line said x,
      record {
        good = said_then (summed []) said (with_line said x) lines (line ∷ []) so.good next;
        counted = one_more lines line count number is so.counted;
        holds = rw p.1.2 (holds_line edge said held x so.holds);
      },
      goes_on said (with_line said x) (line ∷ []) (begins_on (summed []) said lines nothing_begins so.good) next,
    )

pub bad_step : (lines : List (List ℕ)) (line : List ℕ) (count number : ℕ) (held new said : Said) (edge : ℕ)
    (cause : CompanionCause) → number ≡ min (count + 1) (2 ^ 64 - 1) → IsSaidSoFar lines count held said edge
    → Takes held line (Err (refusals.Bad cause)) new
    → IsBadSoFar (lines ++ line ∷ []) (record { line = number; cause = cause }) new.version
bad_step lines line count number held new said edge cause is so taken =
    let same = alike edge said held so.holds in
    let judged = judged_alike said held line (Err cause) same taken.1 in
    let shapes = good_on [] said lines so.good in
    let version : new.version ≡ said.version = ap (λ (s : Said). s.version) taken.2 ∙ sym same.version in
    record {
      first = λ few. record {
        before = lines;
        line = line;
        after = [];
        said = shapes.0;
        parts = refl;
        place = one_more lines line count number is so.counted few ∙ length-append lines (line ∷ []);
        good = shapes.1;
        content = taken.0;
        bad = rw shapes.2 at judged;
      };
      names = λ v more. subst
          (λ (o : Option ℕ). (o ≡ Some v) ↔ AreOfVersion ((lines ++ line ∷ []) ++ more) v) (sym version)
          (bad_names lines line said.version (named_on (summed []) said lines refl so.good) taken.0
          (λ none. no_first said.version said line cause none judged) v more);
    }

-- ---- readers

still_first : (lines more : List (List ℕ)) (number : ℕ) (cause : CompanionCause)
    → IsFirstBadCompanionLine lines number cause → IsFirstBadCompanionLine (lines ++ more) number cause
still_first lines more number cause b = record {
  before = b.before;
  line = b.line;
  after = b.after ++ more;
  said = b.said;
  parts = ap (λ (ls : List (List ℕ)). ls ++ more) b.parts ∙ append_assoc b.before (b.line ∷ b.after) more;
  place = b.place;
  good = b.good;
  content = b.content;
  bad = b.bad;
}

still_bad : (lines more : List (List ℕ)) (bad : BadLine) (version : Option ℕ) → IsBadSoFar lines bad version
    → IsBadSoFar (lines ++ more) bad version
still_bad lines more bad version so = record {
  first = λ few. still_first lines more bad.line bad.cause
      (so.first (let longer = length-append lines more in omega (arith, longer, few)));
  names = λ v rest. subst (λ (ls : List (List ℕ)). (version ≡ Some v) ↔ AreOfVersion ls v)
      (sym (append_assoc lines more rest)) (so.names v (more ++ rest));
}

stays_bad : (o : Option BadLine) (before more : List (List ℕ)) (said : Said) (edge count : ℕ) (held : Said)
    → is_some o ≡ true
    → MatchOption o (IsSaidSoFar before count held said edge) (λ bad. IsBadSoFar before bad held.version)
    → MatchOption o (IsSaidSoFar (before ++ more) count held said edge)
    (λ bad. IsBadSoFar (before ++ more) bad held.version)
stays_bad None before more said edge count held some read = absurd cc
stays_bad (Some bad) before more said edge count held some read = still_bad before more bad held.version read

-- a reader with a bad line has read whatever follows
pub bad_stays : (reader : CompanionReader) (more : List (List ℕ)) → is_some reader.bad ≡ true
    → ReadsOn reader more reader
bad_stays reader more some = λ before said edge read. (
  said,
  stays_bad reader.bad before more said edge reader.count reader.draft some read,
  goes_nothing said,
)

-- nor is a line read where a growth was refused
pub unmoved : (bad : Option BadLine) (lines : List (List ℕ)) (count : ℕ) (old new said : Said) (edge : ℕ) → new ≡ old
    → MatchOption bad (IsSaidSoFar lines count old said edge) (λ b. IsBadSoFar lines b old.version)
    → MatchOption bad (IsSaidSoFar (lines ++ []) count new said edge) (λ b. IsBadSoFar (lines ++ []) b new.version)
unmoved bad lines count old new said edge same read = rw (append-nil lines, same) read

pub reads_nothing : (reader : CompanionReader) → ReadsOn reader [] reader
reads_nothing reader = λ before said edge read. (
  said,
  subst (λ (ls : List (List ℕ)). HasReadCompanion reader ls said edge) (sym (append-nil before)) read,
  goes_nothing said,
)

pub reads_then : (a b c : CompanionReader) (lines more : List (List ℕ)) → ReadsOn a lines b → ReadsOn b more c
    → ReadsOn a (lines ++ more) c
reads_then a b c lines more one two = λ before said edge read.
    let first = one before said edge read in
    let second = two (before ++ lines) first.0 edge first.1 in (
      second.0,
      subst (λ (ls : List (List ℕ)). HasReadCompanion c ls second.0 edge) (append_assoc before lines more) second.1,
      goes_then said first.0 second.0 first.2 second.2,
    )

-- ---- what is let go

pub forgotten : (bad : Option BadLine) (lines : List (List ℕ)) (count : ℕ) (old new said : Said) (edge line : ℕ)
    → HoldsOf line old new → edge ≤ line
    → MatchOption bad (IsSaidSoFar lines count old said edge) (λ b. IsBadSoFar lines b old.version)
    → MatchOption bad (IsSaidSoFar lines count new said line) (λ b. IsBadSoFar lines b new.version)
forgotten None lines count old new said edge line holds up so = record {
  good = so.good;
  counted = so.counted;
  holds = holds_then edge line said old new up so.holds holds;
}
forgotten (Some bad) lines count old new said edge line holds up so =
    subst (λ (o : Option ℕ). IsBadSoFar lines bad o) (ap (λ (s : Said). s.version) holds.start) so

-- ---- what is told

pub tells_version : (bad : Option BadLine) (lines : List (List ℕ)) (count : ℕ) (held said : Said) (edge : ℕ) (v : ℕ)
    → MatchOption bad (IsSaidSoFar lines count held said edge) (λ b. IsBadSoFar lines b held.version)
    → (held.version ≡ Some v) ↔ AreOfVersion lines v
tells_version None lines count held said edge v so =
    let same = alike edge said held so.holds in
    subst (λ (o : Option ℕ). (o ≡ Some v) ↔ AreOfVersion lines v) same.version (said_names lines said v so.good)
tells_version (Some bad) lines count held said edge v so =
    subst (λ (ls : List (List ℕ)). (held.version ≡ Some v) ↔ AreOfVersion ls v) (append-nil lines) (so.names v [])

not_so : (a b : Bool) → (a ≡ true → b ≡ true) → b ≡ false → a ≡ false
not_so true b follows fails = let holds = follows refl in absurd cc
not_so false b follows fails = refl

pub tells_start : (lines : List (List ℕ)) (count : ℕ) (held said : Said) (edge : ℕ) (start : Option Companion)
    → IsSaidSoFar lines count held said edge
    → MatchOption start (has_all_floors (start_of held) ≡ false) (λ c. IsCompleted (start_of held) (companion_view c))
    → TellsStart said start
tells_start lines count held said edge None so missing =
    let floors = floors_alike said held (alike edge said held so.holds) ∙ missing in
    record {
      missing = floors;
      early = not_so (has_begun said) (has_all_floors said)
          (begins_on (summed []) said lines nothing_begins so.good).floors floors;
    }
tells_start lines count held said edge (Some c) so whole =
    let same = alike edge said held so.holds in
    record {
      whole = floors_alike said held same ∙ whole.whole;
      cpus_is = same.cpus ∙ whole.cpus_is;
      start_is = same.start ∙ whole.start_is;
      floors_is = whole.floors_is ∙ sym same.floors;
      tasks_is = whole.tasks_is ∙ sym same.tasks;
      idles_is = whole.idles_is ∙ sym same.idles;
      no_claim = whole.claims_is;
      no_change = whole.nices_is;
      no_charge = whole.charges_is;
    }

pub closes_whole : (lines : List (List ℕ)) (count : ℕ) (held said : Said) (edge : ℕ)
    → IsSaidSoFar lines count held said edge → has_all_floors held ≡ true → (has_all_floors said ≡ true)
    × ((start : CompanionView) → IsStartOf said start → IsRead lines (with_all_said start said))
closes_whole lines count held said edge so whole =
    let shapes = good_on [] said lines so.good in (
      floors_alike said held (alike edge said held so.holds) ∙ whole,
      λ start of. record {
        said = shapes.0;
        good = shapes.1;
        whole = rw shapes.2 at of.whole;
        cpus_is = rw shapes.2 at of.cpus_is;
        start_is = rw shapes.2 at of.start_is;
        floors_is = rw shapes.2 at of.floors_is;
        tasks_is = rw shapes.2 at of.tasks_is;
        claims_is = ap (λ (s : Said). s.claims) shapes.2;
        nices_is = ap (λ (s : Said). s.nices) shapes.2;
        idles_is = rw shapes.2 at of.idles_is;
        charges_is = ap (λ (s : Said). s.charges) shapes.2;
      },
    )

pub closes_short : (lines : List (List ℕ)) (count number : ℕ) (held said : Said) (edge : ℕ)
    → IsSaidSoFar lines count held said edge → has_all_floors held ≡ false → number ≡ min (count + 1) (2 ^ 64 - 1)
    → AreCountable lines → IsShort lines number Short
closes_short lines count number held said edge so missing is few =
    let shapes = good_on [] said lines so.good in
    let floors : has_all_floors said ≡ false = floors_alike said held (alike edge said held so.holds) ∙ missing in
    let counted = so.counted few in
    record {
      said = shapes.0;
      good = shapes.1;
      missing = rw shapes.2 at floors;
      place = omega (arith, counted, few, is);
      name = refl;
    }
