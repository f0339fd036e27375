-- A figure has one place, and so a record has one answer; and what fronts need.
use Rattle.std.proofs.Common.{◌≡◌, ℕ, Option, Some, None, [], ◌∷◌, ◌++◌, refl, sym, ap, ◌∙◌, subst, append_assoc, arith}
use Rattle.cfs_model.specs.Knobs.{KnobsView}
use Rattle.cfs_model.specs.Laws.{RunPrefix}
use Rattle.cfs_model.specs.Order.{IsStart}
use Rattle.cfs_model.specs.Run.{IsRun}
use Rattle.cfs_model.specs.Start.{start_machine}
use Rattle.cfs_model.specs.declared.setting.Setting.{Setting}
use Rattle.cfs_model.specs.declared.setting.Setting.TheVariants.{Granularity, Credit, Debit, Slack, Drift}
use Rattle.least_places.specs.Left.{IsOver}
use Rattle.least_places.proofs.OneOver.{front_at, one_over}
use Rattle.least_places.specs.OneLeastAnswer.{FrontsNeedLess, OneLeastAnswer}
use Rattle.least_places.specs.Place.{ArePlaces, IsPlaced, one_less, time_on_line}
use Rattle.least_places.specs.declared.figures.LeastFigures.TheVariants.{Found, Fault}
use Rattle.least_places.specs.declared.place.Place.{Place}
use Rattle.least_places.specs.declared.places.Places.{Places}
use Rattle.replay_laws.specs.FirstFaults.{OneFirstFault}
use Rattle.replay_model.specs.Cause.{FaultCause}
use Rattle.replay_model.specs.declared.first_fault.FirstFault.{FirstFault}
use Rattle.sched_record.specs.Record.{RecordView}
use Rattle.ticket_book.specs.OneVerdict as settings
use Rattle.ticket_book.specs.SaidEvents.{events_of}
use Rattle.ticket_book.specs.declared.least_settings.LeastSettings.TheVariants as leasts

-- a place is its parts, and so are places
place_of_parts : (l m s t c d p q : ℕ) (o u : Option ℕ) → l ≡ m → s ≡ t → c ≡ d → p ≡ q → o ≡ u
    → ◌≡◌ {A = Place} (record { line = l; time = s; cpu = c; pid = p; over = o })
    (record { line = m; time = t; cpu = d; pid = q; over = u })
place_of_parts l m s t c d p q o u a b e f g = cc

places_of_parts : (g h c d e f s t u v : Option Place) → g ≡ h → c ≡ d → e ≡ f → s ≡ t → u ≡ v
    → ◌≡◌ {A = Places} (record { granularity = g; credit = c; debit = e; slack = s; drift = u })
    (record { granularity = h; credit = d; debit = f; slack = t; drift = v })
places_of_parts g h c d e f s t u v i j k l m = cc

one_place : OneFirstFault → RunPrefix → (r : RecordView) (knobs : KnobsView) (which : Setting)
    (one other : Option Place) → IsStart r.floors r.tasks
    → IsRun knobs r.start (start_machine r.start r.floors r.tasks) (events_of r)
    → IsPlaced r knobs which one → IsPlaced r knobs which other → one ≡ other
one_place law prefix r knobs which None None start run p q = refl
one_place law prefix r knobs which None (Some other) start run p q = absurd (omega (arith, p, q.needed.less.1))
one_place law prefix r knobs which (Some one) None start run p q = absurd (omega (arith, q, p.needed.less.1))
one_place law prefix r knobs which (Some one) (Some other) start run p q =
    let same = law (one_less knobs which) r.start r.floors r.tasks (events_of r) one.line other.line
    (record { cpu = one.cpu; pid = one.pid; kind = p.kind })
    (record { cpu = other.cpu; pid = other.pid; kind = q.kind })
    start p.fault q.fault in
    ap Some (place_of_parts one.line other.line one.time other.time one.cpu other.cpu one.pid other.pid one.over
    other.over same.0
    (p.time ∙ ap (time_on_line r.events) same.0 ∙ sym q.time) (ap (λ (c : FaultCause). c.cpu) same.1)
    (ap (λ (c : FaultCause). c.pid) same.1)
    (one_over r knobs which one.line one.over other.over (front_at prefix r knobs run p.needed) p.over
    (subst (λ line. IsOver r knobs which line other.over) (sym same.0) q.over)))

one_places : OneFirstFault → RunPrefix → (r : RecordView) (knobs : KnobsView) (one other : Places)
    → IsStart r.floors r.tasks → IsRun knobs r.start (start_machine r.start r.floors r.tasks) (events_of r)
    → ArePlaces r knobs one → ArePlaces r knobs other → one ≡ other
one_places law prefix r knobs one other start run p q =
    places_of_parts one.granularity other.granularity one.credit other.credit one.debit other.debit one.slack
    other.slack one.drift other.drift
    (one_place law prefix r knobs Granularity one.granularity other.granularity start run (p Granularity)
    (q Granularity))
    (one_place law prefix r knobs Credit one.credit other.credit start run (p Credit) (q Credit))
    (one_place law prefix r knobs Debit one.debit other.debit start run (p Debit) (q Debit))
    (one_place law prefix r knobs Slack one.slack other.slack start run (p Slack) (q Slack))
    (one_place law prefix r knobs Drift one.drift other.drift start run (p Drift) (q Drift))

same_found : (one other : KnobsView) → leasts.Found one ≡ leasts.Found other → one ≡ other
same_found one other e = cc

same_fault : (one other : FirstFault) → leasts.Fault one ≡ leasts.Fault other → one ≡ other
same_fault one other e = cc

not_both : (knobs : KnobsView) (fault : FirstFault) → leasts.Found knobs ≡ leasts.Fault fault → ⊥
not_both knobs fault e = cc

found_of_parts : (knobs also : KnobsView) (places others : Places) → knobs ≡ also → places ≡ others
    → Found knobs places ≡ Found also others
found_of_parts knobs also places others e f = cc

pub one_least_figures : settings.OneLeastAnswer → OneFirstFault → RunPrefix → OneLeastAnswer
one_least_figures law once prefix r (Found knobs places) (Found also others) start p q =
    let same = same_found knobs also (law r (leasts.Found knobs) (leasts.Found also) start p.0 q.0) in
    found_of_parts knobs also places others same
    (one_places once prefix r knobs places others start p.0.0.run p.1 (subst (λ k. ArePlaces r k others)
    (sym same) q.1))
one_least_figures law once prefix r (Found knobs places) (Fault fault) start p q =
    absurd (not_both knobs fault (law r (leasts.Found knobs) (leasts.Fault fault) start p.0 q))
one_least_figures law once prefix r (Fault fault) (Found knobs places) start p q =
    absurd (not_both knobs fault (law r (leasts.Found knobs) (leasts.Fault fault) start q.0 p))
one_least_figures law once prefix r (Fault one) (Fault other) start p q =
    ap Fault (same_fault one other (law r (leasts.Fault one) (leasts.Fault other) start p q))

-- the front up to a place is one of the whole
pub fronts_need_less : RunPrefix → FrontsNeedLess
fronts_need_less prefix r knobs which line least at front =
    let first = start_machine r.start r.floors r.tasks in
    let upto = at.before ++ at.event ∷ [] in
    let own : IsRun knobs r.start first upto = prefix knobs r.start first upto at.rest
    (subst (IsRun knobs r.start first) (at.whole ∙ sym (append_assoc at.before (at.event ∷ []) at.rest)) least.run) in (
      λ before. omega (arith, before.least at.less.0 at.less.2 which, at.less.1),
      λ through. omega (arith, through.least knobs own which, at.needs front through.run),
    )
