use Rattle.std.proofs.Common.{All, AllPairs, ℕ, List, Option, Some, None, length, map, refl, sym, ap, subst, arith}
use Rattle.std.proofs.Common.{get_or, not, Ok}
use Rattle.std.proofs.Common.{◌+◌, ◌^◌, ◌<◌, ◌≡◌, ◌≢◌, ◌∙◌, Bool, false, true, is_some, Vec, Global}
use Rattle.cfs_model.specs.Claimed.{Claimed}
use Rattle.cfs_model.specs.Touch.{touched}
use Rattle.cfs_model.specs.declared.act.Entry.{Entry}
use Rattle.replay_model.specs.Cut.{steps_at}
use Rattle.replay_model.specs.Roll.{named, roll_of}
use Rattle.replay_model.specs.declared.first_fault.FirstFault.{FirstFault}
use Rattle.sched_record.specs.Window.{window_view}
use Rattle.ticket_book.specs.Told.{TellFrom, view_at}
use Rattle.ticket_book.specs.Walk.{TicketsRise}
use Rattle.window_audit.specs.Member.{replay_of}
use Rattle.window_audit.specs.States.{AllWentThrough, forgotten}
use Rattle.window_audit.specs.declared.member.Member.{Member}
use Rattle.window_audit.proofs.Lists.{with_all}
use Rattle.window_audit.proofs.Passing.{all_few, fault_told, in_order, inside, none_told, one_told, pages_of}
use Rattle.window_audit.proofs.Passing.{passed_on, tickets_rise}
use Rattle.window_audit.proofs.audit.WindowAudit.go_through.Goals as goal

pub go_through_all-requires-clause-few : goal.go_through_all-requires-clause-few
go_through_all-requires-clause-few g c κs within =
    let next = c.requires.next in
    let window = window_view c.args.window.now in
    subst (All (λ (member : Member). (replay_of member).made + length (steps_at (replay_of member).cpu window) < 2 ^
    64))
    (sym c.deref_mut.ensures.value) (all_few next.0 next.1 window c.args.self.now next.2)

full : (v : Vec Member Global) → length v.items ≡ v.len
full v = let k = v.ok in omega (arith, k)

-- all members went through the window
went_all : (window : List Claimed) (time line : ℕ) (before given after : List Member) → given ≡ before
    → AllWentThrough window time line given after → AllWentThrough window time line before after
went_all window time line before given after is went =
    subst (λ ms. AllWentThrough window time line ms after) is went

calm_all : (given after : List Member) (wants : Bool) → given ≡ after → wants ≡ false
    → (wants ≡ false → All (λ member. member.wants_memory ≡ false) given)
    → All (λ member. member.wants_memory ≡ false) after
calm_all given after wants is calm all = subst (All (λ (m : Member). m.wants_memory ≡ false)) is (all calm)

is_none : (told : Option FirstFault) → is_some told ≡ false → told ≡ None
is_none None h = refl
is_none (Some fault) h = cc

not_none : (told : Option FirstFault) → is_some told ≡ true → told ≢ None
not_none None h = cc
not_none (Some fault) h = λ e. cc

pub close-requires-clause-inside : goal.close-requires-clause-inside
close-requires-clause-inside g c =
    let next = c.requires.next in
    let old = c.args.self.now.members in
    let after = c.go_through_all.new.members in
    let same = c.go_through_all.auto.members ∙ ap length c.deref_mut.ensures.value in
    let given = c.deref-2.ensures.value ∙ with_all after old.items old.len same (full old) in
    subst (All (λ (event : Entry). All (λ cpu. cpu < length c.deref-2.result.now) (touched event.act)))
    (sym c.events.ensures)
    (subst (λ n. All (λ (event : Entry). All (λ cpu. cpu < n) (touched event.act))
    (map (λ (s : Claimed). s.entry) (window_view c.args.window.now)))
    (sym (ap length given ∙ same ∙ next.2.audit_is.count))
    (inside next.0 next.1 (window_view c.args.window.now) c.args.self.now next.2))

pub close-requires-clause-in_order : goal.close-requires-clause-in_order
close-requires-clause-in_order g c =
    let next = c.requires.next in
    subst (AllPairs (λ (a b : Entry). a.line < b.line)) (sym c.events.ensures)
    (in_order next.0 next.1 (window_view c.args.window.now) c.args.self.now next.2)

pub close-requires-clause-rise : goal.close-requires-clause-rise
close-requires-clause-rise g c =
    let next = c.requires.next in
    let window = window_view c.args.window.now in
    let old = c.args.self.now.members in
    let after = c.go_through_all.new.members in
    let same = c.go_through_all.auto.members ∙ ap length c.deref_mut.ensures.value in
    let time = c.last_of-time.result.0 in
    let line = c.last_of-time.result.1 in
    let one = c.deref.ensures.value ∙ with_all after old.items old.len same (full old) in
    let two = c.deref-2.ensures.value ∙ with_all after old.items old.len same (full old) in
    subst (λ ms. TicketsRise (pages_of ms)) (sym two)
    (tickets_rise next.0 next.1 window c.args.self.now next.2 time line c.requires.some c.last_of-time.ensures after
    same
    (went_all window time line old.items c.deref_mut.result.now after c.deref_mut.ensures.value
    c.go_through_all.ensures)
    (calm_all c.deref.result.now after c.want_memory.result one c.if-want_memory.false c.want_memory.ensures))

-- what is told of the pages after the window
told_after : (given after : List Member) (cpus : ℕ) (alive : ℕ → Bool) (window : List Claimed)
    (told : Option FirstFault) → given ≡ after → length after ≡ cpus
    → TellFrom (view_at (pages_of given)) (length given) alive window told
    → TellFrom (view_at (pages_of after)) cpus alive window told
told_after given after cpus alive window told is count tell =
    subst (λ n. TellFrom (view_at (pages_of after)) n alive window told) count
    (subst (λ ms. TellFrom (view_at (pages_of ms)) (length ms) alive window told) is tell)

pub returns-then-is_none : goal.returns-then-is_none
returns-then-is_none g c = λ of so_far next.
    let window = window_view c.args.window.now in
    let old = c.args.self.now.members in
    let after = c.go_through_all.new.members in
    let new = c.forget_all.new.members in
    let same = c.go_through_all.auto.members ∙ ap length c.deref_mut.ensures.value in
    let time = c.last_of-time.result.0 in
    let line = c.last_of-time.result.1 in
    let told = c.in_ok-told.told in
    let alive = roll_of (named of.tasks) so_far in
    let written = with_all after old.items old.len same (full old) in
    let one = c.deref.ensures.value ∙ written in
    let two = c.deref-2.ensures.value ∙ written in
    let three = c.deref_mut-then-is_none.ensures.value ∙ written in
    let none : told ≡ None = is_none told (c.is_none.ensures ∙ ap not c.if-is_none.true) in
    let tell = told_after c.deref-2.result.now after of.cpus alive window told two (same ∙ next.audit_is.count)
    (c.in_ok-told.ensures.told of.tasks so_far window (sym c.events.ensures) next.audit_is.book) in
    let nothing = subst (TellFrom (view_at (pages_of after)) of.cpus alive window) none tell in
    let four = with_all new _ old.len (c.forget_all.auto.members ∙ ap length c.deref_mut-then-is_none.ensures.value)
    (ap length written ∙ same ∙ full old) in
    none_told of so_far window told _ none
    (passed_on of so_far window c.args.self.now next time line c.requires.some c.last_of-time.ensures after same
    (went_all window time line old.items c.deref_mut.result.now after c.deref_mut.ensures.value
    c.go_through_all.ensures)
    (calm_all c.deref.result.now after c.want_memory.result one c.if-want_memory.false c.want_memory.ensures)
    c.windows.ensures.passes nothing _ (ap length four ∙ c.forget_all.auto.members ∙ ap length three)
    (λ cpu d lt. ap (λ ms. replay_of (get_or ms cpu d)) four
    ∙ c.forget_all.ensures cpu d (subst (λ (ms : List Member). cpu < length ms) (sym three) lt)
    ∙ ap (λ ms. forgotten (replay_of (get_or ms cpu d))) three)
    (c.in_ok-told.ensures.passed of.tasks so_far window (sym c.events.ensures) next.audit_is.book (ap Ok none)))

pub returns-else-is_none : goal.returns-else-is_none
returns-else-is_none g c = λ of so_far next.
    let window = window_view c.args.window.now in
    let old = c.args.self.now.members in
    let after = c.go_through_all.new.members in
    let same = c.go_through_all.auto.members ∙ ap length c.deref_mut.ensures.value in
    let time = c.last_of-time.result.0 in
    let line = c.last_of-time.result.1 in
    let told = c.in_ok-told.told in
    let alive = roll_of (named of.tasks) so_far in
    let written = with_all after old.items old.len same (full old) in
    let one = c.deref.ensures.value ∙ written in
    let two = c.deref-2.ensures.value ∙ written in
    let tell = told_after c.deref-2.result.now after of.cpus alive window told two (same ∙ next.audit_is.count)
    (c.in_ok-told.ensures.told of.tasks so_far window (sym c.events.ensures) next.audit_is.book) in
    one_told of so_far window told _ (view_at (pages_of after))
    (not_none told (c.is_none.ensures ∙ ap not c.if-is_none.false)) tell
    (λ fault. fault_told of so_far window c.args.self.now next time line c.requires.some c.last_of-time.ensures after
    same
    (went_all window time line old.items c.deref_mut.result.now after c.deref_mut.ensures.value
    c.go_through_all.ensures)
    (calm_all c.deref.result.now after c.want_memory.result one c.if-want_memory.false c.want_memory.ensures)
    c.windows.ensures.fault fault)
