-- Pids that are named one after the other: each once, in the order in which they were named first.
use Rattle.std.proofs.Common.{◌≡◌, ◌≢◌, ℕ, zero, suc, ◌+◌, ◌<◌, Bool, true, false, not, ◌||◌, cond, eqb, List, [], ◌∷◌}
use Rattle.std.proofs.Common.{◌++◌, Some, None, All, length, map, take, get_or, inl, inr, refl, sym, ap, ◌∙◌, arith}
use Rattle.std.proofs.Common.{append_assoc}
use Rattle.std.specs.Prelude.{filter}
use Rattle.std.specs.List.{list_any}
use Rattle.std.proofs.lemmas.Bool.{cond-false, cond-true, eq-eqb, ne_eqb}
use Rattle.std.proofs.lemmas.List.{append-nil, flat_map_more, map-append, take_more}
use Rattle.std.proofs.lemmas.List.Elements.{All-head, All-tail, filter-append}
use Rattle.cfs_model.proofs.Moves.{same_or_not}
use Rattle.cfs_model.specs.Claimed.{claimed}
use Rattle.cfs_model.specs.declared.act.Entry.{Entry}
use Rattle.cfs_model.specs.declared.claim.Claim.{Claim}
use Rattle.cfs_model.specs.declared.charge_line.ChargeLine.{ChargeLine}
use Rattle.cfs_model.specs.declared.nice_line.NiceLine.{NiceLine}
use Rattle.cfs_model.specs.declared.policy.Policy.{Policy}
use Rattle.pid_table.specs.Rows.{index_in}
use Rattle.pid_table.proofs.Indices.{pid_nowhere, pid_there}
use Rattle.replay_model.specs.Summary.{born_by, born_in, each_once, tasks_of_run}
use Rattle.sched_record.specs.RecordView.{RecordView, policy_of}
use Rattle.waiting_times.specs.Naming.{births_in, with_pid, with_pids}
use Rattle.waiting_times.specs.Waits.{said_events}

-- whether a pid is among some
abbrev pub names_pid : List ℕ → ℕ → Bool
names_pid pids pid = list_any (λ other. eqb other pid) pids

abbrev but : ℕ → List ℕ → List ℕ
but pid pids = filter (λ other. not (eqb other pid)) pids

any_at : (pids : List ℕ) (pid i d : ℕ) → i < length pids → get_or pids i d ≡ pid → names_pid pids pid ≡ true
any_at [] pid i d h e = absurd (omega arith)
any_at (x ∷ xs) pid zero d h e = ap (λ b. b || names_pid xs pid) (eq-eqb x pid e)
any_at (x ∷ xs) pid (suc i) d h e = ap (λ b. eqb x pid || b) (any_at xs pid i d (omega arith) e) ∙ or_true (eqb x pid)
  where
    or_true : (b : Bool) → (b || true) ≡ true
    or_true true = refl
    or_true false = refl

any_none : (pids : List ℕ) (pid : ℕ) → All (λ other. other ≢ pid) pids → names_pid pids pid ≡ false
any_none [] pid none = refl
any_none (x ∷ xs) pid none =
    ap (λ b. b || names_pid xs pid) (ne_eqb x pid (All-head (λ other. other ≢ pid) x xs none))
    ∙ any_none xs pid (All-tail (λ other. other ≢ pid) x xs none)

-- a pid that has an index stays, and one that has none comes behind the others
pub named_there : (pids : List ℕ) (pid i : ℕ) → index_in pids pid ≡ Some i → i < length pids
    → pids ≡ with_pid pid pids
named_there pids pid i is h =
    sym (cond-true (names_pid pids pid) pids (pids ++ pid ∷ []) (any_at pids pid i 0 h (pid_there pids pid i 0 is)))

pub named_last : (pids : List ℕ) (pid : ℕ) → index_in pids pid ≡ None → pids ++ pid ∷ [] ≡ with_pid pid pids
named_last pids pid none =
    sym (cond-false (names_pid pids pid) pids (pids ++ pid ∷ []) (any_none pids pid (pid_nowhere pids pid none)))

-- some pids, and then others
both_named : (xs ys pids : List ℕ) → with_pids ys (with_pids xs pids) ≡ with_pids (xs ++ ys) pids
both_named [] ys pids = refl
both_named (x ∷ xs) ys pids = both_named xs ys (with_pid x pids)

-- one more, along a list
pub one_more_named : {X : Type 0} (pid_of : X → ℕ) (xs : List X) (i : ℕ) (x : X) (old now after : List ℕ)
    → i < length xs → x ≡ get_or xs i x → now ≡ with_pids (map pid_of (take i xs)) old
    → after ≡ with_pid (pid_of x) now → after ≡ with_pids (map pid_of (take (i + 1) xs)) old
one_more_named pid_of xs i x old now after within is first second =
    second ∙ ap (with_pid (pid_of x)) first ∙ both_named (map pid_of (take i xs)) (pid_of x ∷ []) old
    ∙ ap (λ pids. with_pids pids old)
    (sym (map-append pid_of (take i xs) (x ∷ []))
    ∙ ap (map pid_of) (ap (λ y. take i xs ++ y ∷ []) is ∙ sym (take_more xs i x within)))

-- one event more
pub births_more : (events : List Entry) (i : ℕ) (event : Entry) (old now after : List ℕ) → i < length events
    → event ≡ get_or events i event → now ≡ with_pids (births_in (take i events)) old
    → after ≡ with_pids (born_by event.act) now → after ≡ with_pids (births_in (take (i + 1) events)) old
births_more events i event old now after within is first second =
    second ∙ ap (with_pids (born_by event.act)) first
    ∙ both_named (births_in (take i events)) (born_by event.act) old
    ∙ ap (λ pids. with_pids pids old)
    (flat_map_more (λ (e : Entry). born_by e.act) [] (take i events) event
    ∙ ap births_in (ap (λ e. take i events ++ e ∷ []) is ∙ sym (take_more events i event within)))

births_claimed : (claims : List Claim) (nices : List NiceLine) (charges : List ChargeLine) (policy : Entry
    → Policy) (events : List Entry)
    → births_in events ≡ born_in (claimed claims nices charges policy events)
births_claimed claims nices charges policy [] = refl
births_claimed claims nices charges policy (event ∷ events) = ap (λ pids. born_by event.act
    ++ pids) (births_claimed claims nices charges policy events)

has_but : (pids : List ℕ) (taken pid : ℕ) → taken ≢ pid → names_pid (but taken pids) pid ≡ names_pid pids pid
has_but [] taken pid ne = refl
has_but (x ∷ xs) taken pid ne = elim (same_or_not x taken) [
  | inl same ↦ ap (λ b. names_pid (cond (not b) (x ∷ but taken xs) (but taken xs)) pid) (eq-eqb x taken same)
      ∙ has_but xs taken pid ne ∙ ap (λ b. b || names_pid xs pid) (sym (ne_eqb x pid (λ e. ne (sym same ∙ e))))
  | inr other ↦ ap (λ b. names_pid (cond (not b) (x ∷ but taken xs) (but taken xs)) pid) (ne_eqb x taken other)
      ∙ ap (λ b. eqb x pid || b) (has_but xs taken pid ne)
]

has_once : (pids : List ℕ) (pid : ℕ) → names_pid (each_once pids) pid ≡ names_pid pids pid
has_once [] pid = refl
has_once (x ∷ xs) pid = elim (same_or_not x pid) [
  | inl same ↦ ap (λ b. b || names_pid (but x (each_once xs)) pid) (eq-eqb x pid same)
      ∙ ap (λ b. b || names_pid xs pid) (sym (eq-eqb x pid same))
  | inr ne ↦ ap (λ b. eqb x pid || b) (has_but (each_once xs) x pid ne ∙ has_once xs pid)
]

but_at : (b : Bool) (pids : List ℕ) (x pid : ℕ) → x ≡ pid → but x (cond b pids (pids ++ pid ∷ [])) ≡ but x pids
but_at true pids x pid same = refl
but_at false pids x pid same =
    filter-append (λ other. not (eqb other x)) pids (pid ∷ [])
    ∙ ap (λ b. but x pids ++ cond (not b) (pid ∷ []) []) (eq-eqb pid x (sym same)) ∙ append-nil (but x pids)

but_other : (b : Bool) (pids : List ℕ) (x pid : ℕ) → x ≢ pid
    → but x (cond b pids (pids ++ pid ∷ [])) ≡ cond b (but x pids) (but x pids ++ pid ∷ [])
but_other true pids x pid ne = refl
but_other false pids x pid ne =
    filter-append (λ other. not (eqb other x)) pids (pid ∷ [])
    ∙ ap (λ b. but x pids ++ cond (not b) (pid ∷ []) []) (ne_eqb pid x (λ e. ne (sym e)))

cons_or : (b : Bool) (x pid : ℕ) (pids : List ℕ)
    → x ∷ cond b pids (pids ++ pid ∷ []) ≡ cond b (x ∷ pids) (x ∷ pids ++ pid ∷ [])
cons_or true x pid pids = refl
cons_or false x pid pids = refl

-- one pid more at the end
each_once_push : (pids : List ℕ) (pid : ℕ)
    → each_once (pids ++ pid ∷ []) ≡ cond (names_pid pids pid) (each_once pids) (each_once pids ++ pid ∷ [])
each_once_push [] pid = refl
each_once_push (x ∷ xs) pid = elim (same_or_not x pid) [
  | inl same ↦ ap (λ pids. x ∷ but x pids) (each_once_push xs pid)
      ∙ ap (λ pids. x ∷ pids) (but_at (names_pid xs pid) (each_once xs) x pid same)
      ∙ ap (λ b. cond (b || names_pid xs pid) (each_once (x ∷ xs)) (each_once (x ∷ xs) ++ pid ∷ []))
      (sym (eq-eqb x pid same))
  | inr ne ↦ ap (λ pids. x ∷ but x pids) (each_once_push xs pid)
      ∙ ap (λ pids. x ∷ pids) (but_other (names_pid xs pid) (each_once xs) x pid ne)
      ∙ cons_or (names_pid xs pid) x pid (but x (each_once xs))
      ∙ ap (λ b. cond (b || names_pid xs pid) (each_once (x ∷ xs)) (each_once (x ∷ xs) ++ pid ∷ []))
      (sym (ne_eqb x pid ne))
]

once_named : (pids : List ℕ) (pid : ℕ) → with_pid pid (each_once pids) ≡ each_once (pids ++ pid ∷ [])
once_named pids pid =
    ap (λ b. cond b (each_once pids) (each_once pids ++ pid ∷ [])) (has_once pids pid)
    ∙ sym (each_once_push pids pid)

all_named : (pids done : List ℕ) → with_pids pids (each_once done) ≡ each_once (done ++ pids)
all_named [] done = ap each_once (sym (append-nil done))
all_named (pid ∷ pids) done =
    ap (with_pids pids) (once_named done pid) ∙ all_named pids (done ++ pid ∷ [])
    ∙ ap each_once (append_assoc done (pid ∷ []) pids)

-- the tasks of a record, named in turn, are those of its run
pub tasks_named : (r : RecordView) (none start all : List ℕ) → none ≡ []
    → start ≡ with_pids (map (λ task. task.pid) r.tasks) none → all ≡ with_pids (births_in r.events) start
    → all ≡ tasks_of_run r.tasks (said_events r)
tasks_named r none start all empty first second =
    second ∙ ap (with_pids (births_in r.events)) (first ∙ ap (with_pids (map (λ task. task.pid) r.tasks)) empty)
    ∙ both_named (map (λ task. task.pid) r.tasks) (births_in r.events) []
    ∙ all_named (map (λ task. task.pid) r.tasks ++ births_in r.events) []
    ∙ ap (λ births. each_once (map (λ task. task.pid) r.tasks ++ births))
    (births_claimed r.claims r.nices r.charges (policy_of r) r.events)
