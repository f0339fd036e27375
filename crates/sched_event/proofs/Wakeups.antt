-- A wakeup's text, with and without `success`: what is read is so, and what is so is read.
use Rattle.std.proofs.Common.{◌≡◌, ℕ, List, [], ◌++◌, Option, Some, None, refl, ap, subst, ◌∙◌, lit≤}
use Rattle.std.specs.Prelude.{codes, IfSome}
use Rattle.text_parts.specs.Numerals.{IsNumeral, is_digit}
use Rattle.sched_event.specs.Texts.{Prio, prio_text, WakeupText, IsWakeupText, success_text}
use Rattle.text_parts.specs.Reading.{after_text}
use Rattle.sched_event.specs.Reading.{numeral_behind, or_nothing, optional_behind, prio_behind, name_behind, wakeup_at}
use Rattle.text_parts.proofs.Runs.{at_end_taken, Stops, bind_some}
use Rattle.text_parts.proofs.Fronts.{begins_own}
use Rattle.sched_event.proofs.Alone.{IsAlone, alone_three, prio_dark, prio_some}
use Rattle.sched_event.proofs.Keyed.{numeral_behind_takes, numeral_behind_again, numeral_last, prio_behind_takes}
use Rattle.sched_event.proofs.Keyed.{prio_behind_again, name_behind_takes, name_behind_again, followed_by, ends}

-- ---- the field that may be left out

-- what was read of it, and what follows it
record Optional (text : List ℕ) (digits : Option (List ℕ)) (rest : List ℕ) : Type 0 where
  pub numeral : IfSome digits IsNumeral
  pub parts : text ≡ success_text digits ++ rest

optional_takes : (text : List ℕ) → Optional text (optional_behind (codes " success=") text).0
    (optional_behind (codes " success=") text).1
unfolding optional_behind
optional_takes text = by_read (numeral_behind (codes " success=") text) refl
  where
    by_read : (read : Option (List ℕ × List ℕ)) → numeral_behind (codes " success=") text ≡ read
        → Optional text (or_nothing text read).0 (or_nothing text read).1
    by_read None e = record { numeral = tt; parts = refl }
    by_read (Some read) e = let takes = numeral_behind_takes (codes " success=") text read.0 read.1 e in
        record { numeral = takes.0; parts = takes.1.parts }

optional_again : (digits : Option (List ℕ)) (target : List ℕ) → IfSome digits IsNumeral
    → optional_behind (codes " success=") (success_text digits
    ++ (codes " target_cpu=" ++ target)) ≡ (digits, codes " target_cpu=" ++ target)
unfolding optional_behind numeral_behind after_text
optional_again None target numeral = refl
optional_again (Some digits) target numeral =
    ap (or_nothing (codes " success=" ++ (digits ++ (codes " target_cpu=" ++ target))))
    (numeral_behind_again (codes " success=") digits (codes " target_cpu=" ++ target) numeral refl)

-- ---- the whole text

-- a wakeup's text from its pid on
abbrev from_pid : WakeupText → List ℕ
from_pid t = codes " pid=" ++ (t.pid ++ (codes " prio="
    ++ (prio_text t.prio ++ (success_text t.success ++ (codes " target_cpu=" ++ t.target)))))

pid_alone : (pid : List ℕ) (prio : Prio) (success : Option (List ℕ)) (target : List ℕ) → IsNumeral pid
    → IsNumeral prio.digits
    → IsAlone (codes " pid=") (from_pid (record {
      name = [];
      pid = pid;
      prio = prio;
      success = success;
      target = target;
    }))
pid_alone pid prio None target numeral prio_numeral =
    alone_three (codes "pid=") pid (codes "prio=") (prio_text prio) (codes "target_cpu=") target
    refl numeral refl (prio_dark prio prio_numeral) (prio_some prio prio_numeral) refl refl refl (lit≤ tt)
pid_alone pid prio (Some digits) target numeral prio_numeral =
    alone_three (codes "pid=") pid (codes "prio=") (prio_text prio) (codes "success=") (digits
    ++ (codes " target_cpu=" ++ target))
    refl numeral refl (prio_dark prio prio_numeral) (prio_some prio prio_numeral) refl refl refl (lit≤ tt)

success_stops : (success : Option (List ℕ)) (target : List ℕ)
    → Stops is_digit (success_text success ++ (codes " target_cpu=" ++ target))
success_stops None target = refl
success_stops (Some digits) target = refl

-- the fields that were read one behind the other, and nothing behind them
record WakeupSteps (text : List ℕ) (t : WakeupText) : Type 0 where
  pub after1 : List ℕ
  pub after2 : List ℕ
  pub after3 : List ℕ
  pub after4 : List ℕ
  pub name : name_behind (codes "comm=") (codes " pid=") text ≡ Some (t.name, after1)
  pub pid : numeral_behind (codes " pid=") after1 ≡ Some (t.pid, after2)
  pub prio : prio_behind (codes " prio=") after2 ≡ Some (t.prio, after3)
  pub success : optional_behind (codes " success=") after3 ≡ (t.success, after4)
  pub target : numeral_behind (codes " target_cpu=") after4 ≡ Some (t.target, [])

wakeup_from : (text : List ℕ) (t : WakeupText) → WakeupSteps text t → wakeup_at text ≡ Some t
unfolding wakeup_at
wakeup_from text t steps = rw (steps.name, steps.pid, steps.prio, steps.success, steps.target) refl

pub wakeup_again : (rest : List ℕ) (t : WakeupText) → IsWakeupText rest t → wakeup_at rest ≡ Some t
wakeup_again rest t is =
    let after4 : List ℕ = codes " target_cpu=" ++ t.target in
    let after3 : List ℕ = success_text t.success ++ after4 in
    let after2 : List ℕ = codes " prio=" ++ (prio_text t.prio ++ after3) in
    let after1 : List ℕ = codes " pid=" ++ (t.pid ++ after2) in
    ap wakeup_at is.whole ∙ wakeup_from (codes "comm=" ++ (t.name ++ after1)) t (record {
      after1 = after1;
      after2 = after2;
      after3 = after3;
      after4 = after4;
      name = name_behind_again (codes "comm=") (codes " pid=") t.name after1 is.name
          (begins_own (codes " pid=") (t.pid ++ after2)) (pid_alone t.pid t.prio t.success t.target is.pid is.prio);
      pid = numeral_behind_again (codes " pid=") t.pid after2 is.pid refl;
      prio = prio_behind_again (codes " prio=") t.prio after3 is.prio (success_stops t.success t.target);
      success = optional_again t.success t.target is.success;
      target = numeral_last (codes " target_cpu=") t.target is.target;
    })

wakeup_steps : (text : List ℕ) (t : WakeupText) → wakeup_at text ≡ Some t → WakeupSteps text t
unfolding wakeup_at
wakeup_steps text t e =
    let a = bind_some _ _ t e in
    let b = bind_some _ _ t a.2 in
    let c = bind_some _ _ t b.2 in
    let d = bind_some _ _ t c.2 in
    let success = optional_behind (codes " success=") c.0.1 in
    let made : WakeupText = record { name = a.0.0; pid = b.0.0; prio = c.0.0; success = success.0; target = d.0.0 } in
    let whole = at_end_taken d.0.1 made t d.2 in
    let last : numeral_behind (codes " target_cpu=") success.1 ≡ Some (d.0.0, []) = d.1
    ∙ ap (λ (after : List ℕ). Some (d.0.0, after)) whole.0 in
    subst (WakeupSteps text) whole.1 (record {
      after1 = a.0.1;
      after2 = b.0.1;
      after3 = c.0.1;
      after4 = success.1;
      name = a.1;
      pid = b.1;
      prio = c.1;
      success = refl;
      target = last;
    })

pub wakeup_takes : (rest : List ℕ) (t : WakeupText) → wakeup_at rest ≡ Some t → IsWakeupText rest t
wakeup_takes rest t e =
    let steps = wakeup_steps rest t e in
    let a = name_behind_takes (codes "comm=") (codes " pid=") rest t.name steps.after1 steps.name in
    let b = numeral_behind_takes (codes " pid=") steps.after1 t.pid steps.after2 steps.pid in
    let c = prio_behind_takes (codes " prio=") steps.after2 t.prio steps.after3 steps.prio in
    let d : Optional steps.after3 t.success steps.after4 =
    subst (λ (read : Option (List ℕ) × List ℕ). Optional steps.after3 read.0 read.1) steps.success
    (optional_takes steps.after3) in
    let f = numeral_behind_takes (codes " target_cpu=") steps.after4 t.target [] steps.target in
    let target : steps.after3 ≡ success_text t.success ++ (codes " target_cpu=" ++ t.target) = d.parts
    ∙ ap (λ (after : List ℕ). success_text t.success ++ after) (ends f.1) in
    record {
      name = a.0;
      pid = b.0;
      prio = c.0;
      success = d.numeral;
      target = f.0;
      whole = followed_by a.1 (followed_by b.1 (followed_by c.1 target));
    }
