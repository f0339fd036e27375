-- A migration's text: what is read is so, and what is so is read.
use Rattle.std.proofs.Common.{◌≡◌, ℕ, List, [], ◌++◌, Some, refl, ap, subst, ◌∙◌, lit≤}
use Rattle.std.specs.Prelude.{codes}
use Rattle.sched_event.specs.Texts.{prio_text, MigrationText, IsMigrationText}
use Rattle.sched_event.specs.Reading.{numeral_behind, prio_behind, name_behind, migration_at}
use Rattle.text_parts.proofs.Fronts.{begins_own}
use Rattle.sched_event.proofs.Alone.{alone_three, prio_dark, prio_some}
use Rattle.text_parts.proofs.Runs.{bind_some, at_end_taken}
use Rattle.sched_event.proofs.Keyed.{numeral_behind_takes, numeral_behind_again, numeral_last, prio_behind_takes}
use Rattle.sched_event.proofs.Keyed.{prio_behind_again, name_behind_takes, name_behind_again, followed_by, ends}

-- the fields that were read one behind the other, and nothing behind them
pub record MigrationSteps (text : List ℕ) (t : MigrationText) : Type 0 where
  pub after1 : List ℕ
  pub after2 : List ℕ
  pub after3 : List ℕ
  pub after4 : List ℕ
  pub name : name_behind (codes "comm=") (codes " pid=") text ≡ Some (t.name, after1)
  pub pid : numeral_behind (codes " pid=") after1 ≡ Some (t.pid, after2)
  pub prio : prio_behind (codes " prio=") after2 ≡ Some (t.prio, after3)
  pub orig : numeral_behind (codes " orig_cpu=") after3 ≡ Some (t.orig, after4)
  pub dest : numeral_behind (codes " dest_cpu=") after4 ≡ Some (t.dest, [])

migration_from : (text : List ℕ) (t : MigrationText) → MigrationSteps text t → migration_at text ≡ Some t
unfolding migration_at
migration_from text t steps = rw (steps.name, steps.pid, steps.prio, steps.orig, steps.dest) refl

pub migration_again : (rest : List ℕ) (t : MigrationText) → IsMigrationText rest t → migration_at rest ≡ Some t
migration_again rest t is =
    let after4 : List ℕ = codes " dest_cpu=" ++ t.dest in
    let after3 : List ℕ = codes " orig_cpu=" ++ (t.orig ++ after4) in
    let after2 : List ℕ = codes " prio=" ++ (prio_text t.prio ++ after3) in
    let after1 : List ℕ = codes " pid=" ++ (t.pid ++ after2) in
    ap migration_at is.whole ∙ migration_from (codes "comm=" ++ (t.name ++ after1)) t (record {
      after1 = after1;
      after2 = after2;
      after3 = after3;
      after4 = after4;
      name = name_behind_again (codes "comm=") (codes " pid=") t.name after1 is.name
          (begins_own (codes " pid=") (t.pid ++ after2))
          (alone_three (codes "pid=") t.pid (codes "prio=") (prio_text t.prio) (codes "orig_cpu=") (t.orig ++ after4)
          refl is.pid refl (prio_dark t.prio is.prio) (prio_some t.prio is.prio) refl refl refl (lit≤ tt));
      pid = numeral_behind_again (codes " pid=") t.pid after2 is.pid refl;
      prio = prio_behind_again (codes " prio=") t.prio after3 is.prio refl;
      orig = numeral_behind_again (codes " orig_cpu=") t.orig after4 is.orig refl;
      dest = numeral_last (codes " dest_cpu=") t.dest is.dest;
    })

migration_steps : (text : List ℕ) (t : MigrationText) → migration_at text ≡ Some t → MigrationSteps text t
unfolding migration_at
migration_steps text t e =
    let a = bind_some _ _ t e in
    let b = bind_some _ _ t a.2 in
    let c = bind_some _ _ t b.2 in
    let d = bind_some _ _ t c.2 in
    let f = bind_some _ _ t d.2 in
    let made : MigrationText = record { name = a.0.0; pid = b.0.0; prio = c.0.0; orig = d.0.0; dest = f.0.0 } in
    let whole = at_end_taken f.0.1 made t f.2 in
    let last : numeral_behind (codes " dest_cpu=") d.0.1 ≡ Some (f.0.0, []) = f.1
    ∙ ap (λ (after : List ℕ). Some (f.0.0, after)) whole.0 in
    subst (MigrationSteps text) whole.1 (record {
      after1 = a.0.1;
      after2 = b.0.1;
      after3 = c.0.1;
      after4 = d.0.1;
      name = a.1;
      pid = b.1;
      prio = c.1;
      orig = d.1;
      dest = last;
    })

pub migration_takes : (rest : List ℕ) (t : MigrationText) → migration_at rest ≡ Some t → IsMigrationText rest t
migration_takes rest t e =
    let steps = migration_steps rest t e in
    let a = name_behind_takes (codes "comm=") (codes " pid=") rest t.name steps.after1 steps.name in
    let b = numeral_behind_takes (codes " pid=") steps.after1 t.pid steps.after2 steps.pid in
    let c = prio_behind_takes (codes " prio=") steps.after2 t.prio steps.after3 steps.prio in
    let d = numeral_behind_takes (codes " orig_cpu=") steps.after3 t.orig steps.after4 steps.orig in
    let f = numeral_behind_takes (codes " dest_cpu=") steps.after4 t.dest [] steps.dest in
    record {
      name = a.0;
      pid = b.0;
      prio = c.0;
      orig = d.0;
      dest = f.0;
      whole = followed_by a.1 (followed_by b.1 (followed_by c.1 (followed_by d.1 (ends f.1))));
    }
