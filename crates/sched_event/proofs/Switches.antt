-- A switch's text: what is read is so, and what is so is read.
use Rattle.std.proofs.Common.{◌≡◌, ℕ, List, [], ◌++◌, Some, refl, ap, subst, ◌∙◌, lit≤}
use Rattle.std.specs.Prelude.{codes}
use Rattle.sched_event.specs.Texts.{prio_text, SwitchText, IsSwitchText}
use Rattle.sched_event.specs.Reading.{numeral_behind, state_behind, prio_behind, name_behind, switch_at}
use Rattle.text_parts.proofs.Fronts.{begins_own}
use Rattle.sched_event.proofs.Alone.{alone_two}
use Rattle.text_parts.proofs.Runs.{bind_some, at_end_taken}
use Rattle.sched_event.proofs.Keyed.{numeral_behind_takes, numeral_behind_again, state_behind_takes, state_behind_again}
use Rattle.sched_event.proofs.Keyed.{prio_behind_takes, prio_behind_again, prio_last, name_behind_takes}
use Rattle.sched_event.proofs.Keyed.{name_behind_again, followed_by, ends}

-- the fields that were read one behind the other, and nothing behind them
pub record SwitchSteps (text : List ℕ) (t : SwitchText) : Type 0 where
  pub after1 : List ℕ
  pub after2 : List ℕ
  pub after3 : List ℕ
  pub after4 : List ℕ
  pub after5 : List ℕ
  pub after6 : List ℕ
  pub prev_name : name_behind (codes "prev_comm=") (codes " prev_pid=") text ≡ Some (t.prev_name, after1)
  pub prev : numeral_behind (codes " prev_pid=") after1 ≡ Some (t.prev, after2)
  pub prev_prio : prio_behind (codes " prev_prio=") after2 ≡ Some (t.prev_prio, after3)
  pub prev_state : state_behind (codes " prev_state=") after3 ≡ Some (t.prev_state, after4)
  pub next_name : name_behind (codes " ==> next_comm=") (codes " next_pid=") after4 ≡ Some (t.next_name, after5)
  pub next : numeral_behind (codes " next_pid=") after5 ≡ Some (t.next, after6)
  pub next_prio : prio_behind (codes " next_prio=") after6 ≡ Some (t.next_prio, [])

pub switch_from : (text : List ℕ) (t : SwitchText) → SwitchSteps text t → switch_at text ≡ Some t
unfolding switch_at
switch_from text t steps = rw (
  steps.prev_name,
  steps.prev,
  steps.prev_prio,
  steps.prev_state,
  steps.next_name,
  steps.next,
  steps.next_prio,
) refl

pub switch_again : (rest : List ℕ) (t : SwitchText) → IsSwitchText rest t → switch_at rest ≡ Some t
switch_again rest t is =
    let after6 : List ℕ = codes " next_prio=" ++ prio_text t.next_prio in
    let after5 : List ℕ = codes " next_pid=" ++ (t.next ++ after6) in
    let after4 : List ℕ = codes " ==> next_comm=" ++ (t.next_name ++ after5) in
    let after3 : List ℕ = codes " prev_state=" ++ (t.prev_state ++ after4) in
    let after2 : List ℕ = codes " prev_prio=" ++ (prio_text t.prev_prio ++ after3) in
    let after1 : List ℕ = codes " prev_pid=" ++ (t.prev ++ after2) in
    ap switch_at is.whole ∙ switch_from (codes "prev_comm=" ++ (t.prev_name ++ after1)) t (record {
      after1 = after1;
      after2 = after2;
      after3 = after3;
      after4 = after4;
      after5 = after5;
      after6 = after6;
      prev_name = name_behind_again (codes "prev_comm=") (codes " prev_pid=") t.prev_name after1 is.prev_name
          (begins_own (codes " prev_pid=") (t.prev ++ after2))
          (alone_two (codes "prev_pid=") t.prev (codes "prev_prio=") (prio_text t.prev_prio ++ after3) refl is.prev refl
          refl (lit≤ tt));
      prev = numeral_behind_again (codes " prev_pid=") t.prev after2 is.prev refl;
      prev_prio = prio_behind_again (codes " prev_prio=") t.prev_prio after3 is.prev_prio refl;
      prev_state = state_behind_again (codes " prev_state=") t.prev_state after4 is.prev_state refl;
      next_name = name_behind_again (codes " ==> next_comm=") (codes " next_pid=") t.next_name after5 is.next_name
          (begins_own (codes " next_pid=") (t.next ++ after6))
          (alone_two (codes "next_pid=") t.next (codes "next_prio=") (prio_text t.next_prio) refl is.next refl refl
          (lit≤ tt));
      next = numeral_behind_again (codes " next_pid=") t.next after6 is.next refl;
      next_prio = prio_last (codes " next_prio=") t.next_prio is.next_prio;
    })

switch_steps : (text : List ℕ) (t : SwitchText) → switch_at text ≡ Some t → SwitchSteps text t
unfolding switch_at
switch_steps text t e =
    let a = bind_some _ _ t e in
    let b = bind_some _ _ t a.2 in
    let c = bind_some _ _ t b.2 in
    let d = bind_some _ _ t c.2 in
    let f = bind_some _ _ t d.2 in
    let g = bind_some _ _ t f.2 in
    let h = bind_some _ _ t g.2 in
    let made : SwitchText = record {
      prev_name = a.0.0;
      prev = b.0.0;
      prev_prio = c.0.0;
      prev_state = d.0.0;
      next_name = f.0.0;
      next = g.0.0;
      next_prio = h.0.0;
    } in
    let whole = at_end_taken h.0.1 made t h.2 in
    let last : prio_behind (codes " next_prio=") g.0.1 ≡ Some (h.0.0, []) = h.1
    ∙ ap (λ (after : List ℕ). Some (h.0.0, after)) whole.0 in
    subst (SwitchSteps text) whole.1 (record {
      after1 = a.0.1;
      after2 = b.0.1;
      after3 = c.0.1;
      after4 = d.0.1;
      after5 = f.0.1;
      after6 = g.0.1;
      prev_name = a.1;
      prev = b.1;
      prev_prio = c.1;
      prev_state = d.1;
      next_name = f.1;
      next = g.1;
      next_prio = last;
    })

pub switch_takes : (rest : List ℕ) (t : SwitchText) → switch_at rest ≡ Some t → IsSwitchText rest t
switch_takes rest t e =
    let steps = switch_steps rest t e in
    let a = name_behind_takes (codes "prev_comm=") (codes " prev_pid=") rest t.prev_name steps.after1 steps.prev_name in
    let b = numeral_behind_takes (codes " prev_pid=") steps.after1 t.prev steps.after2 steps.prev in
    let c = prio_behind_takes (codes " prev_prio=") steps.after2 t.prev_prio steps.after3 steps.prev_prio in
    let d = state_behind_takes (codes " prev_state=") steps.after3 t.prev_state steps.after4 steps.prev_state in
    let f = name_behind_takes (codes " ==> next_comm=") (codes " next_pid=") steps.after4 t.next_name steps.after5
    steps.next_name in
    let g = numeral_behind_takes (codes " next_pid=") steps.after5 t.next steps.after6 steps.next in
    let h = prio_behind_takes (codes " next_prio=") steps.after6 t.next_prio [] steps.next_prio in
    record {
      prev_name = a.0;
      prev = b.0;
      prev_prio = c.0;
      prev_state = d.0;
      next_name = f.0;
      next = g.0;
      next_prio = h.0;
      whole = followed_by a.1 (followed_by b.1 (followed_by c.1
          (followed_by d.1 (followed_by f.1 (followed_by g.1 (ends h.1))))));
    }
